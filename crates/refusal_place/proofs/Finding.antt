-- The byte of a refusal, in the words of the code. Assumes nothing.
use Prim.Native.Nat.{ℕ, suc, ◌+◌, ◌*◌, ◌-◌, ◌≤◌, ◌<◌}
use mathlib.Core.Path.{◌≡◌, sym, ap, ◌∙◌}
use mathlib.Core.List.{List}
use mathlib.Core.Bool.{Bool, true, false, cond, not, ◌&&◌}
use native.Mathlib.Omega.{arith}
use borrow.Author.Tests.{le-leb, lt-leb, eq-eqb, ne_eqb}
use lib.Dec.{leb, eqb}
use lib.ListN.{get_or}
use Rattle.table.specs.Table.{word, count_of}
use Rattle.refusal_place.specs.Place.{attribute_byte, event_byte, root_from, root_byte, byte_of}

-- ---- the root element
-- no Start and no Empty stands before event i
pub record Looking (events : List ℕ) (i : ℕ) : Type 0 where
  pub high : i ≤ count_of events
  pub same : root_byte events ≡ root_from events (count_of events - i) i

pub looking-start : (events : List ℕ) → Looking events 0
looking-start events = record { high = omega arith; same = let z : count_of events ≡ count_of events - 0 = omega arith in ap (λ (n : ℕ). root_from events n 0) z }

module _ {events : List ℕ} {i : ℕ} (l : Looking events i) where
  pub looking-none : count_of events ≤ i → 4294967295 ≡ root_byte events
  unfolding root_from
  looking-none h = let z : count_of events - i ≡ 0 = omega arith in sym (l.same ∙ ap (λ (n : ℕ). root_from events n i) z)

  module _ (h : i < count_of events) (k : ℕ) (e : k ≡ get_or events (i * 5) 0) where
    turn : (b : Bool) → leb k 1 ≡ b → root_byte events ≡ cond b (word events i 1) (root_from events (count_of events - (i + 1)) (i + 1))
    unfolding root_from
    turn b q =
        let z : count_of events - i ≡ suc (count_of events - (i + 1)) = omega arith in
        let first : i * 5 + 0 ≡ i * 5 = omega arith in
        let y : word events i 0 ≡ k = ap (λ (n : ℕ). get_or events n 0) first ∙ sym e in
        l.same ∙ ap (λ (n : ℕ). root_from events n i) z
        ∙ ap (λ (m : ℕ). cond (leb m 1) (word events i 1) (root_from events (count_of events - (i + 1)) (i + 1))) y
        ∙ ap (λ (c : Bool). cond c (word events i 1) (root_from events (count_of events - (i + 1)) (i + 1))) q

    pub looking-more : 1 < k → Looking events (i + 1)
    looking-more g = record { high = omega arith; same = turn false (lt-leb k 1 g) }

    pub looking-found : k ≤ 1 → (n : ℕ) → n ≡ word events i 1 → n ≡ root_byte events
    looking-found g n q = q ∙ sym (turn true (le-leb k 1 g))

-- ---- all
module _ (missing : Bool) (event attribute : ℕ) (events attributes : List ℕ) (size : ℕ) where
  abbrev whole : ℕ
  whole = byte_of missing event attribute events attributes size

  abbrev behind-root : ℕ
  behind-root = cond (eqb event 4294967295) 4294967295 (event_byte events size event)

  pub at-attribute : (attribute ≡ 4294967295 → ⊥) → (n : ℕ) → n ≡ attribute_byte attributes attribute → n ≡ whole
  unfolding byte_of
  at-attribute z n q =
      q ∙ sym (ap (λ (b : Bool). cond b (cond (missing && not (eqb (root_byte events) 4294967295)) (root_byte events) behind-root) (attribute_byte attributes attribute)) (ne_eqb attribute 4294967295 z))

  module _ (a : attribute ≡ 4294967295) (root : ℕ) (r : root ≡ root_byte events) where
    behind : whole ≡ cond (missing && not (eqb root 4294967295)) root behind-root
    unfolding byte_of
    behind =
        ap (λ (b : Bool). cond b (cond (missing && not (eqb (root_byte events) 4294967295)) (root_byte events) behind-root) (attribute_byte attributes attribute)) (eq-eqb attribute 4294967295 a)
        ∙ ap (λ (n : ℕ). cond (missing && not (eqb n 4294967295)) n behind-root) (sym r)

    pub at-root : (missing && not (eqb root 4294967295)) ≡ true → root ≡ whole
    at-root q = sym (behind ∙ ap (λ (b : Bool). cond b root behind-root) q)

    module _ (f : (missing && not (eqb root 4294967295)) ≡ false) where
      not_root : whole ≡ behind-root
      not_root = behind ∙ ap (λ (b : Bool). cond b root behind-root) f

      pub at_none : event ≡ 4294967295 → 4294967295 ≡ whole
      at_none q = sym (not_root ∙ ap (λ (b : Bool). cond b 4294967295 (event_byte events size event)) (eq-eqb event 4294967295 q))

      pub at-event : (event ≡ 4294967295 → ⊥) → (n : ℕ) → n ≡ event_byte events size event → n ≡ whole
      at-event q n p = p ∙ sym (not_root ∙ ap (λ (b : Bool). cond b 4294967295 (event_byte events size event)) (ne_eqb event 4294967295 q))
