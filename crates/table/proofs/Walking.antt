-- Events are checked one after the other, up to the first bad one. Assumes nothing.
use Prim.Native.Nat.{ℕ, suc, ◌+◌, ◌-◌, ◌*◌, ◌≤◌, ◌<◌}
use mathlib.Core.Path.{◌≡◌, refl, sym, ap, ◌∙◌}
use mathlib.Core.List.{List}
use mathlib.Core.Bool.{Bool, true, false, cond, ◌&&◌, ◌||◌, and-eq-true_iff}
use native.Mathlib.Omega.{arith}
use borrow.Author.Tests.{leb-true, eqb-true, eq-eqb, ne_eqb}
use lib.ListN.{length, get_or, drop}
use lib.Dec.{leb, eqb}
use Rattle.table_parts.specs.of_refusal.Refusal.{nowhere}
use Rattle.table.specs.Table.{word, count_of, good_shape, good_sizes, bad_from, check_event, and_then, check_from, check_of, Checked, checked_answer, table_of}
use Rattle.std.specs.Prelude.{Ok, Err}
use Rattle.table.proofs.Words.{word_at}
use Rattle.table.proofs.Scanning.{bad-end, bad-high, bad-within}

-- event i by its words
module _ (events attributes : List ℕ) (size i : ℕ) (words : List ℕ) (front : words ≡ drop (i * 5) events) where
  shape_at : good_shape words (count_of attributes) size ≡ good_shape (drop (i * 5) events) (count_of attributes) size
  shape_at = ap (λ (w : List ℕ). good_shape w (count_of attributes) size) front

  pub event-misshapen : good_shape words (count_of attributes) size ≡ false → Err (i, nowhere) ≡ check_event events attributes size i
  unfolding check_event
  event-misshapen e =
      let bad = bad_from attributes size (word events i 4) (word events i 3) in
      sym (ap (λ (s : Bool). cond s (cond (eqb bad (word events i 3 + word events i 4)) (Ok tt) (Err (i, bad))) (Err (i, nowhere))) (sym shape_at ∙ e))

  module _ (shape : good_shape words (count_of attributes) size ≡ true) (first count : ℕ) (from : first ≡ get_or words 3 0) (many : count ≡ get_or words 4 0) where
    shaped : (t : Bool) → eqb (bad_from attributes size count first) (first + count) ≡ t → check_event events attributes size i ≡ cond t (Ok tt) (Err (i, bad_from attributes size count first))
    unfolding check_event
    shaped t e =
        let f : first ≡ word events i 3 = from ∙ ap (λ (w : List ℕ). get_or w 3 0) front ∙ sym (word_at events i 3) in
        let n : count ≡ word events i 4 = many ∙ ap (λ (w : List ℕ). get_or w 4 0) front ∙ sym (word_at events i 4) in
        let bad = bad_from attributes size (word events i 4) (word events i 3) in
        ap (λ (s : Bool). cond s (cond (eqb bad (word events i 3 + word events i 4)) (Ok tt) (Err (i, bad))) (Err (i, nowhere))) (sym shape_at ∙ shape)
        ∙ ap (λ (x : ℕ). cond (eqb (bad_from attributes size (word events i 4) x) (x + word events i 4)) (Ok tt) (Err (i, bad_from attributes size (word events i 4) x))) (sym f)
        ∙ ap (λ (x : ℕ). cond (eqb (bad_from attributes size x first) (first + x)) (Ok tt) (Err (i, bad_from attributes size x first))) (sym n)
        ∙ ap (λ (s : Bool). cond s (Ok tt) (Err (i, bad_from attributes size count first))) e

    pub event-passed : bad_from attributes size count first ≡ first + count → Ok tt ≡ check_event events attributes size i
    event-passed e = sym (shaped true (eq-eqb (bad_from attributes size count first) (first + count) e))

    -- without attributes, or with attributes within a range that was found good
    pub event-known : (lo hi : ℕ) → bad_from attributes size (hi - lo) lo ≡ hi → (eqb count 0 || (leb lo first && leb (first + count) hi)) ≡ true → Ok tt ≡ check_event events attributes size i
    event-known lo hi k e = go (eqb count 0) refl e
      where
        go : (t : Bool) → eqb count 0 ≡ t → (t || (leb lo first && leb (first + count) hi)) ≡ true → Ok tt ≡ check_event events attributes size i
        go true q p = let z = eqb-true count 0 q in event-passed (ap (λ (n : ℕ). bad_from attributes size n first) z ∙ bad-end attributes size first ∙ omega arith)
        go false q p = let r = (and-eq-true_iff (leb lo first) (leb (first + count) hi)).0 p in
            event-passed (bad-within attributes size lo hi first count k (leb-true lo first r.0) (leb-true (first + count) hi r.1))

    module _ (bad : ℕ) (found : bad ≡ bad_from attributes size (first + count - first) first) where
      it : bad ≡ bad_from attributes size count first
      it = let z : first + count - first ≡ count = omega arith in found ∙ ap (λ (n : ℕ). bad_from attributes size n first) z

      pub event-hit : bad < first + count → Err (i, bad) ≡ check_event events attributes size i
      event-hit h = sym (shaped false (ne_eqb (bad_from attributes size count first) (first + count) (λ e. let z = it in omega arith)) ∙ ap (λ (b : ℕ). Err (i, b)) (sym it))

      pub event-clear : first + count ≤ bad → (Ok tt ≡ check_event events attributes size i) × (bad_from attributes size (first + count - first) first ≡ first + count)
      event-clear h = let z : bad ≡ first + count = (let y = it in let m = bad-high attributes size count first in omega arith) in (event-passed (sym it ∙ z), sym found ∙ z)

-- an event that has attributes
pub has-attributes : (count : ℕ) (b : Bool) → (eqb count 0 || b) ≡ false → count ≡ 0 → ⊥
has-attributes count b e z = let q = eq-eqb count 0 z in let y : ◌≡◌ {A = ℕ} 0 1 = cc in omega arith

-- the events before i are good
pub record Walking (events attributes : List ℕ) (size n i : ℕ) : Type 0 where
  pub high : i ≤ n
  pub same : check_from events attributes size n 0 ≡ check_from events attributes size (n - i) i

pub walking_start : (events attributes : List ℕ) (size n : ℕ) → Walking events attributes size n 0
walking_start events attributes size n = record { high = omega arith; same = let z : n ≡ n - 0 = omega arith in ap (λ (m : ℕ). check_from events attributes size m 0) z }

module _ {events attributes : List ℕ} {size n i : ℕ} (w : Walking events attributes size n i) where
  turn : i < n → (c : Checked) → c ≡ check_event events attributes size i → check_from events attributes size n 0 ≡ and_then c (check_from events attributes size (n - (i + 1)) (i + 1))
  unfolding check_from
  turn h c e =
      let z : n - i ≡ suc (n - (i + 1)) = omega arith in
      w.same ∙ ap (λ (m : ℕ). check_from events attributes size m i) z ∙ ap (λ (d : Checked). and_then d (check_from events attributes size (n - (i + 1)) (i + 1))) (sym e)

  pub walking-more : i < n → Ok tt ≡ check_event events attributes size i → Walking events attributes size n (i + 1)
  walking-more h e = record { high = omega arith; same = turn h (Ok tt) e }

  pub walking-hit : i < n → (bad : ℕ × ℕ) → Err bad ≡ check_event events attributes size i → check_from events attributes size n 0 ≡ Err bad
  walking-hit h bad e = turn h (Err bad) e

  pub walking-done : n ≤ i → check_from events attributes size n 0 ≡ Ok tt
  unfolding check_from
  walking-done h = let z : n - i ≡ 0 = omega arith in w.same ∙ ap (λ (m : ℕ). check_from events attributes size m i) z

module _ (events attributes source : List ℕ) where
  pub table-sized : good_sizes (length events) (length attributes) (length source) ≡ true → (c : Checked)
      → check_from events attributes (length source) (count_of events) 0 ≡ c → checked_answer c ≡ table_of events attributes source
  unfolding check_of
  table-sized e c p = ap checked_answer (sym (ap (λ (b : Bool). cond b (check_from events attributes (length source) (count_of events) 0) (Err (nowhere, nowhere))) e ∙ p))

  pub table-missized : good_sizes (length events) (length attributes) (length source) ≡ false → checked_answer (Err (nowhere, nowhere)) ≡ table_of events attributes source
  unfolding check_of
  table-missized e = ap checked_answer (sym (ap (λ (b : Bool). cond b (check_from events attributes (length source) (count_of events) 0) (Err (nowhere, nowhere))) e))
