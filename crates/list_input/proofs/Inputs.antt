-- An input is a table where its numbers say so. Assumes nothing.
use Prim.Native.Nat.{ℕ, ◌+◌, ◌*◌, ◌≤◌, ◌<◌}
use mathlib.Core.Path.{◌≡◌, refl, sym, ap, ◌∙◌}
use mathlib.Core.List.{List}
use mathlib.Core.Bool.{Bool, true, false, ◌&&◌, true≢false}
use mathlib.Core.Option.{none, some}
use native.Mathlib.Omega.{arith}
use borrow.Author.Tests.{le-leb, lt-leb, leb-true}
use lib.Dec.{leb}
use lib.ListN.{length, take, drop}
use lib.Seq.{take_at}
use Rattle.area.specs.Area.{laid}
use Rattle.area.proofs.Laying.{laid-fits}
use Rattle.list_input.specs.Input.{words_of, Table, events_in, attributes_in, source_in, attributes_at, source_at, whole, input_of, parts_in, events_left, attributes_left, found_of, Lies}
use Rattle.std.specs.Prelude.{Option, Some, None}
use Rattle.list_input.specs.declared.Parts.{Parts}
use Rattle.list_input.proofs.Filling.{length-words}

-- the tests behind the first
abbrev pub rest : ℕ → ℕ → ℕ → ℕ → ℕ → ℕ → Bool
rest m n size e a k = leb (e * 5) m && (leb (a * 5) n && (leb k 65536 && leb (12 + e * 20 + a * 20 + k) size))

both : (p q : Bool) → (p && q) ≡ true → (p ≡ true) × (q ≡ true)
both true q e = (refl, e)
both false q e = absurd (true≢false (sym e))

pub rest-true : (m n size e a k : ℕ) → rest m n size e a k ≡ true → (e * 5 ≤ m) × (a * 5 ≤ n) × (12 + e * 20 + a * 20 + k ≤ size)
rest-true m n size e a k h =
    let p = both (leb (e * 5) m) (leb (a * 5) n && (leb k 65536 && leb (12 + e * 20 + a * 20 + k) size)) h in
    let q = both (leb (a * 5) n) (leb k 65536 && leb (12 + e * 20 + a * 20 + k) size) p.1 in
    let r = both (leb k 65536) (leb (12 + e * 20 + a * 20 + k) size) q.1 in
    (leb-true (e * 5) m p.0, leb-true (a * 5) n q.0, leb-true (12 + e * 20 + a * 20 + k) size r.1)

module _ (m n : ℕ) (s : List ℕ) where
  -- the answer, and the two areas as they were and as they are
  abbrev Answered : Option Parts → (events events' attributes attributes' : List ℕ) → Type 0
  Answered r events events' attributes attributes' = (r ≡ parts_in m n s) × ((events' ≡ events_left (input_of m n s) events) × (attributes' ≡ attributes_left (input_of m n s) attributes))

  no-input : whole m n s ≡ false → (events attributes : List ℕ) → Answered None events events attributes attributes
  unfolding input_of parts_in
  no-input f events attributes = (rw f refl, (rw f refl, rw f refl))

  pub input-cut : length s < 12 → (events attributes : List ℕ) → Answered None events events attributes attributes
  unfolding whole
  input-cut h = no-input (rw (lt-leb 12 (length s) h) refl)

  module _ (e a k : ℕ) (he : e ≡ events_in s) (ha : a ≡ attributes_in s) (hk : k ≡ source_in s) (long : 12 ≤ length s) (b : Bool) (h : b ≡ rest m n (length s) e a k) where
    tested : whole m n s ≡ b
    unfolding whole
    tested = ap (λ (t : Bool). t && rest m n (length s) (events_in s) (attributes_in s) (source_in s)) (le-leb 12 (length s) long) ∙ sym (h ∙ rw (he, ha, hk) refl)

    pub input-not : b ≡ false → (events attributes : List ℕ) → Answered None events events attributes attributes
    input-not f = no-input (tested ∙ f)

    pub input-is : b ≡ true → (events events' attributes attributes' : List ℕ) → events' ≡ laid events (words_of (e * 5) (drop 12 s))
        → attributes' ≡ laid attributes (words_of (a * 5) (drop (12 + e * 20) s)) →
        Answered (Some (record { events = e * 5; attributes = a * 5; at = 12 + e * 20 + a * 20; source = k })) events events' attributes attributes'
    unfolding input_of parts_in
    input-is f events events' attributes attributes' p q = (rw (tested ∙ f, he, ha, hk) refl, (rw (tested ∙ f) (p ∙ rw he refl), rw (tested ∙ f) (q ∙ rw (he, ha) refl)))

-- the words at the front of an area
front : (k : ℕ) (area t : List ℕ) → k ≤ length area → take k (laid area (words_of k t)) ≡ words_of k t
front k area t h = rw (laid-fits area (words_of k t) (omega (arith, length-words k t))) (take_at (words_of k t) (drop (length (words_of k t)) area) k (length-words k t))

-- the parts that are answered lie in the areas and in the input, and hold the table
module _ (m n : ℕ) (s : List ℕ) where
  abbrev parts : Parts
  parts = record { events = events_in s * 5; attributes = attributes_in s * 5; at = source_at s; source = source_in s }

  abbrev table : Table
  table = record { events = words_of (events_in s * 5) (drop 12 s); attributes = words_of (attributes_in s * 5) (drop (attributes_at s) s); source = take (source_in s) (drop (source_at s) s) }

  is-parts : whole m n s ≡ true → parts_in m n s ≡ Some parts
  unfolding parts_in
  is-parts t = rw t refl

  is-table : whole m n s ≡ true → input_of m n s ≡ some table
  unfolding input_of
  is-table t = rw t refl

  not-parts : whole m n s ≡ false → parts_in m n s ≡ None
  unfolding parts_in
  not-parts t = rw t refl

  not_table : whole m n s ≡ false → input_of m n s ≡ none
  unfolding input_of
  not_table t = rw t refl

  bounds : whole m n s ≡ true → (events_in s * 5 ≤ m) × (attributes_in s * 5 ≤ n) × (source_at s + source_in s ≤ length s)
  unfolding whole
  bounds t = rest-true m n (length s) (events_in s) (attributes_in s) (source_in s) (both (leb 12 (length s)) (rest m n (length s) (events_in s) (attributes_in s) (source_in s)) t).1

  pub parts-lie : Lies (parts_in m n s) m n (length s)
  parts-lie = go (whole m n s) refl
    where
      go : (b : Bool) → whole m n s ≡ b → Lies (parts_in m n s) m n (length s)
      go true t = let r = bounds t in rw (is-parts t) (r.0, r.1, omega arith, r.2)
      go false t = rw (not-parts t) tt

  pub parts-found : (events attributes : List ℕ) → length events ≡ m → length attributes ≡ n
      → found_of (parts_in m n s) (events_left (input_of m n s) events) (attributes_left (input_of m n s) attributes) s ≡ input_of m n s
  parts-found events attributes p q = go (whole m n s) refl
    where
      go : (b : Bool) → whole m n s ≡ b → found_of (parts_in m n s) (events_left (input_of m n s) events) (attributes_left (input_of m n s) attributes) s ≡ input_of m n s
      go true t =
          let r = bounds t in
          rw (is-parts t, is-table t) (rw (front (events_in s * 5) events (drop 12 s) (omega arith), front (attributes_in s * 5) attributes (drop (attributes_at s) s) (omega arith)) refl)
      go false t = rw (not-parts t, not_table t) refl

-- of an answer and areas that are so; the areas have the lengths that they had
pub found-lies : (found : Option Parts) (m m' n n' : ℕ) (s : List ℕ) → found ≡ parts_in m n s → m' ≡ m → n' ≡ n → Lies found m' n' (length s)
found-lies found m m' n n' s e p q = rw (e, p, q) (parts-lie m n s)

-- the answer and the two areas together are the input's table, or none where it has none
pub found-table : (found : Option Parts) (events events' attributes attributes' s : List ℕ) → found ≡ parts_in (length events) (length attributes) s →
    events' ≡ events_left (input_of (length events) (length attributes) s) events → attributes' ≡ attributes_left (input_of (length events) (length attributes) s) attributes →
    found_of found events' attributes' s ≡ input_of (length events) (length attributes) s
found-table found events events' attributes attributes' s e p q = rw (e, p, q) (parts-found (length events) (length attributes) s events attributes refl refl)
