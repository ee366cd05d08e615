-- The name of an event. Assumes nothing.
use Prim.Native.Nat.{ℕ, zero, suc, ◌+◌, ◌-◌, ◌≤◌, ◌<◌}
use mathlib.Core.Path.{◌≡◌, refl, sym, ap, ◌∙◌}
use mathlib.Core.List.{List, [], ◌∷◌}
use mathlib.Core.Bool.{Bool, true, false, cond, ◌||◌, true≢false}
use mathlib.Core.Option.{none}
use native.Mathlib.Omega.{arith}
use borrow.Author.Tests.{ltb-true, ltb-false, leb-false, ne_eqb, eqb-false}
use lib.Dec.{ltb, leb, eqb}
use Rattle.table_events.specs.of_refusal.Refusal.{nowhere}
use Rattle.table_events.specs.of_names.Bytes.{bytes}
use Rattle.table_events.specs.of_names.Names.{same_bytes}
use Rattle.table_events.specs.of_table.Kinds as kind
use Rattle.table_events.specs.of_table.Table.{word, count_of}
use Rattle.table_events.specs.of_table.Event.{Attribute, Tag, End, Piece, Text, CData, Ref, Other, Indent, Eof, Fault, kind_at, bytes_at, key_at, value_at, attributes_from, event_of, event_at}
use Rattle.table_events.specs.inside.Ranges.{first_at, end_at}
use Rattle.table_events.proofs.Attributing.{ranged, range-order, range-attributes}
use Rattle.explain_text.specs.Explanation.{text_of, name_in, name_of, name_at}
use Rattle.explain_name.specs.inside.Found.{named_from}

-- ---- by the number of the attribute
module _ (attributes source : List ℕ) where
  named-found : (n j : ℕ) → named_from attributes source n j < j + n → name_in (attributes_from attributes source n j) ≡ text_of (value_at attributes source (named_from attributes source n j))
  unfolding named_from attributes_from
  named-found zero j h = absurd (omega arith)
  named-found (suc n) j h = go (same_bytes (key_at attributes source j) (bytes "name")) (named-found n (j + 1)) h
    where
      go : (t : Bool)
          → (named_from attributes source n (j + 1) < j + 1 + n → name_in (attributes_from attributes source n (j + 1)) ≡ text_of (value_at attributes source (named_from attributes source n (j + 1))))
          → cond t j (named_from attributes source n (j + 1)) < j + suc n
          → cond t (text_of (value_at attributes source j)) (name_in (attributes_from attributes source n (j + 1))) ≡ text_of (value_at attributes source (cond t j (named_from attributes source n (j + 1))))
      go true ih l = refl
      go false ih l = ih (omega arith)

  named_none : (n j : ℕ) → j + n ≤ named_from attributes source n j → name_in (attributes_from attributes source n j) ≡ none
  unfolding named_from attributes_from
  named_none zero j h = refl
  named_none (suc n) j h = go (same_bytes (key_at attributes source j) (bytes "name")) (named_none n (j + 1)) h
    where
      go : (t : Bool) → (j + 1 + n ≤ named_from attributes source n (j + 1) → name_in (attributes_from attributes source n (j + 1)) ≡ none)
          → j + suc n ≤ cond t j (named_from attributes source n (j + 1))
          → cond t (text_of (value_at attributes source j)) (name_in (attributes_from attributes source n (j + 1))) ≡ none
      go true ih l = absurd (omega arith)
      go false ih l = ih (omega arith)

-- ---- by the kind of the event
no-tag : (a b c d e f g : Bool) (text : List ℕ) → name_of (cond a (Tag End text 0 [])
    (cond b (Piece Text text) (cond c (Piece CData text) (cond d (Piece Ref text) (cond e (Piece Other text) (cond f Eof (cond g Fault (Piece Indent (10 ∷ []))))))))) ≡ none
no-tag true b c d e f g text = refl
no-tag false true c d e f g text = refl
no-tag false false true d e f g text = refl
no-tag false false false true e f g text = refl
no-tag false false false false true f g text = refl
no-tag false false false false false true g text = refl
no-tag false false false false false false true text = refl
no-tag false false false false false false false text = refl

module _ (k : ℕ) (text : List ℕ) (first : ℕ) (attributes : List Attribute) where
  nameless : 1 < k → name_of (event_of k text first attributes) ≡ none
  unfolding event_of
  nameless h =
      rw (ne_eqb k 0 (λ e. omega arith), ne_eqb k 1 (λ e. omega arith))
      (no-tag (eqb k kind.end) (eqb k kind.text) (eqb k kind.cdata) (eqb k kind.ref) (eqb k kind.other) (eqb k kind.eof) (eqb k kind.fault) text)

  has-attributes : k ≤ 1 → name_of (event_of k text first attributes) ≡ name_in attributes
  unfolding event_of
  has-attributes h = go (eqb k kind.start) (eqb k kind.empty) refl refl
    where
      go : (s t : Bool) → eqb k kind.start ≡ s → eqb k kind.empty ≡ t → name_of (event_of k text first attributes) ≡ name_in attributes
      go true t p q = rw p refl
      go false true p q = rw (p, q) refl
      go false false p q = absurd (omega (arith, eqb-false k 0 p, eqb-false k 1 q))

-- ---- as the code asks
module _ (events attributes source : List ℕ) (i : ℕ) where
  abbrev kind_here : ℕ
  kind_here = cond (leb (count_of events) i) kind.eof (kind_at events i)

  abbrev first : ℕ
  first = first_at events i

  abbrev end : ℕ
  end = end_at events i

  pub no_name : (k : ℕ) → k ≡ kind_here → (eqb i nowhere || ltb 1 k) ≡ true → name_at events attributes source i ≡ none
  unfolding name_at event_at
  no_name k p e = go (eqb i nowhere) (leb (count_of events) i) (ap (λ (n : ℕ). eqb i nowhere || ltb 1 n) (sym p) ∙ e)
    where
      go : (s t : Bool) → (s || ltb 1 (cond t kind.eof (kind_at events i))) ≡ true → cond (s || t) none (name_of (event_at events attributes source i)) ≡ none
      go true t e = refl
      go false true e = refl
      go false false e = nameless (kind_at events i) (bytes_at events source i) (word events i 3) (attributes_from attributes source (word events i 4) (word events i 3)) (ltb-true 1 (kind_at events i) e)

  module _ (k : ℕ) (p : k ≡ kind_here) (e : (eqb i nowhere || ltb 1 k) ≡ false) where
    in-range : name_at events attributes source i ≡ name_in (attributes_from attributes source (end - first) first)
    unfolding name_at event_at
    in-range = go (eqb i nowhere) (leb (count_of events) i) refl (ap (λ (n : ℕ). eqb i nowhere || ltb 1 n) (sym p) ∙ e)
      where
        go : (s t : Bool) → leb (count_of events) i ≡ t → (s || ltb 1 (cond t kind.eof (kind_at events i))) ≡ false
            → cond (s || t) none (name_of (event_at events attributes source i)) ≡ name_in (attributes_from attributes source (end - first) first)
        go true t q e = absurd (true≢false e)
        go false true q e = absurd (true≢false e)
        go false false q e =
            has-attributes (kind_at events i) (bytes_at events source i) (word events i 3) (attributes_from attributes source (word events i 4) (word events i 3)) (ltb-false 1 (kind_at events i) e)
            ∙ ap name_in (sym (range-attributes attributes source (leb-false (count_of events) i q) (ranged events i)))

    module _ (j : ℕ) (q : j ≡ named_from attributes source (end - first) first) where
      sum : first + (end - first) ≡ end
      sum = omega (arith, range-order (ranged events i))

      pub name-found : j < end → name_at events attributes source i ≡ text_of (value_at attributes source j)
      name-found h = in-range ∙ named-found attributes source (end - first) first (omega (arith, sum, q)) ∙ ap (λ (n : ℕ). text_of (value_at attributes source n)) (sym q)

      pub name-none : end ≤ j → name_at events attributes source i ≡ none
      name-none h = in-range ∙ named_none attributes source (end - first) first (omega (arith, sum, q))
