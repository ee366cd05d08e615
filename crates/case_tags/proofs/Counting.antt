-- Tags are counted event by event. Assumes nothing.
use Prim.Native.Nat.{ℕ, zero, suc, ◌+◌, ◌-◌, ◌≤◌, ◌<◌}
use mathlib.Core.Path.{◌≡◌, refl, sym, ap, ◌∙◌}
use mathlib.Core.List.{List, [], ◌∷◌}
use mathlib.Core.Bool.{Bool, true, false, cond}
use native.Mathlib.Omega.{arith}
use borrow.Author.Tests.{lt-leb, leb-true, leb-false, eq-eqb, ne_eqb}
use lib.Dec.{leb, eqb}
use Rattle.table_events.specs.of_names.Tags.{tag_of}
use Rattle.table_events.specs.of_table.Table.{word, count_of}
use Rattle.table_events.specs.of_table.Event.{Attribute, Tag, End, Piece, Text, CData, Ref, Other, Indent, Eof, Fault, kind_at, bytes_at, attributes_from, event_of, event_at, resolve_from, resolve}
use Rattle.table_events.proofs.of_table.Resolving.{event-of-kind, resolve-end, resolve-next}
use Rattle.table_events.proofs.Numbered.{bytes-in}
use Rattle.case_tags.specs.Tags.{case_tag, case_tags}

-- ---- one event by its kind
module _ (bytes : List ℕ) (first : ℕ) (xs : List Attribute) where
  abbrev of : ℕ → ℕ
  of k = case_tag (event_of k bytes first xs)

  -- only a Start and an Empty can be one
  pub other-kind : (k : ℕ) → 1 < k → of k ≡ 0
  unfolding case_tag event_of
  other-kind k h = rw (ne_eqb k 0 (λ z. omega arith), ne_eqb k 1 (λ z. omega arith)) (go (eqb k 2) (eqb k 3) (eqb k 4) (eqb k 5) (eqb k 6) (eqb k 7) (eqb k 8))
    where
      go : (t u v w x y z : Bool) →
          case_tag (cond t (Tag End bytes 0 []) (cond u (Piece Text bytes) (cond v (Piece CData bytes) (cond w (Piece Ref bytes) (cond x (Piece Other bytes)
          (cond y Eof (cond z Fault (Piece Indent (10 ∷ []))))))))) ≡ 0
      go true u v w x y z = refl
      go false true v w x y z = refl
      go false false true w x y z = refl
      go false false false true x y z = refl
      go false false false false true y z = refl
      go false false false false false true z = refl
      go false false false false false false true = refl
      go false false false false false false false = refl

  pub opening-kind : (k : ℕ) → k ≤ 1 → of k ≡ cond (eqb (tag_of bytes) 3) 1 0
  unfolding case_tag event_of
  opening-kind zero h = refl
  opening-kind (suc zero) h = refl
  opening-kind (suc (suc k)) h = absurd (omega arith)

  pub tag-low : (k : ℕ) → of k ≤ 1
  tag-low k = go (leb k 1) refl
    where
      low : (t : Bool) → cond t 1 0 ≤ 1
      low true = omega arith
      low false = omega arith

      go : (t : Bool) → leb k 1 ≡ t → of k ≤ 1
      go true p = let z = opening-kind k (leb-true k 1 p) in let y = low (eqb (tag_of bytes) 3) in omega arith
      go false p = let z = other-kind k (leb-false k 1 p) in omega arith

-- ---- event i of a table, in the words of the code
module _ (events source : List ℕ) (i : ℕ) (h : i < count_of events) (k : ℕ) (e : k ≡ cond (leb (count_of events) i) 7 (kind_at events i)) where
  is-kind : kind_at events i ≡ k
  is-kind = sym (e ∙ ap (λ (t : Bool). cond t 7 (kind_at events i)) (lt-leb (count_of events) i h))

  abbrev here : List ℕ → ℕ
  here attributes = case_tag (event_at events attributes source i)

  by_kind : (attributes : List ℕ) → here attributes ≡ case_tag (event_of k (bytes_at events source i) (word events i 3) (attributes_from attributes source (word events i 4) (word events i 3)))
  by_kind attributes = ap case_tag (event-of-kind events attributes source i k is-kind)

  pub no-opening : 1 < k → (attributes : List ℕ) → 0 ≡ here attributes
  no-opening l attributes = sym (by_kind attributes ∙ other-kind (bytes_at events source i) (word events i 3) (attributes_from attributes source (word events i 4) (word events i 3)) k l)

  module _ (l : k ≤ 1) (s : List ℕ) (q : s ≡ cond (leb (count_of events) i) [] (bytes_at events source i)) (code : ℕ) (c : code ≡ tag_of s) where
    by_code : (attributes : List ℕ) → here attributes ≡ cond (eqb code 3) 1 0
    by_code attributes =
        by_kind attributes ∙ opening-kind (bytes_at events source i) (word events i 3) (attributes_from attributes source (word events i 4) (word events i 3)) k l
        ∙ ap (λ (n : ℕ). cond (eqb n 3) 1 0) (sym (c ∙ ap tag_of (bytes-in events source i h s q)))

    pub is-case : code ≡ 3 → (attributes : List ℕ) → 1 ≡ here attributes
    is-case z attributes = sym (by_code attributes ∙ ap (λ (t : Bool). cond t 1 0) (eq-eqb code 3 z))

    pub no-case : (code ≡ 3 → ⊥) → (attributes : List ℕ) → 0 ≡ here attributes
    no-case z attributes = sym (by_code attributes ∙ ap (λ (t : Bool). cond t 1 0) (ne_eqb code 3 z))

-- ---- all events
-- `count` tags stand before event i
pub record Counted (events source : List ℕ) (count i : ℕ) : Type 0 where
  pub high : i ≤ count_of events
  pub low : count ≤ i
  pub same : (attributes : List ℕ) → case_tags (resolve events attributes source) ≡ count + case_tags (resolve_from events attributes source (count_of events - i) i)

pub counted_start : (events source : List ℕ) → Counted events source 0 0
unfolding resolve
counted_start events source = record {
  high = omega arith;
  low = omega arith;
  same = λ attributes.
      let z : count_of events ≡ count_of events - 0 = omega arith in
      let e = ap (λ (n : ℕ). case_tags (resolve_from events attributes source n 0)) z in
      omega arith;
}

module _ {events source : List ℕ} {count i : ℕ} (c : Counted events source count i) where
  low-tag : (n : ℕ) → ((attributes : List ℕ) → n ≡ case_tag (event_at events attributes source i)) → n ≤ 1
  unfolding event_at
  low-tag n e =
      let z = e [] in
      let y = tag-low (bytes_at events source i) (word events i 3) (attributes_from [] source (word events i 4) (word events i 3)) (kind_at events i) in
      omega arith

  pub counted-more : i < count_of events → (n : ℕ) → ((attributes : List ℕ) → n ≡ case_tag (event_at events attributes source i)) → Counted events source (count + n) (i + 1)
  unfolding case_tags
  counted-more h n e = record {
    high = omega arith;
    low = let l = low-tag n e in let m = c.low in omega arith;
    same = λ attributes.
        let z = c.same attributes in
        let y = ap case_tags (resolve-next events attributes source (count_of events) i h) in
        let x = e attributes in
        omega arith;
  }

  pub counted-all : count_of events ≤ i → (attributes : List ℕ) → count ≡ case_tags (resolve events attributes source)
  unfolding case_tags
  counted-all h attributes = let z = c.same attributes in let y = ap case_tags (resolve-end events attributes source (count_of events) i h) in omega arith
