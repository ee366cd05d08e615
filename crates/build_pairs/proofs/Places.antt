-- Where a property or extra goes, and where its key stands already. Assumes nothing.
use Prim.Native.Nat.{ℕ, suc, ◌+◌, ◌-◌, ◌*◌, ◌≤◌, ◌<◌, min}
use mathlib.Core.Path.{◌≡◌, refl, sym, ap, ◌∙◌}
use mathlib.Core.Bool.{Bool, true, false, cond, ◌&&◌}
use mathlib.Core.List.{List}
use native.Mathlib.Omega.{arith}
use lib.ListN.{length, get_or, take, drop}
use borrow.Author.Tests.{le-leb, lt-leb}
use Rattle.list_values.specs.of_names.Names.{same_bytes}
use Rattle.list_values.specs.of_tree_record.Words as word
use Rattle.list_values.specs.of_tree_record.Kinds as kind
use Rattle.list_values.specs.of_tree_record.Record.{text_at}
use Rattle.build_kinds.specs.of_build_draft.declared.Builder.{Builder}
use Rattle.build_kinds.specs.of_build_draft.Draft.{kind_at, is_of, last_of}
use Rattle.build_kinds.specs.of_build_draft.Parts.{is_main_kind, place_for, may_stand_behind, key_place}
use Rattle.build_kinds.specs.of_build_draft.Calls.{is_suites, holder_of, is_held, old_place}
use Rattle.build_kinds.proofs.of_build_draft.Places.{record-part}
use Rattle.build_kinds.proofs.of_build_draft.Steps.{plain}

-- ---- the place of a new one
module _ (b : Builder) (words : List ℕ) {last k : ℕ} {t : Bool} (l : last ≡ last_of b) (e : k ≡ kind_at words last) (f : t ≡ is_main_kind k) where
  main-last : is_main_kind (kind_at words (last_of b)) ≡ t
  main-last = sym (f ∙ ap is_main_kind (e ∙ ap (kind_at words) l))

  pub place-last : t ≡ true → (text : List ℕ) → last ≡ place_for (plain b words text)
  place-last h text = l ∙ sym (ap (λ (u : Bool). cond u (last_of b) b.records) (main-last ∙ h))

  pub place_end : t ≡ false → (text : List ℕ) → b.records ≡ place_for (plain b words text)
  place_end h text = sym (ap (λ (u : Bool). cond u (last_of b) b.records) (main-last ∙ h))

-- ---- what it may stand behind
pub may-be-added : (b : Builder) (words : List ℕ) (k place : ℕ) {before κ : ℕ} {t u : Bool} → before ≡ place - 1 → t ≡ is_held k b words → κ ≡ kind_at words before
    → u ≡ may_stand_behind k κ → (t && u) ≡ (is_held k b words && may_stand_behind k (kind_at words (place - 1)))
may-be-added b words k place p t κ u =
    let m = u ∙ ap (may_stand_behind k) (κ ∙ ap (kind_at words) p) in
    λ i. t i && m i

-- ---- the place of a key
pub own_key : (text r key own : List ℕ) {x n : ℕ} {t : Bool} → x ≡ get_or r word.key 0 → n ≡ get_or r (word.key + 1) 0 → own ≡ take n (drop x text) → t ≡ same_bytes own key
    → t ≡ same_bytes (text_at text r word.key) key
own_key text r key own e f g h = h ∙ ap (λ (o : List ℕ). same_bytes o key) (g ∙ λ i. take (f i) (drop (e i) text))

module _ (text words key : List ℕ) (i to : ℕ) where
  pub key-none : to ≤ i → key_place text words key i (to - i) ≡ i
  key-none h = let n : to - i ≡ 0 = omega arith in ap (key_place text words key i) n

  module _ (h : i < to) {at : ℕ} (e : at ≡ min (i * 32) (length words)) {t : Bool} (s : t ≡ same_bytes (text_at text (take (length words - at) (drop at words)) word.key) key) where
    turned : key_place text words key i (to - i) ≡ cond t i (key_place text words key (i + 1) (to - (i + 1)))
    turned =
        let n : to - i ≡ suc (to - (i + 1)) = omega arith in
        ap (key_place text words key i) n
        ∙ ap (λ (u : Bool). cond u i (key_place text words key (i + 1) (to - (i + 1)))) (sym (s ∙ ap (λ (r : List ℕ). same_bytes (text_at text r word.key) key) (record-part words i e)))

    pub key_here : t ≡ true → key_place text words key i (to - i) ≡ i
    key_here q = turned ∙ ap (λ (u : Bool). cond u i (key_place text words key (i + 1) (to - (i + 1)))) q

    pub key-next : t ≡ false → key_place text words key i (to - i) ≡ key_place text words key (i + 1) (to - (i + 1))
    key-next q = turned ∙ ap (λ (u : Bool). cond u i (key_place text words key (i + 1) (to - (i + 1)))) q

-- ---- whose a record of kind k is
module _ (k : ℕ) (b : Builder) {t u : Bool} (e : t ≡ is_suites k) (h : t ≡ u) where
  pub own_of : cond u b.suite b.case ≡ holder_of k b
  own_of = ap (λ (v : Bool). cond v b.suite b.case) (sym h ∙ e)

  pub held_of : (words : List ℕ) {r : Bool} → r ≡ cond u (is_of b words b.suite kind.suite) (is_of b words b.case kind.case) → r ≡ is_held k b words
  held_of words r = r ∙ ap (λ (v : Bool). cond v (is_of b words b.suite kind.suite) (is_of b words b.case kind.case)) (sym h ∙ e)

module _ (b : Builder) (words text key : List ℕ) (k place : ℕ) (t : List ℕ) (e : place_for (plain b words t) ≡ place) where
  -- a property's key is never there
  pub old-none : k < kind.suite_extra → place ≡ old_place k key text (plain b words t)
  old-none h =
      sym (ap (λ (u : Bool). cond u (key_place text words key (holder_of k b + 1) (place_for (plain b words t) - (holder_of k b + 1))) (place_for (plain b words t))) (lt-leb kind.suite_extra k h) ∙ e)

  pub old_sought : kind.suite_extra ≤ k → {own i : ℕ} → own ≡ holder_of k b → i ≡ key_place text words key (own + 1) (place - (own + 1)) → i ≡ old_place k key text (plain b words t)
  old_sought h {own} {i} o q =
      q
      ∙ (λ j. key_place text words key (o j + 1) (sym e j - (o j + 1)))
      ∙ sym (ap (λ (u : Bool). cond u (key_place text words key (holder_of k b + 1) (place_for (plain b words t) - (holder_of k b + 1))) (place_for (plain b words t))) (le-leb kind.suite_extra k h))
