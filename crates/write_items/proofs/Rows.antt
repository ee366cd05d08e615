-- Properties, extras and runs, as they are put and as they are written. Assumes nothing.
use Prim.Native.Nat.{ℕ, ◌≤◌}
use mathlib.Core.Path.{◌≡◌, refl, sym, ap, ap₂, ◌∙◌}
use mathlib.Core.List.{List, [], ◌∷◌, ◌++◌, map}
use mathlib.Core.Bool.{Bool, true, false, cond, ◌||◌, and-eq-true_iff}
use native.Mathlib.Omega.{arith}
use borrow.Author.Tests.{eqb-true, ne_eqb, leb-true}
use lib.Dec.{leb, eqb}
use lib.ListN.{length, length-map}
use Rattle.write_report.specs.of_names.Bytes.{bytes}
use Rattle.write_report.specs.of_names.Tags.{tags}
use Rattle.write_report.specs.of_names.Tags as tag
use Rattle.write_report.specs.of_table.Kinds as event
use Rattle.write_report.specs.of_tree_record.Kinds as kind
use Rattle.write_report.specs.of_tree_report.Report.{Pair}
use Rattle.write_report.specs.of_tree_report.Fields.{kind_of, is_run}
use Rattle.write_report.specs.of_tree_report.ReportOf.{only, pair_of, run_of}
use Rattle.write_report.proofs.of_tree_report.EncodeLists.{Each, done, more, each_on}
use Rattle.write_report.specs.Written.{each, is_empty, end_tag, extra_attribute, serialize_property, serialize_properties, serialize_rerun}
use Rattle.write_table.specs.Laid.{Item, entry, pairs_of_it, items_of}
use Rattle.write_table.proofs.Writing.{items_append}
use Rattle.write_items.specs.inside.Values.{tag_name}
use Rattle.write_items.specs.inside.Walk.{own_of, between, first_of}
use Rattle.write_items.specs.inside.Status.{family}
use Rattle.write_items.specs.inside.Rows.{row_items, rows_items}
use Rattle.write_items.specs.inside.Case.{first_kind, properties_items}
use Rattle.write_items.proofs.Lists.{each_map, each-items, empty-map, first-empty, only-passed}
use Rattle.write_items.proofs.Walks.{between-one}

-- a record of kind k
abbrev pub HasKind : ℕ → List ℕ → Type 0
HasKind k r = eqb (kind_of r) k ≡ true

abbrev pub of_kind : ℕ → List (List ℕ) → List (List ℕ)
of_kind k rs = only (λ (r : List ℕ). eqb (kind_of r) k) rs

module _ (text : List ℕ) where
  -- ---- extras
  module _ (k : ℕ) (other : (eqb k kind.suite_property || eqb k kind.case_property) ≡ false) (own : (eqb k kind.suite_extra || eqb k kind.case_extra) ≡ true) where
    extra-row : (r : List ℕ) → HasKind k r → row_items text false r ≡ pairs_of_it (extra_attribute (pair_of text r) ∷ [])
    unfolding row_items
    extra-row r h = rw (eqb-true (kind_of r) k h, other, own) refl

    extra-rows : {rs : List (List ℕ)} → Each (HasKind k) rs → each (row_items text false) rs ≡ pairs_of_it (map extra_attribute (map (pair_of text) rs))
    extra-rows done = refl
    extra-rows (more {x = r} h hs) = ap₂ ◌++◌ (extra-row r h) (extra-rows hs)

    pub extras-items : (level : ℕ) (rs : List (List ℕ)) → rows_items text false level k k rs ≡ pairs_of_it (map extra_attribute (map (pair_of text) (of_kind k (own_of level rs))))
    unfolding rows_items
    extras-items level rs = ap (each (row_items text false)) (between-one k (own_of level rs)) ∙ extra-rows (only-passed (λ (r : List ℕ). eqb (kind_of r) k) (own_of level rs))

    pub extras-count : (level : ℕ) (rs : List (List ℕ)) → length (between k k (own_of level rs)) ≡ length (map extra_attribute (map (pair_of text) (of_kind k (own_of level rs))))
    extras-count level rs =
        ap length (between-one k (own_of level rs))
        ∙ sym (length-map (map (pair_of text) (of_kind k (own_of level rs))) extra_attribute ∙ length-map (of_kind k (own_of level rs)) (pair_of text))

  -- ---- properties
  module _ (k : ℕ) (own : (eqb k kind.suite_property || eqb k kind.case_property) ≡ true) (some : eqb k 0 ≡ false) where
    property-row : (r : List ℕ) → HasKind k r → row_items text false r ≡ items_of (serialize_property (pair_of text r))
    unfolding row_items
    property-row r h = rw (eqb-true (kind_of r) k h, own) refl

    property-rows : {rs : List (List ℕ)} → Each (HasKind k) rs → each (row_items text false) rs ≡ items_of (each serialize_property (map (pair_of text) rs))
    property-rows {rs} h = each-items (row_items text false) (λ (r : List ℕ). serialize_property (pair_of text r)) property-row h ∙ ap items_of (sym (each_map serialize_property (pair_of text) rs))

    kind-some : (r : List ℕ) → HasKind k r → eqb (kind_of r) 0 ≡ false
    kind-some r h = ap (λ (j : ℕ). eqb j 0) (eqb-true (kind_of r) k h) ∙ some

    property-list : {rs : List (List ℕ)} → Each (HasKind k) rs
        → cond (eqb (kind_of (first_of rs)) 0) [] (entry event.start (tag_name tag.properties) 0 ∷ (each (row_items text false) rs ++ (entry event.end (tag_name tag.properties) 0 ∷ [])))
        ≡ items_of (serialize_properties (map (pair_of text) rs))
    unfolding serialize_properties items_of tag_name tags
    property-list done = refl
    property-list (more {x = r} {xs = rs} h hs) =
        rw (kind-some r h)
        (ap (λ (l : List Item). entry event.start (bytes "properties") 0 ∷ (l ++ (entry event.end (bytes "properties") 0 ∷ []))) (property-rows (more h hs))
        ∙ ap (λ (l : List Item). entry event.start (bytes "properties") 0 ∷ l) (sym (items_append (each serialize_property (map (pair_of text) (r ∷ rs))) (end_tag (bytes "properties") ∷ []))))

    pub properties-items : (level : ℕ) (rs : List (List ℕ)) → properties_items text level k rs ≡ items_of (serialize_properties (map (pair_of text) (of_kind k (own_of level rs))))
    unfolding properties_items rows_items
    properties-items level rs =
        ap (λ (l : List (List ℕ)). cond (eqb (kind_of (first_of l)) 0) []
        (entry event.start (tag_name tag.properties) 0 ∷ (each (row_items text false) l ++ (entry event.end (tag_name tag.properties) 0 ∷ [])))) (between-one k (own_of level rs))
        ∙ property-list (only-passed (λ (r : List ℕ). eqb (kind_of r) k) (own_of level rs))

    properties-empty : (ps : List Pair) → is_empty (serialize_properties ps) ≡ is_empty ps
    unfolding serialize_properties
    properties-empty [] = refl
    properties-empty (p ∷ ps) = refl

    pub no-properties : (level : ℕ) (rs : List (List ℕ)) → eqb (first_kind level k k rs) 0 ≡ is_empty (serialize_properties (map (pair_of text) (of_kind k (own_of level rs))))
    no-properties level rs =
        ap (λ (l : List (List ℕ)). eqb (kind_of (first_of l)) 0) (between-one k (own_of level rs))
        ∙ first-empty (somes (only-passed (λ (r : List ℕ). eqb (kind_of r) k) (own_of level rs)))
        ∙ sym (properties-empty (map (pair_of text) (of_kind k (own_of level rs))) ∙ empty-map (pair_of text) (of_kind k (own_of level rs)))
      where
        somes : {l : List (List ℕ)} → Each (HasKind k) l → Each (λ (r : List ℕ). eqb (kind_of r) 0 ≡ false) l
        somes h = each_on kind-some h

  -- ---- runs
  run-row : (b : Bool) (r : List ℕ) → is_run r ≡ true → row_items text b r ≡ items_of (serialize_rerun (family b) (run_of text r))
  unfolding row_items
  run-row b r e =
      let p = (and-eq-true_iff (leb 9 (kind_of r)) (leb (kind_of r) 12)).0 e in
      let l : 9 ≤ kind_of r = leb-true 9 (kind_of r) p.0 in
      let m : kind_of r ≤ 12 = leb-true (kind_of r) 12 p.1 in
      rw (ne_eqb (kind_of r) 4 (λ z. omega arith), ne_eqb (kind_of r) 5 (λ z. omega arith), ne_eqb (kind_of r) 13 (λ z. omega arith), ne_eqb (kind_of r) 14 (λ z. omega arith)) refl

  pub runs-items : (b : Bool) (rs : List (List ℕ)) → rows_items text b 2 kind.flaky_failure kind.rerun_error rs ≡ items_of (each (serialize_rerun (family b)) (map (run_of text) (only is_run (own_of 2 rs))))
  unfolding rows_items
  runs-items b rs =
      each-items (row_items text b) (λ (r : List ℕ). serialize_rerun (family b) (run_of text r)) (run-row b) (only-passed is_run (own_of 2 rs))
      ∙ ap items_of (sym (each_map (serialize_rerun (family b)) (run_of text) (only is_run (own_of 2 rs))))
