-- A case, and the cases of a suite, as they are put and as they are written. Assumes nothing.
use Prim.Native.Nat.{ℕ}
use mathlib.Core.Path.{◌≡◌, refl, sym, ap, ap₂, ◌∙◌}
use mathlib.Core.List.{List, [], ◌∷◌, ◌++◌, map}
use mathlib.Core.Bool.{Bool, true, false, cond}
use Rattle.write_report.specs.of_names.Bytes.{bytes}
use Rattle.write_report.specs.of_names.Tags.{tags}
use Rattle.write_report.specs.of_table.Event.{Attribute, Event, TagKind, Start, Empty, Tag}
use Rattle.write_report.specs.of_tree_record.Kinds as kind
use Rattle.write_report.specs.of_tree_report.Report.{TestCase}
use Rattle.write_report.specs.of_tree_report.Fields.{is_suite, is_case, is_main, is_run, system_out, system_err}
use Rattle.write_report.specs.of_tree_report.ReportOf.{only, until, branches, pair_of, status_of, case_of}
use Rattle.write_report.specs.Written.{each, is_empty, extra_attribute, case_attributes, serialize_properties, serialize_elements, serialize_outputs, serialize_test_case}
use Rattle.write_table.specs.Laid.{tag_number, items_of}
use Rattle.write_table.proofs.Writing.{items_append}
use Rattle.write_items.specs.inside.Values.{tag_name}
use Rattle.write_items.specs.inside.Slots.{slots}
use Rattle.write_items.specs.inside.Walk.{own_of}
use Rattle.write_items.specs.inside.Case.{case_codes, is_childless, opening_items, inside_items, closing_items, case_items}
use Rattle.write_items.specs.inside.Suite.{cases_items}
use Rattle.write_items.proofs.Walks.{own-case}
use Rattle.write_items.proofs.Dead.{branch}
use Rattle.write_items.proofs.Attributes.{case-slots}
use Rattle.write_items.proofs.Tags.{tag-items, element-parts, parts-empty}
use Rattle.write_items.proofs.Rows.{of_kind, extras-items, extras-count, properties-items, no-properties}
use Rattle.write_items.proofs.Statuses.{status-items, no-elements}

module _ (text : List ℕ) where
  module _ (r : List ℕ) (rs : List (List ℕ)) where
    abbrev it : TestCase
    it = case_of text (branch r (own_of 2 rs))

    abbrev extras : List Attribute
    extras = map extra_attribute (map (pair_of text) (of_kind kind.case_extra (own_of 2 rs)))

    abbrev properties : List Event
    properties = serialize_properties (map (pair_of text) (of_kind kind.case_property (own_of 2 rs)))

    abbrev elements : List Event
    elements = serialize_elements (status_of text (only is_main (own_of 2 rs)) (only is_run (own_of 2 rs)))

    abbrev outputs : List Event
    outputs = serialize_outputs (system_out text r) (system_err text r)

    case-opening : (k : TagKind) → opening_items text r rs (tag_number k) ≡ items_of (Tag k (bytes "testcase") 0 (case_attributes it) ∷ [])
    unfolding opening_items tag_name tags
    case-opening k =
        tag-items k (bytes "testcase") (slots text r case_codes) extras (extras-count text kind.case_extra refl refl 2 rs) (extras-items text kind.case_extra refl refl 2 rs)
        ∙ ap (λ (l : List Attribute). items_of (Tag k (bytes "testcase") 0 l ∷ [])) (case-slots text r extras)

    case-inside : inside_items text rs ≡ items_of properties ++ items_of elements
    unfolding inside_items
    case-inside = ap₂ ◌++◌ (properties-items text kind.case_property refl refl 2 rs) (status-items text rs)

    case-childless : is_childless r rs ≡ is_empty (properties ++ (elements ++ outputs))
    unfolding is_childless
    case-childless = parts-empty text r properties elements (no-properties text kind.case_property refl refl 2 rs) (no-elements text rs)

    case-own : case_items text r rs ≡ items_of (serialize_test_case it)
    unfolding case_items closing_items serialize_test_case tag_name tags
    case-own = element-parts (bytes "testcase") (case_attributes it) properties elements outputs case-childless (case-opening Empty) (case-opening Start) case-inside refl

    pub case-items : case_items text r rs ≡ items_of (serialize_test_case (case_of text (branch r (until is_case (until is_suite rs)))))
    case-items = case-own ∙ ap (λ (l : List (List ℕ)). items_of (serialize_test_case (case_of text (branch r l)))) (own-case rs)

  -- the cases before the next suite
  abbrev cases_written : List (List ℕ) → List Event
  cases_written rs = each serialize_test_case (map (case_of text) (branches is_case rs))

  pub cases-items : (rs : List (List ℕ)) → cases_items text rs ≡ items_of (each serialize_test_case (map (case_of text) (branches is_case (until is_suite rs))))
  unfolding cases_items items_of
  cases-items [] = refl
  cases-items (r ∷ rs) = go (is_suite r) (is_case r) refl (cases-items rs)
    where
      go : (a b : Bool) → is_case r ≡ b → cases_items text rs ≡ items_of (cases_written (until is_suite rs))
          → cond a [] (cond b (case_items text r rs ++ cases_items text rs) (cases_items text rs)) ≡ items_of (cases_written (cond a [] (r ∷ until is_suite rs)))
      go true b e h = refl
      go false true e h = rw e (ap₂ ◌++◌ (case-items r rs) h ∙ sym (items_append (serialize_test_case (case_of text (branch r (until is_case (until is_suite rs))))) (cases_written (until is_suite rs))))
      go false false e h = rw e h
