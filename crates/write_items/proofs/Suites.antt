-- The suites of a report, as they are put and as they are written. Assumes nothing.
use Prim.Native.Nat.{ℕ}
use mathlib.Core.Path.{◌≡◌, refl, sym, ap, ap₂, ◌∙◌}
use mathlib.Core.List.{List, [], ◌∷◌, ◌++◌, map}
use mathlib.Core.Bool.{Bool, true, false, cond}
use native.Mathlib.Omega.{arith}
use lib.Dec.{eqb}
use Rattle.write_report.specs.of_names.Bytes.{bytes}
use Rattle.write_report.specs.of_names.Tags.{tags}
use Rattle.write_report.specs.of_table.Event.{Attribute, Event, TagKind, Start, Empty, Tag}
use Rattle.write_report.specs.of_tree_record.Kinds as kind
use Rattle.write_report.specs.of_tree_report.Report.{TestCase, TestSuite}
use Rattle.write_report.specs.of_tree_report.Fields.{kind_of, is_suite, is_case, system_out, system_err}
use Rattle.write_report.specs.of_tree_report.ReportOf.{only, until, branches, pair_of, case_of, suite_of}
use Rattle.write_report.proofs.of_tree_report.EncodeLists.{each_on}
use Rattle.write_report.specs.Written.{each, is_empty, element, extra_attribute, case_attributes, suite_attributes, serialize_properties}
use Rattle.write_report.specs.Written.{serialize_elements, serialize_outputs, serialize_test_case, serialize_test_suite}
use Rattle.write_table.specs.Laid.{tag_number, items_of}
use Rattle.write_table.proofs.Writing.{items_append}
use Rattle.write_items.specs.inside.Values.{tag_name}
use Rattle.write_items.specs.inside.Slots.{slots}
use Rattle.write_items.specs.inside.Walk.{own_of, is_between}
use Rattle.write_items.specs.inside.Case.{first_kind, closing_items}
use Rattle.write_items.specs.inside.Suite.{suite_codes, is_childless, opening_items, inside_items, suite_items, suites_items}
use Rattle.write_items.proofs.Lists.{empty-map, empty-each, first-empty, only-passed}
use Rattle.write_items.proofs.Walks.{own-suite, between-one, between-some}
use Rattle.write_items.proofs.Dead.{branch}
use Rattle.write_items.proofs.Attributes.{suite-slots}
use Rattle.write_items.proofs.Tags.{tag-items, element-parts, parts-empty}
use Rattle.write_items.proofs.Rows.{of_kind, extras-items, extras-count, properties-items, no-properties}
use Rattle.write_items.proofs.Cases.{cases-items}

-- ---- without cases
element-some : (name : List ℕ) (attributes : List Attribute) (es : List Event) → is_empty (element name attributes es) ≡ false
element-some name attributes [] = refl
element-some name attributes (e ∷ es) = refl

case-some : (c : TestCase) → is_empty (serialize_test_case c) ≡ false
unfolding serialize_test_case
case-some c =
    element-some (bytes "testcase") (case_attributes c)
    (serialize_properties c.properties ++ (serialize_elements c.status ++ serialize_outputs c.system_out c.system_err))

branches-empty : (p : List ℕ → Bool) (rs : List (List ℕ)) → is_empty (branches p rs) ≡ is_empty (only p rs)
branches-empty p [] = refl
branches-empty p (r ∷ rs) = go (p r) (branches-empty p rs)
  where
    go : (b : Bool) → is_empty (branches p rs) ≡ is_empty (only p rs) → is_empty (cond b (branch r (until p rs) ∷ branches p rs) (branches p rs)) ≡ is_empty (cond b (r ∷ only p rs) (only p rs))
    go true h = refl
    go false h = h

module _ (text : List ℕ) where
  abbrev cases_written : List (List ℕ) → List Event
  cases_written rs = each serialize_test_case (map (case_of text) (branches is_case rs))

  cases-empty : (rs : List (List ℕ)) → is_empty (cases_written rs) ≡ is_empty (only is_case rs)
  cases-empty rs =
      empty-each serialize_test_case case-some (map (case_of text) (branches is_case rs))
      ∙ empty-map (case_of text) (branches is_case rs)
      ∙ branches-empty is_case rs

  no_cases : (rs : List (List ℕ)) → eqb (first_kind 1 kind.case kind.case rs) 0 ≡ is_empty (cases_written (own_of 1 rs))
  no_cases rs =
      first-empty (each_on (λ r h. between-some 3 3 (kind_of r) (omega arith) h) (only-passed (λ (r : List ℕ). is_between 3 3 (kind_of r)) (own_of 1 rs)))
      ∙ ap is_empty (between-one 3 (own_of 1 rs))
      ∙ sym (cases-empty (own_of 1 rs))

  -- ---- a suite
  module _ (r : List ℕ) (rs : List (List ℕ)) where
    abbrev it : TestSuite
    it = suite_of text (branch r (own_of 1 rs))

    abbrev extras : List Attribute
    extras = map extra_attribute (map (pair_of text) (of_kind kind.suite_extra (own_of 1 rs)))

    abbrev properties : List Event
    properties = serialize_properties (map (pair_of text) (of_kind kind.suite_property (own_of 1 rs)))

    abbrev outputs : List Event
    outputs = serialize_outputs (system_out text r) (system_err text r)

    suite-opening : (k : TagKind) → opening_items text r rs (tag_number k) ≡ items_of (Tag k (bytes "testsuite") 0 (suite_attributes it) ∷ [])
    unfolding opening_items tag_name tags
    suite-opening k =
        tag-items k (bytes "testsuite") (slots text r suite_codes) extras (extras-count text kind.suite_extra refl refl 1 rs) (extras-items text kind.suite_extra refl refl 1 rs)
        ∙ ap (λ (l : List Attribute). items_of (Tag k (bytes "testsuite") 0 l ∷ [])) (suite-slots text r extras)

    suite-inside : inside_items text rs ≡ items_of properties ++ items_of (cases_written (own_of 1 rs))
    unfolding inside_items
    suite-inside =
        ap₂ ◌++◌ (properties-items text kind.suite_property refl refl 1 rs)
        (cases-items text rs ∙ ap (λ (l : List (List ℕ)). items_of (cases_written l)) (sym (own-suite rs)))

    suite-childless : is_childless r rs ≡ is_empty (properties ++ (cases_written (own_of 1 rs) ++ outputs))
    unfolding is_childless
    suite-childless = parts-empty text r properties (cases_written (own_of 1 rs)) (no-properties text kind.suite_property refl refl 1 rs) (no_cases rs)

    suite-own : suite_items text r rs ≡ items_of (serialize_test_suite it)
    unfolding suite_items closing_items serialize_test_suite tag_name tags
    suite-own =
        element-parts (bytes "testsuite") (suite_attributes it) properties (cases_written (own_of 1 rs)) outputs suite-childless (suite-opening Empty) (suite-opening Start) suite-inside refl

    pub suite-items : suite_items text r rs ≡ items_of (serialize_test_suite (suite_of text (branch r (until is_suite rs))))
    suite-items = suite-own ∙ ap (λ (l : List (List ℕ)). items_of (serialize_test_suite (suite_of text (branch r l)))) (own-suite rs)

  abbrev suites_written : List (List ℕ) → List Event
  suites_written rs = each serialize_test_suite (map (suite_of text) (branches is_suite rs))

  pub suites-items : (rs : List (List ℕ)) → suites_items text rs ≡ items_of (each serialize_test_suite (map (suite_of text) (branches is_suite rs)))
  unfolding suites_items items_of
  suites-items [] = refl
  suites-items (r ∷ rs) = go (is_suite r) (suites-items rs)
    where
      go : (b : Bool) → suites_items text rs ≡ items_of (suites_written rs)
          → cond b (suite_items text r rs ++ suites_items text rs) (suites_items text rs)
          ≡ items_of (each serialize_test_suite (map (suite_of text) (cond b (branch r (until is_suite rs) ∷ branches is_suite rs) (branches is_suite rs))))
      go true h = ap₂ ◌++◌ (suite-items r rs) h ∙ sym (items_append (serialize_test_suite (suite_of text (branch r (until is_suite rs)))) (suites_written rs))
      go false h = h
