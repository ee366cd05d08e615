-- The status elements of a case, as they are put and as they are written. Assumes nothing.
use Prim.Native.Nat.{ℕ}
use mathlib.Core.Path.{◌≡◌, refl, sym, ap, ◌∙◌}
use mathlib.Core.List.{List, [], ◌∷◌, ◌++◌, map}
use mathlib.Core.Bool.{Bool, true, false, cond, ◌&&◌}
use mathlib.Core.Option.{Option, none, some}
use native.Mathlib.Omega.{arith}
use lib.Dec.{leb, eqb}
use Rattle.write_report.specs.of_names.Bytes.{bytes}
use Rattle.write_report.specs.of_names.Tags.{tags}
use Rattle.write_report.specs.of_names.Tags as tag
use Rattle.write_report.specs.of_table.Event.{Attribute, Event}
use Rattle.write_report.specs.of_tree_record.Bits as bit
use Rattle.write_report.specs.of_tree_record.Kinds as kind
use Rattle.write_report.specs.of_tree_report.Report.{Text, Reason, FlakyOrRerun, flaky, failure, error, TestRerun, non_success, skipped}
use Rattle.write_report.specs.of_tree_report.Fields.{kind_of, has_bit, is_main, is_run}
use Rattle.write_report.specs.of_tree_report.ReportOf.{only, reason_of, run_of, kind_of_runs, status_of}
use Rattle.write_report.proofs.of_tree_report.EncodeLists.{Each, done, more, each_on}
use Rattle.write_report.specs.Written.{each, is_empty, described, status_attributes, serialize_status, serialize_rerun, serialize_elements}
use Rattle.write_table.specs.Laid.{Item, items_of}
use Rattle.write_table.proofs.Writing.{items_append}
use Rattle.write_items.specs.inside.Values.{tag_name}
use Rattle.write_items.specs.inside.Walk.{is_between, own_of, first_of}
use Rattle.write_items.specs.inside.Status.{family}
use Rattle.write_items.specs.inside.Case.{first_kind, runs_flaky, runs_items, main_items, elements_items}
use Rattle.write_items.proofs.Lists.{empty-append, empty-map, empty-each, first-empty, only-passed}
use Rattle.write_items.proofs.Walks.{between-some, no-status}
use Rattle.write_items.proofs.Rows.{runs-items}

module _ (text : List ℕ) where
  -- ---- a main and its runs
  family-same : (main : List ℕ) {runs : List (List ℕ)} → Each (λ (r : List ℕ). is_run r ≡ true) runs
      → family (cond (eqb (kind_of (first_of runs)) 0) (has_bit bit.flaky main) (leb (kind_of (first_of runs)) kind.flaky_error)) ≡ kind_of_runs text main runs
  family-same main done = refl
  family-same main (more {x = r} h hs) = rw (between-some 9 12 (kind_of r) (omega arith) h) refl

  module _ (m : List ℕ) (ms rs : List (List ℕ)) where
    abbrev runs : List (List ℕ)
    runs = only is_run (own_of 2 rs)

    main_runs : runs_items text (runs_flaky m rs) rs ≡ items_of (each (serialize_rerun (kind_of_runs text m runs)) (map (run_of text) runs))
    unfolding runs_flaky
    main_runs =
        runs-items text (runs_flaky m rs) rs
        ∙ ap (λ (f : FlakyOrRerun). items_of (each (serialize_rerun f) (map (run_of text) runs))) (family-same m (only-passed is_run (own_of 2 rs)))

    status-runs : (name : List ℕ) → items_of (serialize_status name (reason_of text m)) ++ runs_items text (runs_flaky m rs) rs
        ≡ items_of (serialize_status name (reason_of text m) ++ each (serialize_rerun (kind_of_runs text m runs)) (map (run_of text) runs))
    status-runs name =
        ap (λ (l : List Item). items_of (serialize_status name (reason_of text m)) ++ l) main_runs
        ∙ sym (items_append (serialize_status name (reason_of text m)) (each (serialize_rerun (kind_of_runs text m runs)) (map (run_of text) runs)))

    main-items : main_items text m rs ≡ items_of (serialize_elements (status_of text (m ∷ ms) runs))
    unfolding main_items serialize_elements tag_name tags
    main-items = go (eqb (kind_of m) kind.skipped) (eqb (kind_of m) kind.failure)
      where
        go : (a b : Bool) → cond a (items_of (serialize_status (tag_name tag.skipped) (reason_of text m)))
            (items_of (serialize_status (tag_name (cond b tag.failure tag.error)) (reason_of text m)) ++ runs_items text (runs_flaky m rs) rs)
            ≡ items_of (serialize_elements (cond a (skipped (reason_of text m)) (non_success (cond b failure error) (reason_of text m) (kind_of_runs text m runs) (map (run_of text) runs))))
        go true b = refl
        go false true = status-runs (bytes "failure")
        go false false = status-runs (bytes "error")

  elements-of : (rs : List (List ℕ)) {mains : List (List ℕ)} → Each (λ (r : List ℕ). is_main r ≡ true) mains
      → cond (eqb (kind_of (first_of mains)) 0) (runs_items text true rs) (main_items text (first_of mains) rs) ≡ items_of (serialize_elements (status_of text mains (only is_run (own_of 2 rs))))
  unfolding serialize_elements
  elements-of rs done = runs-items text true rs
  elements-of rs (more {x = m} {xs = ms} h hs) = rw (between-some 6 8 (kind_of m) (omega arith) h) (main-items m ms rs)

  pub status-items : (rs : List (List ℕ)) → elements_items text rs ≡ items_of (serialize_elements (status_of text (only is_main (own_of 2 rs)) (only is_run (own_of 2 rs))))
  unfolding elements_items
  status-items rs = elements-of rs (only-passed is_main (own_of 2 rs))

  -- ---- without any
  described-some : (name : List ℕ) (attributes : List Attribute) (d : Option Text) → is_empty (described name attributes d) ≡ false
  described-some name attributes none = refl
  described-some name attributes (some d) = refl

  status-some : (name : List ℕ) (r : Reason) → is_empty (serialize_status name r) ≡ false
  unfolding serialize_status
  status-some name r = described-some name (status_attributes r.message r.type) r.description

  run-some : (f : FlakyOrRerun) (r : TestRerun) → is_empty (serialize_rerun f r) ≡ false
  unfolding serialize_rerun
  run-some f r = refl

  elements-empty : (mains runs : List (List ℕ)) → is_empty (serialize_elements (status_of text mains runs)) ≡ (is_empty mains && is_empty runs)
  unfolding serialize_elements
  elements-empty [] runs = empty-each (serialize_rerun flaky) (run-some flaky) (map (run_of text) runs) ∙ empty-map (run_of text) runs
  elements-empty (m ∷ ms) runs = go (eqb (kind_of m) kind.skipped) (eqb (kind_of m) kind.failure)
    where
      main_some : (name : List ℕ) (es : List Event) → is_empty (serialize_status name (reason_of text m) ++ es) ≡ false
      main_some name es = empty-append (serialize_status name (reason_of text m)) es ∙ ap (λ (b : Bool). b && is_empty es) (status-some name (reason_of text m))

      go : (a b : Bool)
          → is_empty (serialize_elements (cond a (skipped (reason_of text m)) (non_success (cond b failure error) (reason_of text m) (kind_of_runs text m runs) (map (run_of text) runs)))) ≡ false
      go true b = status-some (bytes "skipped") (reason_of text m)
      go false true = main_some (bytes "failure") (each (serialize_rerun (kind_of_runs text m runs)) (map (run_of text) runs))
      go false false = main_some (bytes "error") (each (serialize_rerun (kind_of_runs text m runs)) (map (run_of text) runs))

  pub no-elements : (rs : List (List ℕ)) → eqb (first_kind 2 kind.failure kind.rerun_error rs) 0 ≡ is_empty (serialize_elements (status_of text (only is_main (own_of 2 rs)) (only is_run (own_of 2 rs))))
  no-elements rs =
      first-empty (each_on (λ r h. between-some 6 12 (kind_of r) (omega arith) h) (only-passed (λ (r : List ℕ). is_between 6 12 (kind_of r)) (own_of 2 rs)))
      ∙ no-status (own_of 2 rs)
      ∙ sym (elements-empty (only is_main (own_of 2 rs)) (only is_run (own_of 2 rs)))
