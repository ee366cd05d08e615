-- The rows of what good records hold fit. Assumes nothing.
use Prim.Native.Nat.{ℕ, ◌≤◌}
use mathlib.Core.Bool.{Bool, true, false, cond, ◌&&◌}
use mathlib.Core.List.{List, map}
use mathlib.Core.Path.{◌≡◌, refl, ap, ◌∙◌}
use native.Mathlib.Omega.{arith}
use borrow.Author.Tests.{leb-true, eqb-true}
use lib.Dec.{leb, eqb, lit≤}
use Rattle.tree_layout.specs.of_tree_record.Kinds as kind
use Rattle.tree_layout.specs.of_tree_report.Report.{failure, error, FlakyOrRerun, flaky, non_success, skipped, Report}
use Rattle.tree_layout.specs.of_tree_report.Fields.{kind_of, is_report, is_suite, is_case, is_main, is_run, first, uuid, timestamp, time, counts}
use Rattle.tree_layout.specs.of_tree_report.Layout.{filled, good_text, good_record}
use Rattle.tree_layout.specs.of_tree_report.inside.Parts.{good_other}
use Rattle.tree_layout.specs.of_tree_report.ReportOf.{Branch, branches, pair_of, pairs_of_it, reason_of, run_of, kind_of_runs, status_of, case_of, suite_of}
use Rattle.tree_layout.specs.of_tree_report.inside.Cells.{Row, fits_row, pair_row_of, main_row, run_row, status_rows, case_rows, suite_rows, rows_of}
use Rattle.tree_layout.proofs.of_tree_report.EncodeLists.{and_left, and_right, Each, done, more, each_append}
use Rattle.tree_layout.proofs.of_tree_shape.Presence.{report-record, suite-record, case-record, other-record}
use Rattle.round_sound.proofs.Lists.{map_each, rows-each, Grown, Passing, each-only, each-branches}
use Rattle.round_sound.proofs.Records.{Narrow, report-row, suite-row, case-row, pair_row, main-row, run-row}

abbrev pub Fits : Row → Type 0
Fits row = fits_row row ≡ true

-- good, and its words have 32 bits
pub record Fine (texts r : List ℕ) : Type 0 where
  pub good : good_record texts r ≡ true
  pub narrow : Narrow r

-- ---- the kinds of pairs and status elements
module _ {texts r : List ℕ} (f : Fine texts r) where
  other-good : 4 ≤ kind_of r → kind_of r ≤ 14 → good_other texts r ≡ true
  other-good l h =
      and_right (leb (kind_of r) 14) (good_other texts r) (other-record texts r (omega arith) (λ e. omega arith) (λ e. omega arith) (λ e. omega arith) ∙ f.good)

  within : (low high : ℕ) → (leb low (kind_of r) && leb (kind_of r) high) ≡ true → (low ≤ kind_of r) × (kind_of r ≤ high)
  within low high e = (leb-true low (kind_of r) (and_left (leb low (kind_of r)) (leb (kind_of r) high) e), leb-true (kind_of r) high (and_right (leb low (kind_of r)) (leb (kind_of r) high) e))

  main-good : is_main r ≡ true → good_other texts r ≡ true
  main-good e = let b = within kind.failure kind.skipped e in let l = b.0 in let h = b.1 in other-good (omega arith) (omega arith)

  run-good : is_run r ≡ true → good_other texts r ≡ true
  run-good e = let b = within kind.flaky_failure kind.rerun_error e in let l = b.0 in let h = b.1 in other-good (omega arith) (omega arith)

  pair-good : (k : ℕ) → 4 ≤ k → k ≤ 14 → eqb (kind_of r) k ≡ true → good_other texts r ≡ true
  pair-good k l h e = let z : kind_of r ≡ k = eqb-true (kind_of r) k e in other-good (omega arith) (omega arith)

-- the report of its record, and of those behind it
abbrev pub report_at_of : List ℕ → List ℕ → List (List ℕ) → Report
report_at_of text r rs =
    record { name = first text r; uuid = uuid r; timestamp = timestamp r; time = time r; counts = counts r; suites = map (suite_of text) (branches is_suite rs) }

module _ (text : List ℕ) (good : good_text text ≡ true) where
  abbrev Held : List ℕ → Type 0
  Held = Fine (filled text)

  -- properties or extras: k is their kind
  pairs-fit : (k : ℕ) → 4 ≤ k → k ≤ 14 → (leb 6 k && leb k 12) ≡ false → {rs : List (List ℕ)} → Each Held rs → Each Fits (map (pair_row_of k) (pairs_of_it text (λ (r : List ℕ). eqb (kind_of r) k) rs))
  pairs-fit k l h o f = map_each (pair_row_of k) (λ p e. e) (map_each {Q = λ p. Fits (pair_row_of k p)} (pair_of text) one (each-only (λ (r : List ℕ). eqb (kind_of r) k) f))
    where
      one : (r : List ℕ) → Passing Held (λ (r : List ℕ). eqb (kind_of r) k) r → Fits (pair_row_of k (pair_of text r))
      one r q =
          pair_row text good r (ap (λ (n : ℕ). leb 6 n && leb n 12) (eqb-true (kind_of r) k q.1) ∙ o) (pair-good q.0 k l h q.1) k

  runs_fit : (family : FlakyOrRerun) {rs : List (List ℕ)} → Each (Passing Held is_run) rs → Each Fits (map (run_row family) (map (run_of text) rs))
  runs_fit family f = map_each (run_row family) (λ p e. e) (map_each {Q = λ p. Fits (run_row family p)} (run_of text) one f)
    where
      one : (r : List ℕ) → Passing Held is_run r → Fits (run_row family (run_of text r))
      one r q = run-row text good r (run-good q.0 q.1) family

  status-fits : {ms rs : List (List ℕ)} → Each (Passing Held is_main) ms → Each (Passing Held is_run) rs → Each Fits (status_rows (status_of text ms rs))
  status-fits done f = runs_fit flaky f
  status-fits {rs = rs} (more {x = m} h hs) f = go (eqb (kind_of m) kind.skipped) (eqb (kind_of m) kind.failure)
    where
      main : (k : ℕ) (is_flaky : Bool) → Fits (main_row k is_flaky (reason_of text m))
      main k is_flaky = main-row text good m (main-good h.0 h.1) k is_flaky

      go : (b c : Bool) → Each Fits (status_rows (cond b (skipped (reason_of text m)) (non_success (cond c failure error) (reason_of text m) (kind_of_runs text m rs) (map (run_of text) rs))))
      go true c = more (main _ _) done
      go false c = more (main _ _) (runs_fit (kind_of_runs text m rs) f)

  case-fits : (b : Branch) → Grown Held is_case b → Each Fits (case_rows (case_of text b))
  case-fits b g =
      let r : List ℕ = b.head in
      more (case-row text good r g.top.narrow (case-record (filled text) r (eqb-true (kind_of r) kind.case g.passes) ∙ g.top.good) b.below)
      (each_append (pairs-fit kind.case_extra (lit≤ tt) (lit≤ tt) refl g.under)
      (each_append (pairs-fit kind.case_property (lit≤ tt) (lit≤ tt) refl g.under) (status-fits (each-only is_main g.under) (each-only is_run g.under))))

  suite-fits : (b : Branch) → Grown Held is_suite b → Each Fits (suite_rows (suite_of text b))
  suite-fits b g =
      let r : List ℕ = b.head in
      more (suite-row text good r g.top.narrow (suite-record (filled text) r (eqb-true (kind_of r) kind.suite g.passes) ∙ g.top.good) b.below)
      (each_append (pairs-fit kind.suite_extra (lit≤ tt) (lit≤ tt) refl g.under)
      (each_append (pairs-fit kind.suite_property (lit≤ tt) (lit≤ tt) refl g.under)
      (rows-each case_rows (λ c e. e) (map_each {Q = λ c. Each Fits (case_rows c)} (case_of text) case-fits (each-branches is_case g.under)))))

  pub report-fits : (r : List ℕ) (rs : List (List ℕ)) → is_report r ≡ true → Fine (filled text) r → Each (Fine (filled text)) rs → Each Fits (rows_of (report_at_of text r rs))
  report-fits r rs k f fs =
      more (report-row text good r f.narrow (report-record (filled text) r (eqb-true (kind_of r) kind.report k) ∙ f.good) (map (suite_of text) (branches is_suite rs)))
      (rows-each suite_rows (λ s e. e) (map_each {Q = λ s. Each Fits (suite_rows s)} (suite_of text) suite-fits (each-branches is_suite fs)))
