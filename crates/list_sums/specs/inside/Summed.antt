-- What a case's status elements come to, found by going along its records once. Definitions only.
use Rattle.std.specs.Prelude.{ℕ, ◌+◌, List, [], ◌∷◌, Bool, true, false, cond, ◌&&◌, ◌||◌, length, leb, eqb}
use Rattle.list_text.specs.of_tree_record.Bits as bit
use Rattle.list_text.specs.of_tree_record.Kinds as kind
use Rattle.list_text.specs.of_tree_record.Record.{kind_of, has_bit}
use Rattle.list_text.specs.of_tree_report.Fields.{is_suite, is_case, is_main, is_run, time}
use Rattle.list_text.specs.of_tree_report.Report.{NonSuccessKind, failure, error}
use Rattle.list_text.specs.of_tree_report.ReportOf.{only, until}
use Rattle.list_text.specs.Listing.{Status, is_success, is_failure, is_error, is_skipped, RunKind, no_kind, flaky_kind, rerun_kind, PublicRun}
use Rattle.list_sums.specs.declared.Summary.{Summary}

-- what belongs to a case: the records behind it up to the next case or suite
abbrev pub own : List (List ℕ) → List (List ℕ)
own rs = until is_case (until is_suite rs)

abbrev pub ends_case : List ℕ → Bool
ends_case r = is_suite r || is_case r

-- of the first of the records, if there is one
abbrev pub is_some : List (List ℕ) → Bool
is_some [] = false
is_some (r ∷ rs) = true

abbrev pub kind_or : ℕ → List (List ℕ) → ℕ
kind_or k [] = k
kind_or k (r ∷ rs) = kind_of r

abbrev pub flag_or : Bool → List (List ℕ) → Bool
flag_or b [] = b
flag_or b (r ∷ rs) = has_bit bit.flaky r

-- s, then some mains and some runs: the first main and the first run count
unfoldable pub summed_on : Summary → List (List ℕ) → List (List ℕ) → Summary
summed_on s mains runs =
    record {
      settled = s.settled || is_some mains;
      main = cond s.settled s.main (kind_or s.main mains);
      flagged = cond s.settled s.flagged (flag_or s.flagged mains);
      run = cond (eqb s.runs 0) (kind_or s.run runs) s.run;
      runs = s.runs + length runs;
    }

abbrev pub summed_by : Summary → List (List ℕ) → Summary
summed_by s rs = summed_on s (only is_main rs) (only is_run rs)

abbrev pub unsummed : Summary
unsummed = record { settled = false; main = 0; flagged = false; run = 0; runs = 0 }

-- of a case, from the records behind it
abbrev pub summary : List (List ℕ) → Summary
summary rs = summed_by unsummed (own rs)

-- ---- what is shown of it
abbrev pub is_skipped_by : Summary → Bool
is_skipped_by s = s.settled && eqb s.main kind.skipped

unfoldable pub status_by : Summary → Status
status_by s = cond s.settled (cond (eqb s.main kind.skipped) is_skipped (cond (eqb s.main kind.failure) is_failure is_error)) is_success

-- Rerun where there are no runs (rule S11), but for the flaky bit
abbrev pub is_flaky_by : Summary → Bool
is_flaky_by s = cond s.settled (cond (eqb s.runs 0) s.flagged (leb s.run kind.flaky_error)) true

unfoldable pub kind_by : Summary → RunKind
kind_by s = cond (is_skipped_by s) no_kind (cond (is_flaky_by s) flaky_kind rerun_kind)

abbrev pub runs_by : Summary → ℕ
runs_by s = cond (is_skipped_by s) 0 s.runs

-- ---- runs
-- 9 flaky_failure, 11 rerun_failure; 10 and 12 are errors
abbrev pub run_kind_of : ℕ → NonSuccessKind
run_kind_of k = cond (eqb k kind.flaky_failure) failure (cond (eqb k kind.rerun_failure) failure error)

abbrev pub run_listed : List ℕ → PublicRun
run_listed r = record { kind = run_kind_of (kind_of r); time = time r }
