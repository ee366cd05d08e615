-- The release sheet: what a list of counts, one a report, comes to (rules C4 to C6 and C9). Definitions only.
use Rattle.std.specs.Prelude.{ℕ, ◌+◌, ◌-◌, false, cond, List, [], ◌∷◌, length, leb}
use Rattle.tree_counts.specs.of_refusal.Refusal.{Outcome, accepted, refused, late, verdict_of, refusal_of}
use Rattle.tree_counts.specs.of_refusal.declared.Cause.TheVariants as cause
use Rattle.tree_counts.specs.Counts.{are_counts, added}
use Rattle.tree_counts.specs.declared.Counts.{Counts}
use Rattle.sheet_sums.specs.declared.Sheet.{Sheet}
use Rattle.sheet_sums.specs.declared.Released.{Released}

-- the sums of no report: `disabled` is missing (rule C5)
abbrev pub no_counts : Counts
no_counts = record { tests = 0; failures = 0; errors = 0; skipped = 0; disabled = 0; presence = false }

-- the exact sums: a missing `disabled` adds nothing, and the sum has one if one of them has (rules C2 and C5)
abbrev pub sum_of : List Counts → Counts
sum_of [] = no_counts
sum_of (c ∷ cs) = added c (sum_of cs)

-- the tests without failure, error or skip: 0 where the three together exceed the tests (rule C6)
abbrev pub passed_of : Counts → ℕ
passed_of c = c.tests - (c.failures + (c.errors + c.skipped))

abbrev pub sheet_of : Counts → Sheet
sheet_of c = record { sums = c; passed = passed_of c }

-- more than 4,096 reports, then a sum past the limit of a count (rules C4, C5 and C9)
unfoldable pub release_sheet : List Counts → Outcome Sheet
release_sheet cs =
    cond (leb (length cs) 4096)
    (cond (are_counts (sum_of cs)) (accepted (sheet_of (sum_of cs))) (refused (late cause.CountLimit)))
    (refused (late cause.TooManyReports))

-- no sheet at a refusal (rule C9)
abbrev pub no_sheet : Sheet
no_sheet = record { sums = no_counts; passed = 0 }

abbrev pub sheet_in : Outcome Sheet → Sheet
sheet_in (accepted s) = s
sheet_in (refused r) = no_sheet

-- the answer whole
abbrev pub released_from : Outcome Sheet → Released
released_from a = record { verdict = verdict_of a; sheet = sheet_in a; refusal = refusal_of a }
