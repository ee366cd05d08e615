-- Sheets worked out. Assumes nothing.
use Prim.Native.Nat.{ℕ, ◌-◌}
use mathlib.Core.Path.{◌≡◌, refl}
use mathlib.Core.Bool.{true, false}
use mathlib.Core.List.{[], ◌∷◌}
use lib.ListN.{replicate}
use Rattle.tree_counts.specs.of_refusal.Refusal.{Outcome, accepted, refused, late, empty_path}
use Rattle.tree_counts.specs.of_refusal.declared.Cause.TheVariants as cause
use Rattle.tree_counts.specs.of_refusal.declared.Verdict.TheVariants.{Refused}
use Rattle.tree_counts.specs.declared.Counts.{Counts}
use Rattle.sheet_sums.specs.declared.Sheet.{Sheet}
use Rattle.sheet_sums.specs.Sheet.{no_counts, no_sheet, release_sheet, released_from}

-- tests, failures, errors, skipped; with `disabled`, or without it and d in its word
abbrev with : ℕ → ℕ → ℕ → ℕ → ℕ → Counts
with t f e s d = record { tests = t; failures = f; errors = e; skipped = s; disabled = d; presence = true }

abbrev without : ℕ → ℕ → ℕ → ℕ → ℕ → Counts
without t f e s d = record { tests = t; failures = f; errors = e; skipped = s; disabled = d; presence = false }

abbrev sheet : Counts → ℕ → Outcome Sheet
sheet c p = accepted (record { sums = c; passed = p })

abbrev most : ℕ
most = 18446744073709551615

-- no report at all, and two
none : release_sheet [] ≡ sheet no_counts 0
unfolding release_sheet
none = refl

two : release_sheet (with 5 1 0 1 4 ∷ with 4 0 2 0 3 ∷ []) ≡ sheet (with 9 1 2 1 7) 5
unfolding release_sheet
two = refl

-- a missing `disabled` adds nothing, whatever stands in its word; one that is 0 is there
some-missing : release_sheet (without 1 0 0 0 9 ∷ with 1 0 0 0 0 ∷ []) ≡ sheet (with 2 0 0 0 0) 2
unfolding release_sheet
some-missing = refl

all-missing : release_sheet (without 1 0 0 0 9 ∷ without 1 0 0 0 most ∷ []) ≡ sheet (without 2 0 0 0 0) 2
unfolding release_sheet
all-missing = refl

-- the three together below, at and above the tests, and past the limit of a count
some-passed : release_sheet (without 4 1 1 1 0 ∷ []) ≡ sheet (without 4 1 1 1 0) 1
unfolding release_sheet
some-passed = refl

none_passed : release_sheet (without 3 1 1 1 0 ∷ []) ≡ sheet (without 3 1 1 1 0) 0
unfolding release_sheet
none_passed = refl

exceeded : release_sheet (without 3 0 0 4 0 ∷ []) ≡ sheet (without 3 0 0 4 0) 0
unfolding release_sheet
exceeded = refl

three-past : release_sheet (with most most most most most ∷ []) ≡ sheet (with most most most most most) 0
unfolding release_sheet
three-past = refl

-- sums at the limit, and one more
at-limit : release_sheet (with 1 0 0 0 most ∷ without (most - 1) 0 0 0 1 ∷ []) ≡ sheet (with most 0 0 0 most) most
unfolding release_sheet
at-limit = refl

past-tests : release_sheet (without 1 0 0 0 0 ∷ without most 0 0 0 0 ∷ []) ≡ refused (late cause.CountLimit)
unfolding release_sheet
past-tests = refl

past-disabled : release_sheet (with 0 0 0 0 most ∷ with 0 0 0 0 1 ∷ []) ≡ refused (late cause.CountLimit)
unfolding release_sheet
past-disabled = refl

-- 4,096 reports, and one more: 11 also where a sum would pass the limit
as_many : release_sheet (replicate 4096 (without 1 0 0 0 0)) ≡ sheet (without 4096 0 0 0 0) 4096
unfolding release_sheet
as_many = refl

too_many : release_sheet (replicate 4097 (without most 0 0 0 0)) ≡ refused (late cause.TooManyReports)
unfolding release_sheet
too_many = refl

-- the whole answer at a refusal
refused-whole : released_from (refused (late cause.CountLimit))
    ≡ record { verdict = Refused; sheet = no_sheet; refusal = record { cause = cause.CountLimit; path = empty_path; event = 4294967295; attribute = 4294967295 } }
refused-whole = refl
