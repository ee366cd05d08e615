-- What the code of the release sheet does report by report. It only ties the code to the definition. Definitions only.
use Rattle.std.specs.Prelude.{ℕ, cond, List, [], ◌∷◌, leb, Result, Ok, Err}
use Rattle.tree_counts.specs.of_refusal.Refusal.{Outcome, accepted, refused, late}
use Rattle.tree_counts.specs.of_refusal.declared.Cause.TheVariants as cause
use Rattle.tree_counts.specs.Counts.{with_suite}
use Rattle.tree_counts.specs.declared.Counts.{Counts}
use Rattle.sheet_sums.specs.Sheet.{no_counts, sheet_of}
use Rattle.sheet_sums.specs.declared.Sheet.{Sheet}

abbrev pub taken_of : ℕ → ℕ
taken_of n = cond (leb n 4096) n 0

abbrev pub begun : Result Counts Counts
begun = Ok no_counts

abbrev pub step_of : Counts → Outcome Counts → Result Counts Counts
step_of s (accepted n) = Ok n
step_of s (refused r) = Err s

-- one report more; past the limit the sums stay
unfoldable pub totalled : Result Counts Counts → Counts → Result Counts Counts
totalled (Ok s) c = step_of s (with_suite s c)
totalled (Err s) c = Err s

abbrev pub onward : Result Counts Counts → List Counts → Result Counts Counts
onward t [] = t
onward t (c ∷ cs) = onward (totalled t c) cs

abbrev pub within : Result Counts Counts → Outcome Sheet
within (Ok s) = accepted (sheet_of s)
within (Err s) = refused (late cause.CountLimit)

abbrev pub finished : ℕ → Result Counts Counts → Outcome Sheet
finished n t = cond (leb n 4096) (within t) (refused (late cause.TooManyReports))
