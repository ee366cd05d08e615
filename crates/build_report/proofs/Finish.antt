-- The end of a report: the open suite is added to the sums. Assumes nothing.
use Prim.Native.Nat.{ℕ}
use mathlib.Core.Bool.{true}
use mathlib.Core.List.{List, [], ◌∷◌}
use mathlib.Core.Path.{◌≡◌, refl, sym, subst}
use Rattle.tree_placed.specs.of_refusal.Refusal.{nowhere, accepted}
use Rattle.tree_placed.specs.of_refusal.declared.Cause.TheVariants as cause
use Rattle.tree_placed.specs.of_tree_record.Kinds as kind
use Rattle.tree_placed.specs.of_tree_report.Report.{Report}
use Rattle.tree_placed.specs.of_tree_report.inside.Cells.{report_row}
use Rattle.build_draft.specs.declared.Builder.{Builder}
use Rattle.build_draft.specs.Draft.{is_of, with_builder}
use Rattle.build_draft.specs.Calls as call
use Rattle.build_report.specs.Operations as report
use Rattle.build_report.specs.Stands.{Stands, Comes, gives, Finished}
use Rattle.build_report.specs.Builders.{are_numbers}
use Rattle.build_report.proofs.SpotTypes.{Spot}
use Rattle.build_report.proofs.Storing.{is-of-at}
use Rattle.build_report.proofs.Coming.{comes-anyway}
use Rattle.build_report.proofs.Spots.{spot-report}
use Rattle.build_report.proofs.Summing.{comes-summing}
use Rattle.build_report.proofs.Means.{stored-holds}

-- the report's record is there
pub is-report : {b : Builder} {words text : List ℕ} {r : Report} → Stands b words text r → is_of b words b.report kind.report ≡ true
is-report {r = r} n =
    is-of-at n.stored (subst (λ (i : ℕ). Spot r i (report_row r) r (report_row r)) (sym n.marks.report) (spot-report r r refl)) kind.report

pub finish : {b : Builder} {words text : List ℕ} {r : Report} → Stands b words text r
    → Comes (Finished (report.summed r)) ((are_numbers (report.summed r).counts, cause.CountLimit) ∷ []) (call.finish (record { builder = b; words = words; text = text }))
unfolding call.finish
finish {b} {words} {text} {r} n =
    comes-anyway (is_of b words b.report kind.report) cause.NotLayout (is-report n)
    (comes-summing n (λ e. accepted (with_builder e (call.marks nowhere nowhere nowhere nowhere e.builder)))
    (λ words' s l. gives (record { means = stored-holds s; ended = record { report = refl; suite = refl; case = refl; main = refl } })))
