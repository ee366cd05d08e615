-- The runs of a case are read back. Assumes nothing.
use Prim.Native.Nat.{ℕ}
use mathlib.Core.List.{List, [], ◌∷◌}
use Rattle.round_elements.specs.of_tree_status.declared.Tally.{Tally}
use Rattle.round_elements.specs.of_tree_report.Report.{FlakyOrRerun, TestRerun}
use Rattle.round_elements.proofs.of_tree_report.EncodeLists.{Each, done, more as others}
use Rattle.round_elements.specs.of_read_state.Control.{case, at}
use Rattle.round_elements.specs.of_read_machine.Machine.{Machine}
use Rattle.round_elements.specs.of_write_report.Written.{each, serialize_rerun}
use Rattle.round_elements.proofs.Gathered.{run_on}
use Rattle.round_case.specs.inside.Amid.{Reads, Between, Adds}
use Rattle.round_case.specs.inside.Kept.{RunsWhole, none, more, runs_tally}
use Rattle.round_case.proofs.Following.{reads_none, reads_then, reads_as}
use Rattle.round_case.proofs.Runs.{RunClean, run-reads}
use Rattle.round_case.proofs.Rows.{adds_none, adds-joined, holder-between}

module _ {family : FlakyOrRerun} {i k : ℕ} where
  pub runs-read : {n : ℕ} {tally : Tally} {records : List (List ℕ)} {texts : List ℕ} {s : Machine} {es : List TestRerun} → Each (RunClean family) es → Between (at case) tally i k records texts s
      → Reads n (each (serialize_rerun family) es) s (Adds (at case) (runs_tally family es tally) i k records texts (λ t rs. RunsWhole family t rs es))
  runs-read done b = reads_none (adds_none none b)
  runs-read {n = n} {tally = tally} {records = records} {texts = texts} {s = s} (others {x = e} {xs = es} c cs) b =
      reads_then (serialize_rerun family e) (each (serialize_rerun family) es) (run-reads c b.amid) (λ j t h.
      reads_as (runs-read {n = j} cs (holder-between b.suite_at_of b.case_at_of h)) (λ u a.
      adds-joined (h.row ∷ []) h.added (λ v rs y. more (run_on v h.shown) y) a))
