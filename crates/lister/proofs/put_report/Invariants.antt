use Prim.Native.Nat.{◌-◌}
use lib.ListN.{length}
use Rattle.list_suites.proofs.of_list_case.Going.{Seeking}
use Rattle.lister.specs.inside.Shown.{report_shown}
use Rattle.lister.proofs.put_report.Given as goal

abbrev pub invariant-loop-end : goal.invariant-loop-end
invariant-loop-end l = Seeking (report_shown l.text) l.initial.out l.words l.out l.at

abbrev pub decreases-loop-end : goal.decreases-loop-end
decreases-loop-end l = length l.words - l.at
