use mathlib.Core.Path.{◌≡◌}
use lib.ListN.{drop}
use Rattle.utf8.specs.Utf8.{ok, utf8}
use Rattle.utf8.proofs.is_run.Given as goal

abbrev pub invariant-loop-b : goal.invariant-loop-b
invariant-loop-b l = utf8 l.s ≡ ok (drop l.b-index l.s) l.k l.lo l.hi
