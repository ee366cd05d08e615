use Rattle.xml_skip.specs.inside.Passes.{Keeps}
use Rattle.xml_checks.specs.of_xml_state.inside.Rows as row
use lib.ListN.{length}
use Prim.Native.Nat.{max, ◌≤◌}
use mathlib.Core.Path.{◌≡◌}
use Rattle.xml_skip.proofs.pass_name.Given as goal

abbrev pub invariant-loop-at : goal.invariant-loop-at
invariant-loop-at l = (l.from ≤ l.at) × (l.at ≤ max l.from (length l.source)) × (l.st.mode ≡ row.end_name) × Keeps l.source l.st l.from l.at
