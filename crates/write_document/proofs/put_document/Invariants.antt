use Rattle.write_marks.specs.of_write_items.inside.Document.{document_in}
use Rattle.write_suite.proofs.of_write_rows.Going.{Going}
use Rattle.write_marks.specs.inside.Kept.{kept}
use lib.ListN.{length}
use Prim.Native.Nat.{◌-◌}
use Rattle.write_document.proofs.put_document.Given as goal

abbrev pub invariant-loop-end : goal.invariant-loop-end
invariant-loop-end l = Going (document_in l.text) (kept l.k l.initial.events l.initial.attributes l.initial.bytes) l.words (kept l.k l.events l.attributes l.bytes) l.at

abbrev pub decreases-loop-end : goal.decreases-loop-end
decreases-loop-end l = length l.words - l.at
