use Rattle.tree_report.specs.inside.Parts.{good_text_at}
use Rattle.tree_slots.proofs.is_text.Goals as goal

pub returns : goal.returns
unfolding good_text_at
returns c = cc
