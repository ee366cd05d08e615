use Rattle.xml_ends.specs.of_xml_state.inside.Tables.{class_rows, next_rows, act_rows}
use mathlib.Core.Path.{refl}
use Rattle.tokenizer.proofs.run.Goals as goal

pub run_with-requires : goal.run_with-requires
unfolding class_rows next_rows act_rows
run_with-requires c =
    let pre = c.requires in
    record { source_len_bound = pre.source_len_bound; events_value = pre.events_value; classes_value = (refl, refl, refl) }
