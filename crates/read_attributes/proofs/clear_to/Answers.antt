use Rattle.read_attributes.proofs.FreeKeys.{free-within}
use mathlib.Core.Path.{sym, ◌∙◌}
use Rattle.read_attributes.proofs.clear_to.Goals as goal

pub returns-then-is_within : goal.returns-then-is_within
returns-then-is_within c =
    let start = c in record {
      free_2 = free-within start.args.attributes.now start.args.source.now start.args.known
          start.args.range start.requires.free (sym c.is_within.ensures ∙ c.if-is_within.true);
      own_after = start.requires.own_value;
      spare_after = start.requires.spare_value;
    }

pub free_to-requires : goal.free_to-requires
free_to-requires c =
    let pre = c.requires in
    record { first_le_end = pre.first_le_end; end_in_bounds = pre.end_in_bounds; end_bound = pre.end_bound; work_value = pre.own_value; spare_value = pre.spare_value }
