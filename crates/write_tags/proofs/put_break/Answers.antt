use Rattle.list_values.proofs.of_list_text.Putting.{more, other}
use Rattle.write_tags.proofs.Tags.{break-parts}
use mathlib.Core.Path.{ap}
use Prim.Native.Nat.{ℕ, ◌+◌, ◌-◌, ◌*◌}
use Rattle.write_tags.proofs.put_break.Goals as goal

pub returns : goal.returns
returns c =
    let args = c.args in
    let least = c.min-near in
    let left_out = c.left_out-from in
    let part_of = c.part_of in
    let put = c.put-led in
    other (more (other put.ensures part_of.ensures) c.put_levels.ensures)
    (break-parts args.form args.level left_out.result _ _ left_out.ensures (ap (λ (n : ℕ). 3 - left_out.result + n * 4) least.ensures)
    (ap (λ (n : ℕ). args.level - n) least.ensures))
