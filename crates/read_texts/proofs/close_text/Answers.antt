use lib.ListN.{take, drop, length}
use native.Mathlib.Omega.{arith}
use Prim.Native.Nat.{◌+◌, ◌-◌}
use mathlib.Core.Path.{refl}
use Rattle.read_content.specs.of_read_place.inside.Coded.{marks_of}
use Rattle.read_content.specs.of_read_state.inside.Coded.{level_of, output_of}
use Rattle.read_content.specs.Content.{cleaned}
use Rattle.read_texts.proofs.Keeping.{end_fits, output-kept}
use Rattle.read_texts.proofs.close_text.Goals as goal

pub kept_text-requires : goal.kept_text-requires
kept_text-requires c =
    let args = c.args in
    let pre = c.requires in
    let keep-text = c.keep_text-stored in
    let h = end_fits keep-text.result (length args.text.now) args.content.fill (cleaned (take (args.content.child + args.content.gathered - args.content.child)
    (drop args.content.child args.scratch.now))) pre.fill_in_bounds keep-text.ensures.result_value in let l = pre.text_len_bound in omega arith

pub returns : goal.returns
returns c =
    let args = c.args in
    let is-taken = c.is_taken in
    let record_of = c.record_of in
    let word-of-output = c.word_of_output in
    let bit-of-output = c.bit_of_output in
    let keep-text = c.keep_text-stored in
    λ rooms p s attributes source pa hd li sz. output-kept hd sz p pa (marks_of args.marks) (level_of args.level) (output_of args.output) li is-taken.ensures record_of.ensures
    word-of-output.ensures bit-of-output.ensures refl keep-text.result keep-text.ensures.result_value keep-text.ensures.records_after keep-text.ensures.text_after c.kept_text.ensures
