use mathlib.Core.Path.{ap, ◌∙◌}
use Rattle.std.proofs.Common.{rules}
use Rattle.std.specs.Slice.Iter.{chunks_rest}
use Rattle.escape.proofs.Spelling.{spelled-append}
use Rattle.names.proofs.of_area.Laying.{laying_on}
use Rattle.write_escape.specs.Escape.{written, escaped}
use Rattle.write_escape.proofs.Putting.{part-full, part-put}
use Rattle.write_escape.proofs.escape_into.Goals as goal

pub loop-block-preserved : goal.loop-block-preserved
loop-block-preserved c =
    let block = c.in-Some.block.now in
    let rest = chunks_rest c.next.new.self in
    let steps = c.in-Some.ensures.steps in (
      search rules,
      tt,
      part-put (escaped block) (escaped rest) (laying_on c.loop-block.invariant.2 (ap escaped steps.1.0 ∙ spelled-append written block rest)) _ _
          c.put_block.ensures.result_value c.put_block.ensures.out_after c.in_ok-n.n c.in_ok-n.was,
    )

pub returns-in_err-n-clause-result_value : goal.returns-in_err-n-clause-result_value
returns-in_err-n-clause-result_value c =
    let block = c.in-Some.block.now in
    let rest = chunks_rest c.next.new.self in
    let steps = c.in-Some.ensures.steps in
    let p = (part-full (escaped block) (escaped rest) (laying_on c.loop-block.invariant.2 (ap escaped steps.1.0 ∙ spelled-append written block rest)) _ _
    c.put_block.ensures.result_value c.put_block.ensures.out_after c.in_err-n.was).0 in
    rw c.from_residual.ensures p

pub returns-in_err-n-clause-out_after : goal.returns-in_err-n-clause-out_after
returns-in_err-n-clause-out_after c =
    let block = c.in-Some.block.now in
    let rest = chunks_rest c.next.new.self in
    let steps = c.in-Some.ensures.steps in
    (part-full (escaped block) (escaped rest) (laying_on c.loop-block.invariant.2 (ap escaped steps.1.0 ∙ spelled-append written block rest)) _ _
    c.put_block.ensures.result_value c.put_block.ensures.out_after c.in_err-n.was).1
