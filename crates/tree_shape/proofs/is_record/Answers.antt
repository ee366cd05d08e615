use mathlib.Core.Path.{sym, ◌∙◌}
use native.Mathlib.Omega.{arith}
use borrow.Author.Tests.{lt-leb, le-leb}
use lib.ListN.{length}
use lib.Seq.{length-take-le}
use Rattle.tree_shape.specs.inside.Records.{is_record}
use Rattle.tree_shape.proofs.is_record.Goals as goal

pub returns-then-words-lt32 : goal.returns-then-words-lt32
unfolding is_record
returns-then-words-lt32 c = simp (lt-leb 32 (length c.args.words.now) (omega arith))

pub slice_bounds-good_record-end : goal.slice_bounds-good_record-end
slice_bounds-good_record-end c =
    let args = c.args in
    sym (length-take-le 32 args.words.now (omega arith))

pub good_record-requires : goal.good_record-requires
good_record-requires c =
    let args = c.args in
    omega (arith, length-take-le 32 args.words.now (omega arith))

pub returns : goal.returns
unfolding is_record
returns c =
    let args = c.args in
    c.good_record.ensures ∙ simp (le-leb 32 (length args.words.now) (omega arith))
