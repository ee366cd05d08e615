use Rattle.trim.proofs.Trimming.{begins-stray, begins-char}
use Rattle.trim.proofs.first_of.Goals as goal

pub returns-then-w-eq0 : goal.returns-then-w-eq0
returns-then-w-eq0 c = begins-stray c.args.s.now _ c.requires c.char_width-w.ensures c.if-w-eq0.true

pub returns : goal.returns
returns c =
    let start = c in
    begins-char start.args.s.now _ start.requires c.char_width-w.ensures _ _ c.if-w-eq0.false c.scalar_of.ensures c.is_white.ensures
