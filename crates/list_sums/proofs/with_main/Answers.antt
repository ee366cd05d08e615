use Rattle.list_sums.proofs.Sums.{main-kept, main-first}
use Rattle.list_sums.proofs.with_main.Goals as goal

pub returns-then-s : goal.returns-then-s
returns-then-s c = main-kept c.args.s c.args.r.now c.if-s.true

pub returns : goal.returns
returns c =
    let args = c.args in
    rw (c.field.ensures, c.has_bit.ensures) (main-first args.s args.r.now c.if-s.false)
