use Rattle.port_refusal.proofs.Back.{cause-here, no-cause}
use Rattle.port_refusal.proofs.cause_at.Goals as goal

pub returns-then-i-lt27 : goal.returns-then-i-lt27
returns-then-i-lt27 c = cause-here c.args.code c.if-i-lt27.true

pub returns : goal.returns
returns c = no-cause c.args.code c.if-i-lt27.false
