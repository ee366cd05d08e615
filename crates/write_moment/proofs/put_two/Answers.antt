use Rattle.write_moment.proofs.Spelling.{two-stored}
use Rattle.write_moment.proofs.put_two.Goals as goal

pub returns : goal.returns
returns c = let a = c.args in two-stored a.bytes.now a.at a.n
