use Rattle.read_indexed.proofs.of_read_plain.Plainly.{plain-none}
use Rattle.read_all.proofs.plain_of.Goals as goal

pub returns-then-few : goal.returns-then-few
returns-then-few c =
    let args = c.args in
    plain-none args.attributes.now args.source.now args.range.first
