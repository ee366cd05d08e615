use Rattle.digits.proofs.Printing.{counting-start, counting_more, counting-done}
use Rattle.digits.proofs.places_of.Goals as goal

pub loop-rest-init : goal.loop-rest-init
loop-rest-init c = counting-start c.args.n c.ranges.n.fits

pub loop-rest-preserved : goal.loop-rest-preserved
loop-rest-preserved c = counting_more c.loop-rest.invariant c.loop-rest-test.true

pub returns : goal.returns
returns c = counting-done c.loop-rest.invariant c.loop-rest-test.false
