use borrow.Author.Tests.{lt-ltb, le-ltb}
use Rattle.xml_checks.specs.of_xml_state.inside.Parts.{lead_of}
use Rattle.xml_part.proofs.lead.Goals as goal

pub returns-then-b-lt224 : goal.returns-then-b-lt224
unfolding lead_of
returns-then-b-lt224 c = let b = c.args.b in rw (lt-ltb b 0xE0 c.if-b-lt224.true, c.saturating_sub.ensures)

pub returns-then-b-lt240 : goal.returns-then-b-lt240
unfolding lead_of
returns-then-b-lt240 c = let b = c.args.b in rw (le-ltb b 0xE0 c.if-b-lt224.false, lt-ltb b 0xF0 c.if-b-lt240.true)

pub returns : goal.returns
unfolding lead_of
returns c = let b = c.args.b in rw (le-ltb b 0xE0 c.if-b-lt224.false, le-ltb b 0xF0 c.if-b-lt240.false)
