use Rattle.xml_skip.proofs.Passing.{pass-none, pass-byte, pass-then}
use native.Mathlib.Omega.{arith}
use Rattle.xml_skip.proofs.ahead.Goals as goal

pub returns-then-m-eq46 : goal.returns-then-m-eq46
returns-then-m-eq46 c =
    let pre = c.requires in
    (omega (arith, c.skip.ensures.0), pass-then (pass-byte (pass-none _ _ _) pre.from_in_bounds _ pre.m_value c.if-m-eq46.true c.if-m-mode.false) c.skip.ensures.1)

pub returns : goal.returns
returns c = (omega (arith, c.skip-2.ensures.0), pass-then c.loose_width-w.ensures.1 c.skip-2.ensures.1)
