use Rattle.xml_acts.proofs.FurtherBytes.{taken, untaken, when_none-left, when_some-left}
use Rattle.xml_acts.proofs.further.Goals as goal
use Rattle.xml_acts.proofs.further.Goals.{then-p-eq0, else-p-eq0}

pub returns-after-p-eq0 : goal.returns-after-p-eq0
returns-after-p-eq0 c =
    let p₁ = c in
    let p₂ = p₁ in
    let p₃ = p₂ in
    let a = p₃.args in
    taken a.st a.b p₂.follow.ensures p₁.in-Some.is (elim c.if-p-eq0.branch [ then-p-eq0 w ↦ when_none-left a.st.mode w.if-p-eq0.true w.s-is | else-p-eq0 w ↦ when_some-left a.st.then w.if-p-eq0.false w.s-is ])

pub returns-in-None : goal.returns-in-None
returns-in-None c = untaken c.args.st c.args.b c.follow.ensures c.in-None.is
