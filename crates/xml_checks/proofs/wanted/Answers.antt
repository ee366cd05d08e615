use Rattle.xml_checks.proofs.EndNames.{other_byte, name-goes, name-ends}
use Rattle.xml_checks.proofs.wanted.Goals as goal

pub returns-then-b-byte_at : goal.returns-then-b-byte_at
returns-then-b-byte_at c =
    let a = c.args in
    other_byte a.st a.b a.at a.source.now c.less-k.ensures c.wide.ensures c.wide-2.ensures c.byte_at.ensures c.if-b-byte_at.true

pub returns-then-wide : goal.returns-then-wide
returns-then-wide c =
    let p₁ = c in
    let p₂ = p₁ in
    let p₃ = p₂ in
    let p₄ = p₃ in
    let p₅ = p₄ in
    let p₆ = p₅ in
    let p₇ = p₆ in
    let a = p₇.args in
    name-goes a.st a.b a.at a.source.now p₆.less-k.ensures p₅.wide.ensures p₄.wide-2.ensures p₃.byte_at.ensures p₂.if-b-byte_at.false p₁.wide-3.ensures c.wide-4.ensures c.if-wide.true

pub returns : goal.returns
returns c =
    let p₁ = c in
    let p₂ = p₁ in
    let p₃ = p₂ in
    let p₄ = p₃ in
    let p₅ = p₄ in
    let p₆ = p₅ in
    let p₇ = p₆ in
    let p₈ = p₇ in
    let a = p₈.args in
    name-ends a.st a.b a.at a.source.now p₇.less-k.ensures p₆.wide.ensures p₅.wide-2.ensures p₄.byte_at.ensures p₃.if-b-byte_at.false p₂.wide-3.ensures p₁.wide-4.ensures c.if-wide.false c.into.ensures
