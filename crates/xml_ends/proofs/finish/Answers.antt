use Rattle.xml_ends.proofs.Answers.{finish-put, finish-full, finish-bad, cut_off}
use Rattle.xml_ends.proofs.finish.Goals as goal

pub returns-in-Go : goal.returns-in-Go
returns-in-Go c =
    let p₁ = c in
    let p₂ = p₁ in
    let p₃ = p₂ in
    let p₄ = p₃ in
    let p₅ = p₄ in
    let a = p₅.args in
    finish-put a.st a.at a.events.now p₃.act_text.new.events p₄.if-st-eq-TEXT_AFTER.true p₃.act_text.ensures p₁.put_eof.new.events p₂.in-Go.is p₁.put_eof.ensures

pub returns-in-Full : goal.returns-in-Full
returns-in-Full c =
    let a = c.args in
    finish-full a.st a.at a.events.now c.act_text.new.events c.if-st-eq-TEXT_AFTER.true c.act_text.ensures c.in-Full.is

pub returns-in-Bad : goal.returns-in-Bad
returns-in-Bad c =
    let a = c.args in
    finish-bad a.st a.at a.events.now c.act_text.new.events c.if-st-eq-TEXT_AFTER.true c.act_text.ensures c.in-Bad.is

pub returns : goal.returns
returns c =
    let a = c.args in
    cut_off a.st a.at a.events.now c.if-st-eq-TEXT_AFTER.false c.broken.ensures
