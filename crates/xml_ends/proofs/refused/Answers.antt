use Rattle.xml_ends.proofs.Answers.{is-doctype, not-doctype, no-bang}
use Rattle.xml_ends.proofs.refused.Goals as goal
use Rattle.xml_ends.proofs.refused.Goals.{then-st+else-is_doctype, else-st}

pub returns-then-is_doctype : goal.returns-then-is_doctype
returns-then-is_doctype c =
    let a = c.args in
    is-doctype a.st a.at a.words a.source.now c.wide.ensures c.if-st.true c.is_doctype.ensures c.if-is_doctype.true c.less.ensures

pub returns : goal.returns
returns c =
    let p₁ = c in
    let a = p₁.args in
    elim c.if-st.branch [
      | then-st+else-is_doctype w ↦ not-doctype a.st a.at a.words a.source.now w.wide.ensures w.if-st.true w.is_doctype.ensures w.if-is_doctype.false c.broken.ensures
      | else-st w ↦ no-bang a.st a.at a.words a.source.now w.if-st.false c.broken.ensures
    ]
