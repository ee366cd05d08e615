use Rattle.xml_acts.proofs.Letters.{letter-exact, letter-lower, other-letter, word-ends, mark-ends, word-goes}
use Rattle.xml_part.specs.of_xml_state.inside.Acts.{words}
use mathlib.Core.Path.{◌∙◌}
use Rattle.xml_acts.proofs.spelled.Goals as goal
use Rattle.xml_acts.proofs.spelled.Goals.{then-word-lt44, else-word-lt44}

pub returns-then-byte-byte_at : goal.returns-then-byte-byte_at
unfolding words
returns-then-byte-byte_at c =
    let p₁ = c in
    let p₂ = p₁ in
    let p₃ = p₂ in
    let a = p₃.args in
    other-letter a.st a.b a.at p₂.short-word.ensures.0 (elim c.if-word-lt44.branch [ then-word-lt44 w ↦ letter-exact w.if-word-lt44.true w.byte-is | else-word-lt44 w ↦ letter-lower a.b w.if-word-lt44.false (w.byte-is ∙ w.lower-byte.ensures) ]) c.byte_at.ensures c.if-byte-byte_at.true

pub returns-in-10 : goal.returns-in-10
unfolding words
returns-in-10 c =
    let p₁ = c in
    let p₂ = p₁ in
    let p₃ = p₂ in
    let p₄ = p₃ in
    let p₅ = p₄ in
    let p₆ = p₅ in
    let a = p₆.args in
    word-ends a.st a.b a.at p₅.short-word.ensures.0 (elim c.if-word-lt44.branch [ then-word-lt44 w ↦ letter-exact w.if-word-lt44.true w.byte-is | else-word-lt44 w ↦ letter-lower a.b w.if-word-lt44.false (w.byte-is ∙ w.lower-byte.ensures) ]) p₃.byte_at.ensures p₂.if-byte-byte_at.false p₁.byte_at-2.ensures c.in-10.is c.into.ensures

pub returns-in-9 : goal.returns-in-9
unfolding words
returns-in-9 c =
    let p₁ = c in
    let p₂ = p₁ in
    let p₃ = p₂ in
    let p₄ = p₃ in
    let p₅ = p₄ in
    let p₆ = p₅ in
    let a = p₆.args in
    mark-ends a.st a.b a.at p₅.short-word.ensures.0 (elim c.if-word-lt44.branch [ then-word-lt44 w ↦ letter-exact w.if-word-lt44.true w.byte-is | else-word-lt44 w ↦ letter-lower a.b w.if-word-lt44.false (w.byte-is ∙ w.lower-byte.ensures) ]) p₃.byte_at.ensures p₂.if-byte-byte_at.false p₁.byte_at-2.ensures c.in-9.is c.marked.ensures

pub returns-in_default : goal.returns-in_default
unfolding words
returns-in_default c =
    let p₁ = c in
    let p₂ = p₁ in
    let p₃ = p₂ in
    let p₄ = p₃ in
    let p₅ = p₄ in
    let p₆ = p₅ in
    let a = p₆.args in
    word-goes a.st a.b a.at p₅.short-word.ensures.0 (elim c.if-word-lt44.branch [ then-word-lt44 w ↦ letter-exact w.if-word-lt44.true w.byte-is | else-word-lt44 w ↦ letter-lower a.b w.if-word-lt44.false (w.byte-is ∙ w.lower-byte.ensures) ]) p₃.byte_at.ensures p₂.if-byte-byte_at.false p₁.byte_at-2.ensures c.in_default.in_default-own.rest.0.1 c.in_default.in_default-own.rest.1 c.next_letter.ensures
