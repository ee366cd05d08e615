use mathlib.Core.Path.{sym, ◌∙◌}
use native.Mathlib.Omega.{arith}
use Rattle.xml_skip.proofs.Widths.{nothing-wide, two-wide, three-wide, four-wide}
use Rattle.xml_skip.proofs.width.Goals as goal

pub returns-then-n-lt2 : goal.returns-then-n-lt2
returns-then-n-lt2 c =
    let pre = c.requires in
    (omega (arith, pre), nothing-wide _ _)

pub returns-then-is_two : goal.returns-then-is_two
returns-then-is_two c =
    let pre = c.requires in
    (omega (arith, pre, c.if-n-lt2.false), two-wide _ _ (omega (arith, pre, c.if-n-lt2.false)) (sym c.is_two.ensures ∙ c.if-is_two.true))

pub returns-then-a-lt224 : goal.returns-then-a-lt224
returns-then-a-lt224 c =
    let pre = c.requires in
    (omega (arith, pre), nothing-wide _ _)

pub returns-then-n-lt3 : goal.returns-then-n-lt3
returns-then-n-lt3 c =
    let pre = c.requires in
    (omega (arith, pre), nothing-wide _ _)

pub returns-then-is_three : goal.returns-then-is_three
returns-then-is_three c =
    let pre = c.requires in
    let if4 = c.if-n-lt3 in
    (omega (arith, pre, if4.false), three-wide _ _ (omega (arith, pre, if4.false)) (sym c.is_three.ensures ∙ c.if-is_three.true))

pub returns-then-n-lt4 : goal.returns-then-n-lt4
returns-then-n-lt4 c =
    let pre = c.requires in
    (omega (arith, pre), nothing-wide _ _)

pub returns-then-is_four : goal.returns-then-is_four
returns-then-is_four c =
    let pre = c.requires in
    (omega (arith, pre, c.if-n-lt4.false), four-wide _ _ (omega (arith, pre, c.if-n-lt4.false)) (sym c.is_four.ensures ∙ c.if-is_four.true))

pub returns : goal.returns
returns c =
    let pre = c.requires in
    (omega (arith, pre), nothing-wide _ _)
