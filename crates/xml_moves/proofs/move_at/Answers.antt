use Rattle.xml_moves.proofs.Moving.{class-length, read-least, next-inside, act-inside, read_up}
use lib.ListN.{length}
use native.Mathlib.Omega.{arith}
use mathlib.Core.Path.{ap, ◌∙◌}
use Prim.Native.Nat.{◌<◌}
use borrow.Author.Rules.{rules}
use Rattle.xml_moves.proofs.move_at.Goals as goal

pub bounds-classes-wide : goal.bounds-classes-wide
bounds-classes-wide c = let h : c.args.b < 256 = search rules in omega (arith, c.wide.ensures.0, ap length c.requires.classes_value.0 ∙ class-length, h)

pub overflow_sub-i-2 : goal.overflow_sub-i-2
overflow_sub-i-2 c =
    let p₁ = c in
    let p₂ = p₁ in
    let h : p₂.args.b < 256 = search rules in
    read-least p₂.requires.le_mode.0 p₂.requires.le_mode.1 h p₂.requires.classes_value.0 p₁.wide.ensures.0 c.wide-class.ensures.0 c.wide-2.ensures.0

pub bounds-nexts-i : goal.bounds-nexts-i
bounds-nexts-i c =
    let p₁ = c in
    let p₂ = p₁ in
    let p₃ = p₂ in
    let h : p₃.args.b < 256 = search rules in
    next-inside p₃.requires.le_mode.0 p₃.requires.le_mode.1 h p₃.requires.classes_value.0 p₂.wide.ensures.0 p₁.wide-class.ensures.0 c.wide-2.ensures.0 p₃.requires.classes_value.1

pub bounds-acts-i : goal.bounds-acts-i
bounds-acts-i c =
    let p₁ = c in
    let p₂ = p₁ in
    let p₃ = p₂ in
    let p₄ = p₃ in
    let h : p₄.args.b < 256 = search rules in
    act-inside p₄.requires.le_mode.0 p₄.requires.le_mode.1 h p₄.requires.classes_value.0 p₃.wide.ensures.0 p₂.wide-class.ensures.0 p₁.wide-2.ensures.0 p₄.requires.classes_value.2

pub returns : goal.returns
returns c =
    let p₁ = c in
    let p₂ = p₁ in
    let p₃ = p₂ in
    let p₄ = p₃ in
    let h : p₄.args.b < 256 = search rules in
    read_up p₄.requires.le_mode.0 p₄.requires.le_mode.1 h p₄.requires.classes_value.0 p₃.wide.ensures.0 p₂.wide-class.ensures.0 p₁.wide-2.ensures.0 p₄.requires.classes_value.1 p₄.requires.classes_value.2
