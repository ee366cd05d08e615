use mathlib.Core.Path.{ap, ◌∙◌}
use Rattle.names.proofs.of_area.Parts.{rest_part}
use Rattle.digits.specs.Digits.{number_in}
use Rattle.reference.proofs.Naming.{hexadecimal-number, decimal-number}
use Rattle.reference.proofs.number_of.Goals as goal

pub returns-then-name-eq120 : goal.returns-then-name-eq120
returns-then-name-eq120 c = let s = c.args.name.now in
    c.hexadecimal.ensures ∙ ap (number_in 16 0x10FFFF) (rest_part s 2) ∙ hexadecimal-number s 0x10FFFF c.if-name-eq120.true

pub returns : goal.returns
returns c =
    let s = c.args.name.now in c.decimal.ensures ∙ ap (number_in 10 0x10FFFF) (rest_part s 1) ∙ decimal-number s 0x10FFFF c.if-name-eq120.false
