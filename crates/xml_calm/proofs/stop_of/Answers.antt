use borrow.Author.Tests.{ne_eqb}
use mathlib.Core.Path.{refl}
use Rattle.xml_calm.proofs.stop_of.Goals as goal

pub returns-in-50 : goal.returns-in-50
returns-in-50 c = rw c.in-50.is refl

pub returns-in-109 : goal.returns-in-109
returns-in-109 c = rw c.in-109.is refl

pub returns-in-110 : goal.returns-in-110
returns-in-110 c = rw c.in-110.is refl

pub returns-in_default : goal.returns-in_default
returns-in_default c =
    let m = c.args.mode in
    let n = c.in_default.in_default-own.rest in
    rw (ne_eqb m 0x32 n.0.0.1, ne_eqb m 0x6D n.0.1, ne_eqb m 0x6E n.1) refl
