use mathlib.Core.Path.{refl}
use native.Mathlib.Omega.{arith}
use Rattle.text.proofs.Cleaning.{cleaned-drop, cleaned-keep}
use Rattle.text.proofs.decode.byte_piece.Goals as goal

pub returns-then-clean-is_dropped : goal.returns-then-clean-is_dropped
returns-then-clean-is_dropped c =
    let a = c.args in
    let d = c.is_dropped in
    record { fits = omega arith; front = cleaned-drop a.clean d.result a.b d.ensures c.if-clean-is_dropped.true; takes = refl }

pub returns : goal.returns
returns c =
    let a = c.args in
    let d = c.is_dropped in
    record { fits = omega arith; front = cleaned-keep a.clean d.result a.b d.ensures c.if-clean-is_dropped.false; takes = refl }
