use Prim.Native.Nat.{◌≤◌, ◌+◌}
use native.Mathlib.Omega.{arith}
use mathlib.Core.Path.{refl}
use Rattle.read_texts.proofs.kept_text.Goals as goal

pub overflow_add-result : goal.overflow_add-result
overflow_add-result c =
    let h : c.args.content.fill + c.in-Some.n ≤ 16777216 = (rw c.in-Some.is at c.requires) in omega arith

pub returns : goal.returns
returns c = rw c.in-Some.is refl

pub returns-in_default : goal.returns-in_default
returns-in_default c = rw c.in_default.is c.refused.ensures
