use mathlib.Core.Path.{ap, ◌∙◌}
use Prim.Native.Nat.{ℕ, ◌+◌}
use mathlib.Core.List.{List}
use lib.ListN.{set}
use Rattle.tree_put.proofs.Puts.{pair-none}
use Rattle.tree_put.proofs.put_pair.Goals as goal

pub returns-then-words-o : goal.returns-then-words-o
returns-then-words-o c =
    let a = c.args in
    pair-none a.o a.a a.b a.words.now c.if-words-o.true

pub returns : goal.returns
returns c =
    let p₁ = c in
    let a = p₁.args in
    c.put_field-2.ensures ∙ ap (λ (x : List ℕ). set x (a.o + 1) a.b) p₁.put_field.ensures
