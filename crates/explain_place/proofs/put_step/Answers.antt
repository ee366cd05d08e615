use Prim.Native.Nat.{ℕ}
use mathlib.Core.List.{List, ◌++◌}
use mathlib.Core.Path.{ap}
use Rattle.explain_element.proofs.of_list_text.Putting.{more, other}
use Rattle.explain_element.specs.of_explain_text.Explanation.{element_text}
use Rattle.explain_place.proofs.Walking.{first-mark, other-mark}
use Rattle.explain_place.proofs.put_step.Goals as goal

pub returns-then-i-eq0 : goal.returns-then-i-eq0
returns-then-i-eq0 c =
    let if1 = c.if-i-eq0 in
    let put = c.put-mark in
    let a = c.args in
    other (more put.ensures c.put_element.ensures)
    (ap (λ (l : List ℕ). l ++ element_text a.events.now a.attributes.now a.source.now a.e) (first-mark a.i if1.true))

pub returns : goal.returns
returns c =
    let if1 = c.if-i-eq0 in
    let put2 = c.put-mark-2 in
    let a = c.args in
    other (more put2.ensures c.put_element-2.ensures)
    (ap (λ (l : List ℕ). l ++ element_text a.events.now a.attributes.now a.source.now a.e) (other-mark a.i if1.false))
