use Rattle.key_sort.proofs.Running.{first-none, second_none, both_some}
use Rattle.key_sort.specs.inside.Numbers.{numbers_in}
use Rattle.clean_order.specs.inside.CleanOrder.{comes_by}
use mathlib.Core.Path.{ap, ◌∙◌}
use lib.ListN.{get_or}
use Prim.Native.Nat.{ℕ}
use Rattle.key_sort.proofs.takes_first.Goals as goal

pub returns-then-i-h : goal.returns-then-i-h
returns-then-i-h c =
    let start = c in
    let s = start.args in let p = start.requires in
    first-none (comes_by s.clean s.attributes.now s.source.now) (numbers_in s.bytes.now) s.i s.h s.j s.n p.n_in_bounds p.h_le_j p.j_le_n c.if-i-h.true

pub returns-then-j-n : goal.returns-then-j-n
returns-then-j-n c =
    let start = c in
    let s = start.args in let p = start.requires in second_none (comes_by s.clean s.attributes.now s.source.now) (numbers_in s.bytes.now)
    s.i s.h s.j s.n p.n_in_bounds p.h_le_j p.j_le_n p.i_le_h c.if-i-h.false c.if-j-n.true

pub returns : goal.returns
returns c =
    let start = c in
    let if1 = c.if-i-h in
    let s = start.args in let p = start.requires in let w = numbers_in s.bytes.now in c.comes_by.ensures
    ∙ ap (λ (x : ℕ). comes_by s.clean s.attributes.now s.source.now x c.number_at-2.result) c.number_at.ensures.value
    ∙ ap (comes_by s.clean s.attributes.now s.source.now (get_or (numbers_in s.bytes.now) s.i 0)) c.number_at-2.ensures.value
    ∙ both_some (comes_by s.clean s.attributes.now s.source.now) (numbers_in s.bytes.now) s.i s.h s.j
    s.n p.n_in_bounds p.h_le_j p.j_le_n p.i_le_h if1.false c.if-j-n.false
