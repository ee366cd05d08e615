use Prim.Native.Nat.{◌-◌}
use borrow.Author.Rules.{rules}
use native.Mathlib.Omega.{arith}
use lib.Dec.{leb, ltb}
use lib.ListN.{set}
use mathlib.Core.Bool.{◌&&◌}
use Rattle.read_marks.proofs.Marking.{in-range, chosen_by}
use Rattle.read_marks.proofs.put_mark.Goals as goal

pub overflow_sub-words : goal.overflow_sub-words
overflow_sub-words c = let a = c.args in let r = in-range a.first a.j a.end c.if-first-j.true in omega (arith, r.0)

pub offset_bounds-words-j : goal.offset_bounds-words-j
offset_bounds-words-j c = let a = c.args in let r = in-range a.first a.j a.end c.if-first-j.true in search (rules, r)

pub bounds-words-j : goal.bounds-words-j
bounds-words-j c = let a = c.args in let r = in-range a.first a.j a.end c.if-first-j.true in omega (arith, r.0, r.1, c.requires)

pub returns-then-first-j : goal.returns-then-first-j
returns-then-first-j c = let a = c.args in chosen_by (leb a.first a.j && ltb a.j a.end) (set a.words.now (a.j - a.first) a.mark) a.words.now c.if-first-j.true

pub returns-else-first-j : goal.returns-else-first-j
returns-else-first-j c = let a = c.args in chosen_by (leb a.first a.j && ltb a.j a.end) (set a.words.now (a.j - a.first) a.mark) a.words.now c.if-first-j.false
