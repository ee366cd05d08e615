use native.Mathlib.Omega.{arith}
use Rattle.utf8.proofs.Scalars.{scalar-1, scalar-2, scalar-3, scalar-4}
use Rattle.utf8_chars.proofs.scalar_in.Goals as goal

pub returns-then-n-eq1 : goal.returns-then-n-eq1
returns-then-n-eq1 c =
    let start = c in
    let a = start.args in scalar-1 a.s.now a.n start.requires.1 _ c.wide-a.ensures c.if-n-eq1.true

pub returns-then-n-eq2 : goal.returns-then-n-eq2
returns-then-n-eq2 c =
    let start = c in
    let wide = c.wide-a in
    let a = start.args in scalar-2 a.s.now a.n start.requires.1 _ wide.ensures _ c.wide-b.ensures c.if-n-eq2.true

pub returns-then-n-eq3 : goal.returns-then-n-eq3
returns-then-n-eq3 c =
    let start = c in
    let wide = c.wide-a in
    let wide2 = c.wide-b in
    let a = start.args in scalar-3 a.s.now a.n start.requires.1 _ wide.ensures _ _ wide2.ensures c.wide-c.ensures c.if-n-eq3.true

pub returns : goal.returns
returns c =
    let pre = c.requires in
    let wide = c.wide-a in
    let wide2 = c.wide-b in
    let a = c.args in
    scalar-4 a.s.now a.n pre.1 _ wide.ensures _ _ _ wide2.ensures c.wide-c.ensures c.wide-d.ensures (omega arith)
