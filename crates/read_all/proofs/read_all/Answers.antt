use Prim.Native.Nat.{◌+◌, ◌-◌, ◌*◌}
use mathlib.Core.Bool.{◌||◌}
use mathlib.Core.Path.{sym}
use native.Mathlib.Omega.{arith}
use lib.Dec.{ltb, eqb}
use lib.ListN.{length, take}
use lib.Seq.{length-take-le}
use Rattle.read_indexed.proofs.of_read_each.HeldBounds.{held-fill}
use Rattle.read_all.proofs.Wider.{front-held, rest-zero, behind, many}
use Rattle.read_all.proofs.read_all.Goals as goal

pub overflow_add-room : goal.overflow_add-room
overflow_add-room c = let f = held-fill c.requires.begins.1.1.1.1.0 in
    omega (arith, f, c.requires.begins.1.1.0, c.requires.begins.1.1.1.0)

pub slice_bounds-read_cleared-end : goal.slice_bounds-read_cleared-end
slice_bounds-read_cleared-end c =
    let s = c.args in
    let n = s.range.end - s.range.first in
    (many n (length s.own.now) (n * 33 + 32) (length s.text.now) (s.fill + n * 4)
    (ltb s.kind 2 || ltb 3 s.kind) (eqb c.plain_of-plain.result s.range.end) c.if-few-own.false).1

pub slice_bounds-read_cleared-end-2 : goal.slice_bounds-read_cleared-end-2
slice_bounds-read_cleared-end-2 c =
    let s = c.args in
    let n = s.range.end - s.range.first in
    sym (length-take-le (n * 33 + 32) s.own.now (many n (length s.own.now) (n * 33 + 32) (length s.text.now) (s.fill + n * 4) (ltb s.kind 2 || ltb 3 s.kind)
    (eqb c.plain_of-plain.result s.range.end) c.if-few-own.false).1)

pub read_cleared-requires : goal.read_cleared-requires
read_cleared-requires c =
    let s = c.args in
    let pre = c.requires in
    let n = s.range.end - s.range.first in
    let y = many n (length s.own.now) (n * 33 + 32) (length s.text.now) (s.fill + n * 4) (ltb s.kind 2 || ltb 3 s.kind)
    (eqb c.plain_of-plain.result s.range.end) c.if-few-own.false in
    let l = length-take-le (n * 33 + 32) s.own.now y.1 in record {
      kind_bound = pre.kind_bound;
      first_in_bounds = omega (arith, l);
      first_in_bounds_2 = y.2;
      begins = (
        pre.begins.0,
        (
          pre.begins.1.0,
          (
            pre.begins.1.1.0,
            (
              pre.begins.1.1.1.0,
              (
                front-held s.kind s.fill (take s.fill s.text.now) s.own.now s.text.now pre.begins.1.1.1.1.0 (n * 33 + 32) (omega arith) y.1,
                pre.begins.1.1.1.1.1,
              ),
            ),
          ),
        ),
      );
    }

pub returns : goal.returns
returns c =
    let s = c.args in
    let pre = c.requires in
    let n = s.range.end - s.range.first in
    λ rooms p used ro. let y = many n (length s.own.now) (n * 33 + 32) (length s.text.now) (s.fill + n * 4) (ltb s.kind 2 || ltb 3 s.kind)
    (eqb c.plain_of-plain.result s.range.end) c.if-few-own.false in
    let l = length-take-le (n * 33 + 32) s.own.now y.1 in
    behind (length s.own.now - (n * 33 + 32))
    (rest-zero s.kind s.fill (take s.fill s.text.now) s.own.now s.text.now pre.begins.1.1.1.1.0 (n * 33 + 32) (omega arith) y.1)
    (c.read_cleared.ensures rooms p used (length s.own.now) (omega (arith, l, y.1)) ro)
