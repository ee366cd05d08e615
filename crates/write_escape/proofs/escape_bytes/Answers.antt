use Prim.Native.Nat.{◌+◌}
use lib.ListN.{drop, get_or}
use Rattle.escape.proofs.Spelling.{spelled-next}
use Rattle.names.proofs.of_area.Laying.{laying_on}
use Rattle.write_escape.specs.Escape.{written, escaped}
use Rattle.write_escape.proofs.Putting.{part-full, part-put}
use Rattle.write_escape.proofs.escape_bytes.Goals as goal

pub returns-in_err-n-clause-out_after : goal.returns-in_err-n-clause-out_after
returns-in_err-n-clause-out_after c =
    let l = c.loop-b in
    let s = c.args.s.now in
    (part-full (written (get_or s l.b-index 0)) (escaped (drop (l.b-index + 1) s)) (laying_on l.invariant (spelled-next written s l.b-index c.loop-b-test.true)) _ _
    c.put_byte.ensures.result_value c.put_byte.ensures.out_after c.in_err-n.was).1

pub loop-b-preserved : goal.loop-b-preserved
loop-b-preserved c =
    let l = c.loop-b in
    let s = c.args.s.now in
    part-put (written (get_or s l.b-index 0)) (escaped (drop (l.b-index + 1) s)) (laying_on l.invariant (spelled-next written s l.b-index c.loop-b-test.true)) _ _
    c.put_byte.ensures.result_value c.put_byte.ensures.out_after c.in_ok-n.n c.in_ok-n.was
