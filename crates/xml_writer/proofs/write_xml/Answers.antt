use mathlib.Core.Path.{sym, ap, ◌∙◌}
use native.Mathlib.Nat.{min-le_left}
use native.Mathlib.Omega.{arith}
use lib.Seq.{length-take-le}
use lib.ListN.{length}
use Rattle.writer.specs.of_area.Limits.{most_bytes}
use Rattle.writer.specs.of_area.Area.{zeros}
use Rattle.xml_writer.proofs.Answered.{refused-whole, written-whole}
use Rattle.xml_writer.proofs.Leaving.{no-document, whole-call, short-call}
use borrow.Author.Rules.{rules}
use Rattle.xml_writer.proofs.write_xml.Goals as goal

pub returns-then-not-is_layout : goal.returns-then-not-is_layout
returns-then-not-is_layout c =
    let args = c.args in
    let clear = c.clear in
    let both = refused-whole args.records.now args.text.now (length args.out.now) c.refuse.ensures
    (no-document args.records.now args.text.now (length args.out.now) (sym c.is_layout.ensures ∙ c.if-not-is_layout.true) clear.ensures) in record { value = both.0; out_after = both.1 }

pub slice_bounds-put_tree-end-2 : goal.slice_bounds-put_tree-end-2
slice_bounds-put_tree-end-2 c =
    let clear = c.clear in
    sym (length-take-le c.least-used.result clear.new.out (omega (arith, c.least-used.ensures, min-le_left (length clear.new.out) most_bytes)))

pub returns-in_default : goal.returns-in_default
returns-in_default c =
    let at_clear = c in
    let args = at_clear.args in
    let is-layout = c.is_layout in
    let if1 = c.if-not-is_layout in
    let least = c.least-used in
    let put-tree = c.put_tree-k in
    let both = refused-whole args.records.now args.text.now (length args.out.now) c.refuse-in_default.ensures (short-call args.records.now args.text.now (length args.out.now)
    (sym is-layout.ensures ∙ if1.false) at_clear.clear.new.out at_clear.clear.ensures least.result least.ensures put-tree.ensures
    c.in_default.is (c.clear-in_default.ensures ∙ ap zeros (search rules))) in record { value = both.0; out_after = both.1 }

pub returns : goal.returns
returns c =
    let args = c.args in
    let clear = c.clear in
    let is-layout = c.is_layout in
    let if1 = c.if-not-is_layout in
    let least = c.least-used in
    let put-tree = c.put_tree-k in
    let both = written-whole args.records.now args.text.now (length args.out.now) c.no_refusal.ensures (whole-call args.records.now args.text.now (length args.out.now)
    (sym is-layout.ensures ∙ if1.false) clear.new.out clear.ensures least.result least.ensures put-tree.ensures _ c.in-Some.is) in record { value = both.0; out_after = both.1 }
