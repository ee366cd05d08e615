use Rattle.write_elements.proofs.Elements.{record-there, elements-runs, elements-main}
use Rattle.write_marks.proofs.of_write_table.Writing.{said}
use Rattle.write_walk.specs.of_list_sums.inside.Rows.{records_in}
use lib.Seq.{length-take-le}
use lib.ListN.{length, take, drop}
use native.Mathlib.Omega.{arith}
use native.Mathlib.Nat.{min-le_right}
use mathlib.Core.Path.{sym, ◌∙◌}
use Prim.Native.Nat.{◌-◌}
use Rattle.write_elements.proofs.put_elements.Goals as goal

pub slice_bounds-r-end : goal.slice_bounds-r-end
slice_bounds-r-end c =
    let args = c.args in
    sym (length-take-le _ _ (omega (
      arith,
      c.least-to.ensures,
      min-le_right 32 (length (take (length args.words.now - c.seek-at.result) (drop c.seek-at.result args.words.now))),
    )))

pub returns-then-field-eq0 : goal.returns-then-field-eq0
returns-then-field-eq0 c =
    let at-seek = c in
    let args = at-seek.args in
    let least = c.least-to in
    let field = c.field in
    let if1 = c.if-field-eq0 in
    let put-rows = c.put_rows in
    said put-rows.ensures (elements-runs (records_in args.words.now) args.text.now _
    (record-there args.words.now _ at-seek.seek-at.result least.result least.ensures at-seek.seek-at.ensures.words_value) (sym field.ensures ∙ if1.true))

pub returns : goal.returns
returns c =
    let at-seek = c in
    let args = at-seek.args in
    let least = c.least-to in
    let field = c.field in
    let if1 = c.if-field-eq0 in
    let put-main = c.put_main in
    said put-main.ensures (elements-main (records_in args.words.now) args.text.now _
    (record-there args.words.now _ at-seek.seek-at.result least.result least.ensures at-seek.seek-at.ensures.words_value) (λ z. if1.false (field.ensures ∙ z)))
