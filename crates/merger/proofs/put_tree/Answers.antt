use Rattle.merger.proofs.Steps.{report-is, head-enough, tree-put}
use Rattle.merger.specs.inside.Whole.{name_text, rows_for}
use Rattle.merge_head.specs.inside.Head.{head_of}
use Rattle.merge_records.specs.of_schema.Stores.{splice}
use lib.Seq.{length-take-le}
use lib.ListN.{length, take}
use native.Mathlib.Omega.{arith}
use mathlib.Core.Path.{sym, ap₂, ◌∙◌}
use mathlib.Core.List.{List, ◌++◌}
use Prim.Native.Nat.{ℕ}
use Rattle.merger.proofs.put_tree.Goals as goal

pub slice_bounds-put_head-end : goal.slice_bounds-put_head-end
slice_bounds-put_head-end c =
    let pre = c.requires in
    omega (arith, pre.1.words)

pub slice_bounds-put_head-end-2 : goal.slice_bounds-put_head-end-2
slice_bounds-put_head-end-2 c =
    let pre = c.requires in
    let s = c.args in
    sym (length-take-le 32 s.records.now (omega (arith, pre.1.words)))

pub put_head-requires : goal.put_head-requires
put_head-requires c =
    let pre = c.requires in
    pre.0

pub put_below-requires : goal.put_below-requires
put_below-requires c =
    let start = c in
    let report-in = c.report_in-a in
    let put-head = c.put_head in
    let s = start.args in (
      report-is s.first.now report-in.ensures,
      head-enough s.first.now s.first_text.now s.second.now s.second_text.now s.records.now s.text.now put-head.new.out put-head.auto.out start.requires.1,
    )

pub returns : goal.returns
returns c =
    let at-report-in = c in
    let start = at-report-in in
    let report-in2 = c.report_in-b in
    let put-head = c.put_head in
    let put-below = c.put_below in
    let s = start.args in
    let x = report-is s.first.now at-report-in.report_in-a.ensures in
    let y = report-is s.second.now report-in2.ensures in
    let rows = rows_for s.first.now s.first_text.now s.second.now s.second_text.now in record {
      records_after = tree-put s.first.now s.first_text.now s.second.now s.second_text.now s.records.now
          s.text.now put-head.new.out put-head.auto.out start.requires.1 _ put-below.ensures.records_after
          ∙ ap₂ (λ (h : List ℕ) (r : List ℕ). splice 0 (h ++ rows (length (name_text s.first_text.now r))) s.records.now)
          (put-head.ensures ∙ ap₂ (λ (p q : List ℕ). head_of p q s.counts s.nanos (take 32 s.records.now)) x y) x;
      text_after = put-below.ensures.text_after;
    }
