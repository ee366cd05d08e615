use mathlib.Core.Path.{sym}
use native.Mathlib.Nat.{min-le_left}
use native.Mathlib.Omega.{arith}
use lib.ListN.{length, take}
use lib.Seq.{length-take-le}
use Rattle.tree_shape.specs.of_area.Limits.{most_bytes}
use Rattle.tree_layout.proofs.Filling.{fill-first, fill-fits}
use Rattle.tree_layout.proofs.Whole.{layout-whole}
use Rattle.tree_layout.proofs.is_layout.Goals as goal

pub slice_bounds-used-end : goal.slice_bounds-used-end
slice_bounds-used-end c = let text = c.args.text.now in
    sym (length-take-le c.least-bytes.result text (omega (arith, c.least-bytes.ensures, min-le_left (length text) most_bytes)))

pub is_good-requires : goal.is_good-requires
is_good-requires c =
    let args = c.args in
    fill-first (take c.least-bytes.result args.text.now) _ c.first_at-fill.ensures

pub slice_bounds-good_records-end : goal.slice_bounds-good_records-end
slice_bounds-good_records-end c =
    let args = c.args in
    let least = c.least-bytes in
    let used = take least.result args.text.now in
    sym (length-take-le c.first_at-fill.result used
    (fill-fits used c.first_at-fill.result (fill-first used _ c.first_at-fill.ensures)))

pub returns : goal.returns
returns c =
    let args = c.args in
    let least = c.least-bytes in
    let first-at = c.first_at-fill in
    rw (c.is_good.ensures, c.good_records.ensures) (layout-whole args.records.now args.text.now least.result first-at.result
    c.least-limit.result least.ensures (fill-first (take least.result args.text.now) _ first-at.ensures) c.least-limit.ensures)
