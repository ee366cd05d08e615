use mathlib.Core.Path.{sym, ◌∙◌}
use native.Mathlib.Nat.{min-le_left}
use native.Mathlib.Omega.{arith}
use lib.Seq.{length-take-le}
use lib.ListN.{length}
use Rattle.tree_layout.specs.of_area.Limits.{most_words}
use Rattle.starts.proofs.Whole.{no-layout, starts-whole}
use Rattle.starts.proofs.starts.Goals as goal

pub returns-then-not-is_layout : goal.returns-then-not-is_layout
returns-then-not-is_layout c =
    let args = c.args in
    no-layout args.records.now args.text.now c.refuse.ensures (sym c.is_layout.ensures ∙ c.if-not-is_layout.true)

pub slice_bounds-ends_of-end : goal.slice_bounds-ends_of-end
slice_bounds-ends_of-end c =
    let args = c.args in
    let least = c.least-limit in
    sym (length-take-le least.result args.records.now (omega (arith, least.ensures, min-le_left (length args.records.now) most_words)))

pub returns : goal.returns
returns c =
    let args = c.args in
    let least = c.least-limit in
    let is-layout = c.is_layout in
    let if1 = c.if-not-is_layout in
    let ends_of = c.ends_of-e in
    starts-whole args.records.now args.text.now {limit = least.result} {e = ends_of.result}
    (sym is-layout.ensures ∙ if1.false) least.ensures ends_of.ensures c.starts_of.ensures c.no_refusal.ensures
