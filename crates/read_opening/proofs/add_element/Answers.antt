use native.Mathlib.Omega.{arith}
use Prim.Native.Nat.{◌-◌}
use mathlib.Core.Path.{refl}
use Rattle.read_lists.specs.of_table.Event.{attributes_from}
use Rattle.read_opening.proofs.Adding.{roomy-own, grown-fits, element-comes}
use Rattle.read_lists.proofs.of_read_content.Areas.{fits-words, fits-text, own-part, text-zero}
use Rattle.std.proofs.lemmas.Result.{err_from_is_err_and}
use Rattle.read_opening.proofs.add_element.Goals as goal

pub overflow_mul-at : goal.overflow_mul-at
overflow_mul-at c =
    let pre = c.requires in
    let h = fits-words pre.ready.1.1.1.1.holds in omega arith

pub offset_bounds-records-at : goal.offset_bounds-records-at
offset_bounds-records-at c =
    let pre = c.requires in
    let h = fits-words pre.ready.1.1.1.1.holds in omega arith

pub slice_bounds-read_element-count : goal.slice_bounds-read_element-count
slice_bounds-read_element-count c =
    let pre = c.requires in
    let h = fits-words pre.ready.1.1.1.1.holds in omega arith

pub slice_bounds-read_element-start : goal.slice_bounds-read_element-start
slice_bounds-read_element-start c =
    let pre = c.requires in
    let h = fits-words pre.ready.1.1.1.1.holds in omega arith

pub read_element-requires : goal.read_element-requires
read_element-requires c =
    let pre = c.requires in record {
      kind_bound = pre.kind_bound;
      vacant = (
        pre.ready.0,
        (
          pre.ready.1.0,
          (
            pre.ready.1.1.0,
            (
              fits-text pre.ready.1.1.1.1.holds,
              (pre.ready.1.1.1.0, (own-part pre.ready.1.1.1.1.holds, (text-zero pre.ready.1.1.1.1.holds, pre.ready.1.1.1.1.holds.free))),
            ),
          ),
        ),
      );
    }

pub overflow_add-result : goal.overflow_add-result
overflow_add-result c = let w = fits-words
    c.requires.ready.1.1.1.1.holds in
    let h = grown-fits
    c.requires.ready.1.1.1.1.holds
    c.args.kind
    c.args.range.first
    (attributes_from c.args.attributes.now
    c.args.source.now
    (c.args.range.end
    - c.args.range.first)
    c.args.range.first)
    c.read_element.ensures c.in_ok-grown.was in
    omega (arith, c)

pub returns : goal.returns
returns c =
    let start = c in
    λ rooms p s scratch pa hd sz. element-comes hd p start.args.kind rooms start.args.range.first
    (attributes_from start.args.attributes.now start.args.source.now (start.args.range.end - start.args.range.first) start.args.range.first)
    start.requires.le_kind start.requires.kind_bound (c.read_element.ensures rooms p s.records pa (roomy-own hd sz)) (rw c.in_ok-grown.was refl)

pub returns-in_err-grown : goal.returns-in_err-grown
returns-in_err-grown c =
    let start = c in
    let q = err_from_is_err_and c.from_residual.result c.from_residual.ensures.1 in
    λ rooms p s scratch pa hd sz. element-comes hd p start.args.kind rooms start.args.range.first
    (attributes_from start.args.attributes.now start.args.source.now (start.args.range.end - start.args.range.first) start.args.range.first)
    start.requires.le_kind start.requires.kind_bound (c.read_element.ensures rooms p s.records pa (roomy-own hd sz)) (rw (q.1, q.2, c.in_err-grown.was) refl)
