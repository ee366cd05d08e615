use Rattle.build_kinds.proofs.of_build_draft.Steps.{handed-on}
use Rattle.build_pairs.proofs.Adding.{value-fits}
use Rattle.build_pairs.specs.inside.Adding.{putting_kept}
use Rattle.build_kinds.proofs.of_build_draft.Steps.{then-refused, then-done}
use mathlib.Core.Path.{◌∙◌}
use Rattle.build_pairs.proofs.add_value.Goals as goal

pub returns-in_err-d : goal.returns-in_err-d
returns-in_err-d c =
    let args = c.args in
    let keep = c.keep in
    rw (handed-on c.from_residual.result c.keep.result c.from_residual.ensures.1 c.in_err-d.was)
    (then-refused keep.result args.records.now keep.new.text (putting_kept args.k args.b args.c.bytes)
    args.records.now keep.new.text c.in_err-d.was (keep.ensures args.records.now))

pub put_kept-requires : goal.put_kept-requires
put_kept-requires c =
    let keep = c.keep in
    value-fits c.args.b c.args.c c.args.records.now c.args.text.now
    c.args.value.now _ _ keep.ensures c.in_ok-d.was c.requires

pub returns : goal.returns
returns c =
    let args = c.args in
    let keep = c.keep in
    c.put_kept.ensures
    ∙ then-done keep.result args.records.now keep.new.text (putting_kept args.k args.b args.c.bytes) c.in_ok-d.was (keep.ensures args.records.now)
