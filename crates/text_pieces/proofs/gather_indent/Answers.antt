use Rattle.text_pieces.specs.Gather.{newline}
use Rattle.text.proofs.Putting.{kept-placing}
use Rattle.text.specs.of_refusal.declared.Cause.TheVariants as cause
use Rattle.text_pieces.proofs.gather_indent.Goals as goal

pub returns : goal.returns
returns c =
    let o = c.args.out.now in
    let p = c.copy_into in
    let k = c.kept_of in
    record { result_value = kept-placing cause.ScratchFull cause.OutputFull o o newline p.result k.result p.ensures.result_value k.ensures; out_after = p.ensures.out_after }
