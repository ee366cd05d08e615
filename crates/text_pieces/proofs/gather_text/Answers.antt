use Rattle.text.specs.of_refusal.declared.Cause.TheVariants as cause
use Rattle.text_pieces.proofs.gather_text.Goals as goal

pub returns : goal.returns
returns c = let p = c.put_decoded in record { result_value = p.ensures.result_value cause.ScratchFull; out_after = p.ensures.out_after }
