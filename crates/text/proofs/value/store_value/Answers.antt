use Rattle.utf8_chars.specs.of_refusal.declared.Cause.TheVariants as cause
use Rattle.text.proofs.value.store_value.Goals as goal

pub returns : goal.returns
returns c = let p = c.put_decoded in record { result_value = p.ensures.result_value cause.TextFull; out_after = p.ensures.out_after }
