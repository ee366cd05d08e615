use Rattle.public_call.proofs.Writing.{put_whole, put-part}
use mathlib.Core.Path.{sym, ap, ◌∙◌}
use Rattle.reader.specs.of_area.Area.{stored_answer}
use Rattle.public_claims.specs.PublicListing.{refused_text}
use Rattle.reader.specs.of_refusal.declared.Cause.TheVariants as cause
use Rattle.public_call.proofs.refuse.Goals as goal

pub returns-in-Some : goal.returns-in-Some
unfolding refused_text
returns-in-Some c =
    let args = c.args in
    let clear = c.clear in
    let copy-into = c.copy_into-put in
    let both = put_whole args.out.now _ _ refused_text clear.ensures copy-into.ensures.out_after _ (sym (ap (stored_answer cause.OutputFull) c.in-Some.is) ∙ copy-into.ensures.result_value) in record { area = both.0; count = both.1 }

pub returns-in-None : goal.returns-in-None
unfolding refused_text
returns-in-None c =
    let args = c.args in
    let clear = c.clear in
    let copy-into = c.copy_into-put in
    let both = put-part args.out.now _ _ refused_text clear.ensures copy-into.ensures.out_after (sym (ap (stored_answer cause.OutputFull) c.in-None.is) ∙ copy-into.ensures.result_value) in record { area = both.0; count = both.1 }
