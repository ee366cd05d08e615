use mathlib.Core.Path.{sym, ◌∙◌}
use Rattle.text.specs.of_area.Answer.{refuses}
use Rattle.text.proofs.Putting.{kept-when}
use Rattle.text.specs.of_refusal.declared.Cause.TheVariants as cause
use Rattle.text_pieces.proofs.gather_cdata.Goals as goal

pub returns-then-is_utf8 : goal.returns-then-is_utf8
returns-then-is_utf8 c =
    let if1 = c.if-is_utf8 in
    let a = c.args in
    let p = c.copy_into in
    let k = c.kept_of in
    let u = c.is_utf8 in
    let both = kept-when cause.ScratchFull cause.OutputFull a.out.now p.new.out a.s.now p.result k.result
    p.ensures.result_value k.ensures _ (refuses cause.NotUtf8) (sym u.ensures ∙ if1.true) p.ensures.out_after in record { result_value = both.0; out_after = both.1 }
