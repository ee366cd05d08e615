use mathlib.Core.Path.{sym, ◌∙◌}
use Rattle.text_filter.proofs.Unchanged.{put-kept}
use Rattle.text_filter.proofs.store.Goals as goal

pub returns-then-is_clean : goal.returns-then-is_clean
returns-then-is_clean c =
    let if1 = c.if-is_clean in
    let a = c.args in
    let w = c.copy_into in
    let kept = c.is_clean in
    let both = put-kept a.out.now a.s.now w.new.out w.result (sym kept.ensures ∙ if1.true) w.ensures.result_value w.ensures.out_after in record { result_value = both.0; out_after = both.1 }
