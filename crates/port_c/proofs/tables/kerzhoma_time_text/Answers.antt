use mathlib.Core.Path.{sym, ap, ◌∙◌}
use Rattle.case_tags.specs.of_area.Area.{stored_answer}
use Rattle.case_tags.specs.of_refusal.declared.Cause.TheVariants as cause
use Rattle.explain.proofs.of_time_text.Spelling.{whole-put, whole-full}
use Rattle.explain.specs.of_time_text.Written.{count, written_time}
use Rattle.port_c.proofs.tables.kerzhoma_time_text.Goals as goal

pub returns-in_default : goal.returns-in_default
returns-in_default c =
    let write-time = c.write_time-stored in
    let b = c.args in
    let e = sym (ap (stored_answer cause.OutputFull) c.in_default.is) ∙ write-time.ensures.result_value in
    record { value = ap count e; out_after = c.clear.ensures ∙ whole-full b.out.now (written_time b.secs b.nanos) e _ write-time.ensures.out_after }

pub returns : goal.returns
returns c =
    let write-time = c.write_time-stored in
    let b = c.args in
    let e = sym (ap (stored_answer cause.OutputFull) c.in-Some.is) ∙ write-time.ensures.result_value in
    record { value = ap count e; out_after = write-time.ensures.out_after ∙ whole-put b.out.now (written_time b.secs b.nanos) _ e }
