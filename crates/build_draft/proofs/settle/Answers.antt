use Rattle.build_draft.proofs.Settling.{settled-done, settled-not}
use Rattle.build_draft.proofs.settle.Goals as goal

pub returns-in-Ok : goal.returns-in-Ok
returns-in-Ok c =
    let args = c.args in
    let both = settled-done args.records.now args.text.now c.in-Ok.is c.no_refusal.ensures in record { value = both.0; records_after = both.1.0; text_after = both.1.1 }

pub returns-in-Err : goal.returns-in-Err
returns-in-Err c =
    let args = c.args in
    let Clear-both = c.clear_both in
    let both = settled-not args.records.now args.text.now c.in-Err.is c.no_builder.ensures c.refuse_late.ensures Clear-both.ensures.records_after Clear-both.ensures.text_after in record { value = both.0; records_after = both.1.0; text_after = both.1.1 }
