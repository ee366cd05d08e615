use Prim.Native.Nat.{ℕ}
use mathlib.Core.Path.{refl, sym, ap, ◌∙◌}
use lib.ListN.{length}
use Rattle.clearing.specs.of_area.Area.{zeros}
use Rattle.read_step.specs.of_table.Table.{checked_answer}
use Rattle.clearing.specs.of_refusal.Refusal.{refused}
use Rattle.read_step.specs.of_read_machine.Reading.{Read}
use Rattle.reader.specs.Answer.{Leaves}
use Rattle.reader.proofs.Whole.{bad_table, bad-there, read-bad, read-lengths, answers}
use Rattle.reader.proofs.read.Goals as goal

pub read_good-requires : goal.read_good-requires
read_good-requires c =
    let check-table = c.check_table-checked in
    let q = c.clear_tree in record { source_value = sym check-table.ensures ∙ ap checked_answer c.in-Ok.is; records_value = q.ensures.words_after ∙ ap (λ (n : ℕ). zeros n) (sym q.auto.words); text_value = q.ensures.bytes_after ∙ ap (λ (n : ℕ). zeros n) (sym q.auto.bytes) }

pub returns-in-Ok : goal.returns-in-Ok
returns-in-Ok c =
    let a = c.args in
    let q = c.clear_tree in
    let r = c.read_good in
    let both = read-lengths a.events.now a.attributes.now a.source.now q.new.words q.new.bytes a.scratch.now a.records.now a.text.now a.scratch.now
    q.auto.words q.auto.bytes refl (λ (x : Read). Leaves r.result r.new.records r.new.text r.new.scratch x) r.ensures in record { answer = both.0; records = both.1.0; text = both.1.1.0; scratch = both.1.1.1 }

pub returns-in-Err : goal.returns-in-Err
returns-in-Err c =
    let check-table = c.check_table-checked in
    let a = c.args in
    let q = c.clear_tree in
    let new = c.new in
    let k = c.clear in
    let both = answers (c.refusing.ensures ∙ bad-there c.in-Err.event c.in-Err.attribute new.result new.ensures) (read-bad a.events.now a.attributes.now
    a.source.now (length a.records.now) (length a.text.now) (length a.scratch.now) (refused (bad_table c.in-Err.event c.in-Err.attribute)) q.new.words q.new.bytes
    k.new.out k.ensures (bad_table c.in-Err.event c.in-Err.attribute) (sym check-table.ensures ∙ ap checked_answer c.in-Err.is) refl q.ensures.words_after q.ensures.bytes_after) in record { answer = both.0; records = both.1.0; text = both.1.1.0; scratch = both.1.1.1 }
