use Prim.Native.Nat.{ℕ}
use mathlib.Core.Path.{refl, ap, ◌∙◌}
use lib.ListN.{length}
use Rattle.clearing.specs.of_area.Area.{zeros}
use Rattle.read_step.specs.of_table.Event.{resolve}
use Rattle.read_step.specs.of_read_element.Outcome.{rooms_of}
use Rattle.read_step.specs.of_read_machine.Machine.{run, begin}
use Rattle.read_step.specs.inside.Standing.{refusal_at}
use Rattle.clearing.specs.of_refusal.Refusal.{accepted, refused}
use Rattle.reader.proofs.Whole.{ran-done, ran-halted, read-ended, read-refused, answers}
use Rattle.reader.proofs.read_good.Goals as goal

pub halted-requires : goal.halted-requires
halted-requires c = let a = c.args in
    let r = c.run_within-ran in
    (ran-halted r.new.records r.new.text (run (rooms_of (length a.records.now) (length a.text.now) (length a.scratch.now))
    (resolve a.events.now a.attributes.now a.source.now) begin) r.result r.ensures c.in-Err.st c.in-Err.h c.in-Err.is).placed

pub returns-in-Ok : goal.returns-in-Ok
returns-in-Ok c =
    let at-enum-told = c in
    let start = at-enum-told in
    let a = start.args in
    let r = c.run_within-ran in
    let k = r.auto in
    answers c.accepting.ensures
    (read-ended a.events.now a.attributes.now a.source.now (length a.records.now) (length a.text.now) (length a.scratch.now) (accepted tt) r.new.records
    r.new.text c.clear.new.out (c.clear.ensures ∙ ap (λ (n : ℕ). zeros n) k.scratch) start.requires.source_value refl k.records k.text
    (ran-done r.new.records r.new.text (run (rooms_of (length a.records.now) (length a.text.now) (length a.scratch.now))
    (resolve a.events.now a.attributes.now a.source.now) begin) r.result r.ensures at-enum-told.in-Ok.is))

pub shape_of-records-in-Err : goal.shape_of-records-in-Err
shape_of-records-in-Err c =
    let at-clear-all = c in
    let run-within = at-clear-all.run_within-ran in
    at-clear-all.clear_all.auto.records ∙ run-within.auto.records

pub returns-in-Err : goal.returns-in-Err
returns-in-Err c =
    let before-18 = c in
    let start = before-18 in
    let a = start.args in
    let r = c.run_within-ran in
    let k = r.auto in
    let q = c.clear_all in
    let x = ran-halted r.new.records r.new.text (run (rooms_of (length a.records.now) (length a.text.now) (length a.scratch.now))
    (resolve a.events.now a.attributes.now a.source.now) begin) r.result r.ensures c.in-Err.st c.in-Err.h c.in-Err.is in
    answers (c.halted.ensures x.placed) (read-refused a.events.now a.attributes.now a.source.now (length a.records.now) (length a.text.now) (length a.scratch.now)
    (refused (refusal_at c.in-Err.st c.in-Err.h x.placed.name)) q.new.records q.new.text q.new.scratch (q.ensures.scratch_after ∙ ap (λ (n : ℕ). zeros n) k.scratch) start.requires.source_value
    (refusal_at c.in-Err.st c.in-Err.h x.placed.name) x.same refl (q.ensures.records_after ∙ ap (λ (n : ℕ). zeros n) k.records) (q.ensures.text_after ∙ ap (λ (n : ℕ). zeros n) k.text))
