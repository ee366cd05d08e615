use Rattle.builder_set.proofs.Writing.{apt-by, field-lacking, field_put}
use Rattle.build_text.specs.of_build_draft.Draft.{Draft}
use mathlib.Core.Path.{ap}
use mathlib.Core.Bool.{not}
use Rattle.builder_set.proofs.write_field.Goals as goal

pub returns-then-not-is_output-lossy : goal.returns-then-not-is_output-lossy
returns-then-not-is_output-lossy c =
    let mark_of = c.mark_of-i in
    let is-output = c.is_output in
    let a = c.args in
    let d : Draft = record { builder = a.b; words = a.records.now; text = a.text.now } in
    let same = apt-by a.lossy a.element a.field a.s.now d mark_of.ensures c.kind_at.ensures is-output.ensures c.has_text.ensures in
    field-lacking a.lossy a.element a.field a.s.now d same (ap not c.if-not-is_output-lossy.true) a.records.now a.text.now

pub returns : goal.returns
returns c =
    let mark_of = c.mark_of-i in
    let is-output = c.is_output in
    let kind-at = c.kind_at in
    let has-text = c.has_text in
    let if1 = c.if-not-is_output-lossy in
    let word-for = c.word_for in
    let bit-for = c.bit_for in
    let put-at = c.put_at in
    let a = c.args in
    let d : Draft = record { builder = a.b; words = a.records.now; text = a.text.now } in
    let same = apt-by a.lossy a.element a.field a.s.now d mark_of.ensures kind-at.ensures is-output.ensures has-text.ensures in
    field_put a.lossy a.element a.field a.s.now d same (ap not if1.false) mark_of.ensures word-for.ensures bit-for.ensures put-at.ensures
