use Rattle.write_form.proofs.of_write_table.Writing.{wrote-shut}
use Rattle.write_marks.proofs.Storing.{entry-limits, entry-words, no_bytes, no-limits, no-entry, entry-stored}
use Rattle.write_marks.specs.declared.Marks.{Marks}
use Rattle.write_bytes.proofs.of_list_text.Putting.{other}
use mathlib.Core.Path.{sym, ap, ◌∙◌}
use native.Mathlib.Omega.{arith}
use Rattle.write_marks.proofs.store_entry.Goals as goal

pub returns-in_default : goal.returns-in_default
returns-in_default c = λ z at by by' s w. wrote-shut _ _ _ c.in_default.is c.in_default.is

pub returns-in_default-to : goal.returns-in_default-to
returns-in_default-to c =
    λ z at by by' s w. rw z (no_bytes _ _ _ _ _ _ _ _ _ at by by' s c.in-Some.is w _ c.in_default-to.is (ap (λ (x : Marks). x.bytes) c.shut.ensures))

pub returns-then-not-has_entry_room : goal.returns-then-not-has_entry_room
returns-then-not-has_entry_room c =
    λ z at by by' s w. rw z (no-limits _ _ _ _ _ _ _ _ _ at by by' s c.in-Some.is w _ c.in-Some-to.is _
    (sym c.has_entry_room.ensures ∙ c.if-not-has_entry_room.true) (ap (λ (x : Marks). x.bytes) c.shut-then-not-has_entry_room.ensures))

pub returns-in_default-put : goal.returns-in_default-put
returns-in_default-put c =
    let at-to = c in
    let at_mark = at-to in
    let args = at_mark.args in
    let has-entry-room = c.has_entry_room in
    let if1 = c.if-not-has_entry_room in
    let less = c.saturating_sub-n in
    let place = c.place-start in
    let place2 = c.place-first in
    let word = c.word in
    let word2 = c.word-2 in
    let put-words = c.put_words-put in
    λ z at by by' s w.
    let v = other put-words.ensures (entry-words args.k.level args.k.bytes args.to at_mark.in-Some.from args.k.events args.k.attributes
    args.kind args.count args.events.now at by by' s at_mark.in-Some.is w at-to.in-Some-to.end at-to.in-Some-to.is _ _ _ _ _
    (sym has-entry-room.ensures ∙ if1.false) less.ensures place.ensures word.ensures place2.ensures word2.ensures) in
    rw z (no-entry args.k.level args.k.bytes args.to at_mark.in-Some.from args.k.events args.k.attributes args.kind args.count args.events.now at by by' s
    at_mark.in-Some.is w at-to.in-Some-to.end at-to.in-Some-to.is _ _ (rw c.in_default-put.is at v) (ap (λ (x : Marks). x.bytes) c.shut-in_default-put.ensures))

pub event_more-requires : goal.event_more-requires
event_more-requires c =
    let args =
    c.args in
    let has-entry-room = c.has_entry_room in
    let if1 = c.if-not-has_entry_room in
    let l = entry-limits args.k.events c.in-Some-to.end args.k.attributes args.count (sym has-entry-room.ensures ∙ if1.false) in omega (arith, l.0)

pub returns : goal.returns
returns c =
    let at-to = c in
    let at_mark = at-to in
    let args = at_mark.args in
    let has-entry-room = c.has_entry_room in
    let if1 = c.if-not-has_entry_room in
    let less = c.saturating_sub-n in
    let place = c.place-start in
    let place2 = c.place-first in
    let word = c.word in
    let word2 = c.word-2 in
    let put-words = c.put_words-put in
    λ z at by by' s w.
    let v = other put-words.ensures (entry-words args.k.level args.k.bytes args.to at_mark.in-Some.from args.k.events args.k.attributes
    args.kind args.count args.events.now at by by' s at_mark.in-Some.is w at-to.in-Some-to.end at-to.in-Some-to.is _ _ _ _ _
    (sym has-entry-room.ensures ∙ if1.false) less.ensures place.ensures word.ensures place2.ensures word2.ensures) in
    rw (c.event_more.ensures, z) (entry-stored args.k.level args.k.bytes args.to at_mark.in-Some.from args.k.events args.k.attributes
    args.kind args.count args.events.now at by by' s at_mark.in-Some.is w at-to.in-Some-to.end at-to.in-Some-to.is
    put-words.new.out _ (sym has-entry-room.ensures ∙ if1.false) (rw c.in-Some-put.is at v))

pub overflow_mul-k : goal.overflow_mul-k
overflow_mul-k c =
    let args = c.args in
    let has-entry-room = c.has_entry_room in
    let if1 = c.if-not-has_entry_room in
    let l = entry-limits args.k.events c.in-Some-to.end args.k.attributes args.count (sym has-entry-room.ensures ∙ if1.false) in omega (arith, l.0)
