use Rattle.write_form.proofs.of_write_table.Writing.{wrote-shut}
use Rattle.write_marks.proofs.Storing.{pair-limits, pair-words, no_key, no-pair, no-pair-limits, no-pair-words, pair-stored}
use Rattle.write_marks.specs.declared.Marks.{Marks}
use Rattle.write_bytes.proofs.of_list_text.Putting.{other}
use mathlib.Core.Path.{sym, ap, ◌∙◌}
use native.Mathlib.Omega.{arith}
use Rattle.write_marks.proofs.store_pair.Goals as goal

pub returns-in_default : goal.returns-in_default
returns-in_default c = λ z ev by by' by'' key value w v. wrote-shut _ _ _ c.in_default.is c.in_default.is

pub returns-in_default-middle : goal.returns-in_default-middle
returns-in_default-middle c =
    let args = c.args in
    λ z ev by by' by'' key value w v. rw z (no_key args.k.level args.k.bytes args.middle args.to c.in-Some.from args.k.events args.k.attributes ev
    args.attributes.now by by' by'' key value c.in-Some.is w v _ c.in_default-middle.is (ap (λ (x : Marks). x.bytes) c.shut.ensures))

pub returns-in_default-to : goal.returns-in_default-to
returns-in_default-to c =
    let args = c.args in
    λ z ev by by' by'' key value w v. rw z (no-pair args.k.level args.k.bytes args.middle args.to c.in-Some.from args.k.events args.k.attributes ev
    args.attributes.now by by' by'' key value c.in-Some.is w v _ c.in_default-to.is (ap (λ (x : Marks). x.bytes) c.shut-in_default-to.ensures))

pub returns-then-not-has_pair_room : goal.returns-then-not-has_pair_room
returns-then-not-has_pair_room c =
    let args = c.args in
    λ z ev by by' by'' key value w v. rw z (no-pair-limits args.k.level args.k.bytes args.middle args.to c.in-Some.from args.k.events args.k.attributes
    ev args.attributes.now by by' by'' key value c.in-Some.is w v c.in-Some-middle.half c.in-Some-to.end c.in-Some-middle.is c.in-Some-to.is
    _ (sym c.has_pair_room.ensures ∙ c.if-not-has_pair_room.true) (ap (λ (x : Marks). x.bytes) c.shut-then-not-has_pair_room.ensures))

pub returns-in_default-put : goal.returns-in_default-put
returns-in_default-put c =
    let at-to = c in
    let at-middle = at-to in
    let at_mark = at-middle in
    let args = at_mark.args in
    let has-pair-room = c.has_pair_room in
    let if1 = c.if-not-has_pair_room in
    let less = c.saturating_sub-n in
    let less2 = c.saturating_sub-m in
    let place = c.place-start in
    let place2 = c.place-behind in
    let word = c.word in
    let word2 = c.word-2 in
    let put-words = c.put_words-put in
    λ z ev by by' by'' key value w v.
    let x = other put-words.ensures
    (pair-words args.k.level args.k.bytes args.middle args.to at_mark.in-Some.from args.k.events args.k.attributes ev args.attributes.now
    by by' by'' key value at_mark.in-Some.is w v at-middle.in-Some-middle.half at-to.in-Some-to.end at-middle.in-Some-middle.is at-to.in-Some-to.is _ _ _
    _ _ _ (sym has-pair-room.ensures ∙ if1.false) less.ensures less2.ensures place.ensures word.ensures place2.ensures word2.ensures) in
    rw z (no-pair-words args.k.level args.k.bytes args.middle args.to at_mark.in-Some.from args.k.events args.k.attributes ev
    args.attributes.now by by' by'' key value at_mark.in-Some.is w v at-middle.in-Some-middle.half at-to.in-Some-to.end
    at-middle.in-Some-middle.is at-to.in-Some-to.is _ _ (rw c.in_default-put.is at x) (ap (λ (x : Marks). x.bytes) c.shut-in_default-put.ensures))

pub attribute_more-requires : goal.attribute_more-requires
attribute_more-requires c =
    let at-to = c in
    let args = at-to.args in
    let has-pair-room = c.has_pair_room in
    let if1 = c.if-not-has_pair_room in
    let l = pair-limits args.k.attributes at-to.in-Some-to.end (sym has-pair-room.ensures ∙ if1.false) in omega (arith, l.0)

pub returns : goal.returns
returns c =
    let at-to = c in
    let at-middle = at-to in
    let at_mark = at-middle in
    let args = at_mark.args in
    let has-pair-room = c.has_pair_room in
    let if1 = c.if-not-has_pair_room in
    let less = c.saturating_sub-n in
    let less2 = c.saturating_sub-m in
    let place = c.place-start in
    let place2 = c.place-behind in
    let word = c.word in
    let word2 = c.word-2 in
    let put-words = c.put_words-put in
    λ z ev by by' by'' key value w v.
    let x = other put-words.ensures
    (pair-words args.k.level args.k.bytes args.middle args.to at_mark.in-Some.from args.k.events args.k.attributes ev args.attributes.now
    by by' by'' key value at_mark.in-Some.is w v at-middle.in-Some-middle.half at-to.in-Some-to.end at-middle.in-Some-middle.is at-to.in-Some-to.is _ _ _
    _ _ _ (sym has-pair-room.ensures ∙ if1.false) less.ensures less2.ensures place.ensures word.ensures place2.ensures word2.ensures) in
    rw (c.attribute_more.ensures, z) (pair-stored args.k.level args.k.bytes args.middle args.to at_mark.in-Some.from args.k.events args.k.attributes ev
    args.attributes.now by by' by'' key value at_mark.in-Some.is w v at-middle.in-Some-middle.half at-to.in-Some-to.end at-middle.in-Some-middle.is
    at-to.in-Some-to.is put-words.new.out _ (sym has-pair-room.ensures ∙ if1.false) (rw c.in-Some-put.is at x))

pub overflow_mul-k : goal.overflow_mul-k
overflow_mul-k c =
    let args = c.args in
    let has-pair-room = c.has_pair_room in
    let if1 = c.if-not-has_pair_room in
    let l = pair-limits args.k.attributes c.in-Some-to.end (sym has-pair-room.ensures ∙ if1.false) in omega (arith, l.0)
