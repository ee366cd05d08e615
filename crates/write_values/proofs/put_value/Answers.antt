use mathlib.Core.Path.{ap, ◌∙◌}
use Rattle.write_bytes.specs.of_write_moment.Written.{timestamp_text}
use Rattle.write_values.proofs.Moments.{stamp-text}
use borrow.Author.Tests.{eq-eqb, ne_eqb}
use Rattle.write_codes.specs.of_write_items.inside.Values.{value_of}
use Rattle.write_values.proofs.put_value.Goals as goal

pub returns-then-c-eq-UUID : goal.returns-then-c-eq-UUID
unfolding value_of
returns-then-c-eq-UUID c =
    let args = c.args in
    let if1 = c.if-c-eq-UUID in
    rw (eq-eqb args.code 3 if1.true) (rw c.words_of.ensures at c.put_uuid.ensures)

pub returns-then-c-eq-TIMESTAMP : goal.returns-then-c-eq-TIMESTAMP
unfolding value_of
returns-then-c-eq-TIMESTAMP c =
    let args = c.args in
    let if1 = c.if-c-eq-UUID in
    let if2 = c.if-c-eq-TIMESTAMP in
    rw (ne_eqb args.code 3 if1.false, eq-eqb args.code 4 if2.true) (rw (ap timestamp_text c.moment_of.ensures ∙ stamp-text args.r.now) at c.put_timestamp.ensures)

pub returns-then-c-eq-TIME : goal.returns-then-c-eq-TIME
unfolding value_of
returns-then-c-eq-TIME c =
    let args = c.args in
    let if1 = c.if-c-eq-UUID in
    let if2 = c.if-c-eq-TIMESTAMP in
    let if3 = c.if-c-eq-TIME in
    let field = c.field in
    rw (ne_eqb args.code 3 if1.false, ne_eqb args.code 4 if2.false, eq-eqb args.code 5 if3.true)
    (rw (field.ensures, c.field-then-c-eq-TIME.ensures) at c.put_time.ensures)

pub returns-then-c : goal.returns-then-c
unfolding value_of
returns-then-c c =
    let args = c.args in
    let if1 = c.if-c-eq-UUID in
    let if2 = c.if-c-eq-TIMESTAMP in
    let if3 = c.if-c-eq-TIME in
    let offset-of-key = c.offset_of_key-o in
    let if4 = c.if-c in
    rw (ne_eqb args.code 3 if1.false, ne_eqb args.code 4 if2.false, ne_eqb args.code 5 if3.false, if4.true)
    (rw offset-of-key.ensures.value at c.put_number_at.ensures)

pub returns : goal.returns
unfolding value_of
returns c =
    let args = c.args in
    let if1 = c.if-c-eq-UUID in
    let if2 = c.if-c-eq-TIMESTAMP in
    let if3 = c.if-c-eq-TIME in
    let offset-of-key = c.offset_of_key-o in
    let if4 = c.if-c in
    rw (ne_eqb args.code 3 if1.false, ne_eqb args.code 4 if2.false, ne_eqb args.code 5 if3.false, if4.false)
    (rw offset-of-key.ensures.value at c.put_text_at.ensures)
