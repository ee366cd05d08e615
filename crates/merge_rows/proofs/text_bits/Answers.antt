use mathlib.Core.Path.{refl}
use borrow.Author.Tests.{eq-eqb, ne_eqb, le-leb, lt-leb}
use Rattle.merge_rows.specs.inside.Slots.{text_bits}
use Rattle.merge_rows.proofs.text_bits.Goals as goal

pub returns-then-k-eq-SUITE : goal.returns-then-k-eq-SUITE
unfolding text_bits
returns-then-k-eq-SUITE c = rw (eq-eqb c.args.k 2 c.if-k-eq-SUITE.true) refl

pub returns-then-k-eq-CASE : goal.returns-then-k-eq-CASE
unfolding text_bits
returns-then-k-eq-CASE c = let k = c.args.k in rw (ne_eqb k 2 c.if-k-eq-SUITE.false, eq-eqb k 3 c.if-k-eq-CASE.true) refl

pub returns-then-k-le-CASE_PROPERTY : goal.returns-then-k-le-CASE_PROPERTY
unfolding text_bits
returns-then-k-le-CASE_PROPERTY c =
    let k = c.args.k in
    rw (ne_eqb k 2 c.if-k-eq-SUITE.false, ne_eqb k 3 c.if-k-eq-CASE.false, le-leb k 5 c.if-k-le-CASE_PROPERTY.true) refl

pub returns-then-k-le-SKIPPED : goal.returns-then-k-le-SKIPPED
unfolding text_bits
returns-then-k-le-SKIPPED c =
    let k = c.args.k in
    rw (ne_eqb k 2 c.if-k-eq-SUITE.false, ne_eqb k 3 c.if-k-eq-CASE.false, lt-leb k 5 c.if-k-le-CASE_PROPERTY.false, le-leb k 8 c.if-k-le-SKIPPED.true) refl

pub returns-then-k-le-RERUN_ERROR : goal.returns-then-k-le-RERUN_ERROR
unfolding text_bits
returns-then-k-le-RERUN_ERROR c =
    let if1 = c.if-k-eq-SUITE in
    let k = c.args.k in
    rw (
      ne_eqb k 2 if1.false,
      ne_eqb k 3 c.if-k-eq-CASE.false,
      lt-leb k 5 c.if-k-le-CASE_PROPERTY.false,
      lt-leb k 8 c.if-k-le-SKIPPED.false,
      le-leb k 12 c.if-k-le-RERUN_ERROR.true,
    ) refl

pub returns : goal.returns
unfolding text_bits
returns c =
    let if1 = c.if-k-eq-SUITE in
    let k = c.args.k in
    rw (
      ne_eqb k 2 if1.false,
      ne_eqb k 3 c.if-k-eq-CASE.false,
      lt-leb k 5 c.if-k-le-CASE_PROPERTY.false,
      lt-leb k 8 c.if-k-le-SKIPPED.false,
      lt-leb k 12 c.if-k-le-RERUN_ERROR.false,
    ) refl
