use borrow.Author.Rules.{rules}
use borrow.Author.Tests.{eq-eqb, ne_eqb}
use Rattle.write_items.specs.inside.Values.{offset_of}
use Rattle.write_codes.proofs.offset_of_key.Goals as goal

pub returns-then-c : goal.returns-then-c
unfolding offset_of
returns-then-c c =
    record { value = rw c.if-c.true; upper_bound = search rules }

pub returns-then-c-2 : goal.returns-then-c-2
unfolding offset_of
returns-then-c-2 c =
    record { value = rw (c.if-c.false, c.if-c-2.true); upper_bound = search rules }

pub returns-then-c-eq-ERRORS : goal.returns-then-c-eq-ERRORS
unfolding offset_of
returns-then-c-eq-ERRORS c =
    let args = c.args in
    record { value = rw (c.if-c.false, c.if-c-2.false, eq-eqb args.code 8 c.if-c-eq-ERRORS.true); upper_bound = search rules }

pub returns-then-c-eq-SKIPPED : goal.returns-then-c-eq-SKIPPED
unfolding offset_of
returns-then-c-eq-SKIPPED c =
    let args = c.args in
    record { value = rw (c.if-c.false, c.if-c-2.false, ne_eqb args.code 8 c.if-c-eq-ERRORS.false, eq-eqb args.code 9 c.if-c-eq-SKIPPED.true); upper_bound = search rules }

pub returns-then-c-eq-DISABLED : goal.returns-then-c-eq-DISABLED
unfolding offset_of
returns-then-c-eq-DISABLED c =
    let args = c.args in
    let if1 = c.if-c in record {
      value = rw (
        if1.false,
        c.if-c-2.false,
        ne_eqb args.code 8 c.if-c-eq-ERRORS.false,
        ne_eqb args.code 9 c.if-c-eq-SKIPPED.false,
        eq-eqb args.code 10 c.if-c-eq-DISABLED.true,
      );
      upper_bound = search rules;
    }

pub returns-then-c-eq-HOSTNAME : goal.returns-then-c-eq-HOSTNAME
unfolding offset_of
returns-then-c-eq-HOSTNAME c =
    let args = c.args in
    let if1 = c.if-c in
    let if2 = c.if-c-2 in record {
      value = rw (
        if1.false,
        if2.false,
        ne_eqb args.code 8 c.if-c-eq-ERRORS.false,
        ne_eqb args.code 9 c.if-c-eq-SKIPPED.false,
        ne_eqb args.code 10 c.if-c-eq-DISABLED.false,
        eq-eqb args.code 15 c.if-c-eq-HOSTNAME.true,
      );
      upper_bound = search rules;
    }

pub returns-then-c-eq-VALUE : goal.returns-then-c-eq-VALUE
unfolding offset_of
returns-then-c-eq-VALUE c =
    let args = c.args in
    let if1 = c.if-c in
    let if2 = c.if-c-2 in
    let if3 = c.if-c-eq-ERRORS in record {
      value = rw (
        if1.false,
        if2.false,
        ne_eqb args.code 8 if3.false,
        ne_eqb args.code 9 c.if-c-eq-SKIPPED.false,
        ne_eqb args.code 10 c.if-c-eq-DISABLED.false,
        ne_eqb args.code 15 c.if-c-eq-HOSTNAME.false,
        eq-eqb args.code 14 c.if-c-eq-VALUE.true,
      );
      upper_bound = search rules;
    }

pub returns-else-c-eq-VALUE : goal.returns-else-c-eq-VALUE
unfolding offset_of
returns-else-c-eq-VALUE c =
    let args = c.args in
    let if1 = c.if-c in
    let if2 = c.if-c-2 in
    let if3 = c.if-c-eq-ERRORS in record {
      value = rw (
        if1.false,
        if2.false,
        ne_eqb args.code 8 if3.false,
        ne_eqb args.code 9 c.if-c-eq-SKIPPED.false,
        ne_eqb args.code 10 c.if-c-eq-DISABLED.false,
        ne_eqb args.code 15 c.if-c-eq-HOSTNAME.false,
        ne_eqb args.code 14 c.if-c-eq-VALUE.false,
      );
      upper_bound = search rules;
    }
