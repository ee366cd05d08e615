use borrow.Author.Tests.{eq-eqb, ne_eqb}
use Rattle.write_items.specs.inside.Slots.{bit_of}
use Rattle.write_codes.proofs.bit_of.Goals as goal

pub returns-then-c : goal.returns-then-c
unfolding bit_of
returns-then-c c =
    rw c.if-c.true

pub returns-then-c-eq-UUID : goal.returns-then-c-eq-UUID
unfolding bit_of
returns-then-c-eq-UUID c =
    let args = c.args in
    rw (c.if-c.false, eq-eqb args.code 3 c.if-c-eq-UUID.true)

pub returns-then-c-eq-TIMESTAMP : goal.returns-then-c-eq-TIMESTAMP
unfolding bit_of
returns-then-c-eq-TIMESTAMP c =
    let args = c.args in
    rw (c.if-c.false, ne_eqb args.code 3 c.if-c-eq-UUID.false, eq-eqb args.code 4 c.if-c-eq-TIMESTAMP.true)

pub returns-then-c-eq-TIME : goal.returns-then-c-eq-TIME
unfolding bit_of
returns-then-c-eq-TIME c =
    let args = c.args in
    rw (c.if-c.false, ne_eqb args.code 3 c.if-c-eq-UUID.false, ne_eqb args.code 4 c.if-c-eq-TIMESTAMP.false, eq-eqb args.code 5 c.if-c-eq-TIME.true)

pub returns-then-c-2 : goal.returns-then-c-2
unfolding bit_of
returns-then-c-2 c =
    let args = c.args in
    let if1 = c.if-c in
    rw (
      if1.false,
      ne_eqb args.code 3 c.if-c-eq-UUID.false,
      ne_eqb args.code 4 c.if-c-eq-TIMESTAMP.false,
      ne_eqb args.code 5 c.if-c-eq-TIME.false,
      c.if-c-2.true,
    )

pub returns-then-c-eq-ASSERTIONS : goal.returns-then-c-eq-ASSERTIONS
unfolding bit_of
returns-then-c-eq-ASSERTIONS c =
    let args = c.args in
    let if1 = c.if-c in
    let if2 = c.if-c-eq-UUID in
    rw (
      if1.false,
      ne_eqb args.code 3 if2.false,
      ne_eqb args.code 4 c.if-c-eq-TIMESTAMP.false,
      ne_eqb args.code 5 c.if-c-eq-TIME.false,
      c.if-c-2.false,
      eq-eqb args.code 11 c.if-c-eq-ASSERTIONS.true,
    )

pub returns-then-c-eq-HOSTNAME : goal.returns-then-c-eq-HOSTNAME
unfolding bit_of
returns-then-c-eq-HOSTNAME c =
    let args = c.args in
    let if1 = c.if-c in
    let if2 = c.if-c-eq-UUID in
    let if3 = c.if-c-eq-TIMESTAMP in
    rw (
      if1.false,
      ne_eqb args.code 3 if2.false,
      ne_eqb args.code 4 if3.false,
      ne_eqb args.code 5 c.if-c-eq-TIME.false,
      c.if-c-2.false,
      ne_eqb args.code 11 c.if-c-eq-ASSERTIONS.false,
      eq-eqb args.code 15 c.if-c-eq-HOSTNAME.true,
    )

pub returns-then-c-eq-DISABLED : goal.returns-then-c-eq-DISABLED
unfolding bit_of
returns-then-c-eq-DISABLED c =
    let args = c.args in
    let if1 = c.if-c in
    let if2 = c.if-c-eq-UUID in
    let if3 = c.if-c-eq-TIMESTAMP in
    let if4 = c.if-c-eq-TIME in
    rw (
      if1.false,
      ne_eqb args.code 3 if2.false,
      ne_eqb args.code 4 if3.false,
      ne_eqb args.code 5 if4.false,
      c.if-c-2.false,
      ne_eqb args.code 11 c.if-c-eq-ASSERTIONS.false,
      ne_eqb args.code 15 c.if-c-eq-HOSTNAME.false,
      eq-eqb args.code 10 c.if-c-eq-DISABLED.true,
    )

pub returns-else-c-eq-DISABLED : goal.returns-else-c-eq-DISABLED
unfolding bit_of
returns-else-c-eq-DISABLED c =
    let args = c.args in
    let if1 = c.if-c in
    let if2 = c.if-c-eq-UUID in
    let if3 = c.if-c-eq-TIMESTAMP in
    let if4 = c.if-c-eq-TIME in
    rw (
      if1.false,
      ne_eqb args.code 3 if2.false,
      ne_eqb args.code 4 if3.false,
      ne_eqb args.code 5 if4.false,
      c.if-c-2.false,
      ne_eqb args.code 11 c.if-c-eq-ASSERTIONS.false,
      ne_eqb args.code 15 c.if-c-eq-HOSTNAME.false,
      ne_eqb args.code 10 c.if-c-eq-DISABLED.false,
    )
