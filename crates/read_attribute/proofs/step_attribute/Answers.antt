use Rattle.std.specs.Prelude.{Err}
use mathlib.Core.Path.{ap}
use Prim.Native.Nat.{◌-◌}
use Rattle.read_repeats.specs.of_table.Event.{attributes_from}
use Rattle.read_repeats.specs.of_read_element.inside.Held.{keys_of}
use Rattle.read_attribute.proofs.Matching.{step-faulty, step-repeated, step-on, hint-lent}
use Rattle.read_attribute.proofs.step_attribute.Goals as goal

pub returns-then-words-ne0 : goal.returns-then-words-ne0
returns-then-words-ne0 c =
    let args = c.args in
    λ g rooms p used hd ro k hi. step-faulty args.attributes.now args.source.now args.j p
    (keys_of (attributes_from args.attributes.now args.source.now (args.j - args.range.first) args.range.first)) _ c.if-words-ne0.true (ap Err c.refused_at.ensures)

pub returns-then-is_repeated : goal.returns-then-is_repeated
returns-then-is_repeated c =
    let args = c.args in
    λ g rooms p used hd ro k hi.
    step-repeated args.attributes.now args.source.now args.j p (keys_of (attributes_from args.attributes.now args.source.now (args.j - args.range.first) args.range.first))
    c.if-words-ne0.false c.is_repeated.ensures k _ c.if-is_repeated.true (ap Err c.refused_at-then-is_repeated.ensures)

pub returns : goal.returns
returns c =
    let args = c.args in
    let if1 = c.if-words-ne0 in
    let is-repeated = c.is_repeated in
    let if2 = c.if-is_repeated in
    let read-attribute = c.read_attribute in
    λ g rooms p used hd ro k hi. step-on args.attributes.now args.source.now args.j p
    (keys_of (attributes_from args.attributes.now args.source.now (args.j - args.range.first) args.range.first)) if1.false is-repeated.ensures
    k rooms used args.kind g if2.false (read-attribute.ensures g rooms p used hd ro (hint-lent args.attributes.now args.source.now args.j g hi))
