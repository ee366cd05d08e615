use mathlib.Core.Path.{sym, ◌∙◌}
use borrow.Author.Tests.{eq-eqb, ne_eqb}
use Rattle.write_entries.specs.of_write_items.inside.Slots.{is_present, bit_of}
use Rattle.write_slots.proofs.is_present.Goals as goal

pub returns-then-place-eq-ALWAYS : goal.returns-then-place-eq-ALWAYS
unfolding is_present
returns-then-place-eq-ALWAYS c = rw (eq-eqb (bit_of c.args.code) 32 (sym c.bit_of-place.ensures ∙ c.if-place-eq-ALWAYS.true))

pub returns : goal.returns
unfolding is_present
returns c = rw (sym c.bit_of-place.ensures, ne_eqb c.bit_of-place.result 32 c.if-place-eq-ALWAYS.false) c.has_bit.ensures
