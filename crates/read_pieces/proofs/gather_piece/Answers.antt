use borrow.Author.Tests.{ne_eqb}
use mathlib.Core.Path.{refl}
use Rattle.read_pieces.proofs.gather_piece.Goals as goal

pub returns-in-3 : goal.returns-in-3
returns-in-3 c =
    rw c.in-3.is (c.gather_text.ensures)

pub returns-in-4 : goal.returns-in-4
returns-in-4 c =
    rw c.in-4.is (c.gather_cdata.ensures)

pub returns-in-5 : goal.returns-in-5
returns-in-5 c =
    rw c.in-5.is (c.gather_reference.ensures)

pub returns-in-9 : goal.returns-in-9
returns-in-9 c =
    rw c.in-9.is (c.gather_indent.ensures)

pub returns-in_default : goal.returns-in_default
returns-in_default c = rw (
  ne_eqb c.args.kind 3 c.in_default.in_default-own.rest.0.0.0.1,
  ne_eqb c.args.kind 4 c.in_default.in_default-own.rest.0.0.1,
  ne_eqb c.args.kind 5 c.in_default.in_default-own.rest.0.1,
  ne_eqb c.args.kind 9 c.in_default.in_default-own.rest.1,
) (record { result_value = refl; out_after = refl })
