use Rattle.read_pieces.specs.inside.Pieces.{joined_by}
use Rattle.read_scratch.specs.inside.Places.{piece_from}
use Rattle.read_scratch.specs.of_read_state.declared.Mode.{Mode as CodedMode}
use mathlib.Core.Path.{sym, ap, subst, ◌∙◌}
use Prim.Native.Nat.{◌+◌, ◌≤◌}
use native.Mathlib.Omega.{arith}
use Rattle.read_pieces.proofs.joined.Goals as goal

pub described-requires : goal.described-requires
described-requires c =
    subst (λ (m : CodedMode). piece_from m c.args.content + c.args.n ≤ 9223372036854775807) c.in-At.is c.requires

pub lengthened-requires : goal.lengthened-requires
lengthened-requires c = let h = subst (λ (m : CodedMode). piece_from m c.args.content + c.args.n ≤ 9223372036854775807)
    c.in-Text.is c.requires in omega arith

pub returns-in-At : goal.returns-in-At
returns-in-At c = c.described.ensures ∙ sym (ap (λ (m : CodedMode). joined_by m c.args.n c.args.content) c.in-At.is)

pub returns-in-Text : goal.returns-in-Text
returns-in-Text c = c.lengthened.ensures ∙ sym (ap (λ (m : CodedMode). joined_by m c.args.n c.args.content) c.in-Text.is)
