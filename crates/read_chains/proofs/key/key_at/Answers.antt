use Rattle.read_element.specs.of_table.Event.{part}
use lib.ListN.{get_or}
use Prim.Native.Nat.{ℕ, ◌+◌, ◌*◌}
use mathlib.Core.Path.{ap, ◌∙◌}
use Rattle.read_chains.proofs.key.key_at.Goals as goal

pub returns : goal.returns
returns c =
    let args = c.args in
    let s = args.source.now in
    c.bytes_of.ensures ∙ ap (λ (n : ℕ). part s n c.wide-2.result) c.wide.ensures
    ∙ ap (part s (get_or args.attributes.now (args.j * 5 + 1) 0)) c.wide-2.ensures
