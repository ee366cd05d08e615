use lib.ListN.{get_or}
use Rattle.read_element.specs.of_table.Event.{part}
use Rattle.read_element.specs.of_names.Names.{same_bytes}
use mathlib.Core.Path.{ap, ◌∙◌}
use mathlib.Core.List.{List}
use Prim.Native.Nat.{ℕ}
use Rattle.read_repeats.proofs.has_key.Goals as goal

pub returns : goal.returns
returns c =
    let args = c.args in
    let wide = c.wide in
    let s = args.source.now in
    let k = args.key.now in
    c.same.ensures ∙ ap (λ (l : List ℕ). same_bytes l k)
    (c.bytes_of.ensures ∙ ap (λ (n : ℕ). part s n c.wide-2.result) wide.ensures ∙ ap (part s (get_or args.words.now 1 0)) c.wide-2.ensures)
