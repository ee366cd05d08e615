use Rattle.text_key.specs.of_text.Value.{value_text}
use Rattle.read_extra_record.specs.of_table.Event.{part}
use Rattle.text_key.specs.of_names.Names.{same_bytes}
use Rattle.read_extras.proofs.Placing.{other_length}
use borrow.Author.Tests.{ne_eqb}
use lib.ListN.{get_or}
use mathlib.Core.Path.{sym, ap, ◌∙◌}
use mathlib.Core.List.{List}
use Prim.Native.Nat.{ℕ}
use Rattle.read_extras.proofs.is_key.Goals as goal

pub returns-else-stored-n : goal.returns-else-stored-n
returns-else-stored-n c =
    let s = c.args.text.now in
    let k = value_text c.args.key.now in
    ne_eqb _ _ c.if-stored-n.false ∙ other_length c.bytes_of-stored.result.now k (λ e. c.if-stored-n.false (e ∙ sym c.requires))
    ∙ ap (λ (l : List ℕ). same_bytes l k) (c.bytes_of-stored.ensures ∙ ap (λ (n : ℕ). part s n c.wide-2.result) (c.wide.ensures ∙ c.field.ensures)
    ∙ ap (part s (get_or c.args.words.now 2 0)) (c.wide-2.ensures ∙ c.field-2.ensures))
