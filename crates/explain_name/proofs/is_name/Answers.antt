use Prim.Native.Nat.{ℕ}
use mathlib.Core.List.{List}
use mathlib.Core.Path.{ap, ◌∙◌}
use Rattle.table_events.specs.of_names.Names.{same_bytes}
use Rattle.table_events.specs.of_names.Bytes.{bytes}
use Rattle.explain_name.proofs.is_name.Goals as goal

pub returns : goal.returns
returns c =
    let word_of = c.word_of in
    let wide = c.wide in
    let word-of2 = c.word_of-2 in
    c.same.ensures ∙ ap (λ (l : List ℕ). same_bytes l (bytes "name"))
    (rw (wide.ensures, c.wide-2.ensures, word_of.ensures, word-of2.ensures) at c.bytes_of.ensures)
