use Prim.Native.Nat.{ℕ}
use mathlib.Core.Path.{ap, ◌∙◌}
use Rattle.explain_name.proofs.of_list_text.Putting.{other}
use Rattle.explain_name.specs.of_explain_lines.Lines.{line_in}
use Rattle.explain_element.proofs.Parts.{kind_table, kind-at}
use Rattle.explain_element.proofs.put_kind.Goals as goal

pub returns : goal.returns
returns c =
    let args = c.args in
    let least = c.least in
    other c.put.ensures (c.line_in.ensures ∙ ap (λ (n : ℕ). line_in n kind_table) least.ensures ∙ kind-at args.kind)
