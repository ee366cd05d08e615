use Rattle.port_c.specs.Sheets.{port_printed}
use Rattle.port_values.specs.of_port_refusal.declared.KRefusal.{KRefusal}
use mathlib.Core.Path.{ap, ◌∙◌}
use Rattle.port_c.proofs.sheets.printed.Goals as goal

pub returns : goal.returns
returns c =
    let text = c.print_sheet-text in
    (ap (λ (k : KRefusal). record { length = text.result.length; refusal = k }) c.from_refusal.ensures ∙ ap port_printed text.ensures.value, text.ensures.out_after)
