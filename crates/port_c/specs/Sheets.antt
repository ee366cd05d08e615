-- What the release sheet answers other languages. Definitions only.
use Rattle.std.specs.Prelude.{ℕ}
use Rattle.case_tags.specs.of_refusal.Refusal.{Outcome}
use Rattle.sheet_text.specs.of_sheet_sums.declared.Sheet.{Sheet}
use Rattle.sheet_text.specs.of_sheet_sums.declared.Released.{Released}
use Rattle.sheet_text.specs.of_sheet_sums.Sheet.{released_from}
use Rattle.sheet_text.specs.declared.Printed.{Printed}
use Rattle.sheet_text.specs.Printed.{printed_from}
use Rattle.port_values.specs.of_port_refusal.Port.{port_refusal}
use Rattle.port_c.specs.declared.sheets.KReleased.{KReleased}
use Rattle.port_c.specs.declared.sheets.KPrinted.{KPrinted}

abbrev pub port_released : Released → KReleased
port_released a = record { sheet = a.sheet; refusal = port_refusal a.verdict a.refusal }

abbrev pub released_port : Outcome Sheet → KReleased
released_port o = port_released (released_from o)

abbrev pub port_printed : Printed → KPrinted
port_printed a = record { length = a.length; refusal = port_refusal a.verdict a.refusal }

abbrev pub printed_port : Outcome ℕ → KPrinted
printed_port o = port_printed (printed_from o)
