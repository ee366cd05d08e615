use Rattle.xml_part.proofs.Classes.{meets-append}
use Rattle.xml_checks.specs.of_xml_state.inside.Parts.{low_start}
use Rattle.xml_checks.specs.of_xml_chars.Chars.{name_start}
use lib.ListN.{drop}
use mathlib.Core.Bool.{or-false}
use Rattle.xml_part.proofs.meets_start.Goals as goal

pub returns : goal.returns
returns c =
    let a = c.args in
    cc (or-false c.crosses-8.result, meets-append low_start (drop 8 name_start) a.low a.high)
