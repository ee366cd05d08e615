-- The code's paths in the words of Paths.antt. Definitions only.
use Rattle.std.specs.Prelude.{Bool, true, false, List, ◌≡◌}
use Rattle.read_rules.specs.of_refusal.Refusal.{path_from}
use Rattle.read_rules.specs.of_refusal.declared.PathElement.{PathElement}
use Rattle.read_rules.specs.of_refusal.declared.Path.{Path}
use Rattle.read_place.specs.of_read_state.Control.{top, suite, case, status}
use Rattle.read_place.specs.of_read_state.Control.{Act, pass, open_report, open_suite, open_case, open_status, close_suite, close_case, close_status, open_text, close_text, open_list, read_property, stop, missing, broken}

-- a path of the code, and its elements: behind them stand fillers
pub record Leads (p : Path) (es : List PathElement) : Type 0 where
  pub whole : p ≡ path_from es

-- the path of an act has room for an Attribute; only a property of a status element, which is never read, would have none
abbrev pub has_room : Act → Bool
has_room (read_property top e name) = true
has_room (read_property suite e name) = true
has_room (read_property case e name) = true
has_room (read_property status e name) = false
has_room (pass m) = true
has_room (open_report e) = true
has_room (open_suite e) = true
has_room (open_case e) = true
has_room (open_status k e) = true
has_room close_suite = true
has_room close_case = true
has_room close_status = true
has_room (open_text l o) = true
has_room (close_text l o) = true
has_room (open_list l e) = true
has_room stop = true
has_room missing = true
has_room (broken n) = true
