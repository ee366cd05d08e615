-- The path of where reading stands, and of a refusal at an act. Definitions only.
use Rattle.std.specs.Prelude.{List, [], ◌∷◌, ◌++◌}
use Rattle.read_rules.specs.of_refusal.Refusal.{nowhere}
use Rattle.read_rules.specs.of_refusal.declared.PathElement.{PathElement}
use Rattle.read_fault.specs.of_read_element.Outcome.{Place, element, stack_trace_element}
use Rattle.read_place.specs.of_read_state.Control.{Level, top, suite, case, status, Output, trace, out, err, Mode, at, gathering, listing, skipping, finished}
use Rattle.read_place.specs.of_read_state.Control.{Act, pass, open_report, open_suite, open_case, open_status, close_suite, close_case, close_status, open_text, close_text, open_list, read_property, stop, missing, broken}
use Rattle.read_place.specs.Marks.{Marks}

abbrev pub root : List PathElement
root = element 1 nowhere nowhere ∷ []

abbrev pub suite_path : Marks → List PathElement
suite_path m = root ++ (element 2 m.suite_index_of m.suite_start_of ∷ [])

-- with the indices of suite and case (rule F4)
abbrev pub case_path : Marks → List PathElement
case_path m = suite_path m ++ (element 3 m.case_index_of m.case_start_of ∷ [])

abbrev pub level_path : Level → Marks → List PathElement
level_path top m = root
level_path suite m = suite_path m
level_path case m = case_path m
level_path status m = case_path m ++ (element m.status_kind_of nowhere nowhere ∷ [])

-- the path of a stack trace ends in Attribute `stackTrace` (rule F8)
abbrev pub output_element : Output → PathElement
output_element trace = stack_trace_element
output_element out = element 14 nowhere nowhere
output_element err = element 15 nowhere nowhere

-- inside an element its own path (rule R18); a skip has the path of the element or list that the skipped tag stands in (rule F7)
abbrev pub mode_path : Mode → Marks → List PathElement
mode_path (at l) m = level_path l m
mode_path (gathering l o) m = level_path l m ++ (output_element o ∷ [])
mode_path (listing l) m = level_path l m ++ (element 4 nowhere nowhere ∷ [])
mode_path (skipping outer name depth) m = mode_path outer m
mode_path finished m = []

-- `pass`, `close_suite`, `open_text`, `open_list` and `stop` never refuse, and nothing is refused where reading is finished: the path
-- that stands for them is a filler, so that every act has one.
-- A suite or case has no event number while it is opened (rule F5); without a report the path is empty (rule R9).
abbrev pub path_of : Act → Mode → Marks → List PathElement
path_of (open_suite e) mode m = root ++ (element 2 m.suite_index_of nowhere ∷ [])
path_of (open_case e) mode m = level_path suite m ++ (element 3 m.case_index_of nowhere ∷ [])
path_of (open_status k e) mode m = level_path case m ++ (element k nowhere nowhere ∷ [])
path_of (read_property l e name) mode m = level_path l m ++ (element 4 nowhere nowhere ∷ element 5 m.property_index_of nowhere ∷ [])
path_of missing mode m = []
path_of (open_report e) mode m = root
path_of (pass n) mode m = root
path_of close_suite mode m = root
path_of close_case mode m = level_path case m
path_of close_status mode m = level_path status m
path_of (open_text l o) mode m = root
path_of (close_text l o) mode m = level_path l m ++ (output_element o ∷ [])
path_of (open_list l e) mode m = root
path_of stop mode m = root
path_of (broken n) mode m = mode_path mode m

-- the event that is being read, and no attribute (rule F6)
abbrev pub act_place : Act → Mode → Marks → Place
act_place a mode m = record { path = path_of a mode m; event = m.event; attribute = nowhere }
