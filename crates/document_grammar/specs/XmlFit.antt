-- When a report can be written as an XML document: extra keys are XML names, and texts are XML characters. In a layout, where texts are
-- UTF-8 without control characters, only U+FFFE and U+FFFF are none. Definitions only.
use Rattle.std.specs.Prelude.{ℕ, List, [], ◌∷◌, ◌++◌, map, Bool, false, ◌&&◌}
use Rattle.document_events.specs.of_utf8.Utf8.{utf8}
use Rattle.document_events.specs.of_utf8.Characters.{chars, scalar}
use Rattle.document_events.specs.of_tree_report.Report.{Text, Pair, TestRerun, Reason, TestCaseStatus, success, non_success, skipped, TestCase, TestSuite, Report}
use Rattle.document_events.specs.of_tree_report.Encode.{every}
use Rattle.round_elements.specs.Plain.{listed}
use Rattle.xml_grammar.specs.of_xml_chars.Chars.{is_in, any_char, name_start, name_char}

-- the code points of a text's characters
abbrev pub codes : Text → List ℕ
codes t = map scalar (chars t)

-- characters of production [2] Char of XML 1.0
unfoldable pub xml_text : Text → Bool
xml_text t = utf8 t && every (is_in any_char) (codes t)

-- production [5] Name
abbrev pub is_name : List ℕ → Bool
is_name [] = false
is_name (c ∷ s) = is_in name_start c && every (is_in name_char) s

unfoldable pub xml_name : Text → Bool
xml_name t = utf8 t && is_name (codes t)

unfoldable pub fit_property : Pair → Bool
fit_property p = xml_text p.key && xml_text p.value

unfoldable pub fit_extra : Pair → Bool
fit_extra p = xml_name p.key && xml_text p.value

unfoldable pub fit_reason : Reason → Bool
fit_reason m = every xml_text (listed m.message ++ (listed m.type ++ listed m.description))

unfoldable pub fit_run : TestRerun → Bool
fit_run e =
    every xml_text (listed e.message ++ (listed e.type ++ listed e.description))
    && every xml_text (listed e.stack_trace ++ (listed e.system_out ++ listed e.system_err))

unfoldable pub fit_status : TestCaseStatus → Bool
fit_status (success runs) = every fit_run runs
fit_status (non_success kind reason family runs) = fit_reason reason && every fit_run runs
fit_status (skipped reason) = fit_reason reason

unfoldable pub fit_case : TestCase → Bool
fit_case c =
    every xml_text (c.name ∷ (listed c.classname ++ (listed c.system_out ++ listed c.system_err)))
    && (every fit_extra c.extra && (every fit_property c.properties && fit_status c.status))

unfoldable pub fit_suite : TestSuite → Bool
fit_suite s =
    every xml_text (s.name ∷ (listed s.hostname ++ (listed s.system_out ++ listed s.system_err)))
    && (every fit_extra s.extra && (every fit_property s.properties && every fit_case s.cases))

unfoldable pub xml_fit : Report → Bool
xml_fit r = every xml_text (listed r.name) && every fit_suite r.suites
