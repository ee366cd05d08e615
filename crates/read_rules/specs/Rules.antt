-- What is done at a tag, at Eof and at a Fault (rules R3 to R16, R18, R19 and S2 to S4). It sees kinds and tag names only.
-- Definitions only.
use Rattle.std.specs.Prelude.{ℕ, zero, suc, List, Bool, true, false, cond, ◌&&◌, eqb}
use Rattle.read_children.specs.of_names.Names.{same_bytes}
use Rattle.read_children.specs.of_names.Tags.{tag_of, testsuites, testsuite, testcase, properties, property, stack_trace, system-out, system-err}
use Rattle.read_children.specs.of_table.Event.{TagKind, Start, Empty, End}
use Rattle.read_children.specs.of_read_state.Control.{Level, top, suite, case, status, Output, trace, out, err, Mode, at, gathering, listing, skipping, finished, Act, pass, open_report, open_suite}
use Rattle.read_children.specs.of_read_state.Control.{open_case, open_status, close_suite, close_case, close_text, open_list, read_property, stop, missing, broken, is_status}
use Rattle.read_children.specs.of_refusal.declared.Cause.TheVariants as cause
-- the children of suite, case and status element
unfoldable pub use Rattle.read_children.specs.Children.{outputs, emptied, child, at_status}

-- at report level (rules R3 to R7); an End `testsuites` without a report is refused (rule R9)
unfoldable pub at_top : Bool → TagKind → ℕ → Act
at_top seen Start t = cond (eqb t testsuites) (open_report false) (cond (eqb t testsuite && seen) (open_suite false) (pass (at top)))
at_top seen Empty t = cond (eqb t testsuites) (open_report true) (cond (eqb t testsuite && seen) (open_suite true) (pass (at top)))
at_top seen End t = cond (eqb t testsuites) (cond seen stop missing) (pass (at top))

-- by rules R10 and R13; any End but the element's own is passed over (rule R12)
unfoldable pub at_suite : TagKind → List ℕ → Act
at_suite Start name = cond (eqb (tag_of name) testcase) (open_case false) (cond (eqb (tag_of name) properties) (open_list suite false) (outputs suite name))
at_suite Empty name = cond (eqb (tag_of name) testcase) (open_case true) (cond (eqb (tag_of name) properties) (open_list suite true) (emptied suite name))
at_suite End name = cond (eqb (tag_of name) testsuite) close_suite (pass (at suite))

-- by rules R10, R12 and R13, as in a suite
unfoldable pub at_case : TagKind → List ℕ → Act
at_case Start name =
    cond (is_status (tag_of name)) (open_status (tag_of name) false) (cond (eqb (tag_of name) properties) (open_list case false) (outputs case name))
at_case Empty name =
    cond (is_status (tag_of name)) (open_status (tag_of name) true) (cond (eqb (tag_of name) properties) (open_list case true) (emptied case name))
at_case End name = cond (eqb (tag_of name) testcase) close_case (pass (at case))

-- the tag whose next End ends the text (rule R14)
abbrev pub tag_of_output : Output → ℕ
tag_of_output trace = stack_trace
tag_of_output out = system-out
tag_of_output err = system-err

-- tags are passed over, and their depth isn't counted (rule R14)
unfoldable pub in_text : Level → Output → TagKind → ℕ → Act
in_text l o Start t = pass (gathering l o)
in_text l o Empty t = pass (gathering l o)
in_text l o End t = cond (eqb t (tag_of_output o)) (close_text l o) (pass (gathering l o))

-- a `property` counts in either spelling, and a Start's content is skipped (rule R16); an Empty `properties` ends nothing (rule R15)
unfoldable pub in_list_of : Level → TagKind → List ℕ → Act
in_list_of l Start name = cond (eqb (tag_of name) property) (read_property l false name) (pass (listing l))
in_list_of l Empty name = cond (eqb (tag_of name) property) (read_property l true name) (pass (listing l))
in_list_of l End name = cond (eqb (tag_of name) properties) (pass (at l)) (pass (listing l))

-- an End of the skipped name less to come; behind the last reading stands where it stood
abbrev pub shallower : Mode → List ℕ → ℕ → Mode
shallower m name zero = m
shallower m name (suc depth) = skipping m name depth

-- to the End of the same name that isn't taken by a Start of it in between (rule R11)
unfoldable pub in_skip : Mode → List ℕ → ℕ → TagKind → List ℕ → Act
in_skip m skipped depth Start name = pass (skipping m skipped (cond (same_bytes name skipped) (suc depth) depth))
in_skip m skipped depth Empty name = pass (skipping m skipped depth)
in_skip m skipped depth End name = pass (cond (same_bytes name skipped) (shallower m skipped depth) (skipping m skipped depth))

unfoldable pub plan_at : Mode → Bool → TagKind → List ℕ → Act
plan_at (at top) seen k name = at_top seen k (tag_of name)
plan_at (at suite) seen k name = at_suite k name
plan_at (at case) seen k name = at_case k name
plan_at (at status) seen k name = at_status k name
plan_at (gathering l o) seen k name = in_text l o k (tag_of name)
plan_at (listing l) seen k name = in_list_of l k name
plan_at (skipping m skipped depth) seen k name = in_skip m skipped depth k name
plan_at finished seen k name = pass finished

-- at report level by rules R8 and R9, in an element by rule R18, in a skip by rule R19
unfoldable pub plan_eof : Mode → Bool → Bool → Act
plan_eof (at top) seen closed = cond seen (cond closed stop (broken cause.EofInElement)) missing
plan_eof (at suite) seen closed = broken cause.EofInElement
plan_eof (at case) seen closed = broken cause.EofInElement
plan_eof (at status) seen closed = broken cause.EofInElement
plan_eof (gathering l o) seen closed = broken cause.EofInElement
plan_eof (listing l) seen closed = broken cause.EofInElement
plan_eof (skipping m skipped depth) seen closed = broken cause.EofInSkip
plan_eof finished seen closed = pass finished

-- rule R19
unfoldable pub plan_fault : Mode → Act
plan_fault (at l) = broken cause.XmlFault
plan_fault (gathering l o) = broken cause.XmlFault
plan_fault (listing l) = broken cause.XmlFault
plan_fault (skipping m skipped depth) = broken cause.XmlFault
plan_fault finished = pass finished
