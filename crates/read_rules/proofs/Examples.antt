-- What is done at a tag, at Eof and at a Fault, computed where a wrong rule would differ. Assumes nothing.
use mathlib.Core.Path.{◌≡◌, refl}
use mathlib.Core.Bool.{true, false}
use Rattle.read_children.specs.of_names.Bytes.{bytes}
use Rattle.read_children.specs.of_names.Names.{same_bytes, code_from}
use Rattle.read_children.specs.of_names.Tags.{tags, tag_of}
use Rattle.read_children.specs.of_table.Event.{Start, Empty, End}
use Rattle.read_children.specs.of_refusal.declared.Cause.TheVariants as cause
use Rattle.read_children.specs.of_read_state.Control.{top, suite, case, status, out, err, trace, at, gathering, listing, skipping, pass, open_report}
use Rattle.read_children.specs.of_read_state.Control.{open_suite, close_status, close_text, open_list, read_property, stop, missing, broken, or_skip}
use Rattle.read_rules.specs.Rules.{outputs, emptied, at_top, at_suite, at_case, child, at_status, in_text, in_list_of, in_skip, plan_eof, plan_fault}

-- a suite counts only once a report exists
suite-alone : at_top false Start (tag_of (bytes "testsuite")) ≡ pass (at top)
unfolding at_top tags code_from same_bytes
suite-alone = refl

suite-of-report : at_top true Start (tag_of (bytes "testsuite")) ≡ open_suite false
unfolding at_top tags code_from same_bytes
suite-of-report = refl

-- a second report replaces the first
second-report : at_top true Empty (tag_of (bytes "testsuites")) ≡ open_report true
unfolding at_top tags code_from same_bytes
second-report = refl

no-report : at_top false End (tag_of (bytes "testsuites")) ≡ missing
unfolding at_top tags code_from same_bytes
no-report = refl

-- the End of any status name closes a status element, and its child's doesn't
other-end : at_status End (bytes "error") ≡ close_status
unfolding at_status tags code_from same_bytes
other-end = refl

child-end : at_status End (bytes "stackTrace") ≡ pass (at status)
unfolding at_status tags code_from same_bytes
child-end = refl

-- of a status element an Empty child is an empty text, or ends where it stands, a status name too; the element goes on
empty-trace : at_status Empty (bytes "stackTrace") ≡ close_text status trace
unfolding at_status tags code_from same_bytes
empty-trace = refl

empty-output_in-status : at_status Empty (bytes "system-out") ≡ close_text status out
unfolding at_status emptied tags code_from same_bytes
empty-output_in-status = refl

status-in-status : at_status Empty (bytes "failure") ≡ pass (at status)
unfolding at_status emptied tags code_from same_bytes
status-in-status = refl

start-in-status : at_status Start (bytes "failure") ≡ pass (skipping (at status) (bytes "failure") 0)
unfolding at_status child outputs or_skip tags code_from same_bytes
start-in-status = refl

-- so it is in a suite and a case; there an Empty list replaces the list
empty-output : at_case Empty (bytes "system-err") ≡ close_text case err
unfolding at_case emptied tags code_from same_bytes
empty-output = refl

empty-list : at_suite Empty (bytes "properties") ≡ open_list suite true
unfolding at_suite tags code_from same_bytes
empty-list = refl

empty-unknown : at_case Empty (bytes "stackTrace") ≡ pass (at case)
unfolding at_case emptied tags code_from same_bytes
empty-unknown = refl

-- a gathered text ends at the End of its name alone
empty-in-text : in_text suite out Empty (tag_of (bytes "system-out")) ≡ pass (gathering suite out)
unfolding in_text tags code_from same_bytes
empty-in-text = refl

end-of-text : in_text suite out End (tag_of (bytes "system-out")) ≡ close_text suite out
unfolding in_text tags code_from same_bytes
end-of-text = refl

-- a property counts in either spelling; an Empty `properties` ends nothing
start-property : in_list_of case Start (bytes "property") ≡ read_property case false (bytes "property")
unfolding in_list_of tags code_from same_bytes
start-property = refl

empty-property : in_list_of case Empty (bytes "property") ≡ read_property case true (bytes "property")
unfolding in_list_of tags code_from same_bytes
empty-property = refl

list-in-list : in_list_of case Empty (bytes "properties") ≡ pass (listing case)
unfolding in_list_of tags code_from same_bytes
list-in-list = refl

-- the skip counts Starts of its name, and ends at depth 0, where reading stands as before it
deeper : in_skip (at suite) (bytes "x") 0 Start (bytes "x") ≡ pass (skipping (at suite) (bytes "x") 1)
unfolding in_skip same_bytes
deeper = refl

ended : in_skip (at suite) (bytes "x") 0 End (bytes "x") ≡ pass (at suite)
unfolding in_skip same_bytes
ended = refl

property-ended : in_skip (listing case) (bytes "property") 0 End (bytes "property") ≡ pass (listing case)
unfolding in_skip same_bytes
property-ended = refl

-- Eof: an unclosed report, a text, a skip, a report closed by an Empty `testsuites`, none
eof-open : plan_eof (at top) true false ≡ broken cause.EofInElement
unfolding plan_eof
eof-open = refl

eof-in-text : plan_eof (gathering case out) true true ≡ broken cause.EofInElement
unfolding plan_eof
eof-in-text = refl

eof-in-skip : plan_eof (skipping (at case) (bytes "x") 0) true true ≡ broken cause.EofInSkip
unfolding plan_eof
eof-in-skip = refl

eof-closed : plan_eof (at top) true true ≡ stop
unfolding plan_eof
eof-closed = refl

eof-none : plan_eof (at top) false true ≡ missing
unfolding plan_eof
eof-none = refl

fault-in-text : plan_fault (gathering case out) ≡ broken cause.XmlFault
unfolding plan_fault
fault-in-text = refl
