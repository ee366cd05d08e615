-- Which `testcase` tags are passed over, at small lists of events. Assumes nothing.
use Prim.Native.Nat.{ℕ}
use mathlib.Core.Path.{◌≡◌, refl}
use mathlib.Core.List.{List, [], ◌∷◌, ◌++◌}
use mathlib.Core.Bool.{true}
use mathlib.Core.Option.{Option, none, some}
use Rattle.case_tags.specs.of_refusal.Refusal.{Outcome, accepted, refused}
use Rattle.read_report.specs.of_utf8.Utf8 as utf8
use Rattle.case_tags.specs.of_names.Bytes.{bytes}
use Rattle.case_tags.specs.of_names.Names.{code_from, same_bytes}
use Rattle.case_tags.specs.of_names.Keys.{keys}
use Rattle.case_tags.specs.of_names.Tags.{tags}
use Rattle.case_tags.specs.of_table.Event.{Attribute, Start, Empty, End, Event, Tag}
use Rattle.read_report.specs.of_tree_status.Status.{tallied, ruled}
use Rattle.read_report.specs.of_tree_report.Report.{Report}
use Rattle.read_report.specs.of_read_element.Outcome as outcome
use Rattle.read_report.specs.of_read_state.Control as control
use Rattle.read_report.specs.of_read_rules.Rules as rules
use Rattle.read_report.specs.of_read_place.Marks.{marks_after}
use Rattle.read_report.specs.Deserialize as read
use Rattle.read_report.specs.Deserialize.{deserialize, deserialize_in}
use Rattle.case_tags.specs.Tags.{case_tag, case_tags}
use Rattle.case_claims.specs.PassedOver.{cases_of, passed_over_of}

abbrev named : List Attribute
named = record { good = true; key = bytes "name"; value = bytes "n" } ∷ []

abbrev holding : List ℕ → List Attribute → List Event → List Event
holding n xs es = Tag Start n 0 xs ∷ es ++ (Tag End n 0 [] ∷ [])

-- a case in both spellings
abbrev cases : List Event
cases = Tag Empty (bytes "testcase") 0 named ∷ holding (bytes "testcase") named []

abbrev in_suite : List Event → List Event
in_suite es = holding (bytes "testsuite") named es

abbrev in_report : List Event → List Event
in_report es = holding (bytes "testsuites") [] es

-- the cases of the report, and the tags that are passed over
abbrev told : List Event → Outcome Report → Option (ℕ × ℕ)
told es (accepted r) = some (cases_of r, passed_over_of es r)
told es (refused why) = none

abbrev Gives : List Event → ℕ → ℕ → Type 0
Gives es kept passed = told es (deserialize es) ≡ some (kept, passed)

all-kept : Gives (in_report (in_suite cases)) 2 0
unfolding utf8.need utf8.low utf8.high code_from same_bytes keys tags tallied ruled
    outcome.◌>>=◌ outcome.there outcome.need outcome.fits control.or_skip control.turn control.gathers
    rules.outputs rules.emptied rules.at_top rules.at_suite rules.at_case rules.in_skip rules.plan_at rules.plan_eof marks_after
    read.attributes read.completed read.element read.perform read.act read.step read.steps deserialize_in deserialize case_tag case_tags
all-kept = refl

-- a suite in a suite is skipped with its cases (rules R10 and R11); those behind it are kept
nested-suite : Gives (in_report (in_suite (cases ++ in_suite cases ++ cases))) 4 2
unfolding utf8.need utf8.low utf8.high code_from same_bytes keys tags tallied ruled
    outcome.◌>>=◌ outcome.there outcome.need outcome.fits control.or_skip control.turn control.gathers
    rules.outputs rules.emptied rules.at_top rules.at_suite rules.at_case rules.in_skip rules.plan_at rules.plan_eof marks_after
    read.attributes read.completed read.element read.perform read.act read.step read.steps deserialize_in deserialize case_tag case_tags
nested-suite = refl

unknown-element : Gives (in_report (in_suite (holding (bytes "group") [] cases ++ cases))) 2 2
unfolding utf8.need utf8.low utf8.high code_from same_bytes keys tags tallied ruled
    outcome.◌>>=◌ outcome.there outcome.need outcome.fits control.or_skip control.turn control.gathers
    rules.outputs rules.emptied rules.at_top rules.at_suite rules.at_case rules.in_skip rules.plan_at rules.plan_eof marks_after
    read.attributes read.completed read.element read.perform read.act read.step read.steps deserialize_in deserialize case_tag case_tags
unknown-element = refl

-- in the report, before it and behind it (rules R3 and R6)
outside_a-suite : Gives (cases ++ in_report (cases ++ in_suite cases ++ cases) ++ cases) 2 8
unfolding utf8.need utf8.low utf8.high code_from same_bytes keys tags tallied ruled
    outcome.◌>>=◌ outcome.there outcome.need outcome.fits control.or_skip control.turn control.gathers
    rules.outputs rules.emptied rules.at_top rules.at_suite rules.at_case rules.in_skip rules.plan_at rules.plan_eof marks_after
    read.attributes read.completed read.element read.perform read.act read.step read.steps deserialize_in deserialize case_tag case_tags
outside_a-suite = refl

-- in a case
inside-a-case : Gives (in_report (in_suite (holding (bytes "testcase") named cases))) 1 2
unfolding utf8.need utf8.low utf8.high code_from same_bytes keys tags tallied ruled
    outcome.◌>>=◌ outcome.there outcome.need outcome.fits control.or_skip control.turn control.gathers
    rules.outputs rules.emptied rules.at_top rules.at_suite rules.at_case rules.in_skip rules.plan_at rules.plan_eof marks_after
    read.attributes read.completed read.element read.perform read.act read.step read.steps deserialize_in deserialize case_tag case_tags
inside-a-case = refl

-- a second report replaces the first with its cases (rule R3)
second-report : Gives (Tag Start (bytes "testsuites") 0 [] ∷ in_suite cases ++ in_report (in_suite cases)) 2 2
unfolding utf8.need utf8.low utf8.high code_from same_bytes keys tags tallied ruled
    outcome.◌>>=◌ outcome.there outcome.need outcome.fits control.or_skip control.turn control.gathers
    rules.outputs rules.emptied rules.at_top rules.at_suite rules.at_case rules.in_skip rules.plan_at rules.plan_eof marks_after
    read.attributes read.completed read.element read.perform read.act read.step read.steps deserialize_in deserialize case_tag case_tags
second-report = refl

-- an End is no tag of its own, and a name that only begins like it is another
other-tags : Gives (in_report (in_suite (Tag End (bytes "testcase") 0 [] ∷ Tag Empty (bytes "testcases") 0 named ∷ cases))) 2 0
unfolding utf8.need utf8.low utf8.high code_from same_bytes keys tags tallied ruled
    outcome.◌>>=◌ outcome.there outcome.need outcome.fits control.or_skip control.turn control.gathers
    rules.outputs rules.emptied rules.at_top rules.at_suite rules.at_case rules.in_skip rules.plan_at rules.plan_eof marks_after
    read.attributes read.completed read.element read.perform read.act read.step read.steps deserialize_in deserialize case_tag case_tags
other-tags = refl
