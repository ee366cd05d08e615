-- What is spelled out, and what isn't, on both sides of each border. Assumes nothing.
use Prim.Native.Nat.{ℕ}
use mathlib.Core.Path.{◌≡◌, refl}
use mathlib.Core.Bool.{true, false}
use mathlib.Core.List.{List, [], ◌∷◌, ◌++◌}
use Rattle.read_report.specs.of_names.Bytes.{bytes}
use Rattle.read_report.specs.of_names.Names.{same_bytes, code_from}
use Rattle.read_report.specs.of_names.Keys.{keys}
use Rattle.read_report.specs.of_names.Tags.{tags}
use Rattle.read_report.specs.of_utf8.Utf8 as utf8
use Rattle.read_report.specs.of_table.Event.{Attribute, Start, Empty, End, Event, Tag}
use Rattle.read_report.specs.of_tree_status.Status.{no_status}
use Rattle.read_report.specs.of_read_element.Outcome as outcome
use Rattle.read_report.specs.of_read_element.Outcome.{Rooms}
use Rattle.read_report.specs.of_read_state.Control as reach
use Rattle.read_report.specs.of_read_state.Control.{top, case, status, out, Mode, at, gathering, listing, skipping, control}
use Rattle.read_report.specs.of_read_rules.Rules as rules
use Rattle.read_report.specs.of_read_place.Marks.{marks_after}
use Rattle.read_report.specs.Deserialize as read
use Rattle.read_report.specs.Deserialize.{deserialize_in, deserialize}
use Rattle.read_spelling.specs.Spelling.{spelled_from, SameAnswer}
use Rattle.read_spelling.proofs.Spelled.{spelling}

-- ---- what is spelled out
abbrev empty : List ℕ → List Event
empty name = Tag Empty name 3 [] ∷ []

abbrev both : List ℕ → List Event
both name = Tag Start name 3 [] ∷ Tag End name 0 [] ∷ []

abbrev spelled_in : Mode → List ℕ → List Event
spelled_in m name = spelled_from (control m true false no_status) (empty name)

output-in-status : spelled_in (at status) (bytes "system-out") ≡ both (bytes "system-out")
unfolding spelled_from
output-in-status = refl

property-in-list : spelled_in (listing case) (bytes "property") ≡ both (bytes "property")
unfolding spelled_from tags code_from same_bytes
property-in-list = refl

-- another name in a gathered text and in a list, any name in a skip, and a suite in a report
other-in-output : spelled_in (gathering case out) (bytes "system-err") ≡ both (bytes "system-err")
unfolding spelled_from tags code_from same_bytes
other-in-output = refl

other-in-list : spelled_in (listing case) (bytes "p") ≡ both (bytes "p")
unfolding spelled_from tags code_from same_bytes
other-in-list = refl

other-in-skip : spelled_in (skipping (at case) (bytes "p") 0) (bytes "q") ≡ both (bytes "q")
unfolding spelled_from
other-in-skip = refl

same-in-skip : spelled_in (skipping (at case) (bytes "p") 0) (bytes "p") ≡ both (bytes "p")
unfolding spelled_from
same-in-skip = refl

suite-in-report : spelled_in (at top) (bytes "testsuite") ≡ both (bytes "testsuite")
unfolding spelled_from tags code_from same_bytes
suite-in-report = refl

-- an Empty of the same name in a text or a list ends nothing, and behind an Empty `testsuites` reading goes on
output-in-output : spelled_in (gathering case out) (bytes "system-out") ≡ empty (bytes "system-out")
unfolding spelled_from tags code_from same_bytes
output-in-output = refl

list-in-list : spelled_in (listing case) (bytes "properties") ≡ empty (bytes "properties")
unfolding spelled_from tags code_from same_bytes
list-in-list = refl

report-in-report : spelled_in (at top) (bytes "testsuites") ≡ empty (bytes "testsuites")
unfolding spelled_from tags code_from same_bytes
report-in-report = refl

-- ---- these three, spelled out, would be read otherwise
abbrev named : List Attribute
named = record { good = true; key = bytes "name"; value = bytes "a" } ∷ []

-- in an open text or list of a suite
abbrev within : List ℕ → List Event → List Event
within name es =
    Tag Start (bytes "testsuites") 0 named ∷ Tag Start (bytes "testsuite") 0 named ∷ Tag Start name 0 [] ∷ es
    ++ (Tag End (bytes "testsuite") 0 [] ∷ Tag End (bytes "testsuites") 0 [] ∷ [])

output-otherwise : SameAnswer (deserialize (within (bytes "system-out") (empty (bytes "system-out")))) (deserialize (within (bytes "system-out") (both (bytes "system-out")))) → ⊥
unfolding utf8.need utf8.low utf8.high code_from same_bytes keys tags
    outcome.◌>>=◌ outcome.there outcome.need outcome.fits
    rules.outputs rules.at_top rules.at_suite rules.in_text rules.plan_at rules.plan_eof reach.turn marks_after
    read.attributes read.completed read.element read.perform read.act read.step read.steps deserialize_in deserialize
output-otherwise h = h

list-otherwise : SameAnswer (deserialize (within (bytes "properties") (empty (bytes "properties")))) (deserialize (within (bytes "properties") (both (bytes "properties")))) → ⊥
unfolding utf8.need utf8.low utf8.high code_from same_bytes keys tags
    outcome.◌>>=◌ outcome.there outcome.need outcome.fits
    rules.at_top rules.at_suite rules.in_list_of rules.plan_at rules.plan_eof reach.turn marks_after
    read.attributes read.completed read.element read.perform read.act read.step read.steps deserialize_in deserialize
list-otherwise h = h

-- the suite behind it has no name
abbrev report : List Event → List Event
report es = es ++ (Tag Empty (bytes "testsuite") 0 [] ∷ [])

report-otherwise : SameAnswer (deserialize (report (Tag Empty (bytes "testsuites") 0 named ∷ [])))
    (deserialize (report (Tag Start (bytes "testsuites") 0 named ∷ Tag End (bytes "testsuites") 0 [] ∷ []))) → ⊥
unfolding utf8.need utf8.low utf8.high code_from same_bytes keys tags
    outcome.◌>>=◌ outcome.there outcome.need outcome.fits
    rules.at_top rules.plan_at rules.plan_eof reach.turn marks_after
    read.attributes read.completed read.element read.perform read.act read.step read.steps deserialize_in deserialize
report-otherwise h = h

-- ---- with any room: an unknown child of a suite
abbrev around : List Event → List Event
around es = Tag Start (bytes "testsuites") 0 named ∷ Tag Start (bytes "testsuite") 0 named ∷ es ++ (Tag End (bytes "testsuite") 0 [] ∷ Tag End (bytes "testsuites") 0 [] ∷ [])

any-room : (rooms : Rooms) → SameAnswer (deserialize_in rooms (around (empty (bytes "n")))) (deserialize_in rooms (around (both (bytes "n"))))
unfolding spelled_from code_from same_bytes tags rules.outputs rules.emptied rules.at_top rules.at_suite rules.in_skip rules.plan_at reach.or_skip reach.turn
any-room rooms = spelling.in_areas rooms (around (empty (bytes "n"))) (around (both (bytes "n"))) refl
