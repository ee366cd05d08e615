-- What reading must not be mistaken for, rule by rule, at small lists of events. Assumes nothing.
use Prim.Native.Nat.{ℕ}
use mathlib.Core.Path.{◌≡◌, refl}
use mathlib.Core.List.{List, [], ◌∷◌, ◌++◌}
use mathlib.Core.Bool.{true, false}
use mathlib.Core.Option.{Option, none, some}
use Rattle.scratch_claims.specs.of_utf8.Utf8 as utf8
use Rattle.scratch_claims.specs.of_utf8.Characters as chars
use Rattle.scratch_claims.specs.of_names.Bytes.{bytes}
use Rattle.scratch_claims.specs.of_names.Names.{code_from, same_bytes}
use Rattle.scratch_claims.specs.of_names.Keys as key
use Rattle.scratch_claims.specs.of_names.Keys.{keys}
use Rattle.scratch_claims.specs.of_names.Tags.{tags}
use Rattle.scratch_claims.specs.of_digits.Digits as digits
use Rattle.scratch_claims.specs.of_integer.Integer.{unsigned}
use Rattle.scratch_claims.specs.of_time.Time.{make_time}
use Rattle.scratch_claims.specs.of_calendar.Calendar.{is_leap, month_length}
use Rattle.scratch_claims.specs.of_timestamp.Timestamp as stamp
use Rattle.scratch_claims.specs.of_timestamp.declared.Moment.{Moment}
use Rattle.scratch_claims.specs.of_uuids.Uuid.{is_uuid, uuid_of}
use Rattle.scratch_claims.specs.of_reference.Reference as reference
use Rattle.scratch_claims.specs.of_refusal.Refusal.{nowhere, Outcome, accepted, refused}
use Rattle.scratch_claims.specs.of_refusal.declared.Cause.{Cause}
use Rattle.scratch_claims.specs.of_refusal.declared.PathElement.{PathElement}
use Rattle.scratch_claims.specs.of_refusal.declared.Cause.TheVariants as cause
use Rattle.scratch_claims.specs.of_table.Event.{Attribute, Start, Empty, End, Text as Chars, Event, Tag, Piece, Fault}
use Rattle.scratch_claims.specs.of_tree_status.Status.{tallied, ruled}
use Rattle.scratch_claims.specs.of_tree_report.Report.{Text, Duration, Pair, Counts, NonSuccessKind, failure, error, flaky, rerun, TestRerun, Reason}
use Rattle.scratch_claims.specs.of_tree_report.Report.{TestCaseStatus, success, non_success, skipped, TestCase, TestSuite, Report}
use Rattle.scratch_claims.specs.of_read_element.Outcome as outcome
use Rattle.scratch_claims.specs.of_read_element.Outcome.{Rooms, unlimited}
use Rattle.scratch_claims.specs.of_read_state.Control as control
use Rattle.scratch_claims.specs.of_read_rules.Rules as rules
use Rattle.scratch_claims.specs.of_read_place.Marks.{marks_after}
use Rattle.scratch_claims.specs.of_read_content.Content as content
use Rattle.scratch_claims.specs.of_read_report.Deserialize as read
use Rattle.scratch_claims.specs.of_read_report.Deserialize.{deserialize, deserialize_in}

-- ---- events
abbrev attribute : List ℕ → List ℕ → Attribute
attribute k v = record { good = true; key = k; value = v }

abbrev name : List ℕ → Attribute
name v = attribute (bytes "name") v

abbrev opens : List ℕ → List Attribute → Event
opens n xs = Tag Start n 0 xs

abbrev alone : List ℕ → List Attribute → Event
alone n xs = Tag Empty n 0 xs

abbrev ends : List ℕ → Event
ends n = Tag End n 0 []

abbrev holding : List ℕ → List Attribute → List Event → List Event
holding n xs es = opens n xs ∷ es ++ (ends n ∷ [])

abbrev texted : List ℕ → List ℕ → List Event
texted n v = holding n [] (Piece Chars v ∷ [])

abbrev property : List ℕ → List ℕ → Event
property k v = alone (bytes "property") (name k ∷ attribute (bytes "value") v ∷ [])

-- of a report with one suite `s`, and of one with one case `c` in it
abbrev in_report : List Event → List Event
in_report es = holding (bytes "testsuites") [] es

abbrev in_suite : List Event → List Event
in_suite es = in_report (holding (bytes "testsuite") (name (bytes "s") ∷ []) es)

abbrev in_case : List Event → List Event
in_case es = in_suite (holding (bytes "testcase") (name (bytes "c") ∷ []) es)

-- ---- reports
abbrev zero : Counts
zero = record { tests = 0; failures = 0; errors = 0; skipped = 0; disabled = none }

abbrev pair : List ℕ → List ℕ → Pair
pair k v = record { key = k; value = v }

abbrev case_with : TestCaseStatus → List Pair → (system_out system_err : Option Text) → TestCase
case_with s ps o e =
    record { name = bytes "c"; classname = none; assertions = none; timestamp = none; time = none; status = s; system_out = o; system_err = e; extra = []; properties = ps }

abbrev suite_with : List TestCase → List Pair → (system_out system_err : Option Text) → List Pair → TestSuite
suite_with cs ps o e xs = record { name = bytes "s"; counts = zero; timestamp = none; time = none; hostname = none; cases = cs; properties = ps; system_out = o; system_err = e; extra = xs }

abbrev report_with : List TestSuite → Report
report_with ss = record { name = none; uuid = none; timestamp = none; time = none; counts = zero; suites = ss }

abbrev bare : Reason
bare = record { message = none; type = none; description = none }

abbrev run_of : NonSuccessKind → TestRerun
run_of k =
    record { kind = k; timestamp = none; time = none; message = none; type = none; stack_trace = none; system_out = none; system_err = none; description = none }

-- ---- what an example says: the report that events give, or the cause that they are refused with, if any, or the key or index that the refusal's path
-- ends in, or the event and attribute that the refusal names
data Case : Type 0 where
  gives : List Event → Report → Case
  tells : Rooms → List Event → Option Cause → Case
  names : List Event → ℕ → Case
  points : List Event → ℕ → ℕ → Case

abbrev suite_gives : List Event → TestSuite → Case
suite_gives es s = gives es (report_with (s ∷ []))

abbrev case_gives : List Event → TestCase → Case
case_gives es c = suite_gives es (suite_with (c ∷ []) [] none none [])

abbrev status_gives : List Event → TestCaseStatus → Case
status_gives es s = case_gives (in_case es) (case_with s [] none none)

abbrev why : Outcome Report → Option Cause
why (accepted r) = none
why (refused r) = some r.cause

abbrev last_index : List PathElement → ℕ
last_index [] = 0
last_index (e ∷ []) = e.index
last_index (e ∷ (f ∷ fs)) = last_index (f ∷ fs)

abbrev last_of : Outcome Report → ℕ
last_of (accepted r) = 0
last_of (refused r) = last_index r.path

abbrev place_of : Outcome Report → ℕ × ℕ
place_of (accepted r) = (0, 0)
place_of (refused r) = (r.event, r.attribute)

abbrev Holds : Case → Type 0
Holds (gives es r) = deserialize es ≡ accepted r
Holds (tells rooms es c) = why (deserialize_in rooms es) ≡ c
Holds (names es k) = last_of (deserialize es) ≡ k
Holds (points es e a) = place_of (deserialize es) ≡ (e, a)

data All : List Case → Type 0 where
  none_left : All []
  one : {c : Case} {cs : List Case} → Holds c → All cs → All (c ∷ cs)

-- ---- lists, outputs, reports
-- the later list counts, not the older one, nor both (rule R17)
abbrev list-replaced : Case
list-replaced = suite_gives
    (in_suite (holding (bytes "properties") [] (property (bytes "a") (bytes "1") ∷ []) ++ holding (bytes "properties") [] (property (bytes "b") (bytes "2") ∷ property (bytes "c") (bytes "3") ∷ [])))
    (suite_with [] (pair (bytes "b") (bytes "2") ∷ pair (bytes "c") (bytes "3") ∷ []) none none [])

-- also an Empty one, and a case's list is the case's (rules R10, R13 and R17)
abbrev empty-list_replaces : Case
empty-list_replaces = case_gives (in_case (holding (bytes "properties") [] (property (bytes "a") (bytes "1") ∷ []) ++ (alone (bytes "properties") [] ∷ []))) (case_with (success []) [] none none)

abbrev case-list : Case
case-list = case_gives (in_case (holding (bytes "properties") [] (property (bytes "a") (bytes "1") ∷ []))) (case_with (success []) (pair (bytes "a") (bytes "1") ∷ []) none none)

-- so of outputs, and an empty one is there (rules R17 and X12)
abbrev outputs-replaced : Case
outputs-replaced = suite_gives (in_suite (texted (bytes "system-out") (bytes "x") ++ (alone (bytes "system-out") [] ∷ []) ++ texted (bytes "system-err") (bytes "y")))
    (suite_with [] [] (some []) (some (bytes "y")) [])

-- a case's outputs are the case's
abbrev case-outputs : Case
case-outputs = case_gives (in_case (texted (bytes "system-out") (bytes "x") ++ texted (bytes "system-err") (bytes "y") ++ texted (bytes "system-out") (bytes "z")))
    (case_with (success []) [] (some (bytes "z")) (some (bytes "y")))

-- the pieces of a text are joined in order (rules X9 and X10)
abbrev pieces-joined : Case
pieces-joined = case_gives (in_case (holding (bytes "system-out") [] (Piece Chars (bytes "x") ∷ Piece Chars (bytes "y") ∷ []))) (case_with (success []) [] (some (bytes "xy")) none)

-- a second report keeps no suite of the first (rule R3)
abbrev second-report : Case
second-report = gives (opens (bytes "testsuites") (name (bytes "a") ∷ []) ∷ alone (bytes "testsuite") (name (bytes "s") ∷ []) ∷ in_report (alone (bytes "testsuite") (name (bytes "s") ∷ []) ∷ []))
    (report_with (suite_with [] [] none none [] ∷ []))

-- what is open is the last suite, the last case (rules R10 and R12)
abbrev later-suite : Case
later-suite = gives (in_report (alone (bytes "testsuite") (name (bytes "s") ∷ [])
    ∷ holding (bytes "testsuite") (name (bytes "s") ∷ []) (alone (bytes "testcase") (name (bytes "c") ∷ []) ∷ holding (bytes "testcase") (name (bytes "c") ∷ []) (alone (bytes "skipped") [] ∷ []))))
    (report_with (suite_with [] [] none none [] ∷ suite_with (case_with (success []) [] none none ∷ case_with (skipped bare) [] none none ∷ []) [] none none [] ∷ []))

-- ---- status elements
-- runs of a success are flaky ones, in order (rule S10)
abbrev flaky-runs : Case
flaky-runs = status_gives (alone (bytes "flakyFailure") [] ∷ alone (bytes "flakyError") [] ∷ []) (success (run_of failure ∷ run_of error ∷ []))

-- their family is their own, wherever the main stands (rule S11)
abbrev flaky-error : Case
flaky-error = status_gives (alone (bytes "flakyError") [] ∷ alone (bytes "error") [] ∷ []) (non_success error bare flaky (run_of error ∷ []))

abbrev reruns : Case
reruns = status_gives (alone (bytes "rerunFailure") [] ∷ alone (bytes "failure") [] ∷ alone (bytes "rerunError") [] ∷ []) (non_success failure bare rerun (run_of failure ∷ run_of error ∷ []))

-- without runs it is Rerun
abbrev no-runs : Case
no-runs = status_gives (alone (bytes "failure") [] ∷ []) (non_success failure bare rerun [])

abbrev skipped-case : Case
skipped-case = status_gives (alone (bytes "skipped") (attribute (bytes "message") (bytes "m") ∷ attribute (bytes "type") (bytes "t") ∷ []) ∷ [])
    (skipped (record { message = some (bytes "m"); type = some (bytes "t"); description = none }))

-- two mains are refused at the case's End (rules S5 and S6)
abbrev two-mains : Case
two-mains = tells unlimited (in_case (alone (bytes "failure") [] ∷ alone (bytes "skipped") [] ∷ [])) (some cause.StatusRule)

-- a case's status elements aren't the next one's (rule S5)
abbrev next-case : Case
next-case = suite_gives (in_suite (holding (bytes "testcase") (name (bytes "c") ∷ []) (alone (bytes "error") [] ∷ []) ++ holding (bytes "testcase") (name (bytes "c") ∷ []) []))
    (suite_with (case_with (non_success error bare rerun []) [] none none ∷ case_with (success []) [] none none ∷ []) [] none none [])

-- a run keeps its texts, each in its place, the later one; a main its description alone (rules S3, S12, R17 and X11)
abbrev run-texts : Case
run-texts = status_gives (holding (bytes "flakyFailure") [] (Piece Chars (bytes " d ") ∷ texted (bytes "stackTrace") (bytes "t")
    ++ texted (bytes "system-out") (bytes "n") ++ texted (bytes "system-out") (bytes "o") ++ texted (bytes "system-err") (bytes "e")))
    (success (record {
      kind = failure;
      timestamp = none;
      time = none;
      message = none;
      type = none;
      stack_trace = some (bytes "t");
      system_out = some (bytes "o");
      system_err = some (bytes "e");
      description = some (bytes "d");
    } ∷ []))

abbrev main-texts : Case
main-texts = status_gives (holding (bytes "error") [] (Piece Chars (bytes " d ") ∷ texted (bytes "stackTrace") (bytes "t") ++ texted (bytes "system-out") (bytes "o")))
    (non_success error (record { message = none; type = none; description = some (bytes "d") }) rerun [])

-- a blank description is missing, and isn't the next element's (rule X11)
abbrev blank-description : Case
blank-description = status_gives (holding (bytes "flakyFailure") [] (Piece Chars (bytes " d ") ∷ []) ++ holding (bytes "failure") [] (Piece Chars (bytes "  ") ∷ [])) (non_success failure bare
    flaky (record { kind = failure; timestamp = none; time = none; message = none; type = none; stack_trace = none; system_out = none; system_err = none; description = some (bytes "d") } ∷ []))

-- ---- attributes
-- an extra whose cleaned key is there is replaced in its place (rule A8)
abbrev extra-replaced : Case
extra-replaced = suite_gives
    (in_report (alone (bytes "testsuite") (name (bytes "s") ∷ attribute (bytes "x") (bytes "1") ∷ attribute (bytes "y") (bytes "2") ∷ attribute (bytes "&#120;") (bytes "3") ∷ []) ∷ []))
    (suite_with [] [] none none (pair (bytes "x") (bytes "3") ∷ pair (bytes "y") (bytes "2") ∷ []))

-- a case has extras, a report and a property have none (rule A7)
abbrev case-extra : Case
case-extra = suite_gives (in_suite (alone (bytes "testcase") (attribute (bytes "x") (bytes "&lt;") ∷ name (bytes "c") ∷ []) ∷ []))
    (suite_with (record {
      name = (bytes "c");
      classname = none;
      assertions = none;
      timestamp = none;
      time = none;
      status = success [];
      system_out = none;
      system_err = none;
      extra = pair (bytes "x") (bytes "<") ∷ [];
      properties = [];
    } ∷ []) [] none none [])

abbrev no_extra : Case
no_extra = tells (record { records = some 4; text = some 4; scratch = some 0 }) (holding (bytes "testsuites") (attribute (bytes "x") (bytes "1") ∷ [])
    (holding (bytes "testsuite") (name (bytes "s") ∷ []) (holding (bytes "properties") [] (alone (bytes "property")
    (name (bytes "k") ∷ attribute (bytes "value") (bytes "v") ∷ attribute (bytes "x") (bytes "1") ∷ []) ∷ []) ++ holding (bytes "testcase") (name (bytes "c") ∷ []) []))) none

-- a report's attributes, each in its field; a count that is missing is 0, `disabled` may be missing (rule A5)
abbrev report-attributes : Case
report-attributes = gives (holding (bytes "testsuites")
    (attribute (bytes "time") (bytes "1.5") ∷ attribute (bytes "failures") (bytes "2") ∷ attribute (bytes "name") (bytes "r") ∷ attribute (bytes "disabled") (bytes "3") ∷ []) [])
    (record {
      name = some (bytes "r");
      uuid = none;
      timestamp = none;
      time = some (record { seconds = 1; nanos = 500000000 });
      counts = record { tests = 0; failures = 2; errors = 0; skipped = 0; disabled = some 3 };
      suites = [];
    })

abbrev report-uuid : Case
report-uuid = gives (holding (bytes "testsuites") (attribute (bytes "uuid") (bytes "00000001-0002-0003-0004-000000000005") ∷ []) [])
    (record { name = none; uuid = some (record { a = 1; b = 131075; c = 262144; d = 5 }); timestamp = none; time = none; counts = zero; suites = [] })

abbrev case-attributes : Case
case-attributes = suite_gives (in_suite (alone (bytes "testcase") (attribute (bytes "classname") (bytes "k") ∷ attribute (bytes "assertions") (bytes "7") ∷ name (bytes "c") ∷ []) ∷ []))
    (suite_with (record {
      name = (bytes "c");
      classname = some (bytes "k");
      assertions = some 7;
      timestamp = none;
      time = none;
      status = success [];
      system_out = none;
      system_err = none;
      extra = [];
      properties = [];
    } ∷ []) [] none none [])

-- a suite, a case and a property need a name, the property a value behind it (rule A10)
abbrev unnamed-suite : Case
unnamed-suite = tells unlimited (in_report (alone (bytes "testsuite") [] ∷ [])) (some cause.MissingAttribute)

abbrev unnamed-case : Case
unnamed-case = tells unlimited (in_suite (alone (bytes "testcase") [] ∷ [])) (some cause.MissingAttribute)

-- a mark is tested before a repeated key, and both for keys that aren't read, too (rules A2 and A3)
abbrev mark-first : Case
mark-first = tells unlimited (holding (bytes "testsuites") (attribute (bytes "x") [] ∷ record { good = false; key = (bytes "x"); value = [] } ∷ []) []) (some cause.FaultyAttribute)

abbrev repeated : Case
repeated = tells unlimited (holding (bytes "testsuites") (attribute (bytes "x") [] ∷ attribute (bytes "x") [] ∷ []) []) (some cause.RepeatedKey)

-- a main's time is read, though it isn't kept (rule S12)
abbrev bad-time : Case
bad-time = tells unlimited (in_case (alone (bytes "failure") (attribute (bytes "time") (bytes "x") ∷ []) ∷ [])) (some cause.BadTime)

-- ---- room
-- a second report gives no room back (rule M3)
abbrev room-kept : Case
room-kept = tells (record { records = some 1; text = some 9; scratch = some 0 }) (opens (bytes "testsuites") [] ∷ in_report []) (some cause.RecordsSpent)

abbrev room-enough : Case
room-enough = tells (record { records = some 2; text = some 0; scratch = some 0 }) (opens (bytes "testsuites") [] ∷ in_report []) none

-- a replaced extra takes room for its value only (rule M5)
abbrev replaced_extra-room : Case
replaced_extra-room = tells (record { records = some 3; text = some 4; scratch = some 0 })
    (in_report (alone (bytes "testsuite") (name (bytes "s") ∷ attribute (bytes "x") (bytes "1") ∷ attribute (bytes "&#120;") (bytes "3") ∷ []) ∷ [])) none

abbrev extra-room : Case
extra-room = tells (record { records = some 3; text = some 3; scratch = some 0 })
    (in_report (alone (bytes "testsuite") (name (bytes "s") ∷ attribute (bytes "x") (bytes "1") ∷ attribute (bytes "&#120;") (bytes "3") ∷ []) ∷ [])) (some cause.TextFull)

-- each gathered text has scratch for itself (rule M6), a description also behind a child
abbrev scratch-apart : Case
scratch-apart = tells (record { records = some 9; text = some 9; scratch = some 2 })
    (in_case (holding (bytes "flakyError") [] (Piece Chars (bytes "ab") ∷ texted (bytes "stackTrace") (bytes "cd")))) none

abbrev scratch-behind : Case
scratch-behind = tells (record { records = some 9; text = some 9; scratch = some 2 })
    (in_case (holding (bytes "flakyError") [] (Piece Chars (bytes "ab") ∷ texted (bytes "stackTrace") (bytes "c") ++ (Piece Chars (bytes "d") ∷ [])))) (some cause.ScratchFull)

-- ---- values, room and order
-- a value is tested wherever its key is read, and as what its key says (rules A5, A6 and V1)
abbrev bad-disabled : Case
bad-disabled = tells unlimited (holding (bytes "testsuites") (attribute (bytes "disabled") (bytes "x") ∷ []) []) (some cause.BadInteger)

abbrev bad-assertions : Case
bad-assertions = tells unlimited (in_suite (alone (bytes "testcase") (name (bytes "c") ∷ attribute (bytes "assertions") (bytes "x") ∷ []) ∷ [])) (some cause.BadInteger)

abbrev bad-value : Case
bad-value = tells unlimited (in_suite (holding (bytes "properties") [] (alone (bytes "property") (name (bytes "k") ∷ attribute (bytes "value") (255 ∷ []) ∷ []) ∷ []))) (some cause.NotUtf8)

abbrev bad-type : Case
bad-type = tells unlimited (in_case (alone (bytes "failure") (attribute (bytes "type") (255 ∷ []) ∷ []) ∷ [])) (some cause.NotUtf8)

abbrev bad-timestamp : Case
bad-timestamp = tells unlimited (in_case (alone (bytes "failure") (attribute (bytes "timestamp") (bytes "x") ∷ []) ∷ [])) (some cause.BadTimestamp)

-- an extra's key and value are texts (rule A9)
abbrev bad-extra : Case
bad-extra = tells unlimited (in_report (alone (bytes "testsuite") (name (bytes "s") ∷ attribute (bytes "x") (255 ∷ []) ∷ []) ∷ [])) (some cause.NotUtf8)

abbrev bad-extra-key : Case
bad-extra-key = tells unlimited (in_report (alone (bytes "testsuite") (name (bytes "s") ∷ attribute (255 ∷ []) [] ∷ []) ∷ [])) (some cause.NotUtf8)

-- references in a value are decoded (rule X1)
abbrev decoded : Case
decoded = suite_gives (in_suite (holding (bytes "properties") [] (alone (bytes "property") (name (bytes "&lt;") ∷ attribute (bytes "value") (bytes "&gt;") ∷ []) ∷ [])))
    (suite_with [] (pair (bytes "<") (bytes ">") ∷ []) none none [])

abbrev no_value : Case
no_value = tells unlimited (in_suite (holding (bytes "properties") [] (alone (bytes "property") (name (bytes "k") ∷ []) ∷ []))) (some cause.MissingAttribute)

-- a status element has no extras (rule A7)
abbrev status-extra : Case
status-extra = tells (record { records = some 4; text = some 2; scratch = some 0 }) (in_case (alone (bytes "failure") (attribute (bytes "x") (bytes "1") ∷ []) ∷ [])) none

-- an extra takes a record (rule M2)
abbrev extra-record : Case
extra-record = tells (record { records = some 2; text = some 9; scratch = some 0 })
    (in_report (alone (bytes "testsuite") (name (bytes "s") ∷ attribute (bytes "x") (bytes "1") ∷ []) ∷ [])) (some cause.RecordsSpent)

-- an element takes its record before its attributes are read (rules M2 and F2)
abbrev record-first : Case
record-first = tells (record { records = some 0; text = some 9; scratch = some 0 }) (holding (bytes "testsuites") (record { good = false; key = []; value = [] } ∷ []) []) (some cause.RecordsSpent)

-- a run's timestamp is kept (rule A6)
abbrev run-moment : Case
run-moment = status_gives (alone (bytes "flakyFailure") (attribute (bytes "timestamp") (bytes "2024-02-29T01:02:03Z") ∷ attribute (bytes "time") (bytes "2") ∷ []) ∷ []) (success (record {
  kind = failure;
  timestamp = some (record { year = 2024; month = 2; day = 29; hour = 1; minute = 2; second = 3; nanos = 0; offset = 1439 });
  time = some (record { seconds = 2; nanos = 0 });
  message = none;
  type = none;
  stack_trace = none;
  system_out = none;
  system_err = none;
  description = none;
} ∷ []))

-- suites stand in the order of the table, also Empty ones (rule R5)
abbrev suites-in_order : Case
suites-in_order = gives (in_report (alone (bytes "testsuite") (name (bytes "s") ∷ attribute (bytes "x") (bytes "1") ∷ []) ∷ alone (bytes "testsuite") (name (bytes "s") ∷ []) ∷ []))
    (report_with (suite_with [] [] none none (pair (bytes "x") (bytes "1") ∷ []) ∷ suite_with [] [] none none [] ∷ []))

-- an output takes room (rule M4)
abbrev output-room : Case
output-room = tells (record { records = some 3; text = some 2; scratch = some 9 }) (in_case (texted (bytes "system-out") (bytes "x"))) (some cause.TextFull)

-- of a property that lacks both the name is told (rule A10)
abbrev name-first : Case
name-first = names (in_suite (holding (bytes "properties") [] (alone (bytes "property") [] ∷ []))) key.name

-- ---- nothing is lost on the way
abbrev stamp-text : List ℕ
stamp-text = bytes "2024-02-29T01:02:03Z"

abbrev moment : Moment
moment = record { year = 2024; month = 2; day = 29; hour = 1; minute = 2; second = 3; nanos = 0; offset = 1439 }

abbrev times : List Attribute
times = attribute (bytes "timestamp") stamp-text ∷ attribute (bytes "time") (bytes "2") ∷ []

abbrev two_seconds : Duration
two_seconds = record { seconds = 2; nanos = 0 }

-- a report keeps its attributes when suites come (rules A5 and R5)
abbrev whole-report : Case
whole-report = gives (holding (bytes "testsuites") (name (bytes "r") ∷ attribute (bytes "uuid") (bytes "00000001-0002-0003-0004-000000000005") ∷ attribute (bytes "tests") (bytes "1") ∷ times)
    (alone (bytes "testsuite") (name (bytes "s") ∷ []) ∷ []))
    (record {
      name = some (bytes "r");
      uuid = some (record { a = 1; b = 131075; c = 262144; d = 5 });
      timestamp = some moment;
      time = some two_seconds;
      counts = record { tests = 1; failures = 0; errors = 0; skipped = 0; disabled = none };
      suites = suite_with [] [] none none [] ∷ [];
    })

-- a suite keeps its attributes, its list, outputs and cases, whichever of them comes next; a `uuid` is an extra there (rules A5, A7, R10, R13 and R17)
abbrev whole-suite : Case
whole-suite = suite_gives (in_report (holding (bytes "testsuite")
    (name (bytes "s") ∷ attribute (bytes "tests") (bytes "1") ∷ attribute (bytes "failures") (bytes "2") ∷ attribute (bytes "errors") (bytes "3") ∷ attribute (bytes "skipped") (bytes "4")
    ∷ attribute (bytes "disabled") (bytes "5") ∷ attribute (bytes "hostname") (bytes "h&lt;") ∷ attribute (bytes "uuid") (bytes "u") ∷ times)
    (holding (bytes "properties") [] (property (bytes "a") (bytes "1") ∷ []) ++ texted (bytes "system-out") (bytes "x") ++ texted (bytes "system-err") (bytes "y")
    ++ (alone (bytes "testcase") (name (bytes "c") ∷ []) ∷ holding (bytes "testcase") (name (bytes "c") ∷ []) (alone (bytes "skipped") [] ∷ [])))))
    (record {
      name = bytes "s";
      counts = record { tests = 1; failures = 2; errors = 3; skipped = 4; disabled = some 5 };
      timestamp = some moment;
      time = some two_seconds;
      hostname = some (bytes "h<");
      cases = case_with (success []) [] none none ∷ case_with (skipped bare) [] none none ∷ [];
      properties = pair (bytes "a") (bytes "1") ∷ [];
      system_out = some (bytes "x");
      system_err = some (bytes "y");
      extra = pair (bytes "uuid") (bytes "u") ∷ [];
    })

-- a suite's host
abbrev a_host : List ℕ → Attribute
a_host v = attribute (bytes "hostname") v

abbrev hosted : List Attribute → List Event
hosted xs = in_report (alone (bytes "testsuite") (name (bytes "s") ∷ xs) ∷ [])

-- a key that is cleaned to it is an extra's, beside it
abbrev host-beside : Case
host-beside = suite_gives (hosted (a_host (bytes "a") ∷ attribute (bytes "host&#110;ame") (bytes "b") ∷ []))
    (record {
      name = bytes "s";
      counts = zero;
      timestamp = none;
      time = none;
      hostname = some (bytes "a");
      cases = [];
      properties = [];
      system_out = none;
      system_err = none;
      extra = pair (bytes "hostname") (bytes "b") ∷ [];
    })

-- it is an extra's on a case, and passed over on a report (rule A7)
abbrev host-elsewhere : Case
host-elsewhere = suite_gives (holding (bytes "testsuites") (a_host (bytes "a") ∷ [])
    (holding (bytes "testsuite") (name (bytes "s") ∷ []) (alone (bytes "testcase") (name (bytes "c") ∷ a_host (bytes "b") ∷ []) ∷ [])))
    (suite_with (record {
      name = bytes "c";
      classname = none;
      assertions = none;
      timestamp = none;
      time = none;
      status = success [];
      system_out = none;
      system_err = none;
      extra = pair (bytes "hostname") (bytes "b") ∷ [];
      properties = [];
    } ∷ []) [] none none [])

-- its path has the Attribute, whose code is 16 (rule A11)
abbrev bad-host : Case
bad-host = names (hosted (a_host (bytes "&") ∷ [])) 16

-- it takes no record, and room for its text alone (rules M2 and M4)
abbrev host-room : Case
host-room = tells (record { records = some 2; text = some 2; scratch = some 0 }) (hosted (a_host (bytes "a") ∷ [])) none

abbrev no-host-room : Case
no-host-room = tells (record { records = some 2; text = some 1; scratch = some 0 }) (hosted (a_host (bytes "a") ∷ [])) (some cause.TextFull)

abbrev late-suite-parts : Case
late-suite-parts = suite_gives (in_suite (alone (bytes "testcase") (name (bytes "c") ∷ []) ∷ texted (bytes "system-err") (bytes "y")
    ++ holding (bytes "properties") [] (property (bytes "a") (bytes "1") ∷ []) ++ texted (bytes "system-out") (bytes "x")))
    (suite_with (case_with (success []) [] none none ∷ []) (pair (bytes "a") (bytes "1") ∷ []) (some (bytes "x")) (some (bytes "y")) [])

-- so does a case, with its status elements; `tests` is an extra there, and a list may hold a key twice (rules A5, A7, R13, R16 and S10)
abbrev whole-case : Case
whole-case = suite_gives (in_suite (holding (bytes "testcase")
    (name (bytes "c") ∷ attribute (bytes "classname") (bytes "k") ∷ attribute (bytes "assertions") (bytes "7") ∷ attribute (bytes "tests") (bytes "q") ∷ times)
    (alone (bytes "flakyFailure") [] ∷ texted (bytes "system-err") (bytes "y") ++ holding (bytes "properties") [] (property (bytes "a") (bytes "1") ∷ property (bytes "a") (bytes "2") ∷ [])
    ++ texted (bytes "system-out") (bytes "x"))))
    (suite_with (record {
      name = bytes "c";
      classname = some (bytes "k");
      assertions = some 7;
      timestamp = some moment;
      time = some two_seconds;
      status = success (run_of failure ∷ []);
      system_out = some (bytes "x");
      system_err = some (bytes "y");
      extra = pair (bytes "tests") (bytes "q") ∷ [];
      properties = pair (bytes "a") (bytes "1") ∷ pair (bytes "a") (bytes "2") ∷ [];
    } ∷ []) [] none none [])

-- a run keeps its attributes when texts come (rules A6 and S3)
abbrev whole_run : Case
whole_run = status_gives (holding (bytes "flakyFailure") (attribute (bytes "message") (bytes "m") ∷ attribute (bytes "type") (bytes "t") ∷ times)
    (Piece Chars (bytes "a") ∷ Piece Chars (bytes "b") ∷ texted (bytes "stackTrace") (bytes "s")))
    (success (record {
      kind = failure;
      timestamp = some moment;
      time = some two_seconds;
      message = some (bytes "m");
      type = some (bytes "t");
      stack_trace = some (bytes "s");
      system_out = none;
      system_err = none;
      description = some (bytes "ab");
    } ∷ []))

-- a main keeps message and type beside its description, and its output is no description (rules A6, S3 and S12)
abbrev whole-main : Case
whole-main = status_gives (holding (bytes "error") (attribute (bytes "message") (bytes "m") ∷ attribute (bytes "type") (bytes "t") ∷ []) (Piece Chars (bytes "d") ∷ []))
    (non_success error (record { message = some (bytes "m"); type = some (bytes "t"); description = some (bytes "d") }) rerun [])

abbrev main-output : Case
main-output = status_gives (holding (bytes "error") [] (texted (bytes "system-out") (bytes "o"))) (non_success error bare rerun [])

-- a run behind its main has its own family (rule S11)
abbrev main-first : Case
main-first = status_gives (alone (bytes "failure") [] ∷ alone (bytes "flakyError") [] ∷ []) (non_success failure bare flaky (run_of error ∷ []))

-- a description that the filter alone empties is there (rule X11)
abbrev filtered-description : Case
filtered-description = status_gives (holding (bytes "failure") [] (Piece Chars (1 ∷ []) ∷ [])) (non_success failure (record { message = none; type = none; description = some [] }) rerun [])

-- ---- more of values, room and order
abbrev bad-report-timestamp : Case
bad-report-timestamp = tells unlimited (holding (bytes "testsuites") (attribute (bytes "timestamp") (bytes "x") ∷ []) []) (some cause.BadTimestamp)

abbrev bad-report-time : Case
bad-report-time = tells unlimited (holding (bytes "testsuites") (attribute (bytes "time") (bytes "x") ∷ []) []) (some cause.BadTime)

abbrev bad-key : Case
bad-key = tells unlimited (in_suite (holding (bytes "properties") [] (property (255 ∷ []) [] ∷ []))) (some cause.NotUtf8)

abbrev bad-message : Case
bad-message = tells unlimited (in_case (alone (bytes "failure") (attribute (bytes "message") (255 ∷ []) ∷ []) ∷ [])) (some cause.NotUtf8)

-- a status element has no name (rule A6)
abbrev named-status : Case
named-status = tells unlimited (in_case (alone (bytes "failure") (name (255 ∷ []) ∷ []) ∷ [])) none

-- of an extra the key is tested first (rule A9), and its path has no Attribute
abbrev key-first : Case
key-first = tells unlimited (in_report (alone (bytes "testsuite") (name (bytes "s") ∷ attribute (bytes "&x;") (255 ∷ []) ∷ []) ∷ [])) (some cause.BadReference)

abbrev extra-path : Case
extra-path = names (in_report (alone (bytes "testsuite") (name (bytes "s") ∷ []) ∷ alone (bytes "testsuite") (name (bytes "s") ∷ attribute (bytes "x") (255 ∷ []) ∷ []) ∷ [])) 1

-- a key is repeated wherever it stood before (rule A3); an extra that isn't the first is found, too (rule A8)
abbrev repeated-later : Case
repeated-later = tells unlimited (holding (bytes "testsuites") (attribute (bytes "x") [] ∷ attribute (bytes "y") [] ∷ attribute (bytes "x") [] ∷ []) []) (some cause.RepeatedKey)

abbrev second-extra : Case
second-extra = tells (record { records = some 4; text = some 9; scratch = some 0 }) (in_report (alone (bytes "testsuite")
    (name (bytes "s") ∷ attribute (bytes "x") (bytes "1") ∷ attribute (bytes "y") (bytes "2") ∷ attribute (bytes "&#121;") (bytes "3") ∷ []) ∷ [])) none

-- a text takes the room of its decoded bytes (rule M4), a description takes room, too
abbrev decoded-room : Case
decoded-room = tells (record { records = some 1; text = some 1; scratch = some 0 }) (holding (bytes "testsuites") (name (bytes "&lt;") ∷ []) []) none

abbrev description-room : Case
description-room = tells (record { records = some 4; text = some 2; scratch = some 9 }) (in_case (texted (bytes "failure") (bytes "d"))) (some cause.TextFull)

-- pieces of one text share scratch, which an ended description gives back (rule M6)
abbrev pieces-shared : Case
pieces-shared = tells (record { records = some 9; text = some 9; scratch = some 2 })
    (in_case (holding (bytes "system-out") [] (Piece Chars (bytes "ab") ∷ Piece Chars (bytes "c") ∷ []))) (some cause.ScratchFull)

abbrev scratch-back : Case
scratch-back = tells (record { records = some 9; text = some 9; scratch = some 2 }) (in_case (texted (bytes "flakyError") (bytes "  ") ++ texted (bytes "flakyError") (bytes "  "))) none

-- a faulty attribute's number and, behind a text, an event's (rule F4)
abbrev faulty-second : Case
faulty-second = points (holding (bytes "testsuites") (attribute (bytes "x") [] ∷ record { good = false; key = bytes "y"; value = [] } ∷ []) []) 0 1

abbrev behind-text : Case
behind-text = points (in_report (Piece Chars (bytes "t") ∷ alone (bytes "testsuite") [] ∷ [])) 2 nowhere

-- ---- outside elements
-- text that no element gathers isn't looked at, and is nobody's (rule R20)
abbrev text-outside : Case
text-outside = status_gives (Piece Chars (255 ∷ []) ∷ texted (bytes "failure") (bytes "d")) (non_success failure (record { message = none; type = none; description = some (bytes "d") }) rerun [])

-- a report that isn't closed is refused at the end (rule R8); a Fault is refused also behind a closed one (rules R4 and R19)
abbrev unclosed : Case
unclosed = tells unlimited (opens (bytes "testsuites") [] ∷ []) (some cause.EofInElement)

abbrev closed : Case
closed = tells unlimited (alone (bytes "testsuites") [] ∷ []) none

abbrev fault-behind : Case
fault-behind = tells unlimited (alone (bytes "testsuites") [] ∷ Fault ∷ []) (some cause.XmlFault)

-- ---- each holds
abbrev examples : List Case
examples = list-replaced ∷ empty-list_replaces ∷ case-list ∷ outputs-replaced ∷ case-outputs ∷ pieces-joined ∷ second-report ∷ later-suite ∷ flaky-runs ∷ flaky-error ∷ reruns ∷ no-runs
    ∷ skipped-case ∷ two-mains ∷ next-case ∷ run-texts ∷ main-texts ∷ blank-description ∷ extra-replaced ∷ case-extra ∷ no_extra ∷ report-attributes ∷ report-uuid ∷ case-attributes
    ∷ unnamed-suite ∷ unnamed-case ∷ mark-first ∷ repeated ∷ bad-time ∷ room-kept ∷ room-enough ∷ replaced_extra-room ∷ extra-room ∷ scratch-apart ∷ scratch-behind
    ∷ bad-disabled ∷ bad-assertions ∷ bad-value ∷ bad-type ∷ bad-timestamp ∷ bad-extra ∷ bad-extra-key
    ∷ decoded ∷ no_value ∷ status-extra ∷ extra-record ∷ record-first ∷ run-moment ∷ suites-in_order ∷ output-room ∷ name-first
    ∷ whole-report ∷ whole-suite ∷ host-beside ∷ host-elsewhere ∷ bad-host ∷ host-room ∷ no-host-room
    ∷ late-suite-parts ∷ whole-case ∷ whole_run ∷ whole-main ∷ main-output ∷ main-first ∷ filtered-description ∷ bad-report-timestamp
    ∷ bad-report-time ∷ bad-key ∷ bad-message ∷ named-status ∷ key-first ∷ extra-path ∷ repeated-later ∷ second-extra ∷ decoded-room ∷ description-room
    ∷ pieces-shared ∷ scratch-back ∷ faulty-second ∷ behind-text ∷ text-outside ∷ unclosed ∷ closed ∷ fault-behind ∷ []

examples_hold : All examples
unfolding utf8.need utf8.low utf8.high code_from same_bytes keys tags
    digits.digit digits.is_number digits.places digits.decimal unsigned make_time
    is_leap month_length stamp.places stamp.is_utc stamp.is_timestamp stamp.timestamp_of is_uuid uuid_of
    reference.entities reference.entity_chars reference.is_entity reference.entity_char reference.is_char_ref reference.ref_at
    reference.base reference.digits_in reference.number reference.xml_char chars.encode tallied ruled
    outcome.◌>>=◌ outcome.there outcome.need outcome.fits
    rules.outputs rules.emptied rules.at_top rules.at_suite rules.at_case rules.child rules.at_status rules.in_text
    rules.in_list_of rules.in_skip rules.plan_at rules.plan_eof rules.plan_fault control.gathers control.turn marks_after
    content.piece_of read.attributes read.completed read.element read.perform read.gather read.act read.step read.steps deserialize_in deserialize
examples_hold =
    one refl (one refl (one refl (one refl (one refl (one refl (one refl (one refl (one refl (one refl (one refl (one refl (one refl (one refl (one refl (one refl
    (one refl (one refl (one refl (one refl (one refl (one refl (one refl (one refl (one refl (one refl (one refl (one refl (one refl (one refl (one refl (one refl
    (one refl (one refl (one refl (one refl (one refl (one refl (one refl (one refl (one refl (one refl (one refl (one refl (one refl (one refl (one refl (one refl
    (one refl (one refl (one refl (one refl (one refl (one refl (one refl (one refl (one refl (one refl (one refl (one refl (one refl (one refl (one refl (one refl
    (one refl (one refl (one refl (one refl (one refl (one refl (one refl (one refl (one refl (one refl (one refl (one refl (one refl (one refl
    (one refl (one refl (one refl (one refl (one refl (one refl none_left)))))))))))))))))))))))))))))))))))))))))))))))))))))))))))))))))))))))))))))))))))
