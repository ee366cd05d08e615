-- The events of a report, in the order of serialize.rs (rules W1 to W8); the attributes of an element by the rows of its table (crate
-- schema). Definitions only.
use Rattle.std.specs.Prelude.{ℕ, zero, suc, ◌+◌, List, [], ◌∷◌, ◌++◌, map, Bool, true, false, cond, length, eqb}
use Rattle.std.proofs.Math.Option.{Option, none, some}
use Rattle.write_escape.specs.of_names.Bytes.{bytes}
use Rattle.write_escape.specs.of_names.Keys as key
use Rattle.time_text.specs.of_digits.Digits.{decimal}
use Rattle.time_text.specs.Written.{written_time}
use Rattle.write_moment.specs.of_timestamp.declared.Moment.{Moment}
use Rattle.write_escape.specs.Escape.{escaped}
use Rattle.write_moment.specs.Written.{timestamp_text}
use Rattle.write_uuid.specs.Written.{uuid_text}
use Rattle.table.specs.Event.{Attribute, Event, Start, Empty, End, Text, Other, Indent, Tag, Piece, Eof, Fault}
use Rattle.tree_report.specs.Report.{Duration, Pair, NonSuccessKind, failure, error, FlakyOrRerun, flaky, rerun, TestRerun}
use Rattle.tree_report.specs.Report.{Reason, TestCaseStatus, success, non_success, skipped, TestCase, TestSuite, Report}
use Rattle.tree_report.specs.Report as report
use Rattle.tree_report.specs.of_schema.Schema.{Form, text, number, time, timestamp, uuid, flag, Presence, always, must, may, unkept, Row}
use Rattle.tree_report.specs.of_schema.Schema as table
use Rattle.tree_report.specs.of_schema.Records.{Of, Held, Fields}
use Rattle.tree_report.specs.of_schema.Elements.{report_fields, suite_fields, case_fields, skipped_fields, run_fields, pair_fields}
use Rattle.tree_report.specs.of_schema.Lookups.{text_in_of, places_in}

-- ---- attributes
abbrev pub attribute : List ℕ → List ℕ → Attribute
attribute key value = record { good = true; key = key; value = value }

-- escaped (rule W8)
abbrev pub textual : List ℕ → report.Text → List Attribute
textual key t = attribute key (escaped t) ∷ []

abbrev pub numeric : List ℕ → ℕ → List Attribute
numeric key n = attribute key (decimal n) ∷ []

-- a field that may be missing
abbrev pub optional : {A B : Type 0} → (A → List B) → Option A → List B
optional f none = []
optional f (some a) = f a

abbrev pub stamped : Option Moment → List Attribute
stamped m = optional (λ (x : Moment). attribute (bytes "timestamp") (timestamp_text x) ∷ []) m

abbrev pub timed : Option Duration → List Attribute
timed d = optional (λ (x : Duration). attribute (bytes "time") (written_time x.seconds x.nanos) ∷ []) d

-- an extra's key isn't escaped (rule W8)
abbrev pub extra_attribute : Pair → Attribute
extra_attribute p = attribute p.key (escaped p.value)

-- ---- attributes by a table
-- rule W8
abbrev pub value_text : (t : Form) → Of report.Text t → List ℕ
value_text text v = escaped v
value_text number v = decimal v
value_text time v = written_time v.seconds v.nanos
value_text timestamp v = timestamp_text v
value_text uuid v = uuid_text v
value_text flag v = []

abbrev pub row_attributes : (p : Presence) (t : Form) → ℕ → Held p (Of report.Text t) → List Attribute
row_attributes always t k v = attribute (text_in_of key.table k) (value_text t v) ∷ []
row_attributes (must b) t k v = attribute (text_in_of key.table k) (value_text t v) ∷ []
row_attributes (may b) t k v = optional (λ (x : Of report.Text t). attribute (text_in_of key.table k) (value_text t x) ∷ []) v
row_attributes unkept t k v = []

-- what the row with place n gives
abbrev pub placed : ℕ → (xs : List Row) → Fields report.Text xs → List Attribute
placed n [] f = []
placed n (x ∷ xs) f = cond (eqb x.place n) (row_attributes x.presence x.form x.key f.0) (placed n xs f.1)

-- m places from n on
abbrev pub placed_from : ℕ → ℕ → (xs : List Row) → Fields report.Text xs → List (List Attribute)
placed_from zero n xs f = []
placed_from (suc m) n xs f = placed n xs f ∷ placed_from m (n + 1) xs f

-- what each row gives, in the order of their places
abbrev pub in_places : (xs : List Row) → Fields report.Text xs → List (List Attribute)
in_places xs f = placed_from (places_in xs) 1 xs f

abbrev pub joined : List (List Attribute) → List Attribute
joined [] = []
joined (l ∷ []) = l
joined (l ∷ m ∷ ls) = l ++ joined (m ∷ ls)

-- rules W2 and W6
abbrev pub attributes_by : (xs : List Row) → Fields report.Text xs → List Attribute
attributes_by xs f = joined (in_places xs f)

-- with extras behind them
abbrev pub attributes_then : (xs : List Row) → Fields report.Text xs → List Pair → List Attribute
attributes_then xs f extra = joined (in_places xs f ++ (map extra_attribute extra ∷ []))

-- ---- events; the number of a tag's first attribute is given at the end
abbrev pub start_tag : List ℕ → List Attribute → Event
start_tag name attributes = Tag Start name 0 attributes

abbrev pub end_tag : List ℕ → Event
end_tag name = Tag End name 0 []

abbrev pub text_event : report.Text → Event
text_event t = Piece Text (escaped t)

-- laid out with length 0 (rule W7), and read as one newline (rule T4)
abbrev pub indent : Event
indent = Piece Indent (10 ∷ [])

abbrev pub each : {A B : Type 0} → (A → List B) → List A → List B
each f [] = []
each f (x ∷ xs) = f x ++ each f xs

abbrev pub is_empty : {A : Type 0} → List A → Bool
is_empty [] = true
is_empty (x ∷ xs) = false

-- rule W4
unfoldable pub serialize_output : List ℕ → report.Text → List Event
serialize_output name t = start_tag name [] ∷ text_event t ∷ end_tag name ∷ []

unfoldable pub serialize_property : Pair → List Event
serialize_property p = Tag Empty (bytes "property") 0 (attributes_by table.property (pair_fields p)) ∷ []

-- a list of properties only where there are any (rule W4)
unfoldable pub serialize_properties : List Pair → List Event
serialize_properties [] = []
serialize_properties (p ∷ ps) = start_tag (bytes "properties") [] ∷ (each serialize_property (p ∷ ps) ++ (end_tag (bytes "properties") ∷ []))

unfoldable pub serialize_outputs : Option report.Text → Option report.Text → List Event
serialize_outputs out err = optional (serialize_output (bytes "system-out")) out ++ optional (serialize_output (bytes "system-err")) err

-- ---- status elements
-- a failure or error has those of a skipped
abbrev pub status_attributes : Option report.Text → Option report.Text → List Attribute
status_attributes message type = attributes_by table.skipped (skipped_fields (record { message = message; type = type; description = none }))

-- rule W5
abbrev pub described : List ℕ → List Attribute → Option report.Text → List Event
described name attributes none = Tag Empty name 0 attributes ∷ []
described name attributes (some d) = start_tag name attributes ∷ text_event d ∷ end_tag name ∷ []

-- rule W5
unfoldable pub serialize_status : List ℕ → Reason → List Event
serialize_status name r = described name (status_attributes r.message r.type) r.description

abbrev pub main_name : NonSuccessKind → List ℕ
main_name failure = bytes "failure"
main_name error = bytes "error"

abbrev pub run_name : FlakyOrRerun → NonSuccessKind → List ℕ
run_name flaky failure = bytes "flakyFailure"
run_name flaky error = bytes "flakyError"
run_name rerun failure = bytes "rerunFailure"
run_name rerun error = bytes "rerunError"

-- an Indent stands before the first child behind a description (rule W7)
abbrev pub indented : Option report.Text → List Event → List Event
indented none children = children
indented (some d) [] = text_event d ∷ []
indented (some d) (c ∷ cs) = text_event d ∷ indent ∷ c ∷ cs

abbrev pub run_children : TestRerun → List Event
run_children r = optional (serialize_output (bytes "stackTrace")) r.stack_trace ++ serialize_outputs r.system_out r.system_err

-- rule W6
unfoldable pub serialize_rerun : FlakyOrRerun → TestRerun → List Event
serialize_rerun family r =
    start_tag (run_name family r.kind) (attributes_by table.run (run_fields r))
    ∷ (indented r.description (run_children r) ++ (end_tag (run_name family r.kind) ∷ []))

-- the main, and then its runs (rules W6 and W14)
unfoldable pub serialize_elements : TestCaseStatus → List Event
serialize_elements (success runs) = each (serialize_rerun flaky) runs
serialize_elements (non_success kind reason family runs) = serialize_status (main_name kind) reason ++ each (serialize_rerun family) runs
serialize_elements (skipped reason) = serialize_status (bytes "skipped") reason

-- ---- case, suite, report
-- a suite or case without children is Empty (rule W3)
abbrev pub element : List ℕ → List Attribute → List Event → List Event
element name attributes [] = Tag Empty name 0 attributes ∷ []
element name attributes (c ∷ cs) = start_tag name attributes ∷ ((c ∷ cs) ++ (end_tag name ∷ []))

-- rule W2
abbrev pub case_attributes : TestCase → List Attribute
case_attributes c = attributes_then table.case (case_fields c) c.extra

-- rule W3
unfoldable pub serialize_test_case : TestCase → List Event
serialize_test_case c =
    element (bytes "testcase") (case_attributes c)
    (serialize_properties c.properties ++ (serialize_elements c.status ++ serialize_outputs c.system_out c.system_err))

-- rule W2
abbrev pub suite_attributes : TestSuite → List Attribute
suite_attributes s = attributes_then table.suite (suite_fields s) s.extra

-- rule W3
unfoldable pub serialize_test_suite : TestSuite → List Event
serialize_test_suite s =
    element (bytes "testsuite") (suite_attributes s)
    (serialize_properties s.properties ++ (each serialize_test_case s.cases ++ serialize_outputs s.system_out s.system_err))

-- rule W2
abbrev pub report_attributes : Report → List Attribute
report_attributes r = attributes_by table.report (report_fields r)

-- rule W1
unfoldable pub declaration : Event
declaration = Piece Other (bytes "xml version=\"1.0\" encoding=\"UTF-8\"")

-- rule W1
unfoldable pub serialize_report : Report → List Event
serialize_report r =
    declaration
    ∷ start_tag (bytes "testsuites") (report_attributes r)
    ∷ (each serialize_test_suite r.suites ++ (end_tag (bytes "testsuites") ∷ Eof ∷ indent ∷ []))

-- ---- the number of a tag's first attribute, of n that stand before it; 0 where it has none (rule W12)
abbrev pub numbered_tag : ℕ → Event → Event
numbered_tag n (Tag kind name first attributes) = Tag kind name (cond (eqb (length attributes) 0) 0 n) attributes
numbered_tag n (Piece kind s) = Piece kind s
numbered_tag n Eof = Eof
numbered_tag n Fault = Fault

abbrev pub attributes_of : Event → List Attribute
attributes_of (Tag kind name first attributes) = attributes
attributes_of (Piece kind s) = []
attributes_of Eof = []
attributes_of Fault = []

unfoldable pub numbered : ℕ → List Event → List Event
numbered n [] = []
numbered n (e ∷ es) = numbered_tag n e ∷ numbered (n + length (attributes_of e)) es

unfoldable pub written : Report → List Event
written r = numbered 0 (serialize_report r)
