-- In what is written an output holds its text alone. Assumes nothing.
use Prim.Native.Nat.{ℕ, ◌+◌}
use mathlib.Core.Bool.{false}
use mathlib.Core.List.{List, [], ◌∷◌, ◌++◌}
use mathlib.Core.Option.{Option, none, some}
use mathlib.Core.Path.{◌≡◌, refl}
use lib.ListN.{length}
use Rattle.xml_grammar.specs.of_names.Bytes.{bytes}
use Rattle.xml_grammar.specs.of_names.Names.{same_bytes, code_from}
use Rattle.xml_grammar.specs.of_names.Tags.{tags, tag_of}
use Rattle.xml_grammar.specs.of_table.Event.{Attribute, Start, Empty, End, Event, Tag, Piece, Eof, Fault}
use Rattle.read_spelling.specs.of_tree_report.Report.{Text, Pair, NonSuccessKind, failure, error, FlakyOrRerun, flaky, rerun, TestRerun, Reason}
use Rattle.read_spelling.specs.of_tree_report.Report.{TestCaseStatus, success, non_success, skipped, TestCase, TestSuite, Report}
use Rattle.write_resolved.specs.of_write_report.Written.{optional, status_attributes, each, described, main_name, run_name, indented, element, case_attributes, suite_attributes}
use Rattle.write_resolved.specs.of_write_report.Written.{serialize_output, serialize_property, serialize_properties, serialize_outputs, serialize_status, serialize_rerun}
use Rattle.write_resolved.specs.of_write_report.Written.{serialize_elements, serialize_test_case, serialize_test_suite, serialize_report, declaration, numbered, written}
use Rattle.document_reading.specs.inside.Calm.{is_output, Calm, no-event, an-event, an-output}

-- ---- lists
calm_append : {a b : List Event} → Calm a → Calm b → Calm (a ++ b)
calm_append no-event h = h
calm_append (an-event e c) h = an-event e (calm_append c h)
calm_append (an-output c) h = an-output (calm_append c h)

calm-each : {A : Type 0} (f : A → List Event) → ((x : A) → Calm (f x)) → (xs : List A) → Calm (each f xs)
calm-each f h [] = no-event
calm-each f h (x ∷ xs) = calm_append (h x) (calm-each f h xs)

calm-optional : {A : Type 0} (f : A → List Event) → ((x : A) → Calm (f x)) → (o : Option A) → Calm (optional f o)
calm-optional f h none = no-event
calm-optional f h (some a) = h a

calm-numbered : (n : ℕ) {es : List Event} → Calm es → Calm (numbered n es)
unfolding numbered
calm-numbered n no-event = no-event
calm-numbered n (an-event {e = Tag Start name j xs} e c) = an-event e (calm-numbered (n + length xs) c)
calm-numbered n (an-event {e = Tag Empty name j xs} e c) = an-event refl (calm-numbered (n + length xs) c)
calm-numbered n (an-event {e = Tag End name j xs} e c) = an-event refl (calm-numbered (n + length xs) c)
calm-numbered n (an-event {e = Piece k s} e c) = an-event refl (calm-numbered (n + 0) c)
calm-numbered n (an-event {e = Eof} e c) = an-event refl (calm-numbered (n + 0) c)
calm-numbered n (an-event {e = Fault} e c) = an-event refl (calm-numbered (n + 0) c)
calm-numbered n (an-output {xs = xs} {ys = ys} c) = an-output (calm-numbered (n + length xs + 0 + length ys) c)

-- ---- names
abbrev Other : List ℕ → Type 0
Other name = is_output (tag_of name) ≡ false

run-other : (f : FlakyOrRerun) (k : NonSuccessKind) → Other (run_name f k)
unfolding tags code_from same_bytes
run-other flaky failure = refl
run-other flaky error = refl
run-other rerun failure = refl
run-other rerun error = refl

case-other : Other (bytes "testcase")
unfolding tags code_from same_bytes
case-other = refl

suite-other : Other (bytes "testsuite")
unfolding tags code_from same_bytes
suite-other = refl

report-other : Other (bytes "testsuites")
unfolding tags code_from same_bytes
report-other = refl

list-other : Other (bytes "properties")
unfolding tags code_from same_bytes
list-other = refl

-- ---- elements
calm-output : (name : List ℕ) (t : Text) → Calm (serialize_output name t)
unfolding serialize_output
calm-output name t = an-output no-event

calm-outputs : (o e : Option Text) → Calm (serialize_outputs o e)
unfolding serialize_outputs
calm-outputs o e =
    calm_append (calm-optional (serialize_output (bytes "system-out")) (calm-output (bytes "system-out")) o) (calm-optional (serialize_output (bytes "system-err")) (calm-output (bytes "system-err")) e)

calm-property : (p : Pair) → Calm (serialize_property p)
unfolding serialize_property
calm-property p = an-event refl no-event

calm-properties : (ps : List Pair) → Calm (serialize_properties ps)
unfolding serialize_properties
calm-properties [] = no-event
calm-properties (p ∷ ps) = an-event list-other (calm_append (calm-each serialize_property calm-property (p ∷ ps)) (an-event refl no-event))

calm-described : (name : List ℕ) (xs : List Attribute) (d : Option Text) → Calm (described name xs d)
calm-described name xs none = an-event refl no-event
calm-described name xs (some d) = an-output no-event

calm-status : (name : List ℕ) (m : Reason) → Calm (serialize_status name m)
unfolding serialize_status
calm-status name m = calm-described name (status_attributes m.message m.type) m.description

calm-indented : (d : Option Text) (es : List Event) → Calm es → Calm (indented d es)
calm-indented none es c = c
calm-indented (some d) [] c = an-event refl c
calm-indented (some d) (e ∷ es) c = an-event refl (an-event refl c)

calm_run : (family : FlakyOrRerun) (e : TestRerun) → Calm (serialize_rerun family e)
unfolding serialize_rerun
calm_run family e =
    an-event (run-other family e.kind) (calm_append (calm-indented e.description _
    (calm_append (calm-optional (serialize_output (bytes "stackTrace")) (calm-output (bytes "stackTrace")) e.stack_trace) (calm-outputs e.system_out e.system_err))) (an-event refl no-event))

calm-elements : (s : TestCaseStatus) → Calm (serialize_elements s)
unfolding serialize_elements
calm-elements (success runs) = calm-each (serialize_rerun flaky) (calm_run flaky) runs
calm-elements (non_success kind reason family runs) = calm_append (calm-status (main_name kind) reason) (calm-each (serialize_rerun family) (calm_run family) runs)
calm-elements (skipped reason) = calm-status (bytes "skipped") reason

calm-element : (name : List ℕ) (xs : List Attribute) (es : List Event) → Other name → Calm es → Calm (element name xs es)
calm-element name xs [] h c = an-event refl no-event
calm-element name xs (e ∷ es) h c = an-event h (calm_append c (an-event refl no-event))

calm-case : (c : TestCase) → Calm (serialize_test_case c)
unfolding serialize_test_case
calm-case c =
    calm-element (bytes "testcase") (case_attributes c) _ case-other
    (calm_append (calm-properties c.properties) (calm_append (calm-elements c.status) (calm-outputs c.system_out c.system_err)))

calm-suite : (s : TestSuite) → Calm (serialize_test_suite s)
unfolding serialize_test_suite
calm-suite s =
    calm-element (bytes "testsuite") (suite_attributes s) _ suite-other
    (calm_append (calm-properties s.properties) (calm_append (calm-each serialize_test_case calm-case s.cases) (calm-outputs s.system_out s.system_err)))

calm-report : (r : Report) → Calm (serialize_report r)
unfolding serialize_report declaration
calm-report r =
    an-event refl (an-event report-other (calm_append (calm-each serialize_test_suite calm-suite r.suites) (an-event refl (an-event refl (an-event refl no-event)))))

pub calm-written : (r : Report) → Calm (written r)
unfolding written
calm-written r = calm-numbered 0 (calm-report r)
