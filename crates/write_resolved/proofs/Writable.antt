-- What a report's events are like. Assumes nothing.
use Prim.Native.Nat.{ℕ}
use mathlib.Core.List.{List, [], ◌∷◌, map}
use mathlib.Core.Option.{Option, none, some}
use Rattle.write_report.specs.of_names.Bytes.{bytes}
use Rattle.write_report.specs.of_timestamp.declared.Moment.{Moment}
use Rattle.write_report.specs.of_uuids.declared.Words.{Words}
use Rattle.write_report.specs.of_table.Event.{Attribute, Event, Start, Empty, End, Text, CData, Ref, Other, Indent, Tag, Piece, Eof, Fault}
use Rattle.write_report.specs.of_tree_report.Report.{Duration, Pair, FlakyOrRerun, flaky, TestRerun, Reason, TestCaseStatus, success, non_success, skipped, TestCase, TestSuite, Report}
use Rattle.write_report.specs.of_tree_report.Report as report
use Rattle.write_report.proofs.of_tree_report.EncodeLists.{Each, done, more, each_append, each_map}
use Rattle.write_report.specs.of_write_uuid.Written.{uuid_text}
use Rattle.write_report.specs.Written.{attribute, textual, numeric, optional, stamped, timed, extra_attribute, each, serialize_output, serialize_property, serialize_properties}
use Rattle.write_report.specs.Written.{serialize_outputs, status_attributes, described, serialize_status, main_name, indented, serialize_rerun, serialize_elements, element}
use Rattle.write_report.specs.Written.{case_attributes, serialize_test_case, suite_attributes, serialize_test_suite, report_attributes, declaration, serialize_report}

-- an attribute whose mark is good
pub data Marked : Attribute → Type 0 where
  good : (key value : List ℕ) → Marked (attribute key value)

-- an event that a table can hold: only Start and Empty have attributes, and an Indent is one newline
pub data Writable : Event → Type 0 where
  start : {name : List ℕ} {first : ℕ} {xs : List Attribute} → Each Marked xs → Writable (Tag Start name first xs)
  empty : {name : List ℕ} {first : ℕ} {xs : List Attribute} → Each Marked xs → Writable (Tag Empty name first xs)
  end : {name : List ℕ} {first : ℕ} → Writable (Tag End name first [])
  text : {s : List ℕ} → Writable (Piece Text s)
  cdata : {s : List ℕ} → Writable (Piece CData s)
  ref : {s : List ℕ} → Writable (Piece Ref s)
  other : {s : List ℕ} → Writable (Piece Other s)
  newline : Writable (Piece Indent (10 ∷ []))
  eof : Writable Eof
  fault : Writable Fault

-- ---- a field that may be missing, and lists
module _ {A B : Type 0} {P : B → Type 0} (f : A → List B) (h : (x : A) → Each P (f x)) where
  of-optional : (o : Option A) → Each P (optional f o)
  of-optional none = done
  of-optional (some x) = h x

  of-each : (xs : List A) → Each P (each f xs)
  of-each [] = done
  of-each (x ∷ xs) = each_append (h x) (of-each xs)

-- ---- attributes
marked-textual : (key : List ℕ) (t : report.Text) → Each Marked (textual key t)
marked-textual key t = more (good key _) done

marked-numeric : (key : List ℕ) (n : ℕ) → Each Marked (numeric key n)
marked-numeric key n = more (good key _) done

marked-text : (key : List ℕ) (o : Option report.Text) → Each Marked (optional (textual key) o)
marked-text key o = of-optional (textual key) (marked-textual key) o

marked-number : (key : List ℕ) (o : Option ℕ) → Each Marked (optional (numeric key) o)
marked-number key o = of-optional (numeric key) (marked-numeric key) o

marked-stamp : (m : Option Moment) → Each Marked (stamped m)
marked-stamp none = done
marked-stamp (some m) = more (good (bytes "timestamp") _) done

marked-time : (d : Option Duration) → Each Marked (timed d)
marked-time none = done
marked-time (some d) = more (good (bytes "time") _) done

marked-uuid : (o : Option Words) → Each Marked (optional (λ (u : Words). attribute (bytes "uuid") (uuid_text u) ∷ []) o)
marked-uuid none = done
marked-uuid (some u) = more (good (bytes "uuid") _) done

marked-extra : (xs : List Pair) → Each Marked (map extra_attribute xs)
marked-extra xs = each_map extra_attribute (λ p. good p.key _) xs

marked-status : (message type : Option report.Text) → Each Marked (status_attributes message type)
marked-status message type = each_append (marked-text (bytes "message") message) (marked-text (bytes "type") type)

marked-case : (c : TestCase) → Each Marked (case_attributes c)
marked-case c =
    each_append (marked-textual (bytes "name") c.name)
    (each_append (marked-text (bytes "classname") c.classname)
    (each_append (marked-number (bytes "assertions") c.assertions)
    (each_append (marked-stamp c.timestamp)
    (each_append (marked-time c.time) (marked-extra c.extra)))))

marked-suite : (s : TestSuite) → Each Marked (suite_attributes s)
marked-suite s =
    each_append (marked-textual (bytes "name") s.name)
    (each_append (marked-numeric (bytes "tests") s.counts.tests)
    (each_append (marked-numeric (bytes "skipped") s.counts.skipped)
    (each_append (marked-numeric (bytes "errors") s.counts.errors)
    (each_append (marked-numeric (bytes "failures") s.counts.failures)
    (each_append (marked-number (bytes "disabled") s.counts.disabled)
    (each_append (marked-stamp s.timestamp)
    (each_append (marked-time s.time)
    (each_append (marked-text (bytes "hostname") s.hostname) (marked-extra s.extra)))))))))

marked-report : (r : Report) → Each Marked (report_attributes r)
marked-report r =
    each_append (marked-text (bytes "name") r.name)
    (each_append (marked-numeric (bytes "tests") r.counts.tests)
    (each_append (marked-numeric (bytes "skipped") r.counts.skipped)
    (each_append (marked-numeric (bytes "failures") r.counts.failures)
    (each_append (marked-numeric (bytes "errors") r.counts.errors)
    (each_append (marked-number (bytes "disabled") r.counts.disabled)
    (each_append (marked-uuid r.uuid)
    (each_append (marked-stamp r.timestamp) (marked-time r.time))))))))

-- ---- events
writable-output : (name : List ℕ) (t : report.Text) → Each Writable (serialize_output name t)
unfolding serialize_output
writable-output name t = more (start done) (more text (more end done))

writable-outputs : (out err : Option report.Text) → Each Writable (serialize_outputs out err)
unfolding serialize_outputs
writable-outputs out err =
    each_append (of-optional (serialize_output (bytes "system-out")) (writable-output (bytes "system-out")) out)
    (of-optional (serialize_output (bytes "system-err")) (writable-output (bytes "system-err")) err)

writable-property : (p : Pair) → Each Writable (serialize_property p)
unfolding serialize_property
writable-property p = more (empty (each_append (marked-textual (bytes "name") p.key) (marked-textual (bytes "value") p.value))) done

writable-properties : (ps : List Pair) → Each Writable (serialize_properties ps)
unfolding serialize_properties
writable-properties [] = done
writable-properties (p ∷ ps) = more (start done) (each_append (of-each serialize_property writable-property (p ∷ ps)) (more end done))

writable-described : (name : List ℕ) {xs : List Attribute} → Each Marked xs → (d : Option report.Text) → Each Writable (described name xs d)
writable-described name g none = more (empty g) done
writable-described name g (some d) = more (start g) (more text (more end done))

writable-status : (name : List ℕ) (r : Reason) → Each Writable (serialize_status name r)
unfolding serialize_status
writable-status name r = writable-described name (marked-status r.message r.type) r.description

writable-indented : (d : Option report.Text) {cs : List Event} → Each Writable cs → Each Writable (indented d cs)
writable-indented none q = q
writable-indented (some d) done = more text done
writable-indented (some d) (more p ps) = more text (more newline (more p ps))

writable-run : (family : FlakyOrRerun) (r : TestRerun) → Each Writable (serialize_rerun family r)
unfolding serialize_rerun
writable-run family r =
    more (start (each_append (marked-stamp r.timestamp) (each_append (marked-time r.time) (marked-status r.message r.type))))
    (each_append (writable-indented r.description
    (each_append (of-optional (serialize_output (bytes "stackTrace")) (writable-output (bytes "stackTrace")) r.stack_trace) (writable-outputs r.system_out r.system_err)))
    (more end done))

writable-elements : (s : TestCaseStatus) → Each Writable (serialize_elements s)
unfolding serialize_elements
writable-elements (success runs) = of-each (serialize_rerun flaky) (writable-run flaky) runs
writable-elements (non_success kind reason family runs) = each_append (writable-status (main_name kind) reason) (of-each (serialize_rerun family) (writable-run family) runs)
writable-elements (skipped reason) = writable-status (bytes "skipped") reason

writable-element : (name : List ℕ) {xs : List Attribute} → Each Marked xs → {cs : List Event} → Each Writable cs → Each Writable (element name xs cs)
writable-element name g done = more (empty g) done
writable-element name g (more p ps) = more (start g) (each_append (more p ps) (more end done))

writable-case : (c : TestCase) → Each Writable (serialize_test_case c)
unfolding serialize_test_case
writable-case c =
    writable-element (bytes "testcase") (marked-case c)
    (each_append (writable-properties c.properties) (each_append (writable-elements c.status) (writable-outputs c.system_out c.system_err)))

writable-suite : (s : TestSuite) → Each Writable (serialize_test_suite s)
unfolding serialize_test_suite
writable-suite s =
    writable-element (bytes "testsuite") (marked-suite s)
    (each_append (writable-properties s.properties) (each_append (of-each serialize_test_case writable-case s.cases) (writable-outputs s.system_out s.system_err)))

pub writable-report : (r : Report) → Each Writable (serialize_report r)
unfolding serialize_report declaration
writable-report r = more other (more (start (marked-report r)) (each_append (of-each serialize_test_suite writable-suite r.suites) (more end (more eof (more newline done)))))
