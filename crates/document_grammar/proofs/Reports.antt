-- The elements of a report that fits XML. Assumes nothing.
use Prim.Native.Nat.{ℕ}
use mathlib.Core.Path.{◌≡◌, refl}
use mathlib.Core.List.{List, [], ◌∷◌, ◌++◌}
use mathlib.Core.Bool.{Bool, true, ◌&&◌}
use mathlib.Core.Option.{Option, none, some}
use Rattle.xml_grammar.specs.of_names.Bytes.{bytes}
use Rattle.document_events.specs.of_utf8.Utf8.{need, low, high}
use Rattle.document_events.specs.of_uuids.declared.Words.{Words}
use Rattle.xml_grammar.specs.of_table.Event.{Attribute}
use Rattle.document_events.specs.of_tree_report.Report.{Text, Pair, NonSuccessKind, failure, error, FlakyOrRerun, flaky, rerun, TestRerun, Reason}
use Rattle.document_events.specs.of_tree_report.Report.{TestCaseStatus, success, non_success, skipped, TestCase, TestSuite, Report}
use Rattle.document_events.specs.of_tree_report.Encode.{every}
use Rattle.document_events.proofs.of_tree_report.EncodeLists.{and_left, and_right, Each, done, more, each_append}
use Rattle.round_elements.specs.of_write_uuid.Written.{uuid_text}
use Rattle.round_elements.specs.of_write_report.Written.{attribute, optional, start_tag, end_tag, each}
use Rattle.round_elements.specs.of_write_report.Written.{serialize_output, serialize_property, serialize_properties, serialize_outputs, status_attributes, described, serialize_status}
use Rattle.round_elements.specs.of_write_report.Written.{main_name, run_name, run_children, serialize_rerun, serialize_elements, case_attributes, serialize_test_case, suite_attributes, serialize_test_suite, report_attributes}
use Rattle.round_elements.specs.Plain.{listed}
use Rattle.xml_grammar.specs.of_xml_chars.Chars.{crosses}
use Rattle.document_grammar.specs.XmlFit.{xml_text, xml_name, fit_property, fit_extra, fit_reason, fit_run, fit_status, fit_case, fit_suite, xml_fit}
use Rattle.document_grammar.proofs.Characters.{text-spelt, name-spelt}
use Rattle.document_grammar.proofs.Values.{uuid-spelt}
use Rattle.document_grammar.proofs.Attributes.{Fits, fits-none, fits_each, Fine, fine}
use Rattle.document_grammar.proofs.Elements.{Whole, Kids, no-kid, whole-empty, whole-kids, whole-text, kids-one, kids_append}
use Rattle.document_grammar.proofs.Parts.{every_front, every-behind, textual-fine, numeric-fine, texts-fine, numbers-fine, stamped-fine, timed-fine, extras-fine}
use Rattle.document_grammar.proofs.Parts.{each-kids, element-whole, run-whole}

-- ---- outputs and properties
output-kids : (name : List ℕ) → xml_name name ≡ true → (v : Option Text) → every xml_text (listed v) ≡ true → Kids (optional (serialize_output name) v)
unfolding serialize_output
output-kids name n none e = no-kid
output-kids name n (some t) e = kids-one (whole-text (name-spelt name n) fits-none (text-spelt t (and_left (xml_text t) true e)))

outputs-kids : (out err : Option Text) → every xml_text (listed out ++ listed err) ≡ true → Kids (serialize_outputs out err)
unfolding serialize_outputs xml_name crosses need low high
outputs-kids out err e =
    kids_append (output-kids (bytes "system-out") refl out (every_front xml_text (listed out) (listed err) e))
    (output-kids (bytes "system-err") refl err (every-behind xml_text (listed out) (listed err) e))

property-kids : (p : Pair) → fit_property p ≡ true → Kids (serialize_property p)
unfolding serialize_property fit_property xml_name crosses need low high
property-kids p e =
    kids-one (whole-empty (name-spelt (bytes "property") refl)
    (fits_each (each_append (textual-fine (bytes "name") refl p.key (and_left (xml_text p.key) (xml_text p.value) e))
    (textual-fine (bytes "value") refl p.value (and_right (xml_text p.key) (xml_text p.value) e)))))

properties-kids : (ps : List Pair) → every fit_property ps ≡ true → Kids (serialize_properties ps)
unfolding serialize_properties xml_name crosses need low high
properties-kids [] e = no-kid
properties-kids (p ∷ ps) e = kids-one (whole-kids (name-spelt (bytes "properties") refl) fits-none (each-kids fit_property serialize_property property-kids (p ∷ ps) e))

-- ---- status elements
status-fine : (message type : Option Text) → every xml_text (listed message) ≡ true → every xml_text (listed type) ≡ true → Each Fine (status_attributes message type)
unfolding xml_name crosses need low high
status-fine message type e f = each_append (texts-fine (bytes "message") refl message e) (texts-fine (bytes "type") refl type f)

described-whole : (name : List ℕ) → xml_name name ≡ true → {xs : List Attribute} → Fits xs → (d : Option Text) → every xml_text (listed d) ≡ true → Whole (described name xs d)
described-whole name n fits none e = whole-empty (name-spelt name n) fits
described-whole name n fits (some t) e = whole-text (name-spelt name n) fits (text-spelt t (and_left (xml_text t) true e))

-- message, type and description of one element
module _ (a b c : Option Text) (e : every xml_text (listed a ++ (listed b ++ listed c)) ≡ true) where
  first : every xml_text (listed a) ≡ true
  first = every_front xml_text (listed a) (listed b ++ listed c) e

  second : every xml_text (listed b) ≡ true
  second = every_front xml_text (listed b) (listed c) (every-behind xml_text (listed a) (listed b ++ listed c) e)

  third : every xml_text (listed c) ≡ true
  third = every-behind xml_text (listed b) (listed c) (every-behind xml_text (listed a) (listed b ++ listed c) e)

reason-whole : (name : List ℕ) → xml_name name ≡ true → (m : Reason) → fit_reason m ≡ true → Whole (serialize_status name m)
unfolding serialize_status fit_reason
reason-whole name n m e =
    described-whole name n (fits_each (status-fine m.message m.type (first m.message m.type m.description e) (second m.message m.type m.description e)))
    m.description (third m.message m.type m.description e)

main-named : (k : NonSuccessKind) → xml_name (main_name k) ≡ true
unfolding xml_name crosses need low high
main-named failure = refl
main-named error = refl

run-named : (f : FlakyOrRerun) (k : NonSuccessKind) → xml_name (run_name f k) ≡ true
unfolding xml_name crosses need low high
run-named flaky failure = refl
run-named flaky error = refl
run-named rerun failure = refl
run-named rerun error = refl

module _ (r : TestRerun) (e : fit_run r ≡ true) where
  abbrev shown : Bool
  shown = every xml_text (listed r.message ++ (listed r.type ++ listed r.description))

  abbrev printed : Bool
  printed = every xml_text (listed r.stack_trace ++ (listed r.system_out ++ listed r.system_err))

  run-shown : shown ≡ true
  unfolding fit_run
  run-shown = and_left shown printed e

  run-printed : printed ≡ true
  unfolding fit_run
  run-printed = and_right shown printed e

  children_kids : Kids (run_children r)
  unfolding xml_name crosses need low high
  children_kids =
      kids_append (output-kids (bytes "stackTrace") refl r.stack_trace (every_front xml_text (listed r.stack_trace) (listed r.system_out ++ listed r.system_err) run-printed))
      (outputs-kids r.system_out r.system_err (every-behind xml_text (listed r.stack_trace) (listed r.system_out ++ listed r.system_err) run-printed))

  rerun-kids : (family : FlakyOrRerun) → Kids (serialize_rerun family r)
  unfolding serialize_rerun
  rerun-kids family =
      kids-one (run-whole (run_name family r.kind) (run-named family r.kind)
      (fits_each (each_append (stamped-fine r.timestamp) (each_append (timed-fine r.time)
      (status-fine r.message r.type (first r.message r.type r.description run-shown) (second r.message r.type r.description run-shown)))))
      r.description (third r.message r.type r.description run-shown) (run_children r) children_kids)

runs-kids : (family : FlakyOrRerun) (rs : List TestRerun) → every fit_run rs ≡ true → Kids (each (serialize_rerun family) rs)
runs-kids family rs e = each-kids fit_run (serialize_rerun family) (λ r f. rerun-kids r f family) rs e

status-kids : (s : TestCaseStatus) → fit_status s ≡ true → Kids (serialize_elements s)
unfolding serialize_elements fit_status xml_name crosses need low high
status-kids (success runs) e = runs-kids flaky runs e
status-kids (non_success kind reason family runs) e =
    kids_append (kids-one (reason-whole (main_name kind) (main-named kind) reason (and_left (fit_reason reason) (every fit_run runs) e)))
    (runs-kids family runs (and_right (fit_reason reason) (every fit_run runs) e))
status-kids (skipped reason) e = kids-one (reason-whole (bytes "skipped") refl reason e)

-- ---- case, suite, report
module _ (c : TestCase) (e : fit_case c ≡ true) where
  abbrev case-texts : Bool
  case-texts = every xml_text (c.name ∷ (listed c.classname ++ (listed c.system_out ++ listed c.system_err)))

  abbrev case-rest : Bool
  case-rest = every fit_property c.properties && fit_status c.status

  texts-of : case-texts ≡ true
  unfolding fit_case
  texts-of = and_left case-texts (every fit_extra c.extra && case-rest) e

  extras-of : every fit_extra c.extra ≡ true
  unfolding fit_case
  extras-of = and_left (every fit_extra c.extra) case-rest (and_right case-texts (every fit_extra c.extra && case-rest) e)

  rest_of : case-rest ≡ true
  unfolding fit_case
  rest_of = and_right (every fit_extra c.extra) case-rest (and_right case-texts (every fit_extra c.extra && case-rest) e)

  later-texts : every xml_text (listed c.classname ++ (listed c.system_out ++ listed c.system_err)) ≡ true
  later-texts = and_right (xml_text c.name) (every xml_text (listed c.classname ++ (listed c.system_out ++ listed c.system_err))) texts-of

  case-fine : Each Fine (case_attributes c)
  unfolding xml_name crosses need low high
  case-fine =
      each_append (textual-fine (bytes "name") refl c.name (and_left (xml_text c.name) (every xml_text (listed c.classname ++ (listed c.system_out ++ listed c.system_err))) texts-of))
      (each_append (texts-fine (bytes "classname") refl c.classname (every_front xml_text (listed c.classname) (listed c.system_out ++ listed c.system_err) later-texts))
      (each_append (numbers-fine (bytes "assertions") refl c.assertions)
      (each_append (stamped-fine c.timestamp) (each_append (timed-fine c.time) (extras-fine c.extra extras-of)))))

  case-kids : Kids (serialize_test_case c)
  unfolding serialize_test_case xml_name crosses need low high
  case-kids =
      kids-one (element-whole (bytes "testcase") refl (fits_each case-fine)
      (serialize_properties c.properties ++ (serialize_elements c.status ++ serialize_outputs c.system_out c.system_err))
      (kids_append (properties-kids c.properties (and_left (every fit_property c.properties) (fit_status c.status) rest_of))
      (kids_append (status-kids c.status (and_right (every fit_property c.properties) (fit_status c.status) rest_of))
      (outputs-kids c.system_out c.system_err (every-behind xml_text (listed c.classname) (listed c.system_out ++ listed c.system_err) later-texts)))))

module _ (s : TestSuite) (e : fit_suite s ≡ true) where
  abbrev suite-later : Bool
  suite-later = every xml_text (listed s.hostname ++ (listed s.system_out ++ listed s.system_err))

  abbrev suite-rest : Bool
  suite-rest = every fit_property s.properties && every fit_case s.cases

  suite-texts : (xml_text s.name && suite-later) ≡ true
  unfolding fit_suite
  suite-texts = and_left (xml_text s.name && suite-later) (every fit_extra s.extra && suite-rest) e

  suite-extras : every fit_extra s.extra ≡ true
  unfolding fit_suite
  suite-extras = and_left (every fit_extra s.extra) suite-rest (and_right (xml_text s.name && suite-later) (every fit_extra s.extra && suite-rest) e)

  suite-parts : suite-rest ≡ true
  unfolding fit_suite
  suite-parts = and_right (every fit_extra s.extra) suite-rest (and_right (xml_text s.name && suite-later) (every fit_extra s.extra && suite-rest) e)

  later-suite-texts : suite-later ≡ true
  later-suite-texts = and_right (xml_text s.name) suite-later suite-texts

  suite-fine : Each Fine (suite_attributes s)
  unfolding xml_name crosses need low high
  suite-fine =
      each_append (textual-fine (bytes "name") refl s.name (and_left (xml_text s.name) suite-later suite-texts))
      (each_append (numeric-fine (bytes "tests") refl s.counts.tests)
      (each_append (numeric-fine (bytes "skipped") refl s.counts.skipped)
      (each_append (numeric-fine (bytes "errors") refl s.counts.errors)
      (each_append (numeric-fine (bytes "failures") refl s.counts.failures)
      (each_append (numbers-fine (bytes "disabled") refl s.counts.disabled)
      (each_append (stamped-fine s.timestamp)
      (each_append (timed-fine s.time)
      (each_append (texts-fine (bytes "hostname") refl s.hostname (every_front xml_text (listed s.hostname) (listed s.system_out ++ listed s.system_err) later-suite-texts))
      (extras-fine s.extra suite-extras)))))))))

  suite-kids : Kids (serialize_test_suite s)
  unfolding serialize_test_suite xml_name crosses need low high
  suite-kids =
      kids-one (element-whole (bytes "testsuite") refl (fits_each suite-fine)
      (serialize_properties s.properties ++ (each serialize_test_case s.cases ++ serialize_outputs s.system_out s.system_err))
      (kids_append (properties-kids s.properties (and_left (every fit_property s.properties) (every fit_case s.cases) suite-parts))
      (kids_append (each-kids fit_case serialize_test_case case-kids s.cases (and_right (every fit_property s.properties) (every fit_case s.cases) suite-parts))
      (outputs-kids s.system_out s.system_err (every-behind xml_text (listed s.hostname) (listed s.system_out ++ listed s.system_err) later-suite-texts)))))

uuid-fine : (u : Option Words) → Each Fine (optional (λ (x : Words). attribute (bytes "uuid") (uuid_text x) ∷ []) u)
unfolding xml_name crosses need low high
uuid-fine none = done
uuid-fine (some w) = more (fine (name-spelt (bytes "uuid") refl) (uuid-spelt w) refl) done

module _ (r : Report) (e : xml_fit r ≡ true) where
  abbrev named : Bool
  named = every xml_text (listed r.name)

  report-fine : Each Fine (report_attributes r)
  unfolding xml_fit xml_name crosses need low high
  report-fine =
      each_append (texts-fine (bytes "name") refl r.name (and_left named (every fit_suite r.suites) e))
      (each_append (numeric-fine (bytes "tests") refl r.counts.tests)
      (each_append (numeric-fine (bytes "skipped") refl r.counts.skipped)
      (each_append (numeric-fine (bytes "failures") refl r.counts.failures)
      (each_append (numeric-fine (bytes "errors") refl r.counts.errors)
      (each_append (numbers-fine (bytes "disabled") refl r.counts.disabled)
      (each_append (uuid-fine r.uuid) (each_append (stamped-fine r.timestamp) (timed-fine r.time))))))))

  suites-kids : Kids (each serialize_test_suite r.suites)
  unfolding xml_fit
  suites-kids = each-kids fit_suite serialize_test_suite suite-kids r.suites (and_right named (every fit_suite r.suites) e)

  pub report-whole : Whole (start_tag (bytes "testsuites") (report_attributes r) ∷ (each serialize_test_suite r.suites ++ (end_tag (bytes "testsuites") ∷ [])))
  unfolding xml_name crosses need low high
  report-whole = whole-kids (name-spelt (bytes "testsuites") refl) (fits_each report-fine) suites-kids
