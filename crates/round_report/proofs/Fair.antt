-- Behind the events of a report, records stand in the order of a layout. Assumes nothing.
use Prim.Native.Nat.{ℕ, ◌+◌}
use mathlib.Core.Bool.{true, false≢true}
use mathlib.Core.List.{List, [], ◌∷◌}
use mathlib.Core.Option.{Option, none, some}
use mathlib.Core.Path.{◌≡◌, refl, subst}
use lib.ListN.{length}
use Rattle.round_rooms.specs.of_utf8.Utf8.{need, utf8}
use Rattle.round_rooms.specs.of_names.Bytes.{bytes}
use Rattle.round_rooms.specs.of_refusal.Refusal.{accepted}
use Rattle.round_rooms.specs.of_table.Event.{Attribute, Event, Tag, Piece, Eof, Fault}
use Rattle.round_rooms.specs.of_tree_report.Report.{Text, Pair, FlakyOrRerun, flaky, TestRerun, Reason, TestCaseStatus, success, non_success, skipped, TestCase, TestSuite, Report}
use Rattle.round_rooms.proofs.of_tree_report.EncodeLists.{Each, done, more, each_append}
use Rattle.round_rooms.specs.of_read_element.Outcome.{unlimited, fits}
use Rattle.round_rooms.proofs.of_read_element.TreeOutcome.{Holds, held}
use Rattle.round_rooms.specs.of_read_machine.Machine.{Machine, run, begin}
use Rattle.round_rooms.proofs.of_read_machine.TreeInvariant.{Good, FairEvent, Ended, ran}
use Rattle.round_rooms.specs.of_write_report.Written.{optional, status_attributes, each, described, main_name, indented, element, case_attributes, suite_attributes}
use Rattle.round_rooms.specs.of_write_report.Written.{serialize_output, serialize_property, serialize_properties, serialize_outputs, serialize_status, serialize_rerun}
use Rattle.round_rooms.specs.of_write_report.Written.{serialize_elements, serialize_test_case, serialize_test_suite, serialize_report, declaration, numbered, written}

abbrev Fairs : List Event → Type 0
Fairs es = Each FairEvent es

fair-each : {A : Type 0} (f : A → List Event) → ((x : A) → Fairs (f x)) → (xs : List A) → Fairs (each f xs)
fair-each f h [] = done
fair-each f h (x ∷ xs) = each_append (h x) (fair-each f h xs)

fair-optional : {A : Type 0} (f : A → List Event) → ((x : A) → Fairs (f x)) → (o : Option A) → Fairs (optional f o)
fair-optional f h none = done
fair-optional f h (some a) = h a

fair-numbered : (n : ℕ) {es : List Event} → Fairs es → Fairs (numbered n es)
unfolding numbered
fair-numbered n done = done
fair-numbered n (more {x = Tag k name j xs} h hs) = more tt (fair-numbered (n + length xs) hs)
fair-numbered n (more {x = Piece k s} h hs) = more h (fair-numbered (n + 0) hs)
fair-numbered n (more {x = Eof} h hs) = more tt (fair-numbered (n + 0) hs)
fair-numbered n (more {x = Fault} h hs) = more tt (fair-numbered (n + 0) hs)

fair-output : (name : List ℕ) (t : Text) → Fairs (serialize_output name t)
unfolding serialize_output
fair-output name t = more tt (more tt (more tt done))

fair-outputs : (o e : Option Text) → Fairs (serialize_outputs o e)
unfolding serialize_outputs
fair-outputs o e =
    each_append (fair-optional (serialize_output (bytes "system-out")) (fair-output (bytes "system-out")) o) (fair-optional (serialize_output (bytes "system-err")) (fair-output (bytes "system-err")) e)

fair-property : (p : Pair) → Fairs (serialize_property p)
unfolding serialize_property
fair-property p = more tt done

fair-properties : (ps : List Pair) → Fairs (serialize_properties ps)
unfolding serialize_properties
fair-properties [] = done
fair-properties (p ∷ ps) = more tt (each_append (fair-each serialize_property fair-property (p ∷ ps)) (more tt done))

fair-described : (name : List ℕ) (xs : List Attribute) (d : Option Text) → Fairs (described name xs d)
fair-described name xs none = more tt done
fair-described name xs (some d) = more tt (more tt (more tt done))

fair-status : (name : List ℕ) (m : Reason) → Fairs (serialize_status name m)
unfolding serialize_status
fair-status name m = fair-described name (status_attributes m.message m.type) m.description

newline : utf8 (10 ∷ []) ≡ true
unfolding need
newline = refl

fair-indented : (d : Option Text) {es : List Event} → Fairs es → Fairs (indented d es)
fair-indented none h = h
fair-indented (some d) done = more tt done
fair-indented (some d) (more h hs) = more tt (more newline (more h hs))

fair-run : (family : FlakyOrRerun) (e : TestRerun) → Fairs (serialize_rerun family e)
unfolding serialize_rerun
fair-run family e =
    more tt (each_append (fair-indented e.description
    (each_append (fair-optional (serialize_output (bytes "stackTrace")) (fair-output (bytes "stackTrace")) e.stack_trace) (fair-outputs e.system_out e.system_err))) (more tt done))

fair-elements : (s : TestCaseStatus) → Fairs (serialize_elements s)
unfolding serialize_elements
fair-elements (success runs) = fair-each (serialize_rerun flaky) (fair-run flaky) runs
fair-elements (non_success kind reason family runs) = each_append (fair-status (main_name kind) reason) (fair-each (serialize_rerun family) (fair-run family) runs)
fair-elements (skipped reason) = fair-status (bytes "skipped") reason

fair-element : (name : List ℕ) (xs : List Attribute) {es : List Event} → Fairs es → Fairs (element name xs es)
fair-element name xs done = more tt done
fair-element name xs (more h hs) = more tt (each_append (more h hs) (more tt done))

fair-case : (c : TestCase) → Fairs (serialize_test_case c)
unfolding serialize_test_case
fair-case c =
    fair-element (bytes "testcase") (case_attributes c)
    (each_append (fair-properties c.properties) (each_append (fair-elements c.status) (fair-outputs c.system_out c.system_err)))

fair-suite : (s : TestSuite) → Fairs (serialize_test_suite s)
unfolding serialize_test_suite
fair-suite s =
    fair-element (bytes "testsuite") (suite_attributes s)
    (each_append (fair-properties s.properties) (each_append (fair-each serialize_test_case fair-case s.cases) (fair-outputs s.system_out s.system_err)))

fair-report : (r : Report) → Fairs (serialize_report r)
unfolding serialize_report declaration
fair-report r = more tt (more tt (each_append (fair-each serialize_test_suite fair-suite r.suites) (more tt (more tt (more newline done)))))

begin-good : Good unlimited begin
unfolding fits
begin-good = record {
  sound = record { records = done; space = refl; stored = record { sound = refl; clean = refl; room = refl }; description = refl; gathered = refl };
  order = λ e. absurd (false≢true e);
}

-- what reading leaves where it accepts
pub written-ended : (r : Report) (s : Machine) → run unlimited (written r) begin ≡ accepted s → Ended unlimited s
unfolding written
written-ended r s e = held (subst (Holds (Ended unlimited)) e (ran begin (fair-numbered 0 (fair-report r)) begin-good))
