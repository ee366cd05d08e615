-- What a written report takes of text and scratch is no longer than its byte area: beside each Indent stands a tag's name. Assumes nothing.
use Prim.Native.Nat.{ℕ, ◌+◌, ◌≤◌}
use mathlib.Core.Path.{◌≡◌, refl, ap}
use mathlib.Core.List.{List, [], ◌∷◌, ◌++◌}
use mathlib.Core.Option.{Option, none, some}
use native.Mathlib.Omega.{arith}
use lib.ListN.{length, length-append}
use lib.Dec.{lit≤}
use Rattle.read_machine.specs.of_names.Bytes.{bytes}
use Rattle.write_report.specs.of_write_escape.Escape.{escaped}
use Rattle.write_report.specs.of_table.Event.{Attribute, TagKind, Event, Tag, Piece, Eof, Fault, Empty, End, Start, Text}
use Rattle.write_report.specs.of_tree_report.Report.{Pair, NonSuccessKind, failure, error, FlakyOrRerun, flaky, rerun, TestRerun, TestCaseStatus, success, non_success, skipped, TestCase, TestSuite, Report}
use Rattle.write_report.specs.of_tree_report.Report as report
use Rattle.write_report.specs.Written.{start_tag, end_tag, text_event, indent, optional, each, element, described, indented, run_name, main_name, run_children}
use Rattle.write_report.specs.Written.{stamped, timed, status_attributes, case_attributes, suite_attributes, report_attributes, declaration, numbered, written}
use Rattle.write_report.specs.Written.{serialize_output, serialize_property, serialize_properties, serialize_outputs, serialize_status}
use Rattle.write_report.specs.Written.{serialize_rerun, serialize_elements, serialize_test_case, serialize_test_suite, serialize_report}
use Rattle.write_table.specs.Laid.{Item, items_of_event, items_of, pairs_of_it, laid_bytes, laid_out}
use Rattle.round_rooms.specs.Pieces.{event_size}
use Rattle.round_rooms.specs.inside.Sums.{pieces}
use Rattle.round_rooms.specs.Needs.{attribute_bytes, most_text_of}
use Rattle.round_rooms.proofs.Covering.{laid_size, laid-first, laid-events, text-append, pieces-stored}

record Covered (es : List Event) : Type 0 where
  most : most_text_of es ≤ laid_size es

nothing : Covered []
unfolding most_text_of
nothing = record { most = omega arith }

then : {es fs : List Event} → Covered es → Covered fs → Covered (es ++ fs)
then {es} {fs} p q = record { most = omega (arith, p.most, q.most, text-append es fs, laid-events es fs) }

pair-bytes : (xs : List Attribute) → length (laid_bytes (pairs_of_it xs)) ≡ attribute_bytes xs
unfolding laid_bytes
pair-bytes [] = refl
pair-bytes (x ∷ xs) = omega (arith, pair-bytes xs, length-append (x.key ++ x.value) (laid_bytes (pairs_of_it xs)), length-append x.key x.value)

tag-most : (k : TagKind) (name : List ℕ) (j : ℕ) (xs : List Attribute) → length name + attribute_bytes xs ≤ length (laid_bytes (items_of_event (Tag k name j xs)))
unfolding laid_bytes
tag-most k name j xs = omega (arith, pair-bytes xs, length-append name (laid_bytes (pairs_of_it xs)))

tag : {es : List Event} (k : TagKind) (name : List ℕ) (j : ℕ) (xs : List Attribute) → Covered es → Covered (Tag k name j xs ∷ es)
unfolding most_text_of
tag {es} k name j xs p = record { most = omega (arith, p.most, laid-first (Tag k name j xs) es, tag-most k name j xs) }

text-most : (t : report.Text) → event_size (text_event t) ≤ length (laid_bytes (items_of_event (text_event t)))
unfolding laid_bytes
text-most t = omega (arith, length-append (escaped t) [])

text : {es : List Event} (t : report.Text) → Covered es → Covered (text_event t ∷ es)
unfolding most_text_of
text {es} t p = record { most = omega (arith, p.most, laid-first (text_event t) es, text-most t) }

of-each : {A : Type 0} (f : A → List Event) → ((a : A) → Covered (f a)) → (xs : List A) → Covered (each f xs)
of-each f h [] = nothing
of-each f h (x ∷ xs) = then (h x) (of-each f h xs)

of-optional : {A : Type 0} (f : A → List Event) → ((a : A) → Covered (f a)) → (x : Option A) → Covered (optional f x)
of-optional f h none = nothing
of-optional f h (some a) = h a

-- ---- elements
output : (name : List ℕ) (t : report.Text) → Covered (serialize_output name t)
unfolding serialize_output
output name t = tag Start name 0 [] (text t (tag End name 0 [] nothing))

outputs : (out err : Option report.Text) → Covered (serialize_outputs out err)
unfolding serialize_outputs
outputs out err = then (of-optional (serialize_output (bytes "system-out")) (output (bytes "system-out")) out) (of-optional (serialize_output (bytes "system-err")) (output (bytes "system-err")) err)

property : (p : Pair) → Covered (serialize_property p)
unfolding serialize_property
property p = tag Empty (bytes "property") 0 _ nothing

properties : (ps : List Pair) → Covered (serialize_properties ps)
unfolding serialize_properties
properties [] = nothing
properties (p ∷ ps) = tag Start (bytes "properties") 0 [] (then (of-each serialize_property property (p ∷ ps)) (tag End (bytes "properties") 0 [] nothing))

of-described : (name : List ℕ) (xs : List Attribute) (d : Option report.Text) → Covered (described name xs d)
of-described name xs none = tag Empty name 0 xs nothing
of-described name xs (some d) = tag Start name 0 xs (text d (tag End name 0 [] nothing))

-- the Indent's newline is over
indented-most : (d : Option report.Text) (cs : List Event) → Covered cs → most_text_of (indented d cs) ≤ laid_size (indented d cs) + 1
unfolding most_text_of
indented-most none cs p = omega (arith, p.most)
indented-most (some d) [] p = let q = text d nothing in omega (arith, q.most)
indented-most (some d) (c ∷ cs) p =
    omega (arith, p.most, text-most d, laid-first (text_event d) (indent ∷ c ∷ cs), laid-first indent (c ∷ cs))

named : (family : FlakyOrRerun) (kind : NonSuccessKind) → 1 ≤ length (run_name family kind)
named flaky failure = lit≤ tt
named flaky error = lit≤ tt
named rerun failure = lit≤ tt
named rerun error = lit≤ tt

-- a name of one byte covers what is over
spare : (name : List ℕ) (xs : List Attribute) (es : List Event) → 1 ≤ length name → most_text_of es ≤ laid_size es + 1 → Covered (start_tag name xs ∷ (es ++ (end_tag name ∷ [])))
unfolding most_text_of
spare name xs es h p =
    record { most = omega (arith, h, p, text-append es (end_tag name ∷ []), laid-events es (end_tag name ∷ []), laid-first (start_tag name xs) (es ++ (end_tag name ∷ [])), tag-most Start name 0 xs) }

run : (family : FlakyOrRerun) (r : TestRerun) → Covered (serialize_rerun family r)
unfolding serialize_rerun
run family r =
    spare (run_name family r.kind) (stamped r.timestamp ++ (timed r.time ++ status_attributes r.message r.type)) (indented r.description (run_children r)) (named family r.kind)
    (indented-most r.description (run_children r) (then (of-optional (serialize_output (bytes "stackTrace")) (output (bytes "stackTrace")) r.stack_trace) (outputs r.system_out r.system_err)))

elements : (s : TestCaseStatus) → Covered (serialize_elements s)
unfolding serialize_elements serialize_status
elements (success runs) = of-each (serialize_rerun flaky) (run flaky) runs
elements (non_success kind reason family runs) = then (of-described (main_name kind) _ reason.description) (of-each (serialize_rerun family) (run family) runs)
elements (skipped reason) = of-described (bytes "skipped") _ reason.description

of-element : (name : List ℕ) (xs : List Attribute) (es : List Event) → Covered es → Covered (element name xs es)
of-element name xs [] p = tag Empty name 0 xs nothing
of-element name xs (c ∷ cs) p = tag Start name 0 xs (then p (tag End name 0 [] nothing))

test-case : (c : TestCase) → Covered (serialize_test_case c)
unfolding serialize_test_case
test-case c = of-element (bytes "testcase") (case_attributes c) _ (then (properties c.properties) (then (elements c.status) (outputs c.system_out c.system_err)))

test-suite : (s : TestSuite) → Covered (serialize_test_suite s)
unfolding serialize_test_suite
test-suite s =
    of-element (bytes "testsuite") (suite_attributes s) _
    (then (properties s.properties) (then (of-each serialize_test_case test-case s.cases) (outputs s.system_out s.system_err)))

-- the last tag's name covers the last Indent
ending : Covered (end_tag (bytes "testsuites") ∷ Eof ∷ indent ∷ [])
unfolding most_text_of items_of laid_bytes
ending = record { most = lit≤ tt }

declared : {es : List Event} → Covered es → Covered (declaration ∷ es)
unfolding most_text_of declaration
declared {es} p = record { most = omega (arith, p.most, laid-first declaration es) }

whole : (r : Report) → Covered (serialize_report r)
unfolding serialize_report
whole r = declared (tag Start (bytes "testsuites") 0 (report_attributes r) (then (of-each serialize_test_suite test-suite r.suites) ending))

-- ---- numbering the attributes changes neither
numbered-text : (n : ℕ) (es : List Event) → most_text_of (numbered n es) ≡ most_text_of es
unfolding most_text_of numbered
numbered-text n [] = refl
numbered-text n (Tag k name j xs ∷ es) = ap (λ x. attribute_bytes xs + x) (numbered-text (n + length xs) es)
numbered-text n (Piece k s ∷ es) = ap (λ x. event_size (Piece k s) + x) (numbered-text (n + 0) es)
numbered-text n (Eof ∷ es) = ap (λ x. 0 + x) (numbered-text (n + 0) es)
numbered-text n (Fault ∷ es) = ap (λ x. 0 + x) (numbered-text (n + 0) es)

numbered-items : (n : ℕ) (es : List Event) → items_of (numbered n es) ≡ items_of es
unfolding items_of numbered
numbered-items n [] = refl
numbered-items n (Tag k name j xs ∷ es) = ap (λ (is : List Item). items_of_event (Tag k name j xs) ++ is) (numbered-items (n + length xs) es)
numbered-items n (Piece k s ∷ es) = ap (λ (is : List Item). items_of_event (Piece k s) ++ is) (numbered-items (n + 0) es)
numbered-items n (Eof ∷ es) = ap (λ (is : List Item). items_of_event Eof ++ is) (numbered-items (n + 0) es)
numbered-items n (Fault ∷ es) = ap (λ (is : List Item). items_of_event Fault ++ is) (numbered-items (n + 0) es)

-- a text area as long as the written bytes suffices to read them
pub text-written : (r : Report) → most_text_of (written r) ≤ length (laid_out (written r)).bytes
unfolding written laid_out
text-written r =
    let p = whole r in
    let e : laid_size (numbered 0 (serialize_report r)) ≡ laid_size (serialize_report r) = ap (λ (is : List Item). length (laid_bytes is)) (numbered-items 0 (serialize_report r)) in
    omega (arith, p.most, e, numbered-text 0 (serialize_report r))

-- scratch as long as the written bytes suffices to read them
pub pieces-written : (r : Report) → pieces (written r) ≤ length (laid_out (written r)).bytes
pieces-written r = omega (arith, pieces-stored (written r), text-written r)
