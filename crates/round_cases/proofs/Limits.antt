-- The last condition of a plain report at its border, event for event, attribute for attribute, byte for byte. Assumes nothing.
use Prim.Native.Nat.{ℕ, zero, suc, ◌+◌, ◌*◌, ◌≤◌}
use mathlib.Core.Bool.{Bool, true, false, not, ◌&&◌}
use mathlib.Core.List.{List, [], ◌∷◌, ◌++◌}
use mathlib.Core.Option.{none}
use mathlib.Core.Path.{◌≡◌, refl, sym, ap, ap₂, ◌∙◌}
use native.Mathlib.Omega.{arith}
use borrow.Author.Tests.{le-leb, lt-leb, leb-true, leb-false}
use lib.Dec.{leb}
use lib.ListN.{length, replicate, length-append, length-replicate}
use Rattle.public_cases.specs.of_area.Limits.{most_entries, most_bytes}
use Rattle.public_cases.specs.of_names.Bytes.{bytes}
use Rattle.public_cases.specs.of_digits.Digits.{digit, decimal, places}
use Rattle.public_cases.specs.of_table.Event.{Event, Tag, Piece, Eof, Fault}
use Rattle.public_cases.specs.of_timestamp.declared.Moment.{Moment}
use Rattle.public_cases.specs.of_tree_report.Report.{Text, Duration, failure, flaky, Reason, TestRerun, success, TestCase, TestSuite, Report}
use Rattle.public_cases.specs.of_tree_report.Encode.{every}
use Rattle.public_cases.proofs.of_tree_report.EncodeLists.{both}
use Rattle.public_cases.specs.of_write_escape.Escape as escape
use Rattle.round_elements.specs.of_write_report.Written.{is_empty, start_tag, end_tag, indent, case_attributes, suite_attributes, report_attributes}
use Rattle.round_elements.specs.of_write_report.Written.{each, serialize_properties, serialize_outputs, serialize_rerun, serialize_elements, serialize_test_case, serialize_test_suite, declaration}
use Rattle.round_elements.specs.of_write_report.Written.{serialize_report, numbered, written}
use Rattle.round_elements.specs.of_write_table.Laid.{Item, entry, pair, items_of_event, items_of, event_words, attribute_words, laid_bytes, laid_out, fits}
use Rattle.round_elements.proofs.of_write_table.Writing.{items_append}
use Rattle.round_elements.proofs.of_write_table.Filling.{entries, pairs, length-events, length-attributes}
use Rattle.public_cases.specs.Reports.{of_status, of_cases, of_suites}
use Rattle.round_elements.specs.Plain.{reasons_in, runs_in, cases_of, descriptions, outputs, times, timestamps, listed, keys_of}
use Rattle.round_elements.specs.Plain.{bare, whole_time, whole_moment, suite_keys, case_keys, good_keys, is_ruled, plain}
use Rattle.round_cases.specs.Kept.{of_suite, suite_named, bare_run, many_cases, many_runs, long_name}

-- ---- how many events, attributes and bytes events are laid out as
record Sized (es : List Event) (e a b : ℕ) : Type 0 where
  events : entries (items_of es) ≡ e
  attributes : pairs (items_of es) ≡ a
  bytes : length (laid_bytes (items_of es)) ≡ b

entries_append : (is js : List Item) → entries (is ++ js) ≡ entries is + entries js
unfolding entries
entries_append [] js = omega arith
entries_append (entry k s n ∷ is) js = omega (arith, entries_append is js)
entries_append (pair k v ∷ is) js = entries_append is js

pairs-append : (is js : List Item) → pairs (is ++ js) ≡ pairs is + pairs js
unfolding pairs
pairs-append [] js = omega arith
pairs-append (entry k s n ∷ is) js = pairs-append is js
pairs-append (pair k v ∷ is) js = omega (arith, pairs-append is js)

bytes-append : (is js : List Item) → length (laid_bytes (is ++ js)) ≡ length (laid_bytes is) + length (laid_bytes js)
unfolding laid_bytes
bytes-append [] js = omega arith
bytes-append (entry k s n ∷ is) js = omega (arith, bytes-append is js, length-append s (laid_bytes (is ++ js)), length-append s (laid_bytes is))
bytes-append (pair k v ∷ is) js = omega (arith, bytes-append is js, length-append (k ++ v) (laid_bytes (is ++ js)), length-append (k ++ v) (laid_bytes is))

joins : (es : List Event) {fs : List Event} {e a b e' a' b' : ℕ} → Sized es e a b → Sized fs e' a' b' → Sized (es ++ fs) (e + e') (a + a') (b + b')
joins es {fs} h k =
    let i : items_of (es ++ fs) ≡ items_of es ++ items_of fs = items_append es fs in
    record {
      events = ap entries i ∙ entries_append (items_of es) (items_of fs) ∙ ap₂ (λ (x y : ℕ). x + y) h.events k.events;
      attributes = ap pairs i ∙ pairs-append (items_of es) (items_of fs) ∙ ap₂ (λ (x y : ℕ). x + y) h.attributes k.attributes;
      bytes = ap (λ (is : List Item). length (laid_bytes is)) i ∙ bytes-append (items_of es) (items_of fs) ∙ ap₂ (λ (x y : ℕ). x + y) h.bytes k.bytes;
    }

sized_as : {es : List Event} {e a b e' a' b' : ℕ} → Sized es e a b → e ≡ e' → a ≡ a' → b ≡ b' → Sized es e' a' b'
sized_as h p q r = record { events = h.events ∙ p; attributes = h.attributes ∙ q; bytes = h.bytes ∙ r }

sized-none : Sized [] 0 0 0
unfolding items_of entries pairs laid_bytes
sized-none = record { events = refl; attributes = refl; bytes = refl }

-- so many of the same
sized-many : {A : Type 0} (f : A → List Event) (x : A) {e a b : ℕ} → Sized (f x) e a b → (n : ℕ) → Sized (each f (replicate n x)) (e * n) (a * n) (b * n)
sized-many f x h zero = sized_as sized-none (omega arith) (omega arith) (omega arith)
sized-many f x h (suc n) = sized_as (joins (f x) h (sized-many f x h n)) (omega arith) (omega arith) (omega arith)

-- numbers of first attributes take no room
numbered-items : (n : ℕ) (es : List Event) → items_of (numbered n es) ≡ items_of es
unfolding items_of numbered
numbered-items n [] = refl
numbered-items n (Tag k name j xs ∷ es) = ap (λ (is : List Item). items_of_event (Tag k name j xs) ++ is) (numbered-items (n + length xs) es)
numbered-items n (Piece k s ∷ es) = ap (λ (is : List Item). items_of_event (Piece k s) ++ is) (numbered-items (n + 0) es)
numbered-items n (Eof ∷ es) = ap (λ (is : List Item). items_of_event Eof ++ is) (numbered-items (n + 0) es)
numbered-items n (Fault ∷ es) = ap (λ (is : List Item). items_of_event Fault ++ is) (numbered-items (n + 0) es)

-- ---- the limits, by these numbers
and-false : (a b : Bool) → (a && (false && b)) ≡ false
and-false true b = refl
and-false false b = refl

abbrev within : ℕ → ℕ → ℕ → Bool
within e a b = leb e 65536 && (leb a 65536 && leb b 16777216)

times-five : (n : ℕ) → leb (n * 5) (most_entries * 5) ≡ leb n 65536
times-five n = go (leb n 65536) refl
  where
    go : (t : Bool) → leb n 65536 ≡ t → leb (n * 5) (most_entries * 5) ≡ t
    go true h = let l = leb-true n 65536 h in le-leb (n * 5) (most_entries * 5) (omega arith)
    go false h = let l = leb-false n 65536 h in lt-leb (n * 5) (most_entries * 5) (omega arith)

limits_of : (r : Report) {e a b : ℕ} → Sized (serialize_report r) e a b → fits (laid_out (written r)) (most_entries * 5) (most_entries * 5) most_bytes ≡ within e a b
unfolding written laid_out
limits_of r {e} {a} {b} h =
    let is : List Item = items_of (numbered 0 (serialize_report r)) in
    let i : is ≡ items_of (serialize_report r) = numbered-items 0 (serialize_report r) in
    let x : length (event_words 0 0 is) ≡ e * 5 = length-events 0 0 is ∙ ap (λ (js : List Item). entries js * 5) i ∙ ap (λ (n : ℕ). n * 5) h.events in
    let y : length (attribute_words 0 is) ≡ a * 5 = length-attributes 0 is ∙ ap (λ (js : List Item). pairs js * 5) i ∙ ap (λ (n : ℕ). n * 5) h.attributes in
    let z : length (laid_bytes is) ≡ b = ap (λ (js : List Item). length (laid_bytes js)) i ∙ h.bytes in
    ap₂ (λ (p q : Bool). p && q) (ap (λ (n : ℕ). leb n (most_entries * 5)) x ∙ times-five e)
    (ap₂ (λ (p q : Bool). p && q) (ap (λ (n : ℕ). leb n (most_entries * 5)) y ∙ times-five a) (ap (λ (n : ℕ). leb n most_bytes) z))

-- ---- the other conditions, where there is nothing that they are about
record Quiet (r : Report) : Type 0 where
  descriptions : descriptions r ≡ []
  outputs : outputs r ≡ []
  times : times r ≡ []
  timestamps : timestamps r ≡ []
  suite_extras : every (λ (s : TestSuite). good_keys suite_keys (keys_of s.extra)) r.suites ≡ true
  case_extras : every (λ (c : TestCase). good_keys case_keys (keys_of c.extra)) (cases_of r) ≡ true
  ruled : every (λ (c : TestCase). is_ruled c.status) (cases_of r) ≡ true

and-on : {a b : Bool} → a ≡ true → (a && b) ≡ b
and-on {b = b} e = ap (λ (x : Bool). x && b) e

quiet-plain : (r : Report) → Quiet r → plain r ≡ fits (laid_out (written r)) (most_entries * 5) (most_entries * 5) most_bytes
unfolding plain
quiet-plain r q =
    and-on (ap₂ (λ (a b : List Text). every bare (a ++ b)) q.descriptions q.outputs)
    ∙ (and-on (ap (every (λ (t : Text). not (is_empty t))) q.descriptions)
    ∙ (and-on (ap (every whole_time) q.times)
    ∙ (and-on (ap (every whole_moment) q.timestamps)
    ∙ (and-on q.suite_extras ∙ (and-on q.case_extras ∙ and-on q.ruled)))))

-- so many of the same
quiet : {A B : Type 0} (f : A → List B) (x : A) → f x ≡ [] → (n : ℕ) → each f (replicate n x ++ []) ≡ []
quiet f x e zero = refl
quiet {B = B} f x e (suc n) = ap₂ (λ (a b : List B). a ++ b) e (quiet f x e n)

every-many : {A : Type 0} (p : A → Bool) (x : A) → p x ≡ true → (n : ℕ) → every p (replicate n x ++ []) ≡ true
every-many p x e zero = refl
every-many p x e (suc n) = both e (every-many p x e n)

-- ---- a report of one suite
abbrev top : List Event
top = declaration ∷ start_tag (bytes "testsuites") (report_attributes (of_suites [])) ∷ []

abbrev bottom : List Event
bottom = end_tag (bytes "testsuites") ∷ Eof ∷ indent ∷ []

sized-top : Sized top 2 4 74
unfolding declaration items_of entries pairs laid_bytes digit decimal places
sized-top = record { events = refl; attributes = refl; bytes = refl }

sized_bottom : Sized bottom 3 0 10
unfolding items_of entries pairs laid_bytes
sized_bottom = record { events = refl; attributes = refl; bytes = refl }

sized-report : (s : TestSuite) {e a b : ℕ} → Sized (serialize_test_suite s) e a b → Sized (serialize_report (of_suite s)) (e + 5) (a + 4) (b + 84)
unfolding serialize_report
sized-report s {e} {a} {b} h =
    sized_as (joins top sized-top (joins (serialize_test_suite s ++ []) (joins (serialize_test_suite s) h sized-none) sized_bottom)) (omega arith) (omega arith) (omega arith)

abbrev opening : List Event
opening = start_tag (bytes "testsuite") (suite_attributes (of_cases [])) ∷ []

abbrev closing : List Event
closing = end_tag (bytes "testsuite") ∷ []

sized-opening : Sized opening 1 5 44
unfolding items_of entries pairs laid_bytes digit decimal places escape.written
sized-opening = record { events = refl; attributes = refl; bytes = refl }

sized-closing : Sized closing 1 0 9
unfolding items_of entries pairs laid_bytes
sized-closing = record { events = refl; attributes = refl; bytes = refl }

-- ---- attributes
abbrev bare_case : TestCase
bare_case = of_status (success [])

sized-case : Sized (serialize_test_case bare_case) 1 1 13
unfolding serialize_test_case serialize_properties serialize_elements serialize_outputs items_of entries pairs laid_bytes escape.written
sized-case = record { events = refl; attributes = refl; bytes = refl }

module _ (n : ℕ) where
  abbrev suite : TestSuite
  suite = of_cases (replicate (suc n) bare_case)

  abbrev more-cases : List Event
  more-cases = each serialize_test_case (replicate n bare_case)

  sized-suite : Sized (serialize_test_suite suite) (n + 3) (n + 6) (13 * n + 66)
  unfolding serialize_test_suite serialize_test_case serialize_properties serialize_elements serialize_outputs
  sized-suite =
      sized_as (joins opening sized-opening (joins (serialize_test_case bare_case) sized-case
      (joins (more-cases ++ []) (joins more-cases (sized-many serialize_test_case bare_case sized-case n) sized-none) sized-closing)))
      (omega arith) (omega arith) (omega arith)

  quiet-cases : Quiet (many_cases (suc n))
  unfolding many_cases
  quiet-cases =
      let reasons : each (λ (c : TestCase). reasons_in c.status) (replicate (suc n) bare_case ++ []) ≡ [] = quiet (λ (c : TestCase). reasons_in c.status) bare_case refl (suc n) in
      let runs : each (λ (c : TestCase). runs_in c.status) (replicate (suc n) bare_case ++ []) ≡ [] = quiet (λ (c : TestCase). runs_in c.status) bare_case refl (suc n) in
      record {
        descriptions = ap₂ (λ (a : List Reason) (b : List TestRerun). each (λ (m : Reason). listed m.description) a ++ each (λ (e : TestRerun). listed e.description) b) reasons runs;
        outputs =
            ap₂ (λ (a : List Text) (b : List TestRerun). a ++ each (λ (e : TestRerun). listed e.stack_trace ++ (listed e.system_out ++ listed e.system_err)) b)
            (quiet (λ (c : TestCase). listed c.system_out ++ listed c.system_err) bare_case refl (suc n)) runs;
        times =
            ap₂ (λ (a : List Duration) (b : List TestRerun). a ++ each (λ (e : TestRerun). listed e.time) b)
            (quiet (λ (c : TestCase). listed c.time) bare_case refl (suc n)) runs;
        timestamps =
            ap₂ (λ (a : List Moment) (b : List TestRerun). a ++ each (λ (e : TestRerun). listed e.timestamp) b)
            (quiet (λ (c : TestCase). listed c.timestamp) bare_case refl (suc n)) runs;
        suite_extras = refl;
        case_extras = every-many (λ (c : TestCase). good_keys case_keys (keys_of c.extra)) bare_case refl (suc n);
        ruled = every-many (λ (c : TestCase). is_ruled c.status) bare_case refl (suc n);
      }

  -- the last attribute: nine stand before those of the cases
  pub cases-border : plain (many_cases (suc n)) ≡ leb (suc n) 65527
  unfolding many_cases
  cases-border = quiet-plain (many_cases (suc n)) quiet-cases ∙ (limits_of (many_cases (suc n)) (sized-report suite sized-suite) ∙ go (leb (suc n) 65527) refl)
    where
      go : (t : Bool) → leb (suc n) 65527 ≡ t → within (n + 3 + 5) (n + 6 + 4) (13 * n + 66 + 84) ≡ t
      go true h =
          let l = leb-true (suc n) 65527 h in
          both (le-leb (n + 3 + 5) 65536 (omega arith)) (both (le-leb (n + 6 + 4) 65536 (omega arith)) (le-leb (13 * n + 66 + 84) 16777216 (omega arith)))
      go false h =
          let l = leb-false (suc n) 65527 h in
          ap (λ (x : Bool). leb (n + 3 + 5) 65536 && (x && leb (13 * n + 66 + 84) 16777216)) (lt-leb (n + 6 + 4) 65536 (omega arith))
          ∙ and-false (leb (n + 3 + 5) 65536) (leb (13 * n + 66 + 84) 16777216)

-- ---- events
abbrev run : TestRerun
run = bare_run failure

sized-run : Sized (serialize_rerun flaky run) 2 0 24
unfolding serialize_rerun serialize_outputs items_of entries pairs laid_bytes
sized-run = record { events = refl; attributes = refl; bytes = refl }

-- the case of these runs
abbrev beginning : List Event
beginning = start_tag (bytes "testcase") (case_attributes bare_case) ∷ []

abbrev ending : List Event
ending = end_tag (bytes "testcase") ∷ []

sized-beginning : Sized beginning 1 1 13
unfolding items_of entries pairs laid_bytes escape.written
sized-beginning = record { events = refl; attributes = refl; bytes = refl }

sized-ending : Sized ending 1 0 8
unfolding items_of entries pairs laid_bytes
sized-ending = record { events = refl; attributes = refl; bytes = refl }

module _ (n : ℕ) where
  abbrev case_of_runs : TestCase
  case_of_runs = of_status (success (replicate (suc n) run))

  abbrev more-runs : List Event
  more-runs = each (serialize_rerun flaky) (replicate n run)

  sized-runs : Sized (serialize_test_case case_of_runs) (2 * n + 4) 1 (24 * n + 45)
  unfolding serialize_test_case serialize_properties serialize_elements serialize_rerun serialize_outputs
  sized-runs =
      sized_as (joins beginning sized-beginning (joins (serialize_rerun flaky run) sized-run
      (joins (more-runs ++ []) (joins more-runs (sized-many (serialize_rerun flaky) run sized-run n) sized-none) sized-ending)))
      (omega arith) (omega arith) (omega arith)

  abbrev suite_of_runs : TestSuite
  suite_of_runs = of_cases (case_of_runs ∷ [])

  sized_suite_of-runs : Sized (serialize_test_suite suite_of_runs) (2 * n + 6) 6 (24 * n + 98)
  unfolding serialize_test_suite serialize_test_case serialize_properties serialize_elements serialize_rerun serialize_outputs
  sized_suite_of-runs =
      sized_as (joins opening sized-opening (joins ((serialize_test_case case_of_runs ++ []) ++ [])
      (joins (serialize_test_case case_of_runs ++ []) (joins (serialize_test_case case_of_runs) sized-runs sized-none) sized-none) sized-closing))
      (omega arith) (omega arith) (omega arith)

  quiet-runs : Quiet (many_runs (suc n))
  unfolding many_runs
  quiet-runs = record {
    descriptions = quiet (λ (e : TestRerun). listed e.description) run refl (suc n);
    outputs = quiet (λ (e : TestRerun). listed e.stack_trace ++ (listed e.system_out ++ listed e.system_err)) run refl (suc n);
    times = quiet (λ (e : TestRerun). listed e.time) run refl (suc n);
    timestamps = quiet (λ (e : TestRerun). listed e.timestamp) run refl (suc n);
    suite_extras = refl;
    case_extras = refl;
    ruled = refl;
  }

  -- the last event: two for each run, and nine others
  pub runs-border : plain (many_runs (suc n)) ≡ leb (suc n) 32763
  unfolding many_runs
  runs-border = quiet-plain (many_runs (suc n)) quiet-runs ∙ (limits_of (many_runs (suc n)) (sized-report suite_of_runs sized_suite_of-runs) ∙ go (leb (suc n) 32763) refl)
    where
      go : (t : Bool) → leb (suc n) 32763 ≡ t → within (2 * n + 6 + 5) 10 (24 * n + 98 + 84) ≡ t
      go true h =
          let l = leb-true (suc n) 32763 h in
          both (le-leb (2 * n + 6 + 5) 65536 (omega arith)) (le-leb (24 * n + 98 + 84) 16777216 (omega arith))
      go false h =
          let l = leb-false (suc n) 32763 h in
          ap (λ (x : Bool). x && leb (24 * n + 98 + 84) 16777216) (lt-leb (2 * n + 6 + 5) 65536 (omega arith))

-- ---- bytes
module _ (n : ℕ) where
  abbrev named : TestSuite
  named = suite_named (replicate n 0x6E)

  name-length : (k : ℕ) → length (escape.escaped (replicate k 0x6E)) ≡ k
  unfolding escape.written
  name-length zero = refl
  name-length (suc k) = ap suc (name-length k)

  sized-name : Sized (serialize_test_suite named) 1 5 (n + 43)
  unfolding serialize_test_suite serialize_properties serialize_outputs items_of entries pairs laid_bytes digit decimal places
  sized-name = record {
    events = refl;
    attributes = refl;
    bytes = let v : List ℕ = escape.escaped (replicate n 0x6E) in let l = name-length n in length-name v ∙ omega arith;
  }
    where
      behind : List ℕ
      behind = bytes "tests0skipped0errors0failures0"

      length-name : (v : List ℕ) → length (bytes "testsuite" ++ (bytes "name" ++ v) ++ behind) ≡ length v + 43
      length-name v = let l : length (v ++ behind) ≡ length v + length behind = length-append v behind in omega arith

  quiet-name : Quiet (long_name n)
  unfolding long_name
  quiet-name = record { descriptions = refl; outputs = refl; times = refl; timestamps = refl; suite_extras = refl; case_extras = refl; ruled = refl }

  -- the last byte: 127 others
  pub name-border : plain (long_name n) ≡ leb n 16777089
  unfolding long_name
  name-border = quiet-plain (long_name n) quiet-name ∙ (limits_of (long_name n) (sized-report named sized-name) ∙ go (leb n 16777089) refl)
    where
      go : (t : Bool) → leb n 16777089 ≡ t → leb (n + 43 + 84) 16777216 ≡ t
      go true h = let l = leb-true n 16777089 h in le-leb (n + 43 + 84) 16777216 (omega arith)
      go false h = let l = leb-false n 16777089 h in lt-leb (n + 43 + 84) 16777216 (omega arith)
