-- The record that an element's attributes fill shows the element. Assumes nothing.
use Prim.Native.Nat.{ℕ, ◌+◌, ◌*◌, ◌/◌, ◌%◌}
use mathlib.Core.Bool.{Bool, false}
use mathlib.Core.List.{List}
use mathlib.Core.Option.{Option, none, some}
use mathlib.Core.Path.{◌≡◌, refl}
use native.Mathlib.Nat.{mod-add-div'}
use lib.ListN.{get_or}
use Rattle.read_machine.specs.of_uuids.declared.Words.{Words}
use Rattle.read_machine.specs.of_tree_record.Kinds as kind
use Rattle.write_report.specs.of_tree_report.Report.{Pair, Counts, FlakyOrRerun, TestRerun, Reason, TestCase, TestSuite, Report}
use Rattle.write_report.specs.of_tree_report.Fields.{has_bit, number_at, uuid, counts}
use Rattle.write_report.specs.of_tree_report.inside.Cells.{absent, is_given, first_word, second_word, of_number, of_count, uuid_front, uuid_back, kind_of_run, Row, presence}
use Rattle.write_report.proofs.of_tree_report.EncodeCells.{bit-flag, NumberBack, number-back, moment-back, time-back}
use Rattle.round_elements.specs.inside.Opened.{PairShown, ReportShown, SuiteShown, CaseShown, RunShown, MainShown}
use Rattle.round_elements.proofs.Rows.{words}
use Rattle.round_elements.proofs.Steps.{text_cell}
use Rattle.round_elements.proofs.Places.{Stands, text-shown}

-- ---- the rows, with a first text at x and a second at y
abbrev pub report_filled : ℕ → Report → Row
report_filled x p = record {
  kind = kind.report;
  first = text_cell x p.name;
  out = uuid_front p.uuid;
  err = uuid_back p.uuid;
  timestamp = p.timestamp;
  time = p.time;
  second = of_count p.counts.tests;
  third = of_count p.counts.failures;
  fourth = of_count p.counts.errors;
  fifth = of_count p.counts.skipped;
  sixth = of_number p.counts.disabled;
  seventh = absent;
  is_flaky = false;
}

abbrev pub suite_filled : ℕ → ℕ → TestSuite → Row
suite_filled x y s = record {
  kind = kind.suite;
  first = text_cell x (some s.name);
  out = absent;
  err = absent;
  timestamp = s.timestamp;
  time = s.time;
  second = of_count s.counts.tests;
  third = of_count s.counts.failures;
  fourth = of_count s.counts.errors;
  fifth = of_count s.counts.skipped;
  sixth = of_number s.counts.disabled;
  seventh = text_cell y s.hostname;
  is_flaky = false;
}

abbrev pub case_filled : ℕ → ℕ → TestCase → Row
case_filled x y c = record {
  kind = kind.case;
  first = text_cell x (some c.name);
  out = absent;
  err = absent;
  timestamp = c.timestamp;
  time = c.time;
  second = text_cell y c.classname;
  third = of_number c.assertions;
  fourth = absent;
  fifth = absent;
  sixth = absent;
  seventh = absent;
  is_flaky = false;
}

abbrev pub run_filled : ℕ → ℕ → ℕ → TestRerun → Row
run_filled κ x y e = record {
  kind = κ;
  first = text_cell x e.message;
  out = absent;
  err = absent;
  timestamp = e.timestamp;
  time = e.time;
  second = text_cell y e.type;
  third = absent;
  fourth = absent;
  fifth = absent;
  sixth = absent;
  seventh = absent;
  is_flaky = false;
}

abbrev pub main_filled : ℕ → ℕ → ℕ → Reason → Row
main_filled κ x y m = record {
  kind = κ;
  first = text_cell x m.message;
  out = absent;
  err = absent;
  timestamp = none;
  time = none;
  second = text_cell y m.type;
  third = absent;
  fourth = absent;
  fifth = absent;
  sixth = absent;
  seventh = absent;
  is_flaky = false;
}

abbrev pub pair_filled : ℕ → ℕ → ℕ → Pair → Row
pair_filled κ x y p = record {
  kind = κ;
  first = text_cell x (some p.key);
  out = text_cell y (some p.value);
  err = absent;
  timestamp = none;
  time = none;
  second = absent;
  third = absent;
  fourth = absent;
  fifth = absent;
  sixth = absent;
  seventh = absent;
  is_flaky = false;
}

-- ---- what they show
uuid-shown : (r : List ℕ) (u : Option Words) → has_bit 1 r ≡ is_given (uuid_front u)
    → get_or r 4 0 ≡ first_word 0 (uuid_front u) → get_or r 5 0 ≡ second_word (uuid_front u) → get_or r 6 0 ≡ first_word 0 (uuid_back u) → get_or r 7 0 ≡ second_word (uuid_back u) → uuid r ≡ u
uuid-shown r none b e f g h = rw b refl
uuid-shown r (some u) b e f g h = rw (b, e, f, g, h) refl

counts-shown : (r : List ℕ) (c : Counts) → number_at r 18 ≡ c.tests → number_at r 20 ≡ c.failures
    → number_at r 22 ≡ c.errors → number_at r 24 ≡ c.skipped → NumberBack r 8 26 c.disabled → counts r ≡ c
counts-shown r c t f e s d = λ i. record { tests = t i; failures = f i; errors = e i; skipped = s i; disabled = d.back i }

count : (n : ℕ) → n % 4294967296 + n / 4294967296 * 4294967296 ≡ n
count n = mod-add-div' n 4294967296

pub report-shown : {t : List ℕ} (x : ℕ) (p : Report) → Stands t x p.name → ReportShown t (words (report_filled x p)) p
report-shown {t} x p h =
    let r : List ℕ = words (report_filled x p) in
    let bs : List Bool = presence (report_filled x p) in
    let c : Counts = p.counts in
    record {
      blank = record { long = refl; kind = refl };
      name = text-shown t r 0 2 x p.name (bit-flag 0 bs) refl refl h;
      uuid = uuid-shown r p.uuid (bit-flag 1 bs) refl refl refl refl;
      timestamp = (moment-back r p.timestamp (bit-flag 3 bs) refl refl).back;
      time = (time-back r p.time (bit-flag 4 bs) (refl, refl, refl)).back;
      counts = counts-shown r c (count c.tests) (count c.failures) (count c.errors) (count c.skipped) (number-back 0 r 8 26 c.disabled (bit-flag 8 bs) (refl, refl, refl));
    }

pub suite-shown : {t : List ℕ} (x y : ℕ) (s : TestSuite) → Stands t x (some s.name) → Stands t y s.hostname → SuiteShown t (words (suite_filled x y s)) s
suite-shown {t} x y s h k =
    let r : List ℕ = words (suite_filled x y s) in
    let bs : List Bool = presence (suite_filled x y s) in
    let c : Counts = s.counts in
    record {
      blank = record { long = refl; kind = refl };
      name = h;
      counts = counts-shown r c (count c.tests) (count c.failures) (count c.errors) (count c.skipped) (number-back 0 r 8 26 c.disabled (bit-flag 8 bs) (refl, refl, refl));
      timestamp = (moment-back r s.timestamp (bit-flag 3 bs) refl refl).back;
      time = (time-back r s.time (bit-flag 4 bs) (refl, refl, refl)).back;
      hostname = text-shown t r 10 28 y s.hostname (bit-flag 10 bs) refl refl k;
      out = bit-flag 1 bs;
      err = bit-flag 2 bs;
    }

pub case-shown : {t : List ℕ} (x y : ℕ) (c : TestCase) → Stands t x (some c.name) → Stands t y c.classname → CaseShown t (words (case_filled x y c)) c
case-shown {t} x y c h k =
    let r : List ℕ = words (case_filled x y c) in
    let bs : List Bool = presence (case_filled x y c) in
    record {
      blank = record { long = refl; kind = refl };
      name = h;
      classname = text-shown t r 5 18 y c.classname (bit-flag 5 bs) refl refl k;
      assertions = (number-back 0 r 6 20 c.assertions (bit-flag 6 bs) (refl, refl, refl)).back;
      timestamp = (moment-back r c.timestamp (bit-flag 3 bs) refl refl).back;
      time = (time-back r c.time (bit-flag 4 bs) (refl, refl, refl)).back;
      out = bit-flag 1 bs;
      err = bit-flag 2 bs;
    }

pub run-shown : {t : List ℕ} (x y : ℕ) (family : FlakyOrRerun) (e : TestRerun) → Stands t x e.message
    → Stands t y e.type → RunShown family t (words (run_filled (kind_of_run family e.kind) x y e)) e
run-shown {t} x y family e h k =
    let r : List ℕ = words (run_filled (kind_of_run family e.kind) x y e) in
    let bs : List Bool = presence (run_filled (kind_of_run family e.kind) x y e) in
    record {
      blank = record { long = refl; kind = refl };
      message = text-shown t r 0 2 x e.message (bit-flag 0 bs) refl refl h;
      type = text-shown t r 5 18 y e.type (bit-flag 5 bs) refl refl k;
      timestamp = (moment-back r e.timestamp (bit-flag 3 bs) refl refl).back;
      time = (time-back r e.time (bit-flag 4 bs) (refl, refl, refl)).back;
      out = bit-flag 1 bs;
      err = bit-flag 2 bs;
      description = bit-flag 6 bs;
      stack_trace = bit-flag 7 bs;
    }

pub main-shown : {t : List ℕ} (κ x y : ℕ) (m : Reason) → Stands t x m.message → Stands t y m.type → MainShown κ t (words (main_filled κ x y m)) m
main-shown {t} κ x y m h k =
    let r : List ℕ = words (main_filled κ x y m) in
    let bs : List Bool = presence (main_filled κ x y m) in
    record {
      blank = record { long = refl; kind = refl };
      message = text-shown t r 0 2 x m.message (bit-flag 0 bs) refl refl h;
      type = text-shown t r 5 18 y m.type (bit-flag 5 bs) refl refl k;
      description = bit-flag 6 bs;
      flaky = bit-flag 9 bs;
    }

pub pair-shown : {t : List ℕ} (κ x y : ℕ) (p : Pair) → Stands t x (some p.key) → Stands t y (some p.value) → PairShown κ t (words (pair_filled κ x y p)) p
pair-shown κ x y p h k = record { blank = record { long = refl; kind = refl }; pair = λ z. λ i. record { key = h z i; value = k z i } }
