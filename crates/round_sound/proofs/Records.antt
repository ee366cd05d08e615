-- The row of a good record fits. Assumes nothing.
use Prim.Native.Nat.{ℕ, zero, suc, ◌+◌, ◌*◌, ◌/◌, ◌%◌, ◌≤◌}
use mathlib.Core.Bool.{Bool, true, false, ◌&&◌, ◌||◌}
use mathlib.Core.List.{List, [], ◌∷◌}
use mathlib.Core.Path.{◌≡◌, refl, sym, ap, ◌∙◌}
use native.Mathlib.Omega.{arith}
use borrow.Author.Tests.{le-leb}
use lib.Dec.{leb}
use lib.ListN.{get_or}
use Rattle.tree_layout.specs.of_timestamp.Timestamp.{in_range}
use Rattle.tree_layout.specs.of_tree_record.Words as word
use Rattle.tree_layout.specs.of_tree_record.Bits as bit
use Rattle.tree_layout.specs.of_tree_report.Report.{FlakyOrRerun, TestSuite, Report}
use Rattle.tree_layout.specs.of_tree_report.Fields.{kind_of, has_bit, given, text_at, number_at, moment_of, first, uuid, timestamp, time, counts}
use Rattle.tree_layout.specs.of_tree_report.Layout.{filled, good_text, zero_at}
use Rattle.tree_layout.specs.of_tree_report.inside.Parts.{good_text_at, slot, text_slot, moment_slot, time_slot, only_bits, report_bits, suite_bits}
use Rattle.tree_layout.specs.of_tree_report.inside.Parts.{case_bits, bits_for, good_common, good_outputs, disabled_slot, good_counts, good_host, good_report, good_suite, good_case, good_other}
use Rattle.tree_layout.specs.of_tree_report.ReportOf.{Branch, pair_of, reason_of, run_of, case_of, suite_of}
use Rattle.tree_layout.specs.of_tree_report.inside.Cells.{Row, written, of_text, of_number, of_count, uuid_front, uuid_back, fits_cell, fits_moment, fits_time, fits_row}
use Rattle.tree_layout.specs.of_tree_report.inside.Cells.{pair_row_of, main_row, run_row, case_row, suite_row, report_row}
use Rattle.tree_layout.proofs.of_tree_report.ByTable.{report-good, suite-good, case-good}
use Rattle.tree_layout.proofs.of_tree_report.EncodeLists.{both, and_left, and_right}
use Rattle.round_elements.proofs.Fits.{Fitting}
use Rattle.round_sound.proofs.Texts.{text-fits}

-- tests in a row, all of which pass
abbrev conjunction : List Bool → Bool → Bool
conjunction [] t = t
conjunction (b ∷ bs) t = b && conjunction bs t

passes : (bs : List Bool) (t : Bool) → conjunction bs t ≡ true → (i : ℕ) → get_or bs i true ≡ true
passes [] t e i = refl
passes (b ∷ bs) t e zero = and_left b (conjunction bs t) e
passes (b ∷ bs) t e (suc i) = passes bs t (and_right b (conjunction bs t) e) i

last-passes : (bs : List Bool) (t : Bool) → conjunction bs t ≡ true → t ≡ true
last-passes [] t e = e
last-passes (b ∷ bs) t e = last-passes bs t (and_right b (conjunction bs t) e)

fits-row : (r : Row) → Fitting r → fits_row r ≡ true
unfolding fits_row
fits-row r f =
    both (both f.first (both f.out (both f.err (both f.second (both f.third (both f.fourth (both f.fifth (both f.sixth (both f.seventh refl)))))))))
    (both f.timestamp f.time)

-- ---- words of 32 bits
abbrev pub Narrow : List ℕ → Type 0
Narrow r = (i : ℕ) → get_or r i 0 ≤ 4294967295

module _ (r : List ℕ) (n : Narrow r) where
  words-fit : (o p : ℕ) → (leb (get_or r o 0) 4294967295 && leb (get_or r p 0) 4294967295) ≡ true
  words-fit o p = both (le-leb (get_or r o 0) 4294967295 (n o)) (le-leb (get_or r p 0) 4294967295 (n p))

  count_fits : (o : ℕ) → fits_cell (of_count (number_at r o)) ≡ true
  count_fits o =
      let a : ℕ = get_or r o 0 in
      let b : ℕ = get_or r (o + 1) 0 in
      let h : a ≤ 4294967295 = n o in
      let k : b ≤ 4294967295 = n (o + 1) in
      both (le-leb ((a + b * 4294967296) % 4294967296) 4294967295 (omega arith)) (le-leb ((a + b * 4294967296) / 4294967296) 4294967295 (omega arith))

  number_fits : (k o : ℕ) → fits_cell (of_number (given (has_bit k r) (number_at r o))) ≡ true
  number_fits k o = go (has_bit k r)
    where
      go : (b : Bool) → fits_cell (of_number (given b (number_at r o))) ≡ true
      go true = count_fits o
      go false = refl

  uuid-fits : (fits_cell (uuid_front (uuid r)) ≡ true) × (fits_cell (uuid_back (uuid r)) ≡ true)
  uuid-fits = go (has_bit bit.uuid r)
    where
      go : (b : Bool)
          → (fits_cell (uuid_front (given b (record { a = get_or r 4 0; b = get_or r 5 0; c = get_or r 6 0; d = get_or r 7 0 }))) ≡ true)
          × (fits_cell (uuid_back (given b (record { a = get_or r 4 0; b = get_or r 5 0; c = get_or r 6 0; d = get_or r 7 0 }))) ≡ true)
      go true = (words-fit 4 5, words-fit 6 7)
      go false = (refl, refl)

-- ---- slots
module _ (r : List ℕ) where
  moment-fits : moment_slot r ≡ true → fits_moment (timestamp r) ≡ true
  moment-fits = go (has_bit bit.timestamp r)
    where
      go : (b : Bool) → slot b (in_range (moment_of r)) (zero_at r 8 8) ≡ true → fits_moment (given b (moment_of r)) ≡ true
      go true e = e
      go false e = refl

  time-fits : time_slot r ≡ true → fits_time (time r) ≡ true
  time-fits = go (has_bit bit.time r)
    where
      go : (b : Bool) → slot b (leb (get_or r 16 0) 8388607 && leb (get_or r 17 0) 999999999) (zero_at r 16 2) ≡ true → fits_time (given b (record { seconds = get_or r 16 0; nanos = get_or r 17 0 })) ≡ true
      go true e = e
      go false e = refl

module _ (text : List ℕ) (good : good_text text ≡ true) (r : List ℕ) where
  abbrev texts : List ℕ
  texts = filled text

  text-cell : (k o : ℕ) → text_slot texts r k o ≡ true → fits_cell (of_text (given (has_bit k r) (text_at text r o))) ≡ true
  text-cell k o = go (has_bit k r)
    where
      go : (b : Bool) → slot b (good_text_at texts r o) (zero_at r o 2) ≡ true → fits_cell (of_text (given b (text_at text r o))) ≡ true
      go true e = text-fits text good r o e
      go false e = refl

  name-cell : (k o : ℕ) → has_bit k r ≡ true → text_slot texts r k o ≡ true → fits_cell (written (text_at text r o)) ≡ true
  name-cell k o h e = text-fits text good r o (sym (ap (λ (b : Bool). slot b (good_text_at texts r o) (zero_at r o 2)) h) ∙ e)

  record Common : Type 0 where
    first : text_slot texts r bit.name word.name ≡ true
    moment : fits_moment (timestamp r) ≡ true
    time : fits_time (time r) ≡ true

  common : good_common texts r ≡ true → Common
  unfolding good_common
  common e =
      let times : Bool = moment_slot r && time_slot r in
      let t : times ≡ true = and_right (text_slot texts r bit.name word.name) times e in
      record {
        first = and_left (text_slot texts r bit.name word.name) times e;
        moment = moment-fits r (and_left (moment_slot r) (time_slot r) t);
        time = time-fits r (and_right (moment_slot r) (time_slot r) t);
      }

  outputs : good_outputs texts r ≡ true → (text_slot texts r bit.out word.out ≡ true) × (text_slot texts r bit.err word.err ≡ true)
  unfolding good_outputs
  outputs e =
      (and_left (text_slot texts r bit.out word.out) (text_slot texts r bit.err word.err) e, and_right (text_slot texts r bit.out word.out) (text_slot texts r bit.err word.err) e)

  hosted : good_host texts r ≡ true → text_slot texts r bit.hostname word.hostname ≡ true
  unfolding good_host
  hosted e =
      let own : Bool = text_slot texts r bit.hostname word.hostname in
      and_left own (zero_at r 30 2) (and_right (disabled_slot r) (own && zero_at r 30 2) e)

  -- ---- the report, a suite, a case
  pub report-row : Narrow r → good_report texts r ≡ true → (suites : List TestSuite)
      → fits_row (report_row (record { name = first text r; uuid = uuid r; timestamp = timestamp r; time = time r; counts = counts r; suites = suites })) ≡ true
  report-row n e suites =
      let p : Report = record { name = first text r; uuid = uuid r; timestamp = timestamp r; time = time r; counts = counts r; suites = suites } in
      let g = passes (only_bits report_bits r ∷ good_common texts r ∷ []) (slot (has_bit bit.uuid r) true (zero_at r word.uuid 4) && good_counts r) (sym (report-good texts r) ∙ e) in
      let c = common (g 1) in
      fits-row (report_row p)
      (record {
        first = text-cell bit.name word.name c.first;
        out = (uuid-fits r n).0;
        err = (uuid-fits r n).1;
        second = count_fits r n word.tests;
        third = count_fits r n word.failures;
        fourth = count_fits r n word.errors;
        fifth = count_fits r n word.skipped;
        sixth = number_fits r n bit.disabled word.disabled;
        seventh = refl;
        timestamp = c.moment;
        time = c.time;
      })

  pub suite-row : Narrow r → good_suite texts r ≡ true → (rs : List (List ℕ)) → fits_row (suite_row (suite_of text (record { head = r; below = rs }))) ≡ true
  suite-row n e rs =
      let b : Branch = record { head = r; below = rs } in
      let tests : List Bool = only_bits suite_bits r ∷ has_bit bit.name r ∷ good_common texts r ∷ good_outputs texts r ∷ [] in
      let whole = sym (suite-good texts r) ∙ e in
      let g = passes tests (good_host texts r) whole in
      let c = common (g 2) in
      let o = outputs (g 3) in
      fits-row (suite_row (suite_of text b))
      (record {
        first = name-cell bit.name word.name (g 1) c.first;
        out = text-cell bit.out word.out o.0;
        err = text-cell bit.err word.err o.1;
        second = count_fits r n word.tests;
        third = count_fits r n word.failures;
        fourth = count_fits r n word.errors;
        fifth = count_fits r n word.skipped;
        sixth = number_fits r n bit.disabled word.disabled;
        seventh = text-cell bit.hostname word.hostname (hosted (last-passes tests (good_host texts r) whole));
        timestamp = c.moment;
        time = c.time;
      })

  pub case-row : Narrow r → good_case texts r ≡ true → (rs : List (List ℕ)) → fits_row (case_row (case_of text (record { head = r; below = rs }))) ≡ true
  case-row n e rs =
      let b : Branch = record { head = r; below = rs } in
      let counted : Bool = slot (has_bit bit.assertions r) true (zero_at r word.assertions 2) && zero_at r 22 10 in
      let g = passes (only_bits case_bits r ∷ has_bit bit.name r ∷ good_common texts r ∷ good_outputs texts r ∷ text_slot texts r bit.classname word.classname ∷ []) counted
      (sym (case-good texts r) ∙ e) in
      let c = common (g 2) in
      let o = outputs (g 3) in
      fits-row (case_row (case_of text b))
      (record {
        first = name-cell bit.name word.name (g 1) c.first;
        out = text-cell bit.out word.out o.0;
        err = text-cell bit.err word.err o.1;
        second = text-cell bit.classname word.classname (g 4);
        third = number_fits r n bit.assertions word.assertions;
        fourth = refl;
        fifth = refl;
        sixth = refl;
        seventh = refl;
        timestamp = c.moment;
        time = c.time;
      })

  -- ---- pairs and status elements
  record Other : Type 0 where
    paired : ((leb 6 (kind_of r) && leb (kind_of r) 12) || (has_bit bit.name r && has_bit bit.value r)) ≡ true
    common : Common
    out : text_slot texts r bit.out word.out ≡ true
    err : text_slot texts r bit.err word.err ≡ true
    type : text_slot texts r bit.type word.type ≡ true
    description : text_slot texts r bit.description word.description ≡ true
    stack_trace : text_slot texts r bit.stack_trace word.stack_trace ≡ true

  other : good_other texts r ≡ true → Other
  unfolding good_other
  other e =
      let pairs : Bool = (leb 6 (kind_of r) && leb (kind_of r) 12) || (has_bit bit.name r && has_bit bit.value r) in
      let late : List Bool = text_slot texts r bit.type word.type ∷ text_slot texts r bit.description word.description ∷ text_slot texts r bit.stack_trace word.stack_trace ∷ [] in
      let g = passes (only_bits (bits_for (kind_of r)) r ∷ pairs ∷ good_common texts r ∷ good_outputs texts r ∷ late) (zero_at r 24 8) e in
      let o = outputs (g 3) in
      record { paired = g 1; common = common (g 2); out = o.0; err = o.1; type = g 4; description = g 5; stack_trace = g 6 }

  pub pair_row : (leb 6 (kind_of r) && leb (kind_of r) 12) ≡ false → good_other texts r ≡ true → (k : ℕ) → fits_row (pair_row_of k (pair_of text r)) ≡ true
  pair_row h e k =
      let c = other e in
      let p : (has_bit bit.name r && has_bit bit.value r) ≡ true = sym (ap (λ (b : Bool). b || (has_bit bit.name r && has_bit bit.value r)) h) ∙ c.paired in
      fits-row (pair_row_of k (pair_of text r))
      (record {
        first = name-cell bit.name word.name (and_left (has_bit bit.name r) (has_bit bit.value r) p) c.common.first;
        out = name-cell bit.value word.value (and_right (has_bit bit.name r) (has_bit bit.value r) p) c.out;
        err = refl;
        second = refl;
        third = refl;
        fourth = refl;
        fifth = refl;
        sixth = refl;
        seventh = refl;
        timestamp = refl;
        time = refl;
      })

  pub main-row : good_other texts r ≡ true → (k : ℕ) (is_flaky : Bool) → fits_row (main_row k is_flaky (reason_of text r)) ≡ true
  main-row e k is_flaky =
      let c = other e in
      fits-row (main_row k is_flaky (reason_of text r))
      (record {
        first = text-cell bit.message word.message c.common.first;
        out = refl;
        err = refl;
        second = text-cell bit.type word.type c.type;
        third = text-cell bit.description word.description c.description;
        fourth = refl;
        fifth = refl;
        sixth = refl;
        seventh = refl;
        timestamp = refl;
        time = refl;
      })

  pub run-row : good_other texts r ≡ true → (family : FlakyOrRerun) → fits_row (run_row family (run_of text r)) ≡ true
  run-row e family =
      let c = other e in
      fits-row (run_row family (run_of text r))
      (record {
        first = text-cell bit.message word.message c.common.first;
        out = text-cell bit.out word.out c.out;
        err = text-cell bit.err word.err c.err;
        second = text-cell bit.type word.type c.type;
        third = text-cell bit.description word.description c.description;
        fourth = text-cell bit.stack_trace word.stack_trace c.stack_trace;
        fifth = refl;
        sixth = refl;
        seventh = refl;
        timestamp = c.common.moment;
        time = c.common.time;
      })
