-- The record of a row whose cells name the places of their texts, and what putting does to it. Assumes nothing.
use Prim.Native.Nat.{ℕ}
use mathlib.Core.Bool.{false}
use mathlib.Core.List.{List, [], ◌∷◌}
use mathlib.Core.Option.{Option, none, some}
use mathlib.Core.Path.{◌≡◌, refl, ap, ◌∙◌}
use lib.Dec.{lit≤}
use Rattle.read_machine.specs.of_timestamp.declared.Moment.{Moment}
use Rattle.read_machine.specs.of_uuids.declared.Words.{Words}
use Rattle.read_machine.specs.of_tree_record.Record.{marked}
use Rattle.write_report.specs.of_tree_report.Report.{Duration}
use Rattle.write_report.specs.of_tree_report.inside.Cells.{Cell, absent, valued, first_word, second_word, of_number, of_count, uuid_front, uuid_back, moment_or_zero, time_or_zero, flags_of, Row, presence}
use Rattle.read_machine.specs.of_tree_put.Put.{put_text, put_count_of, put_uuid, put_moment, put_time}
use Rattle.read_machine.proofs.of_read_element.TreeBits.{marked-flags}

abbrev behind : Row → List ℕ
behind r =
    first_word 0 r.first ∷ second_word r.first ∷ first_word 0 r.out ∷ second_word r.out ∷ first_word 0 r.err ∷ second_word r.err
    ∷ (moment_or_zero r.timestamp).year ∷ (moment_or_zero r.timestamp).month ∷ (moment_or_zero r.timestamp).day ∷ (moment_or_zero r.timestamp).hour
    ∷ (moment_or_zero r.timestamp).minute ∷ (moment_or_zero r.timestamp).second ∷ (moment_or_zero r.timestamp).nanos ∷ (moment_or_zero r.timestamp).offset
    ∷ (time_or_zero r.time).seconds ∷ (time_or_zero r.time).nanos
    ∷ first_word 0 r.second ∷ second_word r.second ∷ first_word 0 r.third ∷ second_word r.third ∷ first_word 0 r.fourth ∷ second_word r.fourth
    ∷ first_word 0 r.fifth ∷ second_word r.fifth ∷ first_word 0 r.sixth ∷ second_word r.sixth ∷ first_word 0 r.seventh ∷ second_word r.seventh ∷ 0 ∷ 0 ∷ []

abbrev pub words : Row → List ℕ
words r = r.kind ∷ flags_of (presence r) ∷ behind r

abbrev pub blank_row : ℕ → Row
blank_row κ = record {
  kind = κ;
  first = absent;
  out = absent;
  err = absent;
  timestamp = none;
  time = none;
  second = absent;
  third = absent;
  fourth = absent;
  fifth = absent;
  sixth = absent;
  seventh = absent;
  is_flaky = false;
}

-- ---- a row with one part changed
abbrev pub with_first_of : Cell → Row → Row
with_first_of c r = record {
  kind = r.kind;
  first = c;
  out = r.out;
  err = r.err;
  timestamp = r.timestamp;
  time = r.time;
  second = r.second;
  third = r.third;
  fourth = r.fourth;
  fifth = r.fifth;
  sixth = r.sixth;
  seventh = r.seventh;
  is_flaky = r.is_flaky;
}

abbrev pub with_middle : Cell → Cell → Row → Row
with_middle c d r = record {
  kind = r.kind;
  first = r.first;
  out = c;
  err = d;
  timestamp = r.timestamp;
  time = r.time;
  second = r.second;
  third = r.third;
  fourth = r.fourth;
  fifth = r.fifth;
  sixth = r.sixth;
  seventh = r.seventh;
  is_flaky = r.is_flaky;
}

abbrev pub with_timestamp : Option Moment → Row → Row
with_timestamp m r = record {
  kind = r.kind;
  first = r.first;
  out = r.out;
  err = r.err;
  timestamp = m;
  time = r.time;
  second = r.second;
  third = r.third;
  fourth = r.fourth;
  fifth = r.fifth;
  sixth = r.sixth;
  seventh = r.seventh;
  is_flaky = r.is_flaky;
}

abbrev pub with_time : Option Duration → Row → Row
with_time d r = record {
  kind = r.kind;
  first = r.first;
  out = r.out;
  err = r.err;
  timestamp = r.timestamp;
  time = d;
  second = r.second;
  third = r.third;
  fourth = r.fourth;
  fifth = r.fifth;
  sixth = r.sixth;
  seventh = r.seventh;
  is_flaky = r.is_flaky;
}

abbrev pub with_second : Cell → Row → Row
with_second c r = record {
  kind = r.kind;
  first = r.first;
  out = r.out;
  err = r.err;
  timestamp = r.timestamp;
  time = r.time;
  second = c;
  third = r.third;
  fourth = r.fourth;
  fifth = r.fifth;
  sixth = r.sixth;
  seventh = r.seventh;
  is_flaky = r.is_flaky;
}

abbrev pub with_third : Cell → Row → Row
with_third c r = record {
  kind = r.kind;
  first = r.first;
  out = r.out;
  err = r.err;
  timestamp = r.timestamp;
  time = r.time;
  second = r.second;
  third = c;
  fourth = r.fourth;
  fifth = r.fifth;
  sixth = r.sixth;
  seventh = r.seventh;
  is_flaky = r.is_flaky;
}

abbrev pub with_fourth : Cell → Row → Row
with_fourth c r = record {
  kind = r.kind;
  first = r.first;
  out = r.out;
  err = r.err;
  timestamp = r.timestamp;
  time = r.time;
  second = r.second;
  third = r.third;
  fourth = c;
  fifth = r.fifth;
  sixth = r.sixth;
  seventh = r.seventh;
  is_flaky = r.is_flaky;
}

abbrev pub with_fifth : Cell → Row → Row
with_fifth c r = record {
  kind = r.kind;
  first = r.first;
  out = r.out;
  err = r.err;
  timestamp = r.timestamp;
  time = r.time;
  second = r.second;
  third = r.third;
  fourth = r.fourth;
  fifth = c;
  sixth = r.sixth;
  seventh = r.seventh;
  is_flaky = r.is_flaky;
}

abbrev pub with_sixth : Cell → Row → Row
with_sixth c r = record {
  kind = r.kind;
  first = r.first;
  out = r.out;
  err = r.err;
  timestamp = r.timestamp;
  time = r.time;
  second = r.second;
  third = r.third;
  fourth = r.fourth;
  fifth = r.fifth;
  sixth = c;
  seventh = r.seventh;
  is_flaky = r.is_flaky;
}

abbrev pub with_seventh : Cell → Row → Row
with_seventh c r = record {
  kind = r.kind;
  first = r.first;
  out = r.out;
  err = r.err;
  timestamp = r.timestamp;
  time = r.time;
  second = r.second;
  third = r.third;
  fourth = r.fourth;
  fifth = r.fifth;
  sixth = r.sixth;
  seventh = c;
  is_flaky = r.is_flaky;
}

-- ---- what is put
module _ (r : Row) where
  pub put_first : (x n : ℕ) → put_text 2 0 x n (words r) ≡ words (with_first_of (valued x n) r)
  put_first x n = marked-flags r.kind 0 (presence r) (behind (with_first_of (valued x n) r)) (lit≤ tt) (lit≤ tt)

  pub put-value : (x n : ℕ) → put_text 4 1 x n (words r) ≡ words (with_middle (valued x n) r.err r)
  put-value x n = marked-flags r.kind 1 (presence r) (behind (with_middle (valued x n) r.err r)) (lit≤ tt) (lit≤ tt)

  pub put_second : (x n : ℕ) → put_text 18 5 x n (words r) ≡ words (with_second (valued x n) r)
  put_second x n = marked-flags r.kind 5 (presence r) (behind (with_second (valued x n) r)) (lit≤ tt) (lit≤ tt)

  pub put-seventh : (x n : ℕ) → put_text 28 10 x n (words r) ≡ words (with_seventh (valued x n) r)
  put-seventh x n = marked-flags r.kind 10 (presence r) (behind (with_seventh (valued x n) r)) (lit≤ tt) (lit≤ tt)

  pub put-assertions : (n : ℕ) → marked 6 (put_count_of 20 n (words r)) ≡ words (with_third (of_number (some n)) r)
  put-assertions n = marked-flags r.kind 6 (presence r) (behind (with_third (of_number (some n)) r)) (lit≤ tt) (lit≤ tt)

  pub put-disabled : (n : ℕ) → marked 8 (put_count_of 26 n (words r)) ≡ words (with_sixth (of_number (some n)) r)
  put-disabled n = marked-flags r.kind 8 (presence r) (behind (with_sixth (of_number (some n)) r)) (lit≤ tt) (lit≤ tt)

  pub put-moment : (m : Moment) → put_moment m (words r) ≡ words (with_timestamp (some m) r)
  put-moment m = marked-flags r.kind 3 (presence r) (behind (with_timestamp (some m) r)) (lit≤ tt) (lit≤ tt)

  pub put-time : (d : Duration) → put_time (d.seconds, d.nanos) (words r) ≡ words (with_time (some d) r)
  put-time d = marked-flags r.kind 4 (presence r) (behind (with_time (some d) r)) (lit≤ tt) (lit≤ tt)

  -- words without a presence bit, where no cell had one
  pub put-uuid : (w : Words) → r.err ≡ absent → put_uuid w (words r) ≡ words (with_middle (uuid_front (some w)) (uuid_back (some w)) r)
  put-uuid w e =
      marked-flags r.kind 1 (presence r) (behind (with_middle (uuid_front (some w)) (uuid_back (some w)) r)) (lit≤ tt) (lit≤ tt)
      ∙ ap (λ (c : Cell). r.kind ∷ flags_of (presence (with_middle (valued 0 0) c r)) ∷ behind (with_middle (uuid_front (some w)) (uuid_back (some w)) r)) e

  pub put-tests : (n : ℕ) → r.second ≡ absent → put_count_of 18 n (words r) ≡ words (with_second (of_count n) r)
  put-tests n e = ap (λ (c : Cell). r.kind ∷ flags_of (presence (with_second c r)) ∷ behind (with_second (of_count n) r)) e

  pub put-failures : (n : ℕ) → r.third ≡ absent → put_count_of 20 n (words r) ≡ words (with_third (of_count n) r)
  put-failures n e = ap (λ (c : Cell). r.kind ∷ flags_of (presence (with_third c r)) ∷ behind (with_third (of_count n) r)) e

  pub put-errors : (n : ℕ) → r.fourth ≡ absent → put_count_of 22 n (words r) ≡ words (with_fourth (of_count n) r)
  put-errors n e = ap (λ (c : Cell). r.kind ∷ flags_of (presence (with_fourth c r)) ∷ behind (with_fourth (of_count n) r)) e

  pub put-skipped : (n : ℕ) → put_count_of 24 n (words r) ≡ words (with_fifth (of_count n) r)
  put-skipped n = refl
