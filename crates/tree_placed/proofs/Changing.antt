-- A record's texts still stand when one part of it is put anew. Assumes nothing.
use Prim.Native.Nat.{ℕ}
use mathlib.Core.Bool.{Bool}
use mathlib.Core.List.{List}
use mathlib.Core.Option.{Option, some}
use Rattle.tree_put.specs.of_timestamp.declared.Moment.{Moment}
use Rattle.tree_put.specs.of_uuids.declared.Words.{Words}
use Rattle.tree_report.specs.Report.{Text, Duration}
use Rattle.tree_report.specs.inside.Cells.{Cell, written, of_number, of_count, uuid_front, uuid_back}
use Rattle.tree_placed.specs.inside.Placed.{Placed, StandsAt, InTexts}
use Rattle.tree_placed.specs.inside.Changed.{blank_placed, with_kind, with_middle, with_timestamp, with_time, with_second, with_third, with_fourth}
use Rattle.tree_placed.specs.inside.Changed.{with_fifth, with_sixth, with_flaky, on_row, first_text_of, out_text, err_text, second_text_of, third_text, fourth_text, seventh_text}

-- a blank record has no texts that would have to stand anywhere
pub blank-in : (texts : List ℕ) (κ : ℕ) → InTexts texts (blank_placed κ)
blank-in texts κ = record { first = tt; out = tt; err = tt; second = tt; third = tt; fourth = tt; seventh = tt }

module _ {texts : List ℕ} {p : Placed} (h : InTexts texts p) where
  -- ---- a text
  -- the first text put anew, where it stands
  pub first-in : (x : ℕ) (v : Text) → StandsAt texts x (written v) → InTexts texts (first_text_of x v p)
  first-in x v s = record { first = s; out = h.out; err = h.err; second = h.second; third = h.third; fourth = h.fourth; seventh = h.seventh }

  -- standard output put anew, where its text stands
  pub out-in : (x : ℕ) (v : Text) → StandsAt texts x (written v) → InTexts texts (out_text x v p)
  out-in x v s = record { first = h.first; out = s; err = h.err; second = h.second; third = h.third; fourth = h.fourth; seventh = h.seventh }

  -- standard error put anew, where its text stands
  pub err_in : (x : ℕ) (v : Text) → StandsAt texts x (written v) → InTexts texts (err_text x v p)
  err_in x v s = record { first = h.first; out = h.out; err = s; second = h.second; third = h.third; fourth = h.fourth; seventh = h.seventh }

  -- the second text put anew, where it stands
  pub second-in : (x : ℕ) (v : Text) → StandsAt texts x (written v) → InTexts texts (second_text_of x v p)
  second-in x v s = record { first = h.first; out = h.out; err = h.err; second = s; third = h.third; fourth = h.fourth; seventh = h.seventh }

  -- the third text put anew, where it stands
  pub third-in : (x : ℕ) (v : Text) → StandsAt texts x (written v) → InTexts texts (third_text x v p)
  third-in x v s = record { first = h.first; out = h.out; err = h.err; second = h.second; third = s; fourth = h.fourth; seventh = h.seventh }

  -- the fourth text put anew, where it stands
  pub fourth-in : (x : ℕ) (v : Text) → StandsAt texts x (written v) → InTexts texts (fourth_text x v p)
  fourth-in x v s = record { first = h.first; out = h.out; err = h.err; second = h.second; third = h.third; fourth = s; seventh = h.seventh }

  -- the seventh text put anew, where it stands
  pub seventh-in : (x : ℕ) (v : Text) → StandsAt texts x (written v) → InTexts texts (seventh_text x v p)
  seventh-in x v s = record { first = h.first; out = h.out; err = h.err; second = h.second; third = h.third; fourth = h.fourth; seventh = s }

  -- ---- what is no text
  -- the kind put anew
  pub kind-in : (k : ℕ) → InTexts texts (on_row (with_kind k) p)
  kind-in k = record { first = h.first; out = h.out; err = h.err; second = h.second; third = h.third; fourth = h.fourth; seventh = h.seventh }

  -- a timestamp put anew
  pub moment-in : (m : Option Moment) → InTexts texts (on_row (with_timestamp m) p)
  moment-in m = record { first = h.first; out = h.out; err = h.err; second = h.second; third = h.third; fourth = h.fourth; seventh = h.seventh }

  -- a time put anew
  pub time-in : (d : Option Duration) → InTexts texts (on_row (with_time d) p)
  time-in d = record { first = h.first; out = h.out; err = h.err; second = h.second; third = h.third; fourth = h.fourth; seventh = h.seventh }

  -- the fifth cell put anew, which never holds a text
  pub fifth-in : (c : Cell) → InTexts texts (on_row (with_fifth c) p)
  fifth-in c = record { first = h.first; out = h.out; err = h.err; second = h.second; third = h.third; fourth = h.fourth; seventh = h.seventh }

  -- the sixth cell put anew, which never holds a text
  pub sixth-in : (c : Cell) → InTexts texts (on_row (with_sixth c) p)
  sixth-in c = record { first = h.first; out = h.out; err = h.err; second = h.second; third = h.third; fourth = h.fourth; seventh = h.seventh }

  -- the flaky bit put anew
  pub flaky-in : (b : Bool) → InTexts texts (on_row (with_flaky b) p)
  flaky-in b = record { first = h.first; out = h.out; err = h.err; second = h.second; third = h.third; fourth = h.fourth; seventh = h.seventh }

  -- a UUID put anew, in place of the outputs' cells
  pub uuid-in : (w : Words) → InTexts texts (on_row (with_middle (uuid_front (some w)) (uuid_back (some w))) p)
  uuid-in w = record { first = h.first; out = tt; err = tt; second = h.second; third = h.third; fourth = h.fourth; seventh = h.seventh }

  -- a number of assertions put anew
  pub assertions-in : (n : ℕ) → InTexts texts (on_row (with_third (of_number (some n))) p)
  assertions-in n = record { first = h.first; out = h.out; err = h.err; second = h.second; third = tt; fourth = h.fourth; seventh = h.seventh }

  -- a count of tests put anew
  pub tests-in : (n : ℕ) → InTexts texts (on_row (with_second (of_count n)) p)
  tests-in n = record { first = h.first; out = h.out; err = h.err; second = tt; third = h.third; fourth = h.fourth; seventh = h.seventh }

  -- a count of failures put anew
  pub failures-in : (n : ℕ) → InTexts texts (on_row (with_third (of_count n)) p)
  failures-in n = record { first = h.first; out = h.out; err = h.err; second = h.second; third = tt; fourth = h.fourth; seventh = h.seventh }

  -- a count of errors put anew
  pub errors-in : (n : ℕ) → InTexts texts (on_row (with_fourth (of_count n)) p)
  errors-in n = record { first = h.first; out = h.out; err = h.err; second = h.second; third = h.third; fourth = tt; seventh = h.seventh }
