-- A row with one part changed fits where the part does. Assumes nothing.
use Prim.Native.Nat.{ℕ, ◌≤◌}
use mathlib.Core.Bool.{true, ◌&&◌}
use mathlib.Core.List.{List, [], ◌∷◌}
use mathlib.Core.Option.{Option, some}
use mathlib.Core.Path.{◌≡◌, refl}
use native.Mathlib.Omega.{arith}
use borrow.Author.Tests.{leb-true, le-leb}
use lib.Dec.{leb}
use Rattle.tree_placed.specs.of_timestamp.declared.Moment.{Moment}
use Rattle.tree_placed.specs.of_utf8.Utf8.{utf8}
use Rattle.tree_placed.specs.of_text_filter.Filter.{unfiltered}
use Rattle.tree_placed.specs.of_tree_report.Report.{Text, Duration}
use Rattle.tree_placed.specs.of_tree_report.inside.Cells.{Cell, written, low_word, high_word, of_number, of_count, Row, every, fits_cell, fits_moment, fits_time, fits_row}
use Rattle.tree_placed.proofs.of_tree_report.EncodeLists.{both, and_left, and_right}
use Rattle.tree_placed.specs.inside.Changed.{with_first_of, with_out, with_err, with_middle, with_timestamp, with_time, with_second, with_third, with_fourth, with_fifth, with_sixth, with_seventh}
use Rattle.build_draft.specs.declared.TextField.{TextField}
use Rattle.build_draft.specs.declared.TextField.TheVariants as field
use Rattle.build_report.proofs.Becoming.{with_text}

-- each part of a row fits
pub record Fits (r : Row) : Type 0 where
  pub first : fits_cell r.first ≡ true
  pub out : fits_cell r.out ≡ true
  pub err : fits_cell r.err ≡ true
  pub second : fits_cell r.second ≡ true
  pub third : fits_cell r.third ≡ true
  pub fourth : fits_cell r.fourth ≡ true
  pub fifth : fits_cell r.fifth ≡ true
  pub sixth : fits_cell r.sixth ≡ true
  pub seventh : fits_cell r.seventh ≡ true
  pub timestamp : fits_moment r.timestamp ≡ true
  pub time : fits_time r.time ≡ true

pub parts-fit : (r : Row) → fits_row r ≡ true → Fits r
unfolding fits_row
parts-fit r e =
    let cells : List Cell = r.first ∷ r.out ∷ r.err ∷ r.second ∷ r.third ∷ r.fourth ∷ r.fifth ∷ r.sixth ∷ r.seventh ∷ [] in
    let c0 = and_left (every fits_cell cells) (fits_moment r.timestamp && fits_time r.time) e in
    let t = and_right (every fits_cell cells) (fits_moment r.timestamp && fits_time r.time) e in
    let c1 = and_right (fits_cell r.first) (every fits_cell (r.out ∷ r.err ∷ r.second ∷ r.third ∷ r.fourth ∷ r.fifth ∷ r.sixth ∷ r.seventh ∷ [])) c0 in
    let c2 = and_right (fits_cell r.out) (every fits_cell (r.err ∷ r.second ∷ r.third ∷ r.fourth ∷ r.fifth ∷ r.sixth ∷ r.seventh ∷ [])) c1 in
    let c3 = and_right (fits_cell r.err) (every fits_cell (r.second ∷ r.third ∷ r.fourth ∷ r.fifth ∷ r.sixth ∷ r.seventh ∷ [])) c2 in
    let c4 = and_right (fits_cell r.second) (every fits_cell (r.third ∷ r.fourth ∷ r.fifth ∷ r.sixth ∷ r.seventh ∷ [])) c3 in
    let c5 = and_right (fits_cell r.third) (every fits_cell (r.fourth ∷ r.fifth ∷ r.sixth ∷ r.seventh ∷ [])) c4 in
    let c6 = and_right (fits_cell r.fourth) (every fits_cell (r.fifth ∷ r.sixth ∷ r.seventh ∷ [])) c5 in
    let c7 = and_right (fits_cell r.fifth) (every fits_cell (r.sixth ∷ r.seventh ∷ [])) c6 in
    let c8 = and_right (fits_cell r.sixth) (every fits_cell (r.seventh ∷ [])) c7 in
    record {
      first = and_left (fits_cell r.first) (every fits_cell (r.out ∷ r.err ∷ r.second ∷ r.third ∷ r.fourth ∷ r.fifth ∷ r.sixth ∷ r.seventh ∷ [])) c0;
      out = and_left (fits_cell r.out) (every fits_cell (r.err ∷ r.second ∷ r.third ∷ r.fourth ∷ r.fifth ∷ r.sixth ∷ r.seventh ∷ [])) c1;
      err = and_left (fits_cell r.err) (every fits_cell (r.second ∷ r.third ∷ r.fourth ∷ r.fifth ∷ r.sixth ∷ r.seventh ∷ [])) c2;
      second = and_left (fits_cell r.second) (every fits_cell (r.third ∷ r.fourth ∷ r.fifth ∷ r.sixth ∷ r.seventh ∷ [])) c3;
      third = and_left (fits_cell r.third) (every fits_cell (r.fourth ∷ r.fifth ∷ r.sixth ∷ r.seventh ∷ [])) c4;
      fourth = and_left (fits_cell r.fourth) (every fits_cell (r.fifth ∷ r.sixth ∷ r.seventh ∷ [])) c5;
      fifth = and_left (fits_cell r.fifth) (every fits_cell (r.sixth ∷ r.seventh ∷ [])) c6;
      sixth = and_left (fits_cell r.sixth) (every fits_cell (r.seventh ∷ [])) c7;
      seventh = and_left (fits_cell r.seventh) true c8;
      timestamp = and_left (fits_moment r.timestamp) (fits_time r.time) t;
      time = and_right (fits_moment r.timestamp) (fits_time r.time) t;
    }

pub whole-fits : {r : Row} → Fits r → fits_row r ≡ true
unfolding fits_row
whole-fits f =
    both (both f.first (both f.out (both f.err (both f.second (both f.third (both f.fourth (both f.fifth (both f.sixth (both f.seventh refl)))))))))
    (both f.timestamp f.time)

module _ (r : Row) (e : fits_row r ≡ true) where
  pub moment-fits : (m : Option Moment) → fits_moment m ≡ true → fits_row (with_timestamp m r) ≡ true
  moment-fits m h = let f = parts-fit r e in
      whole-fits (record {
        first = f.first;
        out = f.out;
        err = f.err;
        second = f.second;
        third = f.third;
        fourth = f.fourth;
        fifth = f.fifth;
        sixth = f.sixth;
        seventh = f.seventh;
        timestamp = h;
        time = f.time;
      })

  pub time-fits : (d : Option Duration) → fits_time d ≡ true → fits_row (with_time d r) ≡ true
  time-fits d h = let f = parts-fit r e in whole-fits (record {
    first = f.first;
    out = f.out;
    err = f.err;
    second = f.second;
    third = f.third;
    fourth = f.fourth;
    fifth = f.fifth;
    sixth = f.sixth;
    seventh = f.seventh;
    timestamp = f.timestamp;
    time = h;
  })

  -- both cells of a UUID
  pub middle-fits : (c d : Cell) → fits_cell c ≡ true → fits_cell d ≡ true → fits_row (with_middle c d r) ≡ true
  middle-fits c d h k = let f = parts-fit r e in whole-fits (record {
    first = f.first;
    out = h;
    err = k;
    second = f.second;
    third = f.third;
    fourth = f.fourth;
    fifth = f.fifth;
    sixth = f.sixth;
    seventh = f.seventh;
    timestamp = f.timestamp;
    time = f.time;
  })

  module _ (c : Cell) (h : fits_cell c ≡ true) where
    pub first_fits : fits_row (with_first_of c r) ≡ true
    first_fits = let f = parts-fit r e in whole-fits (record {
      first = h;
      out = f.out;
      err = f.err;
      second = f.second;
      third = f.third;
      fourth = f.fourth;
      fifth = f.fifth;
      sixth = f.sixth;
      seventh = f.seventh;
      timestamp = f.timestamp;
      time = f.time;
    })

    pub out-fits : fits_row (with_out c r) ≡ true
    out-fits = let f = parts-fit r e in whole-fits (record {
      first = f.first;
      out = h;
      err = f.err;
      second = f.second;
      third = f.third;
      fourth = f.fourth;
      fifth = f.fifth;
      sixth = f.sixth;
      seventh = f.seventh;
      timestamp = f.timestamp;
      time = f.time;
    })

    pub err-fits : fits_row (with_err c r) ≡ true
    err-fits = let f = parts-fit r e in whole-fits (record {
      first = f.first;
      out = f.out;
      err = h;
      second = f.second;
      third = f.third;
      fourth = f.fourth;
      fifth = f.fifth;
      sixth = f.sixth;
      seventh = f.seventh;
      timestamp = f.timestamp;
      time = f.time;
    })

    pub second_fits : fits_row (with_second c r) ≡ true
    second_fits = let f = parts-fit r e in whole-fits (record {
      first = f.first;
      out = f.out;
      err = f.err;
      second = h;
      third = f.third;
      fourth = f.fourth;
      fifth = f.fifth;
      sixth = f.sixth;
      seventh = f.seventh;
      timestamp = f.timestamp;
      time = f.time;
    })

    pub third-fits : fits_row (with_third c r) ≡ true
    third-fits = let f = parts-fit r e in whole-fits (record {
      first = f.first;
      out = f.out;
      err = f.err;
      second = f.second;
      third = h;
      fourth = f.fourth;
      fifth = f.fifth;
      sixth = f.sixth;
      seventh = f.seventh;
      timestamp = f.timestamp;
      time = f.time;
    })

    pub fourth-fits : fits_row (with_fourth c r) ≡ true
    fourth-fits = let f = parts-fit r e in whole-fits (record {
      first = f.first;
      out = f.out;
      err = f.err;
      second = f.second;
      third = f.third;
      fourth = h;
      fifth = f.fifth;
      sixth = f.sixth;
      seventh = f.seventh;
      timestamp = f.timestamp;
      time = f.time;
    })

    pub fifth-fits : fits_row (with_fifth c r) ≡ true
    fifth-fits = let f = parts-fit r e in whole-fits (record {
      first = f.first;
      out = f.out;
      err = f.err;
      second = f.second;
      third = f.third;
      fourth = f.fourth;
      fifth = h;
      sixth = f.sixth;
      seventh = f.seventh;
      timestamp = f.timestamp;
      time = f.time;
    })

    pub sixth-fits : fits_row (with_sixth c r) ≡ true
    sixth-fits = let f = parts-fit r e in whole-fits (record {
      first = f.first;
      out = f.out;
      err = f.err;
      second = f.second;
      third = f.third;
      fourth = f.fourth;
      fifth = f.fifth;
      sixth = h;
      seventh = f.seventh;
      timestamp = f.timestamp;
      time = f.time;
    })

    pub seventh-fits : fits_row (with_seventh c r) ≡ true
    seventh-fits = let f = parts-fit r e in whole-fits (record {
      first = f.first;
      out = f.out;
      err = f.err;
      second = f.second;
      third = f.third;
      fourth = f.fourth;
      fifth = f.fifth;
      sixth = f.sixth;
      seventh = h;
      timestamp = f.timestamp;
      time = f.time;
    })

  -- a text
  pub text-fits : (f : TextField) (v : Text) → utf8 v ≡ true → unfiltered v ≡ true → fits_row (with_text f v r) ≡ true
  text-fits field.Classname v u c = second_fits (written v) (both u c)
  text-fits field.Message v u c = first_fits (written v) (both u c)
  text-fits field.Ty v u c = second_fits (written v) (both u c)
  text-fits field.Description v u c = third-fits (written v) (both u c)
  text-fits field.StackTrace v u c = fourth-fits (written v) (both u c)
  text-fits field.SystemOut v u c = out-fits (written v) (both u c)
  text-fits field.SystemErr v u c = err-fits (written v) (both u c)
  text-fits field.Hostname v u c = seventh-fits (written v) (both u c)

-- ---- numbers of 64 bits, in two words
module _ (n : ℕ) (e : leb n 18446744073709551615 ≡ true) where
  words-fit : (leb (low_word n) 4294967295 && leb (high_word n) 4294967295) ≡ true
  words-fit =
      let l : n ≤ 18446744073709551615 = leb-true n 18446744073709551615 e in
      both (le-leb (low_word n) 4294967295 (omega arith)) (le-leb (high_word n) 4294967295 (omega arith))

  pub number_fits : fits_cell (of_number (some n)) ≡ true
  number_fits = words-fit

  pub count_fits : fits_cell (of_count n) ≡ true
  count_fits = words-fit
