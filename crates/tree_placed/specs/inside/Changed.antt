-- A placed record with one part changed. Definitions only.
use Rattle.std.specs.Prelude.{ℕ, Bool, false}
use Rattle.std.proofs.Math.Option.{Option, none}
use Rattle.tree_put.specs.of_timestamp.declared.Moment.{Moment}
use Rattle.tree_report.specs.Report.{Text, Duration}
use Rattle.tree_report.specs.inside.Cells.{Cell, absent, written, Row}
use Rattle.tree_placed.specs.inside.Placed.{Places, Placed}

-- ---- a record of a kind with nothing in it
abbrev pub blank_places : Places
blank_places = record { first = 0; out = 0; err = 0; second = 0; third = 0; fourth = 0; seventh = 0 }

abbrev pub blank_row : ℕ → Row
blank_row κ = record {
  kind = κ;
  first = absent;
  out = absent;
  err = absent;
  timestamp = none;
  time = none;
  second = absent;
  third = absent;
  fourth = absent;
  fifth = absent;
  sixth = absent;
  seventh = absent;
  is_flaky = false;
}

abbrev pub blank_placed : ℕ → Placed
blank_placed κ = record { places = blank_places; row = blank_row κ }

-- ---- where one text starts
abbrev pub at_first_of : ℕ → Places → Places
at_first_of x q = record { first = x; out = q.out; err = q.err; second = q.second; third = q.third; fourth = q.fourth; seventh = q.seventh }

abbrev pub at_out : ℕ → Places → Places
at_out x q = record { first = q.first; out = x; err = q.err; second = q.second; third = q.third; fourth = q.fourth; seventh = q.seventh }

abbrev pub at_err : ℕ → Places → Places
at_err x q = record { first = q.first; out = q.out; err = x; second = q.second; third = q.third; fourth = q.fourth; seventh = q.seventh }

abbrev pub at_second : ℕ → Places → Places
at_second x q = record { first = q.first; out = q.out; err = q.err; second = x; third = q.third; fourth = q.fourth; seventh = q.seventh }

abbrev pub at_third : ℕ → Places → Places
at_third x q = record { first = q.first; out = q.out; err = q.err; second = q.second; third = x; fourth = q.fourth; seventh = q.seventh }

abbrev pub at_fourth : ℕ → Places → Places
at_fourth x q = record { first = q.first; out = q.out; err = q.err; second = q.second; third = q.third; fourth = x; seventh = q.seventh }

abbrev pub at_seventh : ℕ → Places → Places
at_seventh x q = record { first = q.first; out = q.out; err = q.err; second = q.second; third = q.third; fourth = q.fourth; seventh = x }

-- ---- one part of a row
abbrev pub with_kind : ℕ → Row → Row
with_kind k r = record {
  kind = k;
  first = r.first;
  out = r.out;
  err = r.err;
  timestamp = r.timestamp;
  time = r.time;
  second = r.second;
  third = r.third;
  fourth = r.fourth;
  fifth = r.fifth;
  sixth = r.sixth;
  seventh = r.seventh;
  is_flaky = r.is_flaky;
}

abbrev pub with_first_of : Cell → Row → Row
with_first_of c r = record {
  kind = r.kind;
  first = c;
  out = r.out;
  err = r.err;
  timestamp = r.timestamp;
  time = r.time;
  second = r.second;
  third = r.third;
  fourth = r.fourth;
  fifth = r.fifth;
  sixth = r.sixth;
  seventh = r.seventh;
  is_flaky = r.is_flaky;
}

abbrev pub with_out : Cell → Row → Row
with_out c r = record {
  kind = r.kind;
  first = r.first;
  out = c;
  err = r.err;
  timestamp = r.timestamp;
  time = r.time;
  second = r.second;
  third = r.third;
  fourth = r.fourth;
  fifth = r.fifth;
  sixth = r.sixth;
  seventh = r.seventh;
  is_flaky = r.is_flaky;
}

abbrev pub with_err : Cell → Row → Row
with_err c r = record {
  kind = r.kind;
  first = r.first;
  out = r.out;
  err = c;
  timestamp = r.timestamp;
  time = r.time;
  second = r.second;
  third = r.third;
  fourth = r.fourth;
  fifth = r.fifth;
  sixth = r.sixth;
  seventh = r.seventh;
  is_flaky = r.is_flaky;
}

abbrev pub with_timestamp : Option Moment → Row → Row
with_timestamp m r = record {
  kind = r.kind;
  first = r.first;
  out = r.out;
  err = r.err;
  timestamp = m;
  time = r.time;
  second = r.second;
  third = r.third;
  fourth = r.fourth;
  fifth = r.fifth;
  sixth = r.sixth;
  seventh = r.seventh;
  is_flaky = r.is_flaky;
}

abbrev pub with_time : Option Duration → Row → Row
with_time d r = record {
  kind = r.kind;
  first = r.first;
  out = r.out;
  err = r.err;
  timestamp = r.timestamp;
  time = d;
  second = r.second;
  third = r.third;
  fourth = r.fourth;
  fifth = r.fifth;
  sixth = r.sixth;
  seventh = r.seventh;
  is_flaky = r.is_flaky;
}

abbrev pub with_second : Cell → Row → Row
with_second c r = record {
  kind = r.kind;
  first = r.first;
  out = r.out;
  err = r.err;
  timestamp = r.timestamp;
  time = r.time;
  second = c;
  third = r.third;
  fourth = r.fourth;
  fifth = r.fifth;
  sixth = r.sixth;
  seventh = r.seventh;
  is_flaky = r.is_flaky;
}

abbrev pub with_third : Cell → Row → Row
with_third c r = record {
  kind = r.kind;
  first = r.first;
  out = r.out;
  err = r.err;
  timestamp = r.timestamp;
  time = r.time;
  second = r.second;
  third = c;
  fourth = r.fourth;
  fifth = r.fifth;
  sixth = r.sixth;
  seventh = r.seventh;
  is_flaky = r.is_flaky;
}

abbrev pub with_fourth : Cell → Row → Row
with_fourth c r = record {
  kind = r.kind;
  first = r.first;
  out = r.out;
  err = r.err;
  timestamp = r.timestamp;
  time = r.time;
  second = r.second;
  third = r.third;
  fourth = c;
  fifth = r.fifth;
  sixth = r.sixth;
  seventh = r.seventh;
  is_flaky = r.is_flaky;
}

abbrev pub with_fifth : Cell → Row → Row
with_fifth c r = record {
  kind = r.kind;
  first = r.first;
  out = r.out;
  err = r.err;
  timestamp = r.timestamp;
  time = r.time;
  second = r.second;
  third = r.third;
  fourth = r.fourth;
  fifth = c;
  sixth = r.sixth;
  seventh = r.seventh;
  is_flaky = r.is_flaky;
}

abbrev pub with_sixth : Cell → Row → Row
with_sixth c r = record {
  kind = r.kind;
  first = r.first;
  out = r.out;
  err = r.err;
  timestamp = r.timestamp;
  time = r.time;
  second = r.second;
  third = r.third;
  fourth = r.fourth;
  fifth = r.fifth;
  sixth = c;
  seventh = r.seventh;
  is_flaky = r.is_flaky;
}

abbrev pub with_seventh : Cell → Row → Row
with_seventh c r = record {
  kind = r.kind;
  first = r.first;
  out = r.out;
  err = r.err;
  timestamp = r.timestamp;
  time = r.time;
  second = r.second;
  third = r.third;
  fourth = r.fourth;
  fifth = r.fifth;
  sixth = r.sixth;
  seventh = c;
  is_flaky = r.is_flaky;
}

abbrev pub with_flaky : Bool → Row → Row
with_flaky b r = record {
  kind = r.kind;
  first = r.first;
  out = r.out;
  err = r.err;
  timestamp = r.timestamp;
  time = r.time;
  second = r.second;
  third = r.third;
  fourth = r.fourth;
  fifth = r.fifth;
  sixth = r.sixth;
  seventh = r.seventh;
  is_flaky = b;
}

-- a UUID's two cells
abbrev pub with_middle : Cell → Cell → Row → Row
with_middle c d r = with_err d (with_out c r)

-- ---- of a placed record
abbrev pub on_row : (Row → Row) → Placed → Placed
on_row f p = record { places = p.places; row = f p.row }

-- a text v that stands at x

abbrev pub first_text_of : ℕ → Text → Placed → Placed
first_text_of x v p = record { places = at_first_of x p.places; row = with_first_of (written v) p.row }

abbrev pub out_text : ℕ → Text → Placed → Placed
out_text x v p = record { places = at_out x p.places; row = with_out (written v) p.row }

abbrev pub err_text : ℕ → Text → Placed → Placed
err_text x v p = record { places = at_err x p.places; row = with_err (written v) p.row }

abbrev pub second_text_of : ℕ → Text → Placed → Placed
second_text_of x v p = record { places = at_second x p.places; row = with_second (written v) p.row }

abbrev pub third_text : ℕ → Text → Placed → Placed
third_text x v p = record { places = at_third x p.places; row = with_third (written v) p.row }

abbrev pub fourth_text : ℕ → Text → Placed → Placed
fourth_text x v p = record { places = at_fourth x p.places; row = with_fourth (written v) p.row }

abbrev pub seventh_text : ℕ → Text → Placed → Placed
seventh_text x v p = record { places = at_seventh x p.places; row = with_seventh (written v) p.row }
