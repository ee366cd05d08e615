-- What a store into a placed record makes of it. Assumes nothing.
use Prim.Native.Nat.{ℕ}
use mathlib.Core.Bool.{Bool, true, false}
use mathlib.Core.List.{List, [], ◌∷◌}
use mathlib.Core.Option.{some}
use mathlib.Core.Path.{◌≡◌, refl, ap, ◌∙◌}
use lib.Dec.{lit≤}
use lib.ListN.{length, set}
use Rattle.tree_put.specs.of_timestamp.declared.Moment.{Moment}
use Rattle.tree_put.specs.of_uuids.declared.Words.{Words}
use Rattle.tree_put.specs.of_tree_record.Record.{marked, unmarked}
use Rattle.tree_report.specs.Report.{Text}
use Rattle.tree_report.specs.inside.Cells.{is_given, is_some, first_word, second_word, of_number, of_count, uuid_front, uuid_back, moment_or_zero, time_or_zero, flags_of, presence}
use Rattle.tree_put.specs.Put.{blank, put_text, put_count_of, put_uuid, put_moment, put_time}
use Rattle.tree_placed.specs.inside.Placed.{Placed, record_of_it}
use Rattle.tree_placed.specs.inside.Changed.{blank_placed, with_kind, with_middle, with_timestamp, with_time, with_second, with_third, with_fourth}
use Rattle.tree_placed.specs.inside.Changed.{with_fifth, with_sixth, with_flaky, on_row, first_text_of, out_text, err_text, second_text_of, third_text, fourth_text, seventh_text}
use Rattle.tree_placed.proofs.Flags.{marked-flags, unmarked-flags}

-- the words behind kind and presence bits
abbrev behind : Placed → List ℕ
behind p =
    first_word p.places.first p.row.first ∷ second_word p.row.first
    ∷ first_word p.places.out p.row.out ∷ second_word p.row.out
    ∷ first_word p.places.err p.row.err ∷ second_word p.row.err
    ∷ (moment_or_zero p.row.timestamp).year ∷ (moment_or_zero p.row.timestamp).month
    ∷ (moment_or_zero p.row.timestamp).day ∷ (moment_or_zero p.row.timestamp).hour
    ∷ (moment_or_zero p.row.timestamp).minute ∷ (moment_or_zero p.row.timestamp).second
    ∷ (moment_or_zero p.row.timestamp).nanos ∷ (moment_or_zero p.row.timestamp).offset
    ∷ (time_or_zero p.row.time).seconds ∷ (time_or_zero p.row.time).nanos
    ∷ first_word p.places.second p.row.second ∷ second_word p.row.second
    ∷ first_word p.places.third p.row.third ∷ second_word p.row.third
    ∷ first_word p.places.fourth p.row.fourth ∷ second_word p.row.fourth
    ∷ first_word 0 p.row.fifth ∷ second_word p.row.fifth
    ∷ first_word 0 p.row.sixth ∷ second_word p.row.sixth
    ∷ first_word p.places.seventh p.row.seventh ∷ second_word p.row.seventh
    ∷ 0 ∷ 0 ∷ []

-- a placed record has 32 words
pub record-length : (p : Placed) → length (record_of_it p) ≡ 32
unfolding record_of_it
record-length p = refl

-- a blank record is the placed record with no cell given
pub put-blank : (κ : ℕ) → blank κ ≡ record_of_it (blank_placed κ)
unfolding record_of_it
put-blank κ = refl

module _ (p : Placed) where
  -- ---- a text
  -- the store of a text at word 2 is the row with that first text
  pub put_first : (x : ℕ) (v : Text) → put_text 2 0 x (length v) (record_of_it p) ≡ record_of_it (first_text_of x v p)
  unfolding record_of_it
  put_first x v = marked-flags p.row.kind 0 (presence p.row) (behind (first_text_of x v p)) (lit≤ tt) (lit≤ tt)

  -- standard output's store is the row with that output
  pub put-out : (x : ℕ) (v : Text) → put_text 4 1 x (length v) (record_of_it p) ≡ record_of_it (out_text x v p)
  unfolding record_of_it
  put-out x v = marked-flags p.row.kind 1 (presence p.row) (behind (out_text x v p)) (lit≤ tt) (lit≤ tt)

  -- standard error's store is the row with that output
  pub put-err : (x : ℕ) (v : Text) → put_text 6 2 x (length v) (record_of_it p) ≡ record_of_it (err_text x v p)
  unfolding record_of_it
  put-err x v = marked-flags p.row.kind 2 (presence p.row) (behind (err_text x v p)) (lit≤ tt) (lit≤ tt)

  -- the store of a text at word 18 is the row with that second text
  pub put_second : (x : ℕ) (v : Text) → put_text 18 5 x (length v) (record_of_it p) ≡ record_of_it (second_text_of x v p)
  unfolding record_of_it
  put_second x v = marked-flags p.row.kind 5 (presence p.row) (behind (second_text_of x v p)) (lit≤ tt) (lit≤ tt)

  -- the store of a text at word 20 is the row with that third text
  pub put-third : (x : ℕ) (v : Text) → put_text 20 6 x (length v) (record_of_it p) ≡ record_of_it (third_text x v p)
  unfolding record_of_it
  put-third x v = marked-flags p.row.kind 6 (presence p.row) (behind (third_text x v p)) (lit≤ tt) (lit≤ tt)

  -- the store of a text at word 22 is the row with that fourth text
  pub put-fourth : (x : ℕ) (v : Text) → put_text 22 7 x (length v) (record_of_it p) ≡ record_of_it (fourth_text x v p)
  unfolding record_of_it
  put-fourth x v = marked-flags p.row.kind 7 (presence p.row) (behind (fourth_text x v p)) (lit≤ tt) (lit≤ tt)

  -- the store of a text at word 28 is the row with that seventh text
  pub put-seventh : (x : ℕ) (v : Text) → put_text 28 10 x (length v) (record_of_it p) ≡ record_of_it (seventh_text x v p)
  unfolding record_of_it
  put-seventh x v = marked-flags p.row.kind 10 (presence p.row) (behind (seventh_text x v p)) (lit≤ tt) (lit≤ tt)

  -- ---- a value with a presence bit
  -- a timestamp's store is the row with that timestamp
  pub put-moment : (m : Moment) → put_moment m (record_of_it p) ≡ record_of_it (on_row (with_timestamp (some m)) p)
  unfolding record_of_it
  put-moment m = marked-flags p.row.kind 3 (presence p.row) (behind (on_row (with_timestamp (some m)) p)) (lit≤ tt) (lit≤ tt)

  -- a time's store is the row with that time
  pub put-time : (t : ℕ × ℕ) → put_time t (record_of_it p) ≡ record_of_it (on_row (with_time (some (record { seconds = t.0; nanos = t.1 }))) p)
  unfolding record_of_it
  put-time t = marked-flags p.row.kind 4 (presence p.row) (behind (on_row (with_time (some (record { seconds = t.0; nanos = t.1 }))) p)) (lit≤ tt) (lit≤ tt)

  -- a number of assertions stored is the row with that number
  pub put-assertions : (n : ℕ) → marked 6 (put_count_of 20 n (record_of_it p)) ≡ record_of_it (on_row (with_third (of_number (some n))) p)
  unfolding record_of_it
  put-assertions n = marked-flags p.row.kind 6 (presence p.row) (behind (on_row (with_third (of_number (some n))) p)) (lit≤ tt) (lit≤ tt)

  -- a number of disabled tests stored is the row with that number
  pub put-disabled : (n : ℕ) → marked 8 (put_count_of 26 n (record_of_it p)) ≡ record_of_it (on_row (with_sixth (of_number (some n))) p)
  unfolding record_of_it
  put-disabled n = marked-flags p.row.kind 8 (presence p.row) (behind (on_row (with_sixth (of_number (some n))) p)) (lit≤ tt) (lit≤ tt)

  -- ---- words without a presence bit, where the cell had none
  -- a UUID's store is the row with that UUID, where no standard error was
  pub put-uuid : (w : Words) → is_given p.row.err ≡ false → put_uuid w (record_of_it p) ≡ record_of_it (on_row (with_middle (uuid_front (some w)) (uuid_back (some w))) p)
  unfolding record_of_it
  put-uuid w e =
      marked-flags p.row.kind 1 (presence p.row) (behind (on_row (with_middle (uuid_front (some w)) (uuid_back (some w))) p)) (lit≤ tt) (lit≤ tt)
      ∙ ap (λ (b : Bool). p.row.kind
      ∷ flags_of (is_given p.row.first ∷ true ∷ b ∷ is_some p.row.timestamp ∷ is_some p.row.time
      ∷ is_given p.row.second ∷ is_given p.row.third ∷ is_given p.row.fourth ∷ is_given p.row.sixth ∷ p.row.is_flaky ∷ is_given p.row.seventh ∷ [])
      ∷ behind (on_row (with_middle (uuid_front (some w)) (uuid_back (some w))) p)) e

  -- a count of tests stored is the row with that count
  pub put-tests : (n : ℕ) → is_given p.row.second ≡ false → put_count_of 18 n (record_of_it p) ≡ record_of_it (on_row (with_second (of_count n)) p)
  unfolding record_of_it
  put-tests n e =
      ap (λ (b : Bool). p.row.kind
      ∷ flags_of (is_given p.row.first ∷ is_given p.row.out ∷ is_given p.row.err ∷ is_some p.row.timestamp ∷ is_some p.row.time
      ∷ b ∷ is_given p.row.third ∷ is_given p.row.fourth ∷ is_given p.row.sixth ∷ p.row.is_flaky ∷ is_given p.row.seventh ∷ [])
      ∷ behind (on_row (with_second (of_count n)) p)) e

  -- a count of failures stored is the row with that count
  pub put-failures : (n : ℕ) → is_given p.row.third ≡ false → put_count_of 20 n (record_of_it p) ≡ record_of_it (on_row (with_third (of_count n)) p)
  unfolding record_of_it
  put-failures n e =
      ap (λ (b : Bool). p.row.kind
      ∷ flags_of (is_given p.row.first ∷ is_given p.row.out ∷ is_given p.row.err ∷ is_some p.row.timestamp ∷ is_some p.row.time
      ∷ is_given p.row.second ∷ b ∷ is_given p.row.fourth ∷ is_given p.row.sixth ∷ p.row.is_flaky ∷ is_given p.row.seventh ∷ [])
      ∷ behind (on_row (with_third (of_count n)) p)) e

  -- a count of errors stored is the row with that count
  pub put-errors : (n : ℕ) → is_given p.row.fourth ≡ false → put_count_of 22 n (record_of_it p) ≡ record_of_it (on_row (with_fourth (of_count n)) p)
  unfolding record_of_it
  put-errors n e =
      ap (λ (b : Bool). p.row.kind
      ∷ flags_of (is_given p.row.first ∷ is_given p.row.out ∷ is_given p.row.err ∷ is_some p.row.timestamp ∷ is_some p.row.time
      ∷ is_given p.row.second ∷ is_given p.row.third ∷ b ∷ is_given p.row.sixth ∷ p.row.is_flaky ∷ is_given p.row.seventh ∷ [])
      ∷ behind (on_row (with_fourth (of_count n)) p)) e

  -- a count of skipped tests stored is the row with that count
  pub put-skipped : (n : ℕ) → put_count_of 24 n (record_of_it p) ≡ record_of_it (on_row (with_fifth (of_count n)) p)
  unfolding record_of_it
  put-skipped n = refl

  -- ---- the flaky bit, and the kind
  -- the flaky bit set is the row that is flaky
  pub put-flaky : marked 9 (record_of_it p) ≡ record_of_it (on_row (with_flaky true) p)
  unfolding record_of_it
  put-flaky = marked-flags p.row.kind 9 (presence p.row) (behind p) (lit≤ tt) (lit≤ tt)

  -- the flaky bit cleared is the row that isn't flaky
  pub clear-flaky : unmarked 9 (record_of_it p) ≡ record_of_it (on_row (with_flaky false) p)
  unfolding record_of_it
  clear-flaky = unmarked-flags p.row.kind 9 (presence p.row) (behind p) (lit≤ tt) (lit≤ tt)

  -- the kind's store is the row with that kind
  pub put-kind : (k : ℕ) → set (record_of_it p) 0 k ≡ record_of_it (on_row (with_kind k) p)
  unfolding record_of_it
  put-kind k = refl
