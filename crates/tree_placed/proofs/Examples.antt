-- A small report whose texts stand in another order, behind one that is no longer used. Assumes nothing.
use Prim.Native.Nat.{ℕ}
use mathlib.Core.Bool.{true, false}
use mathlib.Core.List.{List, [], ◌∷◌, ◌++◌}
use mathlib.Core.Option.{none, some}
use mathlib.Core.Path.{◌≡◌, refl}
use lib.Dec.{lit≤}
use Rattle.tree_put.specs.of_area.Area.{zeros, laid}
use Rattle.tree_put.specs.of_utf8.Characters.{joined}
use Rattle.tree_put.specs.of_utf8.Utf8.{need, low, high}
use Rattle.tree_report.specs.inside.Cells.{fits_row, report_row, suite_row}
use Rattle.tree_report.specs.Layout.{layout}
use Rattle.tree_report.specs.Report.{Counts, TestSuite, Report}
use Rattle.tree_report.specs.ReportOf.{report_of}
use Rattle.tree_report.proofs.EncodeLists.{Each, done, more}
use Rattle.tree_put.specs.of_tree_record.Record.{unmarked}
use Rattle.tree_placed.specs.inside.Placed.{Placed, record_of_it, records_in, good_at, InTexts}
use Rattle.tree_placed.specs.inside.Changed.{blank_places, at_first_of}
use Rattle.tree_placed.proofs.Whole.{placed-layout, placed-report}

abbrev no_counts : Counts
no_counts = record { tests = 0; failures = 0; errors = 0; skipped = 0; disabled = none }

-- suite "a" of report "b"
abbrev suite_a : TestSuite
suite_a = record {
  name = 0x61 ∷ [];
  counts = no_counts;
  timestamp = none;
  time = none;
  hostname = none;
  cases = [];
  properties = [];
  system_out = none;
  system_err = none;
  extra = [];
}

abbrev report_b : Report
report_b = record { name = some (0x62 ∷ []); uuid = none; timestamp = none; time = none; counts = no_counts; suites = suite_a ∷ [] }

abbrev texts : List ℕ
texts = 0x78 ∷ 0x61 ∷ 0x62 ∷ []

abbrev placed_b : Placed
placed_b = record { places = at_first_of 2 blank_places; row = report_row report_b }

abbrev placed_a : Placed
placed_a = record { places = at_first_of 1 blank_places; row = suite_row suite_a }

abbrev records : List Placed
records = placed_b ∷ placed_a ∷ []

records-words : joined (records_in records) ≡ (1 ∷ 1 ∷ 2 ∷ 1 ∷ zeros 28) ++ (2 ∷ 1 ∷ 1 ∷ 1 ∷ zeros 28)
unfolding record_of_it
records-words = refl

stand_b : InTexts texts placed_b
stand_b = record { first = (refl, refl); out = tt; err = tt; second = tt; third = tt; fourth = tt; seventh = tt }

stand_a : InTexts texts placed_a
stand_a = record { first = (refl, refl); out = tt; err = tt; second = tt; third = tt; fourth = tt; seventh = tt }

stand : Each (InTexts texts) records
stand = more stand_b (more stand_a done)

swapped-layout : layout (laid (zeros 70) (joined (records_in records))) (laid (zeros 4) texts) ≡ true
unfolding fits_row need low high
swapped-layout = placed-layout report_b records texts 70 4 refl stand refl refl refl (lit≤ tt) (lit≤ tt) (lit≤ tt) (lit≤ tt)

swapped-read : report_of (laid (zeros 70) (joined (records_in records))) (laid (zeros 4) texts) ≡ some report_b
unfolding fits_row need low high
swapped-read = placed-report report_b records texts 70 4 refl stand refl refl refl (lit≤ tt) (lit≤ tt) (lit≤ tt) (lit≤ tt)

-- no text begins within a character; an empty one may stand at the end, not behind it
middle-bad : good_at (0xC3 ∷ 0xA9 ∷ []) 1 1 ≡ false
middle-bad = refl

end-good : good_at texts 3 0 ≡ true
end-good = refl

behind-bad : good_at texts 4 0 ≡ false
behind-bad = refl

-- a bit that is set is cleared, one that isn't stays
bit-cleared : unmarked 9 (6 ∷ 513 ∷ []) ≡ 6 ∷ 1 ∷ []
unfolding unmarked
bit-cleared = refl

bit-clear : unmarked 9 (6 ∷ 1 ∷ []) ≡ 6 ∷ 1 ∷ []
unfolding unmarked
bit-clear = refl
