-- Small reports, encoded and read back by computing. Assumes nothing.
use mathlib.Core.Bool.{true, false}
use mathlib.Core.List.{[], ◌∷◌, ◌++◌}
use mathlib.Core.Option.{none, some}
use mathlib.Core.Path.{◌≡◌, refl}
use Rattle.schema.specs.of_area.Area.{zeros}
use Rattle.schema.specs.Records as records
use Rattle.schema.specs.Records.{good}
use Rattle.schema.specs.Texts as texts
use Rattle.tree_report.specs.Encode.{encode, words_of, text_of, fits_row, fits}
use Rattle.tree_report.specs.Layout.{good_text, good_record, may_end, may_follow, following, good_order, records_from, records_of, layout}
use Rattle.tree_report.specs.Report.{Counts, failure, flaky, non_success, Report}
use Rattle.tree_report.specs.ReportOf.{report_of}
use Rattle.tree_status.specs.Status.{tallied, ruled}
use Rattle.schema.specs.of_utf8.Utf8.{need, low, high}

abbrev no_counts : Counts
no_counts = record { tests = 0; failures = 0; errors = 0; skipped = 0; disabled = none }

-- no suites, no texts: one record and an area of 0 bytes
abbrev nothing_in : Report
nothing_in = record { name = none; uuid = none; timestamp = none; time = none; counts = no_counts; suites = [] }

nothing-words : words_of nothing_in 32 ≡ 1 ∷ zeros 31
unfolding words_of encode records.encode texts.record_at
nothing-words = refl

nothing-fits : fits nothing_in 32 0 ≡ true
unfolding fits fits_row
nothing-fits = refl

nothing-short : fits nothing_in 31 0 ≡ false
unfolding fits fits_row
nothing-short = refl

-- a failure of kind flaky without runs; an empty key twice; a value of two bytes
abbrev flaky_failure : Report
flaky_failure = record {
  name = some [];
  uuid = some (record { a = 1; b = 2; c = 3; d = 4 });
  timestamp = none;
  time = some (record { seconds = 8388607; nanos = 999999999 });
  counts = no_counts;
  suites = record {
    name = 0x73 ∷ [];
    counts = record { tests = 18446744073709551615; failures = 1; errors = 0; skipped = 0; disabled = some 0 };
    timestamp = none;
    time = none;
    hostname = none;
    cases = record {
      name = 0x63 ∷ [];
      classname = none;
      assertions = some 4294967296;
      timestamp = none;
      time = none;
      status = non_success failure (record { message = none; type = some []; description = none }) flaky [];
      system_out = none;
      system_err = none;
      extra = [];
      properties = [];
    } ∷ [];
    properties = [];
    system_out = none;
    system_err = none;
    extra = record { key = []; value = 0xC3 ∷ 0xA9 ∷ [] } ∷ record { key = []; value = [] } ∷ [];
  } ∷ [];
}

flaky-fits : fits flaky_failure 192 4 ≡ true
unfolding fits fits_row need low high
flaky-fits = refl

flaky-texts : text_of flaky_failure 5 ≡ 0x73 ∷ 0xC3 ∷ 0xA9 ∷ 0x63 ∷ 0 ∷ []
unfolding text_of encode
flaky-texts = refl

flaky-layout : layout (words_of flaky_failure 200) (text_of flaky_failure 5) ≡ true
unfolding layout words_of text_of encode records.encode texts.record_at records_of records_from good_text good_record good
    good_order may_follow may_end following tallied ruled need low high
flaky-layout = refl

flaky-read : report_of (words_of flaky_failure 200) (text_of flaky_failure 5) ≡ some flaky_failure
unfolding report_of words_of text_of encode records.encode texts.record_at records_of records_from
flaky-read = refl

-- the suite's second extra has an empty value behind the first one's two bytes; the case's name stands behind it
flaky-places : words_of flaky_failure 160 ≡
    (1 ∷ 19 ∷ 0 ∷ 0 ∷ 1 ∷ 2 ∷ 3 ∷ 4 ∷ zeros 8) ++ ((8388607 ∷ 999999999 ∷ zeros 14)
    ++ ((2 ∷ 257 ∷ 0 ∷ 1 ∷ zeros 14) ++ ((4294967295 ∷ 4294967295 ∷ 1 ∷ zeros 11)
    ++ ((13 ∷ 3 ∷ 1 ∷ 0 ∷ 1 ∷ 2 ∷ zeros 26) ++ ((13 ∷ 3 ∷ 3 ∷ 0 ∷ 3 ∷ 0 ∷ zeros 26)
    ++ ((3 ∷ 65 ∷ 3 ∷ 1 ∷ zeros 16) ++ (0 ∷ 1 ∷ zeros 10)))))))
unfolding words_of encode records.encode texts.record_at
flaky-places = refl
