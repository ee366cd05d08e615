-- The fields of a record, docs/TREE.md. A record is the list of its words. Definitions only.
use Rattle.std.specs.Prelude.{ℕ, ◌+◌, List, Bool, ◌&&◌, get_or, leb, eqb}
use Rattle.std.proofs.Math.Option.{Option}
use Rattle.schema.specs.of_timestamp.declared.Moment.{Moment}
use Rattle.schema.specs.of_uuids.declared.Words.{Words}
use Rattle.tree_status.specs.of_tree_record.Words as word
use Rattle.tree_status.specs.of_tree_record.Bits as bit
use Rattle.tree_status.specs.of_tree_record.Kinds as kind
pub use Rattle.tree_status.specs.of_tree_record.Record.{kind_of, live, has_bit, text_at, number_at}
pub use Rattle.schema.specs.Records.{given}
use Rattle.tree_report.specs.Report.{Text, Duration, Counts}

abbrev pub is_report : List ℕ → Bool
is_report r = eqb (kind_of r) kind.report

abbrev pub is_suite : List ℕ → Bool
is_suite r = eqb (kind_of r) kind.suite

abbrev pub is_case : List ℕ → Bool
is_case r = eqb (kind_of r) kind.case

abbrev pub is_suite_property : List ℕ → Bool
is_suite_property r = eqb (kind_of r) kind.suite_property

abbrev pub is_case_property : List ℕ → Bool
is_case_property r = eqb (kind_of r) kind.case_property

abbrev pub is_main : List ℕ → Bool
is_main r = leb kind.failure (kind_of r) && leb (kind_of r) kind.skipped

abbrev pub is_run : List ℕ → Bool
is_run r = leb kind.flaky_failure (kind_of r) && leb (kind_of r) kind.rerun_error

abbrev pub is_suite_extra : List ℕ → Bool
is_suite_extra r = eqb (kind_of r) kind.suite_extra

abbrev pub is_case_extra : List ℕ → Bool
is_case_extra r = eqb (kind_of r) kind.case_extra

-- the texts of a record: `first` is a name, a message or a key, `second` a classname or a type
abbrev pub first : List ℕ → List ℕ → Option Text
first text r = given (has_bit bit.name r) (text_at text r word.name)

abbrev pub system_out : List ℕ → List ℕ → Option Text
system_out text r = given (has_bit bit.out r) (text_at text r word.out)

abbrev pub system_err : List ℕ → List ℕ → Option Text
system_err text r = given (has_bit bit.err r) (text_at text r word.err)

abbrev pub second : List ℕ → List ℕ → Option Text
second text r = given (has_bit bit.classname r) (text_at text r word.classname)

abbrev pub description : List ℕ → List ℕ → Option Text
description text r = given (has_bit bit.description r) (text_at text r word.description)

abbrev pub stack_trace : List ℕ → List ℕ → Option Text
stack_trace text r = given (has_bit bit.stack_trace r) (text_at text r word.stack_trace)

abbrev pub hostname : List ℕ → List ℕ → Option Text
hostname text r = given (has_bit bit.hostname r) (text_at text r word.hostname)

-- A UUID is four words, its first bytes first
abbrev pub uuid : List ℕ → Option Words
uuid r =
    given (has_bit bit.uuid r)
    (record { a = get_or r word.uuid 0; b = get_or r (word.uuid + 1) 0; c = get_or r word.uuid_back 0; d = get_or r (word.uuid_back + 1) 0 })

-- a timestamp: its eight words in the order of docs/TREE.md
abbrev pub moment_of : List ℕ → Moment
moment_of r =
    record {
      year = get_or r word.year 0;
      month = get_or r word.month 0;
      day = get_or r word.day 0;
      hour = get_or r word.hour 0;
      minute = get_or r word.minute 0;
      second = get_or r word.second 0;
      nanos = get_or r word.nanos 0;
      offset = get_or r word.offset 0;
    }

abbrev pub timestamp : List ℕ → Option Moment
timestamp r = given (has_bit bit.timestamp r) (moment_of r)

-- a time: seconds and nanoseconds
abbrev pub time : List ℕ → Option Duration
time r = given (has_bit bit.time r) (record { seconds = get_or r word.seconds 0; nanos = get_or r word.time_nanos 0 })

-- a report's or suite's counts
abbrev pub counts : List ℕ → Counts
counts r =
    record {
      tests = number_at r word.tests;
      failures = number_at r word.failures;
      errors = number_at r word.errors;
      skipped = number_at r word.skipped;
      disabled = given (has_bit bit.disabled r) (number_at r word.disabled);
    }

-- a case's assertions
abbrev pub assertions : List ℕ → Option ℕ
assertions r = given (has_bit bit.assertions r) (number_at r word.assertions)
