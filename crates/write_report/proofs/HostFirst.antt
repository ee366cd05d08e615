-- A report is written as the crate writes it with each suite's `hostname` put first among its extras. Assumes nothing.
use mathlib.Core.List.{List, [], ◌∷◌, ◌++◌, map}
use mathlib.Core.Option.{Option, none, some}
use mathlib.Core.Path.{◌≡◌, refl, ap, ap₂}
use Rattle.write_escape.specs.of_names.Bytes.{bytes}
use Rattle.table.specs.Event.{Event, Eof}
use Rattle.tree_report.specs.Report.{Text, TestSuite, Report}
use Rattle.write_report.specs.Written.{each, start_tag, end_tag, indent, declaration, report_attributes, serialize_test_suite, serialize_report, numbered, written}
use Rattle.write_report.specs.AsCrate.{as_crate, report_as_crate}

-- a suite with this host
abbrev hosting : TestSuite → Option Text → TestSuite
hosting s h =
    record {
      name = s.name;
      counts = s.counts;
      timestamp = s.timestamp;
      time = s.time;
      hostname = h;
      cases = s.cases;
      properties = s.properties;
      system_out = s.system_out;
      system_err = s.system_err;
      extra = s.extra;
    }

any-host : (s : TestSuite) (h : Option Text) → serialize_test_suite (hosting s h) ≡ serialize_test_suite (as_crate (hosting s h))
unfolding serialize_test_suite
any-host s none = refl
any-host s (some t) = refl

pub host_first : (s : TestSuite) → serialize_test_suite s ≡ serialize_test_suite (as_crate s)
host_first s = any-host s s.hostname

each_first : (ss : List TestSuite) → each serialize_test_suite ss ≡ each serialize_test_suite (map as_crate ss)
each_first [] = refl
each_first (s ∷ ss) = ap₂ (λ (a b : List Event). a ++ b) (host_first s) (each_first ss)

-- with the same numbers of first attributes, so that its table and its document are the same, too
pub written_first : (r : Report) → written r ≡ written (report_as_crate r)
unfolding written serialize_report
written_first r =
    ap (λ (es : List Event). numbered 0 (declaration ∷ start_tag (bytes "testsuites") (report_attributes r) ∷ (es ++ (end_tag (bytes "testsuites") ∷ Eof ∷ indent ∷ []))))
    (each_first r.suites)
