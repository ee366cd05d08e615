-- A suite as the crate has it: `hostname` is the first of its extras (docs/DIFFERENCES.md). Definitions only.
use Rattle.std.specs.Prelude.{List, [], ◌∷◌, ◌++◌, map}
use Rattle.std.proofs.Math.Option.{Option, none, some}
use Rattle.write_escape.specs.of_names.Bytes.{bytes}
use Rattle.tree_report.specs.Report.{Text, Pair, TestSuite, Report}

abbrev pub hostname_pairs : Option Text → List Pair
hostname_pairs none = []
hostname_pairs (some t) = record { key = bytes "hostname"; value = t } ∷ []

abbrev pub as_crate : TestSuite → TestSuite
as_crate s =
    record {
      name = s.name;
      counts = s.counts;
      timestamp = s.timestamp;
      time = s.time;
      hostname = none;
      cases = s.cases;
      properties = s.properties;
      system_out = s.system_out;
      system_err = s.system_err;
      extra = hostname_pairs s.hostname ++ s.extra;
    }

abbrev pub report_as_crate : Report → Report
report_as_crate r = record { name = r.name; uuid = r.uuid; timestamp = r.timestamp; time = r.time; counts = r.counts; suites = map as_crate r.suites }
