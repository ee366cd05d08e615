-- The fields of a table by name: the map between rows and the types of a report goes by the place of a row. Definitions only.
use Rattle.std.specs.Prelude.{List, Bool}
use Rattle.schema.specs.Report.{Text, Pair, NonSuccessKind, TestRerun, Reason, TestCaseStatus, TestCase, TestSuite, Report}
use Rattle.schema.specs.Schema.{report, suite, case, main, skipped, run, property}
use Rattle.schema.specs.Records.{Fields, given}

-- ---- a report
abbrev pub report_fields : Report → Fields Text report
report_fields r =
    let c = r.counts in
    (r.name, (r.uuid, (r.timestamp, (r.time, (c.tests, (c.failures, (c.errors, (c.skipped, (c.disabled, tt)))))))))

abbrev pub report_of : Fields Text report → List TestSuite → Report
report_of f suites =
    let c = f.1.1.1.1 in
    record {
      name = f.0;
      uuid = f.1.0;
      timestamp = f.1.1.0;
      time = f.1.1.1.0;
      counts = record { tests = c.0; failures = c.1.0; errors = c.1.1.0; skipped = c.1.1.1.0; disabled = c.1.1.1.1.0 };
      suites = suites;
    }

-- ---- a suite
abbrev pub suite_fields : TestSuite → Fields Text suite
suite_fields s =
    let c = s.counts in
    (s.name, (s.system_out, (s.system_err, (s.timestamp, (s.time, (c.tests, (c.failures, (c.errors, (c.skipped, (c.disabled, (s.hostname, tt)))))))))))

abbrev pub suite_of : Fields Text suite → List TestCase → List Pair → List Pair → TestSuite
suite_of f cases properties extra =
    let c = f.1.1.1.1.1 in
    record {
      name = f.0;
      counts = record { tests = c.0; failures = c.1.0; errors = c.1.1.0; skipped = c.1.1.1.0; disabled = c.1.1.1.1.0 };
      timestamp = f.1.1.1.0;
      time = f.1.1.1.1.0;
      hostname = c.1.1.1.1.1.0;
      cases = cases;
      properties = properties;
      system_out = f.1.0;
      system_err = f.1.1.0;
      extra = extra;
    }

-- ---- a case
abbrev pub case_fields : TestCase → Fields Text case
case_fields c = (c.name, (c.system_out, (c.system_err, (c.timestamp, (c.time, (c.classname, (c.assertions, tt)))))))

abbrev pub case_of : Fields Text case → TestCaseStatus → List Pair → List Pair → TestCase
case_of f status extra properties =
    record {
      name = f.0;
      classname = f.1.1.1.1.1.0;
      assertions = f.1.1.1.1.1.1.0;
      timestamp = f.1.1.1.0;
      time = f.1.1.1.1.0;
      status = status;
      system_out = f.1.0;
      system_err = f.1.1.0;
      extra = extra;
      properties = properties;
    }

-- ---- a status element
-- a failure or error, with its flaky bit (rule S11)
abbrev pub main_fields : Bool → Reason → Fields Text main
main_fields is_flaky r = (r.message, (tt, (tt, (r.type, (r.description, (given is_flaky tt, tt))))))

abbrev pub main_of : Fields Text main → Reason
main_of f = record { message = f.0; type = f.1.1.1.0; description = f.1.1.1.1.0 }

abbrev pub skipped_fields : Reason → Fields Text skipped
skipped_fields r = (r.message, (tt, (tt, (r.type, (r.description, tt)))))

abbrev pub skipped_of : Fields Text skipped → Reason
skipped_of f = record { message = f.0; type = f.1.1.1.0; description = f.1.1.1.1.0 }

abbrev pub run_fields : TestRerun → Fields Text run
run_fields r =
    (r.message, (r.system_out, (r.system_err, (r.timestamp, (r.time, (r.type, (r.description, (r.stack_trace, tt))))))))

-- the kind of record tells failure or error
abbrev pub run_of : NonSuccessKind → Fields Text run → TestRerun
run_of k f =
    record {
      kind = k;
      timestamp = f.1.1.1.0;
      time = f.1.1.1.1.0;
      message = f.0;
      type = f.1.1.1.1.1.0;
      stack_trace = f.1.1.1.1.1.1.1.0;
      system_out = f.1.0;
      system_err = f.1.1.0;
      description = f.1.1.1.1.1.1.0;
    }

-- ---- a property, or an extra
abbrev pub pair_fields : Pair → Fields Text property
pair_fields p = (p.key, (p.value, tt))

abbrev pub pair_of : Fields Text property → Pair
pair_of f = record { key = f.0; value = f.1.0 }
