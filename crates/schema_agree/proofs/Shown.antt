-- What a record shows by its table, in the words of Fields.antt, which names words and bits by constants. Assumes nothing.
use Prim.Native.Nat.{ℕ}
use mathlib.Core.Bool.{Bool, true, false, cond}
use mathlib.Core.List.{List, ◌∷◌, map}
use mathlib.Core.Option.{some}
use mathlib.Core.Path.{◌≡◌, refl}
use lib.Dec.{eqb}
use Rattle.read_content.specs.of_tree_record.Bits as bit
use Rattle.read_content.specs.of_tree_record.Kinds as kind
use Rattle.read_content.specs.of_tree_record.Words as word
use Rattle.read_content.specs.of_tree_report.Report.{failure, error}
use Rattle.read_content.specs.of_tree_report.Fields.{kind_of, has_bit, given, is_suite, is_case, is_main, is_run, is_suite_extra, is_suite_property, is_case_extra, is_case_property}
use Rattle.read_content.specs.of_tree_report.Fields.{text_at, first, system_out, system_err, second, description, stack_trace, hostname, uuid, timestamp, time, counts, assertions}
use Rattle.read_content.specs.of_schema.Records.{is_some}
use Rattle.read_content.specs.of_tree_report.ReportOf as tree
use Rattle.read_content.specs.of_schema.Schema.{main}
use Rattle.read_content.specs.of_schema.Texts.{fields_of}
use Rattle.read_content.specs.of_schema.Elements as named

module _ (texts : List ℕ) where
  pub report-shown : (r : List ℕ) (rs : List (List ℕ))
      → tree.report_from texts (r ∷ rs)
      ≡ some (record {
        name = first texts r;
        uuid = uuid r;
        timestamp = timestamp r;
        time = time r;
        counts = counts r;
        suites = map (tree.suite_of texts) (tree.branches is_suite rs);
      })
  report-shown r rs = refl

  pub suite-shown : (b : tree.Branch)
      → tree.suite_of texts b
      ≡ record {
        name = text_at texts b.head word.name;
        counts = counts b.head;
        timestamp = timestamp b.head;
        time = time b.head;
        hostname = hostname texts b.head;
        cases = map (tree.case_of texts) (tree.branches is_case b.below);
        properties = tree.pairs_of_it texts is_suite_property b.below;
        system_out = system_out texts b.head;
        system_err = system_err texts b.head;
        extra = tree.pairs_of_it texts is_suite_extra b.below;
      }
  suite-shown b = refl

  pub case-shown : (b : tree.Branch)
      → tree.case_of texts b
      ≡ record {
        name = text_at texts b.head word.name;
        classname = second texts b.head;
        assertions = assertions b.head;
        timestamp = timestamp b.head;
        time = time b.head;
        status = tree.status_of texts (tree.only is_main b.below) (tree.only is_run b.below);
        system_out = system_out texts b.head;
        system_err = system_err texts b.head;
        extra = tree.pairs_of_it texts is_case_extra b.below;
        properties = tree.pairs_of_it texts is_case_property b.below;
      }
  case-shown b = refl

  pub main-shown : (r : List ℕ) → tree.reason_of texts r ≡ named.main_of (fields_of main texts r)
  main-shown r = refl

  pub skipped-shown : (r : List ℕ) → tree.reason_of texts r ≡ record { message = first texts r; type = second texts r; description = description texts r }
  skipped-shown r = refl

  pub run-shown : (r : List ℕ)
      → tree.run_of texts r
      ≡ record {
        kind = cond (eqb (kind_of r) kind.flaky_failure) failure (cond (eqb (kind_of r) kind.rerun_failure) failure error);
        timestamp = timestamp r;
        time = time r;
        message = first texts r;
        type = second texts r;
        stack_trace = stack_trace texts r;
        system_out = system_out texts r;
        system_err = system_err texts r;
        description = description texts r;
      }
  run-shown r = refl

  pub pair-shown : (r : List ℕ) → tree.pair_of texts r ≡ record { key = text_at texts r word.key; value = text_at texts r word.value }
  pair-shown r = refl

  -- the flaky bit is a main's last row
  is-given : (b : Bool) → is_some (given b (tt {0})) ≡ b
  is-given true = refl
  is-given false = refl

  pub flaky-shown : (r : List ℕ) → is_some (fields_of main texts r).1.1.1.1.1.0 ≡ has_bit bit.flaky r
  flaky-shown r = is-given (has_bit bit.flaky r)
