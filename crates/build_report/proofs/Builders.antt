-- The claim on builders. Assumes nothing.
use Rattle.build_report.specs.Builders.{Builders}
use Rattle.build_report.proofs.Means.{means}
use Rattle.build_report.proofs.NewReport.{unnamed_report, new_report}
use Rattle.build_report.proofs.AddSuite.{add_test_suite}
use Rattle.build_report.proofs.AddCase.{add_test_case}
use Rattle.build_report.proofs.Runs.{add_rerun, set_rerun_kind}
use Rattle.build_report.proofs.AddPair.{add_property, add_extra}
use Rattle.build_report.proofs.SetText.{set_text, set_output_lossy}
use Rattle.build_report.proofs.SetValues.{set_timestamp, set_time, set_uuid, set_number}
use Rattle.build_report.proofs.Finish.{finish}
use Rattle.build_report.proofs.Over.{after_end, after_refusal}

pub builders : Builders
builders = record {
  unnamed_report = unnamed_report;
  new_report = new_report;
  calls = λ h. record {
    means = means h;
    add_test_suite = add_test_suite h;
    add_test_case = add_test_case h;
    add_rerun = add_rerun h;
    set_rerun_kind = set_rerun_kind h;
    add_property = add_property h;
    add_extra = add_extra h;
    set_text = set_text h;
    set_output_lossy = set_output_lossy h;
    set_timestamp = set_timestamp h;
    set_time = set_time h;
    set_uuid = set_uuid h;
    set_number = set_number h;
    finish = finish h;
  };
  after_end = after_end;
  after_refusal = after_refusal;
}
