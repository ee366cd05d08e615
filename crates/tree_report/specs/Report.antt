-- A report by its fields: the types stand with the tables of their fields. Definitions only.
pub use Rattle.schema.specs.Report.{Text, Duration, Pair, Counts, NonSuccessKind, failure, error, FlakyOrRerun, flaky, rerun, TestRerun, Reason}
pub use Rattle.schema.specs.Report.{TestCaseStatus, success, non_success, skipped, TestCase, TestSuite, Report}
