-- A report by its fields, as in report.rs. A text is its bytes. Definitions only.
use Rattle.std.specs.Prelude.{ℕ, List}
use Rattle.std.proofs.Math.Option.{Option}
use Rattle.timestamp.specs.declared.Moment.{Moment}
use Rattle.uuids.specs.declared.Words.{Words}

abbrev pub Text : Type 0
Text = List ℕ

-- seconds and the nanoseconds under a second
pub record Duration : Type 0 where
  pub seconds : ℕ
  pub nanos : ℕ

-- a property, or an extra attribute: name or key, and value
pub record Pair : Type 0 where
  pub key : Text
  pub value : Text

pub record Counts : Type 0 where
  pub tests : ℕ
  pub failures : ℕ
  pub errors : ℕ
  pub skipped : ℕ
  pub disabled : Option ℕ

pub data NonSuccessKind : Type 0 where
  failure error : NonSuccessKind

pub data FlakyOrRerun : Type 0 where
  flaky rerun : FlakyOrRerun

pub record TestRerun : Type 0 where
  pub kind : NonSuccessKind
  pub timestamp : Option Moment
  pub time : Option Duration
  pub message : Option Text
  pub type : Option Text
  pub stack_trace : Option Text
  pub system_out : Option Text
  pub system_err : Option Text
  pub description : Option Text

-- message, type and description of a main status element
pub record Reason : Type 0 where
  pub message : Option Text
  pub type : Option Text
  pub description : Option Text

pub data TestCaseStatus : Type 0 where
  success : List TestRerun → TestCaseStatus
  non_success : NonSuccessKind → Reason → FlakyOrRerun → List TestRerun → TestCaseStatus
  skipped : Reason → TestCaseStatus

pub record TestCase : Type 0 where
  pub name : Text
  pub classname : Option Text
  pub assertions : Option ℕ
  pub timestamp : Option Moment
  pub time : Option Duration
  pub status : TestCaseStatus
  pub system_out : Option Text
  pub system_err : Option Text
  pub extra : List Pair
  pub properties : List Pair

pub record TestSuite : Type 0 where
  pub name : Text
  pub counts : Counts
  pub timestamp : Option Moment
  pub time : Option Duration
  pub hostname : Option Text
  pub cases : List TestCase
  pub properties : List Pair
  pub system_out : Option Text
  pub system_err : Option Text
  pub extra : List Pair

pub record Report : Type 0 where
  pub name : Option Text
  pub uuid : Option Words
  pub timestamp : Option Moment
  pub time : Option Duration
  pub counts : Counts
  pub suites : List TestSuite
