-- An element's record with the texts that came behind its attributes so far. Definitions only.
use Rattle.std.specs.Prelude.{ℕ, false, List, ◌≡◌}
use Rattle.std.proofs.Math.Option.{Option}
use Rattle.read_machine.specs.of_tree_record.Words as word
use Rattle.read_machine.specs.of_tree_record.Bits as bit
use Rattle.read_machine.specs.of_tree_record.Kinds as kind
use Rattle.write_report.specs.of_tree_report.Report.{Text, FlakyOrRerun, TestRerun, Reason, TestCase, TestSuite}
use Rattle.write_report.specs.of_tree_report.Fields.{has_bit, text_at, first, system_out, system_err, second, description, stack_trace, hostname, timestamp, time, counts, assertions}
use Rattle.write_report.specs.of_tree_report.Encode.{kind_of_run}
use Rattle.round_elements.specs.inside.Opened.{Lasting, Blank}

-- a suite with outputs o and e
pub record SuiteHeld (s : TestSuite) (o e : Option Text) (texts r : List ℕ) : Type 0 where
  pub blank : Blank kind.suite r
  pub name : Lasting texts (λ t. text_at t r word.name) s.name
  pub counts : counts r ≡ s.counts
  pub timestamp : timestamp r ≡ s.timestamp
  pub time : time r ≡ s.time
  pub hostname : Lasting texts (λ t. hostname t r) s.hostname
  pub out : Lasting texts (λ t. system_out t r) o
  pub err : Lasting texts (λ t. system_err t r) e

pub record CaseHeld (c : TestCase) (o e : Option Text) (texts r : List ℕ) : Type 0 where
  pub blank : Blank kind.case r
  pub name : Lasting texts (λ t. text_at t r word.name) c.name
  pub classname : Lasting texts (λ t. second t r) c.classname
  pub assertions : assertions r ≡ c.assertions
  pub timestamp : timestamp r ≡ c.timestamp
  pub time : time r ≡ c.time
  pub out : Lasting texts (λ t. system_out t r) o
  pub err : Lasting texts (λ t. system_err t r) e

-- a run with stack trace s, outputs o and e, description d: the order of their events
pub record RunHeld (family : FlakyOrRerun) (x : TestRerun) (s o e d : Option Text) (texts r : List ℕ) : Type 0 where
  pub blank : Blank (kind_of_run family x.kind) r
  pub message : Lasting texts (λ t. first t r) x.message
  pub type : Lasting texts (λ t. second t r) x.type
  pub timestamp : timestamp r ≡ x.timestamp
  pub time : time r ≡ x.time
  pub stack_trace : Lasting texts (λ t. stack_trace t r) s
  pub out : Lasting texts (λ t. system_out t r) o
  pub err : Lasting texts (λ t. system_err t r) e
  pub description : Lasting texts (λ t. description t r) d

pub record MainHeld (κ : ℕ) (m : Reason) (d : Option Text) (texts r : List ℕ) : Type 0 where
  pub blank : Blank κ r
  pub message : Lasting texts (λ t. first t r) m.message
  pub type : Lasting texts (λ t. second t r) m.type
  pub description : Lasting texts (λ t. description t r) d
  pub flaky : has_bit bit.flaky r ≡ false
