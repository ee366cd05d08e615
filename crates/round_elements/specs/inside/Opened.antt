-- An element's records as its attributes leave them, with what they show of its report. Definitions only.
use Rattle.std.specs.Prelude.{ℕ, List, [], ◌∷◌, ◌++◌, false, ◌≡◌, length}
use Rattle.read_machine.specs.of_refusal.Refusal.{Outcome, accepted}
use Rattle.read_machine.specs.of_tree_record.Words as word
use Rattle.read_machine.specs.of_tree_record.Bits as bit
use Rattle.read_machine.specs.of_tree_record.Kinds as kind
use Rattle.write_report.specs.of_tree_report.Report.{Pair, FlakyOrRerun, TestRerun, Reason, TestCase, TestSuite, Report}
use Rattle.write_report.specs.of_tree_report.Encode.{kind_of_run}
use Rattle.write_report.specs.of_tree_report.Fields.{kind_of, has_bit, text_at, first, second, hostname, uuid, timestamp, time, counts, assertions}
use Rattle.write_report.specs.of_tree_report.ReportOf.{pair_of}
use Rattle.read_machine.specs.of_read_element.Attributes.{Grown, extra_kind}

-- f gives a with these texts, and with any that are stored behind them
abbrev pub Lasting : {A : Type 0} → List ℕ → (List ℕ → A) → A → Type 0
Lasting texts f a = (z : List ℕ) → f (texts ++ z) ≡ a

-- 32 words of a kind
pub record Blank (κ : ℕ) (r : List ℕ) : Type 0 where
  pub long : length r ≡ 32
  pub kind : kind_of r ≡ κ

pub record PairShown (κ : ℕ) (texts r : List ℕ) (p : Pair) : Type 0 where
  pub blank : Blank κ r
  pub pair : Lasting texts (λ t. pair_of t r) p

-- records of a kind, one for each pair
pub data PairsShown (κ : ℕ) (texts : List ℕ) : List (List ℕ) → List Pair → Type 0 where
  none : PairsShown κ texts [] []
  more : {r : List ℕ} {p : Pair} {rs : List (List ℕ)} {ps : List Pair} → PairShown κ texts r p → PairsShown κ texts rs ps → PairsShown κ texts (r ∷ rs) (p ∷ ps)

pub record ReportShown (texts r : List ℕ) (p : Report) : Type 0 where
  pub blank : Blank kind.report r
  pub name : Lasting texts (λ t. first t r) p.name
  pub uuid : uuid r ≡ p.uuid
  pub timestamp : timestamp r ≡ p.timestamp
  pub time : time r ≡ p.time
  pub counts : counts r ≡ p.counts

-- its outputs come later
pub record SuiteShown (texts r : List ℕ) (s : TestSuite) : Type 0 where
  pub blank : Blank kind.suite r
  pub name : Lasting texts (λ t. text_at t r word.name) s.name
  pub counts : counts r ≡ s.counts
  pub timestamp : timestamp r ≡ s.timestamp
  pub time : time r ≡ s.time
  pub hostname : Lasting texts (λ t. hostname t r) s.hostname
  pub out : has_bit bit.out r ≡ false
  pub err : has_bit bit.err r ≡ false

pub record CaseShown (texts r : List ℕ) (c : TestCase) : Type 0 where
  pub blank : Blank kind.case r
  pub name : Lasting texts (λ t. text_at t r word.name) c.name
  pub classname : Lasting texts (λ t. second t r) c.classname
  pub assertions : assertions r ≡ c.assertions
  pub timestamp : timestamp r ≡ c.timestamp
  pub time : time r ≡ c.time
  pub out : has_bit bit.out r ≡ false
  pub err : has_bit bit.err r ≡ false

-- its description, stack trace and outputs come later
pub record RunShown (family : FlakyOrRerun) (texts r : List ℕ) (e : TestRerun) : Type 0 where
  pub blank : Blank (kind_of_run family e.kind) r
  pub message : Lasting texts (λ t. first t r) e.message
  pub type : Lasting texts (λ t. second t r) e.type
  pub timestamp : timestamp r ≡ e.timestamp
  pub time : time r ≡ e.time
  pub out : has_bit bit.out r ≡ false
  pub err : has_bit bit.err r ≡ false
  pub description : has_bit bit.description r ≡ false
  pub stack_trace : has_bit bit.stack_trace r ≡ false

-- a main of kind κ; its description comes later
pub record MainShown (κ : ℕ) (texts r : List ℕ) (m : Reason) : Type 0 where
  pub blank : Blank κ r
  pub message : Lasting texts (λ t. first t r) m.message
  pub type : Lasting texts (λ t. second t r) m.type
  pub description : has_bit bit.description r ≡ false
  pub flaky : has_bit bit.flaky r ≡ false

-- what reading an element's attributes gives: its record and those of its extras behind the others, its texts behind the others
pub record Opened (κ : ℕ) (Shown : List ℕ → List ℕ → Type 0) (extra : List Pair) (records : List (List ℕ)) (texts : List ℕ) (o : Outcome Grown) : Type 0 where
  pub main : List ℕ
  pub extras : List (List ℕ)
  pub added : List ℕ
  pub answer : o ≡ accepted (record { records = records ++ (main ∷ extras); texts = texts ++ added })
  pub shown : Shown (texts ++ added) main
  pub pairs : PairsShown (extra_kind κ) (texts ++ added) extras extra
