-- The texts that come behind an element's attributes are put into its record, one by one. Assumes nothing.
use Prim.Native.Nat.{ℕ}
use mathlib.Core.Bool.{false}
use mathlib.Core.List.{List, ◌++◌}
use mathlib.Core.Option.{Option, none, some}
use mathlib.Core.Path.{◌≡◌, refl, ◌∙◌}
use lib.Dec.{lit<}
use lib.ListN.{length}
use Rattle.read_machine.specs.of_tree_record.Words as word
use Rattle.read_machine.specs.of_tree_record.Bits as bit
use Rattle.write_report.specs.of_tree_report.Report.{Text, FlakyOrRerun, TestRerun, Reason, TestCase, TestSuite}
use Rattle.write_report.specs.of_tree_report.Fields.{has_bit, given, text_at, first, system_out, system_err, second, description, stack_trace, hostname, timestamp, time, counts, assertions}
use Rattle.read_machine.specs.of_tree_put.Put.{put_text}
use Rattle.round_elements.specs.inside.Opened.{Lasting, Blank, SuiteShown, CaseShown, RunShown, MainShown}
use Rattle.round_elements.specs.inside.Held.{SuiteHeld, CaseHeld, RunHeld, MainHeld}
use Rattle.round_elements.proofs.Places.{lasting-more}
use Rattle.round_elements.proofs.Later.{Kept, later-text, out-kept, err-kept, description-kept, trace-kept}

-- ---- fields
lasting-kept : {A : Type 0} (s u : List ℕ) (f g : List ℕ → A) {a : A} → ((t : List ℕ) → g t ≡ f t) → Lasting s f a → Lasting (s ++ u) g a
lasting-kept s u f g q h z = q ((s ++ u) ++ z) ∙ lasting-more s u f h z

blank-kept : {κ : ℕ} {r r' : List ℕ} → Kept r r' → Blank κ r → Blank κ r'
blank-kept k b = record { long = k.long ∙ b.long; kind = k.kind ∙ b.kind }

-- ---- behind the attributes nothing has come
unset : (texts r : List ℕ) (k o : ℕ) → has_bit k r ≡ false → Lasting texts (λ t. given (has_bit k r) (text_at t r o)) none
unset texts r k o e z = rw e refl

module _ {texts r : List ℕ} where
  -- behind its attributes a suite's record holds no outputs yet
  pub suite-begun : {s : TestSuite} → SuiteShown texts r s → SuiteHeld s none none texts r
  suite-begun h = record {
    blank = h.blank;
    name = h.name;
    counts = h.counts;
    timestamp = h.timestamp;
    time = h.time;
    hostname = h.hostname;
    out = unset texts r bit.out word.out h.out;
    err = unset texts r bit.err word.err h.err;
  }

  -- behind its attributes a case's record holds no outputs yet
  pub case-begun : {c : TestCase} → CaseShown texts r c → CaseHeld c none none texts r
  case-begun h = record {
    blank = h.blank;
    name = h.name;
    classname = h.classname;
    assertions = h.assertions;
    timestamp = h.timestamp;
    time = h.time;
    out = unset texts r bit.out word.out h.out;
    err = unset texts r bit.err word.err h.err;
  }

  -- behind its attributes a run's record holds none of its four texts yet
  pub run-begun : {family : FlakyOrRerun} {x : TestRerun} → RunShown family texts r x → RunHeld family x none none none none texts r
  run-begun h = record {
    blank = h.blank;
    message = h.message;
    type = h.type;
    timestamp = h.timestamp;
    time = h.time;
    stack_trace = unset texts r bit.stack_trace word.stack_trace h.stack_trace;
    out = unset texts r bit.out word.out h.out;
    err = unset texts r bit.err word.err h.err;
    description = unset texts r bit.description word.description h.description;
  }

  -- behind its attributes a status element's record holds no description yet
  pub main-begun : {κ : ℕ} {m : Reason} → MainShown κ texts r m → MainHeld κ m none texts r
  main-begun h = record {
    blank = h.blank;
    message = h.message;
    type = h.type;
    description = unset texts r bit.description word.description h.description;
    flaky = h.flaky;
  }

-- ---- more texts are stored
module _ {texts r : List ℕ} (u : List ℕ) where
  -- what a suite's record holds stays when texts are stored behind
  pub suite-on : {s : TestSuite} {o e : Option Text} → SuiteHeld s o e texts r → SuiteHeld s o e (texts ++ u) r
  suite-on h = record {
    blank = h.blank;
    name = lasting-more texts u (λ t. text_at t r word.name) h.name;
    counts = h.counts;
    timestamp = h.timestamp;
    time = h.time;
    hostname = lasting-more texts u (λ t. hostname t r) h.hostname;
    out = lasting-more texts u (λ t. system_out t r) h.out;
    err = lasting-more texts u (λ t. system_err t r) h.err;
  }

  -- what a case's record holds stays when texts are stored behind
  pub case-on : {c : TestCase} {o e : Option Text} → CaseHeld c o e texts r → CaseHeld c o e (texts ++ u) r
  case-on h = record {
    blank = h.blank;
    name = lasting-more texts u (λ t. text_at t r word.name) h.name;
    classname = lasting-more texts u (λ t. second t r) h.classname;
    assertions = h.assertions;
    timestamp = h.timestamp;
    time = h.time;
    out = lasting-more texts u (λ t. system_out t r) h.out;
    err = lasting-more texts u (λ t. system_err t r) h.err;
  }

  -- what a run's record holds stays when texts are stored behind
  pub run_on : {family : FlakyOrRerun} {x : TestRerun} {s o e d : Option Text} → RunHeld family x s o e d texts r → RunHeld family x s o e d (texts ++ u) r
  run_on h = record {
    blank = h.blank;
    message = lasting-more texts u (λ t. first t r) h.message;
    type = lasting-more texts u (λ t. second t r) h.type;
    timestamp = h.timestamp;
    time = h.time;
    stack_trace = lasting-more texts u (λ t. stack_trace t r) h.stack_trace;
    out = lasting-more texts u (λ t. system_out t r) h.out;
    err = lasting-more texts u (λ t. system_err t r) h.err;
    description = lasting-more texts u (λ t. description t r) h.description;
  }

  -- what a status element's record holds stays when texts are stored behind
  pub main-on : {κ : ℕ} {m : Reason} {d : Option Text} → MainHeld κ m d texts r → MainHeld κ m d (texts ++ u) r
  main-on h = record {
    blank = h.blank;
    message = lasting-more texts u (λ t. first t r) h.message;
    type = lasting-more texts u (λ t. second t r) h.type;
    description = lasting-more texts u (λ t. description t r) h.description;
    flaky = h.flaky;
  }

-- ---- a text v comes, and is stored behind the others
module _ (texts r v : List ℕ) where
  abbrev put : ℕ → ℕ → List ℕ
  put o k = put_text o k (length texts) (length v) r

  first_on : {a : Option Text} {r' : List ℕ} → Kept r r' → Lasting texts (λ t. first t r) a → Lasting (texts ++ v) (λ t. first t r') a
  first_on {r' = r'} k h = lasting-kept texts v (λ t. first t r) (λ t. first t r') k.first h

  second-on : {a : Option Text} {r' : List ℕ} → Kept r r' → Lasting texts (λ t. second t r) a → Lasting (texts ++ v) (λ t. second t r') a
  second-on {r' = r'} k h = lasting-kept texts v (λ t. second t r) (λ t. second t r') k.second h

  name-on : {a : Text} {r' : List ℕ} → Kept r r' → Lasting texts (λ t. text_at t r word.name) a → Lasting (texts ++ v) (λ t. text_at t r' word.name) a
  name-on {r' = r'} k h = lasting-kept texts v (λ t. text_at t r word.name) (λ t. text_at t r' word.name) k.name h

  -- standard output stored and put into a suite's record
  pub suite-out : {s : TestSuite} {o e : Option Text} → SuiteHeld s o e texts r → SuiteHeld s (some v) e (texts ++ v) (put_text word.out bit.out (length texts) (length v) r)
  suite-out h =
      let k = out-kept (length texts) (length v) r in
      record {
        blank = blank-kept k.common h.blank;
        name = name-on k.common h.name;
        counts = k.counts ∙ h.counts;
        timestamp = k.common.timestamp ∙ h.timestamp;
        time = k.common.time ∙ h.time;
        hostname = lasting-kept texts v (λ t. hostname t r) (λ t. hostname t (put word.out bit.out)) k.hostname h.hostname;
        out = later-text word.out bit.out texts v r h.blank.long (lit< tt) (lit< tt);
        err = lasting-kept texts v (λ t. system_err t r) (λ t. system_err t (put word.out bit.out)) k.err h.err;
      }

  -- standard error stored and put into a suite's record
  pub suite-err : {s : TestSuite} {o e : Option Text} → SuiteHeld s o e texts r → SuiteHeld s o (some v) (texts ++ v) (put_text word.err bit.err (length texts) (length v) r)
  suite-err h =
      let k = err-kept (length texts) (length v) r in
      record {
        blank = blank-kept k.common h.blank;
        name = name-on k.common h.name;
        counts = k.counts ∙ h.counts;
        timestamp = k.common.timestamp ∙ h.timestamp;
        time = k.common.time ∙ h.time;
        hostname = lasting-kept texts v (λ t. hostname t r) (λ t. hostname t (put word.err bit.err)) k.hostname h.hostname;
        out = lasting-kept texts v (λ t. system_out t r) (λ t. system_out t (put word.err bit.err)) k.out h.out;
        err = later-text word.err bit.err texts v r h.blank.long (lit< tt) (lit< tt);
      }

  -- standard output stored and put into a case's record
  pub case-out : {c : TestCase} {o e : Option Text} → CaseHeld c o e texts r → CaseHeld c (some v) e (texts ++ v) (put_text word.out bit.out (length texts) (length v) r)
  case-out h =
      let k = out-kept (length texts) (length v) r in
      record {
        blank = blank-kept k.common h.blank;
        name = name-on k.common h.name;
        classname = second-on k.common h.classname;
        assertions = k.assertions ∙ h.assertions;
        timestamp = k.common.timestamp ∙ h.timestamp;
        time = k.common.time ∙ h.time;
        out = later-text word.out bit.out texts v r h.blank.long (lit< tt) (lit< tt);
        err = lasting-kept texts v (λ t. system_err t r) (λ t. system_err t (put word.out bit.out)) k.err h.err;
      }

  -- standard error stored and put into a case's record
  pub case-err : {c : TestCase} {o e : Option Text} → CaseHeld c o e texts r → CaseHeld c o (some v) (texts ++ v) (put_text word.err bit.err (length texts) (length v) r)
  case-err h =
      let k = err-kept (length texts) (length v) r in
      record {
        blank = blank-kept k.common h.blank;
        name = name-on k.common h.name;
        classname = second-on k.common h.classname;
        assertions = k.assertions ∙ h.assertions;
        timestamp = k.common.timestamp ∙ h.timestamp;
        time = k.common.time ∙ h.time;
        out = lasting-kept texts v (λ t. system_out t r) (λ t. system_out t (put word.err bit.err)) k.out h.out;
        err = later-text word.err bit.err texts v r h.blank.long (lit< tt) (lit< tt);
      }

  module _ {family : FlakyOrRerun} {x : TestRerun} {s o e d : Option Text} (h : RunHeld family x s o e d texts r) where
    -- a stack trace stored and put into a run's record
    pub run-trace : RunHeld family x (some v) o e d (texts ++ v) (put_text word.stack_trace bit.stack_trace (length texts) (length v) r)
    run-trace =
        let k = trace-kept (length texts) (length v) r in
        let r' : List ℕ = put word.stack_trace bit.stack_trace in
        record {
          blank = blank-kept k.common h.blank;
          message = first_on k.common h.message;
          type = second-on k.common h.type;
          timestamp = k.common.timestamp ∙ h.timestamp;
          time = k.common.time ∙ h.time;
          stack_trace = later-text word.stack_trace bit.stack_trace texts v r h.blank.long (lit< tt) (lit< tt);
          out = lasting-kept texts v (λ t. system_out t r) (λ t. system_out t r') k.out h.out;
          err = lasting-kept texts v (λ t. system_err t r) (λ t. system_err t r') k.err h.err;
          description = lasting-kept texts v (λ t. description t r) (λ t. description t r') k.description h.description;
        }

    -- standard output stored and put into a run's record
    pub run_out : RunHeld family x s (some v) e d (texts ++ v) (put_text word.out bit.out (length texts) (length v) r)
    run_out =
        let k = out-kept (length texts) (length v) r in
        let r' : List ℕ = put word.out bit.out in
        record {
          blank = blank-kept k.common h.blank;
          message = first_on k.common h.message;
          type = second-on k.common h.type;
          timestamp = k.common.timestamp ∙ h.timestamp;
          time = k.common.time ∙ h.time;
          stack_trace = lasting-kept texts v (λ t. stack_trace t r) (λ t. stack_trace t r') k.stack_trace h.stack_trace;
          out = later-text word.out bit.out texts v r h.blank.long (lit< tt) (lit< tt);
          err = lasting-kept texts v (λ t. system_err t r) (λ t. system_err t r') k.err h.err;
          description = lasting-kept texts v (λ t. description t r) (λ t. description t r') k.description h.description;
        }

    -- standard error stored and put into a run's record
    pub run-err : RunHeld family x s o (some v) d (texts ++ v) (put_text word.err bit.err (length texts) (length v) r)
    run-err =
        let k = err-kept (length texts) (length v) r in
        let r' : List ℕ = put word.err bit.err in
        record {
          blank = blank-kept k.common h.blank;
          message = first_on k.common h.message;
          type = second-on k.common h.type;
          timestamp = k.common.timestamp ∙ h.timestamp;
          time = k.common.time ∙ h.time;
          stack_trace = lasting-kept texts v (λ t. stack_trace t r) (λ t. stack_trace t r') k.stack_trace h.stack_trace;
          out = lasting-kept texts v (λ t. system_out t r) (λ t. system_out t r') k.out h.out;
          err = later-text word.err bit.err texts v r h.blank.long (lit< tt) (lit< tt);
          description = lasting-kept texts v (λ t. description t r) (λ t. description t r') k.description h.description;
        }

    -- a description stored and put into a run's record
    pub run-description : RunHeld family x s o e (some v) (texts ++ v) (put_text word.description bit.description (length texts) (length v) r)
    run-description =
        let k = description-kept (length texts) (length v) r in
        let r' : List ℕ = put word.description bit.description in
        record {
          blank = blank-kept k.common h.blank;
          message = first_on k.common h.message;
          type = second-on k.common h.type;
          timestamp = k.common.timestamp ∙ h.timestamp;
          time = k.common.time ∙ h.time;
          stack_trace = lasting-kept texts v (λ t. stack_trace t r) (λ t. stack_trace t r') k.stack_trace h.stack_trace;
          out = lasting-kept texts v (λ t. system_out t r) (λ t. system_out t r') k.out h.out;
          err = lasting-kept texts v (λ t. system_err t r) (λ t. system_err t r') k.err h.err;
          description = later-text word.description bit.description texts v r h.blank.long (lit< tt) (lit< tt);
        }

  -- a description stored and put into a status element's record
  pub main-description : {κ : ℕ} {m : Reason} {d : Option Text} → MainHeld κ m d texts r → MainHeld κ m (some v) (texts ++ v) (put_text word.description bit.description (length texts) (length v) r)
  main-description h =
      let k = description-kept (length texts) (length v) r in
      record {
        blank = blank-kept k.common h.blank;
        message = first_on k.common h.message;
        type = second-on k.common h.type;
        description = later-text word.description bit.description texts v r h.blank.long (lit< tt) (lit< tt);
        flaky = k.common.flaky ∙ h.flaky;
      }
