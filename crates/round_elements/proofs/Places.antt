-- Texts keep their place while others are stored behind them. Assumes nothing.
use Prim.Native.Nat.{ℕ, ◌+◌}
use mathlib.Core.List.{List, ◌++◌, append_assoc}
use mathlib.Core.Option.{Option, none, some}
use mathlib.Core.Path.{◌≡◌, refl, ap, ◌∙◌}
use lib.ListN.{length, get_or, take, drop}
use lib.Seq.{take_at, drop-append_seam}
use Rattle.write_report.specs.of_tree_report.Report.{Text, Pair, TestCase, TestSuite, Report}
use Rattle.write_report.specs.of_tree_report.Fields.{has_bit, given, text_at, first, second, hostname}
use Rattle.write_report.specs.of_tree_report.ReportOf.{pair_of}
use Rattle.write_report.specs.of_tree_report.inside.Cells.{is_given, first_word, second_word, stored, of_text}
use Rattle.read_machine.specs.of_tree_record.Words as word
use Rattle.round_elements.specs.inside.Opened.{Lasting, PairShown, PairsShown, none as noPairs, more, ReportShown, SuiteShown, CaseShown}
use Rattle.round_elements.proofs.Steps.{text_cell}

-- what lasts with texts lasts with longer ones
pub lasting-more : {A : Type 0} (s u : List ℕ) (f : List ℕ → A) {a : A} → Lasting s f a → Lasting (s ++ u) f a
lasting-more s u f h z = ap f (append_assoc s u z) ∙ h (u ++ z)

-- a text at x, if there is one
abbrev pub Stands : List ℕ → ℕ → Option Text → Type 0
Stands s x none = Unit {0}
Stands s x (some v) = Lasting s (λ z. take (length v) (drop x z)) v

pub stands-new : (s : List ℕ) (t : Option Text) → Stands (s ++ stored (of_text t)) (length s) t
stands-new s none = tt
stands-new s (some v) = λ z. rw (append_assoc s v z, drop-append_seam s (v ++ z)) (take_at v z (length v) refl)

pub stands-more : (s u : List ℕ) (x : ℕ) (t : Option Text) → Stands s x t → Stands (s ++ u) x t
stands-more s u x none h = tt
stands-more s u x (some v) h = lasting-more s u (λ z. take (length v) (drop x z)) h

pub text-shown : (s r : List ℕ) (k o x : ℕ) (t : Option Text) → has_bit k r ≡ is_given (text_cell x t)
    → get_or r o 0 ≡ first_word 0 (text_cell x t) → get_or r (o + 1) 0 ≡ second_word (text_cell x t) → Stands s x t → Lasting s (λ z. given (has_bit k r) (text_at z r o)) t
text-shown s r k o x none b v w h = λ z. rw b refl
text-shown s r k o x (some t) b v w h = λ z. rw (b, v, w) (ap (λ (l : Text). some l) (h z))

-- ---- what a record shows it shows with more texts
module _ (s u r : List ℕ) where
  -- a record that shows a pair shows it with longer texts
  pub pair-later : {κ : ℕ} {p : Pair} → PairShown κ s r p → PairShown κ (s ++ u) r p
  pair-later h = record { blank = h.blank; pair = lasting-more s u (λ t. pair_of t r) h.pair }

  -- a record that shows a report's own fields shows them with longer texts
  pub report-later : {p : Report} → ReportShown s r p → ReportShown (s ++ u) r p
  report-later h = record {
    blank = h.blank;
    name = lasting-more s u (λ t. first t r) h.name;
    uuid = h.uuid;
    timestamp = h.timestamp;
    time = h.time;
    counts = h.counts;
  }

  pub suite-later : {p : TestSuite} → SuiteShown s r p → SuiteShown (s ++ u) r p
  suite-later h = record {
    blank = h.blank;
    name = lasting-more s u (λ t. text_at t r word.name) h.name;
    counts = h.counts;
    timestamp = h.timestamp;
    time = h.time;
    hostname = lasting-more s u (λ t. hostname t r) h.hostname;
    out = h.out;
    err = h.err;
  }

  pub case-later : {c : TestCase} → CaseShown s r c → CaseShown (s ++ u) r c
  case-later h = record {
    blank = h.blank;
    name = lasting-more s u (λ t. text_at t r word.name) h.name;
    classname = lasting-more s u (λ t. second t r) h.classname;
    assertions = h.assertions;
    timestamp = h.timestamp;
    time = h.time;
    out = h.out;
    err = h.err;
  }

-- records that show pairs show them with longer texts
pub pairs-later : {κ : ℕ} (s u : List ℕ) {rs : List (List ℕ)} {ps : List Pair} → PairsShown κ s rs ps → PairsShown κ (s ++ u) rs ps
pairs-later s u noPairs = noPairs
pairs-later s u (more {r = r} h hs) = more (pair-later s u r h) (pairs-later s u hs)
