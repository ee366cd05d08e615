-- The records of lists of pairs, cases and suites, and what they show. Assumes nothing.
use Prim.Native.Nat.{ℕ, ◌≤◌}
use mathlib.Core.List.{List, [], ◌∷◌, ◌++◌}
use mathlib.Core.Path.{◌≡◌}
use Rattle.round_rooms.specs.of_tree_record.Kinds as kind
use Rattle.round_rooms.specs.of_tree_report.Report.{Pair, TestCase, TestSuite}
use Rattle.round_rooms.specs.of_tree_report.Fields.{kind_of}
use Rattle.round_rooms.specs.of_tree_report.ReportOf.{case_of, suite_of}
use Rattle.round_rooms.proofs.of_tree_report.EncodeLists.{Each}
use Rattle.round_case.specs.of_round_elements.inside.Opened.{Lasting, PairsShown, none, more}
use Rattle.round_case.specs.of_round_elements.inside.Read.{CaseRecords}
use Rattle.round_case.proofs.of_round_elements.Places.{lasting-more, pairs-later}

-- ---- pairs
pub pairs-join : {κ : ℕ} {texts : List ℕ} {rs qs : List (List ℕ)} {ps os : List Pair} → PairsShown κ texts rs ps → PairsShown κ texts qs os → PairsShown κ texts (rs ++ qs) (ps ++ os)
pairs-join none k = k
pairs-join (more h hs) k = more h (pairs-join hs k)

-- ---- cases
pub data CasesShown (texts : List ℕ) : List (List ℕ) → List TestCase → Type 0 where
  no-case : CasesShown texts [] []
  a_case : {rs qs : List (List ℕ)} {c : TestCase} {cs : List TestCase} → CaseRecords texts rs c → CasesShown texts qs cs → CasesShown texts (rs ++ qs) (c ∷ cs)

pub case-on : (texts v : List ℕ) (rs : List (List ℕ)) (c : TestCase) → CaseRecords texts rs c → CaseRecords (texts ++ v) rs c
case-on texts v rs c h =
    record {
      head = h.head;
      below = h.below;
      whole = h.whole;
      kind = h.kind;
      others = h.others;
      case = lasting-more texts v (λ t. case_of t (record { head = h.head; below = h.below })) h.case;
    }

pub cases-on : {texts : List ℕ} {rs : List (List ℕ)} {cs : List TestCase} (v : List ℕ) → CasesShown texts rs cs → CasesShown (texts ++ v) rs cs
cases-on v no-case = no-case
cases-on {texts} v (a_case {rs = rs} {c = c} h hs) = a_case (case-on texts v rs c h) (cases-on v hs)

-- ---- suites
-- below a suite stand no suites and no report
pub record Lower (r : List ℕ) : Type 0 where
  pub least : 3 ≤ kind_of r
  pub most : kind_of r ≤ 14

-- in their order
pub record SuiteParts (texts : List ℕ) (below : List (List ℕ)) (s : TestSuite) : Type 0 where
  pub extras : List (List ℕ)
  pub properties : List (List ℕ)
  pub rows : List (List ℕ)
  pub whole : below ≡ extras ++ (properties ++ rows)
  pub extra : PairsShown kind.suite_extra texts extras s.extra
  pub pairs : PairsShown kind.suite_property texts properties s.properties
  pub cases : CasesShown texts rows s.cases

pub record SuiteRecords (texts : List ℕ) (rs : List (List ℕ)) (s : TestSuite) : Type 0 where
  pub head : List ℕ
  pub below : List (List ℕ)
  pub whole : rs ≡ head ∷ below
  pub kind : kind_of head ≡ kind.suite
  pub others : Each Lower below
  pub suite : Lasting texts (λ t. suite_of t (record { head = head; below = below })) s
  pub parts : SuiteParts texts below s

pub data SuitesShown (texts : List ℕ) : List (List ℕ) → List TestSuite → Type 0 where
  no-suite : SuitesShown texts [] []
  a-suite : {rs qs : List (List ℕ)} {s : TestSuite} {ss : List TestSuite} → SuiteRecords texts rs s → SuitesShown texts qs ss → SuitesShown texts (rs ++ qs) (s ∷ ss)

parts-on : (texts v : List ℕ) (below : List (List ℕ)) (s : TestSuite) → SuiteParts texts below s → SuiteParts (texts ++ v) below s
parts-on texts v below s h =
    record {
      extras = h.extras;
      properties = h.properties;
      rows = h.rows;
      whole = h.whole;
      extra = pairs-later texts v h.extra;
      pairs = pairs-later texts v h.pairs;
      cases = cases-on v h.cases;
    }

pub suite-on : (texts v : List ℕ) (rs : List (List ℕ)) (s : TestSuite) → SuiteRecords texts rs s → SuiteRecords (texts ++ v) rs s
suite-on texts v rs s h =
    record {
      head = h.head;
      below = h.below;
      whole = h.whole;
      kind = h.kind;
      others = h.others;
      suite = lasting-more texts v (λ t. suite_of t (record { head = h.head; below = h.below })) h.suite;
      parts = parts-on texts v h.below s h.parts;
    }
