-- What stands inside a suite, read back. Assumes nothing.
use Prim.Native.Nat.{ℕ}
use mathlib.Core.Bool.{false}
use mathlib.Core.List.{List, ◌∷◌, ◌++◌, append_assoc}
use mathlib.Core.Path.{◌≡◌, refl, sym, ap, subst, ◌∙◌}
use lib.Dec.{eqb}
use lib.ListN.{length}
use Rattle.round_rooms.specs.of_table.Event.{Event}
use Rattle.round_rooms.specs.of_tree_record.Kinds as kind
use Rattle.round_rooms.specs.of_tree_report.Report.{Pair, TestSuite}
use Rattle.round_rooms.specs.of_tree_report.Fields.{kind_of}
use Rattle.round_rooms.proofs.of_tree_report.EncodeLists.{Each, done, more}
use Rattle.round_rooms.specs.of_read_state.Control.{suite}
use Rattle.round_rooms.specs.of_read_machine.Machine.{Machine}
use Rattle.round_rooms.specs.of_write_report.Written.{each, serialize_properties, serialize_outputs, serialize_test_case, numbered}
use Rattle.round_case.specs.of_round_elements.inside.Opened.{PairsShown, none as no-pair, more as a_pair, SuiteShown}
use Rattle.round_case.specs.of_round_elements.inside.Read.{Stands}
use Rattle.round_case.proofs.of_round_elements.Places.{pairs-later}
use Rattle.round_case.proofs.of_round_elements.Gathered.{suite-begun, suite-on}
use Rattle.round_report.proofs.PlainParts.{PlainSuite}
use Rattle.round_report.proofs.Leading.{leads-then, Goes, behind, numbered-append}
use Rattle.round_report.proofs.Reading.{Reads, reads_then}
use Rattle.round_report.proofs.Shown.{CasesShown, cases-on, SuiteRecords}
use Rattle.round_report.proofs.Decoding.{suite-records}
use Rattle.round_report.proofs.Properties.{properties-read}
use Rattle.round_report.proofs.Cases.{cases-read}
use Rattle.round_report.proofs.SuiteOutputs.{goods, OutputsRead, outputs-read}
use Rattle.round_report.proofs.Childless.{children}

-- its properties and the rows of its cases
record Middle (s : TestSuite) (texts : List ℕ) (rs : List (List ℕ)) : Type 0 where
  pub properties : List (List ℕ)
  pub rows : List (List ℕ)
  pub whole : rs ≡ properties ++ rows
  pub pairs : PairsShown kind.suite_property texts properties s.properties
  pub cases : CasesShown texts rows s.cases

-- none of the records of a suite and its extras is a property
no-property : {texts : List ℕ} {rs : List (List ℕ)} {ps : List Pair} → PairsShown kind.suite_extra texts rs ps → Each (λ r. eqb (kind_of r) kind.suite_property ≡ false) rs
no-property no-pair = done
no-property (a_pair h hs) = more (ap (λ (k : ℕ). eqb k 4) h.blank.kind) (no-property hs)

pub record InsideRead (es : List Event) (m : Machine) (before : List (List ℕ)) (texts : List ℕ) (s : TestSuite) : Type 0 where
  pub main : List ℕ
  pub rest : List (List ℕ)
  pub added : List ℕ
  pub goes : Goes es m (Stands suite (length before) (before ++ (main ∷ rest)) (texts ++ added))
  pub read : SuiteRecords (texts ++ added) (main ∷ rest) s

module _ (s : TestSuite) (g : PlainSuite s) where
  abbrev first : List Event
  first = serialize_properties s.properties

  abbrev second : List Event
  second = each serialize_test_case s.cases

  abbrev third : List Event
  third = serialize_outputs s.system_out s.system_err

  numbered-inside : (n : ℕ) → numbered n (children s) ≡ (numbered n first ++ numbered (behind n first) second) ++ numbered (behind (behind n first) second) third
  numbered-inside n =
      numbered-append n first (second ++ third) ∙ ap (λ (l : List Event). numbered n first ++ l) (numbered-append (behind n first) second third)
      ∙ sym (append_assoc (numbered n first) (numbered (behind n first) second) (numbered (behind (behind n first) second) third))

  module _ (n : ℕ) (before : List (List ℕ)) (main : List ℕ) (extras : List (List ℕ)) (texts : List ℕ) (m : Machine)
      (h : SuiteShown texts main s) (x : PairsShown kind.suite_extra texts extras s.extra) (k : Stands suite (length before) (before ++ (main ∷ extras)) texts m) where
    middle-read : Reads (numbered n first ++ numbered (behind n first) second) m (Stands suite (length before)) (Middle s) (before ++ (main ∷ extras)) texts
    middle-read =
        reads_then (Stands suite (length before)) (λ t rs. PairsShown 4 t rs s.properties) (before ++ (main ∷ extras)) texts
        (Stands suite (length before)) (λ t rs. CasesShown t rs s.cases) (Middle s) (numbered n first) (numbered (behind n first) second) m
        (properties-read n s.properties g.properties before texts m (more (ap (λ (k : ℕ). eqb k 4) h.blank.kind) (no-property x)) k)
        (cases-read (behind n first) (length before) g.cases)
        (λ v w rs qs a b. record { properties = rs; rows = qs; whole = refl; pairs = pairs-later v w a; cases = b })

    abbrev rows : List (List ℕ)
    rows = middle-read.rows

    abbrev held : List ℕ
    held = texts ++ middle-read.added

    middle-stands : Stands suite (length before) (before ++ (main ∷ (extras ++ rows))) held middle-read.goes.after
    middle-stands =
        subst (λ (l : List (List ℕ)). Stands suite (length before) l held middle-read.goes.after) (append_assoc before (main ∷ extras) rows) middle-read.goes.holds

    last-read : OutputsRead (numbered (behind (behind n first) second) third) middle-read.goes.after before (extras ++ rows) held s s.system_out s.system_err
    last-read =
        let q = goods s g.row g.bare in
        outputs-read before (extras ++ rows) s (behind (behind n first) second) main held middle-read.goes.after s.system_out s.system_err q.0 q.1
        (suite-on middle-read.added (suite-begun h)) middle-stands

    read-so : SuiteRecords (held ++ last-read.added) (last-read.main ∷ (extras ++ rows)) s
    read-so =
        let d = middle-read.read in
        let v = last-read.added in
        let o = append_assoc texts middle-read.added v in
        subst (λ (l : List (List ℕ)). SuiteRecords (held ++ v) (last-read.main ∷ (extras ++ l)) s) (sym d.whole)
        (suite-records s last-read.head
        (subst (λ (t : List ℕ). PairsShown 13 t extras s.extra) (sym o) (pairs-later texts (middle-read.added ++ v) x))
        (pairs-later held v d.pairs) (cases-on v d.cases))

    pub inside-read : InsideRead (numbered n (children s)) m before texts s
    inside-read =
        let v = last-read.added in
        let o = append_assoc texts middle-read.added v in
        let after = last-read.goes.after in
        record {
          main = last-read.main;
          rest = extras ++ rows;
          added = middle-read.added ++ v;
          goes = subst (λ (l : List Event). Goes l m (Stands suite (length before) (before ++ (last-read.main ∷ (extras ++ rows))) (texts ++ (middle-read.added ++ v)))) (sym (numbered-inside n))
              (record {
                after = after;
                leads = leads-then (numbered n first ++ numbered (behind n first) second) (numbered (behind (behind n first) second) third)
                    m middle-read.goes.after after middle-read.goes.leads last-read.goes.leads;
                holds = subst (λ (t : List ℕ). Stands suite (length before) (before ++ (last-read.main ∷ (extras ++ rows))) t after) o last-read.goes.holds;
              });
          read = subst (λ (t : List ℕ). SuiteRecords t (last-read.main ∷ (extras ++ rows)) s) o read-so;
        }
