-- A plain case is read back from its own events. Assumes nothing.
use Prim.Native.Nat.{ℕ}
use mathlib.Core.Bool.{true, false}
use mathlib.Core.List.{List, [], ◌∷◌, ◌++◌, append_assoc, append-nil}
use mathlib.Core.Option.{Option, none}
use mathlib.Core.Path.{◌≡◌, refl, sym, ap, subst, ◌∙◌}
use Rattle.round_elements.specs.of_names.Bytes.{bytes}
use Rattle.round_elements.specs.of_table.Event.{Start, Empty, Event, Tag}
use Rattle.round_elements.specs.of_tree_record.Kinds as kind
use Rattle.round_elements.specs.of_tree_status.Status.{no_status}
use Rattle.round_elements.specs.of_tree_report.Report.{Text, Pair, TestCaseStatus, TestCase}
use Rattle.round_elements.specs.of_tree_report.inside.Cells.{every, fits_row, case_rows}
use Rattle.round_elements.specs.of_read_state.Control.{suite}
use Rattle.round_elements.specs.of_read_machine.Machine.{Machine}
use Rattle.round_elements.specs.of_write_report.Written.{start_tag, end_tag, element, case_attributes, serialize_properties, serialize_elements, serialize_outputs, serialize_test_case, numbered}
use Rattle.round_elements.specs.inside.Opened.{CaseShown, PairsShown, none as no_pairs}
use Rattle.round_elements.specs.inside.Read.{Stands, CaseRecords, CaseRead}
use Rattle.round_elements.specs.inside.Held.{CaseHeld}
use Rattle.round_elements.specs.inside.PlainCase.{PlainCase}
use Rattle.round_elements.proofs.Places.{pairs-later}
use Rattle.round_elements.proofs.Elements.{case-opened}
use Rattle.round_elements.proofs.Gathered.{case-begun}
use Rattle.round_case.specs.inside.Amid.{Reads}
use Rattle.round_case.specs.inside.Kept.{StatusWhole, none as no_runs, status_tally}
use Rattle.round_case.proofs.Following.{reads_then, reads_as}
use Rattle.round_case.proofs.Properties.{properties-read}
use Rattle.round_case.proofs.Ruled.{status-ruled}
use Rattle.round_case.proofs.StatusRows.{success-whole, status-more}
use Rattle.round_case.proofs.Statuses.{status-reads}
use Rattle.round_case.proofs.CaseRows.{pairs-kind, case-whole}
use Rattle.round_case.proofs.CaseEnds.{Begun, case-begins, case-stands, case-opens, between-stands, case-closes, kill-behind}
use Rattle.round_case.proofs.Childless.{childless}
use Rattle.round_case.proofs.Conditions.{CaseClean, case-clean}
use Rattle.round_case.proofs.Stages.{Parts, Lasts, parts_last, Mid, stage, outputs-read}

-- the records of a whole case stand behind the others
record Whole (c : TestCase) (i : ℕ) (records : List (List ℕ)) (texts : List ℕ) (s : Machine) : Type 0 where
  rows : List (List ℕ)
  added : List ℕ
  stands : Stands suite i (records ++ rows) (texts ++ added) s
  read : CaseRecords (texts ++ added) rows c

-- ---- below its record: extras, properties, status elements
abbrev Extras : TestCase → List ℕ → List (List ℕ) → Type 0
Extras c t rs = PairsShown kind.case_extra t rs c.extra

abbrev Properties : TestCase → List ℕ → List (List ℕ) → Type 0
Properties c t rs = PairsShown kind.case_property t rs c.properties

abbrev Below : TestCase → List ℕ → List (List ℕ) → Type 0
Below c = Parts (Parts (Extras c) (Properties c)) (StatusWhole c.status)

extras-last : (c : TestCase) → Lasts (Extras c)
extras-last c texts v rs h = pairs-later texts v h

properties-last : (c : TestCase) → Lasts (Properties c)
properties-last c texts v rs h = pairs-later texts v h

below_last : (c : TestCase) → Lasts (Below c)
below_last c = parts_last (parts_last (extras-last c) (properties-last c)) (λ texts v rs h. status-more texts v h)

below-records : (c : TestCase) (texts head : List ℕ) (rs : List (List ℕ)) → CaseHeld c c.system_out c.system_err texts head → Below c texts rs → CaseRecords texts (head ∷ rs) c
below-records c texts head rs h b =
    let f : List (List ℕ) = b.first.front in
    let g : List (List ℕ) = b.first.back in
    let e : f ++ (g ++ b.back) ≡ rs = sym (append_assoc f g b.back) ∙ ap (λ (x : List (List ℕ)). x ++ b.back) (sym b.first.whole) ∙ sym b.whole in
    subst (λ (x : List (List ℕ)). CaseRecords texts (head ∷ x) c) e (case-whole h b.first.first b.first.second b.second)

abbrev begun-mid : {c : TestCase} {i : ℕ} {records : List (List ℕ)} {texts : List ℕ} {s : Machine}
    → Begun (λ t x. CaseShown t x c) c.extra false i records texts s → Mid c none none no_status i records texts (Extras c) s
begun-mid b = record { head = b.main; below = b.extras; added = b.added; shown = case-begun b.shown; others = b.pairs; stands = b.stands }

abbrev children : TestCase → List Event
children c = serialize_properties c.properties ++ (serialize_elements c.status ++ serialize_outputs c.system_out c.system_err)

module _ (c : TestCase) (h : CaseClean c) (plain : PlainCase c) {i : ℕ} {records : List (List ℕ)} {texts : List ℕ} where
  children-read : {n : ℕ} {s : Machine} → Begun (λ t x. CaseShown t x c) c.extra false i records texts s
      → Reads n (children c) s (Mid c c.system_out c.system_err (status_tally c.status) i records texts (Below c))
  children-read b =
      reads_then (serialize_properties c.properties) (serialize_elements c.status ++ serialize_outputs c.system_out c.system_err)
      (stage (extras-last c) (begun-mid b) (properties-read c.properties h.properties (kill-behind records b.main b.shown.blank.kind (pairs-kind b.pairs)) b.stands)) (λ j t m.
      reads_then (serialize_elements c.status) (serialize_outputs c.system_out c.system_err)
      (stage (parts_last (extras-last c) (properties-last c)) m (status-reads c.status h.status plain.ruled m.stands)) (λ j t m.
      outputs-read (below_last c) m c.system_out c.system_err h.out h.err))

  -- as Start, children and End
  started : {n : ℕ} {s : Machine} → Stands suite i records texts s
      → Reads n (start_tag (bytes "testcase") (case_attributes c) ∷ (children c ++ (end_tag (bytes "testcase") ∷ []))) s (Whole c i records texts)
  started a =
      reads_then (start_tag (bytes "testcase") (case_attributes c) ∷ []) (children c ++ (end_tag (bytes "testcase") ∷ []))
      (case-opens Start false (case_attributes c) case-begins (λ p j. case-opened p j records texts c h.row h.extras h.time h.timestamp plain.keys) a) (λ j t b.
      reads_then (children c) (end_tag (bytes "testcase") ∷ []) (children-read b) (λ j t m.
      reads_as (case-closes (status-ruled c.status) m.stands.suite_at_of m.stands.amid) (λ u d.
      record { rows = m.head ∷ m.below; added = m.added; stands = d; read = below-records c (texts ++ m.added) m.head m.below m.shown m.others })))

  -- as Empty
  alone : {n : ℕ} {s : Machine} → children c ≡ [] → Stands suite i records texts s → Reads n (Tag Empty (bytes "testcase") 0 (case_attributes c) ∷ []) s (Whole c i records texts)
  alone e a =
      let k = childless c.properties c.status c.system_out c.system_err e in
      reads_as (case-opens Empty true (case_attributes c) case-stands (λ p j. case-opened p j records texts c h.row h.extras h.time h.timestamp plain.keys) a) (λ t b.
      let T : List ℕ = texts ++ b.added in
      let shown : CaseHeld c c.system_out c.system_err T b.main =
      subst (λ (x : Option Text). CaseHeld c x c.system_err T b.main) (sym k.out) (subst (λ (x : Option Text). CaseHeld c none x T b.main) (sym k.err) (case-begun b.shown)) in
      let properties : PairsShown kind.case_property T [] c.properties = subst (λ (x : List Pair). PairsShown kind.case_property T [] x) (sym k.properties) no_pairs in
      let status : StatusWhole c.status T [] = subst (λ (x : TestCaseStatus). StatusWhole x T []) (sym k.status) (success-whole no_runs) in
      record {
        rows = b.main ∷ b.extras;
        added = b.added;
        stands = between-stands b.stands;
        read = subst (λ (x : List (List ℕ)). CaseRecords T (b.main ∷ x) c) (append-nil b.extras) (case-whole shown b.pairs properties status);
      })

  written : {n : ℕ} {s : Machine} (es : List Event) → children c ≡ es → Stands suite i records texts s → Reads n (element (bytes "testcase") (case_attributes c) es) s (Whole c i records texts)
  written [] e a = alone e a
  written {n} {s} (x ∷ xs) e a =
      subst (λ (l : List Event). Reads n (start_tag (bytes "testcase") (case_attributes c) ∷ (l ++ (end_tag (bytes "testcase") ∷ []))) s (Whole c i records texts)) e (started a)

-- reading a plain case's own events behind a suite leaves records from which the case is read back
pub case-read : (c : TestCase) → every fits_row (case_rows c) ≡ true → PlainCase c → (n i : ℕ) (records : List (List ℕ)) (texts : List ℕ) (s : Machine) → Stands suite i records texts s
    → CaseRead i records texts (numbered n (serialize_test_case c)) c s
unfolding serialize_test_case
case-read c fits plain n i records texts s a =
    let r = written c (case-clean c fits plain) plain {n = n} (children c) refl a in
    record { after = r.after; rows = r.holds.rows; added = r.holds.added; leads = r.leads; stands = r.holds.stands; read = r.holds.read }
