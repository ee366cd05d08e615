-- Where a case begins and where it ends. Assumes nothing.
use Prim.Native.Nat.{ℕ, zero}
use mathlib.Core.Bool.{Bool, true, false, cond}
use mathlib.Core.List.{List, [], ◌∷◌, ◌++◌}
use mathlib.Core.Path.{◌≡◌, refl, ap, ◌∙◌}
use lib.ListN.{length}
use Rattle.round_elements.specs.of_names.Bytes.{bytes}
use Rattle.round_elements.specs.of_names.Names.{same_bytes, code_from}
use Rattle.round_elements.specs.of_names.Tags.{tags}
use Rattle.round_elements.specs.of_table.Event.{Attribute, TagKind, Start, Empty, End, Tag}
use Rattle.round_elements.specs.of_tree_record.Kinds as kind
use Rattle.round_elements.specs.of_tree_status.declared.Tally.{Tally}
use Rattle.round_elements.specs.of_tree_status.Status.{no_status, ruled}
use Rattle.round_elements.specs.of_tree_report.Report.{Pair}
use Rattle.round_elements.specs.of_tree_report.Fields.{kind_of}
use Rattle.round_elements.proofs.of_tree_report.EncodeLists.{Each, done, more}
use Rattle.round_elements.specs.of_read_element.Outcome.{need, Place, unlimited}
use Rattle.round_elements.specs.of_read_element.Attributes.{read_element}
use Rattle.round_elements.specs.of_read_state.Control.{suite, case, at, control, open_case, close_case, turn}
use Rattle.round_elements.specs.of_read_rules.Rules.{at_suite, at_case, plan_at}
use Rattle.round_elements.specs.of_read_place.Marks.{marks_after, onward}
use Rattle.round_elements.specs.of_read_content.Content.{Content, kill_kind, perform}
use Rattle.round_elements.specs.of_read_machine.Machine.{Machine}
use Rattle.round_elements.specs.of_write_report.Written.{end_tag}
use Rattle.round_elements.specs.inside.Opened.{PairsShown, Opened}
use Rattle.round_elements.specs.inside.Read.{Stands}
use Rattle.round_case.specs.inside.Amid.{machine, holding, Spots, spots_of, Amid, Reads, Between}
use Rattle.round_case.proofs.Following.{amid-reads}
use Rattle.round_case.proofs.Steps.{tag-reads}
use Rattle.round_case.proofs.Opening.{Grows, grows}

pub case-begins : plan_at (at suite) true Start (bytes "testcase") ≡ open_case false
unfolding plan_at at_suite tags code_from same_bytes
case-begins = refl

pub case-stands : plan_at (at suite) true Empty (bytes "testcase") ≡ open_case true
unfolding plan_at at_suite tags code_from same_bytes
case-stands = refl

case-ends : plan_at (at case) true End (bytes "testcase") ≡ close_case
unfolding plan_at at_case tags code_from same_bytes
case-ends = refl

-- inside a suite
stands-amid : {i : ℕ} {records : List (List ℕ)} {texts : List ℕ} {s : Machine} → Stands suite i records texts s
    → Amid (at suite) s.control.tally (holding records texts [] []) (spots_of s.marks) s
stands-amid {s = s} h =
    let c : s.control ≡ control (at suite) true false s.control.tally = λ x. control (h.mode x) (h.seen x) (h.closed x) s.control.tally in
    record { marks = s.marks; here = λ x. record { control = c x; content = h.content x; marks = s.marks }; same = refl }

amid-stands : {tally : Tally} {i : ℕ} {records : List (List ℕ)} {texts : List ℕ} {spots : Spots} {s : Machine}
    → spots.suite_at_of ≡ i → Amid (at suite) tally (holding records texts [] []) spots s → Stands suite i records texts s
amid-stands e a =
    let h = a.here in
    record {
      mode = ap (λ (x : Machine). x.control.mode) h;
      seen = ap (λ (x : Machine). x.control.seen) h;
      closed = ap (λ (x : Machine). x.control.closed) h;
      content = ap (λ (x : Machine). x.content) h;
      suite_at_of = ap (λ (x : Machine). x.marks.suite_at_of) h ∙ ap (λ (x : Spots). x.suite_at_of) a.same ∙ e;
    }

-- its record and extras stand behind the others
pub record Begun (Shown : List ℕ → List ℕ → Type 0) (extra : List Pair) (is_empty : Bool) (i : ℕ) (records : List (List ℕ)) (texts : List ℕ) (s : Machine) : Type 0 where
  pub main : List ℕ
  pub extras : List (List ℕ)
  pub added : List ℕ
  pub shown : Shown (texts ++ added) main
  pub pairs : PairsShown kind.case_extra (texts ++ added) extras extra
  pub stands : Between (at (cond is_empty suite case)) no_status i (length records) (records ++ (main ∷ extras)) (texts ++ added) s

module _ (k : TagKind) (is_empty : Bool) (xs : List Attribute) (plan : plan_at (at suite) true k (bytes "testcase") ≡ open_case is_empty) where
  pub case-opens : {Shown : List ℕ → List ℕ → Type 0} {extra : List Pair} {n i : ℕ} {records : List (List ℕ)} {texts : List ℕ} {s : Machine}
      → ((p : Place) (j : ℕ) → Opened kind.case Shown extra records texts (read_element unlimited p kind.case j xs records texts)) → Stands suite i records texts s
      → Reads n (Tag k (bytes "testcase") 0 xs ∷ []) s (Begun Shown extra is_empty i records texts)
  unfolding perform turn marks_after
  case-opens {Shown} {extra} {records = records} {texts = texts} {s = s} opened h =
      amid-reads (stands-amid h)
      (λ m q. tag-reads {Q = Grows kind.case Shown extra records texts} k (bytes "testcase") xs (at suite) s.control.tally (holding records texts [] []) m (open_case is_empty) plan
      (λ p j. grows p kind.case j xs records texts (opened p j))
      (λ c g. record {
        main = g.main;
        extras = g.extras;
        added = g.added;
        shown = g.shown;
        pairs = g.pairs;
        stands = record {
          spots = spots_of (onward (marks_after (open_case is_empty) (length records) m));
          amid = record {
            marks = onward (marks_after (open_case is_empty) (length records) m);
            here = ap (λ (x : Content). machine (at (cond is_empty suite case)) no_status x (onward (marks_after (open_case is_empty) (length records) m))) g.whole;
            same = refl;
          };
          suite_at_of = ap (λ (x : Spots). x.suite_at_of) q ∙ h.suite_at_of;
          case_at_of = refl;
        };
      }))

-- an Empty case is whole at once
pub between-stands : {tally : Tally} {i k : ℕ} {records : List (List ℕ)} {texts : List ℕ} {s : Machine} → Between (at suite) tally i k records texts s → Stands suite i records texts s
between-stands b = amid-stands b.suite_at_of b.amid

pub case-closes : {n i : ℕ} {tally : Tally} {records : List (List ℕ)} {texts : List ℕ} {spots : Spots} {s : Machine}
    → ruled tally ≡ true → spots.suite_at_of ≡ i → Amid (at case) tally (holding records texts [] []) spots s
    → Reads n (end_tag (bytes "testcase") ∷ []) s (Stands suite i records texts)
unfolding perform need turn marks_after
case-closes {tally = tally} {records = records} {texts = texts} r e a =
    let c : Content = holding records texts [] [] in
    amid-reads a (λ m q. tag-reads {Q = λ x. x ≡ c} End (bytes "testcase") [] (at case) tally c m close_case case-ends
    (λ p j. record { after = c; answer = rw r refl; holds = refl })
    (λ x f. amid-stands (ap (λ (y : Spots). y.suite_at_of) q ∙ e) (record {
      marks = onward (marks_after close_case (length records) m);
      here = ap (λ (y : Content). machine (at suite) no_status y (onward (marks_after close_case (length records) m))) f;
      same = refl;
    })))

-- ---- no property stands behind the case's record yet
kill-none : {rs : List (List ℕ)} → Each (λ r. kind_of r ≡ kind.case_extra) rs → kill_kind kind.case_property zero rs ≡ rs
kill-none done = refl
kill-none (more {x = r} e es) = rw e (ap (λ (l : List (List ℕ)). r ∷ l) (kill-none es))

pub kill-behind : (records : List (List ℕ)) (main : List ℕ) {extras : List (List ℕ)} → kind_of main ≡ kind.case → Each (λ r. kind_of r ≡ kind.case_extra) extras
    → kill_kind kind.case_property (length records) (records ++ (main ∷ extras)) ≡ records ++ (main ∷ extras)
kill-behind [] main e es = rw e (ap (λ (l : List (List ℕ)). main ∷ l) (kill-none es))
kill-behind (r ∷ records) main e es = ap (λ (l : List (List ℕ)). r ∷ l) (kill-behind records main e es)
