-- Where an element begins: its record stands behind the others, and shows its attributes. Assumes nothing.
use Prim.Native.Nat.{ℕ}
use mathlib.Core.Bool.{Bool, true, cond}
use mathlib.Core.List.{List, [], ◌∷◌, ◌++◌}
use mathlib.Core.Path.{◌≡◌, refl, ap, ◌∙◌}
use lib.ListN.{length}
use Rattle.round_elements.specs.of_refusal.Refusal.{Outcome, accepted}
use Rattle.round_elements.specs.of_table.Event.{Attribute, TagKind, Tag}
use Rattle.round_elements.specs.of_tree_status.declared.Tally.{Tally}
use Rattle.round_elements.specs.of_tree_status.Status.{tallied}
use Rattle.round_elements.specs.of_tree_report.Report.{Pair}
use Rattle.round_elements.specs.of_read_element.Outcome.{◌>>=◌, Place, unlimited}
use Rattle.round_elements.specs.of_read_element.Attributes.{extra_kind, Grown, read_element}
use Rattle.round_elements.specs.of_read_state.Control.{case, status, at, open_status, turn}
use Rattle.round_elements.specs.of_read_rules.Rules.{plan_at}
use Rattle.round_elements.specs.of_read_place.Marks.{marks_after, onward}
use Rattle.round_elements.specs.of_read_content.Content.{Content, grown, adding, perform}
use Rattle.round_elements.specs.of_read_machine.Machine.{Machine}
use Rattle.round_elements.specs.inside.Opened.{PairsShown, none, Opened}
use Rattle.round_case.specs.inside.Amid.{machine, holding, Spots, in_status, Amid, Reads, Performs, Holder}
use Rattle.round_case.proofs.Following.{amid-reads}
use Rattle.round_case.proofs.Steps.{tag-reads}

-- c is what these records and texts become
pub record Grows (κ : ℕ) (Shown : List ℕ → List ℕ → Type 0) (extra : List Pair) (records : List (List ℕ)) (texts : List ℕ) (c : Content) : Type 0 where
  pub main : List ℕ
  pub extras : List (List ℕ)
  pub added : List ℕ
  pub whole : c ≡ holding (records ++ (main ∷ extras)) (texts ++ added) [] []
  pub shown : Shown (texts ++ added) main
  pub pairs : PairsShown (extra_kind κ) (texts ++ added) extras extra

pub grows : {Shown : List ℕ → List ℕ → Type 0} {extra : List Pair} (p : Place) (κ j : ℕ) (xs : List Attribute) (records : List (List ℕ)) (texts : List ℕ)
    → Opened κ Shown extra records texts (read_element unlimited p κ j xs records texts) → Performs (adding unlimited p κ j xs (holding records texts [] [])) (Grows κ Shown extra records texts)
unfolding adding ◌>>=◌
grows p κ j xs records texts o =
    record {
      after = holding (records ++ (o.main ∷ o.extras)) (texts ++ o.added) [] [];
      answer = ap (λ (g : Outcome Grown). g >>= λ x. accepted (grown (holding records texts [] []) x)) o.answer;
      holds = record { main = o.main; extras = o.extras; added = o.added; whole = refl; shown = o.shown; pairs = o.pairs };
    }

-- no pairs take no records
pub no_pairs : {κ : ℕ} {texts : List ℕ} {rs : List (List ℕ)} → PairsShown κ texts rs [] → rs ≡ []
no_pairs none = refl

-- a status element of kind κ, Start or Empty
module _ (k : TagKind) (is_empty : Bool) (name : List ℕ) (κ : ℕ) (xs : List Attribute) (plan : plan_at (at case) true k name ≡ open_status κ is_empty) where
  pub status-opens : {Shown : List ℕ → List ℕ → Type 0} {n : ℕ} {tally : Tally} {records : List (List ℕ)} {texts : List ℕ} {spots : Spots} {s : Machine}
      → ((p : Place) (j : ℕ) → Opened κ Shown [] records texts (read_element unlimited p κ j xs records texts)) → Amid (at case) tally (holding records texts [] []) spots s
      → Reads n (Tag k name 0 xs ∷ []) s (Holder (cond is_empty case status) (tallied tally κ) texts records [] [] (in_status spots (length records) κ) Shown)
  unfolding perform turn marks_after
  status-opens {Shown} {tally = tally} {records = records} {texts = texts} opened a =
      amid-reads a (λ m q. tag-reads {Q = Grows κ Shown [] records texts} k name xs (at case) tally (holding records texts [] []) m (open_status κ is_empty) plan
      (λ p j. grows p κ j xs records texts (opened p j))
      (λ c g. record {
        row = g.main;
        added = g.added;
        shown = g.shown;
        amid = record {
          marks = onward (marks_after (open_status κ is_empty) (length records) m);
          here = ap (λ (x : Content). machine (at (cond is_empty case status)) (tallied tally κ) x (onward (marks_after (open_status κ is_empty) (length records) m)))
              (g.whole ∙ ap (λ (rs : List (List ℕ)). holding (records ++ (g.main ∷ rs)) (texts ++ g.added) [] []) (no_pairs g.pairs));
          same = ap (λ (x : Spots). in_status x (length records) κ) q;
        };
      }))
