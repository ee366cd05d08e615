-- Where a status element ends: its description is kept. Assumes nothing.
use Prim.Native.Nat.{ℕ}
use mathlib.Core.Bool.{Bool, true, false, cond}
use mathlib.Core.List.{List, [], ◌∷◌, ◌++◌, append_assoc}
use mathlib.Core.Option.{Option, none, some}
use mathlib.Core.Path.{◌≡◌, refl, ap, subst, ◌∙◌}
use lib.ListN.{length}
use Rattle.round_elements.specs.of_refusal.Refusal.{Outcome, accepted}
use Rattle.round_elements.specs.of_trim.Trim.{trimmed}
use Rattle.round_elements.specs.of_table.Event.{End}
use Rattle.round_elements.specs.of_tree_record.Words as word
use Rattle.round_elements.specs.of_tree_record.Bits as bit
use Rattle.round_elements.specs.of_tree_status.declared.Tally.{Tally}
use Rattle.round_elements.specs.of_tree_report.Report.{Text}
use Rattle.round_elements.specs.of_tree_put.Put.{put_text}
use Rattle.round_elements.specs.of_read_element.Outcome.{◌>>=◌, Place, unlimited}
use Rattle.round_elements.specs.of_read_state.Control.{case, status, at, close_status, turn}
use Rattle.round_elements.specs.of_read_rules.Rules.{plan_at}
use Rattle.round_elements.specs.of_read_place.Marks.{Marks, marks_after, onward}
use Rattle.round_elements.specs.of_read_content.Content.{Content, with_texts, is_empty, keeping, describing, perform}
use Rattle.round_elements.specs.of_read_machine.Machine.{Machine}
use Rattle.round_elements.specs.of_write_report.Written.{end_tag}
use Rattle.round_case.specs.inside.Amid.{machine, holding, Spots, Reads, Performs, Holder}
use Rattle.round_case.proofs.Following.{amid-reads}
use Rattle.round_case.proofs.Clean.{Describes, clean-same}
use Rattle.round_case.proofs.Steps.{tag-reads, keeps}

-- the pieces D come to the description
abbrev pub Gathered : Option Text → List ℕ → Type 0
Gathered none D = D ≡ []
Gathered (some d) D = trimmed D ≡ trimmed d

-- the record that stands behind xs, with texts behind the others
pub record Described (v : Option Text) (Shown : Option Text → List ℕ → List ℕ → Type 0) (base : List ℕ) (xs : List (List ℕ)) (c : Content) : Type 0 where
  pub row : List ℕ
  pub added : List ℕ
  pub shown : Shown v (base ++ added) row
  pub whole : c ≡ holding (xs ++ (row ∷ [])) (base ++ added) [] []

module _ (Shown : Option Text → List ℕ → List ℕ → Type 0)
    (put : (t : Text) (texts r : List ℕ) → Shown none texts r → Shown (some t) (texts ++ t) (put_text word.description bit.description (length texts) (length t) r)) where
  describes_so : (v : Option Text) (D : List ℕ) → Describes v → Gathered v D → (base : List ℕ) (xs : List (List ℕ)) (r added : List ℕ)
      → Shown none (base ++ added) r → (m : Marks) → m.status_at_of ≡ length xs → (p : Place)
      → Performs (describing unlimited p m (holding (xs ++ (r ∷ [])) (base ++ added) D [])) (Described v Shown base xs)
  unfolding describing ◌>>=◌
  describes_so none D c e base xs r added h m i p =
      record {
        after = holding (xs ++ (r ∷ [])) (base ++ added) [] [];
        answer = rw e refl;
        holds = record { row = r; added = added; shown = h; whole = refl };
      }
  describes_so (some d) D c e base xs r added h m i p =
      let texts : List ℕ = base ++ added in
      let r' : List ℕ = put_text word.description bit.description (length texts) (length d) r in
      let some_left : is_empty (trimmed D) ≡ false = ap is_empty (e ∙ c.0.bare) ∙ c.1 in
      let longer : texts ++ d ≡ base ++ (added ++ d) = append_assoc base added d in
      record {
        after = holding (xs ++ (r' ∷ [])) (texts ++ d) [] [];
        answer =
            ap (λ (t : Bool). cond t (accepted (holding (xs ++ (r ∷ [])) texts [] []))
            (keeping unlimited p true m.status_at_of word.description bit.description D (holding (xs ++ (r ∷ [])) texts D []) >>= λ x. accepted (with_texts x [] []))) some_left
            ∙ ap (λ (o : Outcome Content). o >>= λ x. accepted (with_texts x [] []))
            (keeps word.description bit.description D d (clean-same c.0 D e) xs r [] texts D [] p true m.status_at_of refl i);
        holds = record {
          row = r';
          added = added ++ d;
          shown = subst (λ (x : List ℕ). Shown (some d) x r') longer (put d texts r h);
          whole = ap (λ (x : List ℕ). holding (xs ++ (r' ∷ [])) x [] []) longer;
        };
      }

  pub status-closes : {n : ℕ} {tally : Tally} {s : Machine} {base D : List ℕ} {xs : List (List ℕ)} {spots : Spots} (name : List ℕ) (v : Option Text)
      → Describes v → Gathered v D → plan_at (at status) true End name ≡ close_status
      → spots.status_at_of ≡ length xs → Holder status tally base xs [] D spots (Shown none) s → Reads n (end_tag name ∷ []) s (Holder case tally base xs [] [] spots (Shown v))
  unfolding perform turn marks_after
  status-closes {tally = tally} {base = base} {D = D} {xs = xs} name v c g plan i h =
      amid-reads h.amid (λ m q. tag-reads {Q = Described v Shown base xs} End name [] (at status) tally (holding (xs ++ (h.row ∷ [])) (base ++ h.added) D []) m close_status plan
      (λ p j. describes_so v D c g base xs h.row h.added h.shown m (ap (λ (x : Spots). x.status_at_of) q ∙ i) p)
      (λ x f. record {
        row = f.row;
        added = f.added;
        shown = f.shown;
        amid = record { marks = onward m; here = ap (λ (y : Content). machine (at case) tally y (onward m)) f.whole; same = q };
      }))
