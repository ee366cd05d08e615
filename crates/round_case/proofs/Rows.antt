-- Rows behind rows, amid a case. Assumes nothing.
use Prim.Native.Nat.{ℕ}
use mathlib.Core.List.{List, [], ◌∷◌, ◌++◌, append_assoc, append-nil}
use mathlib.Core.Path.{◌≡◌, sym, subst}
use Rattle.round_elements.specs.of_tree_status.declared.Tally.{Tally}
use Rattle.round_elements.specs.of_read_state.Control.{Mode, case, at}
use Rattle.round_elements.specs.of_read_machine.Machine.{Machine}
use Rattle.round_case.specs.inside.Amid.{Spots, Holder, Between, Adds}

module _ {mode : Mode} {tally : Tally} {i k : ℕ} {records : List (List ℕ)} {texts : List ℕ} where
  -- no row
  pub adds_none : {Shown : List ℕ → List (List ℕ) → Type 0} {s : Machine} → Shown (texts ++ []) [] → Between mode tally i k records texts s → Adds mode tally i k records texts Shown s
  adds_none {s = s} h b =
      record {
        rows = [];
        added = [];
        shown = h;
        stands = subst (λ (rs : List (List ℕ)). Between mode tally i k rs (texts ++ []) s) (sym (append-nil records))
            (subst (λ (t : List ℕ). Between mode tally i k records t s) (sym (append-nil texts)) b);
      }

  -- rows, and then others
  pub adds-joined : {Shown Shown' : List ℕ → List (List ℕ) → Type 0} {s : Machine} (rows : List (List ℕ)) (added : List ℕ)
      → ((v : List ℕ) (rs : List (List ℕ)) → Shown ((texts ++ added) ++ v) rs → Shown' ((texts ++ added) ++ v) (rows ++ rs))
      → Adds mode tally i k (records ++ rows) (texts ++ added) Shown s → Adds mode tally i k records texts Shown' s
  adds-joined {Shown' = Shown'} {s = s} rows added f a =
      let e : (texts ++ added) ++ a.added ≡ texts ++ (added ++ a.added) = append_assoc texts added a.added in
      let g : (records ++ rows) ++ a.rows ≡ records ++ (rows ++ a.rows) = append_assoc records rows a.rows in
      record {
        rows = rows ++ a.rows;
        added = added ++ a.added;
        shown = subst (λ (t : List ℕ). Shown' t (rows ++ a.rows)) e (f a.added a.rows a.shown);
        stands = subst (λ (rs : List (List ℕ)). Between mode tally i k rs (texts ++ (added ++ a.added)) s) g
            (subst (λ (t : List ℕ). Between mode tally i k ((records ++ rows) ++ a.rows) t s) e a.stands);
      }

-- an element's record has been added
pub holder-between : {tally : Tally} {records : List (List ℕ)} {texts : List ℕ} {spots : Spots} {Shown : List ℕ → List ℕ → Type 0} {s : Machine} {i k : ℕ} → spots.suite_at_of ≡ i → spots.case_at_of ≡ k
    → (h : Holder case tally texts records [] [] spots Shown s) → Between (at case) tally i k (records ++ (h.row ∷ [])) (texts ++ h.added) s
holder-between {spots = spots} a b h = record { spots = spots; amid = h.amid; suite_at_of = a; case_at_of = b }
