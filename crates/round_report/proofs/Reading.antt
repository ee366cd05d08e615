-- Events that add records and texts behind those that stand there. Assumes nothing.
use Prim.Native.Nat.{ℕ}
use mathlib.Core.List.{List, [], ◌++◌, append_assoc, append-nil}
use mathlib.Core.Path.{◌≡◌, sym, subst, subst₂}
use Rattle.round_rooms.specs.of_table.Event.{Event}
use Rattle.round_rooms.specs.of_read_machine.Machine.{Machine}
use Rattle.round_report.proofs.Leading.{Goes, goes_none, goes_then, leads-then}

-- where reading stands, with its records and texts
abbrev pub Spot : Type 1
Spot = List (List ℕ) → List ℕ → Machine → Type 0

-- what texts and records show
abbrev pub Sight : Type 1
Sight = List ℕ → List (List ℕ) → Type 0

pub record Reads (es : List Event) (s : Machine) (S : Spot) (Q : Sight) (records : List (List ℕ)) (texts : List ℕ) : Type 0 where
  pub rows : List (List ℕ)
  pub added : List ℕ
  pub goes : Goes es s (S (records ++ rows) (texts ++ added))
  pub read : Q (texts ++ added) rows

-- the same events
pub reads_same : {es fs : List Event} {s : Machine} {S : Spot} {Q : Sight} {records : List (List ℕ)} {texts : List ℕ} → fs ≡ es → Reads es s S Q records texts → Reads fs s S Q records texts
reads_same {s = s} {S = S} {Q = Q} {records = records} {texts = texts} e h = subst (λ (l : List Event). Reads l s S Q records texts) (sym e) h

module _ (S : Spot) (Q : Sight) (records : List (List ℕ)) (texts : List ℕ) where
  pub reads_none : (s : Machine) → S records texts s → Q texts [] → Reads [] s S Q records texts
  reads_none s h q =
      record {
        rows = [];
        added = [];
        goes = goes_none s (subst₂ (λ (rs : List (List ℕ)) (t : List ℕ). S rs t s) (sym (append-nil records)) (sym (append-nil texts)) h);
        read = subst (λ (t : List ℕ). Q t []) (sym (append-nil texts)) q;
      }

  pub goes-reads : {P : Machine → Type 0} (es fs : List Event) (s : Machine) → Goes es s P → ((t : Machine) → P t → Reads fs t S Q records texts) → Reads (es ++ fs) s S Q records texts
  goes-reads es fs s a k =
      let b = k a.after a.holds in
      record {
        rows = b.rows;
        added = b.added;
        goes = record { after = b.goes.after; leads = leads-then es fs s a.after b.goes.after a.leads b.goes.leads; holds = b.goes.holds };
        read = b.read;
      }

  pub reads-goes : (S' : Spot) (es fs : List Event) (s : Machine) → Reads es s S Q records texts
      → ((rs : List (List ℕ)) (v : List ℕ) (t : Machine) → S rs v t → Goes fs t (S' rs v)) → Reads (es ++ fs) s S' Q records texts
  reads-goes S' es fs s a k =
      record { rows = a.rows; added = a.added; goes = goes_then es fs s a.goes (k (records ++ a.rows) (texts ++ a.added)); read = a.read }

  pub reads_then : (S' : Spot) (Q' Q'' : Sight) (es fs : List Event) (s : Machine) → Reads es s S Q records texts
      → ((rs : List (List ℕ)) (v : List ℕ) (t : Machine) → S rs v t → Reads fs t S' Q' rs v)
      → ((v w : List ℕ) (rs qs : List (List ℕ)) → Q v rs → Q' (v ++ w) qs → Q'' (v ++ w) (rs ++ qs)) → Reads (es ++ fs) s S' Q'' records texts
  reads_then S' Q' Q'' es fs s a k join =
      let t : Machine = a.goes.after in
      let b = k (records ++ a.rows) (texts ++ a.added) t a.goes.holds in
      let u : Machine = b.goes.after in
      record {
        rows = a.rows ++ b.rows;
        added = a.added ++ b.added;
        goes = record {
          after = u;
          leads = leads-then es fs s t u a.goes.leads b.goes.leads;
          holds = subst₂ (λ (rs : List (List ℕ)) (v : List ℕ). S' rs v u) (append_assoc records a.rows b.rows) (append_assoc texts a.added b.added) b.goes.holds;
        };
        read = subst (λ (v : List ℕ). Q'' v (a.rows ++ b.rows)) (append_assoc texts a.added b.added) (join (texts ++ a.added) b.added a.rows b.rows a.read b.read);
      }
