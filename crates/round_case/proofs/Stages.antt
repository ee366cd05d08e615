-- A case grows element by element, and takes its outputs last. Assumes nothing.
use Prim.Native.Nat.{ℕ}
use mathlib.Core.List.{List, [], ◌∷◌, ◌++◌, append_assoc, append-nil}
use mathlib.Core.Option.{Option, none}
use mathlib.Core.Path.{◌≡◌, refl, sym, subst}
use lib.ListN.{length}
use Rattle.round_elements.specs.of_names.Bytes.{bytes}
use Rattle.round_elements.specs.of_table.Event.{Event}
use Rattle.round_elements.specs.of_tree_status.declared.Tally.{Tally}
use Rattle.round_elements.specs.of_tree_report.Report.{Text, TestCase}
use Rattle.round_elements.specs.of_read_state.Control.{case, at}
use Rattle.round_elements.specs.of_read_machine.Machine.{Machine}
use Rattle.round_elements.specs.of_write_report.Written.{optional, serialize_output, serialize_outputs}
use Rattle.round_elements.specs.inside.Held.{CaseHeld}
use Rattle.round_elements.proofs.Gathered.{case-on, case-out as put-out, case-err as put-err}
use Rattle.round_case.specs.inside.Amid.{holding, Amid, Reads, Holder, Between, Adds}
use Rattle.round_case.proofs.Following.{reads_then, reads_as}
use Rattle.round_case.proofs.Clean.{Cleans}
use Rattle.round_case.proofs.Outputs.{case-out, case-err, output-held}

-- ---- two parts of rows
pub record Parts (A B : List ℕ → List (List ℕ) → Type 0) (texts : List ℕ) (rs : List (List ℕ)) : Type 0 where
  pub front : List (List ℕ)
  pub back : List (List ℕ)
  pub whole : rs ≡ front ++ back
  pub first : A texts front
  pub second : B texts back

-- what is shown, is shown with texts behind
abbrev pub Lasts : (List ℕ → List (List ℕ) → Type 0) → Type 0
Lasts A = (texts v : List ℕ) (rs : List (List ℕ)) → A texts rs → A (texts ++ v) rs

pub parts_last : {A B : List ℕ → List (List ℕ) → Type 0} → Lasts A → Lasts B → Lasts (Parts A B)
parts_last f g texts v rs h = record { front = h.front; back = h.back; whole = h.whole; first = f texts v h.front h.first; second = g texts v h.back h.second }

-- ---- amid a case with outputs a and b; below its record stand rows
pub record Mid (c : TestCase) (a b : Option Text) (tally : Tally) (i : ℕ) (records : List (List ℕ)) (base : List ℕ) (Below : List ℕ → List (List ℕ) → Type 0) (s : Machine) : Type 0 where
  pub head : List ℕ
  pub below : List (List ℕ)
  pub added : List ℕ
  pub shown : CaseHeld c a b (base ++ added) head
  pub others : Below (base ++ added) below
  pub stands : Between (at case) tally i (length records) (records ++ (head ∷ below)) (base ++ added) s

module _ {c : TestCase} {i : ℕ} {records : List (List ℕ)} {base : List ℕ} {Below : List ℕ → List (List ℕ) → Type 0} (lasts : Lasts Below) where
  -- rows more
  pub stage : {n : ℕ} {es : List Event} {a b : Option Text} {tally tally' : Tally} {Shown : List ℕ → List (List ℕ) → Type 0} {s : Machine} (h : Mid c a b tally i records base Below s)
      → Reads n es s (Adds (at case) tally' i (length records) (records ++ (h.head ∷ h.below)) (base ++ h.added) Shown) → Reads n es s (Mid c a b tally' i records base (Parts Below Shown))
  stage {a = a} {b = b} {tally' = tally'} {Shown = Shown} h r =
      reads_as r (λ t d.
      let e : (base ++ h.added) ++ d.added ≡ base ++ (h.added ++ d.added) = append_assoc base h.added d.added in
      let g : (records ++ (h.head ∷ h.below)) ++ d.rows ≡ records ++ (h.head ∷ (h.below ++ d.rows)) = append_assoc records (h.head ∷ h.below) d.rows in
      record {
        head = h.head;
        below = h.below ++ d.rows;
        added = h.added ++ d.added;
        shown = subst (λ (x : List ℕ). CaseHeld c a b x h.head) e (case-on d.added h.shown);
        others = subst (λ (x : List ℕ). Parts Below Shown x (h.below ++ d.rows)) e
            (record { front = h.below; back = d.rows; whole = refl; first = lasts (base ++ h.added) d.added h.below h.others; second = d.shown });
        stands = subst (λ (x : List (List ℕ)). Between (at case) tally' i (length records) x (base ++ (h.added ++ d.added)) t) g
            (subst (λ (x : List ℕ). Between (at case) tally' i (length records) ((records ++ (h.head ∷ h.below)) ++ d.rows) x t) e d.stands);
      })

  -- the outputs
  module _ {tally : Tally} {s : Machine} (h : Mid c none none tally i records base Below s) where
    held : Holder case tally (base ++ h.added) records h.below [] h.stands.spots (CaseHeld c none none) s
    held =
        let e : (base ++ h.added) ++ [] ≡ base ++ h.added = append-nil (base ++ h.added) in
        record {
          row = h.head;
          added = [];
          shown = subst (λ (x : List ℕ). CaseHeld c none none x h.head) (sym e) h.shown;
          amid = subst (λ (x : List ℕ). Amid (at case) tally (holding (records ++ (h.head ∷ h.below)) x [] []) h.stands.spots s) (sym e) h.stands.amid;
        }

    back : {a b : Option Text} {t : Machine} → Holder case tally (base ++ h.added) records h.below [] h.stands.spots (CaseHeld c a b) t → Mid c a b tally i records base Below t
    back {a} {b} {t} d =
        let e : (base ++ h.added) ++ d.added ≡ base ++ (h.added ++ d.added) = append_assoc base h.added d.added in
        record {
          head = d.row;
          below = h.below;
          added = h.added ++ d.added;
          shown = subst (λ (x : List ℕ). CaseHeld c a b x d.row) e d.shown;
          others = subst (λ (x : List ℕ). Below x h.below) e (lasts (base ++ h.added) d.added h.below h.others);
          stands = record {
            spots = h.stands.spots;
            amid = subst (λ (x : List ℕ). Amid (at case) tally (holding (records ++ (d.row ∷ h.below)) x [] []) h.stands.spots t) e d.amid;
            suite_at_of = h.stands.suite_at_of;
            case_at_of = h.stands.case_at_of;
          };
        }

    pub outputs-read : {n : ℕ} (out err : Option Text) → Cleans out → Cleans err → Reads n (serialize_outputs out err) s (Mid c out err tally i records base Below)
    unfolding serialize_outputs
    outputs-read out err x y =
        reads_then (optional (serialize_output (bytes "system-out")) out) (optional (serialize_output (bytes "system-err")) err)
        (output-held case-out records h.below h.stands.case_at_of refl (λ v. CaseHeld c v none) (λ t u r k. put-out u r t k) out x held) (λ j t d.
        reads_as (output-held case-err records h.below h.stands.case_at_of refl (λ v. CaseHeld c out v) (λ t u r k. put-err u r t k) err y d) (λ u k. back k))
