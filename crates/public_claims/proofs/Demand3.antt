-- Demand 3, whole: each of its claims holds. Assumes nothing.
use Prim.Native.Nat.{ℕ, ◌<◌}
use mathlib.Core.Path.{◌≡◌, refl, sym, ap, subst, ◌∙◌}
use mathlib.Core.List.{List, []}
use mathlib.Core.Bool.{Bool, true, false, cond, true≢false}
use mathlib.Core.Option.{Option, some}
use mathlib.Core.Logic.{◌⊎◌, inl, inr}
use native.Mathlib.Omega.{arith}
use borrow.Author.Tests.{leb-false, lt-leb}
use lib.Dec.{leb}
use lib.ListN.{length, get_or}
use Rattle.read_report.specs.of_refusal.Refusal.{number, OfRules, Refused, Outcome, accepted, refused, late}
use Rattle.read_report.specs.of_refusal.declared.Cause.TheVariants.{BadTable, OutputFull}
use Rattle.list_text.specs.of_tree_report.Report.{Report}
use Rattle.read_report.specs.of_read_element.Outcome.{rooms_of}
use Rattle.read_report.specs.of_read_machine.Reading as present
use Rattle.read_report.proofs.of_read_machine.RoomsReading.{reading-refuses, deserialize-refuses}
use Rattle.read_report.specs.Answer.{Table, Areas, events_of, checked, answer_to}
use Rattle.read_report.proofs.Tables.{report-on-values, refused-on-values, refused-over-words, refusal_on-values, refusal_over-words, accepted-over-words, accepts-only}
use Rattle.list_text.specs.Listing.{render_public, header, render, rendered_or}
use Rattle.public_claims.specs.Agree.{public}
use Rattle.public_claims.specs.inside.PublicMachine.{public_text}
use Rattle.public_claims.specs.OwnStatus.{own_statuses, cases_listed, Ruled}
use Rattle.public_claims.specs.PublicListing.{refused_text, is_accepted}
use Rattle.public_claims.specs.Demand3.{is_read, listed_in, printed, listing, Agreeing, fitted, TooShort, RefusesTable, RefusesEvents, LacksRoom, Listed, Demand3}
use Rattle.public_claims.proofs.Trees.{public_or}
use Rattle.public_claims.proofs.AcceptedRun.{listing-public, listed-ruled}
use Rattle.public_claims.proofs.AcceptedTable.{Accepted, accepted-table}

-- a listing begins with `(rep`, a refusal with `(ref`
never-refused : (r : Report) → render r ≡ refused_text → ⊥
unfolding render render_public header refused_text
never-refused r e = let z : ◌≡◌ {A = ℕ} 112 102 = ap (λ (f : List ℕ). get_or f 3 0) e in omega arith

fitted_short : (n : ℕ) (f : List ℕ) → n < length f → fitted n f ≡ refused_text
fitted_short n f h = ap (λ (b : Bool). printed (cond b (accepted f) (refused (late OutputFull)))) (lt-leb (length f) n h)

same-report : (o : Outcome Report) (r q : Report) → o ≡ accepted r → o ≡ accepted q → r ≡ q
same-report o r q e f = cc

-- ---- either answer
accepted-as : (o : Outcome Report) → is_accepted o ≡ true → (r : Report) × (o ≡ accepted r)
accepted-as (accepted r) e = (r, refl)
accepted-as (refused why) e = absurd (true≢false (sym e))

refused_as : (o : Outcome Report) → is_accepted o ≡ false → (why : Refused) × (o ≡ refused why)
refused_as (accepted r) e = absurd (true≢false e)
refused_as (refused why) e = (why, refl)

either : {A : Type 0} (b : Bool) → (b ≡ true → A) → (b ≡ false → A) → A
either true y n = y refl
either false y n = n refl

-- ---- an accepted table
module _ (t : Table) (a : Areas) where
  abbrev Came : Type 0
  Came = Accepted t.events t.attributes t.source a.words a.text a.scratch

  module _ (r : Report) (e : answer_to t a ≡ accepted r) where
    came : Came
    came = accepted-table t.events t.attributes t.source a.words a.text a.scratch (accepted-over-words t a r e)

    came-report : came.report ≡ r
    came-report = same-report _ came.report r (report-on-values t came.report came.read) (accepts-only t a r e).1

    shows : listing t a ≡ fitted a.output (render r)
    shows = ap (λ (o : Outcome Report). printed (listed_in a.output o)) e

    -- A (rule L4): what is listed is what the public machine reads from the public events
    only-public : listing t a ≡ fitted a.output (public_text (public (events_of t)))
    only-public =
        shows ∙ ap (λ (q : Report). fitted a.output (render q)) (sym came-report)
        ∙ ap (λ (o : Option Report). fitted a.output (rendered_or o)) (sym came.left)
        ∙ ap (fitted a.output) (listing-public (rooms_of a.words a.text a.scratch) (events_of t) came.machine came.ran [])

    is-listed : Listed t a
    is-listed =
        record {
          report = r;
          read = (accepts-only t a r e).1;
          shown = shows;
          ruled =
              subst (λ (o : Option Report). Ruled (cases_listed (public_or o)) (own_statuses (public (events_of t)))) (came.left ∙ ap some came-report)
              (listed-ruled (rooms_of a.words a.text a.scratch) (events_of t) came.machine came.ran []);
        }

  -- ---- `(refused)`
  refuses : is_read t a ≡ false → listing t a ≡ refused_text
  refuses n = let q = refused_as (answer_to t a) n in ap (λ (o : Outcome Report). printed (listed_in a.output o)) q.1

  why-refused : listing t a ≡ refused_text → (is_read t a ≡ false) ⊎ TooShort t a
  why-refused e = either (is_read t a) (λ y. let q = accepted-as (answer_to t a) y in inr (short q.0 q.1)) inl
    where
      short : (r : Report) → answer_to t a ≡ accepted r → TooShort t a
      short r q = either (leb (length (render r)) a.output)
          (λ y. absurd (never-refused r (sym (ap (λ (b : Bool). printed (cond b (accepted (render r)) (refused (late OutputFull)))) y) ∙ sym (shows r q) ∙ e)))
          (λ n. (r, (accepts-only t a r q).1, leb-false (length (render r)) a.output n))

  is-refused : (is_read t a ≡ false) ⊎ TooShort t a → listing t a ≡ refused_text
  is-refused (inl e) = refuses e
  is-refused (inr s) = either (is_read t a) (λ y. let q = accepted-as (answer_to t a) y in short q.0 q.1) refuses
    where
      short : (r : Report) → answer_to t a ≡ accepted r → listing t a ≡ refused_text
      short r q =
          shows r q ∙ ap (λ (x : Report). fitted a.output (render x)) (same-report _ r s.0 (accepts-only t a r q).1 s.1)
          ∙ fitted_short a.output (render s.0) s.2

-- ---- why reading refuses
module _ (t : Table) (a : Areas) where
  refuses-alike : (r : Refused) → answer_to t a ≡ refused r → RefusesTable t r ⊎ (RefusesEvents t r ⊎ LacksRoom r)
  refuses-alike r e = go (reading-refuses t.events t.attributes t.source a.words a.text a.scratch r (refusal_over-words t a r e))
    where
      go : (RefusesTable t r × (r.cause ≡ BadTable)) ⊎ (LacksRoom r ⊎ ((present.deserialize (events_of t) ≡ refused r) × OfRules (number r.cause)))
          → RefusesTable t r ⊎ (RefusesEvents t r ⊎ LacksRoom r)
      go (inl h) = inl h.0
      go (inr (inl h)) = inr (inr h)
      go (inr (inr h)) = inr (inl (refused-on-values t r h.0))

  why-not-read : is_read t a ≡ false → (r : Refused) × (RefusesTable t r ⊎ (RefusesEvents t r ⊎ ((answer_to t a ≡ refused r) × LacksRoom r)))
  why-not-read e = let h = refused_as (answer_to t a) e in (h.0, go h.0 h.1 (refuses-alike h.0 h.1))
    where
      go : (r : Refused) → answer_to t a ≡ refused r → RefusesTable t r ⊎ (RefusesEvents t r ⊎ LacksRoom r) → RefusesTable t r ⊎ (RefusesEvents t r ⊎ ((answer_to t a ≡ refused r) × LacksRoom r))
      go r q (inl h) = inl h
      go r q (inr (inl h)) = inr (inl h)
      go r q (inr (inr h)) = inr (inr (q, h))

  not-read : (r : Refused) × (RefusesTable t r ⊎ (RefusesEvents t r ⊎ ((answer_to t a ≡ refused r) × LacksRoom r))) → is_read t a ≡ false
  not-read (r, inl h) = either (is_read t a)
      (λ y. let q = accepted-as (answer_to t a) y in let w : checked t ≡ accepted tt = (accepts-only t a q.0 q.1).0 in let z : ◌≡◌ {A = ℕ} 0 1 = cc in absurd (omega arith))
      (λ n. n)
  not-read (r, inr (inl h)) =
      let q = deserialize-refuses t.events t.attributes t.source a.words a.text a.scratch r (refused-over-words t r h) in
      ap is_accepted (refusal_on-values t a q.0 q.1)
  not-read (r, inr (inr h)) = ap is_accepted h.0

same-listing : (t u : Table) (a b : Areas) → Agreeing t u → is_read t a ≡ is_read u b → a.output ≡ b.output → listing t a ≡ listing u b
same-listing t u a b agreed same long =
    either (is_read t a)
    (λ y. let q = accepted-as (answer_to t a) y in let p = accepted-as (answer_to u b) (sym same ∙ y) in both_read q.0 p.0 q.1 p.1)
    (λ n. refuses t a n ∙ sym (refuses u b (sym same ∙ n)))
  where
    both_read : (r q : Report) → answer_to t a ≡ accepted r → answer_to u b ≡ accepted q → listing t a ≡ listing u b
    both_read r q e f =
        let g = agreed (accepts-only t a r e).0 (accepts-only u b q f).0 in
        only-public t a r e ∙ ap (λ x. fitted a.output (public_text x)) g
        ∙ ap (λ (n : ℕ). fitted n (public_text (public (events_of u)))) long ∙ sym (only-public u b q f)

-- demand 3 as one theorem, which the theorem of all demands takes up
pub demand_3 : Demand3
demand_3 =
    record {
      same_listing = same-listing;
      listed = λ t a y. let q = accepted-as (answer_to t a) y in is-listed t a q.0 q.1;
      refused_exactly = λ t a. (why-refused t a, is-refused t a);
      read_refuses = λ t a. (why-not-read t a, not-read t a);
      refuses_alike = refuses-alike;
    }
