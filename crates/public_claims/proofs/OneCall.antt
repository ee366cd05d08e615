-- Reading and listing in one call, on values. Assumes nothing.
use Prim.Native.Nat.{ℕ, ◌-◌}
use mathlib.Core.Path.{◌≡◌, refl, sym, ap, subst, ◌∙◌}
use mathlib.Core.List.{List}
use mathlib.Core.Bool.{Bool, true, false, cond}
use mathlib.Core.Option.{Option, some}
use borrow.Author.Tests.{leb-true}
use lib.Dec.{leb}
use lib.ListN.{length, take}
use lib.Seq.{take_at}
use Rattle.read_report.specs.of_area.Answer.{gives, refuses}
use Rattle.read_report.specs.of_area.Area.{zeros, placing, laid}
use Rattle.read_report.proofs.of_area.Laying.{laid-zeros}
use Rattle.read_report.specs.of_refusal.Refusal.{Outcome, accepted, refused, late}
use Rattle.read_report.specs.of_refusal.declared.Cause.TheVariants as cause
use Rattle.list_text.specs.of_tree_report.Report.{Report}
use Rattle.list_text.specs.of_tree_report.Layout.{layout}
use Rattle.list_text.specs.of_tree_report.ReportOf.{report_of}
use Rattle.read_report.specs.of_read_element.Outcome.{◌>>=◌}
use Rattle.read_report.specs.Answer.{Table, Areas, answer_to, Holds, Leaves, holds}
use Rattle.read_report.specs.Called.{called}
use Rattle.read_report.proofs.Tables.{reading-leaves, refusal_over-words, accepted-over-words}
use Rattle.list_text.specs.Listing.{render, rendered_or, listing_of, listing_answer, outcome_of, listed, output_for, output_of}
use Rattle.public_claims.specs.Once.{printed_for}
use Rattle.public_claims.specs.Demand3.{placed_in, listed_in, printed, listed_to, listing}
use Rattle.public_claims.specs.OnValues.{answer_once, output_once, listing_called, output_with}
use Rattle.public_claims.proofs.Once.{both-calls, once-accepted, left-accepted, once-refused, left-refused}

-- ---- listing areas that hold a report
module _ (words text : List ℕ) (r : Report) (n : ℕ) (h : Holds r words text) where
  abbrev f : List ℕ
  f = render r

  listed-so : listed words text n ≡ (placed_in n f >>= λ g. accepted (length g))
  unfolding listing_answer listing_of ◌>>=◌
  listed-so =
      ap (λ (b : Bool). outcome_of (cond b (placing cause.OutputFull n (rendered_or (report_of words text))) (refuses cause.NotLayout))) h.whole
      ∙ ap (λ (o : Option Report). outcome_of (placing cause.OutputFull n (rendered_or o))) h.report
      ∙ go (leb (length f) n)
    where
      go : (b : Bool) → outcome_of (cond b (gives (length f)) (refuses cause.OutputFull)) ≡ (cond b (accepted f) (refused (late cause.OutputFull)) >>= λ g. accepted (length g))
      go true = refl
      go false = refl

  output-so : output_of words text n ≡ output_with n (placed_in n f)
  unfolding output_of listing_answer listing_of
  output-so =
      ap (λ (b : Bool). output_for (cond b (placing cause.OutputFull n (rendered_or (report_of words text))) (refuses cause.NotLayout)) n (rendered_or (report_of words text))) h.whole
      ∙ ap (λ (o : Option Report). output_for (placing cause.OutputFull n (rendered_or o)) n (rendered_or o)) h.report
      ∙ go (leb (length f) n)
    where
      go : (b : Bool) → output_for (cond b (gives (length f)) (refuses cause.OutputFull)) n f ≡ output_with n (cond b (accepted f) (refused (late cause.OutputFull)))
      go true = refl
      go false = refl

held : {a : Areas} {words text scratch : List ℕ} {r : Report} → Leaves a words text scratch (accepted r) → Holds r words text
held (holds h z) = h

-- ---- the one call
module _ (t : Table) (a : Areas) where
  left-report : (r : Report) → answer_to t a ≡ accepted r → Holds r (called t a).words (called t a).text
  left-report r e = held (subst (λ (o : Outcome Report). Leaves a (called t a).words (called t a).text (called t a).scratch o) e (reading-leaves t a))

  answers-as : (o : Outcome Report) → answer_to t a ≡ o → answer_once t a ≡ (listed_in a.output o >>= λ f. accepted (length f))
  unfolding ◌>>=◌
  answers-as (accepted r) e =
      sym (once-accepted t.events t.attributes t.source a.words a.text a.scratch a.output _ _ (sym (accepted-over-words t a r e)) refl refl)
      ∙ listed-so (called t a).words (called t a).text r a.output (left-report r e)
  answers-as (refused why) e =
      sym (once-refused t.events t.attributes t.source a.words a.text a.scratch a.output why (sym (refusal_over-words t a why e)))

  leaves-as : (o : Outcome Report) → answer_to t a ≡ o → output_once t a ≡ output_with a.output (listed_in a.output o)
  leaves-as (accepted r) e =
      sym (left-accepted t.events t.attributes t.source a.words a.text a.scratch a.output _ _ (sym (accepted-over-words t a r e)) refl refl)
      ∙ output-so (called t a).words (called t a).text r a.output (left-report r e)
  leaves-as (refused why) e =
      sym (left-refused t.events t.attributes t.source a.words a.text a.scratch a.output why (sym (refusal_over-words t a why e)))

  pub lists-once : answer_once t a ≡ (listed_to t a >>= λ f. accepted (length f))
  lists-once = answers-as (answer_to t a) refl

  pub leaves-once : output_once t a ≡ output_with a.output (listed_to t a)
  leaves-once = leaves-as (answer_to t a) refl

  pub two-calls : printed_for (answer_once t a) (output_once t a) ≡ listing_called t a
  two-calls = both-calls t.events t.attributes t.source a.words a.text a.scratch a.output

-- ---- what is printed of it
print-placed : (n : ℕ) (f : List ℕ) → printed_for (placed_in n f >>= λ g. accepted (length g)) (output_with n (placed_in n f)) ≡ printed (placed_in n f)
unfolding ◌>>=◌
print-placed n f = go (leb (length f) n) refl
  where
    go : (b : Bool) → leb (length f) n ≡ b → printed_for (cond b (accepted f) (refused (late cause.OutputFull)) >>= λ g. accepted (length g))
        (output_with n (cond b (accepted f) (refused (late cause.OutputFull)))) ≡ printed (cond b (accepted f) (refused (late cause.OutputFull)))
    go true e = ap (take (length f)) (laid-zeros n f (leb-true (length f) n e)) ∙ take_at f (zeros (n - length f)) (length f) refl
    go false e = refl

print-listed : (n : ℕ) (o : Outcome Report) → printed_for (listed_in n o >>= λ g. accepted (length g)) (output_with n (listed_in n o)) ≡ printed (listed_in n o)
unfolding ◌>>=◌
print-listed n (accepted r) = print-placed n (render r)
print-listed n (refused why) = refl

-- the listing of the two calls, by way of the one
pub lists-so : (t : Table) (a : Areas) → listing_called t a ≡ listing t a
lists-so t a =
    sym (two-calls t a)
    ∙ ap (λ (o : Outcome ℕ). printed_for o (output_once t a)) (lists-once t a)
    ∙ ap (printed_for (listed_to t a >>= λ g. accepted (length g))) (leaves-once t a)
    ∙ print-listed a.output (answer_to t a)
