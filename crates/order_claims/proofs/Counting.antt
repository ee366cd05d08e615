-- The numbers of an order, counted over the statuses of its report. Assumes nothing.
use Prim.Native.Nat.{ℕ, zero, suc, ◌+◌, ◌-◌, ◌≤◌}
use mathlib.Core.Path.{◌≡◌, refl, ap, ◌∙◌}
use mathlib.Core.List.{List, [], ◌∷◌, ◌++◌, map, append-nil}
use mathlib.Core.Bool.{Bool, true, false, cond}
use native.Mathlib.Omega.{arith}
use lib.ListN.{length, replicate}
use Rattle.order_report.specs.of_tree_report.Report.{NonSuccessKind, failure, error, TestCaseStatus, success, non_success, skipped, TestCase, Report}
use Rattle.round_claims.specs.of_round_elements.Plain.{cases_of}
use Rattle.order_report.specs.declared.Order.{Order}
use Rattle.order_report.specs.declared.Kind.{Kind}
use Rattle.order_report.specs.declared.Kind.TheVariants as kind
use Rattle.order_report.specs.Rehearsal.{stated, status_of, cases_from, kinds_in, rehearsal}
use Rattle.order_report.proofs.Items.{kinds-count}
use Rattle.order_claims.specs.Ordering.{statuses, count, is_failed, is_failure, is_error, is_skipped, is_flaky, is_plain, Numbers}

-- ---- no case is of two kinds
abbrev sum : List TestCaseStatus → ℕ
sum ss = count is_failure ss + count is_error ss + count is_skipped ss + count is_flaky ss

pub kinds-within : (ss : List TestCaseStatus) → sum ss ≤ length ss
kinds-within [] = omega arith
kinds-within (success [] ∷ ss) = let h = kinds-within ss in omega arith
kinds-within (success (r ∷ []) ∷ ss) = go r.kind (kinds-within ss)
  where
    go : (k : NonSuccessKind) → sum ss ≤ length ss → count is_failure ss + count is_error ss + count is_skipped ss + cond (is_failed k) (suc (count is_flaky ss)) (count is_flaky ss) ≤ suc (length ss)
    go failure h = omega arith
    go error h = omega arith
kinds-within (success (r ∷ s ∷ rs) ∷ ss) = let h = kinds-within ss in omega arith
kinds-within (non_success failure reason family runs ∷ ss) = let h = kinds-within ss in omega arith
kinds-within (non_success error reason family runs ∷ ss) = let h = kinds-within ss in omega arith
kinds-within (skipped reason ∷ ss) = let h = kinds-within ss in omega arith

-- ---- the statuses of the report that is ordered
cases-statuses : (i : ℕ) (ks : List Kind) → map (λ (c : TestCase). c.status) (cases_from i ks) ≡ map status_of ks
cases-statuses i [] = refl
cases-statuses i (k ∷ ks) = ap (λ (l : List TestCaseStatus). status_of k ∷ l) (cases-statuses (i + 1) ks)

pub own-cases : (o : Order) → cases_of (rehearsal o) ≡ cases_from 0 (kinds_in o)
own-cases o = append-nil (cases_from 0 (kinds_in o))

own-statuses : (o : Order) → statuses (rehearsal o) ≡ map status_of (kinds_in o)
own-statuses o = ap (map (λ (c : TestCase). c.status)) (own-cases o) ∙ cases-statuses 0 (kinds_in o)

length-map : {A B : Type 0} (f : A → B) (xs : List A) → length (map f xs) ≡ length xs
length-map f [] = refl
length-map f (x ∷ xs) = ap suc (length-map f xs)

module _ (p : TestCaseStatus → Bool) where
  abbrev of : List Kind → ℕ
  of ks = count p (map status_of ks)

  count-more : (b : Bool) (n m : ℕ) → cond b (suc (n + m)) (n + m) ≡ cond b (suc n) n + m
  count-more true n m = omega arith
  count-more false n m = refl

  count-append : (ks js : List Kind) → of (ks ++ js) ≡ of ks + of js
  count-append [] js = omega arith
  count-append (k ∷ ks) js = ap (λ (n : ℕ). cond (p (status_of k)) (suc n) n) (count-append ks js) ∙ count-more (p (status_of k)) (of ks) (of js)

  count_same : (n : ℕ) (k : Kind) → of (replicate n k) ≡ cond (p (status_of k)) n 0
  count_same n k = go n (p (status_of k)) refl
    where
      go : (n : ℕ) (b : Bool) → p (status_of k) ≡ b → of (replicate n k) ≡ cond b n 0
      go zero true e = refl
      go zero false e = refl
      go (suc n) true e = ap (λ (b : Bool). cond b (suc (of (replicate n k))) (of (replicate n k))) e ∙ ap suc (go n true e)
      go (suc n) false e = ap (λ (b : Bool). cond b (suc (of (replicate n k))) (of (replicate n k))) e ∙ go n false e

  module _ (o : Order) where
    abbrev plains : List Kind
    plains = replicate (o.cases - stated o) kind.Plain

    abbrev from-flaky : List Kind
    from-flaky = replicate o.flaky kind.Flaky ++ plains

    abbrev from-skipped : List Kind
    from-skipped = replicate o.skipped kind.Skipped ++ from-flaky

    abbrev from-errors : List Kind
    from-errors = replicate o.errors kind.Error ++ from-skipped

    abbrev part : ℕ → Kind → ℕ
    part n k = cond (p (status_of k)) n 0

    count-own : count p (statuses (rehearsal o))
        ≡ part o.failures kind.Failure + (part o.errors kind.Error + (part o.skipped kind.Skipped + (part o.flaky kind.Flaky + part (o.cases - stated o) kind.Plain)))
    unfolding kinds_in
    count-own =
        let a = count-append (replicate o.failures kind.Failure) from-errors in
        let b = count-append (replicate o.errors kind.Error) from-skipped in
        let c = count-append (replicate o.skipped kind.Skipped) from-flaky in
        let d = count-append (replicate o.flaky kind.Flaky) plains in
        let f = count_same o.failures kind.Failure in
        let e = count_same o.errors kind.Error in
        let s = count_same o.skipped kind.Skipped in
        let k = count_same o.flaky kind.Flaky in
        let q = count_same (o.cases - stated o) kind.Plain in
        ap (count p) (own-statuses o) ∙ omega arith

-- the numbers of the report that is ordered are those that were stated
module _ (o : Order) (h : stated o ≤ o.cases) where
  pub own-numbers : Numbers o (rehearsal o)
  own-numbers =
      record {
        cases = ap length (own-statuses o) ∙ length-map status_of (kinds_in o) ∙ kinds-count o h;
        failures = count-own is_failure o ∙ omega arith;
        errors = count-own is_error o ∙ omega arith;
        skipped = count-own is_skipped o ∙ omega arith;
        flaky = count-own is_flaky o ∙ omega arith;
      }

  pub own-rest : stated o + count is_plain (statuses (rehearsal o)) ≡ o.cases
  own-rest = let e = count-own is_plain o in omega arith

-- a report with these numbers has as many cases as they need
pub numbers-within : (o : Order) (r : Report) → Numbers o r → stated o ≤ o.cases
numbers-within o r n =
    let h = kinds-within (statuses r) in
    let a = n.cases in
    let b = n.failures in
    let c = n.errors in
    let d = n.skipped in
    let e = n.flaky in
    omega arith
