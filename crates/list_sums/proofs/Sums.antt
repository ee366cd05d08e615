-- What a case's status elements come to. Assumes nothing.
use Prim.Native.Nat.{ℕ, suc, ◌+◌, ◌-◌, ◌≤◌}
use mathlib.Core.Path.{◌≡◌, refl, sym, ap, ◌∙◌}
use mathlib.Core.List.{List, [], ◌∷◌, ◌++◌, map}
use mathlib.Core.Bool.{Bool, true, false, cond, ◌||◌, or-false, and-eq-true_iff, true≢false}
use native.Mathlib.Omega.{arith}
use borrow.Author.Tests.{ne_eqb, leb-true, lt-leb}
use lib.Dec.{leb, eqb}
use lib.ListN.{length, take, drop, length-append}
use Rattle.list_text.specs.of_tree_record.Bits as bit
use Rattle.list_text.specs.of_tree_report.Fields.{kind_of, is_suite, is_case, is_main, is_run, has_bit}
use Rattle.list_text.specs.of_tree_report.Report.{NonSuccessKind, Reason, TestRerun, failure, error, flaky, rerun, non_success, skipped}
use Rattle.list_text.specs.of_tree_report.ReportOf.{only, run_of, reason_of, kind_of_runs, status_of}
use Rattle.list_text.specs.Listing.{is_failure, is_error, is_skipped, no_kind, flaky_kind, rerun_kind, PublicRun, public_run, status_shown, run_kind_shown, runs_shown}
use Rattle.list_sums.specs.inside.Summed.{own, ends_case, is_some, kind_or, flag_or, summed_on, summed_by, unsummed, summary, is_skipped_by, status_by, kind_by, run_listed}
use Rattle.list_sums.specs.inside.Rows.{stands, records_in}
use Rattle.list_sums.specs.declared.Summary.{Summary}
use Rattle.list_sums.proofs.Records.{stands-room, records-here, records-over}

-- ---- the records of a case
-- a suite or case ends what belongs to the case before it
pub own-end : (r : List ℕ) (rs : List (List ℕ)) → ends_case r ≡ true → own (r ∷ rs) ≡ []
own-end r rs e = go (is_suite r) (is_case r) refl refl e
  where
    go : (p q : Bool) → is_suite r ≡ p → is_case r ≡ q → (p || q) ≡ true → own (r ∷ rs) ≡ []
    go true q u v x = rw u refl
    go false true u v x = rw (u, v) refl
    go false false u v x = absurd (true≢false (sym x))

-- a record that isn't a suite or case belongs to the case before it
pub own-next : (r : List ℕ) (rs : List (List ℕ)) → ends_case r ≡ false → own (r ∷ rs) ≡ r ∷ own rs
own-next r rs e = go (is_suite r) (is_case r) refl refl e
  where
    go : (p q : Bool) → is_suite r ≡ p → is_case r ≡ q → (p || q) ≡ false → own (r ∷ rs) ≡ r ∷ own rs
    go true q u v x = absurd (true≢false x)
    go false true u v x = absurd (true≢false x)
    go false false u v x = rw (u, v) refl

only_next : (p : List ℕ → Bool) (r : List ℕ) (rs : List (List ℕ)) → only p (r ∷ rs) ≡ only p (r ∷ []) ++ only p rs
only_next p r rs = go (p r)
  where
    go : (b : Bool) → cond b (r ∷ only p rs) (only p rs) ≡ cond b (r ∷ []) [] ++ only p rs
    go true = refl
    go false = refl

-- ---- summed up record by record
same : {A : Type 0} (b : Bool) (x : A) → cond b x x ≡ x
same true x = refl
same false x = refl

pub summed-none : (s : Summary) → summed_on s [] [] ≡ s
unfolding summed_on
summed-none s =
    let z : s.runs + 0 ≡ s.runs = omega arith in
    rw (or-false s.settled, same s.settled s.main, same s.settled s.flagged, same (eqb s.runs 0) s.run, z) refl

some-append : (b : Bool) (xs ys : List (List ℕ)) → ((b || is_some xs) || is_some ys) ≡ (b || is_some (xs ++ ys))
some-append true xs ys = refl
some-append false [] ys = refl
some-append false (x ∷ xs) ys = refl

kind-append : (b : Bool) (k : ℕ) (xs ys : List (List ℕ)) → cond (b || is_some xs) (cond b k (kind_or k xs)) (kind_or (cond b k (kind_or k xs)) ys) ≡ cond b k (kind_or k (xs ++ ys))
kind-append true k xs ys = refl
kind-append false k [] ys = refl
kind-append false k (x ∷ xs) ys = refl

flag-append : (b f : Bool) (xs ys : List (List ℕ)) → cond (b || is_some xs) (cond b f (flag_or f xs)) (flag_or (cond b f (flag_or f xs)) ys) ≡ cond b f (flag_or f (xs ++ ys))
flag-append true f xs ys = refl
flag-append false f [] ys = refl
flag-append false f (x ∷ xs) ys = refl

run-append : (n k : ℕ) (xs ys : List (List ℕ)) → cond (eqb (n + length xs) 0) (kind_or (cond (eqb n 0) (kind_or k xs) k) ys) (cond (eqb n 0) (kind_or k xs) k) ≡ cond (eqb n 0) (kind_or k (xs ++ ys)) k
run-append n k [] ys = let z : n + 0 ≡ n = omega arith in rw (z, same (eqb n 0) k) refl
run-append n k (x ∷ xs) ys = rw (ne_eqb (n + suc (length xs)) 0 (λ e. omega arith)) refl

pub summed-on : (s : Summary) (ms rs ns qs : List (List ℕ)) → summed_on (summed_on s ms rs) ns qs ≡ summed_on s (ms ++ ns) (rs ++ qs)
unfolding summed_on
summed-on s ms rs ns qs =
    let l : length (rs ++ qs) ≡ length rs + length qs = length-append rs qs in
    let z : s.runs + length rs + length qs ≡ s.runs + length (rs ++ qs) = omega arith in
    rw (some-append s.settled ms ns, kind-append s.settled s.main ms ns, flag-append s.settled s.flagged ms ns, run-append s.runs s.run rs qs, z) refl

module _ (s : Summary) (r : List ℕ) (rs : List (List ℕ)) where
  pub summed-next : ends_case r ≡ false → summed_by s (own (r ∷ rs)) ≡ summed_by (summed_by s (r ∷ [])) (own rs)
  summed-next e =
      rw (own-next r rs e, only_next is_main r (own rs), only_next is_run r (own rs))
      (sym (summed-on s (only is_main (r ∷ [])) (only is_run (r ∷ [])) (only is_main (own rs)) (only is_run (own rs))))

  pub summed-end : ends_case r ≡ true → summed_by s (own (r ∷ rs)) ≡ s
  summed-end e = rw (own-end r rs e) (summed-none s)

-- ---- one record, in the code's terms
module _ (s : Summary) (r : List ℕ) where
  pub main-kept : s.settled ≡ true → s ≡ summed_on s (r ∷ []) []
  unfolding summed_on
  main-kept e =
      let z : s.runs + 0 ≡ s.runs = omega arith in
      sym (rw (e, same (eqb s.runs 0) s.run, z) (cc))

  pub main-first : s.settled ≡ false → record { settled = true; main = kind_of r; flagged = has_bit bit.flaky r; run = s.run; runs = s.runs } ≡ summed_on s (r ∷ []) []
  unfolding summed_on
  main-first e =
      let z : s.runs + 0 ≡ s.runs = omega arith in
      sym (rw (e, same (eqb s.runs 0) s.run, z) refl)

  pub run_more : (k : ℕ) → k ≡ cond (eqb s.runs 0) (kind_of r) s.run → record { settled = s.settled; main = s.main; flagged = s.flagged; run = k; runs = s.runs + 1 } ≡ summed_on s [] (r ∷ [])
  unfolding summed_on
  run_more k e = sym (rw (or-false s.settled, same s.settled s.main, same s.settled s.flagged, sym e) refl)

  -- by its kind
  pub main-summed : is_main r ≡ true → summed_on s (r ∷ []) [] ≡ summed_by s (r ∷ [])
  main-summed e =
      let l = leb-true (kind_of r) 8 ((and-eq-true_iff (leb 6 (kind_of r)) (leb (kind_of r) 8)).0 e).1 in
      rw (e, lt-leb 9 (kind_of r) (omega arith)) refl

  pub run-summed : is_main r ≡ false → is_run r ≡ true → summed_on s [] (r ∷ []) ≡ summed_by s (r ∷ [])
  run-summed e f = rw (e, f) refl

  pub other-summed : is_main r ≡ false → is_run r ≡ false → s ≡ summed_by s (r ∷ [])
  other-summed e f = rw (e, f) (sym (summed-none s))

-- ---- the loop along the records behind a case: those before `at` are summed up
pub record Summing (words : List ℕ) (s : Summary) (at : ℕ) : Type 0 where
  pub fits : at ≤ length words
  pub few : s.runs ≤ at
  pub left : summed_by s (own (records_in (drop at words))) ≡ summary (records_in words)

pub summing_start : (words : List ℕ) → Summing words unsummed 0
summing_start words = record { fits = omega arith; few = omega arith; left = refl }

-- one record counts at most one run
few-summed : (s : Summary) (r : List ℕ) (n : ℕ) → s.runs ≤ n → (summed_by s (r ∷ [])).runs ≤ n + 32
unfolding summed_on
few-summed s r n h = go (is_run r)
  where
    go : (b : Bool) → s.runs + length (cond b (r ∷ []) []) ≤ n + 32
    go true = omega arith
    go false = omega arith

module _ {words : List ℕ} {s : Summary} {at : ℕ} (g : Summing words s at) where
  module _ (e : stands (take (length words - at) (drop at words)) ≡ true) where
    abbrev here : List ℕ
    here = take (at + 32 - at) (drop at words)

    abbrev rest : List (List ℕ)
    rest = records_in (drop (at + 32) words)

    next : summed_by s (own (here ∷ rest)) ≡ summary (records_in words)
    next = ap (λ (l : List (List ℕ)). summed_by s (own l)) (sym (records-here words at e)) ∙ g.left

    pub summing-end : ends_case here ≡ true → s ≡ summary (records_in words)
    summing-end h = sym (summed-end s here rest h) ∙ next

    pub summing-more : {t : Summary} → ends_case here ≡ false → t ≡ summed_by s (here ∷ []) → Summing words t (at + 32)
    summing-more {t} h q = rw q (record {
      fits = stands-room words at e;
      few = few-summed s here at g.few;
      left = sym (summed-next s here rest h) ∙ next;
    })

  pub summing-done : stands (take (length words - at) (drop at words)) ≡ false → s ≡ summary (records_in words)
  summing-done e = sym (summed-none s) ∙ ap (λ (l : List (List ℕ)). summed_by s (own l)) (sym (records-over words at e)) ∙ g.left

-- ---- what is shown of it
module _ (text : List ℕ) where
  -- the status that is shown of a case, from the sums that one pass makes of its status elements
  pub status-summed : (ms rs : List (List ℕ)) → status_shown (status_of text ms rs) ≡ status_by (summed_on unsummed ms rs)
  unfolding summed_on status_by
  status-summed [] rs = refl
  status-summed (m ∷ ms) rs = go (eqb (kind_of m) 8) (eqb (kind_of m) 6)
    where
      go : (a b : Bool) → status_shown (cond a (skipped (reason_of text m)) (non_success (cond b failure error) (reason_of text m) (kind_of_runs text m rs) (map (run_of text) rs)))
          ≡ cond a is_skipped (cond b is_failure is_error)
      go true b = refl
      go false true = refl
      go false false = refl

  kinds : (a f : Bool) (k : NonSuccessKind) (x : Reason) (runs : List TestRerun)
      → run_kind_shown (cond a (skipped x) (non_success k x (cond f flaky rerun) runs)) ≡ cond a no_kind (cond f flaky_kind rerun_kind)
  kinds true f k x runs = refl
  kinds false true k x runs = refl
  kinds false false k x runs = refl

  -- the run kind that is shown of a case, from the sums of its status elements
  pub kind-summed : (ms rs : List (List ℕ)) → run_kind_shown (status_of text ms rs) ≡ kind_by (summed_on unsummed ms rs)
  unfolding summed_on kind_by
  kind-summed [] rs = refl
  kind-summed (m ∷ ms) [] = kinds (eqb (kind_of m) 8) (has_bit bit.flaky m) (cond (eqb (kind_of m) 6) failure error) (reason_of text m) []
  kind-summed (m ∷ ms) (r ∷ rs) =
      rw (ne_eqb (0 + suc (length rs)) 0 (λ e. omega arith))
      (kinds (eqb (kind_of m) 8) (leb (kind_of r) 10) (cond (eqb (kind_of m) 6) failure error) (reason_of text m) (map (run_of text) (r ∷ rs)))

  runs-listed : (rs : List (List ℕ)) → map public_run (map (run_of text) rs) ≡ map run_listed rs
  runs-listed [] = refl
  runs-listed (r ∷ rs) = ap (λ (l : List PublicRun). run_listed r ∷ l) (runs-listed rs)

  -- the runs that are listed of a case: none where it is skipped, else all
  pub runs-summed : (ms rs : List (List ℕ)) → runs_shown (status_of text ms rs) ≡ cond (is_skipped_by (summed_on unsummed ms rs)) [] (map run_listed rs)
  unfolding summed_on
  runs-summed [] rs = runs-listed rs
  runs-summed (m ∷ ms) rs = go (eqb (kind_of m) 8)
    where
      go : (a : Bool) → runs_shown (cond a (skipped (reason_of text m)) (non_success (cond (eqb (kind_of m) 6) failure error) (reason_of text m) (kind_of_runs text m rs) (map (run_of text) rs)))
          ≡ cond a [] (map run_listed rs)
      go true = refl
      go false = runs-listed rs
