-- The cases of a layout's report are its live case records, in their order. Assumes nothing.
use Prim.Native.Nat.{ℕ}
use mathlib.Core.Path.{◌≡◌, refl, sym, ap, ◌∙◌}
use mathlib.Core.List.{List, [], ◌∷◌, ◌++◌, map}
use mathlib.Core.Bool.{Bool, true, false, cond, and-eq-true_iff, true≢false}
use mathlib.Core.Option.{Option, none, some}
use native.Mathlib.Omega.{arith}
use borrow.Author.Tests.{eqb-true, lt-ltb, ne_eqb}
use Rattle.tree_layout.specs.of_timestamp.declared.Moment.{Moment}
use Rattle.tree_layout.specs.of_tree_report.Report.{TestCase}
use Rattle.tree_layout.specs.of_tree_report.Fields.{kind_of, live, is_report, is_suite, is_case, is_suite_extra, is_case_extra, is_suite_property, is_case_property, timestamp}
use Rattle.tree_layout.specs.of_tree_report.Layout.{Open, nothing, opened, may_end, may_follow, following, good_order}
use Rattle.tree_layout.specs.of_tree_report.ReportOf.{only, until, branches, case_of, suite_of, report_from}
use Rattle.starts.specs.Starts.{cases_of, behind, moments_of, report_moments}

-- the timestamps of the case records
abbrev pub moments_in : List (List ℕ) → List Moment
moments_in [] = []
moments_in (r ∷ rs) = cond (is_case r) (behind (timestamp r) (moments_in rs)) (moments_in rs)

behind-append : (o : Option Moment) (xs ys : List Moment) → behind o xs ++ ys ≡ behind o (xs ++ ys)
behind-append none xs ys = refl
behind-append (some m) xs ys = refl

moments_append : (cs ds : List TestCase) → moments_of (cs ++ ds) ≡ moments_of cs ++ moments_of ds
moments_append [] ds = refl
moments_append (c ∷ cs) ds = ap (behind c.timestamp) (moments_append cs ds) ∙ sym (behind-append c.timestamp (moments_of cs) (moments_of ds))

case-kind : (r : List ℕ) → is_case r ≡ true → kind_of r ≡ 3
case-kind r e = eqb-true (kind_of r) 3 e

not-case : (r : List ℕ) (k : ℕ) → kind_of r ≡ k → (k ≡ 3 → ⊥) → is_case r ≡ false
not-case r k e h = ne_eqb (kind_of r) 3 (λ q. h (sym e ∙ q))

case-alive : (r : List ℕ) → is_case r ≡ true → live r ≡ true
case-alive r e = let k = case-kind r e in lt-ltb (kind_of r) 16 (omega (arith, k))

pub moments-live : (rs : List (List ℕ)) → moments_in (only live rs) ≡ moments_in rs
moments-live [] = refl
moments-live (r ∷ rs) = go (live r) refl (is_case r) refl (moments-live rs)
  where
    go : (b : Bool) → live r ≡ b → (q : Bool) → is_case r ≡ q → moments_in (only live rs) ≡ moments_in rs
        → moments_in (cond b (r ∷ only live rs) (only live rs)) ≡ cond q (behind (timestamp r) (moments_in rs)) (moments_in rs)
    go true e true u h = rw u (ap (behind (timestamp r)) h)
    go true e false u h = rw u h
    go false e true u h = absurd (true≢false (sym (case-alive r u) ∙ e))
    go false e false u h = h

module _ (text : List ℕ) where
  cases-moments : (rs : List (List ℕ)) → moments_of (map (case_of text) (branches is_case rs)) ≡ moments_in rs
  cases-moments [] = refl
  cases-moments (r ∷ rs) = go (is_case r) (cases-moments rs)
    where
      go : (b : Bool) → moments_of (map (case_of text) (branches is_case rs)) ≡ moments_in rs
          → moments_of (map (case_of text) (cond b (record { head = r; below = until is_case rs } ∷ branches is_case rs) (branches is_case rs)))
          ≡ cond b (behind (timestamp r) (moments_in rs)) (moments_in rs)
      go true h = ap (behind (timestamp r)) h
      go false h = h

  abbrev suite_moments : List (List ℕ) → List Moment
  suite_moments rs = moments_of (cases_of (map (suite_of text) (branches is_suite rs)))

  -- a suite's own, then those of the suites behind it
  first-suite : (rs : List (List ℕ)) → moments_of (map (case_of text) (branches is_case (until is_suite rs)) ++ cases_of (map (suite_of text) (branches is_suite rs)))
      ≡ moments_in (until is_suite rs) ++ suite_moments rs
  first-suite rs =
      moments_append (map (case_of text) (branches is_case (until is_suite rs))) (cases_of (map (suite_of text) (branches is_suite rs)))
      ∙ ap (λ (l : List Moment). l ++ suite_moments rs) (cases-moments (until is_suite rs))

  within : (rs : List (List ℕ)) → moments_in (until is_suite rs) ++ suite_moments rs ≡ moments_in rs
  within [] = refl
  within (r ∷ rs) = go (is_suite r) refl (is_case r) refl (within rs)
    where
      go : (p : Bool) → is_suite r ≡ p → (q : Bool) → is_case r ≡ q → moments_in (until is_suite rs) ++ suite_moments rs ≡ moments_in rs
          → moments_in (cond p [] (r ∷ until is_suite rs))
          ++ moments_of (cases_of (map (suite_of text) (cond p (record { head = r; below = until is_suite rs } ∷ branches is_suite rs) (branches is_suite rs))))
          ≡ cond q (behind (timestamp r) (moments_in rs)) (moments_in rs)
      go true e true f h = absurd (omega (arith, eqb-true (kind_of r) 2 e, eqb-true (kind_of r) 3 f))
      go true e false f h = first-suite rs ∙ h
      go false e true f h = rw f (behind-append (timestamp r) (moments_in (until is_suite rs)) (suite_moments rs) ∙ ap (behind (timestamp r)) h)
      go false e false f h = rw f h

  -- behind the report stands a suite, if anything
  suite-here : (r : List ℕ) → may_follow (opened 1 0) r ≡ true → is_suite r ≡ true
  unfolding may_follow
  suite-here r e = go (is_report r) (is_suite r) (is_case r) (is_suite_extra r) (is_case_extra r) (is_suite_property r) (is_case_property r) (may_end (opened 1 0)) e
    where
      go : (a b c d f g h m : Bool) → cond a false (cond b m (cond c false (cond d false (cond f false (cond g false (cond h false false)))))) ≡ true → b ≡ true
      go true b c d f g h m e = absurd (true≢false (sym e))
      go false true c d f g h m e = refl
      go false false true d f g h m e = absurd (true≢false (sym e))
      go false false false true f g h m e = absurd (true≢false (sym e))
      go false false false false true g h m e = absurd (true≢false (sym e))
      go false false false false false true h m e = absurd (true≢false (sym e))
      go false false false false false false true m e = absurd (true≢false (sym e))
      go false false false false false false false m e = absurd (true≢false (sym e))

  -- and nothing before the report
  report-here : (r : List ℕ) → may_follow nothing r ≡ true → is_report r ≡ true
  unfolding may_follow
  report-here r e = go (is_report r) (is_suite r) (is_case r) (is_suite_extra r) (is_case_extra r) (is_suite_property r) (is_case_property r) e
    where
      go : (a b c d f g h : Bool) → cond a true (cond b false (cond c false (cond d false (cond f false (cond g false (cond h false false)))))) ≡ true → a ≡ true
      go true b c d f g h e = refl
      go false true c d f g h e = absurd (true≢false (sym e))
      go false false true d f g h e = absurd (true≢false (sym e))
      go false false false true f g h e = absurd (true≢false (sym e))
      go false false false false true g h e = absurd (true≢false (sym e))
      go false false false false false true h e = absurd (true≢false (sym e))
      go false false false false false false true e = absurd (true≢false (sym e))
      go false false false false false false false e = absurd (true≢false (sym e))

  order-dead : (o : Open) (r : List ℕ) (rs : List (List ℕ)) → live r ≡ false → good_order o (r ∷ rs) ≡ good_order o rs
  unfolding good_order
  order-dead o r rs e = rw e refl

  order-here : (o : Open) (r : List ℕ) (rs : List (List ℕ)) → live r ≡ true → good_order o (r ∷ rs) ≡ true → (may_follow o r ≡ true) × (good_order (following o r) rs ≡ true)
  unfolding good_order
  order-here o r rs e g = (and-eq-true_iff (may_follow o r) (good_order (following o r) rs)).0 (rw e at g)

  suites-first : (r : List ℕ) (ls : List (List ℕ)) → is_suite r ≡ true → suite_moments (r ∷ ls) ≡ moments_in (r ∷ ls)
  suites-first r ls e = rw (e, not-case r 2 (eqb-true (kind_of r) 2 e) (λ q. omega (arith, q))) (first-suite ls ∙ within ls)

  behind-report : (rs : List (List ℕ)) → good_order (opened 1 0) rs ≡ true → suite_moments (only live rs) ≡ moments_in (only live rs)
  behind-report [] g = refl
  behind-report (r ∷ rs) g = go (live r) refl (λ q. behind-report rs q)
    where
      go : (b : Bool) → live r ≡ b → (good_order (opened 1 0) rs ≡ true → suite_moments (only live rs) ≡ moments_in (only live rs))
          → suite_moments (cond b (r ∷ only live rs) (only live rs)) ≡ moments_in (cond b (r ∷ only live rs) (only live rs))
      go true e h = suites-first r (only live rs) (suite-here r (order-here (opened 1 0) r rs e g).0)
      go false e h = h (sym (order-dead (opened 1 0) r rs e) ∙ g)

  opens : (r : List ℕ) → is_report r ≡ true → following nothing r ≡ opened 1 0
  unfolding following
  opens r e = rw e refl

  pub report-moments : (rs : List (List ℕ)) → good_order nothing rs ≡ true → report_moments (report_from text (only live rs)) ≡ moments_in (only live rs)
  report-moments [] g = refl
  report-moments (r ∷ rs) g = go (live r) refl (λ q. report-moments rs q)
    where
      go : (b : Bool) → live r ≡ b → (good_order nothing rs ≡ true → report_moments (report_from text (only live rs)) ≡ moments_in (only live rs))
          → report_moments (report_from text (cond b (r ∷ only live rs) (only live rs))) ≡ moments_in (cond b (r ∷ only live rs) (only live rs))
      go true e h =
          let p = order-here nothing r rs e g in
          let k = report-here r p.0 in
          let c = not-case r 1 (eqb-true (kind_of r) 1 k) (λ q. omega (arith, q)) in
          behind-report rs (sym (ap (λ (o : Open). good_order o rs) (opens r k)) ∙ p.1)
          ∙ rw c refl
      go false e h = h (sym (order-dead nothing r rs e) ∙ g)
