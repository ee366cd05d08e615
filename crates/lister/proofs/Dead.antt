-- Dead records show nothing. Assumes nothing.
use Prim.Native.Nat.{ℕ}
use mathlib.Core.Path.{◌≡◌, refl, sym, ap, ◌∙◌}
use mathlib.Core.List.{List, [], ◌∷◌, map}
use mathlib.Core.Bool.{Bool, true, false, cond, ◌&&◌, and-eq-true_iff, true≢false}
use native.Mathlib.Omega.{arith}
use borrow.Author.Tests.{lt-ltb, ltb-true, leb-true, eqb-true}
use lib.Dec.{leb, ltb, eqb}
use Rattle.tree_layout.specs.of_tree_report.Fields.{kind_of, live, is_suite, is_case, is_main, is_run}
use Rattle.tree_layout.specs.of_tree_report.ReportOf.{Branch, only, until, branches, case_of, suite_of}
use Rattle.list_suites.specs.of_list_text.Listing.{PublicCase, PublicSuite, public_case, public_suite}

-- ---- a test that no dead record passes
module _ (p : List ℕ → Bool) (alive : (r : List ℕ) → p r ≡ true → live r ≡ true) where
  fails : (r : List ℕ) → live r ≡ false → p r ≡ false
  fails r d = go (p r) refl
    where
      go : (b : Bool) → p r ≡ b → b ≡ false
      go true e = absurd (true≢false (sym (alive r e) ∙ d))
      go false e = refl

  only-live : (rs : List (List ℕ)) → only p (only live rs) ≡ only p rs
  only-live [] = refl
  only-live (r ∷ rs) = go (live r) refl (only-live rs)
    where
      go : (b : Bool) → live r ≡ b → only p (only live rs) ≡ only p rs → only p (cond b (r ∷ only live rs) (only live rs)) ≡ only p (r ∷ rs)
      go true e h = ap (λ (l : List (List ℕ)). cond (p r) (r ∷ l) l) h
      go false e h = rw (fails r e) h

  until-live : (rs : List (List ℕ)) → until p (only live rs) ≡ only live (until p rs)
  until-live [] = refl
  until-live (r ∷ rs) = go (live r) refl (p r) refl (until-live rs)
    where
      go : (b : Bool) → live r ≡ b → (q : Bool) → p r ≡ q → until p (only live rs) ≡ only live (until p rs)
          → until p (cond b (r ∷ only live rs) (only live rs)) ≡ only live (cond q [] (r ∷ until p rs))
      go true e true u h = rw u refl
      go true e false u h = rw (u, e) (ap (λ (l : List (List ℕ)). r ∷ l) h)
      go false e true u h = absurd (true≢false (sym u ∙ fails r e))
      go false e false u h = rw e h

-- ---- the tests of kinds
below : (k n : ℕ) → eqb k n ≡ true → ltb n 16 ≡ true → ltb k 16 ≡ true
below k n e h = ap (λ (m : ℕ). ltb m 16) (eqb-true k n e) ∙ h

within : (lo hi k : ℕ) → (leb lo k && leb k hi) ≡ true → ltb hi 16 ≡ true → ltb k 16 ≡ true
within lo hi k e h =
    let l = leb-true k hi ((and-eq-true_iff (leb lo k) (leb k hi)).0 e).1 in
    let m = ltb-true hi 16 h in
    lt-ltb k 16 (omega arith)

suite-alive : (r : List ℕ) → is_suite r ≡ true → live r ≡ true
suite-alive r e = below (kind_of r) 2 e refl

case-alive : (r : List ℕ) → is_case r ≡ true → live r ≡ true
case-alive r e = below (kind_of r) 3 e refl

main-alive : (r : List ℕ) → is_main r ≡ true → live r ≡ true
main-alive r e = within 6 8 (kind_of r) e refl

run-alive : (r : List ℕ) → is_run r ≡ true → live r ≡ true
run-alive r e = within 9 12 (kind_of r) e refl

-- ---- what is shown
abbrev branch : List ℕ → List (List ℕ) → Branch
branch r rs = record { head = r; below = rs }

module _ (text : List ℕ) where
  case-live : (r : List ℕ) (rs : List (List ℕ)) → public_case (case_of text (branch r (only live rs))) ≡ public_case (case_of text (branch r rs))
  case-live r rs = rw (only-live is_main main-alive rs, only-live is_run run-alive rs) refl

  abbrev cases_of : List (List ℕ) → List PublicCase
  cases_of rs = map public_case (map (case_of text) (branches is_case rs))

  cases-live : (rs : List (List ℕ)) → cases_of (only live rs) ≡ cases_of rs
  cases-live [] = refl
  cases-live (r ∷ rs) = go (live r) refl (is_case r) refl (cases-live rs)
    where
      go : (b : Bool) → live r ≡ b → (q : Bool) → is_case r ≡ q → cases_of (only live rs) ≡ cases_of rs
          → cases_of (cond b (r ∷ only live rs) (only live rs)) ≡ map public_case (map (case_of text) (cond q (branch r (until is_case rs) ∷ branches is_case rs) (branches is_case rs)))
      go true e true u h =
          rw u
          (ap (λ (l : List PublicCase). public_case (case_of text (branch r (until is_case (only live rs)))) ∷ l) h
          ∙ ap (λ (c : PublicCase). c ∷ cases_of rs) (ap (λ (l : List (List ℕ)). public_case (case_of text (branch r l))) (until-live is_case case-alive rs) ∙ case-live r (until is_case rs)))
      go true e false u h = rw u h
      go false e true u h = absurd (true≢false (sym u ∙ fails is_case case-alive r e))
      go false e false u h = h

  suite-live : (r : List ℕ) (rs : List (List ℕ)) → public_suite (suite_of text (branch r (only live rs))) ≡ public_suite (suite_of text (branch r rs))
  suite-live r rs = rw (cases-live rs) refl

  abbrev suites_of : List (List ℕ) → List PublicSuite
  suites_of rs = map public_suite (map (suite_of text) (branches is_suite rs))

  pub suites-live : (rs : List (List ℕ)) → suites_of (only live rs) ≡ suites_of rs
  suites-live [] = refl
  suites-live (r ∷ rs) = go (live r) refl (is_suite r) refl (suites-live rs)
    where
      go : (b : Bool) → live r ≡ b → (q : Bool) → is_suite r ≡ q → suites_of (only live rs) ≡ suites_of rs
          → suites_of (cond b (r ∷ only live rs) (only live rs)) ≡ map public_suite (map (suite_of text) (cond q (branch r (until is_suite rs) ∷ branches is_suite rs) (branches is_suite rs)))
      go true e true u h =
          rw u
          (ap (λ (l : List PublicSuite). public_suite (suite_of text (branch r (until is_suite (only live rs)))) ∷ l) h
          ∙ ap (λ (c : PublicSuite). c ∷ suites_of rs) (ap (λ (l : List (List ℕ)). public_suite (suite_of text (branch r l))) (until-live is_suite suite-alive rs) ∙ suite-live r (until is_suite rs)))
      go true e false u h = rw u h
      go false e true u h = absurd (true≢false (sym u ∙ fails is_suite suite-alive r e))
      go false e false u h = h
