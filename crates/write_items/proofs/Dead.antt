-- Dead records are no part of a report. Assumes nothing.
use Prim.Native.Nat.{ℕ}
use mathlib.Core.Path.{◌≡◌, refl, sym, ap, ap₂, ◌∙◌}
use mathlib.Core.List.{List, [], ◌∷◌, map}
use mathlib.Core.Bool.{Bool, true, false, cond, ◌&&◌, and-eq-true_iff, true≢false}
use native.Mathlib.Omega.{arith}
use borrow.Author.Tests.{lt-ltb, ltb-true, leb-true, eqb-true}
use lib.Dec.{leb, ltb, eqb}
use Rattle.write_report.specs.of_tree_record.Kinds as kind
use Rattle.write_report.specs.of_tree_report.Fields.{kind_of, live, is_suite, is_case, is_main, is_run, is_suite_property, is_case_property, is_suite_extra, is_case_extra}
use Rattle.write_report.specs.of_tree_report.ReportOf.{Branch, only, until, branches, case_of, suite_of}

abbrev pub branch : List ℕ → List (List ℕ) → Branch
branch r rs = record { head = r; below = rs }

-- ---- a test that no dead record passes
abbrev Alive : (List ℕ → Bool) → Type 0
Alive p = (r : List ℕ) → p r ≡ true → live r ≡ true

module _ (p : List ℕ → Bool) (alive : Alive p) where
  fails : (r : List ℕ) → live r ≡ false → p r ≡ false
  fails r d = go (p r) refl
    where
      go : (b : Bool) → p r ≡ b → b ≡ false
      go true e = absurd (true≢false (sym (alive r e) ∙ d))
      go false e = refl

  only-live : (rs : List (List ℕ)) → only p (only live rs) ≡ only p rs
  only-live [] = refl
  only-live (r ∷ rs) = go (live r) refl (only-live rs)
    where
      go : (b : Bool) → live r ≡ b → only p (only live rs) ≡ only p rs → only p (cond b (r ∷ only live rs) (only live rs)) ≡ only p (r ∷ rs)
      go true e h = ap (λ (l : List (List ℕ)). cond (p r) (r ∷ l) l) h
      go false e h = rw (fails r e) h

  until-live : (rs : List (List ℕ)) → until p (only live rs) ≡ only live (until p rs)
  until-live [] = refl
  until-live (r ∷ rs) = go (live r) refl (p r) refl (until-live rs)
    where
      go : (b : Bool) → live r ≡ b → (q : Bool) → p r ≡ q → until p (only live rs) ≡ only live (until p rs)
          → until p (cond b (r ∷ only live rs) (only live rs)) ≡ only live (cond q [] (r ∷ until p rs))
      go true e true u h = rw u refl
      go true e false u h = rw (u, e) (ap (λ (l : List (List ℕ)). r ∷ l) h)
      go false e true u h = absurd (true≢false (sym u ∙ fails r e))
      go false e false u h = rw e h

  module _ {A : Type 0} (read : Branch → A) (same : (r : List ℕ) (rs : List (List ℕ)) → read (branch r (only live rs)) ≡ read (branch r rs)) where
    branches-live : (rs : List (List ℕ)) → map read (branches p (only live rs)) ≡ map read (branches p rs)
    branches-live [] = refl
    branches-live (r ∷ rs) = go (live r) refl (p r) refl (branches-live rs)
      where
        go : (b : Bool) → live r ≡ b → (q : Bool) → p r ≡ q → map read (branches p (only live rs)) ≡ map read (branches p rs)
            → map read (branches p (cond b (r ∷ only live rs) (only live rs))) ≡ map read (cond q (branch r (until p rs) ∷ branches p rs) (branches p rs))
        go true e true u h = rw u (ap₂ ◌∷◌ (ap (λ (l : List (List ℕ)). read (branch r l)) (until-live rs) ∙ same r (until p rs)) h)
        go true e false u h = rw u h
        go false e true u h = absurd (true≢false (sym u ∙ fails r e))
        go false e false u h = h

-- ---- the tests of kinds
below : (k n : ℕ) → eqb k n ≡ true → ltb n kind.dead ≡ true → ltb k kind.dead ≡ true
below k n e h = ap (λ (m : ℕ). ltb m kind.dead) (eqb-true k n e) ∙ h

within : (low high k : ℕ) → (leb low k && leb k high) ≡ true → ltb high kind.dead ≡ true → ltb k kind.dead ≡ true
within low high k e h =
    let l = leb-true k high ((and-eq-true_iff (leb low k) (leb k high)).0 e).1 in
    let m = ltb-true high kind.dead h in
    lt-ltb k kind.dead (omega arith)

of-kind : (n : ℕ) → ltb n kind.dead ≡ true → Alive (λ (r : List ℕ). eqb (kind_of r) n)
of-kind n h r e = below (kind_of r) n e h

of-kinds : (low high : ℕ) → ltb high kind.dead ≡ true → Alive (λ (r : List ℕ). leb low (kind_of r) && leb (kind_of r) high)
of-kinds low high h r e = within low high (kind_of r) e h

-- ---- cases and suites
module _ (text : List ℕ) where
  case-live : (r : List ℕ) (rs : List (List ℕ)) → case_of text (branch r (only live rs)) ≡ case_of text (branch r rs)
  case-live r rs =
      rw (only-live is_main (of-kinds 6 8 refl) rs, only-live is_run (of-kinds 9 12 refl) rs, only-live is_case_extra (of-kind 14 refl) rs, only-live is_case_property (of-kind 5 refl) rs)
      refl

  suite-live : (r : List ℕ) (rs : List (List ℕ)) → suite_of text (branch r (only live rs)) ≡ suite_of text (branch r rs)
  suite-live r rs =
      rw (branches-live is_case (of-kind 3 refl) (case_of text) case-live rs, only-live is_suite_extra (of-kind 13 refl) rs, only-live is_suite_property (of-kind 4 refl) rs)
      refl

  pub suites-live : (rs : List (List ℕ)) → map (suite_of text) (branches is_suite (only live rs)) ≡ map (suite_of text) (branches is_suite rs)
  suites-live = branches-live is_suite (of-kind 2 refl) (suite_of text) suite-live
