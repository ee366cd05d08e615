-- The listed cases of a list of nodes, with one suite or one case more. Assumes nothing.
use Prim.Native.Nat.{ℕ}
use mathlib.Core.Path.{◌≡◌, refl, sym, ap, ap₂, ◌∙◌}
use mathlib.Core.List.{List, [], ◌∷◌, ◌++◌, append_assoc, append-nil}
use mathlib.Core.Bool.{Bool, true, false, cond}
use mathlib.Core.Option.{Option}
use Rattle.list_text.specs.of_tree_report.Report.{Text, Counts, Duration}
use Rattle.list_text.specs.Listing.{PublicCase, PublicSuite}
use Rattle.public_claims.specs.inside.PublicMachine.{Node, report_node, suite_node, case_node, main_node, run_node, is_suite_node, is_case_node, up_to_next, case_from, cases_in, suites_in, report_in}
use Rattle.public_claims.specs.OwnStatus.{cases_of_all, cases_listed}
use Rattle.public_claims.proofs.Acts.{impossible}
use Rattle.public_claims.proofs.Rules.{Codes, no_code, main_code, run-code}

-- ---- up to the next
up-stop : (p : Node → Bool) (xs : List Node) (y : Node) (ys : List Node) → p y ≡ true → up_to_next p (xs ++ (y ∷ ys)) ≡ up_to_next p xs
up-stop p [] y ys e = ap (λ (b : Bool). cond b [] (y ∷ up_to_next p ys)) e
up-stop p (x ∷ xs) y ys e = ap (λ (r : List Node). cond (p x) [] (x ∷ r)) (up-stop p xs y ys e)

abbrev has_suite : List Node → Bool
has_suite [] = false
has_suite (x ∷ xs) = cond (is_suite_node x) true (has_suite xs)

up-later : (xs ys : List Node) → has_suite xs ≡ true → up_to_next is_suite_node (xs ++ ys) ≡ up_to_next is_suite_node xs
up-later [] ys e = impossible e
up-later (x ∷ xs) ys e = go (is_suite_node x) e (up-later xs ys)
  where
    go : (b : Bool) → cond b true (has_suite xs) ≡ true → (has_suite xs ≡ true → up_to_next is_suite_node (xs ++ ys) ≡ up_to_next is_suite_node xs) →
        cond b [] (x ∷ up_to_next is_suite_node (xs ++ ys)) ≡ cond b [] (x ∷ up_to_next is_suite_node xs)
    go true e i = refl
    go false e i = ap (x ∷◌) (i e)

up_none : (xs : List Node) → has_suite xs ≡ false → up_to_next is_suite_node xs ≡ xs
up_none [] e = refl
up_none (x ∷ xs) e = go (is_suite_node x) e (up_none xs)
  where
    go : (b : Bool) → cond b true (has_suite xs) ≡ false → (has_suite xs ≡ false → up_to_next is_suite_node xs ≡ xs) → cond b [] (x ∷ up_to_next is_suite_node xs) ≡ x ∷ xs
    go true e i = impossible (sym e)
    go false e i = ap (x ∷◌) (i e)

suites-none : (xs : List Node) → has_suite xs ≡ false → suites_in xs ≡ []
suites-none [] e = refl
suites-none (report_node n c ∷ xs) e = suites-none xs e
suites-none (suite_node n c ∷ xs) e = impossible (sym e)
suites-none (case_node n c t ∷ xs) e = suites-none xs e
suites-none (main_node k ∷ xs) e = suites-none xs e
suites-none (run_node k t ∷ xs) e = suites-none xs e

none-append : (xs ys : List Node) → has_suite xs ≡ false → has_suite ys ≡ false → has_suite (xs ++ ys) ≡ false
none-append [] ys e f = f
none-append (x ∷ xs) ys e f = go (is_suite_node x) e (none-append xs ys)
  where
    go : (b : Bool) → cond b true (has_suite xs) ≡ false → (has_suite xs ≡ false → has_suite ys ≡ false → has_suite (xs ++ ys) ≡ false) → cond b true (has_suite (xs ++ ys)) ≡ false
    go true e i = impossible (sym e)
    go false e i = i e f

some-append : (xs ys : List Node) → has_suite xs ≡ true → has_suite (xs ++ ys) ≡ true
some-append [] ys e = impossible e
some-append (x ∷ xs) ys e = go (is_suite_node x) e (some-append xs ys)
  where
    go : (b : Bool) → cond b true (has_suite xs) ≡ true → (has_suite xs ≡ true → has_suite (xs ++ ys) ≡ true) → cond b true (has_suite (xs ++ ys)) ≡ true
    go true e i = refl
    go false e i = i e

some-suite : (xs : List Node) (n : Text) (c : Counts) → has_suite (xs ++ (suite_node n c ∷ [])) ≡ true
some-suite [] n c = refl
some-suite (x ∷ xs) n c = go (is_suite_node x) (some-suite xs n c)
  where
    go : (b : Bool) → has_suite (xs ++ (suite_node n c ∷ [])) ≡ true → cond b true (has_suite (xs ++ (suite_node n c ∷ []))) ≡ true
    go true i = refl
    go false i = i

-- ---- the status elements of one case
codes-up : {ns : List Node} {ks : List ℕ} → Codes ns ks → up_to_next is_case_node ns ≡ ns
codes-up no_code = refl
codes-up (main_code k a b c) = ap (main_node k ∷◌) (codes-up c)
codes-up (run-code k t a b c) = ap (run_node k t ∷◌) (codes-up c)

codes-cases : {ns : List Node} {ks : List ℕ} → Codes ns ks → cases_in ns ≡ []
codes-cases no_code = refl
codes-cases (main_code k a b c) = codes-cases c
codes-cases (run-code k t a b c) = codes-cases c

codes-suites : {ns : List Node} {ks : List ℕ} → Codes ns ks → has_suite ns ≡ false
codes-suites no_code = refl
codes-suites (main_code k a b c) = codes-suites c
codes-suites (run-code k t a b c) = codes-suites c

module _ (n : Text) (c : Option Text) (t : Option Duration) {ns : List Node} {ks : List ℕ} (d : Codes ns ks) where
  cases-more : (xs : List Node) → cases_in (xs ++ (case_node n c t ∷ ns)) ≡ cases_in xs ++ (case_from n c t ns ∷ [])
  cases-more [] = ap₂ (λ (x : List Node) (y : List PublicCase). case_from n c t x ∷ y) (codes-up d) (codes-cases d)
  cases-more (report_node m k ∷ xs) = cases-more xs
  cases-more (suite_node m k ∷ xs) = cases-more xs
  cases-more (case_node m k u ∷ xs) =
      ap₂ (λ (x : List Node) (y : List PublicCase). case_from m k u x ∷ y) (up-stop is_case_node xs (case_node n c t) ns refl) (cases-more xs)
  cases-more (main_node k ∷ xs) = cases-more xs
  cases-more (run_node k u ∷ xs) = cases-more xs

  -- a case goes to the last suite
  all_more : (xs : List Node) → has_suite xs ≡ true → cases_of_all (suites_in (xs ++ (case_node n c t ∷ ns))) ≡ cases_of_all (suites_in xs) ++ (case_from n c t ns ∷ [])
  all_more [] e = impossible e
  all_more (report_node m k ∷ xs) e = all_more xs e
  all_more (case_node m k u ∷ xs) e = all_more xs e
  all_more (main_node k ∷ xs) e = all_more xs e
  all_more (run_node k u ∷ xs) e = all_more xs e
  all_more (suite_node m k ∷ xs) e = go (has_suite xs) refl (all_more xs)
    where
      go : (b : Bool) → has_suite xs ≡ b → (has_suite xs ≡ true → cases_of_all (suites_in (xs ++ (case_node n c t ∷ ns))) ≡ cases_of_all (suites_in xs) ++ (case_from n c t ns ∷ [])) →
          cases_in (up_to_next is_suite_node (xs ++ (case_node n c t ∷ ns))) ++ cases_of_all (suites_in (xs ++ (case_node n c t ∷ ns)))
          ≡ (cases_in (up_to_next is_suite_node xs) ++ cases_of_all (suites_in xs)) ++ (case_from n c t ns ∷ [])
      go true f i =
          ap₂ (λ (x : List Node) (y : List PublicCase). cases_in x ++ y) (up-later xs (case_node n c t ∷ ns) f) (i f)
          ∙ sym (append_assoc (cases_in (up_to_next is_suite_node xs)) (cases_of_all (suites_in xs)) (case_from n c t ns ∷ []))
      go false f i =
          let g : has_suite (xs ++ (case_node n c t ∷ ns)) ≡ false = none-append xs (case_node n c t ∷ ns) f (codes-suites d) in
          ap₂ (λ (x : List Node) (y : List PublicSuite). cases_in x ++ cases_of_all y) (up_none (xs ++ (case_node n c t ∷ ns)) g) (suites-none (xs ++ (case_node n c t ∷ ns)) g)
          ∙ append-nil (cases_in (xs ++ (case_node n c t ∷ ns)))
          ∙ cases-more xs
          ∙ ap (◌++ (case_from n c t ns ∷ []))
          (sym (ap₂ (λ (x : List Node) (y : List PublicSuite). cases_in x ++ cases_of_all y) (up_none xs f) (suites-none xs f) ∙ append-nil (cases_in xs)))

-- a suite more has no case yet
all-suite : (xs : List Node) (n : Text) (c : Counts) → cases_of_all (suites_in (xs ++ (suite_node n c ∷ []))) ≡ cases_of_all (suites_in xs)
all-suite [] n c = refl
all-suite (report_node m k ∷ xs) n c = all-suite xs n c
all-suite (case_node m k u ∷ xs) n c = all-suite xs n c
all-suite (main_node k ∷ xs) n c = all-suite xs n c
all-suite (run_node k u ∷ xs) n c = all-suite xs n c
all-suite (suite_node m k ∷ xs) n c =
    ap₂ (λ (x : List Node) (y : List PublicCase). cases_in x ++ y) (up-stop is_suite_node xs (suite_node n c) [] refl) (all-suite xs n c)

-- ---- the whole list
abbrev pub listed_in : List Node → List PublicCase
listed_in ns = cases_listed (report_in ns)

-- the report comes first; a suite stands behind it
abbrev pub Reported : List Node → Type 0
Reported [] = ⊥
Reported (report_node n c ∷ ns) = Unit {0}
Reported (suite_node n c ∷ ns) = ⊥
Reported (case_node n c t ∷ ns) = ⊥
Reported (main_node k ∷ ns) = ⊥
Reported (run_node k t ∷ ns) = ⊥

abbrev pub Suited : List Node → Type 0
Suited [] = ⊥
Suited (report_node n c ∷ ns) = has_suite ns ≡ true
Suited (suite_node n c ∷ ns) = ⊥
Suited (case_node n c t ∷ ns) = ⊥
Suited (main_node k ∷ ns) = ⊥
Suited (run_node k t ∷ ns) = ⊥

pub suited-reported : (ns : List Node) → Suited ns → Reported ns
suited-reported [] h = h
suited-reported (report_node n c ∷ ns) h = tt
suited-reported (suite_node n c ∷ ns) h = h
suited-reported (case_node n c t ∷ ns) h = h
suited-reported (main_node k ∷ ns) h = h
suited-reported (run_node k t ∷ ns) h = h

pub suited-more : (ns ms : List Node) → Suited ns → Suited (ns ++ ms)
suited-more [] ms h = absurd h
suited-more (report_node n c ∷ ns) ms h = some-append ns ms h
suited-more (suite_node n c ∷ ns) ms h = h
suited-more (case_node n c t ∷ ns) ms h = h
suited-more (main_node k ∷ ns) ms h = h
suited-more (run_node k t ∷ ns) ms h = h

pub suited-suite : (ns : List Node) (n : Text) (c : Counts) → Reported ns → Suited (ns ++ (suite_node n c ∷ []))
suited-suite [] n c h = absurd h
suited-suite (report_node m k ∷ ns) n c h = some-suite ns n c
suited-suite (suite_node m k ∷ ns) n c h = h
suited-suite (case_node m k t ∷ ns) n c h = h
suited-suite (main_node k ∷ ns) n c h = h
suited-suite (run_node k t ∷ ns) n c h = h

pub listed-suite : (ns : List Node) (n : Text) (c : Counts) → listed_in (ns ++ (suite_node n c ∷ [])) ≡ listed_in ns
listed-suite [] n c = refl
listed-suite (report_node m k ∷ ns) n c = all-suite ns n c
listed-suite (suite_node m k ∷ ns) n c = refl
listed-suite (case_node m k t ∷ ns) n c = refl
listed-suite (main_node k ∷ ns) n c = refl
listed-suite (run_node k t ∷ ns) n c = refl

pub listed-case : (n : Text) (c : Option Text) (t : Option Duration) {ns : List Node} {ks : List ℕ} → Codes ns ks → (xs : List Node) → Suited xs →
    listed_in (xs ++ (case_node n c t ∷ ns)) ≡ listed_in xs ++ (case_from n c t ns ∷ [])
listed-case n c t d [] h = absurd h
listed-case n c t d (report_node m k ∷ xs) h = all_more n c t d xs h
listed-case n c t d (suite_node m k ∷ xs) h = absurd h
listed-case n c t d (case_node m k u ∷ xs) h = absurd h
listed-case n c t d (main_node k ∷ xs) h = absurd h
listed-case n c t d (run_node k u ∷ xs) h = absurd h
