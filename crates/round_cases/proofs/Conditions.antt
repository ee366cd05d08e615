-- A report is plain where it violates none of the conditions. Assumes nothing.
use mathlib.Core.List.{List, [], ◌∷◌}
use mathlib.Core.Bool.{Bool, true, false, not, cond, ◌&&◌}
use mathlib.Core.Path.{◌≡◌, refl, sym, ap, ◌∙◌}
use Rattle.public_cases.specs.of_tree_report.Report.{Text, TestCase, TestSuite, Report}
use Rattle.public_cases.specs.of_tree_report.Encode.{every}
use Rattle.round_elements.specs.of_write_report.Written.{is_empty}
use Rattle.round_elements.specs.Plain.{cases_of, keys_of, is_in, distinct, holds, suite_keys, case_keys, good_keys, plain}
use Rattle.round_cases.specs.Conditions.{Condition, bare_texts, given_descriptions, whole_times, whole_timestamps, distinct_on_suites, unescaped_on_suites, others_on_suites, distinct_on_cases}
use Rattle.round_cases.specs.Conditions.{unescaped_on_cases, others_on_cases, ruled_status, within_limits, conditions, unescaped, others, on_suites, on_cases, meets, unmet, violated}

-- ---- conjunctions
and-true : (a : Bool) → (a && true) ≡ a
and-true true = refl
and-true false = refl

and-across : (a b c d : Bool) → ((a && b) && (c && d)) ≡ ((a && c) && (b && d))
and-across true true c d = refl
and-across true false true d = refl
and-across true false false d = refl
and-across false b c d = refl

and-three : (a b c d : Bool) → ((a && (b && c)) && d) ≡ (a && (b && (c && d)))
and-three true true c d = refl
and-three true false c d = refl
and-three false b c d = refl

every-and : {A : Type 0} (p q : A → Bool) (xs : List A) → every (λ x. p x && q x) xs ≡ (every p xs && every q xs)
every-and p q [] = refl
every-and p q (x ∷ xs) = ap (λ (b : Bool). (p x && q x) && b) (every-and p q xs) ∙ and-across (p x) (q x) (every p xs) (every q xs)

every-same : {A : Type 0} (p q : A → Bool) → ((x : A) → p x ≡ q x) → (xs : List A) → every p xs ≡ every q xs
every-same p q e [] = refl
every-same p q e (x ∷ xs) = ap (λ (b : Bool). b && every p xs) (e x) ∙ ap (λ (b : Bool). q x && b) (every-same p q e xs)

-- ---- the conditions on extra keys
keys-split : (own ks : List Text) → good_keys own ks ≡ (distinct ks && (unescaped ks && others own ks))
keys-split own ks = ap (λ (b : Bool). distinct ks && b) (every-and (λ (k : Text). not (holds 0x26 k)) (λ (k : Text). not (is_in k own)) ks)

module _ {A : Type 0} (keys : A → List Text) (own : List Text) where
  abbrev on : (List Text → Bool) → List A → Bool
  on p xs = every (λ (x : A). p (keys x)) xs

  on-split : (xs : List A) → on (good_keys own) xs ≡ (on distinct xs && (on unescaped xs && on (others own) xs))
  on-split xs =
      every-same (λ x. good_keys own (keys x)) (λ x. distinct (keys x) && (unescaped (keys x) && others own (keys x))) (λ x. keys-split own (keys x)) xs
      ∙ (every-and (λ x. distinct (keys x)) (λ x. unescaped (keys x) && others own (keys x)) xs
      ∙ ap (λ (b : Bool). on distinct xs && b) (every-and (λ x. unescaped (keys x)) (λ x. others own (keys x)) xs))

-- ---- all of them
unmet-none : (r : Report) (ks : List Condition) → is_empty (unmet r ks) ≡ every (meets r) ks
unmet-none r [] = refl
unmet-none r (k ∷ ks) = go (meets r k) (unmet-none r ks)
  where
    go : (b : Bool) → is_empty (unmet r ks) ≡ every (meets r) ks → is_empty (cond b (unmet r ks) (k ∷ unmet r ks)) ≡ (b && every (meets r) ks)
    go true e = e
    go false e = refl

-- the conditions on suites and cases, three each, and two behind them
flat : (s s₁ s₂ s₃ c c₁ c₂ c₃ a b : Bool) → s ≡ (s₁ && (s₂ && s₃)) → c ≡ (c₁ && (c₂ && c₃))
    → (s && (c && (a && b))) ≡ (s₁ && (s₂ && (s₃ && (c₁ && (c₂ && (c₃ && (a && (b && true))))))))
flat s s₁ s₂ s₃ c c₁ c₂ c₃ a b p q =
    ap (λ (x : Bool). x && (c && (a && b))) p
    ∙ (and-three s₁ s₂ s₃ (c && (a && b))
    ∙ ap (λ (x : Bool). s₁ && (s₂ && (s₃ && x))) (ap (λ (x : Bool). x && (a && b)) q
    ∙ (and-three c₁ c₂ c₃ (a && b)
    ∙ ap (λ (x : Bool). c₁ && (c₂ && (c₃ && (a && x)))) (sym (and-true b)))))

pub plain-violated : (r : Report) → plain r ≡ is_empty (violated r)
unfolding plain
plain-violated r =
    let m : Condition → Bool = meets r in
    ap (λ (x : Bool). m bare_texts && (m given_descriptions && (m whole_times && (m whole_timestamps && x))))
    (flat (on_suites (good_keys suite_keys) r) (m distinct_on_suites) (m unescaped_on_suites) (m others_on_suites)
    (on_cases (good_keys case_keys) r) (m distinct_on_cases) (m unescaped_on_cases) (m others_on_cases)
    (m ruled_status) (m within_limits)
    (on-split (λ (s : TestSuite). keys_of s.extra) suite_keys r.suites)
    (on-split (λ (c : TestCase). keys_of c.extra) case_keys (cases_of r)))
    ∙ sym (unmet-none r conditions)
