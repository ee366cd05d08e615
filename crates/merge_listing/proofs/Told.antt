-- Equal listings tell the same name, counts and text of the suites. Assumes nothing.
use Prim.Native.Nat.{ℕ, suc, ◌+◌, ◌≤◌}
use mathlib.Core.Path.{◌≡◌, refl, sym, ap, ◌∙◌}
use mathlib.Core.Bool.{false}
use mathlib.Core.List.{List, [], ◌∷◌, ◌++◌, append_assoc}
use native.Mathlib.Omega.{arith}
use lib.ListN.{length, length-append}
use Rattle.list_text.specs.of_digits.Digits.{digit, is_digit, decimal}
use Rattle.list_text.specs.of_names.Bytes.{bytes}
use Rattle.list_text.specs.of_tree_report.Report.{Counts}
use Rattle.list_text.specs.Listing.{PublicReport, PublicSuite, quoted, or_dash, fields, count_fields, header, suite_texts, suite_text, ending, render_public}
use Rattle.merge_listing.specs.Told.{InLimit, Told}
use Rattle.merge_listing.proofs.Fields.{number-told, name-told, Last, missing-told}

-- fields with what stands behind them
abbrev behind : List (List ℕ) → List ℕ → List ℕ
behind [] z = z
behind (f ∷ fs) z = 32 ∷ (f ++ behind fs z)

fields-behind : (fs : List (List ℕ)) (z : List ℕ) → fields fs ++ z ≡ behind fs z
fields-behind [] z = refl
fields-behind (f ∷ fs) z = ap (λ (x : List ℕ). 32 ∷ x) (append_assoc f (fields fs) z ∙ ap (λ (x : List ℕ). f ++ x) (fields-behind fs z))

abbrev rest : PublicReport → List ℕ
rest r = suite_texts r.suites ++ ending

space-stops : is_digit 10 32 ≡ false
unfolding digit
space-stops = refl

suites-last : (ss : List PublicSuite) → Last (suite_texts ss ++ ending)
unfolding suite_text digit
suites-last [] = (refl, λ e. omega (arith, e))
suites-last (s ∷ ss) = (refl, λ e. omega (arith, e))

shown : (r : PublicReport) → render_public r ≡ bytes "(report" ++ behind (or_dash quoted r.name ∷ count_fields r.counts) (rest r)
unfolding render_public header
shown r =
    append_assoc (bytes "(report") (fields (or_dash quoted r.name ∷ count_fields r.counts)) (rest r)
    ∙ ap (λ (x : List ℕ). bytes "(report" ++ x) (fields-behind (or_dash quoted r.name ∷ count_fields r.counts) (rest r))

same-front : (x y : List ℕ) → bytes "(report" ++ x ≡ bytes "(report" ++ y → x ≡ y
same-front x y e = cc

longer : (b : ℕ) (x e : List ℕ) → e ≡ b ∷ (x ++ e) → ⊥
longer b x e h =
    let k : length e ≡ suc (length (x ++ e)) = ap length h in
    let l : length (x ++ e) ≡ length x + length e = length-append x e in
    omega (arith, k, l)

cancel : (x y e : List ℕ) → x ++ e ≡ y ++ e → x ≡ y
cancel [] [] e h = refl
cancel [] (b ∷ y) e h = absurd (longer b y e h)
cancel (a ∷ x) [] e h = absurd (longer a x e (sym h))
cancel (a ∷ x) (b ∷ y) e h =
    let f : a ≡ b = cc in
    let g : x ++ e ≡ y ++ e = cc in
    let k : x ≡ y = cancel x y e g in
    cc

same-counts : (a b : Counts) → a.tests ≡ b.tests → a.failures ≡ b.failures → a.errors ≡ b.errors → a.skipped ≡ b.skipped → a.disabled ≡ b.disabled → a ≡ b
same-counts a b t f e s d = λ i. record { tests = t i; failures = f i; errors = e i; skipped = s i; disabled = d i }

spaced : (x y : List ℕ) → 32 ∷ x ≡ 32 ∷ y → x ≡ y
spaced x y e = cc

-- a count with a space before and behind it
count-told : (m n : ℕ) (x y : List ℕ) → m ≤ 18446744073709551615 → n ≤ 18446744073709551615
    → 32 ∷ (decimal m ++ (32 ∷ x)) ≡ 32 ∷ (decimal n ++ (32 ∷ y)) → (m ≡ n) × (32 ∷ x ≡ 32 ∷ y)
count-told m n x y p q e = number-told m n (32 ∷ x) (32 ∷ y) p q space-stops space-stops (spaced (decimal m ++ (32 ∷ x)) (decimal n ++ (32 ∷ y)) e)

module _ (r s : PublicReport) where
  abbrev a : Counts
  a = r.counts

  abbrev b : Counts
  b = s.counts

  -- what stands behind the name, behind tests, and so on
  abbrev behind_name : PublicReport → List ℕ
  behind_name t = behind (count_fields t.counts) (rest t)

  abbrev behind_tests : PublicReport → List ℕ
  behind_tests t = decimal t.counts.failures ++ behind (decimal t.counts.errors ∷ decimal t.counts.skipped ∷ or_dash decimal t.counts.disabled ∷ []) (rest t)

  abbrev behind_failures : PublicReport → List ℕ
  behind_failures t = decimal t.counts.errors ++ behind (decimal t.counts.skipped ∷ or_dash decimal t.counts.disabled ∷ []) (rest t)

  abbrev behind_errors : PublicReport → List ℕ
  behind_errors t = decimal t.counts.skipped ++ behind (or_dash decimal t.counts.disabled ∷ []) (rest t)

  abbrev behind_skipped : PublicReport → List ℕ
  behind_skipped t = or_dash decimal t.counts.disabled ++ rest t

  first-told : render_public r ≡ render_public s → (r.name ≡ s.name) × (behind_name r ≡ behind_name s)
  first-told e =
      name-told r.name s.name (behind_name r) (behind_name s)
      (spaced (or_dash quoted r.name ++ behind_name r) (or_dash quoted s.name ++ behind_name s)
      (same-front (32 ∷ (or_dash quoted r.name ++ behind_name r)) (32 ∷ (or_dash quoted s.name ++ behind_name s)) (sym (shown r) ∙ e ∙ shown s)))

  counts-told : InLimit a → InLimit b → behind_name r ≡ behind_name s → (a ≡ b) × (suite_texts r.suites ≡ suite_texts s.suites)
  counts-told p q e =
      let n₁ = count-told a.tests b.tests (behind_tests r) (behind_tests s) p.tests q.tests e in
      let n₂ = count-told a.failures b.failures (behind_failures r) (behind_failures s) p.failures q.failures n₁.1 in
      let n₃ = count-told a.errors b.errors (behind_errors r) (behind_errors s) p.errors q.errors n₂.1 in
      let n₄ = count-told a.skipped b.skipped (behind_skipped r) (behind_skipped s) p.skipped q.skipped n₃.1 in
      let n₅ = missing-told a.disabled b.disabled (rest r) (rest s) p.disabled q.disabled
      (suites-last r.suites) (suites-last s.suites) (spaced (behind_skipped r) (behind_skipped s) n₄.1) in
      (same-counts a b n₁.0 n₂.0 n₃.0 n₄.0 n₅.0, cancel (suite_texts r.suites) (suite_texts s.suites) ending n₅.1)

pub told : Told
told r s p q e =
    let f = first-told r s e in
    let c = counts-told r s p q f.1 in
    (f.0, c.0, c.1)
