-- A field of a listing tells its value and where it ends. Assumes nothing.
use Prim.Native.Nat.{ℕ, ◌≤◌, ◌<◌, ◌^◌}
use mathlib.Core.Path.{◌≡◌, refl, sym, ap, ◌∙◌}
use mathlib.Core.Bool.{Bool, true, false, cond, true≢false}
use mathlib.Core.List.{List, [], ◌∷◌, ◌++◌, append_assoc}
use mathlib.Core.Option.{Option, none, some}
use native.Mathlib.Omega.{arith}
use Rattle.list_text.specs.of_escape.Escape.{marked, letter, listed, escaped}
use Rattle.list_text.proofs.of_escape.Escaping.{plain-letter, listed-told}
use Rattle.list_text.specs.of_digits.Digits.{is_digit, all_digits, value, decimal}
use Rattle.list_text.proofs.of_digits.Printing.{decimal-digits, decimal-value}
use Rattle.list_text.proofs.of_digits.Ascii.{digit-decimal}
use Rattle.list_text.proofs.of_schema.Tests.{and_left, and_right}
use Rattle.list_text.specs.of_tree_report.Report.{Text}
use Rattle.list_text.specs.Listing.{quoted, or_dash}
use Rattle.merge_listing.specs.Told.{or_nothing}

-- ---- a quoted text
-- no escaped byte begins with the quote
no-quote : (b : ℕ) (x y : List ℕ) → 34 ∷ x ≡ listed b ++ y → ⊥
unfolding listed
no-quote b x y = go (marked b) refl
  where
    go : (t : Bool) → marked b ≡ t → 34 ∷ x ≡ cond t (92 ∷ letter b ∷ []) (letter b ∷ []) ++ y → ⊥
    go true p e = let z : ◌≡◌ {A = ℕ} 34 92 = cc in omega arith
    go false p e = let h : 34 ≡ letter b = cc in true≢false (ap marked (h ∙ plain-letter b p) ∙ p)

text-told : (s t x y : List ℕ) → escaped s ++ (34 ∷ x) ≡ escaped t ++ (34 ∷ y) → (s ≡ t) × (x ≡ y)
text-told [] [] x y e = (refl, cc)
text-told [] (b ∷ t) x y e = absurd (no-quote b x (escaped t ++ (34 ∷ y)) (e ∙ append_assoc (listed b) (escaped t) (34 ∷ y)))
text-told (a ∷ s) [] x y e = absurd (no-quote a y (escaped s ++ (34 ∷ x)) (sym e ∙ append_assoc (listed a) (escaped s) (34 ∷ x)))
text-told (a ∷ s) (b ∷ t) x y e =
    let h = listed-told a b (escaped s ++ (34 ∷ x)) (escaped t ++ (34 ∷ y)) (sym (append_assoc (listed a) (escaped s) (34 ∷ x)) ∙ e ∙ append_assoc (listed b) (escaped t) (34 ∷ y)) in
    let r = text-told s t x y h.1 in
    let f : a ≡ b = h.0 in
    let g : s ≡ t = r.0 in
    (cc, r.1)

-- ---- a number, with something behind it that is no digit
abbrev pub Stops : List ℕ → Type 0
Stops [] = ⊥
Stops (b ∷ x) = is_digit 10 b ≡ false

digits-told : (a b x y : List ℕ) → all_digits 10 a ≡ true → all_digits 10 b ≡ true → Stops x → Stops y → a ++ x ≡ b ++ y → (a ≡ b) × (x ≡ y)
digits-told [] [] x y p q s t e = (refl, e)
digits-told [] (d ∷ b) (c ∷ x) y p q s t e =
    let h : c ≡ d = cc in absurd (true≢false (sym (and_left (is_digit 10 d) (all_digits 10 b) q) ∙ ap (is_digit 10) (sym h) ∙ s))
digits-told [] (d ∷ b) [] y p q s t e = absurd s
digits-told (d ∷ a) [] x (c ∷ y) p q s t e =
    let h : d ≡ c = cc in absurd (true≢false (sym (and_left (is_digit 10 d) (all_digits 10 a) p) ∙ ap (is_digit 10) h ∙ t))
digits-told (d ∷ a) [] x [] p q s t e = absurd t
digits-told (d ∷ a) (c ∷ b) x y p q s t e =
    let h : d ≡ c = cc in
    let f : a ++ x ≡ b ++ y = cc in
    let r = digits-told a b x y (and_right (is_digit 10 d) (all_digits 10 a) p) (and_right (is_digit 10 c) (all_digits 10 b) q) s t f in
    let g : a ≡ b = r.0 in
    (cc, r.1)

pub number-told : (m n : ℕ) (x y : List ℕ) → m ≤ 18446744073709551615 → n ≤ 18446744073709551615 → Stops x → Stops y → decimal m ++ x ≡ decimal n ++ y → (m ≡ n) × (x ≡ y)
number-told m n x y p q s t e =
    let h = digits-told (decimal m) (decimal n) x y (decimal-digits m) (decimal-digits n) s t e in
    let big : 18446744073709551615 < 10 ^ 20 = omega arith in
    (sym (decimal-value m (omega (arith, p, big))) ∙ ap (value 10) h.0 ∙ decimal-value n (omega (arith, q, big)), h.1)

-- ---- what may be missing
pub name-told : (a b : Option Text) (x y : List ℕ) → or_dash quoted a ++ x ≡ or_dash quoted b ++ y → (a ≡ b) × (x ≡ y)
name-told none none x y e = (refl, cc)
name-told none (some t) x y e = let z : ◌≡◌ {A = ℕ} 45 34 = cc in absurd (omega arith)
name-told (some s) none x y e = let z : ◌≡◌ {A = ℕ} 34 45 = cc in absurd (omega arith)
name-told (some s) (some t) x y e =
    let f : (escaped s ++ (34 ∷ [])) ++ x ≡ (escaped t ++ (34 ∷ [])) ++ y = cc in
    let r = text-told s t x y (sym (append_assoc (escaped s) (34 ∷ []) x) ∙ f ∙ append_assoc (escaped t) (34 ∷ []) y) in
    (ap some r.0, r.1)

-- behind the last field: no digit, and no dash
abbrev pub Last : List ℕ → Type 0
Last [] = ⊥
Last (b ∷ x) = (is_digit 10 b ≡ false) × (b ≡ 45 → ⊥)

last-stops : (x : List ℕ) → Last x → Stops x
last-stops [] l = l
last-stops (b ∷ x) l = l.0

no-dash : (ds x y : List ℕ) → all_digits 10 ds ≡ true → Last y → 45 ∷ x ≡ ds ++ y → ⊥
no-dash [] x [] p l e = l
no-dash [] x (b ∷ y) p l e = let h : b ≡ 45 = cc in l.1 h
no-dash (d ∷ ds) x y p l e =
    let h : 45 ≡ d = cc in
    let k = digit-decimal d (and_left (is_digit 10 d) (all_digits 10 ds) p) in
    omega (arith, h, k.0)

pub missing-told : (a b : Option ℕ) (x y : List ℕ) → or_nothing a ≤ 18446744073709551615 → or_nothing b ≤ 18446744073709551615 → Last x → Last y
    → or_dash decimal a ++ x ≡ or_dash decimal b ++ y → (a ≡ b) × (x ≡ y)
missing-told none none x y p q s t e = (refl, cc)
missing-told none (some n) x y p q s t e = absurd (no-dash (decimal n) x y (decimal-digits n) t e)
missing-told (some m) none x y p q s t e = absurd (no-dash (decimal m) y x (decimal-digits m) s (sym e))
missing-told (some m) (some n) x y p q s t e = let r = number-told m n x y p q (last-stops x s) (last-stops y t) e in (ap some r.0, r.1)
