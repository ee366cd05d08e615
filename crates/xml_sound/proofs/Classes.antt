-- Kinds of characters that a byte's tests give. Assumes nothing.
use Prim.Native.Nat.{ℕ, ◌+◌, ◌-◌, ◌<◌}
use mathlib.Core.Path.{◌≡◌, sym, ap, ◌∙◌, subst}
use mathlib.Core.Bool.{Bool, true, false, cond, not, ◌&&◌, ◌||◌, and-eq-true_iff}
use native.Mathlib.Omega.{arith}
use native.Mathlib.Decide.{dec_lt}
use lib.Dec.{leb, ltb, eqb}
use borrow.Author.Tests.{ne_eqb, eqb-true, ltb-true}
use Rattle.xml_grammar.specs.of_xml_chars.Chars.{is_in, any_char, name_start, lower, Quote, single, double, mark}
use Rattle.xml_grammar.proofs.of_xml_chars.CharLaws.{lower-least}
use Rattle.xml_grammar.specs.Grammar.{in_value, in_data_of, in_remark_of}

and-true : {x y : Bool} → x ≡ true → y ≡ true → (x && y) ≡ true
and-true {x} {y} e f = (and-eq-true_iff x y).1 (e, f)

nor : {x y : Bool} → x ≡ false → y ≡ false → (x || y) ≡ false
nor e f = rw e f

pub in_remark : {c : ℕ} → is_in any_char c ≡ true → ¬ (c ≡ 0x2D) → in_remark_of c ≡ true
in_remark {c} m h = and-true m (ap not (ne_eqb c 0x2D h))

pub in_data : {c : ℕ} → is_in any_char c ≡ true → ¬ (c ≡ 0x3C) → ¬ (c ≡ 0x26) → in_data_of c ≡ true
in_data {c} m h i = and-true m (ap not (nor (ne_eqb c 0x3C h) (ne_eqb c 0x26 i)))

pub in-value : (q : Quote) {c : ℕ} → is_in any_char c ≡ true → ¬ (c ≡ mark q) → ¬ (c ≡ 0x3C) → ¬ (c ≡ 0x26) → in_value q c ≡ true
in-value q {c} m j h i = and-true m (ap not (nor (ne_eqb c (mark q) j) (nor (ne_eqb c 0x3C h) (ne_eqb c 0x26 i))))

pub mark-low : (q : Quote) → mark q < 0x80
mark-low single = omega arith
mark-low double = omega arith

-- a letter in any case
pub letter-low : (b k : ℕ) → ltb k 0x80 ≡ true → eqb (lower b) k ≡ true → b < 0x80
letter-low b k h e = let l = ltb-true k 0x80 h in let i = lower-least b in let j = eqb-true (lower b) k e in omega arith

-- what isn't this letter at b isn't at c
pub apart-letter : {b c : ℕ} (k : ℕ) → ltb k 0x80 ≡ true → (c < 0x80 → c ≡ b) → eqb (lower b) k ≡ false → eqb (lower c) k ≡ false
apart-letter {b} {c} k h f e = by_size (dec_lt c 0x80)
  where
    by_size : Dec (c < 0x80) → eqb (lower c) k ≡ false
    by_size (yes i) = ap (λ z. eqb (lower z) k) (f i) ∙ e
    by_size (no i) = let l = ltb-true k 0x80 h in let j = lower-least c in ne_eqb (lower c) k (omega arith)

-- its two spellings
spelt-so : (a k : ℕ) → eqb (lower a) k ≡ true → {C : Type 0} → (a ≡ k → C) → (a ≡ k - 0x20 → C) → C
unfolding lower
spelt-so a k e {C} f g = by-case (leb 0x41 a && leb a 0x5A) e
  where
    by-case : (x : Bool) → eqb (cond x (a + 0x20) a) k ≡ true → C
    by-case true e = let i = eqb-true (a + 0x20) k e in g (omega arith)
    by-case false e = f (eqb-true a k e)

pub letter-start : (a k : ℕ) → is_in name_start k ≡ true → is_in name_start (k - 0x20) ≡ true → eqb (lower a) k ≡ true → is_in name_start a ≡ true
letter-start a k m n e = spelt-so a k e (λ i. at i m) (λ i. at i n)
  where
    at : {x : ℕ} → a ≡ x → is_in name_start x ≡ true → is_in name_start a ≡ true
    at i m = subst (λ z. is_in name_start z ≡ true) (sym i) m
