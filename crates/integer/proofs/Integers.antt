-- Integers, from the digits behind their sign, and printed numbers read back. Assumes nothing.
use Prim.Native.Nat.{ℕ, ◌≤◌, ◌<◌}
use mathlib.Core.Path.{◌≡◌, refl, sym, ap, ◌∙◌}
use mathlib.Core.List.{List, [], ◌∷◌}
use mathlib.Core.Bool.{Bool, true, false, cond, and-eq-true_iff}
use native.Mathlib.Omega.{arith}
use borrow.Author.Tests.{eq-eqb, ne_eqb, eqb-true}
use lib.Dec.{eqb}
use lib.ListN.{length, get_or, drop}
use Rattle.names.specs.of_area.Answer.{gives, refuses}
use Rattle.digits.specs.of_utf8.Utf8.{utf8}
use Rattle.digits.proofs.of_utf8.Rules.{ascii-on}
use Rattle.digits.specs.Digits.{is_digit, all_digits, is_number, number_in, value, decimal}
use Rattle.std.specs.Prelude.{Some, None}
use Rattle.digits.proofs.Ascii.{digit-decimal}
use Rattle.digits.proofs.Numbers.{number-parts, is-number, not-number}
use Rattle.digits.proofs.Printing.{decimal-digits, decimal-number, decimal-value}
use Rattle.integer.specs.Integer.{unsigned, is_integer, integer_of}
use Rattle.digits.proofs.Texts.{digits_utf8}
use Rattle.names.specs.of_refusal.declared.Cause.TheVariants as cause

-- behind the sign, or without one
module _ (s : List ℕ) where
  pub unsigned-none : length s ≡ 0 → s ≡ unsigned s
  unfolding unsigned
  unsigned-none e = go s e
    where
      go : (l : List ℕ) → length l ≡ 0 → l ≡ unsigned l
      go [] e = refl
      go (b ∷ l) e = absurd (omega arith)

  pub unsigned-plus : 0 < length s → get_or s 0 0 ≡ 0x2B → drop 1 s ≡ unsigned s
  unfolding unsigned
  unsigned-plus h e = go s h e
    where
      go : (l : List ℕ) → 0 < length l → get_or l 0 0 ≡ 0x2B → drop 1 l ≡ unsigned l
      go [] h e = absurd (omega arith)
      go (b ∷ l) h e = sym (ap (λ (t : Bool). cond t l (b ∷ l)) (eq-eqb b 0x2B e))

  pub unsigned-bare : 0 < length s → (get_or s 0 0 ≡ 0x2B → ⊥) → s ≡ unsigned s
  unfolding unsigned
  unsigned-bare h e = go s h e
    where
      go : (l : List ℕ) → 0 < length l → (get_or l 0 0 ≡ 0x2B → ⊥) → l ≡ unsigned l
      go [] h e = absurd (omega arith)
      go (b ∷ l) h e = sym (ap (λ (t : Bool). cond t l (b ∷ l)) (ne_eqb b 0x2B e))

-- an integer is UTF-8
unsigned-utf8 : (s : List ℕ) → utf8 (unsigned s) ≡ true → utf8 s ≡ true
unfolding unsigned
unsigned-utf8 [] e = refl
unsigned-utf8 (b ∷ s) e = go (eqb b 0x2B) refl e
  where
    go : (t : Bool) → eqb b 0x2B ≡ t → utf8 (cond t s (b ∷ s)) ≡ true → utf8 (b ∷ s) ≡ true
    go true q e = let i : b ≡ 0x2B = eqb-true b 0x2B q in ascii-on b s (omega arith) ∙ e
    go false q e = e

pub integer-utf8 : (s : List ℕ) → is_integer s ≡ true → utf8 s ≡ true
integer-utf8 s e = unsigned-utf8 s (digits_utf8 10 (unsigned s) (number-parts 10 18446744073709551615 (unsigned s) e).1)

-- the three answers
module _ (s : List ℕ) where
  pub integer-is : is_integer s ≡ true → gives (value 10 (unsigned s)) ≡ integer_of s
  integer-is e = rw (integer-utf8 s e, e) refl

  pub integer-bad : is_integer s ≡ false → utf8 s ≡ true → refuses cause.BadInteger ≡ integer_of s
  integer-bad e u = rw (u, e) refl

-- a printed number has no sign
decimal-unsigned : (s : List ℕ) → all_digits 10 s ≡ true → unsigned s ≡ s
unfolding unsigned
decimal-unsigned [] e = refl
decimal-unsigned (b ∷ s) e =
    let d = digit-decimal b ((and-eq-true_iff (is_digit 10 b) (all_digits 10 s)).0 e).0 in
    ap (λ (t : Bool). cond t s (b ∷ s)) (ne_eqb b 0x2B (omega arith))

-- reading what was printed gives the number
pub integer-decimal : (n : ℕ) → n ≤ 18446744073709551615 → integer_of (decimal n) ≡ gives n
integer-decimal n h =
    let e : unsigned (decimal n) ≡ decimal n = decimal-unsigned (decimal n) (decimal-digits n) in
    let m : n < 100000000000000000000 = omega arith in
    let i : is_integer (decimal n) ≡ true = ap (is_number 10 18446744073709551615) e ∙ decimal-number n 18446744073709551615 h (omega arith) in
    sym (integer-is (decimal n) i) ∙ ap gives (ap (value 10) e ∙ decimal-value n m)

-- the answers, from what the digits behind the sign are
module _ (s p : List ℕ) (e : p ≡ unsigned s) where
  pub read_is : (v : ℕ) → Some v ≡ number_in 10 18446744073709551615 p → gives v ≡ integer_of s
  read_is v q =
      let k = is-number 10 18446744073709551615 p v q in
      ap gives (k.1 ∙ ap (value 10) e) ∙ integer-is s (ap (is_number 10 18446744073709551615) (sym e) ∙ k.0)

  pub read-bad : None ≡ number_in 10 18446744073709551615 p → utf8 s ≡ true → refuses cause.BadInteger ≡ integer_of s
  read-bad q u = integer-bad s (ap (is_number 10 18446744073709551615) (sym e) ∙ not-number 10 18446744073709551615 p q) u
