-- A character takes no more bytes than its name. Assumes nothing.
use Prim.Native.Nat.{ℕ, ◌≤◌, ◌<◌}
use mathlib.Core.Path.{◌≡◌, refl, ap}
use mathlib.Core.List.{List, [], ◌∷◌}
use mathlib.Core.Bool.{Bool, true, false, cond, ◌&&◌, ◌||◌, and-eq-true_iff}
use native.Mathlib.Omega.{arith}
use native.Mathlib.Decide.{dec_lt}
use borrow.Author.Tests.{ltb-true}
use lib.Dec.{eqb, lit<}
use lib.ListN.{length}
use Rattle.digits.specs.of_utf8.Characters.{is_scalar, encode}
use Rattle.digits.proofs.of_utf8.Forms.{form-0, form-1, form-2}
use Rattle.digits.proofs.of_utf8.Encoding.{encode-most}
use Rattle.digits.specs.Digits.{digit, is_digit, all_digits, value, is_number}
use Rattle.digits.proofs.Numbers.{number-parts}
use Rattle.reference.specs.Reference.{xml_char, is_entity, entity_char, is_numeric, base, digits_in, number, is_char_ref, is_named, char_of}
use Rattle.reference.proofs.Letters.{entity-ascii, named-length}

short-encode : (c : ℕ) → c < 0x800 → length (encode c) ≤ 2
short-encode c h = go (is_scalar c) refl (dec_lt c 0x80)
  where
    go : (u : Bool) → is_scalar c ≡ u → Dec (c < 0x80) → length (encode c) ≤ 2
    go false s d = omega (arith, ap length (form-0 c s))
    go true s (yes l) = omega (arith, ap length (form-1 c s l))
    go true s (no l) = omega (arith, ap length (form-2 c s (omega arith) h))

-- a name of at most three bytes has two decimal digits or one hexadecimal digit
two-decimal : (s : List ℕ) → all_digits 10 s ≡ true → length s ≤ 2 → value 10 s < 0x800
two-decimal [] e h = lit< tt
two-decimal (a ∷ []) e h = let p = (and-eq-true_iff (is_digit 10 a) true).0 e in omega (arith, ltb-true (digit 10 a) 10 p.0)
two-decimal (a ∷ b ∷ []) e h =
    let p = (and-eq-true_iff (is_digit 10 a) (all_digits 10 (b ∷ []))).0 e in
    let q = (and-eq-true_iff (is_digit 10 b) true).0 p.1 in
    omega (arith, ltb-true (digit 10 a) 10 p.0, ltb-true (digit 10 b) 10 q.0)
two-decimal (a ∷ b ∷ d ∷ s) e h = absurd (omega arith)

one-hexadecimal : (s : List ℕ) → all_digits 16 s ≡ true → length s ≤ 1 → value 16 s < 0x800
one-hexadecimal [] e h = lit< tt
one-hexadecimal (a ∷ []) e h = let p = (and-eq-true_iff (is_digit 16 a) true).0 e in omega (arith, ltb-true (digit 16 a) 16 p.0)
one-hexadecimal (a ∷ b ∷ s) e h = absurd (omega arith)

short-number : (name : List ℕ) → all_digits (base name) (digits_in name) ≡ true → length name ≤ 3 → number name < 0x800
unfolding number base digits_in
short-number [] d h = lit< tt
short-number (b ∷ []) d h = lit< tt
short-number (b ∷ x ∷ s) d h = go (eqb x 0x78) d
  where
    go : (t : Bool) → all_digits (cond t 16 10) (cond t s (x ∷ s)) ≡ true → value (cond t 16 10) (cond t s (x ∷ s)) < 0x800
    go true d = one-hexadecimal s d (omega arith)
    go false d = two-decimal (x ∷ s) d (omega arith)

module _ (name : List ℕ) where
  digits_of : is_char_ref name ≡ true → all_digits (base name) (digits_in name) ≡ true
  unfolding is_char_ref
  digits_of e =
      let p = (and-eq-true_iff (is_numeric name) (is_number (base name) 0x10FFFF (digits_in name) && xml_char (number name))).0 e in
      let q = (and-eq-true_iff (is_number (base name) 0x10FFFF (digits_in name)) (xml_char (number name))).0 p.1 in
      (number-parts (base name) 0x10FFFF (digits_in name) q.0).1

  short-char : is_named name ≡ true → length name ≤ 3 → char_of name < 0x800
  short-char e h = go (is_entity name) refl e
    where
      go : (t : Bool) → is_entity name ≡ t → (t || is_char_ref name) ≡ true → cond t (entity_char name) (number name) < 0x800
      go true q z = omega (arith, entity-ascii name q)
      go false q z = short-number name (digits_of z) h

  -- a character takes no more bytes than its name: why decoding never lengthens
  pub char-size : is_named name ≡ true → length (encode (char_of name)) ≤ length name
  char-size e = go (dec_lt (length name) 4)
    where
      go : Dec (length name < 4) → length (encode (char_of name)) ≤ length name
      go (yes h) = omega (arith, named-length name e, short-encode (char_of name) (short-char e (omega arith)))
      go (no h) = omega (arith, encode-most (char_of name))
