-- A written UUID is read back. Assumes nothing.
use Prim.Native.Nat.{ℕ, ◌+◌, ◌-◌, ◌*◌, ◌/◌, ◌%◌, ◌<◌}
use mathlib.Core.Path.{◌≡◌, refl, ap, ◌∙◌}
use mathlib.Core.Bool.{Bool, true, false, cond}
use mathlib.Core.List.{◌++◌}
use native.Mathlib.Nat.{mod-lt}
use native.Mathlib.Omega.{arith}
use borrow.Author.Tests.{lt-ltb, le-leb, lt-leb, ltb-true, ltb-false}
use lib.Dec.{ltb, lit<}
use Rattle.text.specs.of_area.Answer.{gives}
use Rattle.text.specs.of_digits.Digits.{digit, is_digit, value}
use Rattle.text.proofs.of_digits.Values.{append-value, value-from}
use Rattle.write_uuid.specs.of_uuids.declared.Words.{Words}
use Rattle.write_uuid.specs.of_uuids.Uuid.{is_uuid, words_of, uuid_of}
use Rattle.write_uuid.specs.Written.{hex_digit, hex_octets, uuid_text}
use Rattle.write_uuid.proofs.Texts.{utf8-uuid}

-- a digit's value
digit_value : (d : ℕ) → d < 16 → digit 16 (hex_digit d) ≡ d
unfolding digit hex_digit
digit_value d h = go (ltb d 10) refl
  where
    back : (x : ℕ) → x + d - x ≡ d
    back x = omega arith

    go : (t : Bool) → ltb d 10 ≡ t → digit 16 (cond t (0x30 + d) (0x57 + d)) ≡ d
    go true e =
        let l = ltb-true d 10 e in
        simp (le-leb 0x30 (0x30 + d) (omega arith), le-leb (0x30 + d) 0x39 (omega arith)) (back 0x30)
    go false e =
        let l = ltb-false d 10 e in
        simp (le-leb 0x30 (0x57 + d) (omega arith), lt-leb (0x57 + d) 0x39 (omega arith), le-leb 0x61 (0x57 + d) (omega arith), le-leb (0x57 + d) 0x66 (omega arith)) (back 0x57)

digit-read : (n : ℕ) → digit 16 (hex_digit (n % 16)) ≡ n % 16
digit-read n = digit_value (n % 16) (mod-lt n (lit< tt))

digit-good : (n : ℕ) → is_digit 16 (hex_digit (n % 16)) ≡ true
digit-good n = lt-ltb (digit 16 (hex_digit (n % 16))) 16 (rw (digit-read n) (mod-lt n (lit< tt)))

half-value : (n : ℕ) → value 16 (hex_octets 2 n) ≡ n % 65536
half-value n = simp digit-read (omega arith)

word_value : (n : ℕ) → n < 4294967296 → value 16 (hex_octets 4 n) ≡ n
word_value n h =
    let z : n / 256 / 256 ≡ n / 65536 = omega arith in
    let e : hex_octets 4 n ≡ hex_octets 2 (n / 65536) ++ hex_octets 2 n = rw z refl in
    ap (value 16) e ∙ append-value 16 0 (hex_octets 2 (n / 65536)) (hex_octets 2 n)
    ∙ value-from 16 (value 16 (hex_octets 2 (n / 65536))) (hex_octets 2 n)
    ∙ rw (half-value (n / 65536), half-value n) (omega arith)

-- two halves of a word
halves : (n : ℕ) → n < 4294967296 → value 16 (hex_octets 2 (n / 65536)) * 65536 + value 16 (hex_octets 2 n) ≡ n
halves n h = rw (half-value (n / 65536), half-value n) (omega arith)

same-words : (v w : Words) → v.a ≡ w.a → v.b ≡ w.b → v.c ≡ w.c → v.d ≡ w.d → v ≡ w
same-words v w p q r s =
    ap (λ (x : ℕ). the x v.b v.c v.d) p ∙ ap (λ (x : ℕ). the w.a x v.c v.d) q ∙ ap (λ (x : ℕ). the w.a w.b x v.d) r ∙ ap (the w.a w.b w.c) s
  where
    the : ℕ → ℕ → ℕ → ℕ → Words
    the a b c d = record { a = a; b = b; c = c; d = d }

module _ (w : Words) where
  form : is_uuid (uuid_text w) ≡ true
  unfolding is_uuid uuid_text
  form = simp digit-good

  module _ (a : w.a < 4294967296) (b : w.b < 4294967296) (c : w.c < 4294967296) (d : w.d < 4294967296) where
    words : words_of (uuid_text w) ≡ w
    unfolding uuid_text
    words = same-words (words_of (uuid_text w)) w (word_value w.a a) (halves w.b b) (halves w.c c) (word_value w.d d)

    -- the text of four words of 32 bits reads back as these words
    pub uuid-back : uuid_of (uuid_text w) ≡ gives w
    unfolding uuid_of
    uuid-back = rw (utf8-uuid w, form) (ap gives words)
