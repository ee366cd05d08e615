-- A character's bytes: the first, and those of what lies behind its bits. Assumes nothing.
use Prim.Native.Nat.{ℕ, ◌+◌, ◌-◌, ◌*◌, ◌/◌, ◌%◌, ◌≤◌, ◌<◌}
use mathlib.Core.Path.{◌≡◌, refl, sym, ap, ◌∙◌}
use mathlib.Core.List.{List, [], ◌∷◌, ◌++◌, append_assoc}
use mathlib.Core.Bool.{true}
use native.Mathlib.Omega.{arith}
use Rattle.utf8.specs.Characters.{encode, is_scalar}
use Rattle.utf8.proofs.Forms.{form-1, form-2, form-3, form-4}
use Rattle.xml_chars.specs.Chars.{Range, is_in}
use Rattle.xml_chars.specs.Bytes.{utf8, Left, one, two, three, span}
use Rattle.xml_chars.proofs.CharLaws.{low_scalar}

-- the last bytes of a code point that lies d behind its first bits
abbrev pub tail : Left → ℕ → List ℕ
tail one d = (128 + d) ∷ []
tail two d = (128 + d / 64) ∷ (128 + d % 64) ∷ []
tail three d = (128 + d / 4096) ∷ (128 + d / 64 % 64) ∷ (128 + d % 64) ∷ []

-- a code point of the class and of its width, d behind its first bits
abbrev pub Inside : List Range → ℕ → Left → ℕ → ℕ → Type 0
Inside cls low l least d = (d < span l) × (least ≤ low + d) × (is_in cls (low + d) ≡ true)

pub encode-1 : (c : ℕ) → c < 0x80 → encode c ≡ c ∷ []
encode-1 c h = form-1 c (low_scalar c (omega arith)) h

pub encode-2 : (c : ℕ) → 0x80 ≤ c → c < 0x800 → encode c ≡ (192 + c / 64) ∷ tail one (c % 64)
encode-2 c h k = form-2 c (low_scalar c (omega arith)) h k

pub encode-3 : (c : ℕ) → is_scalar c ≡ true → 0x800 ≤ c → c < 0x10000 → encode c ≡ (224 + c / 4096) ∷ tail two (c % 4096)
encode-3 c s h k =
    let x : 128 + c / 64 % 64 ≡ 128 + c % 4096 / 64 = omega arith in
    let y : 128 + c % 64 ≡ 128 + c % 4096 % 64 = omega arith in
    form-3 c s h k ∙ simp (x, y)

pub encode-4 : (c : ℕ) → is_scalar c ≡ true → 0x10000 ≤ c → encode c ≡ (240 + c / 262144) ∷ tail three (c % 262144)
encode-4 c s h =
    let x : 128 + c / 4096 % 64 ≡ 128 + c % 262144 / 4096 = omega arith in
    let y : 128 + c / 64 % 64 ≡ 128 + c % 262144 / 64 % 64 = omega arith in
    let z : 128 + c % 64 ≡ 128 + c % 262144 % 64 = omega arith in
    form-4 c s h ∙ simp (x, y, z)

-- the same from a first byte b and the rest
pub two_bytes : (b d : ℕ) → 0xC0 ≤ b → b < 0xE0 → d < 64 → 0x80 ≤ (b - 0xC0) * 64 + d → encode ((b - 0xC0) * 64 + d) ≡ b ∷ tail one d
two_bytes b d i j k m =
    let x : 192 + ((b - 0xC0) * 64 + d) / 64 ≡ b = omega arith in
    let y : ((b - 0xC0) * 64 + d) % 64 ≡ d = omega arith in
    encode-2 ((b - 0xC0) * 64 + d) m (omega arith) ∙ rw (x, y) refl

pub three-bytes : (b d : ℕ) → 0xE0 ≤ b → b < 0xF0 → d < 4096 → 0x800 ≤ (b - 0xE0) * 4096 + d → is_scalar ((b - 0xE0) * 4096 + d) ≡ true →
    encode ((b - 0xE0) * 4096 + d) ≡ b ∷ tail two d
three-bytes b d i j k m s =
    let x : 224 + ((b - 0xE0) * 4096 + d) / 4096 ≡ b = omega arith in
    let y : ((b - 0xE0) * 4096 + d) % 4096 ≡ d = omega arith in
    encode-3 ((b - 0xE0) * 4096 + d) s m (omega arith) ∙ rw (x, y) refl

pub four_bytes : (b d : ℕ) → 0xF0 ≤ b → d < 262144 → 0x10000 ≤ (b - 0xF0) * 262144 + d → is_scalar ((b - 0xF0) * 262144 + d) ≡ true →
    encode ((b - 0xF0) * 262144 + d) ≡ b ∷ tail three d
four_bytes b d i k m s =
    let x : 240 + ((b - 0xF0) * 262144 + d) / 262144 ≡ b = omega arith in
    let y : ((b - 0xF0) * 262144 + d) % 262144 ≡ d = omega arith in
    encode-4 ((b - 0xF0) * 262144 + d) s m ∙ rw (x, y) refl

pub utf8_append : (a b : List ℕ) → utf8 (a ++ b) ≡ utf8 a ++ utf8 b
utf8_append [] b = refl
utf8_append (c ∷ a) b = ap (λ x. encode c ++ x) (utf8_append a b) ∙ sym (append_assoc (encode c) (utf8 a) (utf8 b))

pub utf8-ascii : (c : ℕ) (s : List ℕ) → c < 0x80 → utf8 (c ∷ s) ≡ c ∷ utf8 s
utf8-ascii c s h = ap (λ x. x ++ utf8 s) (encode-1 c h)
