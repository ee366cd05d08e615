-- Texts and names as characters. Assumes nothing.
use Prim.Native.Nat.{ℕ, ◌+◌, ◌-◌, ◌*◌, ◌/◌, ◌%◌, ◌≤◌, ◌<◌}
use mathlib.Core.Path.{◌≡◌, refl, sym, ap, ◌∙◌}
use mathlib.Core.List.{List, [], ◌∷◌, ◌++◌, map}
use mathlib.Core.Bool.{Bool, true, false, false≢true}
use native.Mathlib.Omega.{arith}
use borrow.Author.Tests.{le-leb}
use lib.Dec.{leb}
use Rattle.document_events.specs.of_utf8.Utf8 as bytewise
use Rattle.document_events.specs.of_utf8.Characters.{scalar, is_scalar, encode, chars, joined}
use Rattle.document_events.specs.of_utf8.Grammar.{Char, Tail, one, two, three-e0, three-e1, three-ed, three-ee, four_f0, four_f1, four_f4}
use Rattle.document_events.proofs.of_utf8.Splitting.{Each, joined-chars, chars-each}
use Rattle.document_events.specs.of_tree_report.Encode.{every}
use Rattle.document_events.proofs.of_tree_report.EncodeLists.{and_left, and_right}
use Rattle.xml_grammar.specs.of_xml_chars.Chars.{crosses, is_in, any_char, name_start, name_char}
use Rattle.xml_grammar.specs.of_xml_chars.Bytes.{utf8}
use Rattle.xml_grammar.proofs.of_xml_chars.CharLaws.{or_left, or_right, in-crosses, low_scalar}
use Rattle.xml_grammar.proofs.of_xml_chars.Encoding.{encode-1, two_bytes, three-bytes, four_bytes}
use Rattle.xml_grammar.specs.Grammar.{Many, no_char, a-char, Name, name_of}
use Rattle.document_grammar.specs.XmlFit.{codes, xml_text, is_name, xml_name}

-- a large part of [2] Char
pub low-in : (c : ℕ) → 0x20 ≤ c → c ≤ 0xD7FF → is_in any_char c ≡ true
low-in c h k =
    or_right (crosses 0x9 0xA c c) _ (or_right (crosses 0xD 0xD c c) _
    (or_left (crosses 0x20 0xD7FF c c) _ (in-crosses 0x20 0xD7FF c c (omega arith) (omega arith) (omega arith) (omega arith))))

high_scalar : (c : ℕ) → 0xE000 ≤ c → c ≤ 0x10FFFF → is_scalar c ≡ true
high_scalar c h k = or_right (leb c 0xD7FF) _ (simp (le-leb 0xE000 c h, le-leb c 0x10FFFF k))

-- three bytes, and four: the code point is had back
module _ (a b c : ℕ) (h : (0xE0 ≤ a) × (a < 0xF0)) (i : Tail b) (j : Tail c) where
  abbrev of_three : ℕ
  of_three = (a - 0xE0) * 4096 + ((b - 128) * 64 + (c - 128))

  three : 0x800 ≤ of_three → is_scalar of_three ≡ true → encode (scalar (a ∷ b ∷ c ∷ [])) ≡ a ∷ b ∷ c ∷ []
  three l s =
      let e : a % 16 * 4096 + b % 64 * 64 + c % 64 ≡ of_three = omega arith in
      let x : 128 + ((b - 128) * 64 + (c - 128)) / 64 ≡ b = omega arith in
      let y : 128 + ((b - 128) * 64 + (c - 128)) % 64 ≡ c = omega arith in
      ap encode e ∙ three-bytes a ((b - 128) * 64 + (c - 128)) h.0 h.1 (omega arith) l s ∙ rw (x, y) refl

  three-low : 0x800 ≤ of_three → of_three < 0xD800 → encode (scalar (a ∷ b ∷ c ∷ [])) ≡ a ∷ b ∷ c ∷ []
  three-low l m = three l (low_scalar of_three m)

  three-high : 0xE000 ≤ of_three → encode (scalar (a ∷ b ∷ c ∷ [])) ≡ a ∷ b ∷ c ∷ []
  three-high m = three (omega arith) (high_scalar of_three m (omega arith))

sum-4 : (x y z w : ℕ) → x + y + z + w ≡ x + (y + (z + w))
sum-4 x y z w = omega arith

-- six bits each
module _ (p q r : ℕ) (f : p < 64) (g : q < 64) (h : r < 64) where
  abbrev bits : ℕ
  bits = p * 4096 + (q * 64 + r)

  bits_most : bits < 262144
  bits_most = omega arith

  bits-1 : bits / 4096 ≡ p
  bits-1 = omega arith

  bits-2 : bits / 64 % 64 ≡ q
  bits-2 = omega arith

  bits-3 : bits % 64 ≡ r
  bits-3 = omega arith

back : (b : ℕ) → Tail b → (128 + (b - 128) ≡ b) × (b % 64 ≡ b - 128) × (b - 128 < 64)
back b h = (omega arith, omega arith, omega arith)

lead_bits : (a : ℕ) → (0xF0 ≤ a) × (a ≤ 0xF4) → a % 8 ≡ a - 0xF0
lead_bits a h = omega arith

module _ (a b c d : ℕ) (h : (0xF0 ≤ a) × (a ≤ 0xF4)) (i : Tail b) (j : Tail c) (k : Tail d) where
  abbrev behind-first : ℕ
  behind-first = (b - 128) * 4096 + ((c - 128) * 64 + (d - 128))

  four : 0x10000 ≤ (a - 0xF0) * 262144 + behind-first → (a - 0xF0) * 262144 + behind-first ≤ 0x10FFFF → encode (scalar (a ∷ b ∷ c ∷ d ∷ [])) ≡ a ∷ b ∷ c ∷ d ∷ []
  four l m =
      let x = back b i in
      let y = back c j in
      let z = back d k in
      let e : scalar (a ∷ b ∷ c ∷ d ∷ []) ≡ (a - 0xF0) * 262144 + behind-first =
      rw (lead_bits a h, x.1, y.1, z.1) (sum-4 ((a - 0xF0) * 262144) ((b - 128) * 4096) ((c - 128) * 64) (d - 128)) in
      ap encode e
      ∙ four_bytes a behind-first h.0 (bits_most (b - 128) (c - 128) (d - 128) x.2 y.2 z.2) l (high_scalar ((a - 0xF0) * 262144 + behind-first) (omega (arith, l)) m)
      ∙ rw (
        bits-1 (b - 128) (c - 128) (d - 128) x.2 y.2 z.2,
        bits-2 (b - 128) (c - 128) (d - 128) x.2 y.2 z.2,
        bits-3 (b - 128) (c - 128) (d - 128) x.2 y.2 z.2,
        x.0,
        y.0,
        z.0,
      ) refl

pub encode-scalar : {c : List ℕ} → Char c → encode (scalar c) ≡ c
encode-scalar (one {a = a} h) = encode-1 a (omega arith)
encode-scalar (two {a = a} {b = b} h k) =
    let e : a % 32 * 64 + b % 64 ≡ (a - 0xC0) * 64 + (b - 128) = omega arith in
    let x : 128 + (b - 128) ≡ b = omega arith in
    ap encode e ∙ two_bytes a (b - 128) (omega arith) (omega arith) (omega arith) (omega arith) ∙ rw x refl
encode-scalar (three-e0 {a = a} {b = b} {c = c} h i j) = three-low a b c (omega arith) (omega arith) j (omega arith) (omega arith)
encode-scalar (three-e1 {a = a} {b = b} {c = c} h i j) = three-low a b c (omega arith) i j (omega arith) (omega arith)
encode-scalar (three-ed {a = a} {b = b} {c = c} h i j) = three-low a b c (omega arith) (omega arith) j (omega arith) (omega arith)
encode-scalar (three-ee {a = a} {b = b} {c = c} h i j) = three-high a b c (omega arith) i j (omega arith)
encode-scalar (four_f0 {a = a} {b = b} {c = c} {d = d} h i j k) = four a b c d (omega arith) (omega arith) j k (omega arith) (omega arith)
encode-scalar (four_f1 {a = a} {b = b} {c = c} {d = d} h i j k) = four a b c d (omega arith) i j k (omega arith) (omega arith)
encode-scalar (four_f4 {a = a} {b = b} {c = c} {d = d} h i j k) = four a b c d (omega arith) (omega arith) j k (omega arith) (omega arith)

joined-utf8 : (cs : List (List ℕ)) → Each Char cs → joined cs ≡ utf8 (map scalar cs)
joined-utf8 [] a = refl
joined-utf8 (c ∷ cs) a =
    ap (λ x. x ++ joined cs) (sym (encode-scalar a.0)) ∙ ap (λ x. encode (scalar c) ++ x) (joined-utf8 cs a.1)

-- UTF-8 is the bytes of its code points
pub utf8-codes : (t : List ℕ) → bytewise.utf8 t ≡ true → t ≡ utf8 (codes t)
utf8-codes t u = sym (joined-chars t) ∙ joined-utf8 (chars t) (chars-each t u)

pub every-many : (is : ℕ → Bool) (s : List ℕ) → every is s ≡ true → Many is s
every-many is [] e = no_char
every-many is (c ∷ s) e = a-char (and_left (is c) (every is s) e) (every-many is s (and_right (is c) (every is s) e))

-- bytes that are characters of a kind
pub record Spelt (Is : List ℕ → Type 0) (t : List ℕ) : Type 0 where
  pub chars : List ℕ
  pub same : t ≡ utf8 chars
  pub are : Is chars

pub text-spelt : (t : List ℕ) → xml_text t ≡ true → Spelt (Many (is_in any_char)) t
unfolding xml_text
text-spelt t e =
    let u = and_left (bytewise.utf8 t) (every (is_in any_char) (codes t)) e in
    record { chars = codes t; same = utf8-codes t u; are = every-many (is_in any_char) (codes t) (and_right (bytewise.utf8 t) (every (is_in any_char) (codes t)) e) }

name-from : (s : List ℕ) → is_name s ≡ true → Name s
name-from [] e = absurd (false≢true e)
name-from (c ∷ s) e = name_of (and_left (is_in name_start c) (every (is_in name_char) s) e) (every-many (is_in name_char) s (and_right (is_in name_start c) (every (is_in name_char) s) e))

pub name-spelt : (t : List ℕ) → xml_name t ≡ true → Spelt Name t
unfolding xml_name
name-spelt t e =
    let u = and_left (bytewise.utf8 t) (is_name (codes t)) e in
    record { chars = codes t; same = utf8-codes t u; are = name-from (codes t) (and_right (bytewise.utf8 t) (is_name (codes t)) e) }
