-- In a layout, whose texts are UTF-8 without control characters, only U+FFFE and U+FFFF are no XML characters. Assumes nothing.
use Prim.Native.Nat.{ℕ, ◌≤◌, ◌<◌}
use mathlib.Core.Path.{◌≡◌, refl, sym, ap, ◌∙◌, subst}
use mathlib.Core.List.{List, [], ◌∷◌, ◌++◌, map}
use mathlib.Core.Bool.{Bool, true, false, not, ◌&&◌, ◌||◌, true≢false}
use native.Mathlib.Omega.{arith}
use native.Mathlib.Decide.{dec_lt}
use borrow.Author.Tests.{le-leb, leb-true, leb-false, eqb-true, eqb-false, not-true}
use lib.Dec.{leb, eqb}
use lib.ListN.{length}
use Rattle.document_events.specs.of_utf8.Utf8 as bytewise
use Rattle.document_events.specs.of_utf8.Characters.{scalar, is_scalar, encode, chars}
use Rattle.document_events.specs.of_utf8.Grammar.{Char}
use Rattle.document_events.proofs.of_utf8.Splitting.{Each, chars-each}
use Rattle.document_events.proofs.of_utf8.Rules.{char-size}
use Rattle.document_events.proofs.of_utf8.Forms.{form-0, scalar-most}
use Rattle.document_events.specs.of_text_filter.Filter.{dropped, unfiltered}
use Rattle.document_events.specs.of_tree_report.Encode.{every}
use Rattle.document_events.proofs.of_tree_report.EncodeLists.{both, and_left, and_right}
use Rattle.xml_grammar.specs.of_xml_chars.Chars.{crosses, is_in, any_char}
use Rattle.xml_grammar.specs.of_xml_chars.Bytes.{utf8}
use Rattle.xml_grammar.proofs.of_xml_chars.CharLaws.{or_cases, or_left, or_right, in-crosses}
use Rattle.xml_grammar.proofs.of_xml_chars.Encoding.{encode-1}
use Rattle.document_grammar.specs.XmlFit.{codes, xml_text}
use Rattle.document_grammar.specs.Needed.{is_other}
use Rattle.document_grammar.proofs.Characters.{low-in, encode-scalar, utf8-codes}
use Rattle.document_grammar.proofs.Escapes.{or_no}

-- ---- the code points of UTF-8 are scalar values
char-scalar : {c : List ℕ} → Char c → is_scalar (scalar c) ≡ true
char-scalar {c = c} h = go (is_scalar (scalar c)) refl
  where
    go : (b : Bool) → is_scalar (scalar c) ≡ b → is_scalar (scalar c) ≡ true
    go true e = e
    go false e =
        let n : length c ≡ 0 = ap length (sym (encode-scalar h) ∙ form-0 (scalar c) e) in
        absurd (omega (arith, char-size h, n))

codes-scalar : (cs : List (List ℕ)) → Each Char cs → every is_scalar (map scalar cs) ≡ true
codes-scalar [] a = refl
codes-scalar (c ∷ cs) a = both (char-scalar a.0) (codes-scalar cs a.1)

-- ---- one character
control-in : (c : ℕ) → c < 0x20 → dropped c ≡ false → is_in any_char c ≡ true
control-in c h e =
    let p = or_no (leb c 0x08 || eqb c 0x0B || eqb c 0x0C) (leb 0x0E c && leb c 0x1F) e in
    let q = or_no (leb c 0x08 || eqb c 0x0B) (eqb c 0x0C) p.0 in
    let r = or_no (leb c 0x08) (eqb c 0x0B) q.0 in
    let l : 0x08 < c = leb-false c 0x08 r.0 in
    let x = eqb-false c 0x0B r.1 in
    let y = eqb-false c 0x0C q.1 in
    let k : leb 0x0E c ≡ false = below (leb 0x0E c) (leb c 0x1F) p.1 (le-leb c 0x1F (omega arith)) in
    let z : c < 0x0E = leb-false 0x0E c k in
    from (dec_lt c 0x0B) l x y z
  where
    below : (a b : Bool) → (a && b) ≡ false → b ≡ true → a ≡ false
    below true b f g = absurd (true≢false (sym g ∙ f))
    below false b f g = refl

    from : Dec (c < 0x0B) → 0x08 < c → ¬ (c ≡ 0x0B) → ¬ (c ≡ 0x0C) → c < 0x0E → is_in any_char c ≡ true
    from (yes i) l x y z = or_left (crosses 0x9 0xA c c) _ (in-crosses 0x9 0xA c c (omega arith) (omega arith) (omega arith) (omega arith))
    from (no i) l x y z =
        let d : c ≡ 0x0D = omega (arith, x, y) in
        or_right (crosses 0x9 0xA c c) _ (or_left (crosses 0xD 0xD c c) _ (in-crosses 0xD 0xD c c (omega arith) (omega arith) (omega arith) (omega arith)))

middle_in : (c : ℕ) → 0xE000 ≤ c → c ≤ 0xFFFD → is_in any_char c ≡ true
middle_in c h k =
    or_right (crosses 0x9 0xA c c) _ (or_right (crosses 0xD 0xD c c) _ (or_right (crosses 0x20 0xD7FF c c) _
    (or_left (crosses 0xE000 0xFFFD c c) _ (in-crosses 0xE000 0xFFFD c c (omega arith) (omega arith) (omega arith) (omega arith)))))

high-in : (c : ℕ) → 0x10000 ≤ c → c ≤ 0x10FFFF → is_in any_char c ≡ true
high-in c h k =
    or_right (crosses 0x9 0xA c c) _ (or_right (crosses 0xD 0xD c c) _ (or_right (crosses 0x20 0xD7FF c c) _ (or_right (crosses 0xE000 0xFFFD c c) _
    (or_left (crosses 0x10000 0x10FFFF c c) false (in-crosses 0x10000 0x10FFFF c c (omega arith) (omega arith) (omega arith) (omega arith))))))

module _ (c : ℕ) (s : is_scalar c ≡ true) (d : c < 0x20 → dropped c ≡ false) where
  other-in : ¬ (c ≡ 0xFFFE) → ¬ (c ≡ 0xFFFF) → is_in any_char c ≡ true
  other-in x y = from (dec_lt c 0x20) (dec_lt c 0x10000)
    where
      upper : 0xE000 ≤ c → Dec (c < 0x10000) → is_in any_char c ≡ true
      upper l (yes i) = middle_in c l (omega (arith, x, y))
      upper l (no i) = high-in c (omega arith) (scalar-most c s)

      from : Dec (c < 0x20) → Dec (c < 0x10000) → is_in any_char c ≡ true
      from (yes h) i = control-in c h (d h)
      from (no h) i =
          or_cases (leb c 0xD7FF) (leb 0xE000 c && leb c 0x10FFFF) s
          (λ k. low-in c (omega arith) (leb-true c 0xD7FF k))
          (λ k. upper (leb-true 0xE000 c (and_left (leb 0xE000 c) (leb c 0x10FFFF) k)) i)

  char-other : is_in any_char c ≡ is_other c
  unfolding crosses
  char-other = go (eqb c 0xFFFE) (eqb c 0xFFFF) refl refl
    where
      go : (a b : Bool) → eqb c 0xFFFE ≡ a → eqb c 0xFFFF ≡ b → is_in any_char c ≡ not (a || b)
      go true b e f = ap (is_in any_char) (eqb-true c 0xFFFE e)
      go false true e f = ap (is_in any_char) (eqb-true c 0xFFFF f)
      go false false e f = other-in (eqb-false c 0xFFFE e) (eqb-false c 0xFFFF f)

-- ---- a text
unfiltered-behind : (a s : List ℕ) → unfiltered (a ++ s) ≡ true → unfiltered s ≡ true
unfiltered-behind [] s e = e
unfiltered-behind (b ∷ a) s e = unfiltered-behind a s (and_right (not (dropped b)) (unfiltered (a ++ s)) e)

first-kept : (c : ℕ) (s : List ℕ) → unfiltered (encode c ++ s) ≡ true → c < 0x20 → dropped c ≡ false
first-kept c s e h =
    let f : unfiltered (c ∷ s) ≡ true = ap (λ x. unfiltered (x ++ s)) (sym (encode-1 c (omega arith))) ∙ e in
    not-true (dropped c) (and_left (not (dropped c)) (unfiltered s) f)

every-other : (cs : List ℕ) → every is_scalar cs ≡ true → unfiltered (utf8 cs) ≡ true → every (is_in any_char) cs ≡ every is_other cs
every-other [] s u = refl
every-other (c ∷ cs) s u =
    ap (λ x. x && every (is_in any_char) cs) (char-other c (and_left (is_scalar c) (every is_scalar cs) s) (first-kept c (utf8 cs) u))
    ∙ ap (λ x. is_other c && x) (every-other cs (and_right (is_scalar c) (every is_scalar cs) s) (unfiltered-behind (encode c) (utf8 cs) u))

-- a text that a layout may have consists of XML characters where it has neither U+FFFE nor U+FFFF
pub layout-text : (t : List ℕ) → bytewise.utf8 t ≡ true → unfiltered t ≡ true → xml_text t ≡ every is_other (codes t)
unfolding xml_text
layout-text t u f = rw u (every-other (codes t) (codes-scalar (chars t) (chars-each t u)) (subst (λ x. unfiltered x ≡ true) (utf8-codes t u) f))
