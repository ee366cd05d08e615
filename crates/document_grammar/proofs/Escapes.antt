-- Escaping characters, and what an escaped one is in the grammar. Assumes nothing.
use Prim.Native.Nat.{ℕ, ◌+◌, ◌/◌, ◌%◌, ◌≤◌, ◌<◌}
use mathlib.Core.Path.{◌≡◌, refl, sym, ap, ◌∙◌, subst}
use mathlib.Core.List.{List, [], ◌∷◌, ◌++◌, append_assoc, append-nil}
use mathlib.Core.Bool.{Bool, true, false, not, ◌&&◌, ◌||◌, true≢false}
use native.Mathlib.Omega.{arith}
use native.Mathlib.Decide.{dec_lt}
use borrow.Author.Tests.{le-leb, leb-true, ne_eqb, not-true}
use lib.Dec.{leb, eqb}
use Rattle.document_events.specs.of_area.Answer.{gives}
use Rattle.xml_grammar.specs.of_names.Bytes.{bytes}
use Rattle.xml_grammar.specs.of_names.Names.{code_from, same_bytes}
use Rattle.document_events.specs.of_utf8.Utf8 as bytewise
use Rattle.document_events.specs.of_utf8.Characters.{is_scalar, encode}
use Rattle.document_events.proofs.of_utf8.Encoding.{utf8_encode}
use Rattle.document_events.proofs.of_utf8.Forms.{form-2, form-3, form-4}
use Rattle.round_elements.proofs.of_escape.Spelling.{spelled-append}
use Rattle.round_elements.specs.of_write_escape.Escape.{written, escaped, is_markup}
use Rattle.round_elements.proofs.of_write_escape.Escaping.{written-plain}
use Rattle.round_elements.proofs.of_write_escape.Keeping.{by-case}
use Rattle.document_events.specs.of_reference.Reference.{no_ampersand, entities, entity_chars, is_entity, entity_char}
use Rattle.document_events.proofs.of_reference.Decoding.{plain-refs, plain-decoded}
use Rattle.xml_grammar.specs.of_table.Event.{Ref, Text}
use Rattle.document_events.specs.of_read_content.Content.{piece_of}
use Rattle.document_events.proofs.of_tree_report.EncodeLists.{and_left, and_right}
use Rattle.xml_grammar.specs.of_xml_chars.Chars.{crosses, is_in, any_char, double}
use Rattle.xml_grammar.specs.of_xml_chars.Bytes.{utf8}
use Rattle.xml_grammar.proofs.of_xml_chars.CharLaws.{in-scalar}
use Rattle.xml_grammar.proofs.of_xml_chars.Encoding.{encode-1, utf8_append}
use Rattle.xml_grammar.specs.Grammar.{Many, no_char, a-char, Referred, entity, name_of, Value, no_value, value-char, value-ref, in_value, in_data_of}

-- ---- characters of several bytes
abbrev high : List ℕ → Bool
high [] = true
high (b ∷ s) = leb 0x80 b && high s

encode-high : (c : ℕ) → is_scalar c ≡ true → 0x80 ≤ c → high (encode c) ≡ true
encode-high c s h = from (dec_lt c 0x800) (dec_lt c 0x10000)
  where
    from : Dec (c < 0x800) → Dec (c < 0x10000) → high (encode c) ≡ true
    from (yes p) q = rw (form-2 c s h p) (simp (le-leb 0x80 (192 + c / 64) (omega arith), le-leb 0x80 (128 + c % 64) (omega arith)))
    from (no p) (yes q) =
        rw (form-3 c s (omega arith) q)
        (simp (le-leb 0x80 (224 + c / 4096) (omega arith), le-leb 0x80 (128 + c / 64 % 64) (omega arith), le-leb 0x80 (128 + c % 64) (omega arith)))
    from (no p) (no q) =
        rw (form-4 c s (omega arith))
        (simp (
          le-leb 0x80 (240 + c / 262144) (omega arith),
          le-leb 0x80 (128 + c / 4096 % 64) (omega arith),
          le-leb 0x80 (128 + c / 64 % 64) (omega arith),
          le-leb 0x80 (128 + c % 64) (omega arith),
        ))

-- no character from 80 on is escaped
high-self : (b : ℕ) → 0x80 ≤ b → written b ≡ b ∷ []
high-self b h = written-plain b (λ e. absurd (omega (arith, e))) (λ e. absurd (omega (arith, e))) (λ e. absurd (omega (arith, e))) (λ e. absurd (omega (arith, e))) (λ e. absurd (omega (arith, e)))

high_same : (s : List ℕ) → high s ≡ true → escaped s ≡ s
high_same [] e = refl
high_same (b ∷ s) e =
    rw (high-self b (leb-true 0x80 b (and_left (leb 0x80 b) (high s) e))) (ap (λ x. b ∷ x) (high_same s (and_right (leb 0x80 b) (high s) e)))

high-clear : (a s : List ℕ) → high a ≡ true → no_ampersand (a ++ s) ≡ no_ampersand s
high-clear [] s e = refl
high-clear (b ∷ a) s e =
    let h = leb-true 0x80 b (and_left (leb 0x80 b) (high a) e) in
    rw (ne_eqb b 0x26 (λ i. absurd (omega (arith, h, i)))) (high-clear a s (and_right (leb 0x80 b) (high a) e))

-- ---- escaping bytes is escaping characters
written-ascii : (c : ℕ) → c < 0x80 → utf8 (written c) ≡ written c
unfolding encode
written-ascii = by-case (λ (x : ℕ) (f : List ℕ). x < 0x80 → utf8 f ≡ f) (λ h. refl) (λ h. refl) (λ h. refl) (λ h. refl) (λ h. refl) (λ x n e h. append-nil (encode x) ∙ encode-1 x h)

escaped-one : (c : ℕ) → is_scalar c ≡ true → escaped (encode c) ≡ utf8 (written c)
escaped-one c s = by_size (dec_lt c 0x80)
  where
    by_size : Dec (c < 0x80) → escaped (encode c) ≡ utf8 (written c)
    by_size (yes h) = ap escaped (encode-1 c h) ∙ append-nil (written c) ∙ sym (written-ascii c h)
    by_size (no h) = high_same (encode c) (encode-high c s (omega arith)) ∙ sym (append-nil (encode c)) ∙ ap utf8 (sym (high-self c (omega arith)))

pub escaped-utf8 : (cs : List ℕ) → Many (is_in any_char) cs → escaped (utf8 cs) ≡ utf8 (escaped cs)
escaped-utf8 [] no_char = refl
escaped-utf8 (c ∷ cs) (a-char m ms) =
    spelled-append written (encode c) (utf8 cs)
    ∙ ap (λ x. x ++ escaped (utf8 cs)) (escaped-one c (in-scalar c m))
    ∙ ap (λ x. utf8 (written c) ++ x) (escaped-utf8 cs ms)
    ∙ sym (utf8_append (written c) (escaped cs))

-- ---- what stands for a character: a reference, or itself
-- character data without `>`
abbrev pub calm : ℕ → Bool
calm c = in_data_of c && not (eqb c 0x3E)

pub data Stands (c : ℕ) (f : List ℕ) : Type 0 where
  as-ref : (n : List ℕ) → Referred n → piece_of Ref (utf8 n) ≡ gives (encode c) → f ≡ 0x26 ∷ (n ++ (0x3B ∷ [])) → Stands c f
  as_is : (is_in any_char c ≡ true → (calm c ≡ true) × (in_value double c ≡ true)) → f ≡ c ∷ [] → Stands c f

pub or_no : (x y : Bool) → (x || y) ≡ false → (x ≡ false) × (y ≡ false)
or_no true y e = absurd (true≢false e)
or_no false y e = (refl, e)

itself : (b : ℕ) → (b ≡ 0x26 → ⊥) → is_markup b ≡ false → is_in any_char b ≡ true → (calm b ≡ true) × (in_value double b ≡ true)
itself b n e m =
    let p = or_no (eqb b 0x3C || eqb b 0x3E || eqb b 0x27) (eqb b 0x22) e in
    let q = or_no (eqb b 0x3C || eqb b 0x3E) (eqb b 0x27) p.0 in
    let r = or_no (eqb b 0x3C) (eqb b 0x3E) q.0 in
    (rw (m, r.0, r.1, ne_eqb b 0x26 n) refl, rw (m, p.1, r.0, ne_eqb b 0x26 n) refl)

pub stands : (c : ℕ) → Stands c (written c)
unfolding crosses encode piece_of entities entity_chars is_entity entity_char bytewise.need bytewise.low bytewise.high code_from same_bytes
stands =
    by-case Stands
    (as-ref (bytes "amp") (entity (name_of refl (a-char refl (a-char refl no_char)))) refl refl)
    (as-ref (bytes "lt") (entity (name_of refl (a-char refl no_char))) refl refl)
    (as-ref (bytes "gt") (entity (name_of refl (a-char refl no_char))) refl refl)
    (as-ref (bytes "apos") (entity (name_of refl (a-char refl (a-char refl (a-char refl no_char))))) refl refl)
    (as-ref (bytes "quot") (entity (name_of refl (a-char refl (a-char refl (a-char refl no_char))))) refl refl)
    (λ b n e. as_is (itself b n e) refl)

-- an escaped text is a value
value-one : (c : ℕ) (f s : List ℕ) → is_in any_char c ≡ true → Stands c f → Value double s → Value double (f ++ s)
value-one c f s m (as-ref n r p e) v =
    subst (Value double) (sym (ap (λ x. x ++ s) e ∙ ap (λ x. 0x26 ∷ x) (append_assoc n (0x3B ∷ []) s))) (value-ref r v)
value-one c f s m (as_is k e) v = subst (λ x. Value double (x ++ s)) (sym e) (value-char (k m).1 v)

pub escaped-value : (cs : List ℕ) → Many (is_in any_char) cs → Value double (escaped cs)
escaped-value [] no_char = no_value
escaped-value (c ∷ cs) (a-char m ms) = value-one c (written c) (escaped cs) m (stands c) (escaped-value cs ms)

-- ---- a run of character data stands for itself
pub utf8-utf8 : (cs : List ℕ) → bytewise.utf8 (utf8 cs) ≡ true
utf8-utf8 [] = refl
utf8-utf8 (c ∷ cs) = utf8_encode c (utf8 cs) ∙ utf8-utf8 cs

calm-parts : (c : ℕ) → calm c ≡ true → (is_in any_char c ≡ true) × (eqb c 0x26 ≡ false)
calm-parts c e =
    let p = and_left (in_data_of c) (not (eqb c 0x3E)) e in
    let q = and_right (is_in any_char c) (not (eqb c 0x3C || eqb c 0x26)) p in
    (and_left (is_in any_char c) (not (eqb c 0x3C || eqb c 0x26)) p, (or_no (eqb c 0x3C) (eqb c 0x26) (not-true (eqb c 0x3C || eqb c 0x26) q)).1)

calm-clear : (cs : List ℕ) → Many calm cs → no_ampersand (utf8 cs) ≡ true
calm-clear [] no_char = refl
calm-clear (c ∷ cs) (a-char m ms) = by_size (dec_lt c 0x80) (calm-parts c m) (calm-clear cs ms)
  where
    by_size : Dec (c < 0x80) → (is_in any_char c ≡ true) × (eqb c 0x26 ≡ false) → no_ampersand (utf8 cs) ≡ true → no_ampersand (encode c ++ utf8 cs) ≡ true
    by_size (yes h) p r = rw (encode-1 c h, p.1) r
    by_size (no h) p r = high-clear (encode c) (utf8 cs) (encode-high c (in-scalar c p.0) (omega arith)) ∙ r

pub calm_piece : (cs : List ℕ) → Many calm cs → piece_of Text (utf8 cs) ≡ gives (utf8 cs)
unfolding piece_of
calm_piece cs m =
    let e = calm-clear cs m in
    rw (utf8-utf8 cs, plain-refs (utf8 cs) e, plain-decoded (utf8 cs) e) refl
