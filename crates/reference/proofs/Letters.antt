-- The bytes of a name that stands for a character, and the character. Assumes nothing.
use Prim.Native.Nat.{ℕ, zero, suc, ◌-◌, ◌≤◌, ◌<◌}
use mathlib.Core.Path.{◌≡◌, refl, ap}
use mathlib.Core.List.{List, [], ◌∷◌, ◌++◌}
use mathlib.Core.Bool.{Bool, true, false, cond, not, ◌&&◌, ◌||◌, and-eq-true_iff}
use mathlib.Core.Logic.{◌⊎◌, inl, inr}
use native.Mathlib.Omega.{arith}
use borrow.Author.Tests.{lt-ltb, ltb-true, le-leb, leb-true, ne_eqb, eqb-true, not-true}
use lib.Dec.{ltb, leb, eqb}
use lib.ListN.{length, get_or}
use Rattle.digits.specs.of_utf8.inside.Ascii.{ascii}
use Rattle.digits.specs.Digits.{is_digit, all_digits, is_number}
use Rattle.digits.proofs.Ascii.{digit-class}
use Rattle.digits.proofs.Numbers.{number-parts}
use Rattle.names.specs.Names.{code_from, same_bytes, code_in}
use Rattle.names.proofs.NameLaws.{code-name, own, own_code}
use Rattle.reference.specs.Reference.{xml_char, entities, entity_chars, is_entity, entity_char, base, digits_in, number, is_char_ref, is_named, char_of, semicolon}

-- a test that each element of a table passes
each : {A : Type 0} → (A → Bool) → List A → Bool
each p [] = true
each p (x ∷ l) = p x && each p l

each_at : {A : Type 0} (p : A → Bool) (d : A) (l : List A) → each p l ≡ true → (k : ℕ) → k < length l → p (get_or l k d) ≡ true
unfolding each
each_at p d [] e k h = absurd (omega arith)
each_at p d (x ∷ l) e zero h = ((and-eq-true_iff (p x) (each p l)).0 e).0
each_at p d (x ∷ l) e (suc k) h = each_at p d l ((and-eq-true_iff (p x) (each p l)).0 e).1 k (omega arith)

-- an ASCII byte other than the semicolon
letter : ℕ → Bool
letter b = ltb b 0x80 && not (eqb b 0x3B)

letter-of : (b : ℕ) → b < 0x80 → (b ≡ 0x3B → ⊥) → letter b ≡ true
unfolding letter
letter-of b h o = simp (lt-ltb b 0x80 h, ne_eqb b 0x3B o)

digit-letter : (n b : ℕ) → is_digit n b ≡ true → letter b ≡ true
digit-letter n b e = go (digit-class n b e)
  where
    go : ((0x30 ≤ b) × (b ≤ 0x39)) ⊎ ((n ≡ 16) × (((0x61 ≤ b) × (b ≤ 0x66)) ⊎ ((0x41 ≤ b) × (b ≤ 0x46)))) → letter b ≡ true
    go (inl h) = letter-of b (omega arith) (λ z. omega arith)
    go (inr (h, inl k)) = letter-of b (omega arith) (λ z. omega arith)
    go (inr (h, inr k)) = letter-of b (omega arith) (λ z. omega arith)

digits-letters : (n : ℕ) (s : List ℕ) → all_digits n s ≡ true → each letter s ≡ true
unfolding each
digits-letters n [] e = refl
digits-letters n (b ∷ s) e =
    let p = (and-eq-true_iff (is_digit n b) (all_digits n s)).0 e in
    (and-eq-true_iff (letter b) (each letter s)).1 (digit-letter n b p.0, digits-letters n s p.1)

-- two bytes at least, each of them such a byte
spelt : List ℕ → Bool
spelt name = leb 2 (length name) && each letter name

five-spelt : each spelt entities ≡ true
unfolding each spelt letter entities
five-spelt = refl

five-chars : each (λ c. xml_char c && ltb c 0x80) entity_chars ≡ true
unfolding each xml_char entity_chars
five-chars = refl

-- one of the five: its place, from 0
module _ (name : List ℕ) (e : is_entity name ≡ true) where
  place : ℕ
  place = code_in entities name - 1

  place-code : code_in entities name ≡ suc place
  unfolding is_entity place
  place-code = let h : 0 < code_in entities name = ltb-true 0 (code_in entities name) e in omega arith

  entity-spelt : spelt name ≡ true
  entity-spelt =
      let p = code-name entities name place place-code in
      rw p.1 (each_at spelt [] entities five-spelt place p.0)

  entity-test : (xml_char (entity_char name) && ltb (entity_char name) 0x80) ≡ true
  unfolding entity_char place entities entity_chars
  entity-test = each_at (λ c. xml_char c && ltb c 0x80) 0 entity_chars five-chars place (code-name entities name place place-code).0

  -- a Ref event's character is an ASCII character
  pub entity-ascii : entity_char name < 0x80
  entity-ascii = ltb-true (entity_char name) 0x80 ((and-eq-true_iff (xml_char (entity_char name)) (ltb (entity_char name) 0x80)).0 entity-test).1

  pub entity-xml : xml_char (entity_char name) ≡ true
  entity-xml = ((and-eq-true_iff (xml_char (entity_char name)) (ltb (entity_char name) 0x80)).0 entity-test).0

-- a character reference
module _ (name : List ℕ) (e : is_char_ref name ≡ true) where
  sharp : (eqb (get_or name 0 0) 0x23 ≡ true) × ((is_number (base name) 0x10FFFF (digits_in name) && xml_char (number name)) ≡ true)
  unfolding is_char_ref
  sharp = (and-eq-true_iff (eqb (get_or name 0 0) 0x23) (is_number (base name) 0x10FFFF (digits_in name) && xml_char (number name))).0 e

  pub number-xml : xml_char (number name) ≡ true
  number-xml = ((and-eq-true_iff (is_number (base name) 0x10FFFF (digits_in name)) (xml_char (number name))).0 sharp.1).1

  char-ref-spelt : spelt name ≡ true
  unfolding base digits_in spelt each
  char-ref-spelt =
      let p = number-parts (base name) 0x10FFFF (digits_in name) ((and-eq-true_iff (is_number (base name) 0x10FFFF (digits_in name)) (xml_char (number name))).0 sharp.1).0 in
      go name (eqb-true (get_or name 0 0) 0x23 sharp.0) p.0 p.1
    where
      go : (l : List ℕ) → get_or l 0 0 ≡ 0x23 → 0 < length (digits_in l) → all_digits (base l) (digits_in l) ≡ true → (leb 2 (length l) && each letter l) ≡ true
      go [] h n d = absurd (omega arith)
      go (b ∷ []) h n d = absurd (omega arith)
      go (b ∷ x ∷ l) h n d = by (eqb x 0x78) refl d
        where
          by : (t : Bool) → eqb x 0x78 ≡ t → all_digits (cond t 16 10) (cond t l (x ∷ l)) ≡ true → (leb 2 (suc (suc (length l))) && (letter b && (letter x && each letter l))) ≡ true
          by true q d = let k = eqb-true x 0x78 q in
              simp (le-leb 2 (suc (suc (length l))) (omega arith), letter-of b (omega arith) (λ z. omega arith), letter-of x (omega arith) (λ z. omega arith), digits-letters 16 l d)
          by false q d = simp (le-leb 2 (suc (suc (length l))) (omega arith), letter-of b (omega arith) (λ z. omega arith), digits-letters 10 (x ∷ l) d)

-- both
either : (t u : Bool) → (t || u) ≡ true → (t ≡ true) ⊎ (u ≡ true)
either true u e = inl refl
either false u e = inr e

module _ (name : List ℕ) (e : is_named name ≡ true) where
  named-spelt : spelt name ≡ true
  named-spelt = go (either (is_entity name) (is_char_ref name) e)
    where
      go : (is_entity name ≡ true) ⊎ (is_char_ref name ≡ true) → spelt name ≡ true
      go (inl h) = entity-spelt name h
      go (inr h) = char-ref-spelt name h

  pub named-length : 2 ≤ length name
  unfolding spelt
  named-length = leb-true 2 (length name) ((and-eq-true_iff (leb 2 (length name)) (each letter name)).0 named-spelt).0

  letters : each letter name ≡ true
  unfolding spelt
  letters = ((and-eq-true_iff (leb 2 (length name)) (each letter name)).0 named-spelt).1

  pub named-ascii : ascii name ≡ true
  unfolding each letter
  named-ascii = go name letters
    where
      go : (l : List ℕ) → each letter l ≡ true → ascii l ≡ true
      go [] h = refl
      go (b ∷ l) h =
          let p = (and-eq-true_iff (letter b) (each letter l)).0 h in
          (and-eq-true_iff (ltb b 0x80) (ascii l)).1 (((and-eq-true_iff (ltb b 0x80) (not (eqb b 0x3B))).0 p.0).0, go l p.1)

  -- its semicolon is the first
  pub named-semicolon : (t : List ℕ) → semicolon (name ++ 0x3B ∷ t) ≡ length name
  unfolding each letter
  named-semicolon t = go name letters
    where
      go : (l : List ℕ) → each letter l ≡ true → semicolon (l ++ 0x3B ∷ t) ≡ length l
      go [] h = refl
      go (b ∷ l) h =
          let p = (and-eq-true_iff (letter b) (each letter l)).0 h in
          rw (not-true (eqb b 0x3B) ((and-eq-true_iff (ltb b 0x80) (not (eqb b 0x3B))).0 p.0).1) (ap suc (go l p.1))

  pub named-xml : xml_char (char_of name) ≡ true
  named-xml = go (is_entity name) refl e
    where
      go : (t : Bool) → is_entity name ≡ t → (t || is_char_ref name) ≡ true → xml_char (cond t (entity_char name) (number name)) ≡ true
      go true q h = entity-xml name q
      go false q h = number-xml name h

-- each of the five stands for its character
own-five : own entities 1 entities ≡ true
unfolding entities code_from same_bytes
own-five = refl

module _ (k : ℕ) (h : k < 5) where
  five-code : code_in entities (get_or entities k []) ≡ suc k
  unfolding entities
  five-code = own_code entities own-five k h

  -- each of the five names passes the test for such a name: for writing, which uses them
  pub five-entity : is_entity (get_or entities k []) ≡ true
  unfolding is_entity
  five-entity = rw five-code (lt-ltb 0 (suc k) (omega arith))

  -- each of the five names stands for its character: for writing, which uses them
  pub five-char : entity_char (get_or entities k []) ≡ get_or entity_chars k 0
  unfolding entity_char
  five-char = let z : suc k - 1 ≡ k = omega arith in rw (five-code, z) refl
