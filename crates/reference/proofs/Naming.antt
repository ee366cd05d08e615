-- What a name between & and ; stands for, from the tests that lead to it. Assumes nothing.
use Prim.Native.Nat.{ℕ, ◌-◌, ◌<◌}
use mathlib.Core.Path.{◌≡◌, refl, sym, ◌∙◌}
use mathlib.Core.List.{List, [], ◌∷◌}
use mathlib.Core.Bool.{Bool, true, false, cond, false≢true, and-false}
use native.Mathlib.Omega.{arith}
use native.Mathlib.Decide.{dec_lt}
use borrow.Author.Tests.{lt-ltb, lt-leb, eq-eqb, ne_eqb}
use lib.Dec.{eqb}
use lib.ListN.{length, drop, get_or}
use Rattle.names.specs.of_area.Answer.{Answer, gives, refuses}
use Rattle.digits.specs.Digits.{is_number, number_in}
use Rattle.std.specs.Prelude.{Some, None}
use Rattle.digits.proofs.Numbers.{is-number, not-number, number-empty}
use Rattle.names.specs.Names.{code_in, cut}
use Rattle.names.proofs.NameLaws.{code-most}
use Rattle.reference.specs.Reference.{xml_char, entities, entity_chars, is_entity, entity_char, entity_of, base, digits_in, number, is_char_ref, named}
use Rattle.names.proofs.of_area.Answers.{given, refused}
use Rattle.names.specs.of_refusal.declared.Cause.TheVariants as cause

-- the names as the code has them, one behind the other, with their lengths
abbrev letters : List ℕ
letters = 0x61 ∷ 0x6D ∷ 0x70 ∷ 0x6C ∷ 0x74 ∷ 0x67 ∷ 0x74 ∷ 0x61 ∷ 0x70 ∷ 0x6F ∷ 0x73 ∷ 0x71 ∷ 0x75 ∷ 0x6F ∷ 0x74 ∷ []

abbrev lengths : List ℕ
lengths = 3 ∷ 2 ∷ 2 ∷ 4 ∷ 4 ∷ []

cut-entities : cut letters lengths ≡ entities
unfolding cut entities
cut-entities = refl

count : length entities ≡ 5
unfolding entities
count = refl

-- one of the five, from its code
module _ (name : List ℕ) (k : ℕ) (e : k ≡ code_in (cut letters lengths) name) where
  code : k ≡ code_in entities name
  code = rw cut-entities at e

  pub entity-none : k ≡ 0 → refuses cause.UnknownEntity ≡ entity_of name
  unfolding is_entity
  entity-none z = rw (← code, z) refl

  module _ (h : k ≡ 0 → ⊥) where
    pub entity-place : k - 1 < 5
    entity-place = omega (arith, rw count at (rw (← code) at (code-most entities name)))

    pub entity-some : gives (get_or entity_chars (k - 1) 0) ≡ entity_of name
    unfolding is_entity entity_char
    entity-some = let p : 0 < k = omega arith in rw (← code, lt-ltb 0 k p) refl

-- XML Chars are code points
pub char-code : (c : ℕ) → xml_char c ≡ true → c < 0x110000
unfolding xml_char
char-code c e = go (dec_lt c 0x110000)
  where
    go : Dec (c < 0x110000) → c < 0x110000
    go (yes h) = h
    go (no h) =
        let z : xml_char c ≡ false = simp (
          ne_eqb c 0x9 (omega arith),
          ne_eqb c 0xA (omega arith),
          ne_eqb c 0xD (omega arith),
          lt-leb c 0xD7FF (omega arith),
          lt-leb c 0xFFFD (omega arith),
          lt-leb c 0x10FFFF (omega arith),
          and-false,
        ) in
        absurd (false≢true (sym z ∙ e))

-- a character reference, from the tests that lead to it
module _ (name : List ℕ) where
  pub hexadecimal-number : (m : ℕ) → get_or name 1 0 ≡ 0x78 → number_in 16 m (drop 2 name) ≡ number_in (base name) m (digits_in name)
  unfolding base digits_in
  hexadecimal-number m h = rw (eq-eqb (get_or name 1 0) 0x78 h) refl

  pub decimal-number : (m : ℕ) → (get_or name 1 0 ≡ 0x78 → ⊥) → number_in 10 m (drop 1 name) ≡ number_in (base name) m (digits_in name)
  unfolding base digits_in
  decimal-number m h = rw (ne_eqb (get_or name 1 0) 0x78 h) refl

  none : (t : Bool) → t ≡ false → refuses cause.BadReference ≡ cond t (gives (number name)) (refuses cause.BadReference)
  none t z = rw z refl

  pub char-other : (get_or name 0 0 ≡ 0x23 → ⊥) → refuses cause.BadReference ≡ cond (is_char_ref name) (gives (number name)) (refuses cause.BadReference)
  unfolding is_char_ref
  char-other h = none (is_char_ref name) (rw (ne_eqb (get_or name 0 0) 0x23 h) refl)

  no_number : is_number (base name) 0x10FFFF (digits_in name) ≡ false → is_char_ref name ≡ false
  unfolding is_char_ref
  no_number z = rw z (and-false (eqb (get_or name 0 0) 0x23))

  pub char-short : length name < 2 → refuses cause.BadReference ≡ cond (is_char_ref name) (gives (number name)) (refuses cause.BadReference)
  unfolding base digits_in
  char-short h = none (is_char_ref name) (no_number (go name h))
    where
      go : (l : List ℕ) → length l < 2 → is_number (base l) 0x10FFFF (digits_in l) ≡ false
      go [] h = number-empty 10 0x10FFFF [] (omega arith)
      go (b ∷ []) h = number-empty 10 0x10FFFF [] (omega arith)
      go (b ∷ d ∷ l) h = absurd (omega arith)

  pub char-not : None ≡ number_in (base name) 0x10FFFF (digits_in name) → refuses cause.BadReference ≡ cond (is_char_ref name) (gives (number name)) (refuses cause.BadReference)
  char-not e = none (is_char_ref name) (no_number (not-number (base name) 0x10FFFF (digits_in name) e))

  module _ (v : ℕ) (e : Some v ≡ number_in (base name) 0x10FFFF (digits_in name)) where
    is : (is_number (base name) 0x10FFFF (digits_in name) ≡ true) × (v ≡ number name)
    unfolding number
    is = is-number (base name) 0x10FFFF (digits_in name) v e

    pub char-some : get_or name 0 0 ≡ 0x23 → xml_char v ≡ true → gives v ≡ cond (is_char_ref name) (gives (number name)) (refuses cause.BadReference)
    unfolding is_char_ref
    char-some h x = rw (eq-eqb (get_or name 0 0) 0x23 h, is.0, ← is.1, x) refl

    pub char-none : get_or name 0 0 ≡ 0x23 → xml_char v ≡ false → refuses cause.BadReference ≡ cond (is_char_ref name) (gives (number name)) (refuses cause.BadReference)
    unfolding is_char_ref
    char-none h x = rw (eq-eqb (get_or name 0 0) 0x23 h, is.0, ← is.1, x) refl

  -- both kinds of names together
  pub named-entity : (c : ℕ) → gives c ≡ entity_of name → gives c ≡ named name
  named-entity c e = let p = given (is_entity name) (entity_char name) cause.UnknownEntity c e in rw (p.0, p.1) refl

  pub named-number : (a : Answer ℕ) → refuses cause.UnknownEntity ≡ entity_of name → a ≡ cond (is_char_ref name) (gives (number name)) (refuses cause.BadReference) → a ≡ named name
  named-number a e p = rw (refused (is_entity name) (entity_char name) cause.UnknownEntity cause.UnknownEntity e) p
