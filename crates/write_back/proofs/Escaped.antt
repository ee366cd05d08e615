-- Escaped text is read back: decoding undoes escaping. Assumes nothing.
use Prim.Native.Nat.{ℕ, ◌≤◌, ◌<◌}
use mathlib.Core.Path.{◌≡◌, refl, sym, ap, ◌∙◌}
use mathlib.Core.Bool.{Bool, true, cond, ◌||◌}
use mathlib.Core.List.{List, [], ◌∷◌, ◌++◌}
use borrow.Author.Tests.{ne_eqb}
use lib.Dec.{lit<}
use lib.ListN.{length, get_or}
use Rattle.text.specs.of_area.Answer.{gives, refuses}
use Rattle.text.specs.of_area.Area.{placing}
use Rattle.write_escape.specs.of_utf8.Utf8.{utf8}
use Rattle.write_escape.specs.of_utf8.Characters.{encode}
use Rattle.text.specs.of_reference.Reference.{entities, entity_chars, entity_char, is_char_ref, number, is_named, char_of, refs_ok, decoded}
use Rattle.text.proofs.of_reference.Letters.{five-entity, five-char}
use Rattle.text.proofs.of_reference.Decoding.{refs-name, decoded-name, decoded-length}
use Rattle.text.specs.of_text_filter.Filter.{filtered, unfiltered}
use Rattle.text.specs.Value.{value_text, checked_of, value_of}
use Rattle.text.proofs.of_text_filter.Filtering.{filtered-same}
use Rattle.text.proofs.Putting.{both_yes}
use Rattle.write_escape.specs.Escape.{written, escaped}
use Rattle.write_escape.proofs.Keeping.{by-case, utf8-escaped}
use Rattle.text.specs.of_refusal.declared.Cause.TheVariants as cause

-- b is read back from f, and then t
abbrev Back : List ℕ → ℕ → List ℕ → Type 0
Back t b f = (refs_ok (f ++ t) 0 ≡ refs_ok t 0) × (decoded (f ++ t) 0 ≡ b ∷ decoded t 0)

-- a reference by one of the five names
module _ (k : ℕ) (h : k < 5) (t : List ℕ) where
  abbrev name : List ℕ
  name = get_or entities k []

  named : is_named name ≡ true
  named = ap (λ (b : Bool). b || is_char_ref name) (five-entity k h)

  own-char : char_of name ≡ get_or entity_chars k 0
  own-char = ap (λ (b : Bool). cond b (entity_char name) (number name)) (five-entity k h) ∙ five-char k h

  five_refs : refs_ok (0x26 ∷ name ++ 0x3B ∷ t) 0 ≡ refs_ok t 0
  five_refs = refs-name name t named

  five-decoded : decoded (0x26 ∷ name ++ 0x3B ∷ t) 0 ≡ encode (get_or entity_chars k 0) ++ decoded t 0
  five-decoded = decoded-name name t named ∙ ap (λ (c : ℕ). encode c ++ decoded t 0) own-char

byte-back : (t : List ℕ) (b : ℕ) → Back t b (written b)
unfolding entities entity_chars encode
byte-back t =
    by-case (Back t)
    (five_refs 0 (lit< tt) t, five-decoded 0 (lit< tt) t)
    (five_refs 1 (lit< tt) t, five-decoded 1 (lit< tt) t)
    (five_refs 2 (lit< tt) t, five-decoded 2 (lit< tt) t)
    (five_refs 3 (lit< tt) t, five-decoded 3 (lit< tt) t)
    (five_refs 4 (lit< tt) t, five-decoded 4 (lit< tt) t)
    (λ b n e. (rw (ne_eqb b 0x26 n) refl, rw (ne_eqb b 0x26 n) refl))

-- the references of escaped text are good
pub refs-escaped : (s : List ℕ) → refs_ok (escaped s) 0 ≡ true
refs-escaped [] = refl
refs-escaped (b ∷ s) = (byte-back (escaped s) b).0 ∙ refs-escaped s

-- escaped text stands for the text
pub decoded-escaped : (s : List ℕ) → decoded (escaped s) 0 ≡ s
decoded-escaped [] = refl
decoded-escaped (b ∷ s) = (byte-back (escaped s) b).1 ∙ ap (λ (l : List ℕ). b ∷ l) (decoded-escaped s)

-- escaping never makes a text shorter
pub length-escaped : (s : List ℕ) → length s ≤ length (escaped s)
length-escaped s = rw (decoded-escaped s) at (decoded-length (escaped s))

-- as the value of an attribute
module _ (s : List ℕ) where
  -- an escaped attribute value is stored as the text, if nothing of it is filtered
  pub value-escaped : unfiltered s ≡ true → value_text (escaped s) ≡ s
  value-escaped e = ap filtered (decoded-escaped s) ∙ filtered-same s e

  module _ (u : utf8 s ≡ true) where
    -- an escaped value passes the check of values
    pub checked-escaped : checked_of (escaped s) ≡ gives tt
    checked-escaped = sym (both_yes (utf8 (escaped s)) (refs_ok (escaped s) 0) (gives tt) (refuses cause.BadReference) (refuses cause.NotUtf8) (utf8-escaped s ∙ u) (refs-escaped s))

    pub stored-escaped : (n : ℕ) → unfiltered s ≡ true → value_of n (escaped s) ≡ placing cause.TextFull n s
    stored-escaped n e =
        sym (both_yes (utf8 (escaped s)) (refs_ok (escaped s) 0) (placing cause.TextFull n (value_text (escaped s)))
        (refuses cause.BadReference) (refuses cause.NotUtf8) (utf8-escaped s ∙ u) (refs-escaped s))
        ∙ ap (placing cause.TextFull n) (value-escaped e)
