-- Attributes as they are written, in the grammar. Assumes nothing.
use Prim.Native.Nat.{ℕ}
use mathlib.Core.Path.{◌≡◌, refl, sym, ap, ◌∙◌, subst}
use mathlib.Core.List.{List, [], ◌∷◌, ◌++◌, append_assoc}
use Rattle.xml_grammar.specs.of_names.Bytes.{bytes}
use Rattle.document_events.specs.of_utf8.Characters.{encode}
use Rattle.xml_grammar.specs.of_table.Event.{Attribute}
use Rattle.document_events.proofs.of_tree_report.EncodeLists.{Each, done, more}
use Rattle.round_elements.specs.of_write_report.Written.{attribute}
use Rattle.round_elements.specs.of_write_spelled.Spelled.{attributes_text}
use Rattle.xml_grammar.specs.of_xml_chars.Chars.{double}
use Rattle.xml_grammar.specs.of_xml_chars.Bytes.{utf8}
use Rattle.xml_grammar.proofs.of_xml_chars.Encoding.{utf8_append}
use Rattle.xml_grammar.specs.Grammar.{no_char, chars, Name, Value, Attributes, no-attribute, attribute as one-attribute}
use Rattle.xml_grammar.specs.Events.{attributes_of}
use Rattle.document_grammar.proofs.Characters.{Spelt}

-- attributes that derive as they are written
pub record Fits (xs : List Attribute) : Type 0 where
  pub chars : List ℕ
  pub attributes : Attributes chars
  pub spelt : attributes_text xs ≡ utf8 chars
  pub same : attributes_of attributes ≡ xs

pub fits-none : Fits []
fits-none = record { chars = []; attributes = no-attribute no_char; spelt = refl; same = refl }

-- ` k="v"` before others
abbrev shape : List ℕ → List ℕ → List ℕ → List ℕ
shape k v a = 32 ∷ (k ++ (0x3D ∷ 0x22 ∷ (v ++ (0x22 ∷ a))))

written-shape : (k v a : List ℕ) → ((bytes " " ++ (k ++ bytes "=\"")) ++ (v ++ bytes "\"")) ++ a ≡ shape k v a
written-shape k v a = simp append_assoc

bytes-shape : (k v a : List ℕ) → utf8 (shape k v a) ≡ shape (utf8 k) (utf8 v) (utf8 a)
unfolding encode
bytes-shape k v a =
    ap (λ x. 32 ∷ x) (utf8_append k (0x3D ∷ 0x22 ∷ (v ++ (0x22 ∷ a)))) ∙ ap (λ x. 32 ∷ (utf8 k ++ (0x3D ∷ 0x22 ∷ x))) (utf8_append v (0x22 ∷ a))

module _ {k v : List ℕ} (name : Spelt Name k) (value : Spelt (Value double) v) {xs : List Attribute} (rest : Fits xs) where
  abbrev kc : List ℕ
  kc = name.chars

  abbrev vc : List ℕ
  vc = value.chars

  shape_same : shape k v (attributes_text xs) ≡ shape (utf8 kc) (utf8 vc) (utf8 rest.chars)
  shape_same =
      ap (λ x. shape x v (attributes_text xs)) name.same ∙ ap (λ x. shape (utf8 kc) x (attributes_text xs)) value.same ∙ ap (shape (utf8 kc) (utf8 vc)) rest.spelt

  pub fits_one : Fits (attribute k v ∷ xs)
  fits_one = record {
    chars = shape kc vc rest.chars;
    attributes = one-attribute {w = 32 ∷ []} {x = []} {y = []} (chars refl no_char) name.are no_char no_char double value.are rest.attributes;
    spelt = written-shape k v (attributes_text xs) ∙ shape_same ∙ sym (bytes-shape kc vc rest.chars);
    same =
        ap (λ x. attribute x (utf8 vc) ∷ attributes_of rest.attributes) (sym name.same)
        ∙ ap (λ x. attribute k x ∷ attributes_of rest.attributes) (sym value.same)
        ∙ ap (λ x. attribute k v ∷ x) rest.same;
  }

-- one attribute that derives as it is written
pub data Fine (a : Attribute) : Type 0 where
  fine : {k v : List ℕ} → Spelt Name k → Spelt (Value double) v → a ≡ attribute k v → Fine a

pub fits_each : {xs : List Attribute} → Each Fine xs → Fits xs
fits_each done = fits-none
fits_each (more {xs = xs} (fine n v e) ps) = subst (λ a. Fits (a ∷ xs)) (sym e) (fits_one n v (fits_each ps))
