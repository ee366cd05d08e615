-- The line and the place, by the parts in which they are put. Assumes nothing.
use Prim.Native.Nat.{ℕ}
use mathlib.Core.Path.{◌≡◌, refl, sym, ap, ◌∙◌}
use mathlib.Core.List.{List, [], ◌++◌}
use mathlib.Core.Bool.{Bool}
use borrow.Author.Tests.{eq-eqb, ne_eqb}
use lib.Dec.{leb}
use lib.ListN.{length, take}
use Rattle.list_text.specs.of_refusal.Refusal.{nowhere}
use Rattle.list_text.specs.of_names.Bytes.{bytes}
use Rattle.list_text.specs.of_digits.Digits.{decimal}
use Rattle.explain_spot.specs.Spots.{line_behind, column_behind}
use Rattle.explain_xml.specs.XmlExplanation.{holds_most, spot_text, xml_sentence, xml_line}

module _ (source : List ℕ) (byte : ℕ) where
  pub no-spot : byte ≡ nowhere → [] ≡ spot_text source byte
  unfolding spot_text
  no-spot e = sym (rw (eq-eqb byte nowhere e) refl)

  pub spot-parts : (byte ≡ nowhere → ⊥) → (at line column : ℕ) (s : List ℕ) → at ≡ byte → s ≡ take at source → line ≡ line_behind s → column ≡ column_behind s
      → bytes " at byte " ++ (decimal byte ++ (bytes ", line " ++ (decimal line ++ (bytes ", column " ++ decimal column)))) ≡ spot_text source byte
  unfolding spot_text
  spot-parts h at line column s a e l c =
      let t : s ≡ take byte source = e ∙ ap (λ (n : ℕ). take n source) a in
      sym (rw (ne_eqb byte nowhere h) (rw (l, c, t) refl))

  pub line-parts : (number at events attributes : ℕ) {many-events many-attributes : Bool} → at ≡ byte → many-events ≡ holds_most events → many-attributes ≡ holds_most attributes
      → bytes "refused " ++ (decimal number ++ (spot_text source byte ++ (bytes ": " ++ (xml_sentence number (leb (length source) at) many-events many-attributes ++ bytes "\n"))))
      ≡ xml_line source number byte events attributes
  unfolding xml_line
  line-parts number at events attributes e f g = rw (e, f, g) refl
