-- A text of fields and single bytes is UTF-8. Assumes nothing.
use Prim.Native.Nat.{ℕ, ◌+◌, ◌<◌}
use mathlib.Core.Path.{◌≡◌, refl, sym, ap, ◌∙◌}
use mathlib.Core.Bool.{Bool, true, false}
use mathlib.Core.List.{List}
use borrow.Author.Tests.{ltb-true, ltb-false}
use lib.Dec.{ltb}
use lib.ListN.{length, get_or, take, drop, take-append-drop, drop_of_length-le}
use lib.Seq.{drop-drop}
use Rattle.digits.proofs.of_area.Lists.{drop-next}
use Rattle.digits.specs.of_utf8.Utf8.{utf8}
use Rattle.digits.proofs.of_utf8.Rules.{ascii-on}
use Rattle.digits.specs.Digits.{all_digits}
use Rattle.digits.proofs.Texts.{digits_append}
use Rattle.fixed.specs.Fields.{part}

module _ (s : List ℕ) (a : ℕ) where
  -- a field of digits before UTF-8 is UTF-8: goes along a text of fields from its end
  pub digits-on : (base n : ℕ) → all_digits base (part a n s) ≡ true → utf8 (drop (a + n) s) ≡ true → utf8 (drop a s) ≡ true
  digits-on base n d e =
      ap utf8 (sym (take-append-drop n (drop a s))) ∙ digits_append base (take n (drop a s)) (drop n (drop a s)) d
      ∙ ap utf8 (drop-drop n a s) ∙ e

  -- an ASCII byte before UTF-8 is UTF-8: goes over the mark between two fields
  pub byte-on : get_or s a 0 < 0x80 → utf8 (drop (a + 1) s) ≡ true → utf8 (drop a s) ≡ true
  byte-on h e = go (ltb a (length s)) refl
    where
      go : (b : Bool) → ltb a (length s) ≡ b → utf8 (drop a s) ≡ true
      go true l = ap utf8 (drop-next s a (ltb-true a (length s) l)) ∙ ascii-on (get_or s a 0) (drop (a + 1) s) h ∙ e
      go false l = ap utf8 (drop_of_length-le s (ltb-false a (length s) l))
