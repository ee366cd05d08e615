-- Attribute text as it is stored. Assumes nothing.
use Prim.Native.Nat.{ℕ, ◌≤◌}
use mathlib.Core.Path.{◌≡◌, sym, ap, ◌∙◌}
use mathlib.Core.List.{List}
use mathlib.Core.Bool.{true}
use native.Mathlib.Nat.{le_trans}
use lib.ListN.{length}
use Rattle.utf8_chars.specs.of_area.Answer.{gives, refuses}
use Rattle.utf8_chars.specs.of_area.Area.{placing}
use Rattle.utf8_chars.specs.of_utf8.Utf8.{utf8}
use Rattle.reference.specs.Reference.{refs_ok, decoded, no_ampersand}
use Rattle.reference.proofs.Decoding.{plain-refs, plain-decoded, decoded-length}
use Rattle.reference.proofs.Keeping.{utf8-decoded}
use Rattle.text_filter.specs.Filter.{filtered, unfiltered}
use Rattle.text.specs.Value.{value_text, checked_of, value_of}
use Rattle.text_filter.proofs.Filtering.{utf8-filtered, unfiltered-filtered, filtered-same, length-filtered}
use Rattle.text.proofs.Putting.{both_yes}
use Rattle.utf8_chars.specs.of_refusal.declared.Cause.TheVariants as cause

module _ (s : List ℕ) where
  -- the stored text of a UTF-8 value is UTF-8
  pub utf8-value : utf8 s ≡ true → utf8 (value_text s) ≡ true
  utf8-value e = utf8-filtered (decoded s 0) (utf8-decoded s e)

  -- stored text has nothing left to filter
  pub unfiltered-value : unfiltered (value_text s) ≡ true
  unfiltered-value = unfiltered-filtered (decoded s 0)

  -- stored text is no longer than its value
  pub length-value : length (value_text s) ≤ length s
  length-value = le_trans (length-filtered (decoded s 0)) (decoded-length s)

  -- a value without references and dropped bytes is stored as it is
  module _ (plain : no_ampersand s ≡ true) where
    pub plain_value : unfiltered s ≡ true → value_text s ≡ s
    plain_value e = ap filtered (plain-decoded s plain) ∙ filtered-same s e

    pub plain-checked : utf8 s ≡ true → checked_of s ≡ gives tt
    plain-checked u = sym (both_yes (utf8 s) (refs_ok s 0) (gives tt) (refuses cause.BadReference) (refuses cause.NotUtf8) u (plain-refs s plain))

    pub plain-stored : (n : ℕ) → utf8 s ≡ true → unfiltered s ≡ true → value_of n s ≡ placing cause.TextFull n s
    plain-stored n u e =
        sym (both_yes (utf8 s) (refs_ok s 0) (placing cause.TextFull n (value_text s)) (refuses cause.BadReference) (refuses cause.NotUtf8) u (plain-refs s plain))
        ∙ ap (placing cause.TextFull n) (plain_value e)
