-- The pieces of gathered text are UTF-8. Assumes nothing.
use Prim.Native.Nat.{ℕ}
use mathlib.Core.Path.{◌≡◌, refl, sym, ap, ◌∙◌}
use mathlib.Core.List.{List, [], append-nil}
use mathlib.Core.Bool.{true}
use Rattle.text.specs.of_utf8.Utf8.{need, utf8}
use Rattle.text.specs.of_utf8.Characters.{encode}
use Rattle.text.proofs.of_utf8.Encoding.{utf8_encode}
use Rattle.text.specs.of_reference.Reference.{char_of}
use Rattle.text_pieces.specs.Gather.{reference_text, newline}

-- the newline that is gathered for an Indent is UTF-8
pub utf8-newline : utf8 newline ≡ true
unfolding need
utf8-newline = refl

-- the text that is gathered for a reference is UTF-8
pub utf8-reference : (name : List ℕ) → utf8 (reference_text name) ≡ true
utf8-reference name = sym (ap utf8 (append-nil (encode (char_of name)))) ∙ utf8_encode (char_of name) []
