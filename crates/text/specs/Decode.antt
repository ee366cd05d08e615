-- A value with references: what it stands for, piece by piece, and what putting it into an area does. Definitions only.
use Rattle.std.specs.Prelude.{ℕ, suc, ◌≤◌, ◌≡◌, List, [], ◌∷◌, Bool, cond, ◌&&◌, length, take, eqb}
use Rattle.utf8_chars.specs.of_area.Answer.{Answer, refuses}
use Rattle.utf8_chars.specs.of_area.Area.{placing, laid}
use Rattle.utf8_chars.specs.of_utf8.Utf8.{utf8}
use Rattle.utf8_chars.specs.of_utf8.Characters.{encode}
use Rattle.reference.specs.Reference.{ref_at, code_of, bytes_of, refs_ok, decoded}
use Rattle.text_filter.specs.Filter.{filtered}
use Rattle.text.specs.declared.decode.Piece.{Piece}
use Rattle.utf8_chars.specs.of_refusal.declared.Cause.TheVariants as cause
use Rattle.utf8_chars.specs.of_refusal.declared.Cause.{Cause}

-- filtered where clean asks for it
abbrev pub cleaned : Bool → List ℕ → List ℕ
cleaned clean l = cond clean (filtered l) l

abbrev pub is_value : List ℕ → Bool
is_value s = utf8 s && refs_ok s 0

-- the answer of an area of n bytes; short is its cause where it is too short. The whole value is tested for UTF-8 (2) and for
-- references (10) before (rules X5 and M7)
abbrev pub decoded_of : Cause → Bool → ℕ → List ℕ → Answer ℕ
decoded_of short clean n s = cond (utf8 s) (cond (refs_ok s 0) (placing short n (cleaned clean (decoded s 0))) (refuses cause.BadReference)) (refuses cause.NotUtf8)

-- the area: what is no value leaves it as it was
abbrev pub decoded_laid : Bool → List ℕ → List ℕ → List ℕ
decoded_laid clean out s = cond (is_value s) (laid out (cleaned clean (decoded s 0))) out

-- the first piece of what s stands for: a byte, or the character of the reference that s begins with
abbrev pub piece_of : List ℕ → List ℕ
piece_of [] = []
piece_of (b ∷ s) = cond (eqb b 0x26) (encode (code_of (ref_at s))) (b ∷ [])

-- how many bytes of s it takes
abbrev pub piece_width : List ℕ → ℕ
piece_width [] = 0
piece_width (b ∷ s) = cond (eqb b 0x26) (suc (bytes_of (ref_at s))) 1

-- p is the piece f, which takes w bytes
pub record Pieced (f : List ℕ) (w : ℕ) (p : Piece) : Type 0 where
  pub fits : p.n ≤ length p.bytes
  pub front : take p.n p.bytes ≡ f
  pub takes : p.width ≡ w
