-- Gathered text: a piece of it put into scratch from its mark on (rules X9 and M6). Definitions only.
use Rattle.std.specs.Prelude.{ℕ, List, [], ◌∷◌, false, cond, ◌&&◌}
use Rattle.text.specs.of_area.Answer.{Answer, refuses}
use Rattle.text.specs.of_area.Area.{placing, laid}
use Rattle.text.specs.of_utf8.Utf8.{utf8}
use Rattle.text.specs.of_utf8.Characters.{encode}
use Rattle.text.specs.of_reference.Reference.{is_named, char_of, unnamed}
use Rattle.text.specs.Decode.{decoded_of, decoded_laid}
use Rattle.text.specs.of_refusal.declared.Cause.TheVariants as cause

-- a Text; n bytes are left
abbrev pub text_of : ℕ → List ℕ → Answer ℕ
text_of n s = decoded_of cause.ScratchFull false n s

abbrev pub text_laid : List ℕ → List ℕ → List ℕ
text_laid out s = decoded_laid false out s

-- a CData
abbrev pub cdata_of : ℕ → List ℕ → Answer ℕ
cdata_of n s = cond (utf8 s) (placing cause.ScratchFull n s) (refuses cause.NotUtf8)

abbrev pub cdata_laid : List ℕ → List ℕ → List ℕ
cdata_laid out s = cond (utf8 s) (laid out s) out

-- a Ref's name: what it stands for in a value, else 10 for a number (rule X6), or 21 (rule X7)
abbrev pub reference_text : List ℕ → List ℕ
reference_text name = encode (char_of name)

-- rule M7
abbrev pub reference_of : ℕ → List ℕ → Answer ℕ
reference_of n name = cond (utf8 name) (cond (is_named name) (placing cause.ScratchFull n (reference_text name)) (refuses (unnamed name))) (refuses cause.NotUtf8)

abbrev pub reference_laid : List ℕ → List ℕ → List ℕ
reference_laid out name = cond (utf8 name && is_named name) (laid out (reference_text name)) out

-- what an Indent is (rule T4)
abbrev pub newline : List ℕ
newline = 0x0A ∷ []

abbrev pub indent_of : ℕ → Answer ℕ
indent_of n = placing cause.ScratchFull n newline

abbrev pub indent_laid : List ℕ → List ℕ
indent_laid out = laid out newline
