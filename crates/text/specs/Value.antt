-- Attribute text (rule X1). Definitions only.
use Rattle.std.specs.Prelude.{ℕ, List, true, cond, Result, Ok, Err}
use Rattle.utf8_chars.specs.of_area.Answer.{Answer, gives, refuses}
use Rattle.utf8_chars.specs.of_utf8.Utf8.{utf8}
use Rattle.reference.specs.Reference.{refs_ok, decoded}
use Rattle.text_filter.specs.Filter.{filtered}
use Rattle.text.specs.Decode.{decoded_of, decoded_laid}
use Rattle.utf8_chars.specs.of_refusal.declared.Cause.TheVariants as cause
use Rattle.utf8_chars.specs.of_refusal.declared.Cause.{Cause}

-- the text that is stored for a value (rule X1)
abbrev pub value_text : List ℕ → List ℕ
value_text s = filtered (decoded s 0)

abbrev pub checked_answer : Result (Unit {0}) Cause → Answer (Unit {0})
checked_answer (Ok t) = gives tt
checked_answer (Err why) = refuses why

-- rule X1
abbrev pub checked_of : List ℕ → Answer (Unit {0})
checked_of s = cond (utf8 s) (cond (refs_ok s 0) (gives tt) (refuses cause.BadReference)) (refuses cause.NotUtf8)

-- the text area from its fill mark on: n bytes are left
abbrev pub value_of : ℕ → List ℕ → Answer ℕ
value_of n s = decoded_of cause.TextFull true n s

abbrev pub value_laid : List ℕ → List ℕ → List ℕ
value_laid out s = decoded_laid true out s
