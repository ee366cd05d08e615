-- The answers to putting a text into a lent area. Definitions only.
use Rattle.std.specs.Prelude.{ℕ, Result, Ok, Err}
use Rattle.utf8_chars.specs.of_area.Answer.{Answer, gives, refuses}
use Rattle.text.specs.declared.kept.Unkept.{Unkept}
use Rattle.text.specs.declared.kept.Unkept.TheVariants.{Full, NotUtf8, BadReference, UnknownName}
use Rattle.utf8_chars.specs.of_refusal.declared.Cause.TheVariants as cause
use Rattle.utf8_chars.specs.of_refusal.declared.Cause.{Cause}

-- the bytes it took, or the refusal; short is the cause where that area is too short, TextFull or ScratchFull
abbrev pub kept_answer : Cause → Result ℕ Unkept → Answer ℕ
kept_answer short (Ok n) = gives n
kept_answer short (Err Full) = refuses short
kept_answer short (Err NotUtf8) = refuses cause.NotUtf8
kept_answer short (Err BadReference) = refuses cause.BadReference
kept_answer short (Err UnknownName) = refuses cause.UnknownEntity
