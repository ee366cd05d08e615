-- UUIDs as text (RFC 9562, section 4). Definitions only.
use Rattle.std.specs.Prelude.{ℕ, ◌+◌, ◌*◌, Bool, cond, List, [], ◌∷◌, length, get_or, eqb, Option, Some, None, Result}
use Rattle.names.specs.of_area.Answer.{Answer, gives, refuses}
use Rattle.fixed.specs.of_utf8.Utf8.{utf8}
use Rattle.fixed.specs.of_digits.Digits.{all_digits, value}
use Rattle.fixed.specs.Fields.{part, all}
use Rattle.uuids.specs.declared.Words.{Words}
use Rattle.fixed.specs.of_digits.Results.{answered}
use Rattle.names.specs.of_refusal.declared.Cause.{Cause}
use Rattle.names.specs.of_refusal.declared.Cause.TheVariants as cause

-- UUID = 4hexOctet "-" 2hexOctet "-" 2hexOctet "-" 2hexOctet "-" 6hexOctet, which are 36 characters (rule V9)
abbrev pub uuid_tests : List ℕ → List Bool
uuid_tests s =
    eqb (length s) 36
    ∷ eqb (get_or s 8 0) 0x2D ∷ eqb (get_or s 13 0) 0x2D ∷ eqb (get_or s 18 0) 0x2D ∷ eqb (get_or s 23 0) 0x2D
    ∷ all_digits 16 (part 0 8 s) ∷ all_digits 16 (part 9 4 s) ∷ all_digits 16 (part 14 4 s) ∷ all_digits 16 (part 19 4 s) ∷ all_digits 16 (part 24 12 s)
    ∷ []

-- rule V9
unfoldable pub is_uuid : List ℕ → Bool
is_uuid s = all (uuid_tests s)

-- the 16 octets as four words, the most significant octet first
abbrev pub words_of : List ℕ → Words
words_of s = record {
  a = value 16 (part 0 8 s);
  b = value 16 (part 9 4 s) * 65536 + value 16 (part 14 4 s);
  c = value 16 (part 19 4 s) * 65536 + value 16 (part 24 4 s);
  d = value 16 (part 28 8 s);
}

abbrev pub form_of : List ℕ → Option Words
form_of s = cond (is_uuid s) (Some (words_of s)) None

abbrev pub uuid_answer : Result Words Cause → Answer Words
uuid_answer = answered

-- rule V1
unfoldable pub uuid_of : List ℕ → Answer Words
uuid_of s = cond (utf8 s) (cond (is_uuid s) (gives (words_of s)) (refuses cause.BadUuid)) (refuses cause.NotUtf8)
