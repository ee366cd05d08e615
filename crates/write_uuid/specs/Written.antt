-- A UUID as it is written: RFC 9562, section 4, in lower case. Definitions only.
use Rattle.std.specs.Prelude.{ℕ, zero, suc, ◌+◌, ◌/◌, ◌%◌, List, [], ◌∷◌, ◌++◌, cond, ltb}
use Rattle.uuids.specs.declared.Words.{Words}

-- the digit of d, which is below 16: 0 to 9, a to f
unfoldable pub hex_digit : ℕ → ℕ
hex_digit d = cond (ltb d 10) (0x30 + d) (0x57 + d)

-- the last k octets of n; hexOctet = HEXDIG HEXDIG
abbrev pub hex_octets : ℕ → ℕ → List ℕ
hex_octets zero n = []
hex_octets (suc k) n = hex_octets k (n / 256) ++ hex_digit (n / 16 % 16) ∷ hex_digit (n % 16) ∷ []

-- UUID = 4hexOctet "-" 2hexOctet "-" 2hexOctet "-" 2hexOctet "-" 6hexOctet (rule W9)
unfoldable pub uuid_text : Words → List ℕ
uuid_text w =
    hex_octets 4 w.a ++ 0x2D ∷ hex_octets 2 (w.b / 65536) ++ 0x2D ∷ hex_octets 2 w.b
    ++ 0x2D ∷ hex_octets 2 (w.c / 65536) ++ 0x2D ∷ hex_octets 2 w.c ++ hex_octets 4 w.d
