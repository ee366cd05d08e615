-- What the loop over a source may leave out. Definitions only.
use Rattle.std.specs.Prelude.{ℕ, ◌+◌, ◌≡◌, List, Bool, true, ◌&&◌, ◌||◌, ltb, eqb}
use Rattle.xml_checks.specs.of_xml_state.declared.State.{State as Registers}
use Rattle.xml_checks.specs.of_xml_state.inside.Rows as row
use Rattle.xml_records.specs.inside.Loop.{At}

-- in this mode, what stands behind `start` bytes stands behind `end` bytes too, registers and areas alike
abbrev pub Passes : List ℕ → ℕ → ℕ → ℕ → Type 0
Passes src mode start end =
    (words wide : ℕ) (st : Registers) (events attributes : List ℕ) → st.mode ≡ mode → At src words wide start st events attributes → At src words wide end st events attributes

-- with these registers, what stands behind `start` bytes stands behind `end` bytes too, areas alike
abbrev pub Keeps : List ℕ → Registers → ℕ → ℕ → Type 0
Keeps src st start end = (words wide : ℕ) (events attributes : List ℕ) → At src words wide start st events attributes → At src words wide end st events attributes

-- modes in which any character beyond ASCII may stand, and leaves the mode as it is
abbrev pub loose : ℕ → Bool
loose m = eqb m row.text_in_of || (eqb m row.value_d || (eqb m row.value_s || (eqb m row.cdata || (eqb m row.comment || eqb m row.pi_data))))

-- r bytes from `at` on may be left out in those modes
abbrev pub Wide : List ℕ → ℕ → ℕ → Type 0
Wide src at r = (mode : ℕ) → loose mode ≡ true → Passes src mode at (at + r)

-- a character of two, three, four bytes
abbrev pub further : ℕ → Bool
further b = ltb 0x7F b && ltb b 0xC0

abbrev pub two_bytes_of : ℕ → ℕ → Bool
two_bytes_of a b = ltb 0xC1 a && (ltb a 0xE0 && further b)

abbrev pub three_bytes : ℕ → ℕ → ℕ → Bool
three_bytes a b c =
    (ltb 0xDF a && (ltb a 0xF0 && (further b && further c)))
    && ((ltb 0xE0 a || ltb 0x9F b) && ((ltb a 0xED || (ltb 0xED a || ltb b 0xA0)) && (ltb a 0xEF || (ltb b 0xBF || ltb c 0xBE))))

abbrev pub four_bytes_of : ℕ → ℕ → ℕ → ℕ → Bool
four_bytes_of a b c d =
    (ltb 0xEF a && (ltb a 0xF5 && (further b && (further c && further d)))) && ((ltb 0xF0 a || ltb 0x8F b) && (ltb a 0xF4 || ltb b 0x90))
