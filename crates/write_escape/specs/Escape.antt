-- Text and values as they are written: five characters become the references that XML 1.0, section 4.6, predefines (rule W8).
-- Definitions only.
use Rattle.std.specs.Prelude.{ℕ, List, [], ◌∷◌, Bool, true, cond, not, ◌&&◌, ◌||◌, eqb}
use Rattle.names.specs.Bytes.{bytes}
use Rattle.escape.specs.Escape.{spelled}

-- what stands for one byte
unfoldable pub written : ℕ → List ℕ
written b =
    cond (eqb b 0x26) (bytes "&amp;")
    (cond (eqb b 0x3C) (bytes "&lt;")
    (cond (eqb b 0x3E) (bytes "&gt;")
    (cond (eqb b 0x27) (bytes "&apos;")
    (cond (eqb b 0x22) (bytes "&quot;") (b ∷ [])))))

-- rule W8
abbrev pub escaped : List ℕ → List ℕ
escaped s = spelled written s

-- s holds none of < > ' "
abbrev pub is_markup : ℕ → Bool
is_markup b = eqb b 0x3C || eqb b 0x3E || eqb b 0x27 || eqb b 0x22

abbrev pub no_markup : List ℕ → Bool
no_markup [] = true
no_markup (b ∷ s) = not (is_markup b) && no_markup s
