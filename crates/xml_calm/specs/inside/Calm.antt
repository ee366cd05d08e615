-- Bytes of a text or a value that end nothing. Definitions only.
use Rattle.std.specs.Prelude.{ℕ, ◌≤◌, ◌<◌, ◌≡◌, List, [], ◌∷◌, Bool, true, not, cond, ◌&&◌, ◌||◌, ltb, eqb, length, get_or}
use Rattle.xml_state.specs.inside.Rows as row

-- printable ASCII but what ends a run (`<`, `&` and the stop), newline or tab
abbrev pub mild : ℕ → ℕ → Bool
mild stop b = (ltb 0x1F b && (ltb b 0x80 && (not (eqb b 0x3C) && (not (eqb b 0x26) && not (eqb b stop))))) || (eqb b 0xA || eqb b 0x9)

abbrev pub mild_all : ℕ → List ℕ → Bool
mild_all stop [] = true
mild_all stop (b ∷ t) = mild stop b && mild_all stop t

-- the third byte that ends a run in the mode; 0 in modes without runs
abbrev pub stop_of : ℕ → ℕ
stop_of m = cond (eqb m row.text_in_of) 0x5D (cond (eqb m row.value_d) 0x22 (cond (eqb m row.value_s) 0x27 0))

-- only such bytes stand from `start` up to `end`
abbrev pub Calm : List ℕ → ℕ → ℕ → ℕ → Type 0
Calm src mode start end = (i : ℕ) → start ≤ i → i < end → (i < length src) × (stop_of mode ≡ 0 → ⊥) × (mild (stop_of mode) (get_or src i 0) ≡ true)
