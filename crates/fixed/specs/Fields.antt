-- Numbers that stand at known places of a text. Definitions only.
use Rattle.std.specs.Prelude.{ℕ, Bool, true, ◌&&◌, List, [], ◌∷◌, take, drop}

-- the n bytes of s from a on
abbrev pub part : ℕ → ℕ → List ℕ → List ℕ
part a n s = take n (drop a s)

-- every test passes
abbrev pub all : List Bool → Bool
all [] = true
all (t ∷ ts) = t && all ts
