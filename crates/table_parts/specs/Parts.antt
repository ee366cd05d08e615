-- Ranges of bytes, by their start and length. Definitions only.
use Rattle.std.specs.Prelude.{ℕ, ◌+◌, Bool, List, take, drop, leb}

-- bytes of the source, by their start and length (rule T1)
abbrev pub part : List ℕ → ℕ → ℕ → List ℕ
part source start len = take len (drop start source)

-- a range lies in a source of `size` bytes (rule T10)
abbrev pub within : ℕ → ℕ → ℕ → Bool
within size start len = leb (start + len) size
