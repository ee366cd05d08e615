-- Bytes read lossily, as Rust's `String::from_utf8_lossy` reads them: a character of RFC 3629's table (section 4) is kept; of anything
-- else, the longest part that begins a character, or one byte where none begins, becomes one U+FFFD (the Unicode Standard, section 3.9,
-- "U+FFFD Substitution of Maximal Subparts"). Definitions only.
use Rattle.std.specs.Prelude.{ℕ, zero, suc, ◌≡◌, Bool, true, cond, List, [], ◌∷◌, ◌++◌, take}
use Rattle.utf8.specs.Grammar.{Char}
use Rattle.utf8.specs.Utf8.{need, low, high, within, runs}
use Rattle.utf8_lossy.specs.declared.Part.{Part}

-- of n bytes, the first from lo to hi, the others from 80 to BF: how many s begins with
abbrev pub along : List ℕ → ℕ → ℕ → ℕ → ℕ
along s zero lo hi = 0
along [] (suc n) lo hi = 0
along (b ∷ s) (suc n) lo hi = cond (within lo hi b) (suc (along s n 0x80 0xBF)) 0

-- how many bytes of s belong to the part that b begins before them
abbrev pub behind : ℕ → List ℕ → ℕ
behind b s = along s (need b) (low b) (high b)

-- the width of the part that s begins with, 0 where s is empty
abbrev pub part_width : List ℕ → ℕ
part_width [] = 0
part_width (b ∷ s) = suc (behind b s)

-- whether it is a whole character, with nothing missing
abbrev pub is_whole : List ℕ → Bool
is_whole [] = true
is_whole (b ∷ s) = runs s (need b) (low b) (high b)

-- U+FFFD
abbrev pub replacement : List ℕ
replacement = 0xEF ∷ 0xBF ∷ 0xBD ∷ []

-- what stands for the part
abbrev pub part_text : List ℕ → List ℕ
part_text s = cond (is_whole s) (take (part_width s) s) replacement

-- s without its first k bytes, read lossily: part by part
abbrev pub lossy_from : List ℕ → ℕ → List ℕ
lossy_from [] k = []
lossy_from (b ∷ s) zero = part_text (b ∷ s) ++ lossy_from s (behind b s)
lossy_from (b ∷ s) (suc k) = lossy_from s k

-- rule B6
abbrev pub lossy : List ℕ → List ℕ
lossy s = lossy_from s 0

-- p is the part that s begins with
pub record Parted (s : List ℕ) (p : Part) : Type 0 where
  pub takes : p.width ≡ part_width s
  pub kept : p.whole ≡ is_whole s

-- p is the beginning of a character, or a whole one
abbrev pub Begins : List ℕ → Type 0
Begins p = (t : List ℕ) × Char (p ++ t)
