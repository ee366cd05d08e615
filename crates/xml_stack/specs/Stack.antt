-- Event records in an area, and the open elements as a chain through the kind words of their Start records. Definitions only.
use Rattle.std.specs.Prelude.{ℕ, ◌+◌, ◌*◌, ◌≤◌, ◌<◌, ◌≡◌, List, [], ◌∷◌, length, get_or, set}
use Rattle.xml_machine.specs.Tokens.{Rec, flat, laid_out}

-- a part of the source
pub data Range : Type 0 where
  range : ℕ → ℕ → Range

-- open elements are numbers of Start records, innermost first; what points at the innermost: its number + 1, or 0
abbrev pub link : List ℕ → ℕ
link [] = 0
link (i ∷ is) = i + 1

-- the kind word of each open record points at its parent
unfoldable pub chained : List ℕ → List ℕ → List ℕ
chained [] a = a
chained (i ∷ is) a = set (chained is a) (i * 5) (link is)

-- the open records: below number n, falling, of kind 0, with these names, which lie in a source of `size` bytes
pub data Lies (size : ℕ) (rs : List Rec) : ℕ → List ℕ → List Range → Type 0 where
  none : {n : ℕ} → Lies size rs n [] []
  some : {n i s l : ℕ} {is : List ℕ} {ns : List Range} → i < n → get_or (flat rs) (i * 5) 0 ≡ 0 → get_or (flat rs) (i * 5 + 1) 0 ≡ s →
      get_or (flat rs) (i * 5 + 2) 0 ≡ l → s + l ≤ size → Lies size rs i is ns → Lies size rs n (i ∷ is) (range s l ∷ ns)

-- THE RELATION: the area holds the records rs, the stack of open names is ns, and `top` points at the innermost
pub record Stacked (size : ℕ) (rs : List Rec) (ns : List Range) (top : ℕ) (area : List ℕ) : Type 0 where
  pub opens : List ℕ
  pub lies : Lies size rs (length rs) opens ns
  pub points : top ≡ link opens
  pub fits : length rs * 5 ≤ length area
  pub holds : area ≡ chained opens (laid_out rs (length area))

-- record number n stored, the kind word last
unfoldable pub put_at : List ℕ → ℕ → ℕ → ℕ → ℕ → ℕ → ℕ → List ℕ
put_at a n k s l f c = set (set (set (set (set a (n * 5 + 1) s) (n * 5 + 2) l) (n * 5 + 3) f) (n * 5 + 4) c) (n * 5) k
