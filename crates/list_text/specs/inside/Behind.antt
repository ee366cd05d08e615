-- Texts put one behind the other into an output area. Definitions only.
use Rattle.std.specs.Prelude.{ℕ, ◌+◌, ◌-◌, ◌≡◌, List, [], ◌++◌, Bool, true, false, cond, length, take, drop, leb, Option, Some, None}
use Rattle.std.specs.Borrow.{MutBor}
use Rattle.std.specs.Fn.{Once, FnOnceReturnsAtMut}
use Rattle.time_text.specs.of_area.Answer.{Answer, gives, refuses}
use Rattle.time_text.specs.of_area.Area.{stored_answer, placing, laid}
use Rattle.time_text.specs.of_refusal.declared.Cause.TheVariants as cause

-- an area: how many bytes of it are in use, or 16 once a text didn't fit, and its contents
abbrev pub Filled : Type 0
Filled = Answer ℕ × List ℕ

abbrev pub filled : Option ℕ → List ℕ → Filled
filled k out = (stored_answer cause.OutputFull k, out)

abbrev pub is_full : Option ℕ → Bool
is_full (Some k) = false
is_full None = true

-- the area with a text put behind the bytes in use; nothing more is put once a text didn't fit
unfoldable pub behind : Filled → List ℕ → Filled
behind (gives k, out) f = (cond (leb (length f) (length out - k)) (gives (k + length f)) (refuses cause.OutputFull), take k out ++ laid (drop k out) f)
behind (refuses n, out) f = (refuses n, out)

-- a call puts f behind what is in use: s is the area before it, t the area behind it
pub record Puts (s : Filled) (f : List ℕ) (t : Filled) : Type 0 where
  pub same : t ≡ behind s f

-- what isn't in use
abbrev pub free_of : Option ℕ → List ℕ → List ℕ
free_of (Some k) out = drop k out
free_of None out = []

-- called with that area, `write` puts f at its front, or the part of f that fits
abbrev pub Writes : {F : Type 0} → Once F (MutBor (List ℕ) × Unit {0}) (Option ℕ × (MutBor (List ℕ) × Unit {0})) → F → List ℕ → List ℕ → Type 0
Writes g write area f =
    (n : Option ℕ) (left : List ℕ) → FnOnceReturnsAtMut g write area n left
    → (stored_answer cause.OutputFull n ≡ placing cause.OutputFull (length area) f) × (left ≡ laid area f)
