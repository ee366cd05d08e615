-- An unknown element is skipped (rules R11 and R19). Definitions only.
use Rattle.std.specs.Prelude.{ℕ, zero, suc, ◌+◌, ◌-◌, List, [], ◌∷◌, Bool, cond, ◌&&◌, eqb, ltb, Result, Ok, Err}
use Rattle.names.specs.Names.{same_bytes}
use Rattle.table.specs.Kinds as kind
use Rattle.table.specs.Event.{Event, Tag, Start, Empty, End, Piece, Eof, Fault}
use Rattle.names.specs.of_refusal.declared.Cause.TheVariants as cause
use Rattle.names.specs.of_refusal.declared.Cause.{Cause}

-- the number of the event behind the skip, or of the one that refusal 1 names, with its cause
pub data Skip : Type 0 where
  next : ℕ → Skip
  broken_at : Cause → ℕ → Skip

-- behind an End of the name: out of the element, or one less deep
abbrev pub up_from : ℕ → Skip → (ℕ → Skip) → Skip
up_from zero out on = out
up_from (suc depth) out on = on depth

-- on to the End of that name at depth 0 (rule R11); a Fault is refused, and so is an Eof or the table's end (rule R19). Event i is
-- the first of those given.
unfoldable pub skip_of : List ℕ → ℕ → ℕ → List Event → Skip
skip_of name depth i [] = broken_at cause.EofInSkip i
skip_of name depth i (Tag Start tag j xs ∷ es) = skip_of name (cond (same_bytes tag name) (suc depth) depth) (i + 1) es
skip_of name depth i (Tag Empty tag j xs ∷ es) = skip_of name depth (i + 1) es
skip_of name depth i (Tag End tag j xs ∷ es) = cond (same_bytes tag name) (up_from depth (next (i + 1)) λ d. skip_of name d (i + 1) es) (skip_of name depth (i + 1) es)
skip_of name depth i (Piece k bytes ∷ es) = skip_of name depth (i + 1) es
skip_of name depth i (Eof ∷ es) = broken_at cause.EofInSkip i
skip_of name depth i (Fault ∷ es) = broken_at cause.XmlFault i

-- ---- the code's words
abbrev pub skip_answer : Result ℕ (Cause × ℕ) → Skip
skip_answer (Ok i) = next i
skip_answer (Err broken) = broken_at broken.0 broken.1

-- the depth behind an event of a kind that does not end the skip; `own`: it has the skipped name
abbrev pub depth_after : ℕ → Bool → ℕ → ℕ
depth_after k own depth = cond (own && eqb k kind.start) (depth + 1) (cond ((own && eqb k kind.end) && ltb 0 depth) (depth - 1) depth)
