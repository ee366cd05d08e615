-- A store into a record: one field changed. Definitions only.
use Rattle.std.specs.Prelude.{ℕ, zero, suc, ◌+◌, ◌^◌, List, [], ◌∷◌, ◌++◌, cond, length, get_or, set, take, drop}
use Rattle.schema.specs.Schema.{flag, unkept, Row, inner}
use Rattle.schema.specs.Records.{Span, Of, Held, Fields, is_set}

abbrev pub row_at : List Row → ℕ → Row
row_at [] i = inner flag 32 unkept
row_at (x ∷ xs) zero = x
row_at (x ∷ xs) (suc i) = row_at xs i

-- what stands in row i
abbrev pub SlotOf : List Row → ℕ → Type 0
SlotOf xs i = Held (row_at xs i).presence (Of Span (row_at xs i).form)

-- the fields with another value in row i
abbrev pub put_at : (xs : List Row) (i : ℕ) → SlotOf xs i → Fields Span xs → Fields Span xs
put_at [] i v f = f
put_at (x ∷ xs) zero v f = (v, f.1)
put_at (x ∷ xs) (suc i) v f = (f.0, put_at xs i v f.1)

-- a record with the words ws from word o on
abbrev pub splice : ℕ → List ℕ → List ℕ → List ℕ
splice o ws r = take o r ++ (ws ++ drop (o + length ws) r)

-- a record with the presence bit k
abbrev pub with_bit : ℕ → List ℕ → List ℕ
with_bit k r = cond (is_set k r) r (set r 1 (get_or r 1 0 + 2 ^ k))
