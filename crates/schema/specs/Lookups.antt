-- Rows of a table by what asks for them: words, bits, names of keys, the order of writing. Definitions only.
use Rattle.std.specs.Prelude.{ℕ, zero, suc, ◌+◌, List, [], ◌∷◌, ◌++◌, map, Bool, true, false, cond, ◌&&◌, ◌||◌, eqb}
use Rattle.timestamp.specs.of_names.Keys as key
use Rattle.schema.specs.Schema.{Form, text, number, time, timestamp, uuid, flag, Presence, always, must, may, unkept, Row}

-- the name of the key with a code
abbrev pub text_in_of : List key.Row → ℕ → List ℕ
text_in_of [] c = []
text_in_of (r ∷ rs) c = cond (eqb r.code c) r.text (text_in_of rs c)

abbrev pub words_in : List Row → List ℕ
words_in xs = map (λ (x : Row). x.word) xs

-- the presence bit, or what stands for none
abbrev pub bit_or : ℕ → Presence → ℕ
bit_or other always = other
bit_or other (must k) = k
bit_or other (may k) = k
bit_or other unkept = other

abbrev pub bits_by : ℕ → List Row → List ℕ
bits_by other xs = map (λ (x : Row). bit_or other x.presence) xs

abbrev pub is_among : ℕ → List ℕ → Bool
is_among n [] = false
is_among n (m ∷ ms) = eqb m n || is_among n ms

-- the presence bit of what may be missing
abbrev pub may_or : ℕ → Presence → ℕ
may_or other always = other
may_or other (must k) = other
may_or other (may k) = k
may_or other unkept = other

-- there is a row with this key, word and bit that may be missing; no bit is 32
abbrev pub has_row : List Row → ℕ → ℕ → ℕ → Bool
has_row [] k w b = false
has_row (x ∷ xs) k w b = (eqb x.key k && (eqb x.word w && eqb (may_or 32 x.presence) b)) || has_row xs k w b

-- ---- the order of writing
-- the rows that are written as attributes have the places from 1 to this
abbrev pub places_in : List Row → ℕ
places_in [] = 0
places_in (x ∷ xs) = cond (eqb x.place 0) (places_in xs) (suc (places_in xs))

abbrev pub rows_at : ℕ → List Row → List Row
rows_at n [] = []
rows_at n (x ∷ xs) = cond (eqb x.place n) (x ∷ rows_at n xs) (rows_at n xs)

-- m places from n on
abbrev pub rows_from : ℕ → ℕ → List Row → List Row
rows_from zero n xs = []
rows_from (suc m) n xs = rows_at n xs ++ rows_from m (n + 1) xs

abbrev pub in_order_of : List Row → List Row
in_order_of xs = rows_from (places_in xs) 1 xs

-- the names of an element's own keys, as they are written
abbrev pub names_in : List Row → List (List ℕ)
names_in xs = map (λ (x : Row). text_in_of key.table x.key) (in_order_of xs)

-- the word of a text or number is looked up by its key's code; other forms have their own
abbrev pub is_looked_up : Form → Bool
is_looked_up text = true
is_looked_up number = true
is_looked_up time = false
is_looked_up timestamp = false
is_looked_up uuid = false
is_looked_up flag = false

abbrev pub words_agree : (ℕ → ℕ) → List ℕ → List Row → Bool
words_agree word_of [] [] = true
words_agree word_of [] (x ∷ xs) = false
words_agree word_of (c ∷ cs) [] = false
words_agree word_of (c ∷ cs) (x ∷ xs) = cond (is_looked_up x.form) (eqb (word_of c) x.word) true && words_agree word_of cs xs
