-- The 32 words of a record, docs/TREE.md. A record is the list of its words, or words that begin with it. Definitions only.
use Rattle.std.specs.Prelude.{ℕ, ◌+◌, ◌-◌, ◌*◌, ◌/◌, ◌%◌, ◌^◌, min, List, Bool, cond, get_or, set, take, drop, ltb, eqb}
use Rattle.tree_record.specs.Words as word
use Rattle.tree_record.specs.Kinds as kind

-- Word 0 is the kind, and 16 more in a dead record
abbrev pub kind_of : List ℕ → ℕ
kind_of r = get_or r word.kind 0

abbrev pub live : List ℕ → Bool
live r = ltb (kind_of r) kind.dead

-- Word 1 holds the presence bits: the value of bit k from 0 to 31, the word's last; a higher k counts as 31
abbrev pub mask_of : ℕ → ℕ
mask_of k = 2 ^ min k 31

-- the presence bit k is set
abbrev pub has_bit : ℕ → List ℕ → Bool
has_bit k r = eqb (get_or r word.bits 0 / mask_of k % 2) 1

-- the record with the presence bit k set
unfoldable pub marked : ℕ → List ℕ → List ℕ
marked k r = cond (has_bit k r) r (set r word.bits (get_or r word.bits 0 + mask_of k))

-- the record without it
unfoldable pub unmarked : ℕ → List ℕ → List ℕ
unmarked k r = cond (has_bit k r) (set r word.bits (get_or r word.bits 0 - mask_of k)) r

-- A text is its start and its length in the text area, at words o and o + 1
abbrev pub text_at : List ℕ → List ℕ → ℕ → List ℕ
text_at texts r o = take (get_or r (o + 1) 0) (drop (get_or r o 0) texts)

-- A count is its low word, then its high word
abbrev pub number_at : List ℕ → ℕ → ℕ
number_at r o = get_or r o 0 + get_or r (o + 1) 0 * 4294967296
