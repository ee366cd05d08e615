-- What refusal 11 looks at, in its order (rules T6 to T12). Definitions only.
use Rattle.std.specs.Prelude.{ℕ, zero, suc, ◌+◌, ◌*◌, ◌/◌, ◌%◌, List, [], Bool, cond, ◌&&◌, ◌||◌, length, get_or, drop, leb, eqb, Result, Ok, Err}
use Rattle.table_parts.specs.of_area.Limits.{most_entries, most_bytes}
use Rattle.table_parts.specs.Parts.{within}
use Rattle.table.specs.Kinds as kind
use Rattle.table_parts.specs.of_refusal.Refusal.{nowhere, Outcome, accepted, refused}
use Rattle.table_parts.specs.of_refusal.declared.Cause.TheVariants as cause

-- word k of entry i, an event (rule T1) or an attribute (rule T2)
abbrev pub word : List ℕ → ℕ → ℕ → ℕ
word table i k = get_or table (i * 5 + k) 0

-- how many entries a table has
abbrev pub count_of : List ℕ → ℕ
count_of table = length table / 5

-- mark, key range, value range, of the entry at the front of `words` (rule T12)
unfoldable pub good_attribute : List ℕ → ℕ → Bool
good_attribute words size = leb (get_or words 0 0) 1 && (within size (get_or words 1 0) (get_or words 2 0) && within size (get_or words 3 0) (get_or words 4 0))

-- kind, byte range, attribute range, of the entry at the front of `words`, where there are n attributes (rules T9 to T11)
unfoldable pub good_shape : List ℕ → ℕ → ℕ → Bool
good_shape words n size =
    leb (get_or words 0 0) kind.indent && (within size (get_or words 1 0) (get_or words 2 0) && (eqb (get_or words 4 0) 0 || (leb (get_or words 0 0) kind.empty && within n (get_or words 3 0) (get_or words 4 0))))

-- of `count` attributes from number j on, the first that is bad, or the number behind them (rule T12)
unfoldable pub bad_from : List ℕ → ℕ → ℕ → ℕ → ℕ
bad_from attributes size zero j = j
bad_from attributes size (suc count) j = cond (good_attribute (drop (j * 5) attributes) size) (bad_from attributes size count (j + 1)) j

-- good, or where it isn't: the event and the attribute
abbrev pub Checked : Type 0
Checked = Result (Unit {0}) (ℕ × ℕ)

-- event i with its attributes: a bad attribute has its number, a bad kind or range concerns none (rules T12 and F10)
unfoldable pub check_event : List ℕ → List ℕ → ℕ → ℕ → Checked
check_event events attributes size i =
    let bad = bad_from attributes size (word events i 4) (word events i 3) in
    cond (good_shape (drop (i * 5) events) (count_of attributes) size)
    (cond (eqb bad (word events i 3 + word events i 4)) (Ok tt) (Err (i, bad)))
    (Err (i, nowhere))

abbrev pub and_then : Checked → Checked → Checked
and_then (Ok good) c = c
and_then (Err bad) c = Err bad

-- n events from number i on (rules T9 to T12)
unfoldable pub check_from : List ℕ → List ℕ → ℕ → ℕ → ℕ → Checked
check_from events attributes size zero i = Ok tt
check_from events attributes size (suc n) i = and_then (check_event events attributes size i) (check_from events attributes size n (i + 1))

-- whole entries, then the limits (rules T7 and T8)
unfoldable pub good_sizes : ℕ → ℕ → ℕ → Bool
good_sizes events attributes size =
    (eqb (events % 5) 0 && eqb (attributes % 5) 0) && (leb (events / 5) most_entries && (leb (attributes / 5) most_entries && leb size most_bytes))

unfoldable pub check_of : List ℕ → List ℕ → List ℕ → Checked
check_of events attributes source =
    cond (good_sizes (length events) (length attributes) (length source))
    (check_from events attributes (length source) (count_of events) 0)
    (Err (nowhere, nowhere))

-- 11 has an empty path (rule F10)
abbrev pub checked_answer : Checked → Outcome (Unit {0})
checked_answer (Ok good) = accepted tt
checked_answer (Err bad) = refused (record { cause = cause.BadTable; path = []; event = bad.0; attribute = bad.1 })

-- rule T6
abbrev pub table_of : List ℕ → List ℕ → List ℕ → Outcome (Unit {0})
table_of events attributes source = checked_answer (check_of events attributes source)
