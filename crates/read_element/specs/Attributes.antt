-- An element's record with what its attributes say, its extras and its texts (rules A2, A3 and A8 to A11). Definitions only.
use Rattle.std.specs.Prelude.{ℕ, zero, suc, ◌+◌, List, [], ◌∷◌, ◌++◌, Bool, true, false, cond, not, ◌&&◌, ◌||◌, length, leb}
use Rattle.integer.specs.of_names.Names.{same_bytes}
use Rattle.integer.specs.of_names.Keys.{key_of}
use Rattle.integer.specs.of_refusal.Refusal.{Outcome, accepted}
use Rattle.table.specs.Event.{Attribute}
use Rattle.integer.specs.Integer.{integer_of}
use Rattle.time.specs.Time.{time_of}
use Rattle.tree_put.specs.of_timestamp.Timestamp.{timestamp_of}
use Rattle.tree_put.specs.of_uuids.Uuid.{uuid_of}
use Rattle.text.specs.Value.{value_text, checked_of}
use Rattle.read_element.specs.Outcome.{◌>>=◌, Place, there, need, within, Rooms, fits}
use Rattle.tree_put.specs.of_tree_record.Record.{has_bit, marked, text_at}
use Rattle.tree_put.specs.Put.{blank, put_pair, put_text, put_count_of, put_uuid, put_moment, put_time}
use Rattle.read_keys.specs.declared.Role.{Role}
use Rattle.read_keys.specs.declared.Role.TheVariants as role
use Rattle.read_keys.specs.Roles.{role_of}
use Rattle.integer.specs.of_refusal.declared.Cause.TheVariants as cause

-- what an element's attributes have given so far:
-- its record, the records of its extras, and the text area's texts
pub record Given : Type 0 where
  pub main : List ℕ
  pub extras : List (List ℕ)
  pub texts : List ℕ

abbrev pub with_main : Given → List ℕ → Given
with_main g r = record { main = r; extras = g.extras; texts = g.texts }

-- v goes behind the texts that are there (rule M4); where it doesn't fit, 13 has the place that a bad value has (rule F9)
abbrev pub storing : {A : Type 0} → Rooms → Place → List ℕ → List ℕ → (List ℕ → Outcome A) → Outcome A
storing rooms p texts v next = need (fits rooms.text (length texts + length v)) p cause.TextFull (next (texts ++ v))

-- put at word o with bit k (rule X1)
unfoldable pub read_text : Rooms → Place → ℕ → ℕ → List ℕ → Given → Outcome Given
read_text rooms p o k value g =
    there p (checked_of value) >>= λ _.
    storing rooms p g.texts (value_text value) λ texts.
    accepted (record { main = put_text o k (length g.texts) (length (value_text value)) g.main; extras = g.extras; texts = texts })

-- the place of the first extra whose stored key is `key`; where there is none, the number of extras (rule A8)
abbrev pub place_of : List ℕ → List ℕ → List (List ℕ) → ℕ
place_of texts key [] = 0
place_of texts key (r ∷ rs) = cond (same_bytes (text_at texts r 2) key) 0 (suc (place_of texts key rs))

-- the records with f applied to the one at place i
abbrev pub changed : ℕ → (List ℕ → List ℕ) → List (List ℕ) → List (List ℕ)
changed i f [] = []
changed zero f (r ∷ rs) = f r ∷ rs
changed (suc i) f (r ∷ rs) = r ∷ changed i f rs

-- a suite's extra is 13, a case's 14
abbrev pub extra_kind : ℕ → ℕ
extra_kind kind = 11 + kind

-- the value of extra i is replaced (rule A8); its key isn't stored again (rule M5)
unfoldable pub old_extra : Rooms → Place → List ℕ → ℕ → Given → Outcome Given
old_extra rooms p value i g =
    storing rooms p g.texts value λ texts.
    accepted (record { main = g.main; extras = changed i (put_pair 4 (length g.texts) (length value)) g.extras; texts = texts })

-- a record (rule M2), then room for key and value, in the order of rule A9; `used` records stand before the element's
unfoldable pub new_extra : Rooms → Place → ℕ → ℕ → List ℕ → List ℕ → Given → Outcome Given
new_extra rooms p used kind key value g =
    need (fits rooms.records (used + 1 + length g.extras + 1)) p cause.RecordsSpent
    (storing rooms p g.texts key λ keyed.
    storing rooms p keyed value λ texts.
    accepted (record {
      main = g.main;
      extras = g.extras ++ (put_text 4 1 (length keyed) (length value) (put_text 2 0 (length g.texts) (length key) (blank (extra_kind kind))) ∷ []);
      texts = texts;
    }))

-- its place is looked for by the cleaned key (rule A8), behind the tests of key and value (rule A9); p has no Attribute (rule A11)
unfoldable pub read_extra : Rooms → Place → ℕ → ℕ → Attribute → Given → Outcome Given
read_extra rooms p used kind x g =
    there p (checked_of x.key) >>= λ _.
    there p (checked_of x.value) >>= λ _.
    (let i = place_of g.texts (value_text x.key) g.extras in
    cond (leb (length g.extras) i)
    (new_extra rooms p used kind (value_text x.key) (value_text x.value) g)
    (old_extra rooms p (value_text x.value) i g))

abbrev pub keep : Bool → List ℕ → List ℕ → List ℕ
keep true new old = new
keep false new old = old

-- one attribute by its role; p is the element's place with the attribute's number, and a known key adds the Attribute (rule A11)
unfoldable pub by_role : Rooms → Place → ℕ → ℕ → ℕ → Role → Attribute → Given → Outcome Given
by_role rooms p used kind key (role.Text o k) x g = read_text rooms (within p key) o k x.value g
by_role rooms p used kind key (role.Count o) x g = there (within p key) (integer_of x.value) >>= λ n. accepted (with_main g (put_count_of o n g.main))
by_role rooms p used kind key (role.Number o k) x g = there (within p key) (integer_of x.value) >>= λ n. accepted (with_main g (marked k (put_count_of o n g.main)))
by_role rooms p used kind key role.Uuid x g = there (within p key) (uuid_of x.value) >>= λ w. accepted (with_main g (put_uuid w g.main))
by_role rooms p used kind key (role.Timestamp kept) x g =
    there (within p key) (timestamp_of x.value) >>= λ m. accepted (with_main g (keep kept (put_moment m g.main) g.main))
by_role rooms p used kind key (role.Time kept) x g =
    there (within p key) (time_of x.value) >>= λ t. accepted (with_main g (keep kept (put_time t g.main) g.main))
by_role rooms p used kind key role.Extra x g = read_extra rooms p used kind x g
by_role rooms p used kind key role.Ignored x g = accepted g

-- byte for byte one of those before (rule A3)
abbrev pub among : List ℕ → List (List ℕ) → Bool
among key [] = false
among key (k ∷ ks) = same_bytes k key || among key ks

-- with the attribute's number in the table (rule F6)
abbrev pub numbered : Place → ℕ → Place
numbered p j = record { path = p.path; event = p.event; attribute = j }

-- each is tested for its mark (rule A2) and for a repeated key (rule A3), and then read; j is the number of the first in the table
unfoldable pub read_attributes : Rooms → Place → ℕ → ℕ → List (List ℕ) → ℕ → List Attribute → Given → Outcome Given
read_attributes rooms p used kind before j [] g = accepted g
read_attributes rooms p used kind before j (x ∷ xs) g =
    need x.good (numbered p j) cause.FaultyAttribute
    (need (not (among x.key before)) (numbered p j) cause.RepeatedKey
    (by_role rooms (numbered p j) used kind (key_of x.key) (role_of kind (key_of x.key)) x g)) >>= λ h.
    read_attributes rooms p used kind (before ++ (x.key ∷ [])) (j + 1) xs h

-- what suite, case and property may not lack (rule A10); p has no attribute number
unfoldable pub complete : Place → ℕ → Given → Outcome Given
complete p kind g =
    need (not (leb 2 kind && leb kind 5) || has_bit 0 g.main) (within p 1) cause.MissingAttribute
    (need (not (leb 4 kind && leb kind 5) || has_bit 1 g.main) (within p 14) cause.MissingAttribute (accepted g))

-- all records and texts behind an element; its own records stand behind the others
pub record Grown : Type 0 where
  pub records : List (List ℕ)
  pub texts : List ℕ

-- an element of a record's kind: its record is taken before its attributes (rule M2), and 12 has its path (rule F9)
unfoldable pub read_element : Rooms → Place → ℕ → ℕ → List Attribute → List (List ℕ) → List ℕ → Outcome Grown
read_element rooms p kind j xs records texts =
    need (fits rooms.records (length records + 1)) p cause.RecordsSpent
    (read_attributes rooms p (length records) kind [] j xs (record { main = blank kind; extras = []; texts = texts })) >>= λ g.
    complete p kind g >>= λ h.
    accepted (record { records = records ++ (h.main ∷ h.extras); texts = h.texts })
