-- What the areas hold while an element is read, and how answers are those of the definitions. Definitions only.
use Rattle.std.specs.Prelude.{ℕ, ◌+◌, ◌*◌, ◌≤◌, zero, suc, ◌≡◌, List, [], ◌∷◌, ◌++◌, cond, length, drop, get_or, set, leb}
use Rattle.integer.specs.of_area.Answer.{Answer, gives, refuses}
use Rattle.integer.specs.of_area.Area.{zeros}
use Rattle.integer.specs.of_refusal.Refusal.{Refused, Outcome}
use Rattle.table.specs.Event.{Attribute}
use Rattle.read_element.specs.Outcome.{Place, Rooms, fits}
use Rattle.integer.specs.of_names.Names.{same_bytes}
use Rattle.tree_put.specs.Put.{put_text}
use Rattle.integer.specs.of_utf8.Characters.{joined}
use Rattle.tree_put.specs.of_tree_record.Record.{text_at}
use Rattle.read_element.specs.Attributes.{Given, place_of, old_extra, new_extra}
use Rattle.integer.specs.of_refusal.declared.Cause.{Cause}
use Rattle.read_element.specs.inside.Refines.{Refines}

-- the keys of attributes
abbrev pub keys_of : List Attribute → List (List ℕ)
keys_of [] = []
keys_of (x ∷ xs) = x.key ∷ keys_of xs

-- a value that is no text leaves the end of the texts where it is
abbrev pub unmoved : {A : Type 0} → ℕ → Answer A → Answer ℕ
unmoved fill (gives a) = gives fill
unmoved fill (refuses why) = refuses why

-- a text moves it by its length
abbrev pub moved : ℕ → Answer ℕ → Answer ℕ
moved fill (gives n) = gives (fill + n)
moved fill (refuses why) = refuses why

-- what is given is put, and a refusal changes nothing
abbrev pub putting : {A : Type 0} → (A → List ℕ → List ℕ) → Answer A → List ℕ → List ℕ
putting f (gives a) r = f a r
putting f (refuses why) r = r

-- of n extras from number i on, whose records stand behind the element's, the first with this key, or the number behind them
unfoldable pub place_at : List ℕ → List ℕ → List ℕ → ℕ → ℕ → ℕ
place_at own text key zero i = i
place_at own text key (suc n) i = cond (same_bytes (text_at text (drop (i * 32 + 32) own) 2) key) i (place_at own text key n (i + 1))

-- an extra's words
abbrev pub extra_words : ℕ → ℕ → ℕ → ℕ → ℕ → List ℕ → List ℕ
extra_words kind start n start' n' r = put_text 4 1 start' n' (put_text 2 0 start n (set r 0 kind))

-- an extra whose key and value are good
unfoldable pub put_extra : Rooms → Place → ℕ → ℕ → List ℕ → List ℕ → Given → Outcome Given
put_extra rooms p used kind key value g =
    let i = place_of g.texts key g.extras in
    cond (leb (length g.extras) i) (new_extra rooms p used kind key value g) (old_extra rooms p value i g)

-- records of 32 words, whose keys lie in n bytes of texts
abbrev pub Keyed : ℕ → List (List ℕ) → Type 0
Keyed n [] = Unit {0}
Keyed n (r ∷ rs) = (length r ≡ 32) × ((get_or r 2 0 + get_or r 3 0 ≤ n) × Keyed n rs)

-- the areas hold what was given: behind it they are zero
pub record Held (own text : List ℕ) (extras fill : ℕ) (g : Given) : Type 0 where
  pub room : ℕ
  pub left : ℕ
  pub records : own ≡ g.main ++ (joined g.extras ++ zeros room)
  pub main-words : length g.main ≡ 32
  pub keyed : Keyed (length g.texts) g.extras
  pub count : extras ≡ length g.extras
  pub stored : text ≡ g.texts ++ zeros left
  pub filled : fill ≡ length g.texts

-- the rooms are those of areas of so many words and bytes, where `used` records stand elsewhere
pub record Roomy (rooms : Rooms) (used own text : ℕ) : Type 0 where
  pub for-records : (n : ℕ) → fits rooms.records (used + n) ≡ leb (n * 32) own
  pub for-text : (n : ℕ) → fits rooms.text n ≡ leb n text

-- the refusal at a place
abbrev pub refused_by : Place → Cause → Refused
refused_by p why = record { cause = why; path = p.path; event = p.event; attribute = p.attribute }

-- an answer and the areas are those of an outcome
abbrev pub Meets : Place → List ℕ → List ℕ → Outcome Given → Answer (ℕ × ℕ) → Type 0
Meets p own text = Refines gives refuses refused_by p (λ g c. Held own text c.0 c.1 g)
