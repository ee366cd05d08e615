-- What is known of an attribute's extra from the words behind the records. Definitions only.
use Rattle.std.specs.Prelude.{ℕ, ◌<◌, ◌≡◌, List, true, get_or, take, drop}
use Rattle.read_element.specs.of_names.Names.{same_bytes}
use Rattle.read_element.specs.inside.Held.{place_at}
use Rattle.read_marks.specs.inside.Marks.{stored_for, New, Marks}
use Rattle.read_places.specs.inside.Stands.{stored_key}

-- no word becomes 1
abbrev pub Quiet : List ℕ → List ℕ → Type 0
Quiet before after = (i : ℕ) → get_or after i 0 ≡ 1 → get_or before i 0 ≡ 1

-- the words behind the first k mark attributes that are new, the key of such a one is no extra's, and an extra with a key is the first with it
pub record Told (attributes source : List ℕ) (first j k extras : ℕ) (own text : List ℕ) : Type 0 where
  pub marks : Marks attributes source first (drop k own)
  pub new : New attributes source first j → place_at (take k own) text (stored_for attributes source j) extras 0 ≡ extras
  pub place : (key : List ℕ) (i : ℕ) → i < extras → same_bytes (stored_key (take k own) text i) key ≡ true → place_at (take k own) text key extras 0 ≡ i
