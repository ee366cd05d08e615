-- Keys of attributes, one after the other. Assumes nothing.
use Prim.Native.Nat.{ℕ, ◌+◌, ◌-◌, ◌*◌, ◌≤◌, ◌<◌}
use mathlib.Core.Path.{◌≡◌, refl, sym, ap, ◌∙◌}
use mathlib.Core.Bool.{Bool, true, false, not, ◌&&◌, ◌||◌}
use mathlib.Core.List.{List}
use lib.ListN.{length, get_or, take, drop}
use Rattle.read_element.specs.of_names.Names.{same_bytes}
use Rattle.read_element.specs.of_table.Event.{Attribute, part, key_at, attributes_from}
use Rattle.read_element.proofs.of_table.Words.{part_at}
use Rattle.read_element.proofs.of_table.Resolving.{attributes-end, attributes-next}
use Rattle.read_element.proofs.of_area.Parts.{rest_part}
use Rattle.read_element.specs.Attributes.{among}
use Rattle.read_element.specs.inside.Held.{keys_of}

-- the key of attribute i is that of the part `&attributes[i * 5..]`
pub key-lent : (attributes source : List ℕ) (i : ℕ)
    → part source (get_or (take (length attributes - i * 5) (drop (i * 5) attributes)) 1 0) (get_or (take (length attributes - i * 5) (drop (i * 5) attributes)) 2 0) ≡ key_at attributes source i
key-lent attributes source i =
    ap (λ (l : List ℕ). part source (get_or l 1 0) (get_or l 2 0)) (rest_part attributes (i * 5)) ∙ sym (part_at attributes i source 1 2)

-- the attributes from `first` to before i have another key
pub record Seeking (attributes source : List ℕ) (first j : ℕ) (key : List ℕ) (i : ℕ) : Type 0 where
  pub same : among key (keys_of (attributes_from attributes source (j - first) first)) ≡ among key (keys_of (attributes_from attributes source (j - i) i))

pub seeking-start : (attributes source : List ℕ) (first j : ℕ) (key : List ℕ) → Seeking attributes source first j key first
seeking-start attributes source first j key = record { same = refl }

module _ {attributes source : List ℕ} {first j : ℕ} {key : List ℕ} {i : ℕ} (s : Seeking attributes source first j key i) where
  turn : i < j → among key (keys_of (attributes_from attributes source (j - first) first))
      ≡ (same_bytes (key_at attributes source i) key || among key (keys_of (attributes_from attributes source (j - (i + 1)) (i + 1))))
  turn h = s.same ∙ ap (λ (xs : List Attribute). among key (keys_of xs)) (attributes-next attributes source j i h)

  module _ {r : Bool}
      (e : r ≡ same_bytes (part source (get_or (take (length attributes - i * 5) (drop (i * 5) attributes)) 1 0) (get_or (take (length attributes - i * 5) (drop (i * 5) attributes)) 2 0)) key) where
    told : {t : Bool} → r ≡ t → same_bytes (key_at attributes source i) key ≡ t
    told q = ap (λ (l : List ℕ). same_bytes l key) (sym (key-lent attributes source i)) ∙ sym e ∙ q

    pub seeking-hit : i < j → r ≡ true → true ≡ among key (keys_of (attributes_from attributes source (j - first) first))
    seeking-hit h q = sym (turn h ∙ ap (λ (t : Bool). t || among key (keys_of (attributes_from attributes source (j - (i + 1)) (i + 1)))) (told q))

    pub seeking-more : i < j → r ≡ false → Seeking attributes source first j key (i + 1)
    seeking-more h q = record { same = turn h ∙ ap (λ (t : Bool). t || among key (keys_of (attributes_from attributes source (j - (i + 1)) (i + 1)))) (told q) }

  pub seeking-done : j ≤ i → false ≡ among key (keys_of (attributes_from attributes source (j - first) first))
  seeking-done h = sym (s.same ∙ ap (λ (xs : List Attribute). among key (keys_of xs)) (attributes-end attributes source j i h))

-- bytes of the words that were read
pub part-told : (source : List ℕ) {a b w v : ℕ} {l : List ℕ} → l ≡ part source a b → a ≡ w → b ≡ v → part source w v ≡ l
part-told source {a} {b} {w} {v} e p q = sym (e ∙ ap (λ (n : ℕ). part source n b) p ∙ ap (part source w) q)

-- a key that is searched for where it isn't known to be free of repeats
pub searched : (free : Bool) (ks : List (List ℕ)) {r : Bool} {key x : List ℕ} → free ≡ false → r ≡ among key ks → x ≡ key → r ≡ (not free && among x ks)
searched free ks {r} {key} {x} f e q = e ∙ ap (λ (l : List ℕ). among l ks) (sym q) ∙ ap (λ (b : Bool). not b && among x ks) (sym f)
