-- Where items stand in the areas of a table. Assumes nothing.
use Prim.Native.Nat.{ℕ, suc, ◌+◌, ◌*◌, ◌≤◌}
use mathlib.Core.Path.{◌≡◌, refl, sym, ap, ◌∙◌}
use mathlib.Core.List.{List, [], ◌∷◌, ◌++◌, append_assoc}
use mathlib.Core.Bool.{Bool, cond}
use native.Mathlib.Omega.{arith}
use lib.ListN.{length, get_or, take, drop, length-append, length-drop}
use lib.Dec.{eqb-suc-zero}
use lib.Seq.{drop-drop, drop-append_seam, take-append_seam}
use Rattle.write_report.specs.of_table.Table.{word}
use Rattle.write_report.specs.of_table.Event.{part}
use Rattle.write_report.proofs.of_table.Words.{word_at}
use Rattle.write_table.specs.Laid.{Item, entry, pair, place, entry_words, pair_words, event_words, attribute_words, laid_bytes}

-- behind i events, j attributes and b bytes stand these items
pub record Standing (events attributes source : List ℕ) (i j b : ℕ) (is : List Item) : Type 0 where
  pub entries : drop (i * 5) events ≡ event_words j b is
  pub pairs : drop (j * 5) attributes ≡ attribute_words b is
  pub bytes : drop b source ≡ laid_bytes is

-- ---- what stands behind
behind-entry : (l : List ℕ) (n : ℕ) {w : List ℕ} → drop (n * 5) l ≡ w → drop ((n + 1) * 5) l ≡ drop 5 w
behind-entry l n e = let z : (n + 1) * 5 ≡ n * 5 + 5 = omega arith in ap (λ (k : ℕ). drop k l) z ∙ sym (drop-drop 5 (n * 5) l) ∙ ap (drop 5) e

behind : (l : List ℕ) (n : ℕ) (p q : List ℕ) → drop n l ≡ p ++ q → drop (n + length p) l ≡ q
behind l n p q e = sym (drop-drop (length p) n l) ∙ ap (drop (length p)) e ∙ drop-append_seam p q

module _ {events attributes source : List ℕ} {i j b : ℕ} {is : List Item} where
  pub past-entry : {kind n : ℕ} {s : List ℕ} → Standing events attributes source i j b (entry kind s n ∷ is) → Standing events attributes source (i + 1) j (b + length s) is
  unfolding event_words attribute_words laid_bytes
  past-entry {kind} {n} {s} t = record { entries = behind-entry events i t.entries; pairs = t.pairs; bytes = behind source b s (laid_bytes is) t.bytes }

  pub past-pair : {key value : List ℕ} → Standing events attributes source i j b (pair key value ∷ is) → Standing events attributes source i (j + 1) (b + length (key ++ value)) is
  unfolding event_words attribute_words laid_bytes
  past-pair {key} {value} t = record { entries = t.entries; pairs = behind-entry attributes j t.pairs; bytes = behind source b (key ++ value) (laid_bytes is) t.bytes }

  -- ---- the words of the item that stands first
  pub entry-word : {kind n : ℕ} {s : List ℕ} → Standing events attributes source i j b (entry kind s n ∷ is) →
      (k : ℕ) → word events i k ≡ get_or (entry_words j b kind s n ++ event_words j (b + length s) is) k 0
  unfolding event_words
  entry-word t k = word_at events i k ∙ ap (λ (w : List ℕ). get_or w k 0) t.entries

  pub pair-word : {key value : List ℕ} → Standing events attributes source i j b (pair key value ∷ is) →
      (k : ℕ) → word attributes j k ≡ get_or (pair_words b key value ++ attribute_words (b + length (key ++ value)) is) k 0
  unfolding attribute_words
  pair-word t k = word_at attributes j k ∙ ap (λ (w : List ℕ). get_or w k 0) t.pairs

  -- ---- and its bytes
  pub entry-bytes : {kind n : ℕ} {s : List ℕ} → Standing events attributes source i j b (entry kind s n ∷ is) → drop b source ≡ s ++ laid_bytes is
  unfolding laid_bytes
  entry-bytes t = t.bytes

  pub key-bytes : {key value : List ℕ} → Standing events attributes source i j b (pair key value ∷ is) → drop b source ≡ key ++ (value ++ laid_bytes is)
  unfolding laid_bytes
  key-bytes {key} {value} t = t.bytes ∙ append_assoc key value (laid_bytes is)

  pub value-bytes : {key value : List ℕ} → Standing events attributes source i j b (pair key value ∷ is) → drop (b + length key) source ≡ value ++ laid_bytes is
  value-bytes {key} {value} t = behind source b key (value ++ laid_bytes is) (key-bytes t)

-- ---- a start without length is 0, and its bytes are read back all the same
pub place-some : (n at : ℕ) → place (suc n) at ≡ at
place-some n at = ap (λ (t : Bool). cond t 0 at) (eqb-suc-zero n)

module _ (source s q : List ℕ) (b : ℕ) (e : drop b source ≡ s ++ q) where
  pub part_placed : part source (place (length s) b) (length s) ≡ s
  part_placed = go s e
    where
      go : (s : List ℕ) → drop b source ≡ s ++ q → part source (place (length s) b) (length s) ≡ s
      go [] h = refl
      go (c ∷ s) h = ap (λ (n : ℕ). part source n (length (c ∷ s))) (place-some (length s) b) ∙ ap (take (length (c ∷ s))) h ∙ take-append_seam (c ∷ s) q

  pub part-within : place (length s) b + length s ≤ length source
  part-within = go s e
    where
      go : (s : List ℕ) → drop b source ≡ s ++ q → place (length s) b + length s ≤ length source
      go [] h = omega arith
      go (c ∷ s) h = omega (arith, place-some (length s) b, length-drop b source, ap length h, length-append (c ∷ s) q)
