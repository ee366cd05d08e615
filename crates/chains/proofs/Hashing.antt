-- Bytes' hash, one after the other. Assumes nothing.
use Prim.Native.Nat.{ℕ, ◌+◌, ◌*◌, ◌/◌, ◌%◌, ◌≤◌, ◌<◌}
use mathlib.Core.Path.{◌≡◌, refl, sym, ap, ◌∙◌}
use mathlib.Core.List.{List, [], ◌∷◌, ◌++◌}
use native.Mathlib.Omega.{arith}
use native.Mathlib.Nat.{mod-lt}
use lib.ListN.{length, drop, get_or, drop_of_length-le}
use Rattle.area.proofs.Lists.{drop-next}
use Rattle.chains.specs.Chains.{hash_from, bucket_of}

-- the first i bytes are in
pub record Hashing (from : ℕ) (key : List ℕ) (h i : ℕ) : Type 0 where
  pub fits : i ≤ length key
  pub small : h < 4294967296
  pub left : hash_from from key ≡ hash_from h (drop i key)

pub hashing-start : {from : ℕ} (key : List ℕ) → from < 4294967296 → Hashing from key from 0
hashing-start key h = record { fits = omega arith; small = h; left = refl }

module _ {from : ℕ} {key : List ℕ} {h i : ℕ} (m : Hashing from key h i) where
  pub hashing-more : i < length key → Hashing from key ((h * 16777619 + h / 65536 + get_or key i 0) % 4294967296) (i + 1)
  unfolding hash_from
  hashing-more l = record { fits = omega arith; small = omega arith; left = m.left ∙ ap (hash_from h) (drop-next key i l) }

  pub hashing-done : length key ≤ i → h ≡ hash_from from key
  unfolding hash_from
  hashing-done l = sym (m.left ∙ ap (hash_from h) (drop_of_length-le key {i = i} l))

-- bytes behind bytes
pub hash-append : (h : ℕ) (s t : List ℕ) → hash_from h (s ++ t) ≡ hash_from (hash_from h s) t
unfolding hash_from
hash-append h [] t = refl
hash-append h (b ∷ s) t = hash-append ((h * 16777619 + h / 65536 + b) % 4294967296) s t

-- a hash stays in 32 bits, whatever bytes follow
pub hash-small : (h : ℕ) (s : List ℕ) → h < 4294967296 → hash_from h s < 4294967296
unfolding hash_from
hash-small h [] l = l
hash-small h (b ∷ s) l = hash-small ((h * 16777619 + h / 65536 + b) % 4294967296) s (omega arith)

-- a key's bucket is one of the m buckets
pub bucket-low : (m : ℕ) (key : List ℕ) → 0 < m → bucket_of m key < m
bucket-low m key h = mod-lt (hash_from 0 key) h
