-- Chains of keys that fall into one bucket. Definitions only.
use Rattle.std.specs.Prelude.{ℕ, zero, suc, ◌+◌, ◌*◌, ◌/◌, ◌%◌, ◌≤◌, ◌<◌, ◌≡◌, List, [], ◌∷◌, cond, length, get_or, set, eqb}

unfoldable pub hash_from : ℕ → List ℕ → ℕ
hash_from h [] = h
hash_from h (b ∷ bs) = hash_from ((h * 16777619 + h / 65536 + b) % 4294967296) bs

abbrev pub bucket_of : ℕ → List ℕ → ℕ
bucket_of m key = hash_from 0 key % m

-- one more than the last number below n that f puts into b, or 0
unfoldable pub last_in : (ℕ → ℕ) → ℕ → ℕ → ℕ
last_in f b zero = 0
last_in f b (suc i) = cond (eqb (f i) b) (suc i) (last_in f b i)

-- the words hold the chains of the numbers below n, which f puts into m buckets
pub record Chained (f : ℕ → ℕ) (n m : ℕ) (work : List ℕ) : Type 0 where
  pub some : 0 < m
  pub room : m + n ≤ length work
  pub heads : (b : ℕ) → b < m → get_or work b 0 ≡ last_in f b n
  pub links : (i : ℕ) → i < n → get_or work (m + i) 0 ≡ last_in f (f i) i

-- number i, in bucket b, is entered
abbrev pub linked : ℕ → ℕ → ℕ → List ℕ → List ℕ
linked m b i work = set (set work (m + i) (get_or work b 0)) b (i + 1)
