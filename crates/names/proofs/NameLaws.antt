-- What two parts that are the same, and a name's code, tell. Assumes nothing.
use Prim.Native.Nat.{ℕ, zero, suc, ◌+◌, ◌-◌, ◌≤◌, ◌<◌}
use mathlib.Core.Path.{◌≡◌, refl, sym}
use mathlib.Core.List.{List, [], ◌∷◌, map}
use mathlib.Core.Bool.{Bool, true, false, cond, not, ◌&&◌, and-eq-true_iff}
use native.Mathlib.Omega.{arith}
use borrow.Author.Tests.{eq-eqb, eqb-true, eqb-false}
use lib.Dec.{leb, eqb}
use lib.ListN.{length, get_or}
use Rattle.names.specs.Names.{same_bytes, code_from, code_in}
use Rattle.names.specs.Tags as tag
use Rattle.names.specs.Tags.{tags, tag_of}
use Rattle.names.specs.Keys as key
use Rattle.names.specs.Keys.{keys, key_of}

-- a name compared with itself is the same
pub same_refl : (a : List ℕ) → same_bytes a a ≡ true
unfolding same_bytes
same_refl [] = refl
same_refl (x ∷ xs) = rw (eq-eqb x x refl) (same_refl xs)

-- the code's comparison of two names tells that they are equal
pub same_true : (a b : List ℕ) → same_bytes a b ≡ true → a ≡ b
unfolding same_bytes
same_true [] [] e = refl
same_true [] (y ∷ ys) e = let z : ◌≡◌ {A = ℕ} 0 1 = cc in absurd (omega arith)
same_true (x ∷ xs) [] e = let z : ◌≡◌ {A = ℕ} 0 1 = cc in absurd (omega arith)
same_true (x ∷ xs) (y ∷ ys) e = go (eqb x y) refl e (same_true xs ys)
  where
    go : (t : Bool) → eqb x y ≡ t → cond t (same_bytes xs ys) false ≡ true → (same_bytes xs ys ≡ true → xs ≡ ys) → x ∷ xs ≡ y ∷ ys
    go true q p r = let h : x ≡ y = eqb-true x y q in let l : xs ≡ ys = r p in cc
    go false q p r = let z : ◌≡◌ {A = ℕ} 0 1 = cc in absurd (omega arith)

-- s has the code c in names, counted from n
record Coded (n : ℕ) (names : List (List ℕ)) (s : List ℕ) (c : ℕ) : Type 0 where
  pub least : n ≤ c
  pub most : c < n + length names
  pub name : s ≡ get_or names (c - n) []

coded : (n : ℕ) (names : List (List ℕ)) (s : List ℕ) (c : ℕ) → code_from n names s ≡ c → 0 < c → Coded n names s c
unfolding code_from
coded n [] s c e h = absurd (omega arith)
coded n (x ∷ xs) s c e h = go (same_bytes x s) refl e (λ p. coded (suc n) xs s c p h)
  where
    go : (t : Bool) → same_bytes x s ≡ t → cond t n (code_from (suc n) xs s) ≡ c → (code_from (suc n) xs s ≡ c → Coded (suc n) xs s c) → Coded n (x ∷ xs) s c
    go true q p r =
        let z : c - n ≡ 0 = omega arith in
        record { least = omega arith; most = omega arith; name = rw z (sym (same_true x s q)) }
    go false q p r =
        let i : Coded (suc n) xs s c = r p in
        let z : c - n ≡ suc (c - suc n) = omega (arith, i.least) in
        record { least = omega (arith, i.least); most = omega (arith, i.most); name = rw z i.name }

-- a code tells the name
pub code-name : (names : List (List ℕ)) (s : List ℕ) (k : ℕ) → code_in names s ≡ suc k → (k < length names) × (s ≡ get_or names k [])
code-name names s k e =
    let i : Coded 1 names s (suc k) = coded 1 names s (suc k) e (omega arith) in
    let z : suc k - 1 ≡ k = omega arith in (omega (arith, i.most), rw z at i.name)

-- a name's code is at most the number of names, 0 where it is none of them
pub code-most : (names : List (List ℕ)) (s : List ℕ) → code_in names s ≤ length names
code-most names s = go (code_in names s) refl
  where
    go : (c : ℕ) → code_in names s ≡ c → c ≤ length names
    go zero e = omega arith
    go (suc k) e = omega (arith, (code-name names s k e).0)

none_from : (n : ℕ) (names : List (List ℕ)) (s : List ℕ) → 0 < n → code_from n names s ≡ 0 → (k : ℕ) → k < length names → get_or names k [] ≡ s → ⊥
unfolding code_from
none_from n [] s p e k h q = omega arith
none_from n (x ∷ xs) s p e k h q = go (same_bytes x s) refl e k h q (none_from (suc n) xs s (omega arith))
  where
    go : (t : Bool) → same_bytes x s ≡ t → cond t n (code_from (suc n) xs s) ≡ 0 → (k : ℕ) → k < suc (length xs)
        → get_or (x ∷ xs) k [] ≡ s → (code_from (suc n) xs s ≡ 0 → (k : ℕ) → k < length xs → get_or xs k [] ≡ s → ⊥) → ⊥
    go true d e k h q r = omega arith
    go false d e zero h q r =
        let b : same_bytes x s ≡ true = rw q (same_refl s) in
        let z : ◌≡◌ {A = ℕ} 0 1 = cc in omega arith
    go false d e (suc k) h q r = r e k (omega arith) q

-- what has no code is none of the names
pub code-none : (names : List (List ℕ)) (s : List ℕ) → code_in names s ≡ 0 → (k : ℕ) → k < length names → s ≡ get_or names k [] → ⊥
code-none names s e k h q = none_from 1 names s (omega arith) e k h (sym q)

-- each name of xs has as its code in names its place in xs, counted from n
abbrev pub own : List (List ℕ) → ℕ → List (List ℕ) → Bool
own names n [] = true
own names n (x ∷ xs) = cond (eqb (code_in names x) n) (own names (suc n) xs) false

own_at : (names : List (List ℕ)) (n : ℕ) (xs : List (List ℕ)) → own names n xs ≡ true → (k : ℕ) → k < length xs → code_in names (get_or xs k []) ≡ n + k
own_at names n [] e k h = absurd (omega arith)
own_at names n (x ∷ xs) e k h = go (eqb (code_in names x) n) refl e k h (own_at names (suc n) xs)
  where
    go : (t : Bool) → eqb (code_in names x) n ≡ t → cond t (own names (suc n) xs) false ≡ true → (k : ℕ) → k < suc (length xs)
        → (own names (suc n) xs ≡ true → (k : ℕ) → k < length xs → code_in names (get_or xs k []) ≡ suc n + k) → code_in names (get_or (x ∷ xs) k []) ≡ n + k
    go true q p zero h r = omega (arith, eqb-true (code_in names x) n q)
    go true q p (suc k) h r = omega (arith, r p k (omega arith))
    go false q p k h r = let z : ◌≡◌ {A = ℕ} 0 1 = cc in absurd (omega arith)

-- the table's test, and its rule: each name has its own code
pub own_code : (names : List (List ℕ)) → own names 1 names ≡ true → (k : ℕ) → k < length names → code_in names (get_or names k []) ≡ suc k
own_code names e k h = omega (arith, own_at names 1 names e k h)

pub tag-count : length tags ≡ 15
unfolding tags
tag-count = refl

pub key-count : length keys ≡ 15
unfolding keys
key-count = refl

own-tags : own tags 1 tags ≡ true
unfolding tags code_from same_bytes
own-tags = refl

own_keys : own keys 1 keys ≡ true
unfolding keys code_from same_bytes
own_keys = refl

pub tag-code : (k : ℕ) → k < 15 → tag_of (get_or tags k []) ≡ suc k
tag-code k h = own_code tags own-tags k (rw tag-count h)

pub key-code : (k : ℕ) → k < 15 → key_of (get_or keys k []) ≡ suc k
key-code k h = own_code keys own_keys k (rw key-count h)

-- the codes by name are those of the tables
pub tag-codes : map tag_of tags ≡ tag.testsuites ∷ tag.testsuite ∷ tag.testcase ∷ tag.properties ∷ tag.property ∷ tag.failure ∷ tag.error
    ∷ tag.skipped ∷ tag.flaky_failure ∷ tag.flaky_error ∷ tag.rerun_failure ∷ tag.rerun_error ∷ tag.stack_trace ∷ tag.system-out ∷ tag.system-err ∷ []
unfolding tags code_from same_bytes
tag-codes = refl

pub key-codes : map key_of keys ≡ map (λ (r : key.Row). r.code) key.table
unfolding keys code_from same_bytes
key-codes = refl

-- ---- the public codes are those from 1 to 11
module _ (f g : ℕ → Bool) where
  -- they agree on the n numbers from k on
  agreeing : ℕ → ℕ → Bool
  agreeing k zero = true
  agreeing k (suc n) = cond (f k) (g k) (not (g k)) && agreeing (suc k) n

  le_of_ne : (k c : ℕ) → k ≤ c → (k ≡ c → ⊥) → suc k ≤ c
  le_of_ne k c p n = omega arith

  agreeing-at : (k n : ℕ) → agreeing k n ≡ true → (c : ℕ) → k ≤ c → c < k + n → f c ≡ g c
  unfolding agreeing
  agreeing-at k zero e c p q = absurd (omega arith)
  agreeing-at k (suc n) e c p q =
      let b = (and-eq-true_iff (cond (f k) (g k) (not (g k))) (agreeing (suc k) n)).0 e in
      go (eqb k c) refl b.0 (agreeing-at (suc k) n b.1 c)
    where
      one : (x y : Bool) → cond x y (not y) ≡ true → x ≡ y
      one true y h = sym h
      one false true h = h
      one false false h = refl

      go : (t : Bool) → eqb k c ≡ t → cond (f k) (g k) (not (g k)) ≡ true → (suc k ≤ c → c < suc k + n → f c ≡ g c) → f c ≡ g c
      go true h b r = rw (sym (eqb-true k c h)) (one (f k) (g k) b)
      go false h b r = let z = eqb-false k c h in r (le_of_ne k c p z) (omega arith)

pub public-codes : (c : ℕ) → c ≤ 15 → key.is_public c ≡ (leb 1 c && leb c 11)
unfolding agreeing
public-codes c h = agreeing-at key.is_public (λ (c : ℕ). leb 1 c && leb c 11) 0 16 refl c (omega arith) (omega arith)

-- a key is public where its code is one of these (rule L1)
pub public-key : (s : List ℕ) → key.is_public (key_of s) ≡ (leb 1 (key_of s) && leb (key_of s) 11)
public-key s = public-codes (key_of s) (rw key-count at (code-most keys s))
