-- A test of every element that goes through to the end whatever it finds, so that many elements are taken at a time.
-- Assumes nothing.
use Prim.Native.Nat.{ℕ, ◌+◌, ◌≤◌, ◌<◌}
use mathlib.Core.Bool.{Bool, true, false, not, ◌&&◌, ◌||◌}
use mathlib.Core.List.{List, [], ◌∷◌}
use mathlib.Core.Path.{◌≡◌, refl, sym, ap, ◌∙◌}
use native.Mathlib.Omega.{arith}
use lib.ListN.{length, drop, get_or, drop_of_length-le}
use Rattle.area.proofs.Lists.{drop-next}

-- odd says whether one of the first i elements fails: the whole passes if none did and the rest passes
pub record Sifting (f : List ℕ → Bool) (s : List ℕ) (odd : Bool) (i : ℕ) : Type 0 where
  pub fits : i ≤ length s
  pub left : f s ≡ (not odd && f (drop i s))

pub sifting-start : (f : List ℕ → Bool) (s : List ℕ) → Sifting f s false 0
sifting-start f s = record { fits = omega arith; left = refl }

-- one element more; g b says that b fails
pub sifting-more : (f : List ℕ → Bool) (g : ℕ → Bool) → ((b : ℕ) (t : List ℕ) → f (b ∷ t) ≡ (not (g b) && f t))
    → {s : List ℕ} {odd : Bool} {i : ℕ} → Sifting f s odd i → i < length s → Sifting f s (odd || g (get_or s i 0)) (i + 1)
sifting-more f g e {s} {odd} {i} m h =
    record {
      fits = omega arith;
      left = m.left ∙ ap (λ (l : List ℕ). not odd && f l) (drop-next s i h) ∙ ap (λ (b : Bool). not odd && b) (e (get_or s i 0) (drop (i + 1) s)) ∙ go odd (g (get_or s i 0)) (f (drop (i + 1) s));
    }
  where
    go : (a b c : Bool) → (not a && (not b && c)) ≡ (not (a || b) && c)
    go true b c = refl
    go false b c = refl

-- at the end
pub sifting-done : (f : List ℕ → Bool) → f [] ≡ true → {s : List ℕ} {odd : Bool} {i : ℕ} → Sifting f s odd i → length s ≤ i → not odd ≡ f s
sifting-done f e {s} {odd} {i} m h = sym (m.left ∙ ap (λ (l : List ℕ). not odd && f l) (drop_of_length-le s {i = i} h) ∙ ap (λ (b : Bool). not odd && b) e ∙ go odd)
  where
    go : (a : Bool) → (not a && true) ≡ not a
    go true = refl
    go false = refl
