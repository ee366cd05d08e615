-- Runs that grow by a block. Assumes nothing.
use Prim.Native.Nat.{ℕ, zero, suc, ◌+◌, ◌-◌, ◌≤◌, ◌<◌}
use mathlib.Core.Path.{◌≡◌, refl, sym, ap, ◌∙◌}
use mathlib.Core.List.{List, [], ◌∷◌}
use mathlib.Core.Bool.{Bool, true, false, not, ◌&&◌, and-eq-true_iff}
use native.Mathlib.Omega.{arith}
use native.Mathlib.Decide.{dec_lt}
use lib.ListN.{length, take, drop, get_or}
use Rattle.xml_state.proofs.of_area.Parts.{length_part, part_at}
use Rattle.xml_calm.specs.inside.Calm.{mild, mild_all, stop_of, Calm}

pub mild-next : (stop b : ℕ) (t : List ℕ) → mild_all stop (b ∷ t) ≡ (not (not (mild stop b)) && mild_all stop t)
mild-next stop b t = go (mild stop b)
  where
    go : (x : Bool) → (x && mild_all stop t) ≡ (not (not x) && mild_all stop t)
    go true = refl
    go false = refl

pub calm-none : (src : List ℕ) (mode at : ℕ) → Calm src mode at at
calm-none src mode at i lo hi = absurd (omega arith)

mild-at : (stop : ℕ) (l : List ℕ) → mild_all stop l ≡ true → (k : ℕ) → k < length l → mild stop (get_or l k 0) ≡ true
mild-at stop [] e k h = absurd (omega arith)
mild-at stop (b ∷ t) e zero h = ((and-eq-true_iff (mild stop b) (mild_all stop t)).0 e).0
mild-at stop (b ∷ t) e (suc k) h = mild-at stop t ((and-eq-true_iff (mild stop b) (mild_all stop t)).0 e).1 k (omega arith)

pub calm_block : (src : List ℕ) (mode start at : ℕ) → Calm src mode start at → (e : ℕ) → at ≤ e → e ≤ length src → (stop_of mode ≡ 0 → ⊥) →
    mild_all (stop_of mode) (take (e - at) (drop at src)) ≡ true → Calm src mode start e
calm_block src mode start at k e p q n w i lo hi = go (dec_lt i at)
  where
    inner : at ≤ i → mild (stop_of mode) (get_or src i 0) ≡ true
    inner h =
        let z : at + (i - at) ≡ i = omega arith in
        ap (λ (j : ℕ). mild (stop_of mode) (get_or src j 0)) (sym z)
        ∙ ap (mild (stop_of mode)) (sym (part_at src at e q (i - at) (omega arith)))
        ∙ mild-at (stop_of mode) (take (e - at) (drop at src)) w (i - at) (rw (length_part src at e q) (omega arith))

    go : Dec (i < at) → (i < length src) × (stop_of mode ≡ 0 → ⊥) × (mild (stop_of mode) (get_or src i 0) ≡ true)
    go (yes h) = k i lo h
    go (no h) = (omega arith, n, inner (omega arith))
