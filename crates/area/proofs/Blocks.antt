-- The first place of a byte, found block by block. Assumes nothing.
use Prim.Native.Nat.{ℕ, zero, suc, ◌+◌, ◌-◌, ◌≤◌}
use mathlib.Core.Bool.{Bool, true, false, cond, not, ◌&&◌, and-eq-true_iff}
use mathlib.Core.Path.{◌≡◌, sym, ap, ◌∙◌}
use mathlib.Core.List.{List, [], ◌∷◌}
use native.Mathlib.Omega.{arith}
use borrow.Author.Tests.{not-true}
use lib.Dec.{eqb, eqb-zero-suc, eqb-suc-suc}
use lib.ListN.{length, take, drop, length-drop}
use lib.Seq.{drop-drop}
use Rattle.area.specs.Area.{first_at}
use Rattle.area.proofs.Seeking.{Seeking}

-- the first place is the end
abbrev pub without : ℕ → List ℕ → Bool
without b s = eqb (first_at b s) (length s)

pub without-next : (b c : ℕ) (t : List ℕ) → without b (c ∷ t) ≡ (not (eqb c b) && without b t)
without-next b c t = go (eqb c b)
  where
    go : (u : Bool) → eqb (cond u 0 (suc (first_at b t))) (suc (length t)) ≡ (not u && without b t)
    go true = eqb-zero-suc (length t)
    go false = eqb-suc-suc (first_at b t) (length t)

-- a front without the byte is passed
past : (b n : ℕ) (l : List ℕ) → n ≤ length l → without b (take n l) ≡ true → first_at b l ≡ n + first_at b (drop n l)
past b zero l h e = omega arith
past b (suc n) [] h e = absurd (omega arith)
past b (suc n) (c ∷ l) h e =
    let both = (and-eq-true_iff (not (eqb c b)) (without b (take n l))).0 (sym (without-next b c (take n l)) ∙ e) in
    let more : first_at b l ≡ n + first_at b (drop n l) = past b n l (omega arith) both.1 in
    let skip : first_at b (c ∷ l) ≡ suc (first_at b l) = ap (λ (u : Bool). cond u 0 (suc (first_at b l))) (not-true (eqb c b) both.0) in
    omega arith

-- the block from i to e is passed
pub seeking_block : {b : ℕ} {s : List ℕ} {i : ℕ} → Seeking b s i → (e : ℕ) → i ≤ e → e ≤ length s → without b (take (e - i) (drop i s)) ≡ true → Seeking b s e
seeking_block {b} {s} {i} k e p q w =
    let there : i + (e - i) ≡ e = omega arith in
    let far : first_at b (drop (e - i) (drop i s)) ≡ first_at b (drop e s) = ap (first_at b) (drop-drop (e - i) i s) ∙ ap (λ (n : ℕ). first_at b (drop n s)) there in
    let z : first_at b (drop i s) ≡ (e - i) + first_at b (drop (e - i) (drop i s)) = past b (e - i) (drop i s) (simp length-drop (omega arith)) w in
    record { within = q; ahead = omega (arith, k.ahead) }
