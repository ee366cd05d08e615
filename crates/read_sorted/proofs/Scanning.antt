-- The least of a list whose key the one before it has, number by number. Assumes nothing.
use Prim.Native.Nat.{ℕ, ◌+◌, ◌-◌, ◌≤◌, ◌<◌}
use mathlib.Core.Path.{◌≡◌, refl, sym, ap, subst, ◌∙◌}
use mathlib.Core.Logic.{inl, inr}
use mathlib.Core.Bool.{Bool, true, false, cond}
use mathlib.Core.List.{List}
use native.Mathlib.Omega.{arith}
use borrow.Author.Tests.{leb-true, leb-false, ltb-true, ltb-false, le-leb, lt-leb}
use lib.Dec.{leb, ltb}
use lib.ListN.{length, get_or}
use Rattle.key_sort.specs.of_names.Names.{same_bytes}
use Rattle.key_sort.specs.of_table.Event.{key_at}
use Rattle.read_sorted.specs.inside.Repeats.{alike, nearer, FirstOf}

pub nearer-kept : (t : Bool) (j found : ℕ) → found ≤ j → found ≡ nearer t j found
nearer-kept t j found h = sym (ap (λ (u : Bool). cond u found (cond t j found)) (le-leb found j h))

pub nearer-told : (t : Bool) (j found : ℕ) {r : ℕ} → j < found → r ≡ cond t j found → r ≡ nearer t j found
nearer-told t j found h e = e ∙ sym (ap (λ (u : Bool). cond u found (cond t j found)) (lt-leb found j h))

pub scanning-start : (attributes source l : List ℕ) (end : ℕ) → FirstOf attributes source l end 1 end
scanning-start attributes source l end = record { most = omega arith; passed = λ q h e. absurd (omega arith); hit = inl refl }

never : true ≡ false → ⊥
never e = let z : ◌≡◌ {A = ℕ} 0 1 = cc in omega arith

module _ {attributes source l : List ℕ} {end p r : ℕ} (f : FirstOf attributes source l end p r) (low : 0 < p) where
  module _ {t : Bool} (e : alike attributes source l (p - 1) ≡ t) where
    last : {A : Type 0} (q : ℕ) → q + 1 < p + 1 → (q + 1 < p → A) → (q ≡ p - 1 → A) → A
    last {A} q h f g = go (ltb (q + 1) p) refl
      where
        go : (u : Bool) → ltb (q + 1) p ≡ u → A
        go true s = f (ltb-true (q + 1) p s)
        go false s = let o = ltb-false (q + 1) p s in g (omega arith)

    behind : (q : ℕ) → q ≡ p - 1 → get_or l (q + 1) 0 ≡ get_or l p 0
    behind q s = let z : q + 1 ≡ p = omega arith in ap (λ (k : ℕ). get_or l k 0) z

    stays : (get_or l p 0 < r → t ≡ false) → FirstOf attributes source l end (p + 1) r
    stays n = record {
      most = f.most;
      passed = λ q h s. last q h (λ o. f.passed q o s) (λ z. go (leb r (get_or l p 0)) refl z s);
      hit = f.hit;
    }
      where
        go : {q : ℕ} (u : Bool) → leb r (get_or l p 0) ≡ u → q ≡ p - 1 → alike attributes source l q ≡ true → r ≤ get_or l (q + 1) 0
        go {q} true m z s = let o = leb-true r (get_or l p 0) m in let b = behind q z in omega arith
        go {q} false m z s =
            let o = leb-false r (get_or l p 0) m in
            absurd (never (sym s ∙ ap (alike attributes source l) z ∙ e ∙ n (omega arith)))

    falls : p < length l → t ≡ true → get_or l p 0 < r → FirstOf attributes source l end (p + 1) (get_or l p 0)
    falls b n o = record {
      most = omega (arith, f.most);
      passed = λ q h s. last q h (λ m. let a = f.passed q m s in omega arith) (λ z. let b = behind q z in omega arith);
      hit = let z : p - 1 + 1 ≡ p = omega arith in
          inr (record { place = p - 1; low = omega arith; same = e ∙ n; is = sym (ap (λ (k : ℕ). get_or l k 0) z) });
    }

    pub scanning-more : {s : ℕ} → p < length l → s ≡ nearer t (get_or l p 0) r → FirstOf attributes source l end (p + 1) s
    scanning-more {s} b q = go (leb r (get_or l p 0)) refl t refl q
      where
        go : (u : Bool) → leb r (get_or l p 0) ≡ u → (v : Bool) → t ≡ v → s ≡ cond u r (cond v (get_or l p 0) r) → FirstOf attributes source l end (p + 1) s
        go true m v n w = let o = leb-true r (get_or l p 0) m in subst (λ (k : ℕ). FirstOf attributes source l end (p + 1) k) (sym w) (stays (λ k. absurd (omega arith)))
        go false m true n w = let o = leb-false r (get_or l p 0) m in subst (λ (k : ℕ). FirstOf attributes source l end (p + 1) k) (sym w) (falls b n (omega arith))
        go false m false n w = subst (λ (k : ℕ). FirstOf attributes source l end (p + 1) k) (sym w) (stays (λ k. n))

  pub scanning-done : {n : ℕ} → n ≤ p → FirstOf attributes source l end n r
  scanning-done h = record { most = f.most; passed = λ q o s. f.passed q (omega arith) s; hit = f.hit }

pub step-told : {attributes source l : List ℕ} {end p r s : ℕ} → FirstOf attributes source l end p r → 0 < p → p < length l
    → s ≡ nearer (same_bytes (key_at attributes source (get_or l (p - 1) 0)) (key_at attributes source (get_or l p 0))) (get_or l p 0) r → FirstOf attributes source l end (p + 1) s
step-told {attributes} {source} {l} {p = p} f low b e =
    let z : p - 1 + 1 ≡ p = omega arith in
    scanning-more f low (ap (λ (k : ℕ). same_bytes (key_at attributes source (get_or l (p - 1) 0)) (key_at attributes source (get_or l k 0))) z) b e

-- what a pair tells
module _ (attributes source : List ℕ) (i j found : ℕ) {at : ℕ} (e : at ≡ j) where
  pub kept-told : found ≤ at → found ≡ nearer (same_bytes (key_at attributes source i) (key_at attributes source j)) j found
  kept-told h = nearer-kept (same_bytes (key_at attributes source i) (key_at attributes source j)) j found (omega arith)

  module _ (h : at < found) {k m : List ℕ} {t : Bool} (a : k ≡ key_at attributes source i) (b : m ≡ key_at attributes source j) (s : t ≡ same_bytes k m) where
    whole : {u : Bool} → t ≡ u → same_bytes (key_at attributes source i) (key_at attributes source j) ≡ u
    whole p = sym (ap (λ (x : List ℕ). same_bytes x (key_at attributes source j)) a) ∙ sym (ap (same_bytes k) b) ∙ sym s ∙ p

    pub hit-told : t ≡ true → at ≡ nearer (same_bytes (key_at attributes source i) (key_at attributes source j)) j found
    hit-told p = nearer-told (same_bytes (key_at attributes source i) (key_at attributes source j)) j found (omega arith) (e ∙ sym (ap (λ (u : Bool). cond u j found) (whole p)))

    pub miss-told : t ≡ false → found ≡ nearer (same_bytes (key_at attributes source i) (key_at attributes source j)) j found
    miss-told p = nearer-told (same_bytes (key_at attributes source i) (key_at attributes source j)) j found (omega arith) (sym (ap (λ (u : Bool). cond u j found) (whole p)))
