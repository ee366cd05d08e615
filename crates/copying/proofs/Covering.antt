-- A test of every byte, over parts that cover a text, some bytes twice. Assumes nothing.
use Prim.Native.Nat.{ℕ, ◌+◌, ◌-◌, ◌≤◌}
use mathlib.Core.Path.{◌≡◌, refl, sym, ap, ap₂, ◌∙◌}
use mathlib.Core.List.{List, [], ◌∷◌, ◌++◌}
use mathlib.Core.Bool.{Bool, true, false, not, ◌&&◌}
use native.Mathlib.Omega.{arith}
use lib.ListN.{length, take, drop, take-append-drop}
use lib.Seq.{take-add}
use Rattle.area.proofs.Parts.{rest_part}

together : (a b c : Bool) → (a && (b && c)) ≡ ((a && b) && c)
together true b c = refl
together false b c = refl

again : (a x y : Bool) → (a && (x && y)) ≡ ((a && x) && (x && y))
again true true y = refl
again true false y = refl
again false x y = refl

never : (a : Bool) → (a && false) ≡ false
never true = refl
never false = refl

-- g b says that b fails
module _ (f : List ℕ → Bool) (g : ℕ → Bool) (each : (b : ℕ) (t : List ℕ) → f (b ∷ t) ≡ (not (g b) && f t)) (none : f [] ≡ true) where
  joined : (s t : List ℕ) → f (s ++ t) ≡ (f s && f t)
  joined [] t = sym (ap (λ (z : Bool). z && f t) none)
  joined (b ∷ s) t =
      each b (s ++ t) ∙ ap (λ (z : Bool). not (g b) && z) (joined s t) ∙ together (not (g b)) (f s) (f t) ∙ ap (λ (z : Bool). z && f t) (sym (each b s))

  parted : (s : List ℕ) (i : ℕ) → f s ≡ (f (take i s) && f (drop i s))
  parted s i = ap f (sym (take-append-drop i s)) ∙ joined (take i s) (drop i s)

  fronted : (s : List ℕ) (i e : ℕ) → i ≤ e → f (take e s) ≡ (f (take i s) && f (take (e - i) (drop i s)))
  fronted s i e h =
      let z : e ≡ i + (e - i) = omega arith in
      ap (λ (n : ℕ). f (take n s)) z ∙ ap f (take-add i (e - i) s) ∙ joined (take i s) (take (e - i) (drop i s))

  -- the first i, and what is behind p
  pub covers : (s : List ℕ) (p i : ℕ) → p ≤ i → f s ≡ (f (take i s) && f (drop p s))
  covers s p i h =
      let back : f (drop p s) ≡ (f (take (i - p) (drop p s)) && f (drop (i - p) (drop p s))) = parted (drop p s) (i - p) in
      parted s p ∙ ap (λ (z : Bool). f (take p s) && z) back ∙ again (f (take p s)) (f (take (i - p) (drop p s))) (f (drop (i - p) (drop p s)))
      ∙ ap₂ ◌&&◌ (sym (fronted s p i h)) (sym back)

  -- up to e once up to i, and from i to e
  pub passes_on : (s : List ℕ) (i e : ℕ) → i ≤ e → f (take i s) ≡ true → f (take (e - i) (drop i s)) ≡ true → f (take e s) ≡ true
  passes_on s i e h p q = fronted s i e h ∙ ap₂ ◌&&◌ p q

  -- one part that fails
  pub fails-all : (s : List ℕ) (i k : ℕ) → f (take k (drop i s)) ≡ false → f s ≡ false
  fails-all s i k q =
      parted s i ∙ ap (λ (z : Bool). f (take i s) && z) (parted (drop i s) k ∙ ap (λ (z : Bool). z && f (drop k (drop i s))) q) ∙ never (f (take i s))

  -- the end decides, `&s[p..]`
  pub last-decides : (s : List ℕ) (p i : ℕ) → p ≤ i → f (take i s) ≡ true → f (take (length s - p) (drop p s)) ≡ f s
  last-decides s p i h q = ap f (rest_part s p) ∙ sym (covers s p i h ∙ ap (λ (z : Bool). z && f (drop p s)) q)

  -- n at the front and n at the end
  pub around : (s : List ℕ) (n : ℕ) → length s ≤ n + n → (a b : Bool) → a ≡ f (take n s) → b ≡ f (take (length s - (length s - n)) (drop (length s - n) s)) → (a && b) ≡ f s
  around s n h a b p q =
      ap₂ ◌&&◌ p (q ∙ ap f (rest_part s (length s - n))) ∙ sym (covers s (length s - n) n (omega arith))
