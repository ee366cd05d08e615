-- A step with rooms beside the same step without: where its end fits, its start did, and both end alike. Assumes nothing.
use Prim.Native.Nat.{ℕ, ◌≤◌}
use mathlib.Core.Path.{◌≡◌, refl, ap, subst, ◌∙◌}
use mathlib.Core.Bool.{Bool, true, false, cond}
use mathlib.Core.Option.{none, some}
use native.Mathlib.Omega.{arith}
use lib.Dec.{T, leb, le→leb}
use Rattle.read_machine.specs.of_refusal.Refusal.{Refused, Outcome, accepted, refused}
use Rattle.read_machine.specs.of_read_element.Outcome.{◌>>=◌, Place, need, fits}
use Rattle.read_machine.proofs.of_read_element.TreeOutcome.{Holds, held}
use Rattle.read_machine.specs.of_refusal.declared.Cause.{Cause}

-- m with rooms, n without: S says that the start fits, F that the end does
pub data Suits {A : Type 0} (S : Type 0) (F : A → Type 0) (m : Outcome A) : Outcome A → Type 0 where
  stops : {r : Refused} → Suits S F m (refused r)
  goes : {a : A} → (F a → S × (m ≡ accepted a)) → Suits S F m (accepted a)

pub suited : {A : Type 0} {S : Type 0} {F : A → Type 0} {m n : Outcome A} (b : A) → Suits S F m n → n ≡ accepted b → F b → m ≡ accepted b
suited b stops e f = let z : ◌≡◌ {A = ℕ} 0 1 = cc in absurd (omega arith)
suited {A = A} {F = F} b (goes {a = a} h) e f =
    let z : b ≡ a = cc in
    (h (subst F z f)).1 ∙ e

-- ---- ends
pub comes : {A : Type 0} {S : Type 0} {F : A → Type 0} {a : A} → (F a → S) → Suits S F (accepted a) (accepted a)
comes k = goes λ f. (k f, refl)

-- what no room enters
pub leaf : {A : Type 0} {S : Type 0} (m : Outcome A) → Suits S (λ (a : A). S) m m
leaf (accepted a) = goes λ s. (s, refl)
leaf (refused r) = stops

pub starts : {A : Type 0} {S S' : Type 0} {F : A → Type 0} {m n : Outcome A} → (S → S') → Suits S F m n → Suits S' F m n
starts k stops = stops
starts k (goes h) = goes λ f. (k (h f).0, (h f).1)

-- ---- steps behind one another
after : {A B : Type 0} {S : Type 0} (F : A → Type 0) {G : B → Type 0} {m : Outcome A} {a : A} (f : A → Outcome B) {n : Outcome B}
    → (F a → S × (m ≡ accepted a)) → Suits (F a) G (f a) n → Suits S G (m >>= f) n
unfolding ◌>>=◌
after F f h stops = stops
after F f h (goes k) = goes λ g.
    (let q = k g in
    let p = h q.0 in
    (p.0, ap (λ x. x >>= f) p.1 ∙ q.1))

pub bind : {A B : Type 0} {S : Type 0} {F : A → Type 0} {G : B → Type 0} {m n : Outcome A} {f g : A → Outcome B}
    → Suits S F m n → ((a : A) → Suits (F a) G (f a) (g a)) → Suits S G (m >>= f) (n >>= g)
unfolding ◌>>=◌
bind stops k = stops
bind {F = F} {f = f} (goes {a = a} h) k = after F f h (k a)

-- the same, with what holds behind the first step
pub bind_held : {A B : Type 0} {S : Type 0} {F Q : A → Type 0} {G : B → Type 0} {m n : Outcome A} {f g : A → Outcome B}
    → Suits S F m n → Holds Q n → ((a : A) → Q a → Suits (F a) G (f a) (g a)) → Suits S G (m >>= f) (n >>= g)
unfolding ◌>>=◌
bind_held stops q k = stops
bind_held {F = F} {f = f} (goes {a = a} h) q k = after F f h (k a (held q))

-- ---- tests
pub needing : {A : Type 0} {S : Type 0} {F : A → Type 0} (b : Bool) (p : Place) (why : Cause) {m n : Outcome A} → Suits S F m n → Suits S F (need b p why m) (need b p why n)
unfolding need
needing true p why h = h
needing false p why h = stops

pub choosing : {A : Type 0} {S : Type 0} {F : A → Type 0} (b : Bool) {m n k l : Outcome A} → Suits S F m n → Suits S F k l → Suits S F (cond b m k) (cond b n l)
choosing true h j = h
choosing false h j = j

need-passed : {A : Type 0} (b : Bool) (p : Place) (why : Cause) (m : Outcome A) → T b → need b p why m ≡ m
unfolding need
need-passed true p why m t = refl
need-passed false p why m t = absurd t

-- the law of all three areas: behind a test for x the start fits, and x with it
pub fitting : {A : Type 0} {S S' : Type 0} {F : A → Type 0} (most x : ℕ) (p : Place) (why : Cause) {m n : Outcome A} → (S' → S × (x ≤ most)) → Suits S' F m n
    → Suits S F (need (fits (some most) x) p why m) (need (fits none x) p why n)
unfolding need fits
fitting most x p why k stops = stops
fitting most x p why {m} k (goes h) = goes λ f.
    (let q = h f in
    let s = k q.0 in
    (s.0, need-passed (leb x most) p why m (le→leb x most s.1) ∙ q.1))
