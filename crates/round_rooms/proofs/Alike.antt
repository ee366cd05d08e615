-- A step with rooms that comes to the same as without. Assumes nothing.
use Prim.Native.Nat.{ℕ, ◌≤◌}
use mathlib.Core.Path.{◌≡◌, refl, subst}
use mathlib.Core.Bool.{Bool, true, false, cond}
use mathlib.Core.Option.{none, some}
use lib.Dec.{T, leb, le→leb}
use Rattle.read_machine.specs.of_refusal.Refusal.{Refused, Outcome, accepted, refused}
use Rattle.read_machine.specs.of_read_element.Outcome.{◌>>=◌, Place, need, fits}
use Rattle.read_machine.proofs.of_read_element.TreeOutcome.{Holds, accept, refuse}
use Rattle.read_machine.specs.of_refusal.declared.Cause.{Cause}

-- m with rooms, n without; Q holds of what both give
pub data Alike {A : Type 0} (Q : A → Type 0) : Outcome A → Outcome A → Type 0 where
  halts : {r : Refused} → Alike Q (refused r) (refused r)
  gives : {a : A} → Q a → Alike Q (accepted a) (accepted a)

pub alike_same : {A : Type 0} {Q : A → Type 0} {m n : Outcome A} → Alike Q m n → m ≡ n
alike_same halts = refl
alike_same (gives h) = refl

-- what no room enters
pub whole : {A : Type 0} {Q : A → Type 0} {m : Outcome A} → Holds Q m → Alike Q m m
whole (accept h) = gives h
whole refuse = halts

pub leaf : {A : Type 0} (m : Outcome A) → Alike (λ (a : A). Unit {0}) m m
leaf (accepted a) = gives tt
leaf (refused r) = halts

pub alike-holds : {A : Type 0} {Q : A → Type 0} {m n : Outcome A} → Alike Q m n → Holds Q n
alike-holds halts = refuse
alike-holds (gives h) = accept h

pub weaken : {A : Type 0} {Q R : A → Type 0} {m n : Outcome A} → Alike Q m n → ((a : A) → Q a → R a) → Alike R m n
weaken halts k = halts
weaken (gives {a = a} h) k = gives (k a h)

pub bind : {A B : Type 0} {Q : A → Type 0} {R : B → Type 0} {m n : Outcome A} {f g : A → Outcome B} → Alike Q m n → ((a : A) → Q a → Alike R (f a) (g a)) → Alike R (m >>= f) (n >>= g)
unfolding ◌>>=◌
bind halts k = halts
bind (gives {a = a} h) k = k a h

-- ---- tests
pub needing : {A : Type 0} {Q : A → Type 0} (b : Bool) (p : Place) (why : Cause) {m n : Outcome A} → Alike Q m n → Alike Q (need b p why m) (need b p why n)
unfolding need
needing true p why h = h
needing false p why h = halts

pub choosing : {A : Type 0} {Q : A → Type 0} (b : Bool) {m n k l : Outcome A} → Alike Q m n → Alike Q k l → Alike Q (cond b m k) (cond b n l)
choosing true h j = h
choosing false h j = j

passed : {A : Type 0} (b : Bool) (p : Place) (why : Cause) (m : Outcome A) → T b → m ≡ need b p why m
unfolding need
passed true p why m t = refl
passed false p why m t = absurd t

-- the law of all three areas: there is room for x
pub fitting : {A : Type 0} {Q : A → Type 0} (most x : ℕ) (p : Place) (why : Cause) {m n : Outcome A}
    → x ≤ most → Alike Q m n → Alike Q (need (fits (some most) x) p why m) (need (fits none x) p why n)
unfolding need fits
fitting {Q = Q} most x p why {m} {n} l h = subst (λ (o : Outcome _). Alike Q o n) (passed (leb x most) p why m (le→leb x most l)) h
