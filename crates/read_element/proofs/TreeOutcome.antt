-- What holds of an outcome where it is accepted, and the tests that it passed. Assumes nothing.
use mathlib.Core.Bool.{Bool, true, false, cond}
use mathlib.Core.Path.{◌≡◌, refl}
use Rattle.integer.specs.of_area.Answer.{Answer, gives, refuses}
use Rattle.integer.specs.of_refusal.Refusal.{Refused, Outcome, accepted, refused}
use Rattle.read_element.specs.Outcome.{◌>>=◌, Place, there, need}
use Rattle.integer.specs.of_refusal.declared.Cause.{Cause}

pub data Holds {A : Type 0} (Q : A → Type 0) : Outcome A → Type 0 where
  accept : {a : A} → Q a → Holds Q (accepted a)
  refuse : {r : Refused} → Holds Q (refused r)

-- what holds of an accepted outcome holds of what it carries
pub held : {A : Type 0} {Q : A → Type 0} {a : A} → Holds Q (accepted a) → Q a
held (accept h) = h

-- what holds behind the first part is what the second may assume
pub bind : {A B : Type 0} {Q : A → Type 0} {R : B → Type 0} {m : Outcome A} {f : A → Outcome B} → Holds Q m → ((a : A) → Q a → Holds R (f a)) → Holds R (m >>= f)
unfolding ◌>>=◌
bind (accept {a = a} h) k = k a h
bind refuse k = refuse

-- what follows from it holds of the outcome too
pub weaken : {A : Type 0} {Q R : A → Type 0} {m : Outcome A} → Holds Q m → ((a : A) → Q a → R a) → Holds R m
weaken (accept {a = a} h) k = accept (k a h)
weaken refuse k = refuse

-- behind a test that passed
pub needed : {A : Type 0} {Q : A → Type 0} (b : Bool) (p : Place) (n : Cause) {m : Outcome A} → (b ≡ true → Holds Q m) → Holds Q (need b p n m)
unfolding need
needed true p n h = h refl
needed false p n h = refuse

-- behind a leaf's answer
pub answered : {A : Type 0} (p : Place) (a : Answer A) → Holds (λ x. a ≡ gives x) (there p a)
unfolding there
answered p (gives x) = accept refl
answered p (refuses n) = refuse

-- both ways of a choice, each with what the test told
pub either : {A : Type 0} {Q : A → Type 0} (b : Bool) {m n : Outcome A} → (b ≡ true → Holds Q m) → (b ≡ false → Holds Q n) → Holds Q (cond b m n)
either true h k = h refl
either false h k = k refl
