-- What holds of an outcome wherever it accepts. Assumes nothing.
use mathlib.Core.Path.{◌≡◌, refl}
use mathlib.Core.Bool.{Bool, true, false, cond}
use Rattle.read_report.specs.of_area.Answer.{gives, refuses}
use Rattle.read_report.specs.of_refusal.Refusal.{Refused, Outcome, accepted, refused}
use Rattle.read_report.specs.of_refusal.declared.Cause.{Cause}
use Rattle.read_report.specs.of_read_element.Outcome.{◌>>=◌, Place, there, need}

pub data Holds {A : Type 0} (Q : A → Type 0) : Outcome A → Type 0 where
  accept : {a : A} → Q a → Holds Q (accepted a)
  refusing : {r : Refused} → Holds Q (refused r)

pub held : {A : Type 0} {Q : A → Type 0} {a : A} → Holds Q (accepted a) → Q a
held (accept h) = h

pub bind : {A B : Type 0} {Q : A → Type 0} {R : B → Type 0} {m : Outcome A} {f : A → Outcome B} →
    Holds Q m → ((a : A) → Q a → Holds R (f a)) → Holds R (m >>= f)
unfolding ◌>>=◌
bind (accept h) k = k _ h
bind refusing k = refusing

pub weaken : {A : Type 0} {Q R : A → Type 0} {m : Outcome A} → Holds Q m → ((a : A) → Q a → R a) → Holds R m
weaken (accept h) k = accept (k _ h)
weaken refusing k = refusing

pub needing : {A : Type 0} {Q : A → Type 0} (b : Bool) (p : Place) (n : Cause) {m : Outcome A} → Holds Q m → Holds Q (need b p n m)
unfolding need
needing true p n h = h
needing false p n h = refusing

-- with what the test says
pub testing : {A : Type 0} {Q : A → Type 0} (b : Bool) (p : Place) (n : Cause) {m : Outcome A} → (b ≡ true → Holds Q m) → Holds Q (need b p n m)
unfolding need
testing true p n h = h refl
testing false p n h = refusing

pub choosing : {A : Type 0} {Q : A → Type 0} (b : Bool) {m n : Outcome A} → Holds Q m → Holds Q n → Holds Q (cond b m n)
choosing true h j = h
choosing false h j = j

pub anything : {A : Type 0} (m : Outcome A) → Holds (λ _. Unit {0}) m
anything (accepted a) = accept tt
anything (refused r) = refusing

-- the value where both tests pass
pub answered : {A : Type 0} (p : Place) (b c : Bool) (a : A) (m n : Cause) → Holds (λ x. x ≡ a) (there p (cond b (cond c (gives a) (refuses m)) (refuses n)))
unfolding there
answered p true true a m n = accept refl
answered p true false a m n = refusing
answered p false c a m n = refusing
