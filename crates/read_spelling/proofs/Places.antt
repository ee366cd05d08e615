-- What is read at another place with the same elements: the same, or refused alike. Assumes nothing.
use Prim.Native.Nat.{ℕ}
use mathlib.Core.Bool.{Bool, true, false, cond}
use mathlib.Core.List.{List, [], ◌∷◌, ◌++◌}
use mathlib.Core.Path.{◌≡◌, refl, sym, ap, ◌∙◌}
use Rattle.read_report.specs.of_area.Answer.{Answer, gives, refuses}
use Rattle.read_report.specs.of_refusal.Refusal.{nowhere, Refused, Outcome, accepted, refused}
use Rattle.read_report.specs.of_refusal.declared.Cause.{Cause}
use Rattle.read_report.specs.of_refusal.declared.PathElement.{PathElement}
use Rattle.read_report.specs.of_read_element.Outcome.{◌>>=◌, Place, refused_at, there, need, within, element, attribute_element}
use Rattle.read_spelling.specs.Spelling.{unnumbered, SameRefusal}

pub data Moves {A : Type 0} : Outcome A → Outcome A → Type 0 where
  same : {a : A} → Moves (accepted a) (accepted a)
  halts : {r q : Refused} → SameRefusal r q → Moves (refused r) (refused q)

-- ---- places
pub record Near (p q : Place) : Type 0 where
  pub path : unnumbered p.path ≡ unnumbered q.path
  pub attribute : p.attribute ≡ q.attribute

pub joined : (a b : List PathElement) → unnumbered (a ++ b) ≡ unnumbered a ++ unnumbered b
joined [] b = refl
joined (x ∷ a) b = ap (λ (l : List PathElement). element x.kind x.index nowhere ∷ l) (joined a b)

pub longer : (a b c : List PathElement) → unnumbered a ≡ unnumbered b → unnumbered (a ++ c) ≡ unnumbered (b ++ c)
longer a b c e = joined a c ∙ ap (λ (l : List PathElement). l ++ unnumbered c) e ∙ sym (joined b c)

pub within-near : {p q : Place} → Near p q → (key : ℕ) → Near (within p key) (within q key)
within-near {p} {q} n key = record { path = longer p.path q.path (attribute_element key ∷ []) n.path; attribute = n.attribute }

-- ---- steps that may refuse
refusing : {A : Type 0} {p q : Place} → Near p q → (why : Cause) → Moves {A = A} (refused_at p why) (refused_at q why)
refusing n why = halts (record { cause = refl; path = n.path; attribute = n.attribute })

pub bind : {A B : Type 0} {m n : Outcome A} {f g : A → Outcome B} → Moves m n → ((a : A) → Moves (f a) (g a)) → Moves (m >>= f) (n >>= g)
unfolding ◌>>=◌
bind (same {a = a}) h = h a
bind (halts s) h = halts s

pub told : {A : Type 0} {p q : Place} → Near p q → (a : Answer A) → Moves (there p a) (there q a)
unfolding there
told n (gives a) = same
told n (refuses why) = refusing n why

pub needing : {A : Type 0} {p q : Place} → Near p q → (b : Bool) (why : Cause) {m n : Outcome A} → Moves m n → Moves (need b p why m) (need b q why n)
unfolding need
needing n true why h = h
needing n false why h = refusing n why

pub choosing : {A : Type 0} (b : Bool) {m n k l : Outcome A} → Moves m n → Moves k l → Moves (cond b m k) (cond b n l)
choosing true h g = h
choosing false h g = g
