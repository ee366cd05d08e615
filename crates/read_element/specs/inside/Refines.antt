-- How the code's answers are those of the definitions, and what a call is lent. Definitions only.
use Rattle.std.specs.Prelude.{ℕ, List, []}
use Rattle.integer.specs.of_refusal.Refusal.{Refused, Outcome, accepted, refused}
use Rattle.read_element.specs.Outcome.{Place}

-- the answer is that of the outcome: where the definition accepts a state, the code's answer `to` holds what Q ties to it, and where it
-- refuses, the answer `no` has a fault that says why at this place; a refusal says nothing of the areas
pub data Refines {S A C F : Type 0} (to : C → A) (no : F → A) (why : Place → F → Refused) (p : Place) (Q : S → C → Type 0) : Outcome S → A → Type 0 where
  went : {s : S} {c : C} → Q s c → Refines to no why p Q (accepted s) (to c)
  stopped : {f : F} → Refines to no why p Q (refused (why p f)) (no f)

-- the table that a call is lent
pub record Table : Type 0 where
  pub events : List ℕ
  pub attributes : List ℕ
  pub source : List ℕ

-- where no event is read
abbrev pub tagged : List ℕ → List ℕ → Table
tagged attributes source = record { events = []; attributes = attributes; source = source }

-- the areas that a call is lent, before it or behind it
pub record Areas : Type 0 where
  pub records : List ℕ
  pub text : List ℕ
  pub scratch : List ℕ

-- where no scratch is used
abbrev pub areas : List ℕ → List ℕ → Areas
areas records text = record { records = records; text = text; scratch = [] }
