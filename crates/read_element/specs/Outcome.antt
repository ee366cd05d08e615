-- Steps that may refuse, the place that a refusal names, and the room that areas have. Definitions only.
use Rattle.std.specs.Prelude.{ℕ, zero, suc, ◌/◌, min, List, [], ◌∷◌, ◌++◌, Bool, true, false, cond, leb}
use Rattle.std.proofs.Math.Option.{Option, none, some}
use Rattle.integer.specs.of_area.Limits.{most_records, most_bytes}
use Rattle.integer.specs.of_area.Answer.{Answer, gives, refuses}
use Rattle.integer.specs.of_refusal.Refusal.{nowhere, Outcome, accepted, refused}
use Rattle.integer.specs.of_refusal.declared.PathElement.{PathElement}
use Rattle.integer.specs.of_refusal.declared.Cause.{Cause}

infixl 20 ◌>>=◌
-- one step behind another: the first that refuses decides (rule F2)
unfoldable pub ◌>>=◌ : {A B : Type 0} → Outcome A → (A → Outcome B) → Outcome B
◌>>=◌ (accepted a) f = f a
◌>>=◌ (refused r) f = refused r

-- where a refusal is (rule F1)
pub record Place : Type 0 where
  pub path : List PathElement
  pub event : ℕ
  pub attribute : ℕ

abbrev pub refused_at : {A : Type 0} → Place → Cause → Outcome A
refused_at p why = refused (record { cause = why; path = p.path; event = p.event; attribute = p.attribute })

-- a leaf's answer, with the place that its refusal names
unfoldable pub there : {A : Type 0} → Place → Answer A → Outcome A
there p (gives a) = accepted a
there p (refuses why) = refused_at p why

-- the step where the test passes, and else the refusal, whatever the step would come to (rule F2)
unfoldable pub need : {A : Type 0} → Bool → Place → Cause → Outcome A → Outcome A
need true p why m = m
need false p why m = refused_at p why

-- an element of a path by its kind (docs/REFUSALS.md), its index, and its Start's event number
abbrev pub element : ℕ → ℕ → ℕ → PathElement
element kind index event = record { kind = kind; index = index; event = event }

-- an Attribute's code in a path is its own: that of a key up to 14, then 15 for the text of a stack trace; the next key's is 16
abbrev pub attribute_of : ℕ → ℕ
attribute_of key = cond (leb key 14) key 16

abbrev pub attribute_element : ℕ → PathElement
attribute_element key = element 16 (attribute_of key) nowhere

abbrev pub stack_trace_element : PathElement
stack_trace_element = element 16 15 nowhere

-- the place of a known key's value: the element's path, and behind it the Attribute (rule A11)
abbrev pub within : Place → ℕ → Place
within p key = record { path = p.path ++ (attribute_element key ∷ []); event = p.event; attribute = p.attribute }

-- the path with the Attribute of a key, where its code isn't 0
abbrev pub path_to : List PathElement → ℕ → List PathElement
path_to path zero = path
path_to path (suc k) = path ++ (attribute_element (suc k) ∷ [])

-- how many records, bytes of text and bytes of scratch may be used; none is no limit
pub record Rooms : Type 0 where
  pub records : Option ℕ
  pub text : Option ℕ
  pub scratch : Option ℕ

-- whole records, and of longer areas no more than the limits (rule M1)
abbrev pub rooms_of : ℕ → ℕ → ℕ → Rooms
rooms_of words text scratch = record { records = some (min (words / 32) most_records); text = some (min text most_bytes); scratch = some (min scratch most_bytes) }

abbrev pub unlimited : Rooms
unlimited = record { records = none; text = none; scratch = none }

-- n are within the room
unfoldable pub fits : Option ℕ → ℕ → Bool
fits none n = true
fits (some most) n = leb n most
