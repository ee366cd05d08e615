-- What the two areas hold between two bytes, and what a turn of the loop is to the definition's run. Definitions only.
use Rattle.std.specs.Prelude.{ℕ, ◌+◌, ◌*◌, ◌≤◌, ◌≡◌, List, length}
use Rattle.xml_rep.specs.of_refusal.Refusal.{nowhere}
use Rattle.xml_rep.specs.of_xml_machine.State.{State, Next, no}
use Rattle.xml_rep.specs.of_xml_machine.Tokens.{Marks, Due, Room, Kept, Out, refuse, keep, laid_out}
use Rattle.xml_rep.specs.of_xml_stack.Stack.{Range, Stacked}
use Rattle.xml_rep.specs.of_xml_state.declared.State.{State as Registers}
use Rattle.xml_rep.specs.of_xml_state.declared.Step.{Step}
use Rattle.xml_rep.specs.of_xml_state.declared.Step.TheVariants.{Go, Full, Bad}
use Rattle.xml_rep.specs.of_xml_state.declared.Tokenized.{Tokenized}
use Rattle.xml_rep.specs.of_xml_state.declared.Tokenized.TheVariants.{Refused}
use Rattle.xml_rep.specs.inside.Rep.{Rep}

-- the records kept so far, with the open names rs in a source of `size` bytes
pub record Holds (size : ℕ) (kept : Kept) (rs : List Range) (st : Registers) (events attributes : List ℕ) : Type 0 where
  pub stacked : Stacked size kept.events rs st.top events
  pub count : st.count ≡ length kept.events
  pub fits : length kept.attributes * 5 ≤ length attributes
  pub laid : attributes ≡ laid_out kept.attributes (length attributes)
  pub many : st.kept ≡ length kept.attributes

-- a step where d is due: it is kept, and the state behind it is as Q says with so many attributes; or it doesn't fit
abbrev pub Puts : ℕ → Room → Kept → Due → List Range → (Registers → ℕ → Type 0) → Step → List ℕ → List ℕ → Type 0
Puts size room kept d rs Q (Go s) events attributes =
    (k : Kept) × ((f : Kept → Out) → keep room kept d f ≡ f k) × Holds size k rs s events attributes × Q s (length k.attributes)
Puts size room kept d rs Q Full events attributes = (f : Kept → Out) → keep room kept d f ≡ refuse 16 nowhere
Puts size room kept d rs Q Bad events attributes = ⊥

-- what stands behind `at` bytes: the definition's state and marks, the records, the open names
pub record Stands (src : List ℕ) (at : ℕ) (st : Registers) (u : State) (m : Marks) (kept : Kept) (rs : List Range) (events attributes : List ℕ) : Type 0 where
  pub rep : Rep src at st u m (length kept.attributes) rs
  pub holds : Holds (length src) kept rs st events attributes

-- a turn, where the definition's answer o goes on by f, or the byte is refused
abbrev pub Leads : List ℕ → ℕ → Next → Out → (State → Marks → Kept → Out) → Step → List ℕ → List ℕ → Type 0
Leads src at next o f (Go st) events attributes =
    (u : State) × (m : Marks) × (kept : Kept) × (rs : List Range) × Stands src (at + 1) st u m kept rs events attributes × (o ≡ f u m kept)
Leads src at next o f Full events attributes = o ≡ refuse 16 nowhere
Leads src at next o f Bad events attributes = next ≡ no

-- the code refuses as the definition does
pub record Refuses (r : Tokenized) (o : Out) : Type 0 where
  pub number : ℕ
  pub byte : ℕ
  pub code : r ≡ Refused number byte
  pub means : o ≡ refuse number byte
