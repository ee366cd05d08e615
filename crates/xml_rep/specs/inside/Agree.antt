-- What the code's move and the definition's step have in common, act by act: what an act does, the record that is due in the words of
-- the registers, and how the registers stand behind it. Definitions only.
use Rattle.std.specs.Prelude.{ℕ, ◌+◌, ◌-◌, ◌≤◌, ◌≡◌, List, [], ◌∷◌, cond, eqb, length, get_or}
use Rattle.xml_state.specs.of_table.Kinds as kind
use Rattle.xml_state.specs.of_xml_machine.State.{State, Act, Next, no, go}
use Rattle.xml_state.specs.of_xml_machine.Tokens.{rec, unless0, over, Marks, marks_by, due, nothing, event, attribute, text_due}
use Rattle.xml_state.specs.of_xml_stack.Stack.{Range, range}
use Rattle.xml_state.specs.declared.Move.{Move}
use Rattle.xml_state.specs.declared.State.{State as Registers}
use Rattle.xml_state.specs.declared.Step.TheVariants.{Go, Bad}
use Rattle.xml_state.specs.inside.Rows as row
use Rattle.xml_state.specs.inside.Registers.{in_mode, at_mark_of, with_name, with_kept, with_count}
use Rattle.xml_state.specs.inside.Acts.{closing_of}
use Rattle.xml_state.specs.inside.Puts.{Turned, turned, by_events, by_attributes, put_over, fresh_of, settled_of, act_text, act_start, act_empty, act_end, act_value, act_on}
use Rattle.xml_rep.specs.inside.Rep.{Rep}

-- one turn of the loop, by its move
abbrev pub turn_by : Registers → Move → ℕ → ℕ → List ℕ → List ℕ → List ℕ → Turned
turn_by st mv b at src events attributes =
    cond (eqb mv.act row.stay) (turned (Go (in_mode mv.mode st)) events attributes) (act_on st mv b at src events attributes)

-- the mode behind a closed element, by the names that are still open
abbrev pub shut_in : List Range → ℕ
shut_in [] = row.text_after_of
shut_in (r ∷ rs) = row.text_in_of

module _ (src : List ℕ) (at : ℕ) (st : Registers) (m : Marks) (n : ℕ) (rs : List Range) where
  -- what the move does, whatever the areas hold
  abbrev pub Does : Move → (List ℕ → List ℕ → Turned) → Type 0
  Does mv f = (events attributes : List ℕ) → turn_by st mv (get_or src at 0) at src events attributes ≡ f events attributes

  -- registers alone
  pub record Quiet (mv : Move) (a : Act) (u : State) : Type 0 where
    pub to : Registers
    pub does : Does mv (λ events attributes. turned (Go to) events attributes)
    pub dues : due a at n m ≡ nothing
    pub top : to.top ≡ st.top
    pub count : to.count ≡ st.count
    pub onward : Rep src (at + 1) to u (marks_by a at n m) n rs

  -- `</`: the innermost open name is read from its record
  pub record Closes (mv : Move) (a : Act) (u : State) : Type 0 where
    pub start : ℕ
    pub long : ℕ
    pub others : List Range
    pub open_is : rs ≡ range start long ∷ others
    pub does : Does mv (λ events attributes. turned (Go (closing_of st mv.mode at events)) events attributes)
    pub dues : due a at n m ≡ nothing
    pub onward : Rep src (at + 1) (with_name start long (at_mark_of (at + 1) (in_mode mv.mode st))) u (marks_by a at n m) n rs

  -- a run of text ends
  pub record Texts (mv : Move) (a : Act) (u : State) : Type 0 where
    pub does : Does mv (λ events attributes. by_events (act_text st mv.mode at events) attributes)
    pub dues : due a at n m ≡ text_due st.mark at
    pub onward : (count : ℕ) → Rep src (at + 1) (with_count count (fresh_of st mv.mode at)) u (marks_by a at n m) n rs

  -- a start tag ends, and its name may end with it: `from` has the name
  pub record Starts (mv : Move) (a : Act) (u : State) : Type 0 where
    pub from : Registers
    pub does : Does mv (λ events attributes. by_events (act_start from at events) attributes)
    pub dues : due a at n m ≡ event (rec kind.start from.name from.long (unless0 from.first (from.kept - from.first)) (from.kept - from.first))
    pub top : from.top ≡ st.top
    pub count : from.count ≡ st.count
    pub within : from.name + from.long ≤ length src
    pub onward : (top count : ℕ) → Rep src (at + 1) (with_count count (settled_of from row.text_in_of at top)) u (marks_by a at n m) n (range from.name from.long ∷ rs)

  pub record Empties (mv : Move) (a : Act) (u : State) : Type 0 where
    pub does : Does mv (λ events attributes. by_events (act_empty st at events) attributes)
    pub dues : due a at n m ≡ event (rec kind.empty st.name st.long (unless0 st.first (st.kept - st.first)) (st.kept - st.first))
    pub onward : (top count : ℕ) → Rep src (at + 1) (with_count count (settled_of st (shut_in rs) at top)) u (marks_by a at n m) n rs

  pub record Ends (mv : Move) (a : Act) (u : State) : Type 0 where
    pub start : ℕ
    pub long : ℕ
    pub others : List Range
    pub open_is : rs ≡ range start long ∷ others
    pub does : Does mv (λ events attributes. by_events (act_end st at events) attributes)
    pub dues : due a at n m ≡ event (rec kind.end st.mark st.long 0 0)
    pub onward : (top count : ℕ) → Rep src (at + 1) (with_count count (settled_of st (shut_in others) at top)) u (marks_by a at n m) n others

  -- a reference in content, a comment, an instruction, a section
  pub record Between (mv : Move) (a : Act) (u : State) : Type 0 where
    pub k : ℕ
    pub end : ℕ
    pub does : Does mv (λ events attributes. by_events (put_over (fresh_of st st.home at) k st.mark end events) attributes)
    pub dues : due a at n m ≡ event (over k st.mark end)
    pub onward : (count : ℕ) → Rep src (at + 1) (with_count count (fresh_of st st.home at)) u (marks_by a at n m) n rs

  pub record Values (mv : Move) (a : Act) (u : State) : Type 0 where
    pub does : Does mv (λ events attributes. by_attributes (act_value st mv.mode at attributes) events)
    pub dues : due a at n m ≡ attribute (rec 0 st.key st.wide (unless0 st.mark (at - st.mark)) (at - st.mark))
    pub onward : Rep src (at + 1) (with_kept (st.kept + 1) (in_mode mv.mode st)) u (marks_by a at n m) (n + 1) rs

  -- THE MOVE AGREES with the step
  pub data Agree : Move → Next → Type 0 where
    wrong : {mv : Move} → Does mv (λ events attributes. turned Bad events attributes) → Agree mv no
    quietly : {mv : Move} {a : Act} {u : State} → Quiet mv a u → Agree mv (go a u)
    closing : {mv : Move} {a : Act} {u : State} → Closes mv a u → Agree mv (go a u)
    texting : {mv : Move} {a : Act} {u : State} → Texts mv a u → Agree mv (go a u)
    starting : {mv : Move} {a : Act} {u : State} → Starts mv a u → Agree mv (go a u)
    emptying : {mv : Move} {a : Act} {u : State} → Empties mv a u → Agree mv (go a u)
    closed : {mv : Move} {a : Act} {u : State} → Ends mv a u → Agree mv (go a u)
    between : {mv : Move} {a : Act} {u : State} → Between mv a u → Agree mv (go a u)
    valuing : {mv : Move} {a : Act} {u : State} → Values mv a u → Agree mv (go a u)
