-- What the code does to its registers and the two areas, on plain numbers and lists: what each contract says. Definitions only.
use Rattle.std.specs.Prelude.{ℕ, ◌+◌, ◌-◌, ◌/◌, List, Bool, cond, ◌&&◌, ◌||◌, ltb, eqb, length, get_or, set}
use Rattle.xml_stack.specs.of_area.Limits.{most_entries}
use Rattle.xml_stack.specs.of_table.Kinds as kind
use Rattle.xml_stack.specs.of_xml_machine.Tokens.{unless0}
use Rattle.xml_stack.specs.Stack.{put_at}
use Rattle.xml_state.specs.declared.Move.{Move}
use Rattle.xml_state.specs.inside.Rows as row
use Rattle.xml_state.specs.declared.State.{State}
use Rattle.xml_state.specs.declared.Step.{Step}
use Rattle.xml_state.specs.declared.Step.TheVariants.{Go, Full}
use Rattle.xml_state.specs.inside.Registers.{in_mode, at_home, at_mark_of, with_kept, with_top, with_count}
use Rattle.xml_state.specs.inside.Acts.{named_of, record_at, acted_of}

-- a step, and what it leaves in the event area; or in both
pub record Stepped : Type 0 where
  pub step : Step
  pub events : List ℕ

abbrev pub stepped : Step → List ℕ → Stepped
stepped s e = record { step = s; events = e }

pub record Turned : Type 0 where
  pub step : Step
  pub events : List ℕ
  pub attributes : List ℕ

abbrev pub turned : Step → List ℕ → List ℕ → Turned
turned s e a = record { step = s; events = e; attributes = a }

unfoldable pub room_for : ℕ → ℕ → Bool
room_for n words = ltb n most_entries && ltb n (words / 5)

-- record number n put, and the state behind it
unfoldable pub putting : State → ℕ → ℕ → ℕ → ℕ → ℕ → List ℕ → Stepped
putting s kind start size first count events =
    cond (room_for s.count (length events))
    (stepped (Go (with_count (s.count + 1) s)) (put_at events s.count kind start size first count))
    (stepped Full events)

abbrev pub put_over : State → ℕ → ℕ → ℕ → List ℕ → Stepped
put_over s kind from to events = putting s kind (unless0 from (to - from)) (to - from) 0 0 events

abbrev pub put_tag : State → ℕ → List ℕ → Stepped
put_tag s kind events = putting s kind s.name s.long (unless0 s.first (s.kept - s.first)) (s.kept - s.first) events

abbrev pub fresh_of : State → ℕ → ℕ → State
fresh_of s m at = at_mark_of (at + 1) (in_mode m s)

abbrev pub settled_of : State → ℕ → ℕ → ℕ → State
settled_of s m at top = with_top top (at_mark_of (at + 1) (at_home m (in_mode m s)))

abbrev pub shut_mode : ℕ → ℕ
shut_mode top = cond (eqb top 0) row.text_after_of row.text_in_of

unfoldable pub act_text : State → ℕ → ℕ → List ℕ → Stepped
act_text s m at events = cond (ltb s.mark at) (put_over (fresh_of s m at) kind.text s.mark at events) (stepped (Go (fresh_of s m at)) events)

unfoldable pub act_start : State → ℕ → List ℕ → Stepped
act_start s at events = put_tag (settled_of s row.text_in_of at (s.count + 1)) s.top events

unfoldable pub act_empty : State → ℕ → List ℕ → Stepped
act_empty s at events = put_tag (settled_of s (shut_mode s.top) at s.top) kind.empty events

unfoldable pub act_end : State → ℕ → List ℕ → Stepped
act_end s at events =
    putting (settled_of s (shut_mode (get_or events (record_at s.top) 0)) at (get_or events (record_at s.top) 0)) kind.end s.mark s.long 0 0
    (set events (record_at s.top) 0)

abbrev pub in_value : ℕ → Bool
in_value m = eqb m row.value_d || eqb m row.value_s

unfoldable pub act_ref : State → ℕ → List ℕ → Stepped
act_ref s at events =
    cond (in_value s.home) (stepped (Go (in_mode s.home s)) events) (put_over (fresh_of s s.home at) kind.ref s.mark at events)

unfoldable pub act_between : State → ℕ → ℕ → ℕ → List ℕ → Stepped
act_between s k closing at events = put_over (fresh_of s s.home at) k s.mark (at - closing) events

-- an attribute
unfoldable pub act_value : State → ℕ → ℕ → List ℕ → Stepped
act_value s m at attributes =
    cond (room_for s.kept (length attributes))
    (stepped (Go (with_kept (s.kept + 1) (in_mode m s))) (put_at attributes s.kept 0 s.key s.wide (unless0 s.mark (at - s.mark)) (at - s.mark)))
    (stepped Full attributes)

-- ---- every act
abbrev pub by_events : Stepped → List ℕ → Turned
by_events p attributes = turned p.step p.events attributes

abbrev pub by_attributes : Stepped → List ℕ → Turned
by_attributes p events = turned p.step events p.events

unfoldable pub act_on : State → Move → ℕ → ℕ → List ℕ → List ℕ → List ℕ → Turned
act_on s m b at source events attributes =
    cond (eqb m.act row.text_end) (by_events (act_text s m.mode at events) attributes)
    (cond (eqb m.act row.name_start_end) (by_events (act_start (named_of s m.mode at) at events) attributes)
    (cond (eqb m.act row.start_end) (by_events (act_start s at events) attributes)
    (cond (eqb m.act row.empty_end) (by_events (act_empty s at events) attributes)
    (cond (eqb m.act row.end_end) (by_events (act_end s at events) attributes)
    (cond (eqb m.act row.ref_end) (by_events (act_ref s at events) attributes)
    (cond (eqb m.act row.comment_end) (by_events (act_between s kind.other 2 at events) attributes)
    (cond (eqb m.act row.pi_end) (by_events (act_between s kind.other 1 at events) attributes)
    (cond (eqb m.act row.cdata_end) (by_events (act_between s kind.cdata 2 at events) attributes)
    (cond (eqb m.act row.value_ended) (by_attributes (act_value s m.mode at attributes) events)
    (turned (acted_of s m b at source events) events attributes))))))))))
