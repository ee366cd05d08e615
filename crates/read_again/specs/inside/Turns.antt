-- One event gone over again. Definitions only.
use Rattle.std.specs.Prelude.{ℕ, ◌+◌, ◌-◌, ◌≤◌, ◌<◌, ◌≡◌, List, [], ◌++◌, length, take, drop, Option, Some, None, Result, Ok, Err}
use Rattle.read_pieces.specs.of_area.Area.{laid}
use Rattle.read_pieces.specs.of_table.Table.{count_of}
use Rattle.read_pieces.specs.of_table.Event.{Event, kind_at, resolve_from}
use Rattle.read_pieces.specs.of_text.declared.kept.Unkept.{Unkept}
use Rattle.read_pieces.specs.of_text.declared.kept.Unkept.TheVariants as kept
use Rattle.read_pieces.specs.of_read_state.Control.{status, Mode, at, skipping, Act}
use Rattle.read_pieces.specs.of_read_state.inside.Coded.{output_of, mode_at, act_in}
use Rattle.read_pieces.specs.of_read_state.declared.Mode.{Mode as CodedMode}
use Rattle.read_pieces.specs.of_read_state.declared.Mode.TheVariants.{At}
use Rattle.read_pieces.specs.of_refusal.declared.Cause.{Cause}
use Rattle.read_pieces.specs.of_read_state.declared.Output.{Output as CodedOutput}
use Rattle.read_pieces.specs.of_read_state.declared.Act.{Act as CodedAct}
use Rattle.read_again.specs.declared.Again.{Again}
use Rattle.read_again.specs.declared.Led.{Led}
use Rattle.read_again.specs.declared.Led.TheVariants as led
use Rattle.read_again.specs.Told.{along, told}

abbrev pub put_by : Result ℕ Unkept → Option ℕ
put_by (Ok n) = Some n
put_by (Err kept.Full) = None
put_by (Err kept.NotUtf8) = Some 0
put_by (Err kept.BadReference) = Some 0
put_by (Err kept.UnknownName) = Some 0

-- where an act at a tag of that name leads
abbrev pub Leads : Act → List ℕ → Led → Type 0
Leads a name (led.To n p) = (f : Mode → List ℕ) → along a f ≡ f (mode_at n status (output_of p))
Leads a name led.Skip = (f : Mode → List ℕ) → along a f ≡ f (skipping (at status) name 0)
Leads a name led.End = (f : Mode → List ℕ) → along a f ≡ []

abbrev pub LedBy : CodedMode → CodedOutput → CodedAct → List ℕ → Led → Type 0
LedBy m o a name r = Leads (act_in (mode_at m status (output_of o)) name a) name r

-- behind a skip
abbrev pub turn_behind : Result ℕ (Cause × ℕ) → CodedOutput → ℕ → Option Again
turn_behind (Ok j) o k = Some (record { mode = At; output = o; event = j; fill = k })
turn_behind (Err (why, j)) o k = None

-- the kinds of a table that 11 lets pass
abbrev pub Known : List ℕ → Type 0
Known events = (i : ℕ) → i < count_of events → kind_at events i ≤ 9

abbrev pub rest : (events attributes source : List ℕ) → ℕ → List Event
rest events attributes source i = resolve_from events attributes source (count_of events - i) i

-- what is told from where it stands
abbrev pub told_from : (events attributes source : List ℕ) → Again → List ℕ
told_from events attributes source a = told (mode_at a.mode status (output_of a.output)) (rest events attributes source a.event)

-- it goes on behind the event, with v put
pub record Went (events source before after : List ℕ) (a b : Again) : Type 0 where
  pub more : List ℕ
  pub tells : (attributes : List ℕ) → told_from events attributes source a ≡ more ++ told_from events attributes source b
  pub later : a.event < b.event
  pub within : b.event ≤ count_of events
  pub fill : b.fill ≡ a.fill + length more
  pub fits : length more ≤ length before - a.fill
  pub area : after ≡ take a.fill before ++ laid (drop a.fill before) more

pub record Over (events source before after : List ℕ) (a : Again) : Type 0 where
  pub more : List ℕ
  pub behind : List ℕ → List ℕ
  pub tells : (attributes : List ℕ) → told_from events attributes source a ≡ more ++ behind attributes
  pub over : length before - a.fill < length more
  pub area : after ≡ take a.fill before ++ laid (drop a.fill before) more

-- what an event comes to: where it stands behind it, none at the end; none at all where a piece has no room
abbrev pub Turned : (events source before after : List ℕ) → Again → Option (Option Again) → Type 0
Turned events source before after a (Some (Some b)) = Went events source before after a b
Turned events source before after a (Some None) = ((attributes : List ℕ) → told_from events attributes source a ≡ []) × (after ≡ before)
Turned events source before after a None = Over events source before after a
