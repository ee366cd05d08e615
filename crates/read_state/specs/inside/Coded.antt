-- The code's control and acts in the words of Control.antt. Definitions only.
use Rattle.std.specs.Prelude.{ℕ, List, Bool, true, false, cond, eqb}
use Rattle.tree_status.specs.of_tree_record.Kinds as kind
use Rattle.read_state.specs.Control.{Level, top, suite, case, status, Output, trace, out, err, Mode, at, gathering, listing, skipping, finished, Control, control, Act, pass, open_report}
use Rattle.read_state.specs.Control.{open_suite, open_case, open_status, close_suite, close_case, close_status, open_text, close_text, open_list, read_property, stop, missing, broken, or_skip, turn}
use Rattle.read_state.specs.declared.Level.{Level as CodedLevel}
use Rattle.read_state.specs.declared.Level.TheVariants.{Top, Suite, Case, Status}
use Rattle.read_state.specs.declared.Output.{Output as CodedOutput}
use Rattle.read_state.specs.declared.Output.TheVariants.{Trace, Out, Err}
use Rattle.read_state.specs.declared.Mode.{Mode as CodedMode}
use Rattle.read_state.specs.declared.Mode.TheVariants.{At, Text, List as Listing}
use Rattle.read_state.specs.declared.Control.{Control as CodedControl}
use Rattle.read_state.specs.declared.Act.{Act as CodedAct}
use Rattle.read_state.specs.declared.Act.TheVariants.{Pass, Skip, Open, Close, OpenText, CloseText, OpenList, CloseList, ReadProperty, Stop, Missing, Broken}

abbrev pub level_of : CodedLevel → Level
level_of Top = top
level_of Suite = suite
level_of Case = case
level_of Status = status

abbrev pub output_of : CodedOutput → Output
output_of Trace = trace
output_of Out = out
output_of Err = err

-- the mode inside an element of that level
abbrev pub mode_at : CodedMode → Level → Output → Mode
mode_at At l o = at l
mode_at Text l o = gathering l o
mode_at Listing l o = listing l

abbrev pub mode_of : CodedControl → Mode
mode_of c = mode_at c.mode (level_of c.level) (output_of c.output)

abbrev pub control_of : CodedControl → Control
control_of c = control (mode_of c) c.seen c.closed c.tally

-- the element that is open
abbrev pub level_in_of : Mode → Level
level_in_of (at l) = l
level_in_of (gathering l o) = l
level_in_of (listing l) = l
level_in_of (skipping m skipped depth) = level_in_of m
level_in_of finished = top

-- an element is opened by its record's kind
abbrev pub opening : ℕ → Bool → Act
opening k e = cond (eqb k kind.report) (open_report e) (cond (eqb k kind.suite) (open_suite e) (cond (eqb k kind.case) (open_case e) (open_status k e)))

-- the report has no act of its own that closes it
abbrev pub closing : Level → Act
closing top = close_suite
closing suite = close_suite
closing case = close_case
closing status = close_status

-- an act in a mode, at a tag of that name, which a skip remembers
abbrev pub act_in : Mode → List ℕ → CodedAct → Act
act_in m name Pass = pass m
act_in m name Skip = or_skip (level_in_of m) name
act_in m name (Open k e) = opening k e
act_in m name Close = closing (level_in_of m)
act_in m name (OpenText o) = open_text (level_in_of m) (output_of o)
act_in m name (CloseText o) = close_text (level_in_of m) (output_of o)
act_in m name (OpenList e) = open_list (level_in_of m) e
act_in m name CloseList = pass (at (level_in_of m))
act_in m name (ReadProperty e) = read_property (level_in_of m) e name
act_in m name Stop = stop
act_in m name Missing = missing
act_in m name (Broken why) = broken why

abbrev pub act_of : CodedControl → List ℕ → CodedAct → Act
act_of c name a = act_in (mode_of c) name a

-- the acts behind which reading goes on with the control that `turn` gives: a skip, that of a property's content too, is read
-- to its end, from where reading goes on as before it, and behind the stop nothing is read
abbrev pub is_step : CodedAct → Bool
is_step Pass = true
is_step Skip = false
is_step (Open k e) = true
is_step Close = true
is_step (OpenText o) = true
is_step (CloseText o) = true
is_step (OpenList e) = true
is_step CloseList = true
is_step (ReadProperty e) = e
is_step Stop = false
is_step Missing = true
is_step (Broken why) = true

abbrev pub turned : CodedAct → List ℕ → CodedControl → Control
turned a name c = cond (is_step a) (turn (act_of c name a) (control_of c)) (control_of c)

-- no element inside the report is open
abbrev pub is_top : Mode → Bool
is_top (at top) = true
is_top (at suite) = false
is_top (at case) = false
is_top (at status) = false
is_top (gathering l o) = false
is_top (listing l) = false
is_top (skipping m skipped depth) = false
is_top finished = false
