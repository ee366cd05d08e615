-- Reading as a machine over resolved events. Definitions only.
use Rattle.std.specs.Prelude.{ℕ, List, [], ◌∷◌, false, cond, length}
use Rattle.text_pieces.specs.of_refusal.Refusal.{nowhere, Outcome, accepted}
use Rattle.table_events.specs.of_table.Event.{Attribute, Event, Tag, Piece, Eof, Fault}
use Rattle.read_path.specs.of_tree_status.Status.{no_status}
use Rattle.read_path.specs.of_read_element.Outcome.{◌>>=◌, Rooms}
use Rattle.read_path.specs.of_read_state.Control.{top, at, Control, control, Act, gathers, turn}
use Rattle.read_path.specs.of_read_rules.Rules.{plan_at, plan_eof, plan_fault}
use Rattle.read_path.specs.of_read_place.Marks.{Marks, marks, marks_after, onward}
use Rattle.read_path.specs.Paths.{mode_path, act_place}
use Rattle.read_content.specs.Content.{Content, gather, perform}

pub record Machine : Type 0 where
  pub control : Control
  pub content : Content
  pub marks : Marks

-- ---- steps
unfoldable pub act : Rooms → Act → ℕ → List Attribute → Machine → Outcome Machine
act rooms a j xs s =
    perform rooms (act_place a s.control.mode s.marks) a j xs s.control s.marks s.content >>= λ c.
    accepted (record { control = turn a s.control; content = c; marks = onward (marks_after a (length s.content.records) s.marks) })

unfoldable pub step : Rooms → Event → Machine → Outcome Machine
step rooms (Tag k name j xs) s = act rooms (plan_at s.control.mode s.control.seen k name) j xs s
step rooms (Piece k bytes) s =
    cond (gathers s.control.mode)
    (gather rooms (record { path = mode_path s.control.mode s.marks; event = s.marks.event; attribute = nowhere }) s.control.mode k bytes s.content)
    (accepted s.content) >>= λ c.
    accepted (record { control = s.control; content = c; marks = onward s.marks })
step rooms Eof s = act rooms (plan_eof s.control.mode s.control.seen s.control.closed) 0 [] s
step rooms Fault s = act rooms (plan_fault s.control.mode) 0 [] s

-- the table's end is read as Eof (rule T5), and nothing behind the first refusal (rule F2)
unfoldable pub run : Rooms → List Event → Machine → Outcome Machine
run rooms [] s = step rooms Eof s
run rooms (e ∷ es) s = step rooms e s >>= λ t. run rooms es t

abbrev pub begin : Machine
begin =
    record {
      control = control (at top) false false no_status;
      content = record { records = []; texts = []; description = []; gathered = [] };
      marks = marks 0 0 0 0 0 0 0 0 0 0;
    }
