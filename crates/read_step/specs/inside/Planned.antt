-- What is done at an event, by its kind. Definitions only.
use Rattle.std.specs.Prelude.{ℕ, List, [], Bool, true, false, cond, not, eqb}
use Rattle.read_actions.specs.of_read_state.Control.{Control, Act, pass, open_report, open_suite, open_case, open_status, close_suite, close_case}
use Rattle.read_actions.specs.of_read_state.Control.{close_status, open_text, close_text, open_list, read_property, stop, missing, broken}
use Rattle.read_actions.specs.of_read_rules.Rules.{plan_at, plan_eof, plan_fault}
use Rattle.read_actions.specs.of_table.Event.{tag_kind}
use Rattle.read_actions.specs.of_read_state.declared.Act.{Act as CodedAct}
use Rattle.read_actions.specs.of_read_state.declared.Act.TheVariants.{Pass, Skip, Open, Close, OpenText, CloseText, OpenList, CloseList, ReadProperty, Stop, Missing, Broken}

-- 7 is Eof, 8 Fault (rule T3), else a tag of that name
abbrev pub planned : Control → ℕ → List ℕ → Act
planned k kind name =
    cond (eqb kind 7) (plan_eof k.mode k.seen k.closed)
    (cond (eqb kind 8) (plan_fault k.mode) (plan_at k.mode k.seen (tag_kind kind) name))

-- Eof and Fault have no name
abbrev pub name_in : ℕ → List ℕ → List ℕ
name_in kind name = cond (eqb kind 7) [] (cond (eqb kind 8) [] name)

abbrev pub is_skip : CodedAct → Bool
is_skip Pass = false
is_skip Skip = true
is_skip (Open k e) = false
is_skip Close = false
is_skip (OpenText o) = false
is_skip (CloseText o) = false
is_skip (OpenList e) = false
is_skip CloseList = false
is_skip (ReadProperty e) = false
is_skip Stop = false
is_skip Missing = false
is_skip (Broken why) = false

abbrev pub is_stop : CodedAct → Bool
is_stop Pass = false
is_stop Skip = false
is_stop (Open k e) = false
is_stop Close = false
is_stop (OpenText o) = false
is_stop (CloseText o) = false
is_stop (OpenList e) = false
is_stop CloseList = false
is_stop (ReadProperty e) = false
is_stop Stop = true
is_stop Missing = false
is_stop (Broken why) = false

abbrev pub is_close : CodedAct → Bool
is_close Close = true
is_close Pass = false
is_close Skip = false
is_close (Open k e) = false
is_close (OpenText o) = false
is_close (CloseText o) = false
is_close (OpenList e) = false
is_close CloseList = false
is_close (ReadProperty e) = false
is_close Stop = false
is_close Missing = false
is_close (Broken why) = false

-- the End of a suite, a case or a status element
abbrev pub closes : Act → Bool
closes close_suite = true
closes close_case = true
closes close_status = true
closes (pass m) = false
closes (open_report e) = false
closes (open_suite e) = false
closes (open_case e) = false
closes (open_status k e) = false
closes (open_text l o) = false
closes (close_text l o) = false
closes (open_list l e) = false
closes (read_property l e name) = false
closes stop = false
closes missing = false
closes (broken why) = false

-- a Start `property`
abbrev pub has_content : CodedAct → Bool
has_content Pass = false
has_content Skip = false
has_content (Open k e) = false
has_content Close = false
has_content (OpenText o) = false
has_content (CloseText o) = false
has_content (OpenList e) = false
has_content CloseList = false
has_content (ReadProperty e) = not e
has_content Stop = false
has_content Missing = false
has_content (Broken why) = false

-- it is read as an Empty one
abbrev pub plain_of : CodedAct → CodedAct
plain_of a = cond (has_content a) (ReadProperty true) a
