-- The loop's turn and what is behind it, on plain numbers and lists: what each contract says. Definitions only.
use Rattle.std.specs.Prelude.{ℕ, ◌-◌, List, Bool, not, cond, ◌&&◌, ◌||◌, leb, ltb, eqb, length, get_or, drop, replicate}
use Rattle.xml_stack.specs.of_names.Bytes.{bytes}
use Rattle.xml_stack.specs.of_refusal.Refusal.{nowhere}
use Rattle.xml_stack.specs.of_table.Kinds as kind
use Rattle.xml_stack.specs.of_xml_chars.Chars.{begins}
use Rattle.xml_stack.specs.of_xml_machine.Tokens.{Result}
use Rattle.xml_state.specs.Answer.{result}
use Rattle.xml_state.specs.inside.Rows as row
use Rattle.xml_state.specs.declared.State.{State}
use Rattle.xml_state.specs.declared.Step.{Step}
use Rattle.xml_state.specs.declared.Step.TheVariants.{Go, Full, Bad}
use Rattle.xml_state.specs.inside.Registers.{in_mode}
use Rattle.xml_state.specs.inside.Puts.{Turned, turned, room_for, put_over, act_text, act_on}
use Rattle.xml_state.specs.declared.Tokenized.{Tokenized}
use Rattle.xml_state.specs.declared.Tokenized.TheVariants.{Table, Refused}

-- a refusal leaves zeros
abbrev pub cleared : Tokenized → List ℕ → List ℕ → Result
cleared (Table n k) events attributes = result (Table n k) events attributes
cleared (Refused number byte) events attributes = result (Refused number byte) (replicate (length events) 0) (replicate (length attributes) 0)

-- one turn of the loop
unfoldable pub turn_of : State → ℕ → List ℕ → List ℕ → List ℕ → Turned
turn_of s at source events attributes =
    cond (eqb (row.move_of s.mode (get_or source at 0)).act row.stay)
    (turned (Go (in_mode (row.move_of s.mode (get_or source at 0)).mode s)) events attributes)
    (act_on s (row.move_of s.mode (get_or source at 0)) (get_or source at 0) at source events attributes)

abbrev pub run_mode : State → ℕ
run_mode s = cond (eqb s.mode row.within) s.then s.mode

-- the open run of text doesn't fit
abbrev pub run_full : State → ℕ → ℕ → Bool
run_full s at words = (leb (run_mode s) row.text_shut2 && ltb s.mark at) && not (room_for s.count words)

unfoldable pub broken_of : State → ℕ → ℕ → Tokenized
broken_of s at words = cond (run_full s at words) (Refused 16 nowhere) (Refused 18 at)

unfoldable pub refused_of : State → ℕ → List ℕ → ℕ → Tokenized
refused_of s at source words =
    cond ((eqb s.mode row.bang_out || eqb s.mode row.bang_in) && begins (bytes "DOCTYPE") (drop at source)) (Refused 19 (at - 2)) (broken_of s at words)

-- Eof, behind a step that put the run
pub record Ended : Type 0 where
  pub answer : Tokenized
  pub events : List ℕ

abbrev pub ended : Tokenized → List ℕ → Ended
ended r e = record { answer = r; events = e }

abbrev pub eof_by : Step → List ℕ → Ended
eof_by (Go s) events = ended (Table s.count s.kept) events
eof_by Full events = ended (Refused 16 nowhere) events
eof_by Bad events = ended (Refused 16 nowhere) events

unfoldable pub eof_of : State → List ℕ → Ended
eof_of s events = eof_by (put_over s kind.eof 0 0 events).step (put_over s kind.eof 0 0 events).events

abbrev pub finish_by : Step → List ℕ → Ended
finish_by (Go s) events = eof_of s events
finish_by Full events = ended (Refused 16 nowhere) events
finish_by Bad events = ended (Refused 16 nowhere) events

unfoldable pub finish_of : State → ℕ → List ℕ → Ended
finish_of s at events =
    cond (eqb s.mode row.text_after_of)
    (finish_by (act_text s s.mode at events).step (act_text s s.mode at events).events)
    (ended (broken_of s at (length events)) events)
