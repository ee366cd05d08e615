-- What the code does to its registers, on plain numbers and lists: what each contract says. Definitions only.
use Rattle.std.specs.Prelude.{ℕ, ◌+◌, ◌-◌, ◌*◌, List, ◌∷◌, ◌++◌, cond, ltb, eqb, get_or, Option, Some, None}
use Rattle.xml_stack.specs.of_names.Bytes.{bytes}
use Rattle.xml_stack.specs.of_xml_chars.Chars.{lower}
use Rattle.xml_state.specs.declared.Part.{Part}
use Rattle.xml_state.specs.declared.class.Class.{Class}
use Rattle.xml_state.specs.declared.class.Class.TheVariants.{Any, Start, Name}
use Rattle.xml_state.specs.inside.Parts.{lead_of, follow_of}
use Rattle.xml_state.specs.declared.Move.{Move}
use Rattle.xml_state.specs.inside.Rows as row
use Rattle.xml_state.specs.declared.State.{State}
use Rattle.xml_state.specs.inside.Registers.{in_mode, at_home, to_then, at_word, at_mark_of, with_first_of, with_name, with_key, with_part}
use Rattle.xml_state.specs.declared.Step.{Step}
use Rattle.xml_state.specs.declared.Step.TheVariants.{Go, Bad}

-- ---- a further byte of a character
abbrev pub further_by : Option Part → State → Step
further_by (Some p) s = Go (with_part p (in_mode (cond (eqb p.left 0) s.then s.mode) s))
further_by None s = Bad

unfoldable pub further_of : State → ℕ → Step
further_of s b = further_by (follow_of s.part b) s

-- ---- fixed bytes, each ended by a newline, or by a tab where something is marked behind it
unfoldable pub words : List ℕ
words = bytes "\nCDATA[\tersion\nncoding\ntandalone\n1.\nes\no\n" ++ (0xBB ∷ 0xBF ∷ bytes "\tutf-8\n")

-- in any letter case from 44 on
abbrev pub letter_of : ℕ → ℕ → ℕ
letter_of w b = cond (ltb w 44) b (lower b)

abbrev pub next_letter : State → State
next_letter s = at_word (cond (ltb s.word 255) (s.word + 1) 0) s

unfoldable pub spelled_of : State → ℕ → ℕ → Step
spelled_of s b at =
    cond (eqb (letter_of s.word b) (get_or words s.word 0))
    (cond (eqb (get_or words (s.word + 1) 0) 10) (Go (in_mode s.then s))
    (cond (eqb (get_or words (s.word + 1) 0) 9) (Go (at_mark_of (at + 1) (in_mode s.then s))) (Go (next_letter s))))
    Bad

-- ---- a byte of an end tag's name
unfoldable pub wanted_of : State → ℕ → ℕ → List ℕ → Step
wanted_of s b at source =
    cond (eqb b (get_or source (s.name + (at - s.mark)) 0))
    (cond (ltb (at - s.mark + 1) s.long) (Go s) (Go (in_mode row.end_tag s)))
    Bad

-- ---- marks
abbrev pub named_of : State → ℕ → ℕ → State
named_of s m at = with_first_of s.kept (with_name s.mark (at - s.mark) (in_mode m s))

abbrev pub keyed_of : State → ℕ → ℕ → State
keyed_of s m at = with_key s.mark (at - s.mark) (in_mode m s)

abbrev pub quoted_of : State → ℕ → ℕ → State
quoted_of s m at = at_mark_of (at + 1) (at_home m (in_mode m s))

-- an open element's record, by its number + 1
abbrev pub record_at : ℕ → ℕ
record_at top = (top - 1) * 5

unfoldable pub closing_of : State → ℕ → ℕ → List ℕ → State
closing_of s m at events = with_name (get_or events (record_at s.top + 1) 0) (get_or events (record_at s.top + 2) 0) (at_mark_of (at + 1) (in_mode m s))

-- ---- what has more than one byte begins
abbrev pub led_of : State → ℕ → Class → ℕ → State
led_of s m class b = with_part (lead_of class b) (to_then m (in_mode row.within s))

-- where the fixed bytes of an act begin
abbrev pub word_of : ℕ → ℕ
word_of a =
    cond (eqb a 0x30) 1 (cond (eqb a 0x31) 8 (cond (eqb a 0x32) 15 (cond (eqb a 0x33) 23 (cond (eqb a 0x34) 33
    (cond (eqb a 0x35) 36 (cond (eqb a 0x36) 39 (cond (eqb a 0x37) 41 44)))))))

abbrev pub spelling_of : State → ℕ → ℕ → State
spelling_of s m a = at_word (word_of a) (to_then m (in_mode row.spelled s))

unfoldable pub opened_of : State → Move → ℕ → ℕ → State
opened_of s m b at =
    cond (eqb m.act row.lead_any) (led_of s m.mode Any b)
    (cond (eqb m.act row.lead_start) (led_of s m.mode Start b)
    (cond (eqb m.act row.lead_here) (led_of (at_mark_of at (in_mode m.mode s)) m.mode Start b)
    (cond (eqb m.act row.lead_name) (led_of s m.mode Name b) (spelling_of s m.mode m.act))))

-- ---- the acts that put no record
unfoldable pub acted_of : State → Move → ℕ → ℕ → List ℕ → List ℕ → Step
acted_of s m b at source events =
    cond (eqb m.act 0x2D) Bad
    (cond (eqb m.act row.wanted) (wanted_of s b at source)
    (cond (eqb m.act row.further) (further_of s b)
    (cond (eqb m.act row.letter) (spelled_of s b at)
    (cond (eqb m.act row.here) (Go (at_mark_of at (in_mode m.mode s)))
    (cond (eqb m.act row.marked) (Go (at_mark_of (at + 1) (in_mode m.mode s)))
    (cond (eqb m.act row.name_end) (Go (named_of s m.mode at))
    (cond (eqb m.act row.key_end) (Go (keyed_of s m.mode at))
    (cond (eqb m.act row.quoted) (Go (quoted_of s m.mode at))
    (cond (eqb m.act row.closing) (Go (closing_of s m.mode at events)) (Go (opened_of s m b at)))))))))))
