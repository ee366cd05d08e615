-- Tokenizing: the answer for a source and both areas, byte by byte with its records. Definitions only.
use Rattle.std.specs.Prelude.{ℕ, ◌+◌, ◌-◌, ◌*◌, ◌/◌, List, [], ◌∷◌, ◌++◌, Bool, true, false, cond, ltb, eqb, length, replicate}
use Rattle.names.specs.of_area.Limits.{most_entries, most_bytes}
use Rattle.names.specs.of_refusal.Refusal.{nowhere}
use Rattle.table.specs.Kinds as kind
use Rattle.xml_machine.specs.State.{State, fresh, marked, lt_first, heading, decl, literal, prolog, epilog, text, lt, misc, section, ref, tag, ending, end_space, Act, Stay, Mark, Here, EndText, TextMark, Name, NameStart, NameEnd, Start, Empty, End, Key, Value, Ref, Comment, Pi, CData, Next, no, go}
use Rattle.xml_machine.specs.Machine.{step, done}
use Rattle.xml_machine.specs.Runs.{is_doctype}

-- five words: an event, kind, start, length, first attribute, count; or an attribute, mark, key's start and length, value's start and length
pub data Rec : Type 0 where
  rec : ℕ → ℕ → ℕ → ℕ → ℕ → Rec

-- a start without length, or a first attribute without count, is 0 (rule N4)
abbrev pub unless0 : ℕ → ℕ → ℕ
unless0 start size = cond (eqb size 0) 0 start

-- an event over the bytes from `from` up to `to`
abbrev pub over : ℕ → ℕ → ℕ → Rec
over k from to = rec k (unless0 from (to - from)) (to - from) 0 0

-- ---- marks: where a run, a name, a value, or what stands between marks begins; where the tag's name lies, where the key lies; the
-- number of attributes before the tag
pub record Marks : Type 0 where
  pub mark : ℕ
  pub name_from : ℕ
  pub name_to : ℕ
  pub key_from : ℕ
  pub key_to : ℕ
  pub first : ℕ

abbrev pub no_marks : Marks
no_marks = record { mark = 0; name_from = 0; name_to = 0; key_from = 0; key_to = 0; first = 0 }

abbrev pub marking : ℕ → Marks → Marks
marking at m = record { mark = at; name_from = m.name_from; name_to = m.name_to; key_from = m.key_from; key_to = m.key_to; first = m.first }

abbrev pub naming : ℕ → ℕ → Marks → Marks
naming at count m = record { mark = m.mark; name_from = m.mark; name_to = at; key_from = m.key_from; key_to = m.key_to; first = count }

abbrev pub keying : ℕ → Marks → Marks
keying at m = record { mark = m.mark; name_from = m.name_from; name_to = m.name_to; key_from = m.mark; key_to = at; first = m.first }

-- behind the byte at `at`, where `count` attributes stand
abbrev pub marks_by : Act → ℕ → ℕ → Marks → Marks
marks_by Stay at count m = m
marks_by Mark at count m = marking (at + 1) m
marks_by Here at count m = marking at m
marks_by EndText at count m = marking (at + 1) m
marks_by TextMark at count m = marking (at + 1) m
marks_by Name at count m = naming at count m
marks_by NameStart at count m = marking (at + 1) m
marks_by NameEnd at count m = marking (at + 1) m
marks_by Start at count m = marking (at + 1) m
marks_by Empty at count m = marking (at + 1) m
marks_by End at count m = marking (at + 1) m
marks_by Key at count m = keying at m
marks_by Value at count m = m
marks_by Ref at count m = marking (at + 1) m
marks_by Comment at count m = marking (at + 1) m
marks_by Pi at count m = marking (at + 1) m
marks_by CData at count m = marking (at + 1) m

-- ---- the records that are due
pub data Due : Type 0 where
  nothing : Due
  event attribute : Rec → Due

-- a run of text that ends before `at`, if it has bytes
abbrev pub text_due : ℕ → ℕ → Due
text_due mark at = cond (ltb mark at) (event (over kind.text mark at)) nothing

-- a tag with its attributes, of which `count` stand in all
abbrev pub tag_due : ℕ → ℕ → Marks → Due
tag_due k count m = event (rec k m.name_from (m.name_to - m.name_from) (unless0 m.first (count - m.first)) (count - m.first))

-- rule N4
abbrev pub attribute_due : ℕ → Marks → Due
attribute_due at m = attribute (rec 0 m.key_from (m.key_to - m.key_from) (unless0 m.mark (at - m.mark)) (at - m.mark))

-- at the byte at `at`; a comment and a section end two bytes before their `>`, an instruction one (rule N3)
abbrev pub due : Act → ℕ → ℕ → Marks → Due
due Stay at count m = nothing
due Mark at count m = nothing
due Here at count m = nothing
due EndText at count m = text_due m.mark at
due TextMark at count m = text_due m.mark at
due Name at count m = nothing
due NameStart at count m = event (over kind.start m.mark at)
due NameEnd at count m = event (over kind.end m.mark at)
due Start at count m = tag_due kind.start count m
due Empty at count m = tag_due kind.empty count m
due End at count m = event (over kind.end m.name_from m.name_to)
due Key at count m = nothing
due Value at count m = attribute_due at m
due Ref at count m = event (over kind.ref m.mark at)
due Comment at count m = event (over kind.other m.mark (at - 2))
due Pi at count m = event (over kind.other m.mark (at - 1))
due CData at count m = event (over kind.cdata m.mark (at - 2))

-- the text run that is open in this state, which counts as ended where it is broken off, even within a character (rule N9)
abbrev pub open_run : State → ℕ → ℕ → Due
open_run fresh mark at = nothing
open_run marked mark at = nothing
open_run lt_first mark at = nothing
open_run (heading x) mark at = nothing
open_run (decl d) mark at = nothing
open_run (literal c cs g) mark at = nothing
open_run prolog mark at = text_due mark at
open_run epilog mark at = text_due mark at
open_run (text k p n ns) mark at = text_due mark at
open_run (lt pl) mark at = nothing
open_run (misc m p pl) mark at = nothing
open_run (section k p n ns) mark at = nothing
open_run (ref m p h) mark at = nothing
open_run (tag m p n ns) mark at = nothing
open_run (ending n ns) mark at = nothing
open_run (end_space ns) mark at = nothing

-- ---- the run
-- how many records the areas hold
pub record Room : Type 0 where
  pub events : ℕ
  pub attributes : ℕ

-- the records so far
pub record Kept : Type 0 where
  pub events : List Rec
  pub attributes : List Rec

abbrev pub nothing_kept : Kept
nothing_kept = record { events = []; attributes = [] }

-- the records of an accepted document; or a refusal's number and byte
pub data Out : Type 0 where
  read : Kept → Out
  refuse : ℕ → ℕ → Out

-- 16 where a record is due that doesn't fit (rule N9)
unfoldable pub keep : Room → Kept → Due → (Kept → Out) → Out
keep room kept nothing f = f kept
keep room kept (event r) f =
    cond (ltb (length kept.events) room.events) (f (record { events = kept.events ++ (r ∷ []); attributes = kept.attributes })) (refuse 16 nowhere)
keep room kept (attribute r) f =
    cond (ltb (length kept.attributes) room.attributes) (f (record { events = kept.events; attributes = kept.attributes ++ (r ∷ []) })) (refuse 16 nowhere)

-- behind the last byte: Eof, or what is missing (rules N3 and N6)
abbrev pub close : Bool → ℕ → Room → Kept → Out
close true at room kept = keep room kept (event (rec kind.eof 0 0 0 0)) read
close false at room kept = refuse 18 at

-- the refused byte at `at`, with what stands behind it (rule N6)
abbrev pub blamed : State → List ℕ → ℕ → Out
blamed s t at = cond (is_doctype s t) (refuse 19 (at - 2)) (refuse 18 at)

abbrev pub onward : Next → State → List ℕ → ℕ → Room → Marks → Kept → (State → Marks → Kept → Out) → Out
onward no s t at room m kept f = keep room kept (open_run s m.mark at) (λ _. blamed s t at)
onward (go a u) s t at room m kept f =
    keep room kept (due a at (length kept.attributes) m) (f u (marks_by a at (length kept.attributes) m))

unfoldable pub records : List ℕ → State → ℕ → Room → Marks → Kept → Out
records [] s at room m kept = keep room kept (open_run s m.mark at) (close (done s) at room)
records (b ∷ t) s at room m kept = onward (step s b) s (b ∷ t) at room m kept (λ u n k. records t u (at + 1) room n k)

-- ---- the answer and the areas
-- the numbers of events and attributes; or a refusal's number and byte, 4294967295 with 11 and 16
pub data Answer : Type 0 where
  done-with refused : ℕ → ℕ → Answer

pub record Result : Type 0 where
  pub answer : Answer
  pub events : List ℕ
  pub attributes : List ℕ

abbrev pub flat : List Rec → List ℕ
flat [] = []
flat (rec a b c d e ∷ rs) = a ∷ b ∷ c ∷ d ∷ e ∷ flat rs

-- the records at the front of an area of `words` words, zeros behind them
unfoldable pub laid_out : List Rec → ℕ → List ℕ
laid_out rs words = flat rs ++ replicate (words - length rs * 5) 0

-- rule N10
unfoldable pub resulting : Out → ℕ → ℕ → Result
resulting (read kept) events attributes =
    record { answer = done-with (length kept.events) (length kept.attributes); events = laid_out kept.events events; attributes = laid_out kept.attributes attributes }
resulting (refuse k q) events attributes = record { answer = refused k q; events = replicate events 0; attributes = replicate attributes 0 }

-- five words a record, and at most 65,536 of them (rule N9)
unfoldable pub room_of : ℕ → ℕ
room_of words = cond (ltb (words / 5) most_entries) (words / 5) most_entries

abbrev pub rooms : ℕ → ℕ → Room
rooms events attributes = record { events = room_of events; attributes = room_of attributes }

-- 11 before all else (rule N8)
abbrev pub outcome : List ℕ → Room → Out
outcome source room = cond (ltb most_bytes (length source)) (refuse 11 nowhere) (records source fresh 0 room no_marks nothing_kept)

-- a source, and areas of so many words for events and attributes (rules N2 and N10)
unfoldable pub tokens : List ℕ → ℕ → ℕ → Result
tokens source events attributes = resulting (outcome source (rooms events attributes)) events attributes
