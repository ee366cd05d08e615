-- What each action does to records and texts, and when it refuses. Definitions only.
use Rattle.std.specs.Prelude.{ℕ, zero, suc, ◌+◌, List, [], ◌∷◌, ◌++◌, Bool, true, false, cond, length, set, leb, eqb}
use Rattle.trim.specs.of_area.Answer.{Answer, gives, refuses}
use Rattle.trim.specs.of_utf8.Utf8.{utf8}
use Rattle.trim.specs.of_utf8.Characters.{encode}
use Rattle.trim.specs.Trim.{trimmed}
use Rattle.read_attributes.specs.of_text_filter.Filter.{filtered}
use Rattle.read_attributes.specs.of_reference.Reference.{refs_ok, decoded, is_named, char_of, unnamed}
use Rattle.trim.specs.of_refusal.Refusal.{Outcome, accepted}
use Rattle.read_rules.specs.of_table.Event.{Attribute, PieceKind, Text, CData, Ref, Other, Indent}
use Rattle.read_rules.specs.of_tree_record.Words as word
use Rattle.read_rules.specs.of_tree_record.Bits as bit
use Rattle.read_rules.specs.of_tree_record.Kinds as kind
use Rattle.read_rules.specs.of_tree_record.Record.{kind_of, live}
use Rattle.read_rules.specs.of_tree_status.Status.{ruled}
use Rattle.read_attributes.specs.of_read_element.Outcome.{◌>>=◌, Place, refused_at, there, need, Rooms, fits}
use Rattle.read_attributes.specs.of_tree_put.Put.{put_text}
use Rattle.read_attributes.specs.of_read_element.Attributes.{changed, storing, Grown, read_element}
use Rattle.read_place.specs.of_read_state.Control.{Level, top, suite, case, status, Output, trace, out, err, Mode, at, gathering, listing, skipping, finished, Control}
use Rattle.read_place.specs.of_read_state.Control.{Act, pass, open_report, open_suite, open_case, open_status, close_suite, close_case, close_status, open_text, close_text, open_list, read_property, stop, missing, broken}
use Rattle.read_place.specs.Marks.{Marks}
use Rattle.trim.specs.of_refusal.declared.Cause.TheVariants as cause

-- the records, the texts stored, the open description, and the text of a child (rule M6)
pub record Content : Type 0 where
  pub records : List (List ℕ)
  pub texts : List ℕ
  pub description : List ℕ
  pub gathered : List ℕ

-- ---- records
-- marked dead, in its place (rule M3)
abbrev pub killed : List ℕ → List ℕ
killed r = cond (live r) (set r word.kind (kind_of r + kind.dead)) r

-- a report that is replaced is gone with its suites (rule R3)
abbrev pub kill_all : List (List ℕ) → List (List ℕ)
kill_all [] = []
kill_all (r ∷ rs) = killed r ∷ kill_all rs

-- of the records from number i on, those of a kind: the properties of the list before (rule R17)
abbrev pub kill_kind : ℕ → ℕ → List (List ℕ) → List (List ℕ)
kill_kind k i [] = []
kill_kind k zero (r ∷ rs) = cond (eqb (kind_of r) k) (killed r) r ∷ kill_kind k zero rs
kill_kind k (suc i) (r ∷ rs) = r ∷ kill_kind k i rs

abbrev pub property_kind : Level → ℕ
property_kind suite = kind.suite_property
property_kind case = kind.case_property
property_kind top = kind.suite_property
property_kind status = kind.case_property

abbrev pub record_of_it : Level → Marks → ℕ
record_of_it suite m = m.suite_at_of
record_of_it case m = m.case_at_of
record_of_it status m = m.status_at_of
record_of_it top m = 0

-- the word and presence bit of an output
abbrev pub word_of : Output → ℕ
word_of out = word.out
word_of err = word.err
word_of trace = word.stack_trace

abbrev pub bit_of : Output → ℕ
bit_of out = bit.out
bit_of err = bit.err
bit_of trace = bit.stack_trace

-- the record of a main takes no stack trace and no outputs (rule S12)
abbrev pub takes : Level → Marks → Bool
takes status m = leb kind.flaky_failure m.status_kind_of
takes suite m = true
takes case m = true
takes top m = false

abbrev pub kept : Bool → (List ℕ → List ℕ) → List ℕ → List ℕ
kept true f r = f r
kept false f r = r

-- ---- pieces of text
-- a piece decoded (rule X9); the name of a Ref stands for what it does in a value, else it is 10 (rule X6) or 21 (rule X7)
unfoldable pub piece_of : PieceKind → List ℕ → Answer (List ℕ)
piece_of Text s = cond (utf8 s) (cond (refs_ok s 0) (gives (decoded s 0)) (refuses cause.BadReference)) (refuses cause.NotUtf8)
piece_of CData s = cond (utf8 s) (gives s) (refuses cause.NotUtf8)
piece_of Ref s = cond (utf8 s) (cond (is_named s) (gives (encode (char_of s))) (refuses (unnamed s))) (refuses cause.NotUtf8)
piece_of Indent s = gives s
piece_of Other s = gives []

abbrev pub with_texts : Content → List ℕ → List ℕ → Content
with_texts c d g = record { records = c.records; texts = c.texts; description = d; gathered = g }

-- to the open description (rule X11), or to the text of a child (rule M6)
abbrev pub join_piece : Mode → List ℕ → Content → Content
join_piece (at l) v c = with_texts c (c.description ++ v) c.gathered
join_piece (gathering l o) v c = with_texts c c.description (c.gathered ++ v)
join_piece (listing l) v c = c
join_piece (skipping m name depth) v c = c
join_piece finished v c = c

-- the text that a piece goes to
abbrev pub own : Mode → Content → List ℕ
own (at l) c = c.description
own (gathering l o) c = c.gathered
own (listing l) c = []
own (skipping m name depth) c = []
own finished c = []

-- a piece is decoded, and goes to its text, which is no longer than scratch (rule M6); 14 and 21 have the path of the text (rules F9 and F12)
unfoldable pub gather : Rooms → Place → Mode → PieceKind → List ℕ → Content → Outcome Content
gather rooms p mode k s c =
    there p (piece_of k s) >>= λ v.
    need (fits rooms.scratch (length (own mode c) + length v)) p cause.ScratchFull (accepted (join_piece mode v c))

-- ---- actions
abbrev pub grown : Content → Grown → Content
grown c g = record { records = g.records; texts = g.texts; description = c.description; gathered = c.gathered }

unfoldable pub adding : Rooms → Place → ℕ → ℕ → List Attribute → Content → Outcome Content
adding rooms p k j xs c = read_element rooms p k j xs c.records c.texts >>= λ g. accepted (grown c g)

abbrev pub with_records : Content → List (List ℕ) → Content
with_records c rs = record { records = rs; texts = c.texts; description = c.description; gathered = c.gathered }

-- a gathered text, trimmed and then filtered (rule X10)
abbrev pub cleaned : List ℕ → List ℕ
cleaned v = filtered (trimmed v)

-- a gathered text v, cleaned, stored (rule M4), and put into record i at word o with bit k, if it is taken
unfoldable pub keeping : Rooms → Place → Bool → ℕ → ℕ → ℕ → List ℕ → Content → Outcome Content
keeping rooms p taken i o k v c =
    storing rooms p c.texts (cleaned v) λ texts.
    accepted (record {
      records = changed i (kept taken (put_text o k (length c.texts) (length (cleaned v)))) c.records;
      texts = texts;
      description = c.description;
      gathered = c.gathered;
    })

abbrev pub is_empty : List ℕ → Bool
is_empty [] = true
is_empty (b ∷ s) = false

-- one that trimming leaves empty is missing (rule X11), and nothing is stored for it (rule M5)
unfoldable pub describing : Rooms → Place → Marks → Content → Outcome Content
describing rooms p m c =
    cond (is_empty (trimmed c.description)) (accepted (with_texts c [] []))
    (keeping rooms p true m.status_at_of word.description bit.description c.description c >>= λ d. accepted (with_texts d [] []))

-- an empty one is kept, too (rule X12), and replaces the one before (rule R17)
unfoldable pub outputting : Rooms → Place → Level → Output → Marks → Content → Outcome Content
outputting rooms p l o m c =
    keeping rooms p (takes l m) (record_of_it l m) (word_of o) (bit_of o) c.gathered c >>= λ d. accepted (with_texts d d.description [])

-- what an action does, of attributes by rule A1; j is the number of the tag's first attribute
unfoldable pub perform : Rooms → Place → Act → ℕ → List Attribute → Control → Marks → Content → Outcome Content
perform rooms p (pass n) j xs k m c = accepted c
perform rooms p (open_report e) j xs k m c = adding rooms p kind.report j xs (with_records c (kill_all c.records))
perform rooms p (open_suite e) j xs k m c = adding rooms p kind.suite j xs c
perform rooms p (open_case e) j xs k m c = adding rooms p kind.case j xs c
perform rooms p (open_status s e) j xs k m c = adding rooms p s j xs c
perform rooms p close_suite j xs k m c = accepted c
-- 20 is told at the case's End (rules S5 and F12)
perform rooms p close_case j xs k m c = need (ruled k.tally) p cause.StatusRule (accepted c)
perform rooms p close_status j xs k m c = describing rooms p m c
perform rooms p (open_text l o) j xs k m c = accepted c
perform rooms p (close_text l o) j xs k m c = outputting rooms p l o m c
-- a later list replaces the earlier one (rule R17), an Empty one too
perform rooms p (open_list l e) j xs k m c = accepted (with_records c (kill_kind (property_kind l) (record_of_it l m) c.records))
perform rooms p (read_property l e name) j xs k m c = adding rooms p (property_kind l) j xs c
perform rooms p stop j xs k m c = accepted c
perform rooms p missing j xs k m c = refused_at p cause.MissingReport
perform rooms p (broken why) j xs k m c = refused_at p why
