-- Refusal 14, exactly: it comes where one gathered text, before trimming, is longer than scratch, at the piece that passes its end, unless
-- something else is refused before; and else scratch changes nothing. The claims are types; proofs/Scratch.antt has a proof of each.
-- Definitions only.
--
-- Whoever wants to be sure that this is what the rules ask for reads these definitions, with docs/RULES.md beside them (rules M6 and F9):
--   deserialize_in, step, begin (crate read_report: Deserialize)  the report that the rules of reading give for events, in areas
--   answer_to (crate read_report: Answer)                         what reading a table answers
use Rattle.std.specs.Prelude.{ℕ, min, max, ◌≤◌, ◌≡◌, List, [], ◌∷◌, cond, leb, length}
use Rattle.std.proofs.Math.Option.{Option, none, some}
use Rattle.read_report.specs.of_area.Limits.{most_bytes}
use Rattle.read_report.specs.of_refusal.Refusal.{nowhere, Refused, Outcome, accepted, refused}
use Rattle.read_report.specs.of_refusal.declared.Cause.TheVariants as cause
use Rattle.read_report.specs.of_table.Event.{Event}
use Rattle.read_report.specs.of_read_element.Outcome.{◌>>=◌, Rooms, rooms_of, unlimited}
use Rattle.read_report.specs.of_read_path.Paths.{mode_path}
use Rattle.read_report.specs.Deserialize.{Reader, step, begin, deserialize_in}
use Rattle.read_report.specs.Answer.{Table, Areas, events_of, checked, answer_to}

-- with k bytes of scratch, and with no limit of scratch
abbrev pub bound : ℕ → Rooms → Rooms
bound k r = record { records = r.records; text = r.text; scratch = some k }

abbrev pub unbound : Rooms → Rooms
unbound r = record { records = r.records; text = r.text; scratch = none }

-- the longer one of the texts that are being gathered: a description, and a child's text
abbrev pub open_length : Reader → ℕ
open_length s = max (length s.draft.description) (length s.draft.text)

abbrev pub behind_step : {A : Type 0} → A → Outcome Reader → (Reader → A) → A
behind_step a (accepted t) f = f t
behind_step a (refused r) f = a

-- the longest gathered text behind where reading stands, up to the table's end or the first refusal
unfoldable pub longest_from : Rooms → List Event → Reader → ℕ
longest_from rooms [] s = 0
longest_from rooms (e ∷ es) s = behind_step 0 (step (unbound rooms) e s) λ t. max (open_length t) (longest_from rooms es t)

-- with no limits at all
abbrev pub longest : List Event → ℕ
longest es = longest_from unlimited es begin

-- 14 at the event that is read, with the path of the text
abbrev pub full_at : Reader → Refused
full_at s = record { cause = cause.ScratchFull; path = mode_path s.control.mode s.marks; event = s.marks.event; attribute = nowhere }

-- the first piece that passes the end of k bytes
unfoldable pub passing : Rooms → ℕ → List Event → Reader → Option Refused
passing rooms k [] s = none
passing rooms k (e ∷ es) s = behind_step none (step (unbound rooms) e s) λ t. cond (leb (open_length t) k) (passing rooms k es t) (some (full_at s))

abbrev pub or_else : {A : Type 0} → Option Refused → Outcome A → Outcome A
or_else none o = o
or_else (some r) o = refused r

pub record Scratch : Type 0 where
  -- 14 comes exactly at the piece that passes the end; else the answer is the one with no limit of scratch.
  pub exactly : (rooms : Rooms) (k : ℕ) (es : List Event) → deserialize_in (bound k rooms) es ≡ or_else (passing rooms k es begin) (deserialize_in (unbound rooms) es)
  -- Scratch as long as the longest single text gives the same.
  pub suffices : (rooms : Rooms) (k : ℕ) (es : List Event) → longest_from rooms es begin ≤ k → deserialize_in (bound k rooms) es ≡ deserialize_in (unbound rooms) es
  -- In no areas a text is longer than where nothing has a limit.
  pub no_longer : (rooms : Rooms) (es : List Event) → longest_from rooms es begin ≤ longest es
  -- So it is of the call, for every table and areas of any lengths.
  pub answers : (t : Table) (a : Areas) → answer_to t a
      ≡ checked t >>= λ _. or_else (passing (rooms_of a.words a.text a.scratch) (min a.scratch most_bytes) (events_of t) begin)
      (deserialize_in (unbound (rooms_of a.words a.text a.scratch)) (events_of t))
