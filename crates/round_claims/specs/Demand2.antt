-- Demand 2, whole: what is claimed of reading and of writing, that a plain report comes back, and that each report that fits has a
-- layout. The claims are types; proofs/Demand2.antt has a proof of each. Definitions only.
--
-- Whoever wants to be sure that this is what the rules ask for reads these definitions, with docs/RULES.md beside them:
--   table_of, resolve (crate table: Table, Event)                refusal 11; a table's events with their bytes and attributes
--   deserialize, deserialize_in (crate read_report: Deserialize)  the report that the rules of reading give for events, with no areas; and in areas
--   steps, begin (crate read_report: Deserialize)                the same event by event, with the room that is taken
--   answer_to, Holds (crate read_report: Answer)                  what reading a table answers; when two areas hold a report
--   longest (crate scratch_claims: Scratch)                      the length of the longest single text that is gathered in scratch
--   most_records_of, most_text_of (crate round_rooms: Needs)         the records and bytes of text that a table's events take at most
--   layout, report_of (crate tree_report: Layout, ReportOf)       docs/TREE.md: whether two areas are a layout; the report that they hold
--   rows_of, fits (crate tree_report: Encode)                     a report's records; whether records and texts fit two areas, and values are a layout's
--   written (crate write_report: Written)                        a report's events, in the order of writing
--   laid_out, fits (crate write_table: Laid)                      the table that holds events; whether three areas have room for it
--   wrote, events_left, attributes_left, bytes_left (crate write_answer: Answer)
--                                                                what writing answers and leaves in its areas: the promise of the call
--   plain, sound (crate round_elements: Plain)                   which reports are read back; what the values of each are
--   are_words (crate round_sound: Words)                          words of 32 bits, as every lent area of words has
--   every (crate tree_report: Encode)                            whether each element of a list passes a test
--   render (crate list_text: Listing)                            the text of a report's listing
--
-- listing, IsReport and the three reasons to refuse are those of demand 3 (crate public_claims: Demand3). That the calls answer and list this,
-- and leave the accepted report in a layout, is what OnValues claims there. Of the areas that are lent only the lengths count: no claim depends
-- on old contents.
use Rattle.std.specs.Prelude.{ℕ, ◌*◌, ◌/◌, min, ◌≤◌, ◌≡◌, List, Bool, true, ◌⊎◌, length, take, leb}
use Rattle.public_claims.specs.of_area.Limits.{most_entries, most_records, most_words, most_bytes}
use Rattle.public_claims.specs.of_refusal.Refusal.{number, OfRules, Refused, Outcome, accepted, refused}
use Rattle.public_claims.specs.of_tree_report.Report.{Report}
use Rattle.public_claims.specs.of_tree_report.Encode.{every, rows_of, fits as fits_areas}
use Rattle.public_claims.specs.of_read_element.Outcome.{unlimited}
use Rattle.public_claims.specs.of_read_report.Deserialize.{Reader, steps, begin, deserialize}
use Rattle.public_claims.specs.of_read_report.Answer.{Table, Areas, events_of, checked, answer_to, Holds}
use Rattle.round_sound.specs.of_write_report.Written.{written}
use Rattle.round_sound.specs.of_write_table.Laid.{laid_out, fits}
use Rattle.round_trip.specs.of_write_answer.Answer.{Sizes, wrote, events_left, attributes_left, bytes_left}
use Rattle.public_claims.specs.of_list_text.Listing.{render}
use Rattle.public_claims.specs.Demand3.{listing, IsReport, RefusesTable, RefusesEvents, LacksRoom}
use Rattle.round_sound.specs.of_round_elements.Plain.{plain, sound}
use Rattle.round_sound.specs.Words.{are_words}
use Rattle.round_trip.specs.of_round_rooms.Needs.{most_records_of, most_text_of}
use Rattle.scratch_claims.specs.Scratch.{longest}

-- ---- what the claims speak of
-- 11 lets the table pass
abbrev pub Passes : Table → Type 0
Passes t = checked t ≡ accepted tt

-- reading refuses for lack of room: 12, 13, 14
pub record Short (t : Table) (a : Areas) : Type 0 where
  pub why : Refused
  pub refuses : answer_to t a ≡ refused why
  pub lacks : LacksRoom why

-- areas that suffice for an accepted table: for the records and the bytes of text that are taken where areas have no limit, and for the
-- longest gathered text
pub record Suffice (t : Table) (a : Areas) : Type 0 where
  pub last : Reader
  pub ends : steps unlimited (events_of t) begin ≡ accepted last
  pub records : last.draft.used.records ≤ min (a.words / 32) most_records
  pub texts : last.draft.used.text ≤ min a.text most_bytes
  pub scratch : longest (events_of t) ≤ min a.scratch most_bytes

-- areas that suffice for any table of these events, whatever becomes of it
pub record Ample (t : Table) (a : Areas) : Type 0 where
  pub records : most_records_of (events_of t) ≤ min (a.words / 32) most_records
  pub texts : most_text_of (events_of t) ≤ min a.text most_bytes
  pub scratch : longest (events_of t) ≤ min a.scratch most_bytes

-- each of these areas is at least as long as its counterpart
pub record Longer (a b : Areas) : Type 0 where
  pub words : a.words ≤ b.words
  pub text : a.text ≤ b.text
  pub scratch : a.scratch ≤ b.scratch

-- three areas that writing is lent: words for events and attributes, bytes
pub record Lent : Type 0 where
  pub events : ℕ
  pub attributes : ℕ
  pub bytes : ℕ

-- what writing answers
abbrev pub answer_of : List ℕ → List ℕ → Lent → Outcome Sizes
answer_of words text a = wrote words text a.events a.attributes a.bytes

-- the parts of the three areas that are in use once writing answered with these numbers, as a table to read
abbrev pub in_use : List ℕ → List ℕ → Lent → Sizes → Table
in_use words text a n =
    record {
      events = take (n.events * 5) (events_left words text a.events a.attributes a.bytes);
      attributes = take (n.attributes * 5) (attributes_left words text a.events a.attributes a.bytes);
      source = take n.bytes (bytes_left words text a.events a.attributes a.bytes);
    }

-- a report's own table
abbrev pub own_table : Report → Table
own_table r = record { events = (laid_out (written r)).events; attributes = (laid_out (written r)).attributes; source = (laid_out (written r)).bytes }

-- a report is written whole: 11 lets the table pass, and its events are the report's
pub record Wrote (words text : List ℕ) (r : Report) (a : Lent) : Type 0 where
  pub numbers : Sizes
  pub writes : answer_of words text a ≡ accepted numbers
  pub whole : in_use words text a numbers ≡ own_table r
  pub passes : Passes (in_use words text a numbers)
  pub events : events_of (in_use words text a numbers) ≡ written r

-- areas of the limits' size (rule W16); the output area is the listing's
abbrev pub lent_limits : Lent
lent_limits = record { events = most_entries * 5; attributes = most_entries * 5; bytes = most_bytes }

abbrev pub limits : ℕ → Areas
limits output = record { words = most_words; text = most_bytes; scratch = most_bytes; output = output }

-- a report comes back: writing accepts, and reading what it wrote answers with the same report
pub record Back (words text : List ℕ) (r : Report) : Type 0 where
  pub numbers : Sizes
  pub writes : answer_of words text lent_limits ≡ accepted numbers
  pub reads : (output : ℕ) → answer_to (in_use words text lent_limits numbers) (limits output) ≡ accepted r

-- bytes, as every lent area of bytes has
abbrev pub are_bytes : List ℕ → Bool
are_bytes text = every (λ (b : ℕ). leb b 255) text

-- two areas of so many words and bytes, as they may be lent, that hold a report
pub record Placed (r : Report) (many_words many_bytes : ℕ) : Type 0 where
  pub words : List ℕ
  pub text : List ℕ
  pub words_length : length words ≡ many_words
  pub text_length : length text ≡ many_bytes
  pub words_lent : are_words words ≡ true
  pub text_lent : are_bytes text ≡ true
  pub holds : Holds r words text

-- ---- the claims
pub record Demand2 : Type 0 where
  -- A. What reading accepts, the rules of reading accept, with the same report.
  pub accepts_only : (t : Table) (a : Areas) (r : Report) → answer_to t a ≡ accepted r → Passes t × IsReport t r
  -- A. What the rules of reading accept, reading accepts, unless 11 refuses the table or room is short.
  pub accepts_all : (t : Table) (a : Areas) (r : Report) → Passes t → IsReport t r → (answer_to t a ≡ accepted r) ⊎ Short t a
  -- B. A refusal is 11, or what the rules of reading refuse with, 1 to 10, 20 or 21, or room is short, 12 to 14.
  pub refuses_only : (t : Table) (a : Areas) (why : Refused) → answer_to t a ≡ refused why →
      (RefusesTable t why × (number why.cause ≡ 11)) ⊎ ((RefusesEvents t why × OfRules (number why.cause)) ⊎ LacksRoom why)
  -- B. 11 comes first.
  pub refuses_table : (t : Table) (a : Areas) (why : Refused) → RefusesTable t why → answer_to t a ≡ refused why
  -- B. What the rules of reading refuse, reading refuses alike, unless room is short.
  pub refuses_all : (t : Table) (a : Areas) (why : Refused) → Passes t → RefusesEvents t why → (answer_to t a ≡ refused why) ⊎ Short t a
  -- C. Where the areas suffice, room isn't short: areas that hold what an accepted table takes,
  pub suffices : (t : Table) (a : Areas) → Passes t → (s : Suffice t a) → answer_to t a ≡ accepted s.last.draft.report
  -- C. and areas that hold as much as a table's events can take, also where it is refused.
  pub never_short : (t : Table) (a : Areas) → Ample t a → ¬ Short t a
  -- C. Where room isn't short, longer areas get the same answer.
  pub longer : (t : Table) (a b : Areas) → Longer a b → ¬ Short t a → answer_to t b ≡ answer_to t a
  -- D. Writing lays a report's events out as a table, wherever it fits into the areas.
  pub writes : (words text : List ℕ) (r : Report) (a : Lent) → Holds r words text → fits (laid_out (written r)) a.events a.attributes a.bytes ≡ true → Wrote words text r a
  -- E. The theorem on lists: a plain report is read back from its own events (rule W16).
  pub on_lists : (r : Report) → sound r ≡ true → plain r ≡ true → deserialize (written r) ≡ accepted r
  -- E. The theorem on areas: so it is through the areas of both calls (rule W16).
  pub on_areas : (words text : List ℕ) (r : Report) → are_words words ≡ true → Holds r words text → plain r ≡ true → Back words text r
  -- F. The public listing of a plain report's own table is the listing of its tree.
  pub own_listing : (words text : List ℕ) (r : Report) (output : ℕ) → are_words words ≡ true → Holds r words text
      → plain r ≡ true → length (render r) ≤ output → listing (own_table r) (limits output) ≡ render r
  -- G. Each report that fits has a layout (rule M9): with areas of any lengths that its records and texts fit, one behind the other.
  pub lays_out : (r : Report) (many_words many_bytes : ℕ) → fits_areas r many_words many_bytes ≡ true → Placed r many_words many_bytes
  -- G. Its values and records are what must fit: what a layout holds is sound, and has no more records than the area has room for.
  -- Of the bytes less may do, where texts share some.
  pub holds_fitting : (words text : List ℕ) (r : Report) → are_words words ≡ true → Holds r words text
      → (sound r ≡ true) × (length (rows_of r) ≤ min (length words / 32) most_records)
