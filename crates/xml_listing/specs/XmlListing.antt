-- The public listing of an XML document: tokenizing, reading and listing together (rule N11). Definitions only.
use Rattle.std.specs.Prelude.{ℕ, ◌*◌, List, length, take}
use Rattle.public_call.specs.of_area.Area.{zeros}
use Rattle.public_call.specs.of_public_claims.PublicListing.{refused_text, public_listing}
use Rattle.xml_state.specs.of_xml_machine.Tokens.{Answer, done-with, refused, Result, tokens}

-- how long the lent areas are: the words of records, the bytes of text, scratch and output
pub record Lent : Type 0 where
  pub records : ℕ
  pub text : ℕ
  pub scratch : ℕ
  pub out : ℕ

abbrev pub lent : (records text scratch out : List ℕ) → Lent
lent records text scratch out = record { records = length records; text = length text; scratch = length scratch; out = length out }

-- the areas of tokenizing and reading
pub record Areas : Type 0 where
  pub events : List ℕ
  pub attributes : List ℕ
  pub words : List ℕ
  pub text : List ℕ
  pub scratch : List ℕ

-- the table of n events or attributes, five words each, at the front of an area
abbrev pub table_in : ℕ → List ℕ → List ℕ
table_in n words = take (n * 5) words

-- by what the tokenizer answered (rules N1 to N10); `(refused)` stands for its refusals, too
abbrev pub listing_by : Answer → (events attributes source : List ℕ) → Lent → List ℕ
listing_by (done-with n k) events attributes source b = public_listing (table_in n events) (table_in k attributes) source b.records b.text b.scratch b.out
listing_by (refused number byte) events attributes source b = refused_text

abbrev pub listing_for : Result → List ℕ → Lent → List ℕ
listing_for r source b = listing_by r.answer r.events r.attributes source b

-- of a document, with areas of so many words for events and attributes (rule N11)
unfoldable pub xml_listing : List ℕ → (events attributes : ℕ) → Lent → List ℕ
xml_listing source events attributes b = listing_for (tokens source events attributes) source b

-- zero in every case (rule N11)
abbrev pub xml_areas : (events attributes : ℕ) → Lent → Areas
xml_areas events attributes b =
    record { events = zeros events; attributes = zeros attributes; words = zeros b.records; text = zeros b.text; scratch = zeros b.scratch }
