-- What is printed for an input (rules P2 to P4). Definitions only.
use Rattle.std.specs.Prelude.{ℕ, List, length}
use Rattle.std.proofs.Math.Option.{Option, none, some}
use Rattle.list_input.specs.Input.{Table, input_of}
use Rattle.public_call.specs.of_public_claims.PublicListing.{refused_text, public_listing}

-- how long the lent areas are: the words of records, the bytes of text, scratch and output
pub record Buffers : Type 0 where
  pub records : ℕ
  pub text : ℕ
  pub scratch : ℕ
  pub out : ℕ

abbrev pub lent : (records text scratch out : List ℕ) → Buffers
lent records text scratch out = record { records = length records; text = length text; scratch = length scratch; out = length out }

-- the public listing of a table (rule L3); an input that is no table gets `(refused)`, too (rule P2)
abbrev pub listing_for : Buffers → Option Table → List ℕ
listing_for b none = refused_text
listing_for b (some t) = public_listing t.events t.attributes t.source b.records b.text b.scratch b.out

-- what is printed for an input, with areas of m and n words for events and attributes
unfoldable pub printed : (m n : ℕ) → Buffers → List ℕ → List ℕ
printed m n b input = listing_for b (input_of m n input)

-- a buffer each: 65,536 bytes or 16,384 words (rule P3)
abbrev pub buffers : Buffers
buffers = record { records = 16384; text = 65536; scratch = 65536; out = 65536 }

-- rule P4
abbrev pub program_prints : List ℕ → List ℕ
program_prints input = printed 16384 16384 buffers input
