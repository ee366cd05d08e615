-- What the contracts of `reader::read`, `public_call::read_and_list` and `public_call::public_listing` name, told on values: whoever has read
-- `answer_to` (crate read_report: Answer) and `listed_to` and `listing` (Demand3) needn't read `reading`, `listed_once`, `once_left` and `public_listing`,
-- which are these. proofs/OnValues.antt has the proof. Definitions only.
use Rattle.std.specs.Prelude.{ℕ, ◌≡◌, List, length}
use Rattle.read_report.specs.of_area.Area.{zeros, laid}
use Rattle.read_report.specs.of_refusal.Refusal.{Outcome, accepted, refused}
use Rattle.read_report.specs.of_read_element.Outcome.{◌>>=◌}
use Rattle.read_report.specs.Answer.{Table, Areas, answer_to, Leaves}
use Rattle.read_report.specs.Called.{called}
use Rattle.public_claims.specs.PublicListing.{public_listing}
use Rattle.public_claims.specs.Once.{listed_once, once_left, printed_for}
use Rattle.public_claims.specs.Demand3.{listed_to, listing}

-- what the definitions of the calls give for a table, in areas of these lengths
abbrev pub answer_once : Table → Areas → Outcome ℕ
answer_once t a = listed_once t.events t.attributes t.source a.words a.text a.scratch a.output

abbrev pub output_once : Table → Areas → List ℕ
output_once t a = once_left t.events t.attributes t.source a.words a.text a.scratch a.output

abbrev pub listing_called : Table → Areas → List ℕ
listing_called t a = public_listing t.events t.attributes t.source a.words a.text a.scratch a.output

-- an output area of n bytes: the text with zeros behind it, or zeros (rule F13)
abbrev pub output_with : ℕ → Outcome (List ℕ) → List ℕ
output_with n (accepted f) = laid (zeros n) f
output_with n (refused why) = zeros n

pub record OnValues : Type 0 where
  -- Reading answers what the rules give in the room of the areas,
  pub answers : (t : Table) (a : Areas) → (called t a).outcome ≡ (answer_to t a >>= λ _. accepted tt)
  -- and leaves the report there, or zeros.
  pub leaves : (t : Table) (a : Areas) → Leaves a (called t a).words (called t a).text (called t a).scratch (answer_to t a)
  -- Reading and listing in one call answers how long the listing is, or refuses as reading does, or with 16 (rule L13),
  pub lists_once : (t : Table) (a : Areas) → answer_once t a ≡ (listed_to t a >>= λ f. accepted (length f))
  -- and leaves the listing, or zeros.
  pub leaves_once : (t : Table) (a : Areas) → output_once t a ≡ output_with a.output (listed_to t a)
  -- The two calls, one behind the other, give the same bytes or `(refused)`,
  pub both_calls : (t : Table) (a : Areas) → printed_for (answer_once t a) (output_once t a) ≡ listing_called t a
  -- which is the public listing (rule L3).
  pub lists : (t : Table) (a : Areas) → listing_called t a ≡ listing t a
