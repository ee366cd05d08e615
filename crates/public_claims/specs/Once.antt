-- Reading and listing in one call: the listing or the refusal, and no tree beside it (rule L13). Definitions only.
use Rattle.std.specs.Prelude.{ℕ, List, take}
use Rattle.read_report.specs.of_area.Area.{zeros}
use Rattle.read_report.specs.of_refusal.Refusal.{Outcome, accepted, refused}
use Rattle.read_report.specs.of_read_element.Outcome.{◌>>=◌}
use Rattle.read_report.specs.of_read_machine.Reading.{reading}
use Rattle.list_text.specs.Listing.{listed, output_of}
use Rattle.public_claims.specs.PublicListing.{refused_text}

-- the refusal of reading, whole, or what listing answers of the areas as reading left them; lengths of areas as in `public_listing`
unfoldable pub listed_once : List ℕ → List ℕ → List ℕ → ℕ → ℕ → ℕ → ℕ → Outcome ℕ
listed_once events attributes source words text scratch out =
    let r = reading events attributes source words text scratch in
    r.outcome >>= λ _. listed r.words r.text out

abbrev pub output_behind : Outcome (Unit {0}) → ℕ → List ℕ → List ℕ
output_behind (accepted a) n output = output
output_behind (refused r) n output = zeros n

-- what listing leaves in the output area; zeros where reading refuses
unfoldable pub once_left : List ℕ → List ℕ → List ℕ → ℕ → ℕ → ℕ → ℕ → List ℕ
once_left events attributes source words text scratch out =
    let r = reading events attributes source words text scratch in
    output_behind r.outcome out (output_of r.words r.text out)

-- the answer, and the four areas
pub record Once : Type 0 where
  pub outcome : Outcome ℕ
  pub words : List ℕ
  pub text : List ℕ
  pub scratch : List ℕ
  pub output : List ℕ

-- records, text and scratch are zero in every case
abbrev pub once : List ℕ → List ℕ → List ℕ → ℕ → ℕ → ℕ → ℕ → Once
once events attributes source words text scratch out =
    record {
      outcome = listed_once events attributes source words text scratch out;
      words = zeros words;
      text = zeros text;
      scratch = zeros scratch;
      output = once_left events attributes source words text scratch out;
    }

-- what is printed of an answer and the output area (rule L3)
abbrev pub printed_for : Outcome ℕ → List ℕ → List ℕ
printed_for (accepted n) output = take n output
printed_for (refused r) output = refused_text
