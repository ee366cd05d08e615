-- The public listing of a table: both calls together. Definitions only.
use Rattle.std.specs.Prelude.{ℕ, List, [], ◌∷◌, ◌++◌, Bool, true, false, take}
use Rattle.read_report.specs.of_area.Answer.{Answer, gives, refuses}
use Rattle.read_report.specs.of_names.Bytes.{bytes}
use Rattle.read_report.specs.of_refusal.Refusal.{Outcome, accepted, refused}
use Rattle.read_report.specs.of_read_machine.Reading.{reading}
use Rattle.list_text.specs.Listing.{listing_answer, output_of}

-- what stands for any refusal (rules L3, L12)
unfoldable pub refused_text : List ℕ
refused_text = bytes "(refused)" ++ (10 ∷ [])

abbrev pub is_accepted : {A : Type 0} → Outcome A → Bool
is_accepted (accepted a) = true
is_accepted (refused r) = false

-- the bytes at the front of the output area, as many as listing answers
abbrev pub written : Answer ℕ → List ℕ → List ℕ
written (gives n) output = take n output
written (refuses k) output = refused_text

abbrev pub behind_reading : Outcome (Unit {0}) → List ℕ → List ℕ
behind_reading (accepted a) f = f
behind_reading (refused r) f = refused_text

-- listing behind reading, from the areas as reading left them (rule L3); the areas are of `words` words, `text` and `scratch` bytes, the
-- output area of `out` bytes
unfoldable pub public_listing : List ℕ → List ℕ → List ℕ → ℕ → ℕ → ℕ → ℕ → List ℕ
public_listing events attributes source words text scratch out =
    let r = reading events attributes source words text scratch in
    behind_reading r.outcome (written (listing_answer r.words r.text out) (output_of r.words r.text out))
