-- What writing a document answers. Definitions only.
use Rattle.std.specs.Prelude.{ℕ}
use Rattle.writer.specs.of_refusal.Refusal.{Outcome, accepted, refused, verdict_of, refusal_of}
use Rattle.xml_writer.specs.declared.Document.{Document}

-- how many bytes were put; none at a refusal
abbrev pub length_of : Outcome ℕ → ℕ
length_of (accepted n) = n
length_of (refused r) = 0

-- the answer whole
abbrev pub document_from : Outcome ℕ → Document
document_from a = record { verdict = verdict_of a; length = length_of a; refusal = refusal_of a }
