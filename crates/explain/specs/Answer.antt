-- What explaining answers. Definitions only.
use Rattle.std.specs.Prelude.{ℕ}
use Rattle.explain_sentence.specs.of_refusal.Refusal.{Outcome, accepted, refused, verdict_of, refusal_of}
use Rattle.explain.specs.declared.Explained.{Explained}

-- how many bytes were put; none at a refusal
abbrev pub length_of : Outcome ℕ → ℕ
length_of (accepted n) = n
length_of (refused r) = 0

-- the answer whole
abbrev pub explained_from : Outcome ℕ → Explained
explained_from a = record { verdict = verdict_of a; length = length_of a; refusal = refusal_of a }
