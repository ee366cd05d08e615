-- Answers of explaining worked out. Assumes nothing.
use mathlib.Core.Path.{◌≡◌, refl}
use Rattle.explain_sentence.specs.of_refusal.Refusal.{accepted, refused, late, empty_path, no_refusal}
use Rattle.explain_sentence.specs.of_refusal.declared.Cause.TheVariants.{OutputFull}
use Rattle.explain_sentence.specs.of_refusal.declared.Verdict.TheVariants.{Accepted, Refused}
use Rattle.explain.specs.Answer.{explained_from}

explained : explained_from (accepted 45) ≡ record { verdict = Accepted; length = 45; refusal = no_refusal }
explained = refl

-- 16 as an answer
too_short : explained_from (refused (late OutputFull)) ≡ record { verdict = Refused; length = 0; refusal = record { cause = OutputFull; path = empty_path; event = 4294967295; attribute = 4294967295 } }
too_short = refl
