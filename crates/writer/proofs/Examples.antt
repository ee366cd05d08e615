-- Answers of writing worked out. Assumes nothing.
use mathlib.Core.Path.{◌≡◌, refl}
use Rattle.refusal.specs.Refusal.{accepted, refused, late, empty_path, no_refusal}
use Rattle.refusal.specs.declared.Cause.TheVariants.{NotLayout, OutputFull}
use Rattle.refusal.specs.declared.Verdict.TheVariants.{Accepted, Refused}
use Rattle.writer.specs.Answer.{writing_from}

wrote : writing_from (accepted (record { events = 5; attributes = 4; bytes = 80 })) ≡ record { verdict = Accepted; events = 5; attributes = 4; bytes = 80; refusal = no_refusal }
wrote = refl

-- 15 and 16 as an answer
no-layout : writing_from (refused (late NotLayout))
    ≡ record { verdict = Refused; events = 0; attributes = 0; bytes = 0; refusal = record { cause = NotLayout; path = empty_path; event = 4294967295; attribute = 4294967295 } }
no-layout = refl

too_short : writing_from (refused (late OutputFull))
    ≡ record { verdict = Refused; events = 0; attributes = 0; bytes = 0; refusal = record { cause = OutputFull; path = empty_path; event = 4294967295; attribute = 4294967295 } }
too_short = refl
