-- Answers of listing worked out. Assumes nothing.
use mathlib.Core.Path.{◌≡◌, refl}
use Rattle.tree_layout.specs.of_refusal.Refusal.{accepted, refused, late, empty_path, no_refusal}
use Rattle.tree_layout.specs.of_refusal.declared.Cause.TheVariants.{NotLayout, OutputFull}
use Rattle.tree_layout.specs.of_refusal.declared.Verdict.TheVariants.{Accepted, Refused}
use Rattle.lister.specs.Answer.{listing_from}

listed : listing_from (accepted 7) ≡ record { verdict = Accepted; length = 7; refusal = no_refusal }
listed = refl

-- 15 and 16 as an answer
no-layout : listing_from (refused (late NotLayout)) ≡ record { verdict = Refused; length = 0; refusal = record { cause = NotLayout; path = empty_path; event = 4294967295; attribute = 4294967295 } }
no-layout = refl

too_short : listing_from (refused (late OutputFull)) ≡ record { verdict = Refused; length = 0; refusal = record { cause = OutputFull; path = empty_path; event = 4294967295; attribute = 4294967295 } }
too_short = refl
