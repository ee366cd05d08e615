-- What merging answers. Definitions only.
use Rattle.clearing.specs.of_refusal.Refusal.{Outcome, verdict_of, refusal_of}
use Rattle.merger.specs.declared.Merging.{Merging}

-- the answer whole
abbrev pub merging_from : Outcome (Unit {0}) → Merging
merging_from a = record { verdict = verdict_of a; refusal = refusal_of a }
