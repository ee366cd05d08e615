-- What the call answers. Definitions only.
use Rattle.tree_layout.specs.of_refusal.Refusal.{Outcome, accepted, refused, verdict_of, refusal_of}
use Rattle.starts.specs.declared.Extent.{Extent}
use Rattle.starts.specs.declared.Started.{Started}
use Rattle.starts.specs.Starts.{not_found_of}

abbrev pub given_of : Outcome Extent → Extent
given_of (accepted s) = s
given_of (refused r) = not_found_of

-- the answer whole
abbrev pub started_from : Outcome Extent → Started
started_from a = record { verdict = verdict_of a; starts = given_of a; refusal = refusal_of a }
