use mathlib.Core.Path.{◌≡◌}
use lib.ListN.{take}
use Rattle.utf8_chars.specs.of_utf8.Characters.{chars, joined}
use Rattle.trim.specs.Trim.{no_end_of}
use Rattle.trim.proofs.end_of.Given as goal

abbrev pub invariant-loop-i : goal.invariant-loop-i
invariant-loop-i l = joined (no_end_of (chars l.s)) ≡ joined (no_end_of (chars (take l.i l.s)))
