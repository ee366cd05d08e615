use Prim.Native.Nat.{◌+◌}
use native.Mathlib.Omega.{arith}
use Rattle.read_places.proofs.Noting.{quiet-set}
use Rattle.read_places.proofs.tell_place.Goals as goal

pub returns-then-lead-words : goal.returns-then-lead-words
returns-then-lead-words c = let s = c.args in quiet-set s.words.now c.lead_of-lead.result (s.place + 2) c.if-lead-words.true (omega arith)

pub returns-else-lead-words : goal.returns-else-lead-words
returns-else-lead-words c = λ i e. e
