-- Areas that hold as much as the events of a table can take never fall short, whether the table is accepted or refused. Assumes nothing.
use Prim.Native.Nat.{ℕ, ◌+◌, ◌≤◌}
use mathlib.Core.Path.{◌≡◌}
use mathlib.Core.List.{List, [], ◌∷◌}
use native.Mathlib.Omega.{arith}
use lib.ListN.{length}
use Rattle.write_report.specs.of_table.Event.{Event, Eof}
use Rattle.read_machine.specs.of_read_element.Outcome.{unlimited}
use Rattle.read_machine.proofs.of_read_element.TreeOutcome.{Holds}
use Rattle.read_machine.specs.Machine.{Machine, run, begin}
use Rattle.round_rooms.specs.inside.Sums.{pieces}
use Rattle.round_rooms.specs.Needs.{most_records_of, most_text_of}
use Rattle.round_rooms.proofs.Elements.{rooms}
use Rattle.round_rooms.proofs.Scratch.{taken}
use Rattle.round_rooms.proofs.Alike.{Alike, alike_same, alike-holds, weaken, bind}
use Rattle.round_rooms.proofs.AlikeSteps.{weight, Within, step-alike}

module _ (n m k : ℕ) where
  run-alike : (es : List Event) (s : Machine) → length s.content.records + most_records_of es ≤ n → weight s.content + most_text_of es ≤ m → taken s.content + pieces es ≤ k
      → Alike (λ (t : Machine). Within (length s.content.records + most_records_of es) (weight s.content + most_text_of es) (taken s.content + pieces es) t.content)
      (run (rooms n m k) es s) (run unlimited es s)
  unfolding run most_records_of most_text_of pieces
  run-alike [] s h l o = step-alike n m k Eof s h l o
  run-alike (e ∷ es) s h l o =
      bind (step-alike n m k e s (omega (arith, h)) (omega (arith, l)) (omega (arith, o))) λ t w.
      weaken (run-alike es t (omega (arith, h, w.records)) (omega (arith, l, w.bytes)) (omega (arith, o, w.opens)))
      (λ u v. record { records = omega (arith, w.records, v.records); bytes = omega (arith, w.bytes, v.bytes); opens = omega (arith, w.opens, v.opens) })

  pub run-spared : (es : List Event) → most_records_of es ≤ n → most_text_of es ≤ m → pieces es ≤ k → run (rooms n m k) es begin ≡ run unlimited es begin
  run-spared es h l o = alike_same (run-alike es begin (omega (arith, h)) (omega (arith, l)) (omega (arith, o)))

-- what reading leaves takes no more than that
pub run-takes : (es : List Event) → Holds (λ (t : Machine). Within (0 + most_records_of es) (0 + (0 + 0) + most_text_of es) (0 + 0 + pieces es) t.content) (run unlimited es begin)
run-takes es = alike-holds (run-alike (most_records_of es) (most_text_of es) (pieces es) es begin (omega arith) (omega arith) (omega arith))
