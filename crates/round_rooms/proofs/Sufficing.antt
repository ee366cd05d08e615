-- Areas that hold the records and texts that reading leaves, and scratch for all pieces, suffice. Assumes nothing.
use Prim.Native.Nat.{ℕ, ◌+◌, ◌/◌, min, ◌≤◌}
use mathlib.Core.Path.{◌≡◌, ap, ◌∙◌}
use mathlib.Core.List.{List, [], ◌∷◌}
use mathlib.Core.Option.{some}
use native.Mathlib.Omega.{arith}
use lib.ListN.{length}
use Rattle.read_machine.specs.of_area.Limits.{most_records, most_bytes}
use Rattle.read_machine.specs.of_refusal.Refusal.{Outcome, accepted}
use Rattle.write_report.specs.of_table.Event.{Event, Eof, resolve}
use Rattle.write_report.specs.of_table.Table.{table_of}
use Rattle.read_machine.specs.of_read_element.Outcome.{◌>>=◌, unlimited, rooms_of}
use Rattle.read_machine.specs.Machine.{Machine, run, begin}
use Rattle.read_machine.specs.Reading.{reading, read_as}
use Rattle.round_rooms.specs.inside.Sums.{pieces}
use Rattle.round_rooms.proofs.Suiting.{Suits, suited, bind_held}
use Rattle.round_rooms.proofs.Elements.{rooms}
use Rattle.round_rooms.proofs.Scratch.{taken, step-reaches}
use Rattle.round_rooms.proofs.Actions.{MachineFits, step-suits}

run-suits : (n m k : ℕ) (es : List Event) (s : Machine) → taken s.content + pieces es ≤ k → Suits (MachineFits n m k s) (MachineFits n m k) (run (rooms n m k) es s) (run unlimited es s)
unfolding run pieces
run-suits n m k [] s l = step-suits n m k Eof s l
run-suits n m k (e ∷ es) s l =
    bind_held (step-suits n m k e s (omega (arith, l))) (step-reaches e s) λ t u.
    run-suits n m k es t (omega (arith, l, u))

-- a run that is accepted with no limit is the same with areas for what it leaves and scratch for its pieces
pub run-suffices : (es : List Event) (s : Machine) (n m k : ℕ) → run unlimited es begin ≡ accepted s →
    length s.content.records ≤ n → length s.content.texts ≤ m → pieces es ≤ k →
    run (record { records = some n; text = some m; scratch = some k }) es begin ≡ accepted s
run-suffices es s n m k e r t l = suited s (run-suits n m k es begin (omega (arith, l))) e (record { records = r; texts = t })

table-then : {A : Type 0} (t : Outcome (Unit {0})) (m : Outcome A) → t ≡ accepted tt → (t >>= λ _. m) ≡ m
unfolding ◌>>=◌
table-then t m e = ap (λ (x : Outcome (Unit {0})). x >>= λ _. m) e

-- the same for areas of any length
pub reading-roomy : (events attributes source : List ℕ) (words text scratch : ℕ) (s : Machine) →
    table_of events attributes source ≡ accepted tt →
    run unlimited (resolve events attributes source) begin ≡ accepted s →
    length s.content.records ≤ min (words / 32) most_records →
    length s.content.texts ≤ min text most_bytes →
    pieces (resolve events attributes source) ≤ min scratch most_bytes →
    reading events attributes source words text scratch ≡ read_as words text scratch (accepted s)
unfolding reading
reading-roomy events attributes source words text scratch s t e r b l =
    ap (read_as words text scratch)
    (table-then (table_of events attributes source) (run (rooms_of words text scratch) (resolve events attributes source) begin) t
    ∙ run-suffices (resolve events attributes source) s (min (words / 32) most_records) (min text most_bytes) (min scratch most_bytes) e r b l)
