-- The run, one event after the other. Assumes nothing.
use Prim.Native.Nat.{ℕ, ◌+◌, ◌-◌, ◌≤◌, ◌<◌}
use mathlib.Core.Path.{◌≡◌, sym, ap, ◌∙◌}
use mathlib.Core.List.{List}
use native.Mathlib.Omega.{arith}
use Rattle.read_actions.specs.of_refusal.Refusal.{Refused, Outcome, accepted, refused}
use Rattle.read_actions.specs.of_table.Table.{count_of}
use Rattle.read_actions.specs.of_table.Event.{Event, Eof, event_at, resolve_from, resolve}
use Rattle.read_actions.proofs.of_table.Resolving.{resolve-next, resolve-end}
use Rattle.read_actions.specs.of_read_element.Outcome.{◌>>=◌, Rooms}
use Rattle.read_again.specs.of_read_machine.Machine.{Machine, step, run, begin}
use Rattle.read_step.specs.inside.Standing.{run_on_of}

module _ (rooms : Rooms) (events attributes source : List ℕ) where
  -- the run of all events is the run from the first event on, as the code's loop goes
  pub run-start : run rooms (resolve events attributes source) begin ≡ run_on_of rooms events attributes source begin
  unfolding resolve
  run-start = let z : count_of events ≡ count_of events - 0 = omega arith in ap (λ (n : ℕ). run rooms (resolve_from events attributes source n 0) begin) z

  module _ (s : Machine) where
    -- one event: the rest of the run stands behind what its step comes to
    turn : (i : ℕ) → i ≡ s.marks.event → i < count_of events → (o : Outcome Machine) → step rooms (event_at events attributes source i) s ≡ o
        → run_on_of rooms events attributes source s ≡ (o >>= λ u. run rooms (resolve_from events attributes source (count_of events - (i + 1)) (i + 1)) u)
    unfolding run
    turn i h l o g =
        ap (λ (j : ℕ). run rooms (resolve_from events attributes source (count_of events - j) j) s) (sym h)
        ∙ ap (λ (es : List Event). run rooms es s) (resolve-next events attributes source (count_of events) i l)
        ∙ ap (λ (x : Outcome Machine). x >>= λ u. run rooms (resolve_from events attributes source (count_of events - (i + 1)) (i + 1)) u) g

    pub run-goes : (i : ℕ) → i ≡ s.marks.event → i < count_of events → (t : Machine) → step rooms (event_at events attributes source i) s ≡ accepted t
        → run_on_of rooms events attributes source s ≡ run rooms (resolve_from events attributes source (count_of events - (i + 1)) (i + 1)) t
    unfolding ◌>>=◌
    run-goes i h l t g = turn i h l (accepted t) g

    pub run-goes_on : (i : ℕ) → i ≡ s.marks.event → i < count_of events → (t : Machine) → t.marks.event ≡ i + 1
        → step rooms (event_at events attributes source i) s ≡ accepted t → run_on_of rooms events attributes source s ≡ run_on_of rooms events attributes source t
    run-goes_on i h l t e g = run-goes i h l t g ∙ ap (λ (j : ℕ). run rooms (resolve_from events attributes source (count_of events - j) j) t) (sym e)

    pub run-refuses : (i : ℕ) → i ≡ s.marks.event → i < count_of events → (r : Refused)
        → step rooms (event_at events attributes source i) s ≡ refused r → run_on_of rooms events attributes source s ≡ refused r
    unfolding ◌>>=◌
    run-refuses i h l r g = turn i h l (refused r) g

    -- the table's end is read as Eof (rule T5)
    pub run_end : count_of events ≤ s.marks.event → run_on_of rooms events attributes source s ≡ step rooms Eof s
    unfolding run
    run_end h = ap (λ (es : List Event). run rooms es s) (resolve-end events attributes source (count_of events) s.marks.event h)
