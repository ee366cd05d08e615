-- The loop along the events of an open status element. Assumes nothing.
use Rattle.std.specs.Prelude.{Option, Some, None}
use Prim.Native.Nat.{ℕ, ◌-◌, ◌≤◌, ◌<◌}
use mathlib.Core.Path.{◌≡◌, sym, subst, ◌∙◌}
use mathlib.Core.List.{List, []}
use native.Mathlib.Omega.{arith}
use lib.ListN.{length}
use Rattle.read_pieces.specs.of_area.Answer.{gives, refuses}
use Rattle.read_pieces.specs.of_area.Area.{placing, laid}
use Rattle.read_pieces.proofs.of_area.Laying.{Laying, laying-start, laying_on, laying_chunk, laying-over, laying-done}
use Rattle.read_pieces.specs.of_table.Table.{count_of}
use Rattle.read_pieces.specs.of_read_state.Control.{status, at}
use Rattle.read_pieces.specs.of_read_state.declared.Mode.TheVariants.{At}
use Rattle.read_pieces.specs.of_read_state.declared.Output.TheVariants.{Out}
use Rattle.read_again.specs.declared.Again.{Again}
use Rattle.read_again.specs.Told.{told}
use Rattle.read_again.specs.inside.Turns.{rest, told_from, Went, Over, Turned}
use Rattle.read_pieces.specs.of_refusal.declared.Cause.TheVariants as cause

pub record Looping (events source : List ℕ) (from : ℕ) (out₀ out : List ℕ) (a : Again) : Type 0 where
  pub high : a.event ≤ count_of events
  pub laying : (attributes : List ℕ) → Laying out₀ out a.fill (told (at status) (rest events attributes source from)) (told_from events attributes source a)

pub loop-starts : (events source : List ℕ) (from : ℕ) (out : List ℕ) → from ≤ count_of events → Looping events source from out out (record { mode = At; output = Out; event = from; fill = 0 })
loop-starts events source from out h = record { high = h; laying = λ attributes. laying-start out (told (at status) (rest events attributes source from)) }

module _ {events source : List ℕ} {from : ℕ} {out₀ out : List ℕ} {a : Again} (l : Looping events source from out₀ out a) where
  pub loop-room : a.fill ≤ length out
  loop-room = (l.laying []).fits

  pub loop-same : length out ≡ length out₀
  loop-same = (l.laying []).same

  module _ (out' : List ℕ) (r : Option (Option Again)) (t : Turned events source out out' a r) where
    pub loop-goes : (b : Again) → r ≡ Some (Some b) → Looping events source from out₀ out' b × (count_of events - b.event < count_of events - a.event)
    loop-goes b e = go (subst (Turned events source out out' a) e t)
      where
        go : Went events source out out' a b → Looping events source from out₀ out' b × (count_of events - b.event < count_of events - a.event)
        go w = (
          record {
            high = w.within;
            laying = λ attributes.
                subst (λ (k : ℕ). Laying out₀ out' k (told (at status) (rest events attributes source from)) (told_from events attributes source b)) (sym w.fill)
                (laying_chunk w.more (told_from events attributes source b) (laying_on (l.laying attributes) (w.tells attributes)) out' w.area w.fits);
          },
          (let x = w.later in let y = w.within in omega arith),
        )

    pub loop-done : r ≡ Some None → (attributes : List ℕ)
        → (gives a.fill ≡ placing cause.ScratchFull (length out₀) (told (at status) (rest events attributes source from)))
        × (out' ≡ laid out₀ (told (at status) (rest events attributes source from)))
    loop-done e attributes = go (subst (Turned events source out out' a) e t)
      where
        go : ((attributes : List ℕ) → told_from events attributes source a ≡ []) × (out' ≡ out)
            → (gives a.fill ≡ placing cause.ScratchFull (length out₀) (told (at status) (rest events attributes source from)))
            × (out' ≡ laid out₀ (told (at status) (rest events attributes source from)))
        go w = let d = laying-done cause.ScratchFull (laying_on (l.laying attributes) (w.0 attributes)) in (d.0, w.1 ∙ d.1)

    pub loop-full : r ≡ None → (attributes : List ℕ)
        → (refuses cause.ScratchFull ≡ placing cause.ScratchFull (length out₀) (told (at status) (rest events attributes source from)))
        × (out' ≡ laid out₀ (told (at status) (rest events attributes source from)))
    loop-full e attributes = go (subst (Turned events source out out' a) e t)
      where
        go : Over events source out out' a
            → (refuses cause.ScratchFull ≡ placing cause.ScratchFull (length out₀) (told (at status) (rest events attributes source from)))
            × (out' ≡ laid out₀ (told (at status) (rest events attributes source from)))
        go w = laying-over w.more (w.behind attributes) (laying_on (l.laying attributes) (w.tells attributes)) cause.ScratchFull out' w.area w.over
