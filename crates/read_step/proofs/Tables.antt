-- What is known of the events of a table that refusal 11 finds good. Assumes nothing.
use Prim.Native.Nat.{ℕ, ◌+◌, ◌-◌, ◌<◌}
use mathlib.Core.Path.{◌≡◌, sym, ap, ◌∙◌}
use mathlib.Core.List.{List, []}
use mathlib.Core.Bool.{Bool, true, false, cond}
use native.Mathlib.Omega.{arith}
use lib.ListN.{length}
use lib.Dec.{leb, eqb}
use Rattle.read_actions.specs.of_refusal.Refusal.{accepted}
use Rattle.read_actions.specs.of_table.Table.{word, count_of, check_of, table_of}
use Rattle.std.specs.Prelude.{Ok}
use Rattle.read_actions.specs.of_table.Event.{Attribute, kind_at, bytes_at, attributes_from, event_at}
use Rattle.read_actions.proofs.of_table.Resolving.{attributes-none}
use Rattle.read_actions.proofs.of_table.ValidTables.{ValidSizes, ValidEvent, good-sizes, good-event, same_check}
use Rattle.read_again.specs.of_table_events.inside.Ranges.{first_at, end_at}
use Rattle.read_again.proofs.of_table_events.Attributing.{Ranged, none, some, ranged, range-order, range-empty, range-high, range-attributes}
use Rattle.read_actions.specs.of_read_element.Outcome.{Rooms}
use Rattle.read_actions.specs.of_read_state.Control.{Act}
use Rattle.read_again.specs.of_read_machine.Machine.{Machine, act, step}
use Rattle.read_again.specs.of_table_events.inside.Pieces.{is_piece}
use Rattle.read_step.specs.inside.Planned.{planned}
use Rattle.read_step.specs.inside.Standing.{Spans}
use Rattle.read_step.proofs.Acting.{act-none}
use Rattle.read_step.proofs.ByKind.{other-steps}

module _ (events attributes source : List ℕ) (good : table_of events attributes source ≡ accepted tt) where
  checked : check_of events attributes source ≡ Ok tt
  checked = same_check (check_of events attributes source) (Ok tt) good

  -- the sizes of a good table are in range: the bounds that the code's sums need
  pub sizes : ValidSizes (length events) (length attributes) (length source)
  sizes = good-sizes events attributes source checked

  pub event : (i : ℕ) → i < count_of events → ValidEvent events attributes (length source) i
  event i h = good-event events attributes source checked i h

  -- the range of an event's attributes lies in their table
  pub spans : (i : ℕ) → Spans (length attributes) (first_at events i) (end_at events i)
  spans i =
      let v = sizes in
      let n = range-high {events = events} {i = i} attributes source checked (ranged events i) in
      record { low = range-order (ranged events i); high = omega (arith, v.attribute-words); most = omega (arith, v.attribute-limit) }

  module _ (i : ℕ) (h : i < count_of events) (rooms : Rooms) (s : Machine) where
    lent : (a : Act) {first end : ℕ} → Ranged events i first end
        → act rooms a (word events i 3) (attributes_from attributes source (word events i 4) (word events i 3)) s ≡ act rooms a first (attributes_from attributes source (end - first) first) s
    lent a (none e) =
        ap (λ (n : ℕ). act rooms a (word events i 3) (attributes_from attributes source n (word events i 3)) s) (range-empty events i h e)
        ∙ ap (λ (xs : List Attribute). act rooms a (word events i 3) xs s) (attributes-none attributes source (word events i 3))
        ∙ act-none rooms a (word events i 3) 0 s
        ∙ ap (λ (xs : List Attribute). act rooms a 0 xs s) (sym (attributes-none attributes source 0))
    lent a (some l k) = ap (λ (xs : List Attribute). act rooms a (word events i 3) xs s) (sym (range-attributes {events = events} {i = i} attributes source h (some l k)))

    attributed : 1 < kind_at events i → {first end : ℕ} → Ranged events i first end → attributes_from attributes source (word events i 4) (word events i 3) ≡ []
    attributed l (none e) = ap (λ (n : ℕ). attributes_from attributes source n (word events i 3)) (range-empty events i h e) ∙ attributes-none attributes source (word events i 3)
    attributed l (some g k) = let z = (event i h).tag k in absurd (omega arith)

    -- what the machine does at an event that is no piece, with the attributes that the code reads
    pub event-acts : is_piece (kind_at events i) ≡ false → step rooms (event_at events attributes source i) s
        ≡ act rooms (planned s.control (kind_at events i) (bytes_at events source i)) (first_at events i) (attributes_from attributes source (end_at events i - first_at events i) (first_at events i)) s
    unfolding event_at
    event-acts p =
        other-steps rooms (bytes_at events source i) (word events i 3) (attributes_from attributes source (word events i 4) (word events i 3))
        s (kind_at events i) p (event i h).kind (λ l. attributed l (ranged events i))
        ∙ lent (planned s.control (kind_at events i) (bytes_at events source i)) (ranged events i)

-- the table's end has no attributes
module _ (events : List ℕ) (i : ℕ) (e : leb (count_of events) i ≡ true) where
  pub first-end : first_at events i ≡ 0
  first-end = ap (λ (b : Bool). cond (eqb (cond b 0 (word events i 4)) 0) 0 (word events i 3)) e

  pub end-end : end_at events i ≡ 0
  end-end = ap (λ (b : Bool). cond (eqb (cond b 0 (word events i 4)) 0) 0 (word events i 3 + word events i 4)) e

pub spans-lent : (events attributes source : List ℕ) → table_of events attributes source ≡ accepted tt
    → (i first end : ℕ) → first ≡ first_at events i → end ≡ end_at events i → Spans (length attributes) first end
spans-lent events attributes source good i first end p q =
    let s = spans events attributes source good i in
    record { low = omega (arith, s.low); high = omega (arith, s.high); most = omega (arith, s.most) }
