-- What stays true of the marks from event to event. Assumes nothing.
use Prim.Native.Nat.{ℕ, suc, ◌+◌, ◌≤◌}
use mathlib.Core.Bool.{Bool, true, false}
use mathlib.Core.Path.{◌≡◌, refl, sym, ap}
use native.Mathlib.Omega.{arith}
use Rattle.read_state.specs.inside.Coded.{level_of, output_of, level_in_of, mode_of, closing}
use Rattle.read_state.specs.declared.Control.{Control as CodedControl}
use Rattle.read_state.proofs.Turning.{level_in}
use Rattle.read_state.specs.Control.{Act, pass, open_report, open_suite, open_case, open_status, close_suite, close_case, close_status, open_text, close_text, open_list, read_property, stop, missing, broken}
use Rattle.read_place.specs.Marks.{Marks, marks, more, marks_after, onward}
use Rattle.read_place.specs.inside.Coded.{go_to, Low}

-- the level of the mode is that of the control
pub level-of : (c : CodedControl) → level_of c.level ≡ level_in_of (mode_of c)
level-of c = sym (level_in c.mode (level_of c.level) (output_of c.output))

pub report_opens : (e : Bool) (n : ℕ) (m : Marks) {r : Marks} → r ≡ marks m.event 0 0 0 0 0 0 0 0 0 → r ≡ marks_after (open_report e) n m
unfolding marks_after
report_opens e n m q = q

pub status_closes : (n : ℕ) (m : Marks) → m ≡ marks_after close_status n m
unfolding marks_after
status_closes n m = refl

pub closes : (c : CodedControl) (n : ℕ) (m : Marks) {r : Marks} → r ≡ marks_after (closing (level_of c.level)) n m → r ≡ marks_after (closing (level_in_of (mode_of c))) n m
closes c n m e = rw (← level-of c) e

-- ---- the event's number
-- an act leaves the event's number, which the step alone raises
pub event-kept : (a : Act) (n : ℕ) (m : Marks) → (marks_after a n m).event ≡ m.event
unfolding marks_after
event-kept (open_report e) n m = refl
event-kept (open_suite e) n m = refl
event-kept (open_case e) n m = refl
event-kept (open_status k e) n m = refl
event-kept close_suite n m = refl
event-kept close_case n m = refl
event-kept (open_list l e) n m = refl
event-kept (read_property l e name) n m = refl
event-kept (pass k) n m = refl
event-kept close_status n m = refl
event-kept (open_text l o) n m = refl
event-kept (close_text l o) n m = refl
event-kept stop n m = refl
event-kept missing n m = refl
event-kept (broken k) n m = refl

-- the code goes to the number behind the one it read before the act
pub goes-onward : (a : Act) (n : ℕ) (m : Marks) → go_to (m.event + 1) (marks_after a n m) ≡ onward (marks_after a n m)
goes-onward a n m = ap (λ (e : ℕ). go_to (e + 1) (marks_after a n m)) (sym (event-kept a n m))

-- ---- indices
-- marks that are at most n are at most any larger number
pub low-weak : {n k : ℕ} {m : Marks} → n ≤ k → Low n m → Low k m
low-weak h l = record { event = omega arith; suite_index_of = omega arith; case_index_of = omega arith; property_index_of = omega arith }

-- marks that are at most n stay at most the event's number when reading goes on to a later event
pub low-going : {n e : ℕ} {m : Marks} → n ≤ e → Low n m → Low e (go_to e m)
low-going h l = record { event = omega arith; suite_index_of = omega arith; case_index_of = omega arith; property_index_of = omega arith }

more-low : {n k : ℕ} (empty : Bool) → k ≤ n → more empty k ≤ suc n
more-low true h = omega arith
more-low false h = omega arith

-- an act raises an index by at most one
pub low-after : {n : ℕ} (a : Act) (u : ℕ) (m : Marks) → Low n m → Low (suc n) (marks_after a u m)
unfolding marks_after
low-after (open_report e) u m l = record { event = omega arith; suite_index_of = omega arith; case_index_of = omega arith; property_index_of = omega arith }
low-after (open_suite e) u m l = record { event = omega arith; suite_index_of = more-low e l.suite_index_of; case_index_of = omega arith; property_index_of = omega arith }
low-after (open_case e) u m l = record { event = omega arith; suite_index_of = omega arith; case_index_of = more-low e l.case_index_of; property_index_of = omega arith }
low-after (open_status k e) u m l = record { event = omega arith; suite_index_of = omega arith; case_index_of = omega arith; property_index_of = omega arith }
low-after close_suite u m l = record { event = omega arith; suite_index_of = omega arith; case_index_of = omega arith; property_index_of = omega arith }
low-after close_case u m l = record { event = omega arith; suite_index_of = omega arith; case_index_of = omega arith; property_index_of = omega arith }
low-after (open_list p e) u m l = record { event = omega arith; suite_index_of = omega arith; case_index_of = omega arith; property_index_of = omega arith }
low-after (read_property p e name) u m l = record { event = omega arith; suite_index_of = omega arith; case_index_of = omega arith; property_index_of = omega arith }
low-after (pass k) u m l = low-weak (omega arith) l
low-after close_status u m l = low-weak (omega arith) l
low-after (open_text p o) u m l = low-weak (omega arith) l
low-after (close_text p o) u m l = low-weak (omega arith) l
low-after stop u m l = low-weak (omega arith) l
low-after missing u m l = low-weak (omega arith) l
low-after (broken k) u m l = low-weak (omega arith) l

-- before the event of number n no index is above n
pub low-onward : {n : ℕ} (a : Act) (u : ℕ) (m : Marks) → Low n m → Low (suc n) (onward (marks_after a u m))
low-onward {n} a u m l = record { event = omega (arith, event-kept a u m); suite_index_of = after.suite_index_of; case_index_of = after.case_index_of; property_index_of = after.property_index_of }
  where
    after : Low (suc n) (marks_after a u m)
    after = low-after a u m l
