-- A Start `property` is read as an Empty one, and then its content is skipped. Assumes nothing.
use Rattle.std.specs.Prelude.{Some, None, Ok, Err}
use Prim.Native.Nat.{ℕ, ◌+◌, ◌<◌}
use mathlib.Core.Path.{◌≡◌, refl, sym, ap, subst, ◌∙◌}
use mathlib.Core.Bool.{Bool, true, false, cond}
use mathlib.Core.List.{List}
use native.Mathlib.Omega.{arith}
use lib.ListN.{length}
use Rattle.read_actions.specs.of_refusal.Refusal.{Refused, Outcome, accepted, refused}
use Rattle.read_actions.specs.of_table.Table.{count_of}
use Rattle.read_actions.specs.of_table.Event.{Attribute, bytes_at, event_at}
use Rattle.read_actions.specs.of_read_element.Outcome.{◌>>=◌, Rooms}
use Rattle.read_actions.specs.of_read_state.Control.{Level, top, suite, case, status, Output, Mode, listing, skipping, Control, read_property, turn}
use Rattle.read_actions.specs.of_read_state.inside.Coded.{level_of, output_of, level_in_of, mode_at, mode_of}
use Rattle.read_actions.specs.of_read_state.declared.Mode.{Mode as CodedMode}
use Rattle.read_actions.specs.of_read_state.declared.Act.TheVariants.{Close, ReadProperty}
use Rattle.read_actions.specs.of_read_state.declared.Mode.TheVariants.{At, Text, List as Listing}
use Rattle.read_actions.specs.of_read_place.Marks.{Marks, marks_after, onward}
use Rattle.read_actions.specs.of_read_place.inside.Coded.{marks_of}
use Rattle.read_again.specs.of_read_path.Paths.{mode_path, act_place}
use Rattle.read_again.specs.of_read_path.inside.Coded.{has_room}
use Rattle.read_actions.specs.of_read_content.Content.{Content, property_kind, adding, perform}
use Rattle.read_actions.specs.of_read_content.declared.Content.{Content as CodedContent}
use Rattle.read_actions.specs.of_read_content.inside.Holds.{Lists, is_list}
use Rattle.read_again.specs.of_read_machine.Machine.{Machine, act, step}
use Rattle.read_again.proofs.of_read_machine.Skipping.{moved, property-acts}
use Rattle.read_step.specs.inside.Standing.{Step, machine_of, run_on_of, run_skip, refusal_at, Refuses, Moved, Acted, Stepped}
use Rattle.read_step.specs.inside.Promises.{PassesContent}
use Rattle.read_step.specs.declared.State.{State}
use Rattle.read_again.proofs.Since.{since-steps}
use Rattle.read_step.proofs.Running.{run-goes, run-refuses}

no : {A : Type 0} → ◌≡◌ {A = Bool} false true → A
no e = absurd (let z : ◌≡◌ {A = ℕ} 0 1 = ap (λ (b : Bool). cond b 1 0) e in omega arith)

in_list : (m : CodedMode) (l : Level) (o : Output) → is_list (mode_at m l o) ≡ true → mode_at m l o ≡ listing (level_in_of (mode_at m l o))
in_list At l o h = no h
in_list Text l o h = no h
in_list Listing l o h = refl

-- only suite and case have properties
room : (l : Level) (e : Bool) (name : List ℕ) (m : Marks) (c : CodedContent) (s : Content) → Lists (listing l) m c s → has_room (read_property l e name) ≡ true
room top e name m c s h = refl
room suite e name m c s h = refl
room case e name m c s h = refl
room status e name m c s h = absurd h.1.1

pub property-room : (st : State) (e : Bool) (name : List ℕ) (c : Content) → is_list (mode_of st.control) ≡ true
    → Lists (mode_of st.control) (marks_of st.marks) st.content c → has_room (read_property (level_in_of (mode_of st.control)) e name) ≡ true
property-room st e name c h li =
    room (level_in_of (mode_of st.control)) e name (marks_of st.marks) st.content c
    (subst (λ (m : Mode). Lists m (marks_of st.marks) st.content c) (in_list st.control.mode (level_of st.control.level) (output_of st.control.output) h) li)

-- a property isn't closed by Close
pub unclosed : ReadProperty true ≡ Close → ⊥
unclosed e = let z : ◌≡◌ {A = ℕ} 0 1 = cc in omega arith

-- ---- what an Empty property leaves
abbrev Of : (Machine → Type 0) → Outcome Machine → Type 0
Of P (accepted t) = P t
Of P (refused r) = Unit {0}

path-kept : (l : Level) (name : List ℕ) (n : ℕ) (m : Marks) → mode_path (listing l) (onward (marks_after (read_property l true name) n m)) ≡ mode_path (listing l) m
unfolding marks_after
path-kept top name n m = refl
path-kept suite name n m = refl
path-kept case name n m = refl
path-kept status name n m = refl

abbrev Stays : Level → Machine → Machine → Type 0
Stays l s t = (t.control ≡ s.control) × (mode_path (listing l) t.marks ≡ mode_path (listing l) s.marks)

module _ (rooms : Rooms) (l : Level) (name : List ℕ) (j : ℕ) (xs : List Attribute) (s : Machine) where
  abbrev left : Content → Machine
  left c = record { control = turn (read_property l true name) s.control; content = c; marks = onward (marks_after (read_property l true name) (length s.content.records) s.marks) }

  stays : Of (Stays l s) (act rooms (read_property l true name) j xs s)
  unfolding act perform turn ◌>>=◌
  stays = go (adding rooms (act_place (read_property l true name) s.control.mode s.marks) (property_kind l) j xs s.content)
    where
      go : (o : Outcome Content) → Of (Stays l s) (o >>= λ c. accepted (left c))
      go (accepted c) = (refl, path-kept l name (length s.content.records) s.marks)
      go (refused r) = tt

  stays-there : (t : Machine) → act rooms (read_property l true name) j xs s ≡ accepted t → Stays l s t
  stays-there t e = subst (λ (o : Outcome Machine). Of (Stays l s) o) e stays

  opens-skip : (t : Machine) → act rooms (read_property l true name) j xs s ≡ accepted t
      → act rooms (read_property l false name) j xs s ≡ accepted (moved (skipping (listing l) name 0) t.marks.event t)
  unfolding ◌>>=◌
  opens-skip t e = property-acts rooms j xs s l name ∙ ap (λ (o : Outcome Machine). o >>= λ u. accepted (moved (skipping (listing l) name 0) u.marks.event u)) e

  refuses-too : (r : Refused) → act rooms (read_property l true name) j xs s ≡ refused r → act rooms (read_property l false name) j xs s ≡ refused r
  unfolding ◌>>=◌
  refuses-too r e = property-acts rooms j xs s l name ∙ ap (λ (o : Outcome Machine). o >>= λ u. accepted (moved (skipping (listing l) name 0) u.marks.event u)) e

-- ---- a Start property of a table
module _ (rooms : Rooms) (events attributes source : List ℕ) (st : State) (c : Content) (j : ℕ) (xs : List Attribute) (h : st.marks.event < count_of events) where
  abbrev i : ℕ
  i = st.marks.event

  abbrev name : List ℕ
  name = bytes_at events source i

  abbrev l : Level
  l = level_in_of (mode_of st.control)

  abbrev s : Machine
  s = machine_of st c

  module _ (g : step rooms (event_at events attributes source i) s ≡ act rooms (read_property l false name) j xs s) where
    property-halts : (r : Refused) → act rooms (read_property l true name) j xs s ≡ refused r → run_on_of rooms events attributes source s ≡ refused r
    property-halts r e = run-refuses rooms events attributes source s i refl h r (g ∙ refuses-too rooms l name j xs s r e)

    module _ (list : is_list (mode_of st.control) ≡ true) (u : State) (d : Content) (e : act rooms (read_property l true name) j xs s ≡ accepted (machine_of u d)) where
      here : mode_of st.control ≡ listing l
      here = in_list st.control.mode (level_of st.control.level) (output_of st.control.output) list

      there : mode_of u.control ≡ listing l
      there = ap (λ (k : Control). k.mode) (stays-there rooms l name j xs s (machine_of u d) e).0 ∙ here

      property-path : mode_path (mode_of st.control) (marks_of st.marks) ≡ mode_path (mode_of u.control) (marks_of u.marks)
      property-path =
          ap (λ (m : Mode). mode_path m (marks_of st.marks)) here ∙ sym (stays-there rooms l name j xs s (machine_of u d) e).1
          ∙ ap (λ (m : Mode). mode_path m (marks_of u.marks)) (sym there)

      property-steps : u.marks.event ≡ i + 1 → step rooms (event_at events attributes source i) s ≡ accepted (moved (skipping (mode_of u.control) name 0) (i + 1) (machine_of u d))
      property-steps n =
          g ∙ opens-skip rooms l name j xs s (machine_of u d) e
          ∙ ap (λ (m : Mode). accepted (moved (skipping m name 0) u.marks.event (machine_of u d))) (sym there)
          ∙ ap (λ (k : ℕ). accepted (moved (skipping (mode_of u.control) name 0) k (machine_of u d))) n

      property-goes : u.marks.event ≡ i + 1 → run_on_of rooms events attributes source s ≡ run_skip rooms events attributes source i (machine_of u d)
      property-goes n =
          run-goes rooms events attributes source s i refl h (moved (skipping (mode_of u.control) name 0) (i + 1) (machine_of u d)) (property-steps n)

    -- ---- what the code's answers come to
    pub property-passes : (words text scratch : List ℕ) (read r : Step) (o : Outcome Machine) → is_list (mode_of st.control) ≡ true → o ≡ act rooms (read_property l true name) j xs s
        → Acted attributes source words text scratch st o read → PassesContent read i events source r
        → Stepped rooms events attributes source words text scratch st s (run_on_of rooms events attributes source s) r
    property-passes words text scratch (Ok (Some u)) r o list q a f =
        let m : Moved attributes source words text scratch i o u = a in
        let n = m.next in
        let e = sym q ∙ m.same in
        subst (λ (x : Outcome Machine). Stepped rooms events attributes source words text scratch st s x r) (sym (property-goes list u m.content e m.next))
        (f rooms attributes words text scratch m.content st s (omega arith) (omega arith) (property-path list u m.content e)
        (λ first x. since-steps events attributes source s first h rooms (moved (skipping (mode_of u.control) name 0) (i + 1) (machine_of u m.content))
        (property-steps list u m.content e m.next) refl x) m.stands)
    property-passes words text scratch (Ok None) r o list q a e = absurd a
    property-passes words text scratch (Err x) r o list q a e =
        let f : Refuses st x o = a in
        subst (λ (y : Step). Stepped rooms events attributes source words text scratch st s (run_on_of rooms events attributes source s) y) (sym e)
        (record { placed = f.placed; same = property-halts (refusal_at st x f.placed.name) (sym q ∙ f.same) })
