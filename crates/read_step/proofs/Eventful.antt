-- One event of the table, or its end: what the code does there is what the run does. Assumes nothing.
use Rattle.std.specs.Prelude.{Some, None, Ok, Err}
use Prim.Native.Nat.{ℕ, ◌+◌, ◌-◌, ◌≤◌, ◌<◌}
use mathlib.Core.Path.{◌≡◌, refl, sym, ap, subst, ◌∙◌}
use mathlib.Core.List.{List, [], ◌++◌}
use mathlib.Core.Bool.{Bool, true, false, cond}
use native.Mathlib.Omega.{arith}
use borrow.Author.Tests.{leb-true, leb-false}
use lib.Dec.{leb}
use Rattle.read_actions.specs.of_area.Area.{zeros}
use Rattle.read_actions.specs.of_utf8.Characters.{joined}
use Rattle.read_actions.specs.of_refusal.Refusal.{Outcome, accepted}
use Rattle.read_actions.specs.of_table.Table.{word, count_of, table_of}
use Rattle.read_actions.specs.of_table.Event.{Attribute, Event, Piece, kind_at, bytes_at, attributes_from, event_at, resolve_from, tag_kind, piece_kind, piece_bytes}
use Rattle.read_actions.proofs.of_table.Resolving.{attributes-none, event-of-kind}
use Rattle.read_again.specs.of_table_events.inside.Ranges.{first_at, end_at}
use Rattle.read_actions.specs.of_read_element.Outcome.{Rooms}
use Rattle.read_actions.specs.of_read_state.Control.{Mode, at, skipping, finished, Act, read_property, stop, or_skip}
use Rattle.read_actions.specs.of_read_rules.Rules.{plan_eof}
use Rattle.read_actions.specs.of_read_state.inside.Coded.{level_of, output_of, level_in_of, mode_of, control_of, act_of}
use Rattle.read_actions.specs.of_read_state.declared.Act.TheVariants.{Skip, ReadProperty}
use Rattle.read_actions.specs.of_read_place.inside.Coded.{marks_of}
use Rattle.read_again.specs.of_read_path.inside.Coded.{has_room}
use Rattle.read_actions.specs.of_read_content.Content.{Content}
use Rattle.read_actions.specs.of_read_content.inside.Holds.{Lists}
use Rattle.read_again.specs.of_read_machine.Machine.{Machine, act, step, run}
use Rattle.read_again.proofs.of_read_machine.Skipping.{moved, act-passes, act-stops, Keeps, finished-runs}
use Rattle.read_again.specs.of_table_events.inside.Pieces.{is_piece}
use Rattle.read_again.proofs.Since.{since-steps}
use Rattle.read_step.specs.inside.Planned.{planned, name_in}
use Rattle.read_step.specs.inside.Standing.{Step, machine_of, run_on_of, in_skip, run_skip, Stands, refusal_at, Acted, Ended, Stepped}
use Rattle.read_step.specs.inside.Promises.{StepsSkip}
use Rattle.read_step.specs.declared.State.{State}
use Rattle.read_step.proofs.Running.{run-goes, run-goes_on, run-refuses, run_end}
use Rattle.read_step.proofs.ByKind.{piece-event, begins, no-eof, tag-name, tag-plan, skip-inside, eof-ends, planned-fits}
use Rattle.read_step.proofs.Tables.{event, event-acts, first-end, end-end}

-- the path of what is planned has room for an Attribute
pub plan-fits : (st : State) (c : Content) (kind : ℕ) (bytes : List ℕ) (a : Act) → a ≡ planned (control_of st.control) kind bytes
    → Lists (mode_of st.control) (marks_of st.marks) st.content c → has_room a ≡ true
plan-fits st c kind bytes a e l =
    ap has_room e ∙ planned-fits (control_of st.control) kind bytes (λ q. (subst (λ (m : Mode). Lists m (marks_of st.marks) st.content c) q l).1.1)

module _ (rooms : Rooms) (events attributes source : List ℕ) (good : table_of events attributes source ≡ accepted tt) (st : State) (c : Content) (kind : ℕ) (bytes : List ℕ)
    (kq : kind ≡ cond (leb (count_of events) st.marks.event) 7 (kind_at events st.marks.event))
    (bq : bytes ≡ cond (leb (count_of events) st.marks.event) [] (bytes_at events source st.marks.event)) where
  abbrev i : ℕ
  i = st.marks.event

  abbrev s : Machine
  s = machine_of st c

  abbrev rest : Outcome Machine
  rest = run_on_of rooms events attributes source (machine_of st c)

  -- ---- kind and bytes inside the table, and at its end
  kind-here : leb (count_of events) i ≡ false → kind ≡ kind_at events i
  kind-here e = kq ∙ ap (λ (b : Bool). cond b 7 (kind_at events i)) e

  bytes-here : leb (count_of events) i ≡ false → bytes ≡ bytes_at events source i
  bytes-here e = bq ∙ ap (λ (b : Bool). cond b [] (bytes_at events source i)) e

  kind-end : leb (count_of events) i ≡ true → kind ≡ 7
  kind-end e = kq ∙ ap (λ (b : Bool). cond b 7 (kind_at events i)) e

  -- ---- one event inside the table
  steps : (words text scratch : List ℕ) (o : Outcome Machine) → leb (count_of events) i ≡ false → step rooms (event_at events attributes source i) s ≡ o
      → (r : Step) → Acted attributes source words text scratch st o r → Stepped rooms events attributes source words text scratch st s rest r
  steps words text scratch o e q (Ok (Some t)) a =
      let h : i < count_of events = leb-false (count_of events) i e in
      let n : t.marks.event ≡ i + 1 = a.next in
      record {
        content = a.content;
        since = λ first x. since-steps events attributes source s first h rooms (machine_of t a.content) (q ∙ a.same) n x;
        same = run-goes_on rooms events attributes source s i refl h (machine_of t a.content) n (q ∙ a.same);
        stands = a.stands;
        later = omega arith;
        within = omega arith;
      }
  steps words text scratch o e q (Ok None) a = absurd a
  steps words text scratch o e q (Err x) a =
      record { placed = a.placed; same = run-refuses rooms events attributes source s i refl (leb-false (count_of events) i e) (refusal_at st x a.placed.name) (q ∙ a.same) }

  -- ---- pieces
  piece-here : leb (count_of events) i ≡ false → is_piece kind ≡ true → step rooms (event_at events attributes source i) s ≡ step rooms (Piece (piece_kind kind) (piece_bytes kind bytes)) s
  piece-here e p =
      let h : kind ≤ 9 = (let v = (event events attributes source good i (leb-false (count_of events) i e)).kind in let z = kind-here e in omega arith) in
      ap (λ (x : Event). step rooms x s)
      (event-of-kind events attributes source i kind (sym (kind-here e))
      ∙ piece-event kind (bytes_at events source i) (word events i 3) (attributes_from attributes source (word events i 4) (word events i 3)) p h
      ∙ ap (λ (b : List ℕ). Piece (piece_kind kind) (piece_bytes kind b)) (sym (bytes-here e)))

  pub piece_way : (words text scratch : List ℕ) → is_piece kind ≡ true → (r : Step)
      → Acted attributes source words text scratch st (step rooms (Piece (piece_kind kind) (piece_bytes kind bytes)) s) r → Stepped rooms events attributes source words text scratch st s rest r
  piece_way words text scratch p r a = go (leb (count_of events) i) refl
    where
      go : (b : Bool) → leb (count_of events) i ≡ b → Stepped rooms events attributes source words text scratch st s rest r
      go true e = let q : true ≡ false = sym p ∙ ap is_piece (kind-end e) in let z : ◌≡◌ {A = ℕ} 0 1 = cc in absurd (omega arith)
      go false e = steps words text scratch (step rooms (Piece (piece_kind kind) (piece_bytes kind bytes)) s) e (piece-here e p) r a

  -- ---- actions
  module _ (p : is_piece kind ≡ false) (a : Act) (aq : a ≡ planned (control_of st.control) kind bytes) where
    -- with the attributes of the range that the code reads
    act-here : leb (count_of events) i ≡ false → (first end : ℕ) → first ≡ first_at events i → end ≡ end_at events i
        → step rooms (event_at events attributes source i) s ≡ act rooms a first (attributes_from attributes source (end - first) first) s
    act-here e first end fq eq =
        event-acts events attributes source good i (leb-false (count_of events) i e) rooms s (ap is_piece (sym (kind-here e)) ∙ p)
        ∙ ap (λ (k : ℕ). act rooms (planned (control_of st.control) k (bytes_at events source i)) (first_at events i)
        (attributes_from attributes source (end_at events i - first_at events i) (first_at events i)) s) (sym (kind-here e))
        ∙ ap (λ (b : List ℕ). act rooms (planned (control_of st.control) kind b) (first_at events i) (attributes_from attributes source (end_at events i - first_at events i) (first_at events i)) s)
        (sym (bytes-here e))
        ∙ ap (λ (x : Act). act rooms x (first_at events i) (attributes_from attributes source (end_at events i - first_at events i) (first_at events i)) s) (sym aq)
        ∙ ap (λ (n : ℕ). act rooms a n (attributes_from attributes source (end_at events i - n) n) s) (sym fq)
        ∙ ap (λ (n : ℕ). act rooms a first (attributes_from attributes source (n - first) first) s) (sym eq)

    plan-end : leb (count_of events) i ≡ true → a ≡ plan_eof (mode_of st.control) st.control.seen st.control.closed
    plan-end e = aq ∙ ap (λ (k : ℕ). planned (control_of st.control) k bytes) (kind-end e)

    act-end : leb (count_of events) i ≡ true → (first end : ℕ) → first ≡ first_at events i → end ≡ end_at events i → rest ≡ act rooms a first (attributes_from attributes source (end - first) first) s
    unfolding step
    act-end e first end fq eq =
        run_end rooms events attributes source s (leb-true (count_of events) i e)
        ∙ ap (λ (x : Act). act rooms x 0 [] s) (sym (plan-end e))
        ∙ ap (λ (xs : List Attribute). act rooms a 0 xs s) (sym (attributes-none attributes source 0))
        ∙ ap (λ (n : ℕ). act rooms a n (attributes_from attributes source (0 - n) n) s) (sym (fq ∙ first-end events i e))
        ∙ ap (λ (n : ℕ). act rooms a first (attributes_from attributes source (n - first) first) s) (sym (eq ∙ end-end events i e))

    -- an act that begins a skip stands at a tag inside the table
    begins-here : begins a ≡ true → (leb (count_of events) i ≡ false) × (name_in kind bytes ≡ bytes_at events source i)
    begins-here b = go (leb (count_of events) i) refl
      where
        go : (t : Bool) → leb (count_of events) i ≡ t → (leb (count_of events) i ≡ false) × (name_in kind bytes ≡ bytes_at events source i)
        go true e = absurd (no-eof st.control kind bytes a aq b (kind-end e))
        go false e = (e, tag-name st.control kind bytes a aq b ∙ bytes-here e)

    pub act-way : (words text scratch : List ℕ) → (a ≡ stop → ⊥) → (first end : ℕ) → first ≡ first_at events i → end ≡ end_at events i → (r : Step) → Acted attributes source words
        text scratch st (act rooms a first (attributes_from attributes source (end - first) first) s) r → Stepped rooms events attributes source words text scratch st s rest r
    act-way words text scratch n first end fq eq r d = go (leb (count_of events) i) refl
      where
        ends : leb (count_of events) i ≡ true → (r : Step) → Acted attributes source words text scratch st (act rooms a first (attributes_from attributes source (end - first) first) s) r
            → Stepped rooms events attributes source words text scratch st s rest r
        ends e (Ok (Some t)) x =
            absurd (eof-ends rooms first (attributes_from attributes source (end - first) first) s (machine_of t x.content)
            st.control.mode (level_of st.control.level) (output_of st.control.output) st.control.seen st.control.closed
            (λ q. n (plan-end e ∙ q))
            (ap (λ (y : Act). act rooms y first (attributes_from attributes source (end - first) first) s) (sym (plan-end e)) ∙ x.same))
        ends e (Ok None) x = absurd x
        ends e (Err h) x = record { placed = x.placed; same = act-end e first end fq eq ∙ x.same }

        go : (b : Bool) → leb (count_of events) i ≡ b → Stepped rooms events attributes source words text scratch st s rest r
        go true e = ends e r d
        go false e = steps words text scratch (act rooms a first (attributes_from attributes source (end - first) first) s) e (act-here e first end fq eq) r d

  -- ---- the end: End `testsuites` (rule R6), or Eof
  pub stop-way : is_piece kind ≡ false → stop ≡ planned (control_of st.control) kind bytes → (words text scratch : List ℕ)
      → Stands attributes source words text scratch st.content s → Ended words text rest
  stop-way p q words text scratch t = go (leb (count_of events) i) refl
    where
      kept : (k : Keeps (moved finished (i + 1) s) (run rooms (resolve_from events attributes source (count_of events - (i + 1)) (i + 1)) (moved finished (i + 1) s)))
          → rest ≡ run rooms (resolve_from events attributes source (count_of events - (i + 1)) (i + 1)) (moved finished (i + 1) s) → Ended words text rest
      kept k e =
          record {
            machine = k.left;
            same = e ∙ k.ends;
            room = t.holds.room;
            left = t.holds.left;
            records = t.holds.records ∙ ap (λ (x : Content). joined x.records ++ zeros t.holds.room) (sym k.same);
            texts = t.holds.stored ∙ ap (λ (x : Content). x.texts ++ zeros t.holds.left) (sym k.same);
          }

      go : (b : Bool) → leb (count_of events) i ≡ b → Ended words text rest
      go true e =
          record {
            machine = (moved finished (i + 1) s);
            same = act-end p stop q e (first_at events i) (end_at events i) refl refl
                ∙ act-stops rooms (first_at events i) (attributes_from attributes source (end_at events i - first_at events i) (first_at events i)) s;
            room = t.holds.room;
            left = t.holds.left;
            records = t.holds.records;
            texts = t.holds.stored;
          }
      go false e =
          kept (finished-runs rooms (moved finished (i + 1) s) (resolve_from events attributes source (count_of events - (i + 1)) (i + 1)) refl)
          (run-goes rooms events attributes source s i refl (leb-false (count_of events) i e) (moved finished (i + 1) s)
          (act-here p stop q e (first_at events i) (end_at events i) refl refl
          ∙ act-stops rooms (first_at events i) (attributes_from attributes source (end_at events i - first_at events i) (first_at events i)) s))

  -- ---- skips
  module _ (p : is_piece kind ≡ false) where
    -- an unknown element
    skip_steps : act_of st.control (name_in kind bytes) Skip ≡ planned (control_of st.control) kind bytes
        → (i < count_of events) × (step rooms (event_at events attributes source i) s ≡ accepted (in_skip (bytes_at events source i) (i + 1) s))
    unfolding or_skip begins
    skip_steps q =
        let m : Mode = mode_of st.control in
        let x = begins-here p (or_skip (level_in_of m) (name_in kind bytes)) q refl in
        let h : i < count_of events = leb-false (count_of events) i x.0 in
        let inside : at (level_in_of m) ≡ m = skip-inside st.control.mode (level_of st.control.level) (output_of st.control.output) st.control.seen
        (tag_kind kind) (level_in_of m) bytes (name_in kind bytes) (tag-plan st.control kind bytes (or_skip (level_in_of m) (name_in kind bytes)) q refl) in (
          h,
          act-here p (or_skip (level_in_of m) (name_in kind bytes)) q x.0 (first_at events i) (end_at events i) refl refl
              ∙ act-passes rooms (first_at events i) (attributes_from attributes source (end_at events i - first_at events i) (first_at events i)) s (skipping (at (level_in_of m)) (name_in kind bytes) 0)
              ∙ ap (λ (o : Mode). accepted (moved (skipping o (name_in kind bytes) 0) (i + 1) s)) inside
              ∙ ap (λ (n : List ℕ). accepted (moved (skipping m n 0) (i + 1) s)) x.1,
        )

    pub skip-way : act_of st.control (name_in kind bytes) Skip ≡ planned (control_of st.control) kind bytes → (i < count_of events) × (rest ≡ run_skip rooms events attributes source i s)
    skip-way q =
        let x = skip_steps q in
        (x.0, run-goes rooms events attributes source s i refl x.0 (in_skip (bytes_at events source i) (i + 1) s) x.1)

    pub skip-stepped : (words text scratch : List ℕ) (r : Step) → act_of st.control (name_in kind bytes) Skip ≡ planned (control_of st.control) kind bytes → StepsSkip st i events source r
        → Stands attributes source words text scratch st.content s → Stepped rooms events attributes source words text scratch st s rest r
    skip-stepped words text scratch r q f t =
        subst (λ (o : Outcome Machine). Stepped rooms events attributes source words text scratch st s o r)
        (sym (skip-way q).1) (f rooms attributes words text scratch c st s (omega arith) (omega arith) refl
        (λ first x. since-steps events attributes source s first (skip_steps q).0 rooms (in_skip (bytes_at events source i) (i + 1) s) (skip_steps q).1 refl x) t)

    -- a Start `property`
    pub property-way : act_of st.control (name_in kind bytes) (ReadProperty false) ≡ planned (control_of st.control) kind bytes → (first end : ℕ) → first ≡ first_at events i → end ≡ end_at events i
        → (i < count_of events) × (step rooms (event_at events attributes source i) s
        ≡ act rooms (act_of st.control (bytes_at events source i) (ReadProperty false)) first (attributes_from attributes source (end - first) first) s)
    unfolding begins
    property-way q first end fq eq =
        let m : Mode = mode_of st.control in
        let x = begins-here p (read_property (level_in_of m) false (name_in kind bytes)) q refl in (
          leb-false (count_of events) i x.0,
          act-here p (read_property (level_in_of m) false (name_in kind bytes)) q x.0 first end fq eq
              ∙ ap (λ (n : List ℕ). act rooms (read_property (level_in_of m) false n) first (attributes_from attributes source (end - first) first) s) x.1,
        )
