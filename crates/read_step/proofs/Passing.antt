-- An element is passed over whole. Assumes nothing.
use Prim.Native.Nat.{ℕ, ◌+◌, ◌-◌, ◌≤◌, ◌<◌}
use mathlib.Core.Path.{◌≡◌, refl, sym, ap, subst, ◌∙◌}
use mathlib.Core.List.{List}
use native.Mathlib.Omega.{arith}
use Rattle.read_actions.specs.of_refusal.Refusal.{nowhere, Outcome, refused}
use Rattle.read_actions.specs.of_refusal.declared.Cause.{Cause}
use Rattle.read_actions.specs.of_refusal.declared.PathElement.{PathElement}
use Rattle.read_actions.specs.of_table.Table.{count_of}
use Rattle.read_actions.specs.of_table.Event.{bytes_at, resolve_from}
use Rattle.read_again.specs.of_table_events.Skip.{Skip, next, broken_at, skip_of}
use Rattle.read_again.proofs.of_table_events.Turns.{Far}
use Rattle.read_actions.specs.of_read_element.Outcome.{Rooms}
use Rattle.read_actions.specs.of_read_state.inside.Coded.{mode_of, control_of}
use Rattle.read_actions.specs.of_read_state.declared.Act.TheVariants.{Broken}
use Rattle.read_actions.specs.of_read_place.Marks.{Marks}
use Rattle.read_again.specs.of_read_path.Paths.{mode_path}
use Rattle.read_actions.specs.of_read_place.inside.Coded.{marks_of, go_to}
use Rattle.read_actions.specs.of_read_place.declared.Marks.{Marks as CodedMarks}
use Rattle.read_actions.specs.of_read_content.Content.{Content}
use Rattle.read_again.specs.of_read_machine.Machine.{Machine}
use Rattle.read_again.proofs.of_read_machine.Skipping.{after_skip, skips, skip-within}
use Rattle.read_step.specs.inside.Standing.{machine_of, run_on_of, in_skip, run_skip, Stands, Refuses, Went}
use Rattle.read_again.specs.inside.Since.{Since, first_of}
use Rattle.read_again.proofs.Since.{since-skipped}
use Rattle.read_step.specs.declared.State.{State}
use Rattle.read_step.proofs.Stepping.{going, halts-here}

module _ (rooms : Rooms) (events attributes source : List ℕ) (st from : State) (c : Content) (start : ℕ) (h : start < count_of events) (before : from.marks.event ≤ start) where
  abbrev name : List ℕ
  name = bytes_at events source start

  abbrev rest : Outcome Machine
  rest = run_skip rooms events attributes source start (machine_of st c)

  abbrev skipped : Skip
  skipped = skip_of name 0 (start + 1) (resolve_from events attributes source (count_of events - (start + 1)) (start + 1))

  reads : rest ≡ after_skip rooms events attributes source (count_of events) (mode_of st.control) (machine_of st c) skipped
  reads = skips rooms events attributes source (mode_of st.control) name (machine_of st c) (count_of events) (count_of events - (start + 1)) (start + 1) 0 (omega arith)

  far : Far (start + 1) (start + 1 + (count_of events - (start + 1))) skipped
  far = skip-within rooms events attributes source name 0 (count_of events - (start + 1)) (start + 1)

  pub skip-went : (words text scratch : List ℕ) (m' : CodedMarks) (j : ℕ) → skipped ≡ next j → marks_of m' ≡ go_to j (marks_of st.marks)
      → st.marks.event ≤ start + 1 → (s : Machine)
      → ((first : ℕ) → Since events attributes source first s → Since events attributes source (first_of first s) (in_skip name (start + 1) (machine_of st c)))
      → Stands attributes source words text scratch st.content (machine_of st c)
      → Went rooms events attributes source words text scratch from.marks.event s rest (record { control = st.control; marks = m'; content = st.content })
  skip-went words text scratch m' j e m reached s k t =
      let f : (start + 1 < j) × (j ≤ start + 1 + (count_of events - (start + 1))) = subst (Far (start + 1) (start + 1 + (count_of events - (start + 1)))) e far in
      let low = f.0 in
      let high = f.1 in
      let n : m'.event ≡ j = ap (λ (x : Marks). x.event) m in
      record {
        content = c;
        since = λ first x.
            since-skipped events attributes source (first_of first s) (mode_of st.control) name start j (in_skip name (start + 1) (machine_of st c))
            (machine_of (record { control = st.control; marks = m'; content = st.content }) c) h refl refl e refl refl n (k first x);
        same =
            reads ∙ ap (after_skip rooms events attributes source (count_of events) (mode_of st.control) (machine_of st c)) e
            ∙ ap (λ (x : Marks). run_on_of rooms events attributes source (record { control = control_of st.control; content = c; marks = x })) (sym m);
        stands = going attributes source words text scratch words text scratch st m' st.content c c j m t t.holds t.lists (omega arith);
        later = omega arith;
        within = omega arith;
      }

  pub skip-halted : (why : Cause) (j : ℕ) → skipped ≡ broken_at why j → count_of events ≤ 65536
      → mode_path (mode_of from.control) (marks_of from.marks) ≡ mode_path (mode_of st.control) (marks_of st.marks)
      → Refuses from (record { act = Broken why; event = j; fault = record { cause = why; key = 0; attribute = nowhere } }) rest
  skip-halted why j e most path =
      let f : (start + 1 ≤ j) × (j ≤ start + 1 + (count_of events - (start + 1))) = subst (Far (start + 1) (start + 1 + (count_of events - (start + 1)))) e far in
      let high = f.1 in
      halts-here from rest why (record { cause = why; key = 0; attribute = nowhere }) j (omega arith)
      (reads ∙ ap (after_skip rooms events attributes source (count_of events) (mode_of st.control) (machine_of st c)) e
      ∙ ap (λ (p : List PathElement). refused (record { cause = why; path = p; event = j; attribute = nowhere })) (sym path))
