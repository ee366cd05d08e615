-- The state before the first event. Assumes nothing.
use Prim.Native.Nat.{ℕ}
use mathlib.Core.Path.{◌≡◌, refl, ap, ◌∙◌}
use mathlib.Core.List.{List}
use mathlib.Core.Bool.{false}
use native.Mathlib.Omega.{arith}
use Rattle.read_actions.specs.of_area.Area.{zeros}
use Rattle.read_actions.specs.of_tree_status.declared.Tally.{Tally}
use Rattle.read_actions.specs.of_tree_status.Status.{no_status}
use Rattle.read_actions.specs.of_read_state.declared.Mode.TheVariants.{At}
use Rattle.read_actions.specs.of_read_state.declared.Level.TheVariants.{Top}
use Rattle.read_actions.specs.of_read_state.declared.Output.TheVariants.{Out}
use Rattle.read_actions.specs.of_read_place.Marks.{Marks, marks}
use Rattle.read_actions.specs.of_read_place.inside.Coded.{marks_of}
use Rattle.read_actions.specs.of_read_place.declared.Marks.{Marks as CodedMarks}
use Rattle.read_actions.specs.of_read_content.inside.Holds.{no_content}
use Rattle.read_actions.specs.of_read_content.declared.Content.{Content as CodedContent}
use Rattle.read_step.specs.inside.Standing.{machine_of, Stands, beginning, nothing}
use Rattle.read_step.specs.declared.State.{State}

no-marks : {m : CodedMarks} → marks_of m ≡ marks 0 0 0 0 0 0 0 0 0 0 → m ≡ beginning.marks
no-marks e = ap coded e
  where
    coded : Marks → CodedMarks
    coded m = record {
      event = m.event;
      suite_index = m.suite_index_of;
      suite_start = m.suite_start_of;
      case_index = m.case_index_of;
      case_start = m.case_start_of;
      status_kind = m.status_kind_of;
      property_index = m.property_index_of;
      suite_at = m.suite_at_of;
      case_at = m.case_at_of;
      status_at = m.status_at_of;
    }

module _ (t : Tally) (m : CodedMarks) (k : CodedContent) where
  abbrev starting : Tally → CodedMarks → CodedContent → State
  starting t m k = record { control = record { mode = At; level = Top; output = Out; seen = false; closed = false; tally = t }; marks = m; content = k }

  pub begun : t ≡ no_status → marks_of m ≡ marks 0 0 0 0 0 0 0 0 0 0 → k ≡ no_content → starting t m k ≡ beginning
  begun a b e = ap (λ (x : Tally). starting x m k) a ∙ ap (λ (x : CodedMarks). starting beginning.control.tally x k) (no-marks b)
      ∙ ap (λ (x : CodedContent). starting beginning.control.tally beginning.marks x) e

-- cleared areas and the first state of the code are the definition's begin
pub begin-stands : (attributes source scratch : List ℕ) (words text : ℕ) → Stands attributes source (zeros words) (zeros text) scratch beginning.content (machine_of beginning nothing)
begin-stands attributes source scratch words text =
    record {
      holds = record {
        room = words;
        left = text;
        records = refl;
        whole = tt;
        used = refl;
        stored = refl;
        fill = refl;
        within = omega arith;
        begins = omega arith;
        described = λ x. refl;
        behind = refl;
        description = refl;
        gathered = refl;
        free = λ i j a b c. absurd (omega arith);
        report = omega arith;
        dead = λ i h. absurd (omega arith);
      };
      lists = (tt, refl);
      low = record { event = omega arith; suite_index_of = omega arith; case_index_of = omega arith; property_index_of = omega arith };
      few = record { mains = omega arith; flaky = omega arith; reruns = omega arith };
    }
