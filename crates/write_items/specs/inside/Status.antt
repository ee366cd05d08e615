-- The events of a run in the parts in which they are put. Definitions only.
use Rattle.std.specs.Prelude.{ℕ, List, [], ◌∷◌, ◌++◌, Bool, cond, ◌||◌, eqb}
use Rattle.write_report.specs.of_names.Bytes.{bytes}
use Rattle.write_report.specs.of_names.Tags as tag
use Rattle.write_report.specs.of_tree_record.Kinds as kind
use Rattle.write_report.specs.of_table.Event.{Event}
use Rattle.write_report.specs.of_tree_report.Report.{FlakyOrRerun, flaky, rerun}
use Rattle.write_report.specs.of_tree_record.Bits as bit
use Rattle.write_report.specs.of_tree_record.Words as word
use Rattle.write_report.specs.of_tree_report.Fields.{has_bit, text_at, system_out, system_err, stack_trace}
use Rattle.write_report.specs.Written.{optional, text_event, indent, end_tag, serialize_output, serialize_outputs}

abbrev pub family : Bool → FlakyOrRerun
family b = cond b flaky rerun

-- the code of a run's tag name
unfoldable pub run_tag : ℕ → Bool → ℕ
run_tag k b =
    cond (eqb k kind.flaky_failure || eqb k kind.rerun_failure) (cond b tag.flaky_failure tag.rerun_failure) (cond b tag.flaky_error tag.rerun_error)

module _ (text r : List ℕ) where
  -- whether a child follows the description
  abbrev pub has_child : Bool
  has_child = has_bit bit.stack_trace r || (has_bit bit.out r || has_bit bit.err r)

  unfoldable pub described_run : List Event
  described_run = cond (has_bit bit.description r) (text_event (text_at text r word.description) ∷ cond has_child (indent ∷ []) []) []

  unfoldable pub traced_run : List Event
  traced_run = described_run ++ optional (serialize_output (bytes "stackTrace")) (stack_trace text r)

  unfoldable pub closed_run : List ℕ → List Event
  closed_run name = traced_run ++ (serialize_outputs (system_out text r) (system_err text r) ++ (end_tag name ∷ []))
