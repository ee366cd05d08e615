-- A run of a case that has a main status element. Definitions only.
use Rattle.std.specs.Prelude.{Bool, cond}
use Rattle.build_records.specs.of_refusal.Refusal.{Outcome}
use Rattle.build_records.specs.of_refusal.declared.Cause.TheVariants as cause
use Rattle.build_records.specs.of_tree_record.Bits as bit
use Rattle.build_records.specs.of_tree_record.Record.{unmarked}
use Rattle.build_records.specs.of_build_draft.declared.NonSuccessKind.{NonSuccessKind}
use Rattle.build_records.specs.of_build_draft.declared.FlakyOrRerun.{FlakyOrRerun}
use Rattle.build_records.specs.of_build_draft.declared.FlakyOrRerun.TheVariants.{Flaky, Rerun}
use Rattle.build_records.specs.of_build_draft.Draft.{Draft, asks, on_record_of, with_words}
use Rattle.build_records.specs.of_build_draft.Parts.{taking, run_kind}
use Rattle.build_records.specs.of_build_draft.Calls.{is_non_success, family_of}

abbrev pub family_by : Bool → FlakyOrRerun
family_by is_flaky = cond is_flaky Flaky Rerun

-- of its family on failure and error, none on skipped (15)
unfoldable pub add_to_main : NonSuccessKind → Draft → Outcome Draft
add_to_main k d =
    asks (is_non_success d) cause.NotLayout
    (taking (run_kind (family_of d) k) (with_words d (on_record_of d.builder.main (unmarked bit.flaky) d.words)))
