-- A builder's areas are a layout and hold its report. Assumes nothing.
use Prim.Native.Nat.{ℕ, ◌≤◌}
use mathlib.Core.List.{List}
use mathlib.Core.Path.{ap₂, ◌∙◌}
use native.Mathlib.Omega.{arith}
use lib.ListN.{length}
use Rattle.tree_placed.specs.of_tree_report.Report.{Report}
use Rattle.tree_placed.specs.of_tree_report.Layout.{layout}
use Rattle.tree_placed.specs.of_tree_report.ReportOf.{report_of}
use Rattle.tree_placed.proofs.Whole.{placed-layout, placed-report}
use Rattle.build_draft.specs.declared.Builder.{Builder}
use Rattle.build_draft.specs.Draft.{room_for, bytes_for}
use Rattle.build_report.specs.Stands.{Holds, Stored, Stands}

pub stored-holds : {b : Builder} {words text : List ℕ} {r : Report} → Stored b words text r → Holds words text r
stored-holds {words = words} {text = text} {r = r} s =
    let l : length s.placed ≤ room_for words = s.room in
    let m : length s.texts ≤ bytes_for text = s.text-room in (
      ap₂ layout s.words_are s.text-is
          ∙ placed-layout r s.placed s.texts (length words) (length text) s.rows s.standing s.sound s.valid s.clean (omega arith) (omega arith) (omega arith) (omega arith),
      ap₂ report_of s.words_are s.text-is
          ∙ placed-report r s.placed s.texts (length words) (length text) s.rows s.standing s.sound s.valid s.clean (omega arith) (omega arith) (omega arith) (omega arith),
    )

pub means : {b : Builder} {words text : List ℕ} {r : Report} → Stands b words text r → Holds words text r
means h = stored-holds h.stored
