-- Why the words must be of 32 bits: the least layout of a UUID whose first word is wider. Assumes nothing.
use Prim.Native.Nat.{ℕ}
use mathlib.Core.Bool.{Bool, true, false}
use mathlib.Core.List.{List, [], ◌∷◌}
use mathlib.Core.Option.{Option, none, some}
use mathlib.Core.Path.{◌≡◌, refl}
use Rattle.tree_layout.specs.of_area.Area.{zeros}
use Rattle.tree_layout.specs.of_tree_status.Status.{ruled}
use Rattle.tree_layout.specs.of_tree_report.Report.{Report}
use Rattle.tree_layout.specs.of_tree_report.Layout.{good_text, good, good_record, good_order, may_end, may_follow, following, records_from, records_of, layout}
use Rattle.tree_layout.specs.of_tree_report.ReportOf.{report_of}
use Rattle.tree_layout.specs.of_tree_report.Encode.{fits_row}
use Rattle.round_elements.specs.Plain.{sound}
use Rattle.round_sound.specs.Words.{are_words}

-- kind 1, the UUID's presence bit, no name, the UUID
abbrev wide : List ℕ
wide = 1 ∷ 2 ∷ 0 ∷ 0 ∷ 4294967296 ∷ zeros 27

abbrev sound_in : Option Report → Bool
sound_in none = true
sound_in (some r) = sound r

wide-words : are_words wide ≡ false
wide-words = refl

wide-layout : layout wide [] ≡ true
unfolding layout good_text records_of records_from good_record good good_order may_follow following may_end ruled
wide-layout = refl

wide-unsound : sound_in (report_of wide []) ≡ false
unfolding report_of records_of records_from sound fits_row
wide-unsound = refl
