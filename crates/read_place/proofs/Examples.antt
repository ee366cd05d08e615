-- Marks behind an act, at event 7 with nine records before it. Assumes nothing.
use mathlib.Core.Path.{◌≡◌, refl}
use mathlib.Core.Bool.{true, false}
use Rattle.read_state.specs.Control.{suite, open_suite, open_list}
use Rattle.read_place.specs.Marks.{marks, marks_after}

-- an Empty suite is counted at once, another one where it is closed
empty-suite : marks_after (open_suite true) 9 (marks 7 1 3 2 5 0 4 6 8 0) ≡ marks 7 2 7 0 0 0 0 9 0 0
unfolding marks_after
empty-suite = refl

open-suite : marks_after (open_suite false) 9 (marks 7 1 3 2 5 0 4 6 8 0) ≡ marks 7 1 7 0 0 0 0 9 0 0
unfolding marks_after
open-suite = refl

-- the properties of a later list are counted from 0
later-list : marks_after (open_list suite true) 9 (marks 7 1 3 0 0 0 4 6 0 0) ≡ marks 7 1 3 0 0 0 0 6 0 0
unfolding marks_after
later-list = refl
