-- What is known of an open description that a child's text was put over, and what going over its events again gives. Definitions only.
use Rattle.std.specs.Prelude.{ℕ, ◌≡◌, List, [], ◌++◌, Bool, true, false, cond, ◌⊎◌}
use Rattle.read_pieces.specs.of_read_state.Control.{Level, top, suite, case, status, Mode, at, gathering, listing, skipping, finished}
use Rattle.read_machine.specs.of_read_content.Content.{Content, is_empty}
use Rattle.read_machine.specs.of_read_content.declared.Content.{Content as CodedContent}
use Rattle.read_machine.specs.of_read_content.inside.Holds.{Holds}
use Rattle.read_machine.specs.Machine.{Machine}
use Rattle.read_again.specs.Told.{told}
use Rattle.read_again.specs.inside.Turns.{rest}

-- where reading stands inside a status element
abbrev pub is_status_level : Level → Bool
is_status_level top = false
is_status_level suite = false
is_status_level case = false
is_status_level status = true

abbrev pub inside : Mode → Bool
inside (at l) = is_status_level l
inside (gathering l o) = is_status_level l
inside (listing l) = false
inside (skipping m name depth) = inside m
inside finished = false

-- nothing is described, or what is told of the events from number `first` on is the description so far and what is told from here on
abbrev pub Since : (events attributes source : List ℕ) → ℕ → Machine → Type 0
Since events attributes source first s =
    (s.content.description ≡ [])
    ⊎ ((inside s.control.mode ≡ true)
    × (told (at status) (rest events attributes source first) ≡ s.content.description ++ told s.control.mode (rest events attributes source s.marks.event)))

-- the number of the event at hand as long as nothing is described
abbrev pub first_of : ℕ → Machine → ℕ
first_of first s = cond (is_empty s.content.description) s.marks.event first

-- the description stands in scratch again
abbrev pub found : CodedContent → CodedContent
found c =
    record {
      used = c.used;
      fill = c.fill;
      description = c.description;
      gathered = c.gathered;
      child = c.description;
      report_at = c.report_at;
      suite_list = c.suite_list;
      case_list = c.case_list;
      free = c.free;
    }

abbrev pub Restores : (events source : List ℕ) → ℕ → CodedContent → (before after : List ℕ) → Type 0
Restores events source first c before after =
    (words text attributes : List ℕ) (s : Content) → Holds words text before attributes source c s → s.gathered ≡ []
    → ((s.description ≡ []) ⊎ (told (at status) (rest events attributes source first) ≡ s.description))
    → Holds words text after attributes source (found c) s
