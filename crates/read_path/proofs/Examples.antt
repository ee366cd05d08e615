-- Paths of refusals in the third case of the second suite. Assumes nothing.
use mathlib.Core.Path.{◌≡◌, refl}
use mathlib.Core.Bool.{false}
use mathlib.Core.List.{[], ◌∷◌}
use Rattle.read_rules.specs.of_refusal.Refusal.{nowhere}
use Rattle.read_fault.specs.of_read_element.Outcome.{element}
use Rattle.read_place.specs.of_read_state.Control.{suite, case, out, at, listing, skipping, open_case, close_case, close_text, broken}
use Rattle.read_place.specs.Marks.{marks}
use Rattle.read_rules.specs.of_names.Bytes.{bytes}
use Rattle.read_rules.specs.of_refusal.declared.Cause.TheVariants as cause
use Rattle.read_path.specs.Paths.{path_of}

-- until the case is named its element has no event number, also if an earlier case had one
unnamed-case : path_of (open_case false) (at suite) (marks 7 1 3 2 5 0 0 6 8 0) ≡ element 1 nowhere nowhere ∷ element 2 1 3 ∷ element 3 2 nowhere ∷ []
unnamed-case = refl

named-case : path_of close_case (at case) (marks 9 1 3 2 7 0 0 6 8 0) ≡ element 1 nowhere nowhere ∷ element 2 1 3 ∷ element 3 2 7 ∷ []
named-case = refl

-- a skip's path is that of the element it began in; for a property's content it is the path of the list
in-skip : path_of (broken cause.EofInSkip) (skipping (at case) (bytes "x") 0) (marks 9 1 3 2 7 0 0 6 8 0) ≡ element 1 nowhere nowhere ∷ element 2 1 3 ∷ element 3 2 7 ∷ []
in-skip = refl

in-property : path_of (broken cause.EofInSkip) (skipping (listing case) (bytes "property") 0) (marks 9 1 3 2 7 0 4 6 8 0)
    ≡ element 1 nowhere nowhere ∷ element 2 1 3 ∷ element 3 2 7 ∷ element 4 nowhere nowhere ∷ []
in-property = refl

-- a refusal at an Empty output has the path of the output
empty-output : path_of (close_text case out) (at case) (marks 9 1 3 2 7 0 0 6 8 0) ≡ element 1 nowhere nowhere ∷ element 2 1 3 ∷ element 3 2 7 ∷ element 14 nowhere nowhere ∷ []
empty-output = refl
