-- What is done at a child of suite, case and status element (rules R10, R13 and S2 to S4). Definitions only.
use Rattle.std.specs.Prelude.{ℕ, List, cond, eqb}
use Rattle.names.specs.Tags.{tag_of, stack_trace, system-out, system-err}
use Rattle.table.specs.Event.{TagKind, Start, Empty, End}
use Rattle.read_state.specs.Control.{Level, status, trace, out, err, at, Act, pass, close_status, open_text, close_text, is_status, or_skip}

-- the outputs that suite, case (rule R10) and status element (rule S3) have
unfoldable pub outputs : Level → List ℕ → Act
outputs l name =
    cond (eqb (tag_of name) system-out) (open_text l out)
    (cond (eqb (tag_of name) system-err) (open_text l err) (or_skip l name))

-- an Empty child is its Start and End: an output is empty, and any other ends where it stands (rule R13)
unfoldable pub emptied : Level → List ℕ → Act
emptied l name =
    cond (eqb (tag_of name) system-out) (close_text l out)
    (cond (eqb (tag_of name) system-err) (close_text l err) (pass (at l)))

-- a status element's children that are read: a stack trace and the outputs (rule S3); any other is skipped (rule S4)
unfoldable pub child : List ℕ → Act
child name = cond (eqb (tag_of name) stack_trace) (open_text status trace) (outputs status name)

-- rules S2 to S4
unfoldable pub at_status : TagKind → List ℕ → Act
at_status Start name = child name
at_status Empty name = cond (eqb (tag_of name) stack_trace) (close_text status trace) (emptied status name)
at_status End name = cond (is_status (tag_of name)) close_status (pass (at status))
