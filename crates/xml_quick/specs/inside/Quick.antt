-- The acts that only mark a name, a key or a value. Definitions only.
use Rattle.std.specs.Prelude.{ℕ, Bool, cond, ◌||◌, eqb}
use Rattle.xml_checks.specs.of_xml_state.declared.Move.{Move}
use Rattle.xml_checks.specs.of_xml_state.declared.State.{State}
use Rattle.xml_checks.specs.of_xml_state.inside.Rows as row
use Rattle.xml_checks.specs.of_xml_state.inside.Registers.{in_mode, at_mark_of}
use Rattle.xml_checks.specs.of_xml_state.inside.Acts.{named_of, keyed_of, quoted_of}

abbrev pub quick_act : ℕ → Bool
quick_act a = eqb a row.here || (eqb a row.key_end || (eqb a row.quoted || eqb a row.name_end))

unfoldable pub quick_of : State → Move → ℕ → State
quick_of s m at =
    cond (eqb m.act row.here) (at_mark_of at (in_mode m.mode s))
    (cond (eqb m.act row.key_end) (keyed_of s m.mode at)
    (cond (eqb m.act row.quoted) (quoted_of s m.mode at) (named_of s m.mode at)))
