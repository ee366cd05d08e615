-- An input that is no table. Assumes nothing.
use mathlib.Core.Path.{◌≡◌, refl}
use mathlib.Core.List.{[], ◌∷◌}
use Rattle.list_printing.specs.of_list_input.Input.{whole, input_of}
use Rattle.list_printing.specs.of_public_claims.PublicListing.{refused_text}
use Rattle.write_printing.specs.Printed.{found_printed, program_writes}

nothing_read : program_writes [] ≡ refused_text
unfolding found_printed input_of whole
nothing_read = refl

-- of a table without events, attributes and bytes the last byte is missing
cut_off : program_writes (0 ∷ 0 ∷ 0 ∷ 0 ∷ 0 ∷ 0 ∷ 0 ∷ 0 ∷ 0 ∷ 0 ∷ 0 ∷ []) ≡ refused_text
unfolding found_printed input_of whole
cut_off = refl
