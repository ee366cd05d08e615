-- What writing leaves behind its table, computed. Assumes nothing.
use mathlib.Core.Path.{◌≡◌, refl}
use mathlib.Core.List.{[], ◌∷◌}
use Rattle.write_report.specs.of_refusal.declared.Cause.TheVariants.{OutputFull}
use Rattle.write_report.specs.of_area.Answer.{gives, refuses}
use Rattle.write_answer.specs.Answer.{left_for}

-- behind the table all is zero; at a refusal everything
behind-table : left_for (gives (record { events = 0; attributes = 0; bytes = 2 })) 4 (7 ∷ 8 ∷ []) ≡ 7 ∷ 8 ∷ 0 ∷ 0 ∷ []
behind-table = refl

at-refusal : left_for (refuses OutputFull) 3 (7 ∷ 8 ∷ []) ≡ 0 ∷ 0 ∷ 0 ∷ []
at-refusal = refl
