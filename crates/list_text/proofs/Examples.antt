-- Answers and output areas worked out. Assumes nothing.
use mathlib.Core.Path.{◌≡◌, refl}
use mathlib.Core.List.{[], ◌∷◌}
use mathlib.Core.Option.{none}
use Rattle.time_text.specs.of_refusal.Refusal.{refused}
use Rattle.time_text.specs.of_refusal.declared.Cause.TheVariants.{NotLayout, OutputFull}
use Rattle.time_text.specs.of_area.Answer.{gives, refuses}
use Rattle.tree_report.specs.of_names.Bytes.{bytes}
use Rattle.time_text.specs.of_digits.Digits.{digit, places, decimal}
use Rattle.escape.specs.Escape.{letter, listed}
use Rattle.list_text.specs.Listing.{quoted, or_dash, count_fields, fields, outcome_of, output_for}

-- a listing is followed by zeros; a refusal leaves nothing but zeros
put : output_for (gives 2) 4 (65 ∷ 66 ∷ []) ≡ 65 ∷ 66 ∷ 0 ∷ 0 ∷ []
put = refl

cleared : output_for (refuses OutputFull) 1 (65 ∷ 66 ∷ []) ≡ 0 ∷ []
cleared = refl

-- 15 and 16 carry an empty path, no event and no attribute
no-layout : outcome_of (refuses NotLayout) ≡ refused (record { cause = NotLayout; path = []; event = 4294967295; attribute = 4294967295 })
no-layout = refl

too_short : outcome_of (refuses OutputFull) ≡ refused (record { cause = OutputFull; path = []; event = 4294967295; attribute = 4294967295 })
too_short = refl

-- all that is escaped (rule L8)
escapes : quoted (34 ∷ 92 ∷ 10 ∷ 9 ∷ 13 ∷ 97 ∷ []) ≡ bytes "\"\\\"\\\\\\n\\t\\ra\""
unfolding letter listed
escapes = refl

-- rule L8
missing : or_dash quoted none ≡ bytes "-"
missing = refl

-- a missing `tests` is 0, a missing `disabled` is `-`
counted : fields (count_fields (record { tests = 12; failures = 0; errors = 1; skipped = 0; disabled = none })) ≡ bytes " 12 0 1 0 -"
unfolding digit places decimal
counted = refl
