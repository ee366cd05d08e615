-- Sheets printed. Assumes nothing.
use Prim.Native.Nat.{ℕ}
use mathlib.Core.Path.{◌≡◌, refl}
use mathlib.Core.Bool.{Bool, true, false}
use mathlib.Core.List.{List, [], ◌++◌}
use lib.ListN.{length}
use Rattle.list_text.specs.of_refusal.Refusal.{accepted, refused, late, empty_path, no_refusal}
use Rattle.list_text.specs.of_refusal.declared.Cause.TheVariants as cause
use Rattle.list_text.specs.of_refusal.declared.Verdict.TheVariants.{Accepted, Refused}
use Rattle.list_text.specs.of_area.Area.{zeros}
use Rattle.list_text.specs.of_names.Bytes.{bytes}
use Rattle.list_text.specs.of_digits.Digits.{digit, places, decimal}
use Rattle.sheet_sums.specs.declared.Sheet.{Sheet}
use Rattle.sheet_sums.specs.Sheet.{release_sheet}
use Rattle.sheet_text.specs.Printed.{sheet_text, printing, sheet_area, printed_from}

abbrev sheet : Bool → Sheet
sheet p = record { sums = record { tests = 5; failures = 1; errors = 0; skipped = 1; disabled = 0; presence = p }; passed = 3 }

abbrev text : List ℕ
text = bytes "(tests 5)\n(failures 1)\n(errors 0)\n(skipped 1)\n(disabled -)\n(passed 3 5)\n"

-- `-` only where `disabled` is missing
missing : sheet_text (sheet false) ≡ text
unfolding sheet_text digit places decimal
missing = refl

there : sheet_text (sheet true) ≡ bytes "(tests 5)\n(failures 1)\n(errors 0)\n(skipped 1)\n(disabled 0)\n(passed 3 5)\n"
unfolding sheet_text digit places decimal
there = refl

-- the sheet of no reports
none : printing (release_sheet []) 72 ≡ accepted (length (bytes "(tests 0)\n(failures 0)\n(errors 0)\n(skipped 0)\n(disabled -)\n(passed 0 0)\n"))
unfolding printing release_sheet sheet_text digit places decimal
none = refl

-- an area of the sheet's length suffices, one byte less doesn't; zeros behind, and throughout at a refusal
fits : (printing (accepted (sheet false)) 72 ≡ accepted 72) × (printing (accepted (sheet false)) 71 ≡ refused (late cause.OutputFull))
unfolding printing sheet_text digit places decimal
fits = (refl, refl)

left : (sheet_area (accepted (sheet false)) 74 ≡ text ++ zeros 2) × (sheet_area (accepted (sheet false)) 71 ≡ zeros 71)
unfolding sheet_area sheet_text digit places decimal
left = (refl, refl)

-- 17 is told whatever the area is
past : (printing (refused (late cause.CountLimit)) 0 ≡ refused (late cause.CountLimit)) × (sheet_area (refused (late cause.CountLimit)) 2 ≡ zeros 2)
unfolding printing sheet_area
past = (refl, refl)

-- answers whole
printed : printed_from (accepted 72) ≡ record { verdict = Accepted; length = 72; refusal = no_refusal }
printed = refl

short : printed_from (refused (late cause.OutputFull))
    ≡ record { verdict = Refused; length = 0; refusal = record { cause = cause.OutputFull; path = empty_path; event = 4294967295; attribute = 4294967295 } }
short = refl
