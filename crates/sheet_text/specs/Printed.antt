-- The release sheet as text, and what printing it answers and leaves (rules C8 and C9). Definitions only.
use Rattle.std.specs.Prelude.{ℕ, Bool, cond, List, ◌∷◌, ◌++◌}
use Rattle.list_text.specs.of_refusal.Refusal.{Outcome, accepted, refused, late, verdict_of, refusal_of}
use Rattle.list_text.specs.of_refusal.declared.Cause.{Cause}
use Rattle.list_text.specs.of_refusal.declared.Cause.TheVariants as cause
use Rattle.list_text.specs.of_refusal.declared.Verdict.{Verdict}
use Rattle.list_text.specs.of_refusal.declared.Verdict.TheVariants.{Accepted, Refused}
use Rattle.list_text.specs.of_area.Area.{zeros, placing}
use Rattle.list_text.specs.of_names.Bytes.{bytes}
use Rattle.list_text.specs.of_digits.Digits.{decimal}
use Rattle.list_text.specs.Listing.{outcome_of, output_for}
use Rattle.sheet_sums.specs.declared.Sheet.{Sheet}
use Rattle.sheet_sums.specs.declared.Released.{Released}
use Rattle.sheet_text.specs.declared.Printed.{Printed}

-- a bracket form, from its bracket and label on, ended by a newline (rule C8)
abbrev pub line : List ℕ → List ℕ → List ℕ
line label shown = label ++ (shown ++ bytes ")\n")

-- `-` for a missing count, whatever stands in its word (rule C8)
abbrev pub or_missing : Bool → ℕ → List ℕ
or_missing presence n = cond presence (decimal n) (bytes "-")

-- two whole numbers, undivided (rule C6)
abbrev pub share : ℕ → ℕ → List ℕ
share passed tests = decimal passed ++ (32 ∷ decimal tests)

-- six lines in this order (rule C8)
unfoldable pub sheet_text : Sheet → List ℕ
sheet_text s =
    line (bytes "(tests ") (decimal s.sums.tests)
    ++ (line (bytes "(failures ") (decimal s.sums.failures)
    ++ (line (bytes "(errors ") (decimal s.sums.errors)
    ++ (line (bytes "(skipped ") (decimal s.sums.skipped)
    ++ (line (bytes "(disabled ") (or_missing s.sums.presence s.sums.disabled)
    ++ line (bytes "(passed ") (share s.passed s.sums.tests)))))

-- how many bytes are put into an area of n: 16 comes last, where there is a sheet (rule C9)
unfoldable pub printing : Outcome Sheet → ℕ → Outcome ℕ
printing (accepted s) n = outcome_of (placing cause.OutputFull n (sheet_text s))
printing (refused r) n = refused r

-- the area afterwards: the sheet with zeros behind it, or zeros throughout at a refusal (rules C8 and C9)
unfoldable pub sheet_area : Outcome Sheet → ℕ → List ℕ
sheet_area (accepted s) n = output_for (placing cause.OutputFull n (sheet_text s)) n (sheet_text s)
sheet_area (refused r) n = zeros n

-- what an answer says, also one that was made up: of a refusal its cause
abbrev pub said_by : Verdict → Sheet → Cause → Outcome Sheet
said_by Accepted s why = accepted s
said_by Refused s why = refused (late why)

abbrev pub outcome_in : Released → Outcome Sheet
outcome_in r = said_by r.verdict r.sheet r.refusal.cause

-- how many bytes were put; none at a refusal
abbrev pub length_of : Outcome ℕ → ℕ
length_of (accepted n) = n
length_of (refused r) = 0

-- the answer whole
abbrev pub printed_from : Outcome ℕ → Printed
printed_from a = record { verdict = verdict_of a; length = length_of a; refusal = refusal_of a }
