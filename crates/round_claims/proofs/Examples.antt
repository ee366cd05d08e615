-- Each report that fits has a layout: at the border, and just short of it. Assumes nothing.
use Prim.Native.Nat.{ℕ, ◌≤◌, min}
use mathlib.Core.Bool.{Bool, true, false, cond}
use mathlib.Core.List.{List, [], ◌∷◌, ◌++◌}
use mathlib.Core.Option.{Option, none, some}
use mathlib.Core.Path.{◌≡◌, refl, sym, ap, ◌∙◌}
use native.Mathlib.Omega.{arith}
use lib.ListN.{length, get_or, take, drop, length-take, length-drop}
use Rattle.public_claims.specs.of_area.Area.{zeros}
use Rattle.public_claims.specs.of_names.Bytes.{bytes}
use Rattle.public_claims.specs.of_utf8.Utf8.{need, low, high}
use Rattle.public_claims.specs.of_tree_status.Status.{tallied, ruled}
use Rattle.public_claims.specs.of_tree_report.Report.{Text, Counts, success, TestSuite, Report}
use Rattle.public_claims.specs.of_tree_report.Encode.{fits_row, fits}
use Rattle.public_claims.specs.of_tree_report.Fields.{live, has_bit, text_at}
use Rattle.public_claims.specs.of_tree_report.Layout.{good_text, good, good_record, good_order, may_end, may_follow, following, records_from, records_of, layout}
use Rattle.public_claims.specs.of_tree_report.ReportOf.{only, report_from, report_of}
use Rattle.round_sound.proofs.Sound.{report-rows}
use Rattle.public_claims.specs.of_read_report.Answer.{Holds}
use Rattle.round_claims.specs.Demand2.{Placed}
use Rattle.round_claims.proofs.Demand2.{demand_2}

abbrev no_counts : Counts
no_counts = record { tests = 0; failures = 0; errors = 0; skipped = 0; disabled = none }

-- a report that is named, and some suites with names alone
abbrev called : List TestSuite → Report
called ss = record { name = some (bytes "r"); uuid = none; timestamp = none; time = none; counts = no_counts; suites = ss }

abbrev suite_called : Text → TestSuite
suite_called n = record { name = n; counts = no_counts; timestamp = none; time = none; hostname = none; cases = []; properties = []; system_out = none; system_err = none; extra = [] }

-- ---- one record and one byte
one-fits : Placed (called []) 32 1
unfolding fits fits_row need low high
one-fits = demand_2.lays_out (called []) 32 1 refl

-- so do longer areas
longer-fit : Placed (called []) 47 3
unfolding fits fits_row need low high
longer-fit = demand_2.lays_out (called []) 47 3 refl

-- one word less holds no such report, whatever stands there
word-less : (words text : List ℕ) → length words ≡ 31 → Holds (called []) words text → ⊥
word-less words text l h = let n = (report-rows words text (called []) h.report).1 in omega arith

-- nor does a text area without bytes
byte-less : (words : List ℕ) → Holds (called []) words [] → ⊥
unfolding report_of
byte-less words h =
    let a : name_length (report_of words []) ≡ 1 = ap name_length h.report in
    let b = unnamed (only live (records_of words)) in
    omega arith
  where
    given : Option Text → ℕ
    given none = 0
    given (some t) = length t

    name_length : Option Report → ℕ
    name_length none = 0
    name_length (some r) = given r.name

    unnamed : (rs : List (List ℕ)) → name_length (report_from [] rs) ≡ 0
    unnamed [] = refl
    unnamed (r ∷ rs) = go (has_bit 0 r)
      where
        go : (b : Bool) → given (cond b (some (text_at [] r 2)) none) ≡ 0
        go true =
            let t : length (take (get_or r 3 0) (drop (get_or r 2 0) [])) ≡ min (get_or r 3 0) (length (drop {A = ℕ} (get_or r 2 0) [])) = length-take (get_or r 3 0) (drop (get_or r 2 0) []) in
            let d : length (drop {A = ℕ} (get_or r 2 0) []) ≡ _ = length-drop (get_or r 2 0) [] in
            omega arith
        go false = refl

-- ---- two records, two bytes
two-fit : Placed (called (suite_called (bytes "s") ∷ [])) 64 2
unfolding fits fits_row need low high
two-fit = demand_2.lays_out (called (suite_called (bytes "s") ∷ [])) 64 2 refl

record-less : (words text : List ℕ) → length words ≡ 63 → Holds (called (suite_called (bytes "s") ∷ [])) words text → ⊥
record-less words text l h = let n = (report-rows words text (called (suite_called (bytes "s") ∷ [])) h.report).1 in omega arith

-- texts may share bytes: two names in one
abbrev sharing : List ℕ
sharing = (1 ∷ 1 ∷ 0 ∷ 1 ∷ zeros 28) ++ (2 ∷ 1 ∷ 0 ∷ 1 ∷ zeros 28)

shared : Holds (called (suite_called (bytes "r") ∷ [])) sharing (bytes "r")
unfolding layout good_text records_of records_from good_record good good_order may_follow following may_end tallied ruled report_of need low high
shared = record { whole = refl; report = refl }

shared-apart : fits (called (suite_called (bytes "r") ∷ [])) 64 1 ≡ false
unfolding fits fits_row need low high
shared-apart = refl
