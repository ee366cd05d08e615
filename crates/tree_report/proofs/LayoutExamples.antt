-- Records, their order, and areas that are or aren't layouts, by computing. Assumes nothing.
use Prim.Native.Nat.{ℕ, ◌*◌}
use mathlib.Core.Bool.{true, false}
use mathlib.Core.List.{List, [], ◌∷◌}
use mathlib.Core.Option.{some}
use mathlib.Core.Path.{◌≡◌, refl}
use Rattle.schema.specs.of_area.Area.{zeros}
use Rattle.schema.specs.of_area.Limits.{most_records, most_words}
use Rattle.tree_status.specs.of_tree_record.Kinds as kind
use Rattle.tree_status.specs.Status.{tallied, ruled}
use Rattle.schema.specs.Schema.{text}
use Rattle.schema.specs.Records.{good_value, value_at, good}
use Rattle.tree_report.specs.Fields.{system_out, system_err}
use Rattle.tree_report.specs.Layout.{all_zero, good_record, nothing, may_end, may_follow, following, good_order}

limit-words : most_records * 32 ≡ most_words
limit-words = refl

last_word : all_zero (0 ∷ 0 ∷ 1 ∷ []) ≡ false
last_word = refl

-- system-out is byte 0, system-err byte 1
out-read : system_out (97 ∷ 98 ∷ []) (3 ∷ 6 ∷ 0 ∷ 0 ∷ 0 ∷ 1 ∷ 1 ∷ 1 ∷ []) ≡ some (97 ∷ [])
out-read = refl

err-read : system_err (97 ∷ 98 ∷ []) (3 ∷ 6 ∷ 0 ∷ 0 ∷ 0 ∷ 1 ∷ 1 ∷ 1 ∷ []) ≡ some (98 ∷ [])
err-read = refl

-- a text of one byte, that is the first of a character's two; a text of both
text-cut : good_value (0xC3 ∷ 0xA9 ∷ []) text (value_at text (3 ∷ 1 ∷ 0 ∷ 1 ∷ []) 2) ≡ false
text-cut = refl

text-whole : good_value (0xC3 ∷ 0xA9 ∷ []) text (value_at text (3 ∷ 1 ∷ 0 ∷ 2 ∷ []) 2) ≡ true
text-whole = refl

-- a dead record: its kind with 16 more, and no kind is 0
dead-none : good_record [] (16 ∷ zeros 31) ≡ false
unfolding good_record
dead-none = refl

dead-report : good_record [] (17 ∷ zeros 31) ≡ true
unfolding good_record
dead-report = refl

dead-case-extra : good_record [] (30 ∷ zeros 31) ≡ true
unfolding good_record
dead-case-extra = refl

dead-beyond : good_record [] (31 ∷ zeros 31) ≡ false
unfolding good_record
dead-beyond = refl

-- a case with a name, and with the bit of a stack trace
case-named : good_record [] (3 ∷ 1 ∷ zeros 30) ≡ true
unfolding good_record good
case-named = refl

case-trace : good_record [] (3 ∷ 129 ∷ zeros 30) ≡ false
unfolding good_record good
case-trace = refl

-- `skipped` has no flaky bit, a failure may have it
failure-flaky : good_record [] (6 ∷ 512 ∷ zeros 30) ≡ true
unfolding good_record good
failure-flaky = refl

skipped-flaky : good_record [] (8 ∷ 512 ∷ zeros 30) ≡ false
unfolding good_record good
skipped-flaky = refl

-- ---- orders of kinds
abbrev in_order_of : List ℕ → List (List ℕ)
in_order_of [] = []
in_order_of (k ∷ ks) = (k ∷ 0 ∷ []) ∷ in_order_of ks

-- a suite's property may stand behind its cases; a case's may not stand behind another suite
suite-property-behind : good_order nothing (in_order_of (kind.report ∷ kind.suite ∷ kind.case ∷ kind.suite_property ∷ [])) ≡ true
unfolding good_order may_follow may_end following ruled
suite-property-behind = refl

case-property-away : good_order nothing (in_order_of (kind.report ∷ kind.suite ∷ kind.case ∷ kind.suite ∷ kind.case_property ∷ [])) ≡ false
unfolding good_order may_follow may_end following ruled
case-property-away = refl

-- Its live properties stand together
properties-apart : good_order nothing (in_order_of (kind.report ∷ kind.suite ∷ kind.suite_property ∷ kind.case ∷ kind.suite_property ∷ [])) ≡ false
unfolding good_order may_follow may_end following ruled
properties-apart = refl

-- An element's extras stand directly behind it
extra-behind-property : good_order nothing (in_order_of (kind.report ∷ kind.suite ∷ kind.suite_property ∷ kind.suite_extra ∷ [])) ≡ false
unfolding good_order may_follow may_end following ruled
extra-behind-property = refl

two-reports : good_order nothing (in_order_of (kind.report ∷ kind.report ∷ [])) ≡ false
unfolding good_order may_follow may_end following ruled
two-reports = refl

-- the last case's status elements are looked at too
rerun-alone : good_order nothing (in_order_of (kind.report ∷ kind.suite ∷ kind.case ∷ kind.rerun_error ∷ [])) ≡ false
unfolding good_order may_follow may_end following tallied ruled
rerun-alone = refl

main-behind : good_order nothing (in_order_of (kind.report ∷ kind.suite ∷ kind.case ∷ kind.rerun_error ∷ kind.error ∷ [])) ≡ true
unfolding good_order may_follow may_end following tallied ruled
main-behind = refl
