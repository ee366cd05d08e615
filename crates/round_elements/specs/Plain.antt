-- When a report is plain (rule W15), and what its values are (rule M10). Definitions only.
use Rattle.std.specs.Prelude.{ℕ, ◌%◌, ◌*◌, List, [], ◌∷◌, ◌++◌, map, Bool, true, false, not, ◌&&◌, ◌||◌, eqb}
use Rattle.std.proofs.Math.Option.{Option, none, some}
use Rattle.read_machine.specs.of_area.Limits.{most_entries, most_bytes}
use Rattle.read_machine.specs.of_names.Names.{same_bytes}
use Rattle.read_machine.specs.of_trim.Trim.{trimmed}
use Rattle.read_machine.specs.of_timestamp.declared.Moment.{Moment}
use Rattle.write_report.specs.of_tree_report.Report.{Text, Duration, Pair, flaky, rerun, TestRerun, Reason, TestCaseStatus, success, non_success, skipped, TestCase, TestSuite, Report}
use Rattle.write_report.specs.of_tree_report.Encode.{every, fits_row, rows_of}
use Rattle.read_machine.specs.of_schema.Schema as table
use Rattle.read_machine.specs.of_schema.Lookups.{names_in}
use Rattle.write_report.specs.Written.{each, is_empty, written}
use Rattle.write_table.specs.Laid.{laid_out, fits}

-- ---- the parts of a report, in their order
abbrev pub listed : {A : Type 0} → Option A → List A
listed none = []
listed (some a) = a ∷ []

abbrev pub cases_of : Report → List TestCase
cases_of r = each (λ (s : TestSuite). s.cases) r.suites

abbrev pub reasons_in : TestCaseStatus → List Reason
reasons_in (success runs) = []
reasons_in (non_success kind reason family runs) = reason ∷ []
reasons_in (skipped reason) = reason ∷ []

abbrev pub runs_in : TestCaseStatus → List TestRerun
runs_in (success runs) = runs
runs_in (non_success kind reason family runs) = runs
runs_in (skipped reason) = []

abbrev pub reasons_of : Report → List Reason
reasons_of r = each (λ (c : TestCase). reasons_in c.status) (cases_of r)

abbrev pub runs_of : Report → List TestRerun
runs_of r = each (λ (c : TestCase). runs_in c.status) (cases_of r)

abbrev pub descriptions : Report → List Text
descriptions r =
    each (λ (m : Reason). listed m.description) (reasons_of r)
    ++ each (λ (e : TestRerun). listed e.description) (runs_of r)

abbrev pub outputs : Report → List Text
outputs r =
    each (λ (s : TestSuite). listed s.system_out ++ listed s.system_err) r.suites
    ++ (each (λ (c : TestCase). listed c.system_out ++ listed c.system_err) (cases_of r)
    ++ each (λ (e : TestRerun). listed e.stack_trace ++ (listed e.system_out ++ listed e.system_err)) (runs_of r))

abbrev pub times : Report → List Duration
times r =
    listed r.time
    ++ (each (λ (s : TestSuite). listed s.time) r.suites
    ++ (each (λ (c : TestCase). listed c.time) (cases_of r) ++ each (λ (e : TestRerun). listed e.time) (runs_of r)))

abbrev pub timestamps : Report → List Moment
timestamps r =
    listed r.timestamp
    ++ (each (λ (s : TestSuite). listed s.timestamp) r.suites
    ++ (each (λ (c : TestCase). listed c.timestamp) (cases_of r) ++ each (λ (e : TestRerun). listed e.timestamp) (runs_of r)))

abbrev pub keys_of : List Pair → List Text
keys_of ps = map (λ (p : Pair). p.key) ps

-- ---- one condition each
abbrev pub bare : Text → Bool
bare t = same_bytes (trimmed t) t

-- whole milliseconds
abbrev pub whole_time : Duration → Bool
whole_time d = eqb (d.nanos % 1000000) 0

abbrev pub whole_moment : Moment → Bool
whole_moment m = eqb (m.nanos % 1000000) 0

abbrev pub is_in : Text → List Text → Bool
is_in t [] = false
is_in t (u ∷ us) = same_bytes u t || is_in t us

abbrev pub distinct : List Text → Bool
distinct [] = true
distinct (t ∷ ts) = not (is_in t ts) && distinct ts

abbrev pub holds : ℕ → Text → Bool
holds b [] = false
holds b (a ∷ t) = eqb a b || holds b t

-- an element's own keys: those of its table
abbrev pub suite_keys : List Text
suite_keys = names_in table.suite

abbrev pub case_keys : List Text
case_keys = names_in table.case

-- of the extra keys of an element: distinct, without `&`, none of its own
abbrev pub good_keys : List Text → List Text → Bool
good_keys own ks = distinct ks && every (λ (k : Text). not (holds 0x26 k) && not (is_in k own)) ks

abbrev pub is_ruled : TestCaseStatus → Bool
is_ruled (success runs) = true
is_ruled (non_success kind reason flaky []) = false
is_ruled (non_success kind reason flaky (r ∷ rs)) = true
is_ruled (non_success kind reason rerun runs) = true
is_ruled (skipped reason) = true

-- one line for each condition (rule W15)
unfoldable pub plain : Report → Bool
plain r =
    -- no White_Space at the ends of a gathered text
    every bare (descriptions r ++ outputs r)
    -- no description is empty
    && (every (λ (t : Text). not (is_empty t)) (descriptions r)
    -- whole milliseconds
    && (every whole_time (times r)
    && (every whole_moment (timestamps r)
    -- extra keys
    && (every (λ (s : TestSuite). good_keys suite_keys (keys_of s.extra)) r.suites
    && (every (λ (c : TestCase). good_keys case_keys (keys_of c.extra)) (cases_of r)
    -- without runs the kind is Rerun
    && (every (λ (c : TestCase). is_ruled c.status) (cases_of r)
    -- the written table has no more than rule T8 allows
    && fits (laid_out (written r)) (most_entries * 5) (most_entries * 5) most_bytes))))))

-- what each report that a layout holds has (rule M10)
unfoldable pub sound : Report → Bool
sound r = every fits_row (rows_of r)
