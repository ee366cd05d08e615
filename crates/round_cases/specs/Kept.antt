-- What a plain report may have, and the places of what it may not have (rule W15): reports with a status, a field or a key each.
-- Definitions only.
use Rattle.std.specs.Prelude.{ℕ, List, [], ◌∷◌, ◌++◌, map, replicate}
use Rattle.std.proofs.Math.Option.{Option, none, some}
use Rattle.public_cases.specs.of_names.Bytes.{bytes}
use Rattle.public_cases.specs.of_timestamp.declared.Moment.{Moment}
use Rattle.public_cases.specs.of_tree_report.Report.{Text, Duration, Pair, NonSuccessKind, failure, error, flaky, rerun, TestRerun, Reason, TestCaseStatus, success, non_success, skipped, TestCase, TestSuite, Report}
use Rattle.round_elements.specs.of_write_report.Written.{each}
use Rattle.public_cases.specs.Reports.{no_counts, of_suites, of_status, of_cases}
use Rattle.round_cases.specs.Cases.{Case, kept, at, new_year, first_run, second_run, full_case}

-- ---- small reports
-- timestamp, time, outputs, extras, cases
abbrev pub a_suite : Option Moment → Option Duration → Option Text → Option Text → List Pair → List TestCase → TestSuite
a_suite m d out err extra cases =
    record { name = bytes "s"; counts = no_counts; timestamp = m; time = d; hostname = none; cases = cases; properties = []; system_out = out; system_err = err; extra = extra }

abbrev pub a_case_of : Option Moment → Option Duration → Option Text → Option Text → List Pair → TestCase
a_case_of m d out err extra =
    record {
      name = bytes "t";
      classname = none;
      assertions = none;
      timestamp = m;
      time = d;
      status = success [];
      system_out = out;
      system_err = err;
      extra = extra;
      properties = [];
    }

-- timestamp, time, description, stack trace, outputs
abbrev pub a_run : NonSuccessKind → Option Moment → Option Duration → Option Text → Option Text → Option Text → Option Text → TestRerun
a_run k m d description stack out err =
    record {
      kind = k;
      timestamp = m;
      time = d;
      message = none;
      type = none;
      stack_trace = stack;
      system_out = out;
      system_err = err;
      description = description;
    }

abbrev pub reason : Option Text → Option Text → Option Text → Reason
reason message type description = record { message = message; type = type; description = description }

abbrev pub of_suite : TestSuite → Report
of_suite s = of_suites (s ∷ [])

abbrev pub of_case : TestCase → Report
of_case c = of_suite (of_cases (c ∷ []))

abbrev pub suite_named : Text → TestSuite
suite_named n =
    record { name = n; counts = no_counts; timestamp = none; time = none; hostname = none; cases = []; properties = []; system_out = none; system_err = none; extra = [] }

abbrev pub statused : TestCaseStatus → Report
statused s = of_case (of_status s)

-- ---- all statuses, without fields and with them
abbrev pub no_reason : Reason
no_reason = reason none none none

abbrev pub bare_run : NonSuccessKind → TestRerun
bare_run k = a_run k none none none none none none

abbrev pub full_reason : Reason
full_reason = reason (some (bytes "m")) (some (bytes "y")) (some (bytes "d"))

abbrev pub full_of : TestCaseStatus → Report
full_of s =
    of_case (record {
      name = full_case.name;
      classname = full_case.classname;
      assertions = full_case.assertions;
      timestamp = full_case.timestamp;
      time = full_case.time;
      status = s;
      system_out = full_case.system_out;
      system_err = full_case.system_err;
      extra = full_case.extra;
      properties = full_case.properties;
    })

-- ---- texts that have no White_Space at their ends: U+200B is none, and inside it may stand
abbrev pub inner : Text
inner = 0xE2 ∷ 0x80 ∷ 0x8B ∷ 0x20 ∷ 0xC2 ∷ 0xA0 ∷ 0x0A ∷ 0xE2 ∷ 0x80 ∷ 0x8B ∷ []

-- ---- keys that an element's extras may have: like its own, of another element, and next to `&`
abbrev pub keyed : List Text → List Pair
keyed ks = map (λ (k : Text). record { key = k; value = bytes "v" }) ks

abbrev pub other_keys : List Text
other_keys =
    bytes "" ∷ bytes "k" ∷ bytes "K" ∷ bytes "kk" ∷ bytes "l" ∷ bytes "Name" ∷ bytes "nam" ∷ bytes "names" ∷ bytes "times"
    ∷ bytes "uuid" ∷ bytes "message" ∷ bytes "type" ∷ bytes "value" ∷ bytes "id" ∷ bytes "%" ∷ bytes "'" ∷ bytes "#amp;" ∷ []

abbrev pub keys_on_suite : List Text → Report
keys_on_suite ks = of_suite (a_suite none none none none (keyed ks) [])

abbrev pub keys_on_case : List Text → Report
keys_on_case ks = of_case (a_case_of none none none none (keyed ks))

-- one key on two suites and two cases
abbrev pub one_extra : List Pair
one_extra = keyed (bytes "k" ∷ [])

abbrev pub one_key : Report
one_key =
    of_suites (a_suite none none none none one_extra (a_case_of none none none none one_extra ∷ a_case_of none none none none one_extra ∷ [])
    ∷ a_suite none none none none one_extra [] ∷ [])

-- ---- plain, and read back
abbrev pub kept_cases : List Case
kept_cases =
    -- all that may be missing is, and nothing else is there
    kept (at none none)
    ∷ kept (of_suites (of_cases [] ∷ []))
    -- every status without fields
    ∷ kept (statused (success []))
    ∷ kept (statused (success (bare_run failure ∷ [])))
    ∷ kept (statused (success (bare_run error ∷ bare_run failure ∷ [])))
    ∷ kept (statused (non_success failure no_reason rerun []))
    ∷ kept (statused (non_success error no_reason rerun []))
    ∷ kept (statused (non_success failure no_reason flaky (bare_run failure ∷ bare_run error ∷ [])))
    ∷ kept (statused (non_success failure no_reason rerun (bare_run error ∷ [])))
    ∷ kept (statused (non_success error no_reason flaky (bare_run error ∷ [])))
    ∷ kept (statused (non_success error no_reason rerun (bare_run failure ∷ [])))
    ∷ kept (statused (skipped no_reason))
    -- and with one of a reason's
    ∷ kept (statused (skipped (reason (some (bytes "m")) none none)))
    ∷ kept (statused (skipped (reason none (some (bytes "y")) none)))
    ∷ kept (statused (skipped (reason none none (some (bytes "d")))))
    ∷ kept (statused (non_success failure (reason none none (some inner)) rerun []))
    -- with every field of case, reason and runs
    ∷ kept (full_of (success (first_run ∷ second_run ∷ [])))
    ∷ kept (full_of (non_success failure full_reason flaky (second_run ∷ first_run ∷ [])))
    ∷ kept (full_of (skipped full_reason))
    -- texts: an output may be empty, and white space may stand inside
    ∷ kept (of_suite (a_suite none none (some []) (some inner) [] (a_case_of none none (some inner) (some []) [] ∷ [])))
    ∷ kept (statused (success (a_run error none none (some inner) (some []) (some inner) (some []) ∷ [])))
    -- times and timestamps, the least and the greatest
    ∷ kept (at (some (record { seconds = 0; nanos = 0 })) (some (new_year 0)))
    ∷ kept (at (some (record { seconds = 8388607; nanos = 999000000 })) (some (new_year 999000000)))
    -- names, which are no gathered texts
    ∷ kept (of_suites (suite_named [] ∷ suite_named (bytes " s ") ∷ []))
    -- extras
    ∷ kept (keys_on_suite (bytes "classname" ∷ bytes "" ∷ bytes "k" ∷ []))
    ∷ kept (keys_on_case (bytes "tests" ∷ bytes "'" ∷ bytes "K" ∷ bytes "k" ∷ []))
    ∷ kept one_key
    ∷ []

-- ---- plain, with many keys
abbrev pub plain_keys : List Report
plain_keys =
    keys_on_suite (bytes "classname" ∷ bytes "assertions" ∷ other_keys)
    ∷ keys_on_case (bytes "tests" ∷ bytes "skipped" ∷ bytes "errors" ∷ bytes "failures" ∷ bytes "disabled" ∷ other_keys)
    ∷ []

-- ---- one thing at each place where it may stand
abbrev pub ran : TestRerun → List Report
ran e =
    statused (success (e ∷ []))
    ∷ statused (non_success failure no_reason flaky (e ∷ []))
    ∷ statused (non_success error no_reason rerun (bare_run failure ∷ e ∷ []))
    ∷ []

abbrev pub timed : Duration → List Report
timed d =
    at (some d) none
    ∷ of_suite (a_suite none (some d) none none [] [])
    ∷ of_case (a_case_of none (some d) none none [])
    ∷ ran (a_run failure none (some d) none none none none)

abbrev pub stamped : Moment → List Report
stamped m =
    at none (some m)
    ∷ of_suite (a_suite (some m) none none none [] [])
    ∷ of_case (a_case_of (some m) none none none [])
    ∷ ran (a_run error (some m) none none none none none)

abbrev pub described : Text → List Report
described t =
    statused (non_success failure (reason none none (some t)) rerun [])
    ∷ statused (non_success error (reason none none (some t)) flaky (bare_run error ∷ []))
    ∷ statused (skipped (reason none none (some t)))
    ∷ ran (a_run failure none none (some t) none none none)

abbrev pub printed : Text → List Report
printed t =
    of_suite (a_suite none none (some t) none [] [])
    ∷ of_suite (a_suite none none none (some t) [] [])
    ∷ of_case (a_case_of none none (some t) none [])
    ∷ of_case (a_case_of none none none (some t) [])
    ∷ (ran (a_run failure none none none (some t) none none)
    ++ (ran (a_run error none none none none (some t) none) ++ ran (a_run failure none none none none none (some t))))

abbrev pub key_on : (List Text → Report) → List Text → List Report
key_on f ks = map (λ (k : Text). f (k ∷ [])) ks

-- ---- not plain, for one reason each
abbrev pub unplain : List Report
unplain =
    -- no whole milliseconds
    timed (record { seconds = 0; nanos = 999999 })
    ++ (stamped (new_year 1000001)
    -- White_Space at an end, an empty description
    ++ (each described (bytes " d" ∷ bytes "d\n" ∷ [] ∷ [])
    ++ (each printed (bytes "\no" ∷ bytes "o " ∷ bytes " " ∷ [])
    -- keys: an element's own, with `&`, twice
    ++ (key_on keys_on_suite (bytes "name" ∷ bytes "tests" ∷ bytes "skipped" ∷ bytes "errors" ∷ bytes "failures" ∷ bytes "disabled" ∷ bytes "timestamp" ∷ bytes "time" ∷ [])
    ++ (key_on keys_on_case (bytes "name" ∷ bytes "classname" ∷ bytes "assertions" ∷ bytes "timestamp" ∷ bytes "time" ∷ [])
    ++ (each (λ (k : Text). keys_on_suite (bytes "l" ∷ k ∷ []) ∷ keys_on_case (k ∷ bytes "l" ∷ []) ∷ []) (bytes "&" ∷ bytes "k&" ∷ bytes "&amp;" ∷ bytes "l" ∷ [])
    ++ (keys_on_suite (bytes "k" ∷ bytes "l" ∷ bytes "k" ∷ [])
    ∷ keys_on_case (bytes "k" ∷ bytes "l" ∷ bytes "k" ∷ [])
    -- kind Flaky without runs
    ∷ statused (non_success failure no_reason flaky [])
    ∷ statused (non_success error full_reason flaky [])
    ∷ [])))))))

-- ---- at the limits: cases without fields, runs without fields of one case, a suite's name of so many bytes
unfoldable pub many_cases : ℕ → Report
many_cases n = of_suite (of_cases (replicate n (of_status (success []))))

unfoldable pub many_runs : ℕ → Report
many_runs n = statused (success (replicate n (bare_run failure)))

unfoldable pub long_name : ℕ → Report
long_name n = of_suite (suite_named (replicate n 0x6E))
