-- The conditions of a plain report (rule W15), one by one, and those that a report violates. Definitions only.
use Rattle.std.specs.Prelude.{◌*◌, List, [], ◌∷◌, ◌++◌, Bool, not, cond}
use Rattle.public_cases.specs.of_area.Limits.{most_entries, most_bytes}
use Rattle.public_cases.specs.of_tree_report.Report.{Text, TestCase, TestSuite, Report}
use Rattle.public_cases.specs.of_tree_report.Encode.{every}
use Rattle.round_elements.specs.of_write_report.Written.{is_empty, written}
use Rattle.round_elements.specs.of_write_table.Laid.{laid_out, fits}
use Rattle.round_elements.specs.Plain.{cases_of, descriptions, outputs, times, timestamps, keys_of, bare, whole_time, whole_moment, is_in, distinct, holds, suite_keys, case_keys, is_ruled}

pub data Condition : Type 0 where
  -- no White_Space at the ends of a gathered text
  bare_texts : Condition
  -- no description is empty
  given_descriptions : Condition
  -- whole milliseconds
  whole_times whole_timestamps : Condition
  -- extra keys: distinct, without `&`, none of the element's own
  distinct_on_suites unescaped_on_suites others_on_suites : Condition
  distinct_on_cases unescaped_on_cases others_on_cases : Condition
  -- without runs the kind is Rerun
  ruled_status : Condition
  -- the written table has no more than rule T8 allows
  within_limits : Condition

abbrev pub conditions : List Condition
conditions =
    bare_texts ∷ given_descriptions ∷ whole_times ∷ whole_timestamps
    ∷ distinct_on_suites ∷ unescaped_on_suites ∷ others_on_suites
    ∷ distinct_on_cases ∷ unescaped_on_cases ∷ others_on_cases
    ∷ ruled_status ∷ within_limits ∷ []

-- of the extra keys of an element
abbrev pub unescaped : List Text → Bool
unescaped ks = every (λ (k : Text). not (holds 0x26 k)) ks

abbrev pub others : List Text → List Text → Bool
others own ks = every (λ (k : Text). not (is_in k own)) ks

abbrev pub on_suites : (List Text → Bool) → Report → Bool
on_suites p r = every (λ (s : TestSuite). p (keys_of s.extra)) r.suites

abbrev pub on_cases : (List Text → Bool) → Report → Bool
on_cases p r = every (λ (c : TestCase). p (keys_of c.extra)) (cases_of r)

abbrev pub meets : Report → Condition → Bool
meets r bare_texts = every bare (descriptions r ++ outputs r)
meets r given_descriptions = every (λ (t : Text). not (is_empty t)) (descriptions r)
meets r whole_times = every whole_time (times r)
meets r whole_timestamps = every whole_moment (timestamps r)
meets r distinct_on_suites = on_suites distinct r
meets r unescaped_on_suites = on_suites unescaped r
meets r others_on_suites = on_suites (others suite_keys) r
meets r distinct_on_cases = on_cases distinct r
meets r unescaped_on_cases = on_cases unescaped r
meets r others_on_cases = on_cases (others case_keys) r
meets r ruled_status = every (λ (c : TestCase). is_ruled c.status) (cases_of r)
meets r within_limits = fits (laid_out (written r)) (most_entries * 5) (most_entries * 5) most_bytes

abbrev pub unmet : Report → List Condition → List Condition
unmet r [] = []
unmet r (k ∷ ks) = cond (meets r k) (unmet r ks) (k ∷ unmet r ks)

abbrev pub violated : Report → List Condition
violated r = unmet r conditions
