-- A report to order, whole: what is claimed of the call, of its table, and of what reading makes of it. The claims are types; proofs/Ordering.antt
-- has a proof of each. Definitions only.
--
-- Whoever wants to be sure that this is what the rules ask for reads these definitions, with docs/RULES.md beside them:
--   Order, rehearsal, stated (crate order_report: Rehearsal)     what is stated; the report that it gives; the four kinds together
--   ordered, events_ordered, attributes_ordered, bytes_ordered (crate order_report: Answer)
--                                                                what the call answers and leaves in its areas: its promise
--   written, laid_out, fits (crates write_report: Written; write_table: Laid)
--                                                                a report's events; the table that holds them; whether areas have room for it
--   deserialize, answer_to (crate read_report: Deserialize, Answer)
--                                                                the report that the rules of reading give; what reading a table answers
--   cases_of (crate round_elements: Plain)                        the cases of a report
--   Ruled, own_statuses, public (crate public_claims: OwnStatus, Agree)
--                                                                each case's own status elements in a table, and the status rule over them
--   render (crate list_text: Listing)                            the text of a report's listing
--
-- Lent, own_table and limits are those of demand 2 (crate round_claims: Demand2), listing and IsReport those of demand 3 (crate public_claims:
-- Demand3). Of the areas that are lent only the lengths count.
use Rattle.std.specs.Prelude.{ℕ, suc, ◌+◌, ◌-◌, ◌*◌, ◌≤◌, ◌<◌, ◌≡◌, List, [], ◌∷◌, ◌++◌, map, Bool, true, false, cond, ◌⊎◌, ◌↔◌, length, take}
use Rattle.order_report.specs.of_area.Area.{zeros}
use Rattle.order_report.specs.of_refusal.Refusal.{Refused, Outcome, accepted, refused, late}
use Rattle.order_report.specs.of_refusal.declared.Cause.TheVariants as cause
use Rattle.order_report.specs.of_tree_report.Report.{NonSuccessKind, failure, error, TestCaseStatus, success, non_success, skipped, TestCase, Report}
use Rattle.round_claims.specs.of_read_report.Deserialize.{deserialize}
use Rattle.round_claims.specs.of_read_report.Answer.{Table, Areas, events_of, answer_to}
use Rattle.order_report.specs.of_write_report.Written.{written}
use Rattle.order_report.specs.of_write_table.Laid.{laid_out, fits}
use Rattle.order_report.specs.of_write_answer.Answer.{Sizes}
use Rattle.round_claims.specs.of_list_text.Listing.{render}
use Rattle.round_claims.specs.of_public_claims.Agree.{public}
use Rattle.round_claims.specs.of_public_claims.OwnStatus.{own_statuses, Ruled}
use Rattle.round_claims.specs.of_public_claims.Demand3.{listing}
use Rattle.round_claims.specs.of_public_claims.Demand3 as shown
use Rattle.round_claims.specs.of_round_elements.Plain.{cases_of}
use Rattle.round_claims.specs.Demand2.{Lent, own_table, lent_limits, limits}
use Rattle.order_report.specs.declared.Order.{Order}
use Rattle.order_report.specs.Rehearsal.{stated, rehearsal}
use Rattle.order_report.specs.Answer.{most_cases, ordered, events_ordered, attributes_ordered, bytes_ordered}

-- ---- numbers, counted over statuses and not over count attributes
abbrev pub statuses : Report → List TestCaseStatus
statuses r = map (λ (c : TestCase). c.status) (cases_of r)

abbrev pub count : {A : Type 0} → (A → Bool) → List A → ℕ
count p [] = 0
count p (x ∷ xs) = cond (p x) (suc (count p xs)) (count p xs)

abbrev pub is_failed : NonSuccessKind → Bool
is_failed failure = true
is_failed error = false

abbrev pub is_failure : TestCaseStatus → Bool
is_failure (success runs) = false
is_failure (non_success kind reason family runs) = is_failed kind
is_failure (skipped reason) = false

abbrev pub is_error : TestCaseStatus → Bool
is_error (success runs) = false
is_error (non_success failure reason family runs) = false
is_error (non_success error reason family runs) = true
is_error (skipped reason) = false

abbrev pub is_skipped : TestCaseStatus → Bool
is_skipped (success runs) = false
is_skipped (non_success kind reason family runs) = false
is_skipped (skipped reason) = true

-- passed, with one flaky failure
abbrev pub is_flaky : TestCaseStatus → Bool
is_flaky (success []) = false
is_flaky (success (r ∷ [])) = is_failed r.kind
is_flaky (success (r ∷ s ∷ rs)) = false
is_flaky (non_success kind reason family runs) = false
is_flaky (skipped reason) = false

-- passed, with no run besides
abbrev pub is_plain : TestCaseStatus → Bool
is_plain (success []) = true
is_plain (success (r ∷ rs)) = false
is_plain (non_success kind reason family runs) = false
is_plain (skipped reason) = false

-- a report has the numbers that are stated
pub record Numbers (o : Order) (r : Report) : Type 0 where
  pub cases : length (statuses r) ≡ o.cases
  pub failures : count is_failure (statuses r) ≡ o.failures
  pub errors : count is_error (statuses r) ≡ o.errors
  pub skipped : count is_skipped (statuses r) ≡ o.skipped
  pub flaky : count is_flaky (statuses r) ≡ o.flaky

-- ---- what the claims speak of
-- what an order is answered with
abbrev pub answer_of : Order → Lent → Outcome Sizes
answer_of o a = ordered o a.events a.attributes a.bytes

-- the three areas afterwards
abbrev pub event_area : Order → Lent → List ℕ
event_area o a = events_ordered o a.events a.attributes a.bytes

abbrev pub attribute_area : Order → Lent → List ℕ
attribute_area o a = attributes_ordered o a.events a.attributes a.bytes

abbrev pub byte_area : Order → Lent → List ℕ
byte_area o a = bytes_ordered o a.events a.attributes a.bytes

-- the parts of the areas that are in use once an order is answered with these numbers, as a table to read
abbrev pub in_use : Order → Lent → Sizes → Table
in_use o a n =
    record {
      events = take (n.events * 5) (event_area o a);
      attributes = take (n.attributes * 5) (attribute_area o a);
      source = take n.bytes (byte_area o a);
    }

-- each area holds its part of the report's own table, and zeros behind it
pub record Holds (o : Order) (a : Lent) (n : Sizes) : Type 0 where
  pub table : in_use o a n ≡ own_table (rehearsal o)
  pub events : event_area o a ≡ (in_use o a n).events ++ zeros (a.events - n.events * 5)
  pub attributes : attribute_area o a ≡ (in_use o a n).attributes ++ zeros (a.attributes - n.attributes * 5)
  pub bytes : byte_area o a ≡ (in_use o a n).source ++ zeros (a.bytes - n.bytes)

pub record Zero (o : Order) (a : Lent) : Type 0 where
  pub events : event_area o a ≡ zeros a.events
  pub attributes : attribute_area o a ≡ zeros a.attributes
  pub bytes : byte_area o a ≡ zeros a.bytes

-- what reading such a table gives has the numbers that were stated, the rest of its cases are plain, and case by case its statuses are those that the
-- status rule gives for the case's own status elements in the table
pub record Counted (o : Order) (t : Table) (r : Report) : Type 0 where
  pub numbers : Numbers o r
  pub rest : stated o + count is_plain (statuses r) ≡ o.cases
  pub ruled : Ruled (shown.cases_of r) (own_statuses (public (events_of t)))

-- ---- the claims
pub record Ordering : Type 0 where
  -- A. 23 comes exactly where cases pass 4,096.
  pub twenty_three : (o : Order) (a : Lent) → (answer_of o a ≡ refused (late cause.TooManyCases)) ↔ (most_cases < o.cases)
  -- A. 24 comes exactly where they don't, and the four kinds together exceed the cases,
  pub twenty_four : (o : Order) (a : Lent) → (answer_of o a ≡ refused (late cause.NoSuchReport)) ↔ ((o.cases ≤ most_cases) × (o.cases < stated o))
  -- A. which is where no report has these numbers.
  pub no_report : (o : Order) → (o.cases < stated o) ↔ (¬ ((r : Report) × Numbers o r))
  -- A. 16 comes exactly where neither does, and the table doesn't fit into the areas.
  pub sixteen : (o : Order) (a : Lent) → (answer_of o a ≡ refused (late cause.OutputFull))
      ↔ ((o.cases ≤ most_cases) × (stated o ≤ o.cases) × (fits (laid_out (written (rehearsal o))) a.events a.attributes a.bytes ≡ false))
  -- A. Areas of the limits' size are always enough.
  pub enough : (o : Order) → o.cases ≤ most_cases → stated o ≤ o.cases → fits (laid_out (written (rehearsal o))) lent_limits.events lent_limits.attributes lent_limits.bytes ≡ true
  -- A. There is no other refusal, and each leaves the areas zero.
  pub refuses_only : (o : Order) (a : Lent) (why : Refused) → answer_of o a ≡ refused why
      → ((why ≡ late cause.TooManyCases) ⊎ ((why ≡ late cause.NoSuchReport) ⊎ (why ≡ late cause.OutputFull))) × Zero o a
  -- B. Otherwise the areas hold the table of the report that was ordered, and zeros behind it.
  pub own : (o : Order) (a : Lent) (n : Sizes) → answer_of o a ≡ accepted n → Holds o a n
  -- C. The events that are written of an order that isn't refused are read as its report,
  pub on_lists : (o : Order) → o.cases ≤ most_cases → stated o ≤ o.cases → deserialize (written (rehearsal o)) ≡ accepted (rehearsal o)
  -- C. and so are the areas that the call left, with areas of the limits' size (rule W16).
  pub on_areas : (o : Order) (a : Lent) (n : Sizes) (output : ℕ) → answer_of o a ≡ accepted n → answer_to (in_use o a n) (limits output) ≡ accepted (rehearsal o)
  -- D. Whatever areas it is read with: a report that is read from it has the numbers that were stated, by the status rule.
  pub counted : (o : Order) (a : Lent) (n : Sizes) (b : Areas) (r : Report) → answer_of o a ≡ accepted n → answer_to (in_use o a n) b ≡ accepted r → Counted o (in_use o a n) r
  -- E. Its public listing is that of the report.
  pub listed : (o : Order) (a : Lent) (n : Sizes) (output : ℕ) → answer_of o a ≡ accepted n → length (render (rehearsal o)) ≤ output
      → listing (in_use o a n) (limits output) ≡ render (rehearsal o)
