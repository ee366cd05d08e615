-- The status elements of each case, found by a walk over the public events that knows neither the reader's plan nor its tally, and the
-- status rule over the list of them. Definitions only.
use Rattle.std.specs.Prelude.{ℕ, zero, suc, ◌≡◌, List, [], ◌∷◌, ◌++◌, Bool, true, false, cond, ◌&&◌, ◌||◌, length, leb, eqb}
use Rattle.std.proofs.Math.Option.{Option, none, some}
use Rattle.read_report.specs.of_names.Names.{same_bytes}
use Rattle.read_report.specs.of_names.Tags.{tag_of, testsuites, testsuite, testcase, properties, property, stack_trace, system-out, system-err}
use Rattle.read_report.specs.of_table.Event.{TagKind, Start, Empty, End}
use Rattle.list_text.specs.Listing.{Status, is_success, is_failure, is_error, is_skipped, RunKind, no_kind, flaky_kind, rerun_kind, PublicCase, PublicSuite, PublicReport}
use Rattle.public_claims.specs.Agree.{PublicEvent, PublicTag, PublicEof, PublicFault}

-- ---- the status rule
-- a case's status, the kind of its runs and their number
pub record Verdict : Type 0 where
  pub status : Status
  pub kind : RunKind
  pub runs : ℕ

abbrev pub verdict : Status → RunKind → ℕ → Verdict
verdict s k n = record { status = s; kind = k; runs = n }

-- `failure`, `error` and `skipped`: codes 6, 7, 8
abbrev pub mains : List ℕ → List ℕ
mains [] = []
mains (k ∷ ks) = cond (leb k 8) (k ∷ mains ks) (mains ks)

-- `flakyFailure` and `flakyError`: codes 9 and 10
abbrev pub flakies : List ℕ → List ℕ
flakies [] = []
flakies (k ∷ ks) = cond (leb 9 k && leb k 10) (k ∷ flakies ks) (flakies ks)

-- `rerunFailure` and `rerunError`: codes 11 and 12
abbrev pub reruns : List ℕ → List ℕ
reruns [] = []
reruns (k ∷ ks) = cond (leb 11 k) (k ∷ reruns ks) (reruns ks)

abbrev pub main_status : ℕ → Status
main_status m = cond (eqb m 6) is_failure is_error

-- by the mains, flaky runs and reruns; none is refused
abbrev pub rule_for : List ℕ → List ℕ → List ℕ → Option Verdict
-- no main is a success, with flaky runs but not with reruns (rules S10, S7)
rule_for [] fs [] = some (verdict is_success flaky_kind (length fs))
rule_for [] fs (r ∷ rs) = none
-- a main alone (rule S11)
rule_for (m ∷ []) [] [] = some (cond (eqb m 8) (verdict is_skipped no_kind 0) (verdict (main_status m) rerun_kind 0))
-- a main with runs, which `skipped` may not have (rules S11, S8)
rule_for (m ∷ []) (f ∷ fs) [] = cond (eqb m 8) none (some (verdict (main_status m) flaky_kind (length (f ∷ fs))))
rule_for (m ∷ []) [] (r ∷ rs) = cond (eqb m 8) none (some (verdict (main_status m) rerun_kind (length (r ∷ rs))))
-- rule S9
rule_for (m ∷ []) (f ∷ fs) (r ∷ rs) = none
-- rule S6
rule_for (m ∷ n ∷ ms) fs rs = none

-- rules S6 to S11
unfoldable pub rule : List ℕ → Option Verdict
rule ks = rule_for (mains ks) (flakies ks) (reruns ks)

-- ---- the walk
-- where the walk stands: at report level, in a suite, in a case, in a status element; on its way to the next End of a tag code; in a
-- properties list; on its way to the End of a name at depth 0; behind the report
pub data Spot : Type 0 where
  at_report in_suite in_case in_status over : Spot
  up_to : ℕ → Spot → Spot
  among_properties : Spot → Spot
  past : List ℕ → ℕ → Spot → Spot

-- the seven status names (rule S1), codes 6 to 12
abbrev pub is_status_name : List ℕ → Bool
is_status_name name = leb 6 (tag_of name) && leb (tag_of name) 12

-- behind a Start that is neither case nor status element: the outputs go to the next End of their name, a properties list to its own
-- End, and whatever else is skipped (rules R10, R11)
abbrev pub held : List ℕ → Spot → Spot
held name s =
    cond (eqb (tag_of name) properties) (among_properties s)
    (cond (eqb (tag_of name) system-out) (up_to system-out s)
    (cond (eqb (tag_of name) system-err) (up_to system-err s) (past name 0 s)))

-- the same in a status element, which has a stack trace besides its outputs and no properties (rules S3, S4)
abbrev pub held_by_status : List ℕ → Spot
held_by_status name =
    cond (eqb (tag_of name) stack_trace) (up_to stack_trace in_status)
    (cond (eqb (tag_of name) system-out) (up_to system-out in_status)
    (cond (eqb (tag_of name) system-err) (up_to system-err in_status) (past name 0 in_status)))

abbrev pub leave_skip : ℕ → List ℕ → Spot → Spot
leave_skip zero name s = s
leave_skip (suc depth) name s = past name depth s

-- where it stands behind a tag; a Bool says that a report exists. Below report level an Empty tag is an empty element, which ends where
-- it stands: the walk stays.
unfoldable pub move : Bool → Spot → TagKind → List ℕ → Spot
-- a suite counts once a report exists, End `testsuites` ends all, and any other tag is passed over (rules R5 to R7)
move seen at_report Start name = cond (eqb (tag_of name) testsuite && seen) in_suite at_report
move seen at_report Empty name = at_report
move seen at_report End name = cond (eqb (tag_of name) testsuites) over at_report
-- suite and case end at the next End of their own name (rule R12)
move seen in_suite Start name = cond (eqb (tag_of name) testcase) in_case (held name in_suite)
move seen in_suite Empty name = in_suite
move seen in_suite End name = cond (eqb (tag_of name) testsuite) at_report in_suite
move seen in_case Start name = cond (is_status_name name) in_status (held name in_case)
move seen in_case Empty name = in_case
move seen in_case End name = cond (eqb (tag_of name) testcase) in_suite in_case
-- a status element ends at an End of any status name (rule S2)
move seen in_status Start name = held_by_status name
move seen in_status Empty name = in_status
move seen in_status End name = cond (is_status_name name) in_case in_status
-- a text takes in tags, also those of its own name, up to the first End of that name (rule R14)
move seen (up_to code s) Start name = up_to code s
move seen (up_to code s) Empty name = up_to code s
move seen (up_to code s) End name = cond (eqb (tag_of name) code) s (up_to code s)
-- of a Start `property` the content is skipped, so that no End in it closes the list; all else in the list is passed over, up to End
-- `properties` (rules R15, R16)
move seen (among_properties s) Start name = cond (eqb (tag_of name) property) (past name 0 (among_properties s)) (among_properties s)
move seen (among_properties s) Empty name = among_properties s
move seen (among_properties s) End name = cond (eqb (tag_of name) properties) s (among_properties s)
-- Starts of the skipped name add to the depth, its Ends take away (rule R11)
move seen (past skipped depth s) Start name = past skipped (cond (same_bytes name skipped) (suc depth) depth) s
move seen (past skipped depth s) Empty name = past skipped depth s
move seen (past skipped depth s) End name = cond (same_bytes name skipped) (leave_skip depth skipped s) (past skipped depth s)
move seen over k name = over

-- a status element directly in the case
abbrev pub own_at : Spot → TagKind → List ℕ → Bool
own_at in_case Start name = is_status_name name
own_at in_case Empty name = is_status_name name
own_at in_case End name = false
own_at at_report k name = false
own_at in_suite k name = false
own_at in_status k name = false
own_at over k name = false
own_at (up_to code s) k name = false
own_at (among_properties s) k name = false
own_at (past skipped depth s) k name = false

-- the case is left at its End
abbrev pub leaves : Spot → Bool
leaves at_report = true
leaves in_suite = true
leaves over = true
leaves in_case = false
leaves in_status = false
leaves (up_to code s) = leaves s
leaves (among_properties s) = leaves s
leaves (past skipped depth s) = leaves s

-- the codes of a case's own status elements in the events from a spot in it on, to its End
unfoldable pub own_from : Spot → List PublicEvent → List ℕ
own_from s [] = []
own_from s (PublicTag k name xs ∷ es) =
    let rest = own_from (move true s k name) es in
    cond (leaves s) [] (cond (own_at s k name) (tag_of name ∷ rest) rest)
own_from s (PublicEof ∷ es) = []
own_from s (PublicFault ∷ es) = []

-- a report begins
abbrev pub begins_report : Spot → TagKind → List ℕ → Bool
begins_report at_report Start name = eqb (tag_of name) 1
begins_report at_report Empty name = eqb (tag_of name) 1
begins_report at_report End name = false
begins_report in_suite k name = false
begins_report in_case k name = false
begins_report in_status k name = false
begins_report over k name = false
begins_report (up_to code s) k name = false
begins_report (among_properties s) k name = false
begins_report (past skipped depth s) k name = false

-- the case that a tag in a suite begins, with its own status elements in the events behind it; an Empty case has none
abbrev pub case_at_of : Spot → TagKind → List ℕ → List PublicEvent → List (List ℕ)
case_at_of in_suite Start name es = cond (eqb (tag_of name) 3) (own_from in_case es ∷ []) []
case_at_of in_suite Empty name es = cond (eqb (tag_of name) 3) ([] ∷ []) []
case_at_of in_suite End name es = []
case_at_of at_report k name es = []
case_at_of in_case k name es = []
case_at_of in_status k name es = []
case_at_of over k name es = []
case_at_of (up_to code s) k name es = []
case_at_of (among_properties s) k name es = []
case_at_of (past skipped depth s) k name es = []

-- the cases of the last report, in order, each by its own status elements; those before were found already
unfoldable pub cases_from : Bool → Spot → List (List ℕ) → List PublicEvent → List (List ℕ)
cases_from seen s found [] = found
cases_from seen s found (PublicTag k name xs ∷ es) =
    cases_from (seen || begins_report s k name) (move seen s k name) (cond (begins_report s k name) [] (found ++ case_at_of s k name es)) es
cases_from seen s found (PublicEof ∷ es) = found
cases_from seen s found (PublicFault ∷ es) = found

-- rule S5
unfoldable pub own_statuses : List PublicEvent → List (List ℕ)
own_statuses es = cases_from false at_report [] es

-- ---- each listed case
abbrev pub cases_of_all : List PublicSuite → List PublicCase
cases_of_all [] = []
cases_of_all (s ∷ ss) = s.cases ++ cases_of_all ss

-- the listed cases, in order
abbrev pub cases_listed : Option PublicReport → List PublicCase
cases_listed none = []
cases_listed (some r) = cases_of_all r.suites

abbrev pub verdict_of : PublicCase → Verdict
verdict_of c = verdict c.status c.kind (length c.runs)

-- case by case, the rule gives what is listed (rule L5)
pub data Ruled : List PublicCase → List (List ℕ) → Type 0 where
  no-case : Ruled [] []
  one-case : {c : PublicCase} {cs : List PublicCase} {ks : List ℕ} {kss : List (List ℕ)} → rule ks ≡ some (verdict_of c) → Ruled cs kss → Ruled (c ∷ cs) (ks ∷ kss)
