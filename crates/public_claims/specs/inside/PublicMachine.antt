-- The public machine: it reads public events alone, with no areas and no texts, by the plan of reading (crate read_rules). What it reads is a
-- list of nodes in document order, and the public report that they make. Definitions only.
use Rattle.std.specs.Prelude.{ℕ, List, [], ◌∷◌, ◌++◌, Bool, true, false, cond, ◌&&◌, leb, eqb}
use Rattle.std.proofs.Math.Option.{Option, none, some}
use Rattle.read_report.specs.of_names.Keys.{key_of}
use Rattle.read_report.specs.of_digits.Digits.{value}
use Rattle.read_report.specs.of_integer.Integer.{unsigned}
use Rattle.read_report.specs.of_time.Time.{seconds_of, nanos_of}
use Rattle.read_report.specs.of_text.Value.{value_text}
use Rattle.read_report.specs.of_table.Event.{Attribute}
use Rattle.read_report.specs.of_tree_status.Status.{no_status}
use Rattle.list_text.specs.of_tree_report.Report.{Text, Duration, Counts, NonSuccessKind, failure, error}
use Rattle.read_report.specs.of_read_state.Control.{top, status, at, Control, control, Act, pass, open_report, open_suite, open_case, open_status, close_suite}
use Rattle.read_report.specs.of_read_state.Control.{close_case, close_status, open_text, close_text, open_list, read_property, stop, missing, broken, turn}
use Rattle.read_report.specs.of_read_rules.Rules.{plan_at, plan_eof, plan_fault}
use Rattle.list_text.specs.Listing.{Status, is_success, is_failure, is_error, is_skipped, RunKind, no_kind, flaky_kind, rerun_kind, PublicRun, PublicCase, PublicSuite, PublicReport, render_public}
use Rattle.public_claims.specs.Agree.{PublicEvent, PublicTag, PublicEof, PublicFault}

-- ---- attributes
-- what the attributes under public keys that are listed say
pub record Said : Type 0 where
  pub name : Option Text
  pub classname : Option Text
  pub time : Option Duration
  pub counts : Counts

abbrev pub no_counts : Counts
no_counts = record { tests = 0; failures = 0; errors = 0; skipped = 0; disabled = none }

abbrev pub unsaid : Said
unsaid = record { name = none; classname = none; time = none; counts = no_counts }

-- the listed fields, by the codes of their keys
pub data Field : Type 0 where
  the_name the_classname the_time the_tests the_failures the_errors the_skipped the_disabled not_listed : Field

unfoldable pub field_of : ℕ → Field
field_of c =
    cond (eqb c 1) the_name
    (cond (eqb c 2) the_classname
    (cond (eqb c 5) the_time
    (cond (eqb c 6) the_tests
    (cond (eqb c 7) the_failures
    (cond (eqb c 8) the_errors
    (cond (eqb c 9) the_skipped
    (cond (eqb c 10) the_disabled not_listed)))))))

abbrev pub integer_value : List ℕ → ℕ
integer_value v = value 10 (unsigned v)

abbrev pub with_counts : Counts → Said → Said
with_counts c s = record { name = s.name; classname = s.classname; time = s.time; counts = c }

abbrev pub duration_of : List ℕ → Duration
duration_of v = record { seconds = seconds_of v; nanos = nanos_of v }

abbrev pub say : Field → List ℕ → Said → Said
say the_name v s = record { name = some (value_text v); classname = s.classname; time = s.time; counts = s.counts }
say the_classname v s = record { name = s.name; classname = some (value_text v); time = s.time; counts = s.counts }
say the_time v s = record { name = s.name; classname = s.classname; time = some (duration_of v); counts = s.counts }
say the_tests v s =
    with_counts (record { tests = integer_value v; failures = s.counts.failures; errors = s.counts.errors; skipped = s.counts.skipped; disabled = s.counts.disabled }) s
say the_failures v s =
    with_counts (record { tests = s.counts.tests; failures = integer_value v; errors = s.counts.errors; skipped = s.counts.skipped; disabled = s.counts.disabled }) s
say the_errors v s =
    with_counts (record { tests = s.counts.tests; failures = s.counts.failures; errors = integer_value v; skipped = s.counts.skipped; disabled = s.counts.disabled }) s
say the_skipped v s =
    with_counts (record { tests = s.counts.tests; failures = s.counts.failures; errors = s.counts.errors; skipped = integer_value v; disabled = s.counts.disabled }) s
say the_disabled v s =
    with_counts (record { tests = s.counts.tests; failures = s.counts.failures; errors = s.counts.errors; skipped = s.counts.skipped; disabled = some (integer_value v) }) s
say not_listed v s = s

unfoldable pub said : List Attribute → Said → Said
said [] s = s
said (x ∷ xs) s = said xs (say (field_of (key_of x.key)) x.value s)

-- ---- nodes
-- what an element shows; a status element has its code
pub data Node : Type 0 where
  report_node : Option Text → Counts → Node
  suite_node : Text → Counts → Node
  case_node : Text → Option Text → Option Duration → Node
  main_node : ℕ → Node
  run_node : ℕ → Option Duration → Node

-- an element's sort, by its record's kind; properties and extras are not listed
pub data Sort : Type 0 where
  a_report a_suite a_case_of a_main a_run unlisted : Sort

unfoldable pub sort_of : ℕ → Sort
sort_of k =
    cond (eqb k 1) a_report
    (cond (eqb k 2) a_suite
    (cond (eqb k 3) a_case_of
    (cond (leb 6 k && leb k 8) a_main
    (cond (leb 9 k && leb k 12) a_run unlisted))))

abbrev pub or_empty : Option Text → Text
or_empty none = []
or_empty (some v) = v

abbrev pub nodes_of : Sort → ℕ → Said → List Node
nodes_of a_report k s = report_node s.name s.counts ∷ []
nodes_of a_suite k s = suite_node (or_empty s.name) s.counts ∷ []
nodes_of a_case_of k s = case_node (or_empty s.name) s.classname s.time ∷ []
nodes_of a_main k s = main_node k ∷ []
nodes_of a_run k s = run_node k s.time ∷ []
nodes_of unlisted k s = []

-- the nodes of an element of a record's kind
abbrev pub nodes_for : ℕ → List Attribute → List Node
nodes_for k xs = nodes_of (sort_of k) k (said xs unsaid)

-- what an action adds; a new report replaces all
unfoldable pub public_act : Act → List Attribute → List Node → List Node
public_act (pass m) xs ns = ns
public_act (open_report e) xs ns = nodes_for 1 xs
public_act (open_suite e) xs ns = ns ++ nodes_for 2 xs
public_act (open_case e) xs ns = ns ++ nodes_for 3 xs
public_act (open_status k e) xs ns = ns ++ nodes_for k xs
public_act close_suite xs ns = ns
public_act close_case xs ns = ns
public_act close_status xs ns = ns
public_act (open_text l o) xs ns = ns
public_act (close_text l o) xs ns = ns
public_act (open_list l e) xs ns = ns
public_act (read_property l e name) xs ns = ns
public_act stop xs ns = ns
public_act missing xs ns = ns
public_act (broken n) xs ns = ns

-- ---- the machine
pub record PublicState : Type 0 where
  pub control : Control
  pub nodes : List Node

unfoldable pub acting : Act → List Attribute → PublicState → PublicState
acting a xs s = record { control = turn a s.control; nodes = public_act a xs s.nodes }

unfoldable pub ending : PublicState → PublicState
ending s = acting (plan_eof s.control.mode s.control.seen s.control.closed) [] s

unfoldable pub public_step : PublicEvent → PublicState → PublicState
public_step (PublicTag k name xs) s = acting (plan_at s.control.mode s.control.seen k name) xs s
public_step PublicEof s = ending s
public_step PublicFault s = acting (plan_fault s.control.mode) [] s

-- the end of the table is an Eof (rule T5)
unfoldable pub public_run : List PublicEvent → PublicState → PublicState
public_run [] s = ending s
public_run (e ∷ es) s = public_run es (public_step e s)

abbrev pub public_begin : PublicState
public_begin = record { control = control (at top) false false no_status; nodes = [] }

unfoldable pub nodes_read : List PublicEvent → List Node
nodes_read es = (public_run es public_begin).nodes

-- ---- the report that nodes make
abbrev pub is_suite_node : Node → Bool
is_suite_node (report_node n c) = false
is_suite_node (suite_node n c) = true
is_suite_node (case_node n c t) = false
is_suite_node (main_node k) = false
is_suite_node (run_node k t) = false

abbrev pub is_case_node : Node → Bool
is_case_node (report_node n c) = false
is_case_node (suite_node n c) = false
is_case_node (case_node n c t) = true
is_case_node (main_node k) = false
is_case_node (run_node k t) = false

-- the nodes up to the next that passes a test
abbrev pub up_to_next : (Node → Bool) → List Node → List Node
up_to_next p [] = []
up_to_next p (n ∷ ns) = cond (p n) [] (n ∷ up_to_next p ns)

-- the codes of the mains, the runs, and the runs' codes
abbrev pub mains_in : List Node → List ℕ
mains_in [] = []
mains_in (main_node k ∷ ns) = k ∷ mains_in ns
mains_in (report_node n c ∷ ns) = mains_in ns
mains_in (suite_node n c ∷ ns) = mains_in ns
mains_in (case_node n c t ∷ ns) = mains_in ns
mains_in (run_node k t ∷ ns) = mains_in ns

-- 9 flaky_failure, 11 rerun_failure
abbrev pub run_kind_of : ℕ → NonSuccessKind
run_kind_of k = cond (eqb k 9) failure (cond (eqb k 11) failure error)

abbrev pub runs_in : List Node → List PublicRun
runs_in [] = []
runs_in (run_node k t ∷ ns) = record { kind = run_kind_of k; time = t } ∷ runs_in ns
runs_in (report_node n c ∷ ns) = runs_in ns
runs_in (suite_node n c ∷ ns) = runs_in ns
runs_in (case_node n c t ∷ ns) = runs_in ns
runs_in (main_node k ∷ ns) = runs_in ns

abbrev pub run_codes_in : List Node → List ℕ
run_codes_in [] = []
run_codes_in (run_node k t ∷ ns) = k ∷ run_codes_in ns
run_codes_in (report_node n c ∷ ns) = run_codes_in ns
run_codes_in (suite_node n c ∷ ns) = run_codes_in ns
run_codes_in (case_node n c t ∷ ns) = run_codes_in ns
run_codes_in (main_node k ∷ ns) = run_codes_in ns

-- no main is success; 6 failure, 7 error, 8 skipped
abbrev pub node_status : List ℕ → Status
node_status [] = is_success
node_status (m ∷ ms) = cond (eqb m 8) is_skipped (cond (eqb m 6) is_failure is_error)

-- of no runs Rerun (rule S11)
abbrev pub family_of : List ℕ → RunKind
family_of [] = rerun_kind
family_of (k ∷ ks) = cond (leb k 10) flaky_kind rerun_kind

abbrev pub node_kind : List ℕ → List ℕ → RunKind
node_kind [] ks = flaky_kind
node_kind (m ∷ ms) ks = cond (eqb m 8) no_kind (family_of ks)

abbrev pub node_runs : List ℕ → List PublicRun → List PublicRun
node_runs [] rs = rs
node_runs (m ∷ ms) rs = cond (eqb m 8) [] rs

-- a case, with the nodes that belong to it
abbrev pub case_from : Text → Option Text → Option Duration → List Node → PublicCase
case_from n c t ns =
    record { name = n; classname = c; time = t; status = node_status (mains_in ns); kind = node_kind (mains_in ns) (run_codes_in ns); runs = node_runs (mains_in ns) (runs_in ns) }

abbrev pub cases_in : List Node → List PublicCase
cases_in [] = []
cases_in (case_node n c t ∷ ns) = case_from n c t (up_to_next is_case_node ns) ∷ cases_in ns
cases_in (report_node n c ∷ ns) = cases_in ns
cases_in (suite_node n c ∷ ns) = cases_in ns
cases_in (main_node k ∷ ns) = cases_in ns
cases_in (run_node k t ∷ ns) = cases_in ns

abbrev pub suites_in : List Node → List PublicSuite
suites_in [] = []
suites_in (suite_node n c ∷ ns) = record { name = n; counts = c; cases = cases_in (up_to_next is_suite_node ns) } ∷ suites_in ns
suites_in (report_node n c ∷ ns) = suites_in ns
suites_in (case_node n c t ∷ ns) = suites_in ns
suites_in (main_node k ∷ ns) = suites_in ns
suites_in (run_node k t ∷ ns) = suites_in ns

abbrev pub report_in : List Node → Option PublicReport
report_in [] = none
report_in (report_node n c ∷ ns) = some (record { name = n; counts = c; suites = suites_in ns })
report_in (suite_node n c ∷ ns) = none
report_in (case_node n c t ∷ ns) = none
report_in (main_node k ∷ ns) = none
report_in (run_node k t ∷ ns) = none

-- what the public machine reads from public events
unfoldable pub public_report : List PublicEvent → Option PublicReport
public_report es = report_in (nodes_read es)

-- the public listing of public events
abbrev pub rendered_public : Option PublicReport → List ℕ
rendered_public none = []
rendered_public (some r) = render_public r

unfoldable pub public_text : List PublicEvent → List ℕ
public_text es = rendered_public (public_report es)
