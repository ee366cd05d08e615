-- What may be done where: the actions that are planned in each mode. Assumes nothing.
use Prim.Native.Nat.{ℕ, zero, suc}
use mathlib.Core.Bool.{Bool, true, false, cond, ◌&&◌}
use mathlib.Core.List.{List}
use mathlib.Core.Path.{◌≡◌, refl}
use lib.Dec.{eqb}
use Rattle.table_events.specs.of_names.Names.{same_bytes}
use Rattle.table_events.specs.of_names.Tags.{tag_of, testsuites, testsuite, testcase, properties, property, stack_trace, system-out, system-err}
use Rattle.table_events.specs.of_table.Event.{TagKind, Start, Empty, End}
use Rattle.read_path.proofs.of_tree_report.EncodeLists.{and_right}
use Rattle.read_path.specs.of_read_state.Control.{Level, top, suite, case, status, Output, trace, out, err, Mode, at, gathering, listing, skipping, finished}
use Rattle.read_path.specs.of_read_state.Control.{Act, pass, open_report, open_suite, open_case, open_status, close_suite, close_case, close_status, open_text, close_text, open_list, read_property, stop, missing, broken}
use Rattle.read_path.specs.of_read_state.Control.{is_status, or_skip}
use Rattle.read_path.specs.of_read_rules.Rules.{outputs, emptied, at_top, at_suite, at_case, child, at_status, tag_of_output, in_text, in_list_of, shallower, in_skip, plan_at, plan_eof, plan_fault}
use Rattle.text_pieces.specs.of_refusal.declared.Cause.{Cause}

-- the texts that an element gathers
pub data Gathered : Level → Output → Type 0 where
  suite-out : Gathered suite out
  suite-err : Gathered suite err
  case-out : Gathered case out
  case-err : Gathered case err
  status-trace : Gathered status trace
  status-out : Gathered status out
  status-err : Gathered status err

pub data Planned (seen : Bool) : Mode → Act → Type 0 where
  stays : {m : Mode} → Planned seen m (pass m)
  skips : {l : Level} {name : List ℕ} {depth : ℕ} → Planned seen (at l) (pass (skipping (at l) name depth))
  skips_on : {m : Mode} {name : List ℕ} {depth next : ℕ} → Planned seen (skipping m name depth) (pass (skipping m name next))
  returns : {m : Mode} {name : List ℕ} {depth : ℕ} → Planned seen (skipping m name depth) (pass m)
  listed : {l : Level} → Planned seen (listing l) (pass (at l))
  reports : {e : Bool} → Planned seen (at top) (open_report e)
  suites : {e : Bool} → seen ≡ true → Planned seen (at top) (open_suite e)
  stops : seen ≡ true → Planned seen (at top) stop
  misses : {m : Mode} → Planned seen m missing
  breaks : {m : Mode} {why : Cause} → Planned seen m (broken why)
  cases : {e : Bool} → Planned seen (at suite) (open_case e)
  suite-ends : Planned seen (at suite) close_suite
  suite-list : {e : Bool} → Planned seen (at suite) (open_list suite e)
  statuses : {κ : ℕ} {e : Bool} → is_status κ ≡ true → Planned seen (at case) (open_status κ e)
  case-ends : Planned seen (at case) close_case
  case-list : {e : Bool} → Planned seen (at case) (open_list case e)
  status-ends : Planned seen (at status) close_status
  texts : {l : Level} {o : Output} → Gathered l o → Planned seen (at l) (open_text l o)
  texts-empty : {l : Level} {o : Output} → Gathered l o → Planned seen (at l) (close_text l o)
  text-ends : {l : Level} {o : Output} → Planned seen (gathering l o) (close_text l o)
  properties-read : {l : Level} {e : Bool} {name : List ℕ} → Planned seen (listing l) (read_property l e name)

module _ {seen : Bool} {m : Mode} where
  choose : {a b : Act} (t : Bool) → (t ≡ true → Planned seen m a) → (t ≡ false → Planned seen m b) → Planned seen m (cond t a b)
  choose true f g = f refl
  choose false f g = g refl

  pick : {a b : Act} (t : Bool) → Planned seen m a → Planned seen m b → Planned seen m (cond t a b)
  pick true f g = f
  pick false f g = g

outputs-plan : {seen : Bool} (l : Level) (name : List ℕ) → Gathered l out → Gathered l err → Planned seen (at l) (outputs l name)
unfolding outputs or_skip
outputs-plan l name a b = pick (eqb (tag_of name) system-out) (texts a) (pick (eqb (tag_of name) system-err) (texts b) skips)

emptied-plan : {seen : Bool} (l : Level) (name : List ℕ) → Gathered l out → Gathered l err → Planned seen (at l) (emptied l name)
unfolding emptied
emptied-plan l name a b = pick (eqb (tag_of name) system-out) (texts-empty a) (pick (eqb (tag_of name) system-err) (texts-empty b) stays)

top-plan : (seen : Bool) (k : TagKind) (t : ℕ) → Planned seen (at top) (at_top seen k t)
unfolding at_top
top-plan seen Start t = pick (eqb t testsuites) reports (choose (eqb t testsuite && seen) (λ e. suites (and_right (eqb t testsuite) seen e)) (λ e. stays))
top-plan seen Empty t = pick (eqb t testsuites) reports (choose (eqb t testsuite && seen) (λ e. suites (and_right (eqb t testsuite) seen e)) (λ e. stays))
top-plan seen End t = pick (eqb t testsuites) (choose seen (λ e. stops e) (λ e. misses)) stays

suite-plan : {seen : Bool} (k : TagKind) (name : List ℕ) → Planned seen (at suite) (at_suite k name)
unfolding at_suite
suite-plan Start name = pick (eqb (tag_of name) testcase) cases (pick (eqb (tag_of name) properties) suite-list (outputs-plan suite name suite-out suite-err))
suite-plan Empty name = pick (eqb (tag_of name) testcase) cases (pick (eqb (tag_of name) properties) suite-list (emptied-plan suite name suite-out suite-err))
suite-plan End name = pick (eqb (tag_of name) testsuite) suite-ends stays

case-plan : {seen : Bool} (k : TagKind) (name : List ℕ) → Planned seen (at case) (at_case k name)
unfolding at_case
case-plan Start name = choose (is_status (tag_of name)) (λ e. statuses e) (λ e. pick (eqb (tag_of name) properties) case-list (outputs-plan case name case-out case-err))
case-plan Empty name = choose (is_status (tag_of name)) (λ e. statuses e) (λ e. pick (eqb (tag_of name) properties) case-list (emptied-plan case name case-out case-err))
case-plan End name = pick (eqb (tag_of name) testcase) case-ends stays

child-plan : {seen : Bool} (name : List ℕ) → Planned seen (at status) (child name)
unfolding child
child-plan name = pick (eqb (tag_of name) stack_trace) (texts status-trace) (outputs-plan status name status-out status-err)

status-plan : {seen : Bool} (k : TagKind) (name : List ℕ) → Planned seen (at status) (at_status k name)
unfolding at_status
status-plan Start name = child-plan name
status-plan Empty name = pick (eqb (tag_of name) stack_trace) (texts-empty status-trace) (emptied-plan status name status-out status-err)
status-plan End name = pick (is_status (tag_of name)) status-ends stays

text-plan : {seen : Bool} (l : Level) (o : Output) (k : TagKind) (t : ℕ) → Planned seen (gathering l o) (in_text l o k t)
unfolding in_text
text-plan l o Start t = stays
text-plan l o Empty t = stays
text-plan l o End t = pick (eqb t (tag_of_output o)) text-ends stays

list-plan : {seen : Bool} (l : Level) (k : TagKind) (name : List ℕ) → Planned seen (listing l) (in_list_of l k name)
unfolding in_list_of
list-plan l Start name = pick (eqb (tag_of name) property) properties-read stays
list-plan l Empty name = pick (eqb (tag_of name) property) properties-read stays
list-plan l End name = pick (eqb (tag_of name) properties) listed stays

skip-plan : {seen : Bool} (m : Mode) (skipped : List ℕ) (depth : ℕ) (k : TagKind) (name : List ℕ) → Planned seen (skipping m skipped depth) (in_skip m skipped depth k name)
unfolding in_skip
skip-plan m skipped depth Start name = skips_on
skip-plan m skipped depth Empty name = skips_on
skip-plan {seen} m skipped depth End name = go (same_bytes name skipped) depth
  where
    go : (t : Bool) (d : ℕ) → Planned seen (skipping m skipped d) (pass (cond t (shallower m skipped d) (skipping m skipped d)))
    go true zero = returns
    go true (suc d) = skips_on
    go false d = skips_on

-- each act that a tag gives is one of its mode's: proofs on acts go by the list of these
pub tag-plan : (m : Mode) (seen : Bool) (k : TagKind) (name : List ℕ) → Planned seen m (plan_at m seen k name)
unfolding plan_at
tag-plan (at top) seen k name = top-plan seen k (tag_of name)
tag-plan (at suite) seen k name = suite-plan k name
tag-plan (at case) seen k name = case-plan k name
tag-plan (at status) seen k name = status-plan k name
tag-plan (gathering l o) seen k name = text-plan l o k (tag_of name)
tag-plan (listing l) seen k name = list-plan l k name
tag-plan (skipping m skipped depth) seen k name = skip-plan m skipped depth k name
tag-plan finished seen k name = stays

-- each act that Eof gives is one of its mode's
pub eof-plan : (m : Mode) (seen closed : Bool) → Planned seen m (plan_eof m seen closed)
unfolding plan_eof
eof-plan (at top) seen closed = choose seen (λ e. pick closed (stops e) breaks) (λ e. misses)
eof-plan (at suite) seen closed = breaks
eof-plan (at case) seen closed = breaks
eof-plan (at status) seen closed = breaks
eof-plan (gathering l o) seen closed = breaks
eof-plan (listing l) seen closed = breaks
eof-plan (skipping m skipped depth) seen closed = breaks
eof-plan finished seen closed = stays

-- each act that Fault gives is one of its mode's
pub fault-plan : {seen : Bool} (m : Mode) → Planned seen m (plan_fault m)
unfolding plan_fault
fault-plan (at l) = breaks
fault-plan (gathering l o) = breaks
fault-plan (listing l) = breaks
fault-plan (skipping m skipped depth) = breaks
fault-plan finished = stays
