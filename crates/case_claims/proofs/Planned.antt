-- A case is opened at a `testcase` tag only. Assumes nothing.
use Prim.Native.Nat.{ℕ, zero, suc, ◌≤◌}
use mathlib.Core.Path.{◌≡◌, refl}
use mathlib.Core.List.{List}
use mathlib.Core.Bool.{Bool, true, false, cond, ◌&&◌}
use native.Mathlib.Omega.{arith}
use lib.Dec.{eqb}
use Rattle.case_tags.specs.of_names.Names.{same_bytes}
use Rattle.case_tags.specs.of_names.Tags.{tag_of}
use Rattle.case_tags.specs.of_table.Event.{Attribute, TagKind, Start, Empty, End, Tag}
use Rattle.read_report.specs.of_read_state.Control.{Level, top, suite, case, status, Output, trace, out, err, Mode, at, gathering, listing, skipping, finished, is_status, or_skip}
use Rattle.read_report.specs.of_read_state.Control.{Act, pass, open_report, open_suite, open_case, open_status, close_suite, close_case, close_status, open_text, close_text, open_list, read_property, stop, missing, broken}
use Rattle.read_report.specs.of_read_rules.Rules.{at_top, at_suite, at_case, at_status, child, outputs, emptied, in_text, in_list_of, in_skip, tag_of_output, shallower, plan_at, plan_eof, plan_fault}
use Rattle.case_tags.specs.of_refusal.declared.Cause.{Cause}
use Rattle.case_tags.specs.of_refusal.declared.Cause.TheVariants as cause
use Rattle.case_tags.specs.Tags.{case_tag}

-- how many cases an action opens
abbrev pub opened : Act → ℕ
opened (pass m) = 0
opened (open_report e) = 0
opened (open_suite e) = 0
opened (open_case e) = 1
opened (open_status s e) = 0
opened close_suite = 0
opened close_case = 0
opened close_status = 0
opened (open_text l o) = 0
opened (close_text l o) = 0
opened (open_list l e) = 0
opened (read_property l e name) = 0
opened stop = 0
opened missing = 0
opened (broken why) = 0

-- an action that opens none
data None : Act → Type 0 where
  passes : {m : Mode} → None (pass m)
  report : {e : Bool} → None (open_report e)
  suites : {e : Bool} → None (open_suite e)
  statuses : {k : ℕ} {e : Bool} → None (open_status k e)
  suite-ends : None close_suite
  case-ends : None close_case
  status-ends : None close_status
  begins : {l : Level} {o : Output} → None (open_text l o)
  texts : {l : Level} {o : Output} → None (close_text l o)
  lists : {l : Level} {e : Bool} → None (open_list l e)
  properties : {l : Level} {e : Bool} {name : List ℕ} → None (read_property l e name)
  stops : None stop
  misses : None missing
  breaks : {why : Cause} → None (broken why)

opens-none : {a : Act} → None a → opened a ≡ 0
opens-none passes = refl
opens-none report = refl
opens-none suites = refl
opens-none statuses = refl
opens-none suite-ends = refl
opens-none case-ends = refl
opens-none status-ends = refl
opens-none begins = refl
opens-none texts = refl
opens-none lists = refl
opens-none properties = refl
opens-none stops = refl
opens-none misses = refl
opens-none breaks = refl

either : (t : Bool) {a b : Act} → None a → None b → None (cond t a b)
either true p q = p
either false p q = q

outputs-none : (l : Level) (name : List ℕ) → None (outputs l name)
unfolding outputs or_skip
outputs-none l name = either (eqb (tag_of name) 14) begins (either (eqb (tag_of name) 15) begins passes)

emptied-none : (l : Level) (name : List ℕ) → None (emptied l name)
unfolding emptied
emptied-none l name = either (eqb (tag_of name) 14) texts (either (eqb (tag_of name) 15) texts passes)

top-none : (seen : Bool) (k : TagKind) (t : ℕ) → None (at_top seen k t)
unfolding at_top
top-none seen Start t = either (eqb t 1) report (either (eqb t 2 && seen) suites passes)
top-none seen Empty t = either (eqb t 1) report (either (eqb t 2 && seen) suites passes)
top-none seen End t = either (eqb t 1) (either seen stops misses) passes

case-none : (k : TagKind) (name : List ℕ) → None (at_case k name)
unfolding at_case
case-none Start name = either (is_status (tag_of name)) statuses (either (eqb (tag_of name) 4) lists (outputs-none case name))
case-none Empty name = either (is_status (tag_of name)) statuses (either (eqb (tag_of name) 4) lists (emptied-none case name))
case-none End name = either (eqb (tag_of name) 3) case-ends passes

status-none : (k : TagKind) (name : List ℕ) → None (at_status k name)
unfolding at_status child
status-none Start name = either (eqb (tag_of name) 13) begins (outputs-none status name)
status-none Empty name = either (eqb (tag_of name) 13) texts (emptied-none status name)
status-none End name = either (is_status (tag_of name)) status-ends passes

text-none : (l : Level) (o : Output) (k : TagKind) (t : ℕ) → None (in_text l o k t)
unfolding in_text
text-none l o Start t = passes
text-none l o Empty t = passes
text-none l o End t = either (eqb t (tag_of_output o)) texts passes

list-none : (l : Level) (k : TagKind) (name : List ℕ) → None (in_list_of l k name)
unfolding in_list_of
list-none l Start name = either (eqb (tag_of name) 5) properties passes
list-none l Empty name = either (eqb (tag_of name) 5) properties passes
list-none l End name = either (eqb (tag_of name) 4) passes passes

skip-none : (m : Mode) (skipped : List ℕ) (depth : ℕ) (k : TagKind) (name : List ℕ) → None (in_skip m skipped depth k name)
unfolding in_skip
skip-none m skipped depth Start name = passes
skip-none m skipped depth Empty name = passes
skip-none m skipped depth End name = passes

module _ (name : List ℕ) (j : ℕ) (xs : List Attribute) where
  in-suite : (k : TagKind) → opened (at_suite k name) ≤ case_tag (Tag k name j xs)
  unfolding at_suite case_tag
  in-suite Start = go (eqb (tag_of name) 3)
    where
      go : (t : Bool) → opened (cond t (open_case false) (cond (eqb (tag_of name) 4) (open_list suite false) (outputs suite name))) ≤ cond t 1 0
      go true = omega arith
      go false = let z = opens-none {a = cond (eqb (tag_of name) 4) (open_list suite false) (outputs suite name)} (either (eqb (tag_of name) 4) lists (outputs-none suite name)) in omega arith
  in-suite Empty = go (eqb (tag_of name) 3)
    where
      go : (t : Bool) → opened (cond t (open_case true) (cond (eqb (tag_of name) 4) (open_list suite true) (emptied suite name))) ≤ cond t 1 0
      go true = omega arith
      go false = let z = opens-none {a = cond (eqb (tag_of name) 4) (open_list suite true) (emptied suite name)} (either (eqb (tag_of name) 4) lists (emptied-none suite name)) in omega arith
  in-suite End = let z = opens-none {a = cond (eqb (tag_of name) 2) close_suite (pass (at suite))} (either (eqb (tag_of name) 2) suite-ends passes) in omega arith

  pub opened-tag : (m : Mode) (seen : Bool) (k : TagKind) → opened (plan_at m seen k name) ≤ case_tag (Tag k name j xs)
  unfolding plan_at
  opened-tag (at top) seen k = let z = opens-none (top-none seen k (tag_of name)) in omega arith
  opened-tag (at suite) seen k = in-suite k
  opened-tag (at case) seen k = let z = opens-none (case-none k name) in omega arith
  opened-tag (at status) seen k = let z = opens-none (status-none k name) in omega arith
  opened-tag (gathering l o) seen k = let z = opens-none (text-none l o k (tag_of name)) in omega arith
  opened-tag (listing l) seen k = let z = opens-none (list-none l k name) in omega arith
  opened-tag (skipping m skipped depth) seen k = let z = opens-none (skip-none m skipped depth k name) in omega arith
  opened-tag finished seen k = omega arith

pub opened-eof : (m : Mode) (seen closed : Bool) → opened (plan_eof m seen closed) ≡ 0
unfolding plan_eof
opened-eof (at top) seen closed = opens-none (either seen (either closed stops (breaks {why = cause.EofInElement})) misses)
opened-eof (at suite) seen closed = refl
opened-eof (at case) seen closed = refl
opened-eof (at status) seen closed = refl
opened-eof (gathering l o) seen closed = refl
opened-eof (listing l) seen closed = refl
opened-eof (skipping m skipped depth) seen closed = refl
opened-eof finished seen closed = refl

pub opened-fault : (m : Mode) → opened (plan_fault m) ≡ 0
unfolding plan_fault
opened-fault (at l) = refl
opened-fault (gathering l o) = refl
opened-fault (listing l) = refl
opened-fault (skipping m skipped depth) = refl
opened-fault finished = refl
