-- How long the path of an act is: each act that is planned has room for an Attribute. Assumes nothing.
use Prim.Native.Nat.{ℕ, ◌≤◌}
use mathlib.Core.Bool.{Bool, true, false, cond, ◌&&◌}
use mathlib.Core.List.{List, [], ◌∷◌, ◌++◌}
use mathlib.Core.Path.{◌≡◌, refl}
use native.Mathlib.Omega.{arith}
use lib.Dec.{eqb}
use lib.ListN.{length, length-append}
use Rattle.read_rules.specs.of_names.Tags.{tag_of, testsuites, testsuite, testcase, properties, property, stack_trace, system-out, system-err}
use Rattle.read_rules.specs.of_refusal.declared.PathElement.{PathElement}
use Rattle.read_rules.specs.of_table.Event.{TagKind, Start, Empty, End}
use Rattle.read_place.specs.of_read_state.Control.{Level, top, suite, case, status, Output, trace, out, err, Mode, at, gathering, listing, skipping, finished}
use Rattle.read_place.specs.of_read_state.Control.{Act, pass, open_report, open_suite, open_case, open_status, close_suite, close_case, close_status, open_text, close_text, open_list, read_property, stop, missing, broken}
use Rattle.read_place.specs.of_read_state.Control.{is_status, or_skip}
use Rattle.read_rules.specs.Rules.{tag_of_output, outputs, emptied, child, at_top, at_suite, at_case, at_status, in_text, in_list_of, in_skip, plan_at, plan_eof, plan_fault}
use Rattle.read_place.specs.Marks.{Marks}
use Rattle.read_path.specs.Paths.{level_path, mode_path, path_of}
use Rattle.read_path.specs.inside.Coded.{has_room}
use Rattle.read_rules.specs.of_refusal.declared.Cause.TheVariants as cause

pub level_short : (l : Level) (m : Marks) → length (level_path l m) ≤ 4
level_short top m = omega arith
level_short suite m = omega arith
level_short case m = omega arith
level_short status m = omega arith

pub level_room : (l : Level) (m : Marks) → length (level_path l m) ≤ 5
level_room l m = omega (arith, level_short l m)

one_more : (l : Level) (m : Marks) (e : PathElement) → length (level_path l m ++ (e ∷ [])) ≤ 5
one_more l m e = omega (arith, level_short l m, length-append (level_path l m) (e ∷ []))

-- a mode's path has at most five elements
pub mode-short : (mode : Mode) (m : Marks) → length (mode_path mode m) ≤ 5
mode-short (at l) m = level_room l m
mode-short (gathering l o) m = one_more l m _
mode-short (listing l) m = one_more l m _
mode-short (skipping outer name depth) m = mode-short outer m
mode-short finished m = omega arith

-- the path of an act that has room has at most five elements
pub path-short : (a : Act) (mode : Mode) (m : Marks) → has_room a ≡ true → length (path_of a mode m) ≤ 5
path-short (read_property top e name) mode m h = omega arith
path-short (read_property suite e name) mode m h = omega arith
path-short (read_property case e name) mode m h = omega arith
path-short (read_property status e name) mode m h = absurd (never h)
  where
    never : false ≡ true → ⊥
    never e = let z : ◌≡◌ {A = ℕ} 0 1 = cc in omega arith
path-short (pass n) mode m h = omega arith
path-short (open_report e) mode m h = omega arith
path-short (open_suite e) mode m h = omega arith
path-short (open_case e) mode m h = omega arith
path-short (open_status k e) mode m h = omega arith
path-short close_suite mode m h = omega arith
path-short close_case mode m h = omega arith
path-short close_status mode m h = omega arith
path-short (open_text l o) mode m h = omega arith
path-short (close_text l o) mode m h = one_more l m _
path-short (open_list l e) mode m h = omega arith
path-short stop mode m h = omega arith
path-short missing mode m h = omega arith
path-short (broken n) mode m h = mode-short mode m

-- ---- each act that is planned has room
one_of : (b : Bool) (x y : Act) → has_room x ≡ true → has_room y ≡ true → has_room (cond b x y) ≡ true
one_of true x y h k = h
one_of false x y h k = k

outputs-room : (l : Level) (name : List ℕ) → has_room (outputs l name) ≡ true
unfolding outputs or_skip
outputs-room l name =
    one_of (eqb (tag_of name) system-out) (open_text l out) (cond (eqb (tag_of name) system-err) (open_text l err) (or_skip l name)) refl
    (one_of (eqb (tag_of name) system-err) (open_text l err) (or_skip l name) refl refl)

emptied-room : (l : Level) (name : List ℕ) → has_room (emptied l name) ≡ true
unfolding emptied
emptied-room l name =
    one_of (eqb (tag_of name) system-out) (close_text l out) (cond (eqb (tag_of name) system-err) (close_text l err) (pass (at l))) refl
    (one_of (eqb (tag_of name) system-err) (close_text l err) (pass (at l)) refl refl)

top-opens : (seen empty : Bool) (t : ℕ) → has_room (cond (eqb t testsuites) (open_report empty) (cond (eqb t testsuite && seen) (open_suite empty) (pass (at top)))) ≡ true
top-opens seen empty t =
    one_of (eqb t testsuites) (open_report empty) (cond (eqb t testsuite && seen) (open_suite empty) (pass (at top))) refl
    (one_of (eqb t testsuite && seen) (open_suite empty) (pass (at top)) refl refl)

top-room : (seen : Bool) (k : TagKind) (t : ℕ) → has_room (at_top seen k t) ≡ true
unfolding at_top
top-room seen Start t = top-opens seen false t
top-room seen Empty t = top-opens seen true t
top-room seen End t = one_of (eqb t testsuites) (cond seen stop missing) (pass (at top)) (one_of seen stop missing refl refl) refl

suite-room : (k : TagKind) (name : List ℕ) → has_room (at_suite k name) ≡ true
unfolding at_suite
suite-room Start name =
    one_of (eqb (tag_of name) testcase) (open_case false) (cond (eqb (tag_of name) properties) (open_list suite false) (outputs suite name)) refl
    (one_of (eqb (tag_of name) properties) (open_list suite false) (outputs suite name) refl (outputs-room suite name))
suite-room Empty name =
    one_of (eqb (tag_of name) testcase) (open_case true) (cond (eqb (tag_of name) properties) (open_list suite true) (emptied suite name)) refl
    (one_of (eqb (tag_of name) properties) (open_list suite true) (emptied suite name) refl (emptied-room suite name))
suite-room End name = one_of (eqb (tag_of name) testsuite) close_suite (pass (at suite)) refl refl

case-room : (k : TagKind) (name : List ℕ) → has_room (at_case k name) ≡ true
unfolding at_case
case-room Start name =
    one_of (is_status (tag_of name)) (open_status (tag_of name) false) (cond (eqb (tag_of name) properties) (open_list case false) (outputs case name)) refl
    (one_of (eqb (tag_of name) properties) (open_list case false) (outputs case name) refl (outputs-room case name))
case-room Empty name =
    one_of (is_status (tag_of name)) (open_status (tag_of name) true) (cond (eqb (tag_of name) properties) (open_list case true) (emptied case name)) refl
    (one_of (eqb (tag_of name) properties) (open_list case true) (emptied case name) refl (emptied-room case name))
case-room End name = one_of (eqb (tag_of name) testcase) close_case (pass (at case)) refl refl

child-room : (name : List ℕ) → has_room (child name) ≡ true
unfolding child
child-room name = one_of (eqb (tag_of name) stack_trace) (open_text status trace) (outputs status name) refl (outputs-room status name)

status-room : (k : TagKind) (name : List ℕ) → has_room (at_status k name) ≡ true
unfolding at_status
status-room Start name = child-room name
status-room Empty name = one_of (eqb (tag_of name) stack_trace) (close_text status trace) (emptied status name) refl (emptied-room status name)
status-room End name = one_of (is_status (tag_of name)) close_status (pass (at status)) refl refl

text-room : (l : Level) (o : Output) (k : TagKind) (t : ℕ) → has_room (in_text l o k t) ≡ true
unfolding in_text
text-room l o Start t = refl
text-room l o Empty t = refl
text-room l o End t = one_of (eqb t (tag_of_output o)) (close_text l o) (pass (gathering l o)) refl refl

list-room : (l : Level) (k : TagKind) (name : List ℕ) → ((e : Bool) → has_room (read_property l e name) ≡ true) → has_room (in_list_of l k name) ≡ true
unfolding in_list_of
list-room l Start name h = one_of (eqb (tag_of name) property) (read_property l false name) (pass (listing l)) (h false) refl
list-room l Empty name h = one_of (eqb (tag_of name) property) (read_property l true name) (pass (listing l)) (h true) refl
list-room l End name h = one_of (eqb (tag_of name) properties) (pass (at l)) (pass (listing l)) refl refl

skip-room : (m : Mode) (skipped : List ℕ) (depth : ℕ) (k : TagKind) (name : List ℕ) → has_room (in_skip m skipped depth k name) ≡ true
unfolding in_skip
skip-room m skipped depth Start name = refl
skip-room m skipped depth Empty name = refl
skip-room m skipped depth End name = refl

-- a tag's act, where reading isn't in a status element's properties
pub planned-room : (mode : Mode) (seen : Bool) (k : TagKind) (name : List ℕ) → (mode ≡ listing status → ⊥) → has_room (plan_at mode seen k name) ≡ true
unfolding plan_at
planned-room (at top) seen k name h = top-room seen k (tag_of name)
planned-room (at suite) seen k name h = suite-room k name
planned-room (at case) seen k name h = case-room k name
planned-room (at status) seen k name h = status-room k name
planned-room (gathering l o) seen k name h = text-room l o k (tag_of name)
planned-room (listing top) seen k name h = list-room top k name (λ e. refl)
planned-room (listing suite) seen k name h = list-room suite k name (λ e. refl)
planned-room (listing case) seen k name h = list-room case k name (λ e. refl)
planned-room (listing status) seen k name h = absurd (h refl)
planned-room (skipping m skipped depth) seen k name h = skip-room m skipped depth k name
planned-room finished seen k name h = refl

-- the act that Eof gives has room for an Attribute in its path
pub eof-room : (mode : Mode) (seen closed : Bool) → has_room (plan_eof mode seen closed) ≡ true
unfolding plan_eof
eof-room (at top) seen closed = one_of seen (cond closed stop (broken cause.EofInElement)) missing (one_of closed stop (broken cause.EofInElement) refl refl) refl
eof-room (at suite) seen closed = refl
eof-room (at case) seen closed = refl
eof-room (at status) seen closed = refl
eof-room (gathering l o) seen closed = refl
eof-room (listing l) seen closed = refl
eof-room (skipping m skipped depth) seen closed = refl
eof-room finished seen closed = refl

-- the act that Fault gives has room for an Attribute in its path
pub fault-room : (mode : Mode) → has_room (plan_fault mode) ≡ true
unfolding plan_fault
fault-room (at l) = refl
fault-room (gathering l o) = refl
fault-room (listing l) = refl
fault-room (skipping m skipped depth) = refl
fault-room finished = refl
