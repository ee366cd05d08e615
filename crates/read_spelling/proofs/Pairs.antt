-- What a Start and an Empty of one name do, wherever the Empty is spelled out, and that its Start and End leave the control that it leaves. Assumes nothing.
use Prim.Native.Nat.{ℕ, suc}
use mathlib.Core.Bool.{Bool, true, false, cond, ◌&&◌}
use mathlib.Core.List.{List, []}
use mathlib.Core.Path.{◌≡◌, refl}
use borrow.Author.Tests.{not-true}
use lib.Dec.{eqb}
use Rattle.read_report.specs.of_names.Names.{same_bytes}
use Rattle.read_report.specs.of_names.Tags.{tag_of, testsuites, testsuite, testcase, properties, property, stack_trace, system-out, system-err}
use Rattle.read_report.proofs.of_names.NameLaws.{same_refl}
use Rattle.read_report.specs.of_table.Event.{Start, Empty, End, Tag}
use Rattle.read_report.specs.of_tree_status.declared.Tally.{Tally}
use Rattle.read_report.proofs.of_tree_report.EncodeLists.{and_left}
use Rattle.read_report.specs.of_read_state.Control.{Level, top, suite, case, status, Output, Mode, at, gathering, listing, skipping, finished}
use Rattle.read_report.specs.of_read_state.Control.{control, Act, pass, open_suite, open_case, open_status, open_text, close_text, open_list, read_property, is_status, or_skip, turn}
use Rattle.read_report.specs.of_read_rules.Rules.{outputs, emptied, at_top, at_suite, at_case, child, at_status, tag_of_output, in_text, in_list_of, in_skip, plan_at}
use Rattle.read_spelling.specs.Spelling.{control_after, is_spelled}

-- the acts of a Start and of an Empty
pub data Pair (seen : Bool) (name : List ℕ) : Mode → Act → Act → Type 0 where
  -- both passed over, as the End is
  passes : {m : Mode} → plan_at m seen End name ≡ pass m → Pair seen name m (pass m) (pass m)
  unknown : {l : Level} → Pair seen name (at l) (pass (skipping (at l) name 0)) (pass (at l))
  deeper : {m : Mode} {skipped : List ℕ} {depth : ℕ} → same_bytes name skipped ≡ true
      → Pair seen name (skipping m skipped depth) (pass (skipping m skipped (suc depth))) (pass (skipping m skipped depth))
  lists : {l : Level} → eqb (tag_of name) properties ≡ true → Pair seen name (at l) (open_list l false) (open_list l true)
  texts : {l : Level} {o : Output} → eqb (tag_of name) (tag_of_output o) ≡ true → Pair seen name (at l) (open_text l o) (close_text l o)
  suites : eqb (tag_of name) testsuite ≡ true → Pair seen name (at top) (open_suite false) (open_suite true)
  cases : eqb (tag_of name) testcase ≡ true → Pair seen name (at suite) (open_case false) (open_case true)
  statuses : {κ : ℕ} → is_status (tag_of name) ≡ true → Pair seen name (at case) (open_status κ false) (open_status κ true)
  reads : {l : Level} → Pair seen name (listing l) (read_property l false name) (read_property l true name)

-- ---- by where the tag stands
module _ {seen : Bool} {name : List ℕ} {m : Mode} where
  choose : {a b d e : Act} (t : Bool) → (t ≡ true → Pair seen name m a d) → (t ≡ false → Pair seen name m b e) → Pair seen name m (cond t a b) (cond t d e)
  choose true f g = f refl
  choose false f g = g refl

module _ (seen : Bool) (name : List ℕ) where
  outputs-pair : (l : Level) → Pair seen name (at l) (outputs l name) (emptied l name)
  unfolding outputs emptied or_skip
  outputs-pair l = choose (eqb (tag_of name) system-out) (λ e. texts e) (λ u. choose (eqb (tag_of name) system-err) (λ e. texts e) (λ v. unknown))

  -- an End that isn't the report's own
  top-passes : eqb (tag_of name) testsuites ≡ false → plan_at (at top) seen End name ≡ pass (at top)
  unfolding plan_at at_top
  top-passes e = rw e refl

  top-pair : eqb (tag_of name) testsuites ≡ false → Pair seen name (at top) (at_top seen Start (tag_of name)) (at_top seen Empty (tag_of name))
  unfolding at_top
  top-pair e = rw e (choose (eqb (tag_of name) testsuite && seen) (λ s. suites (and_left (eqb (tag_of name) testsuite) seen s)) (λ u. passes (top-passes e)))

  suite-pair : Pair seen name (at suite) (at_suite Start name) (at_suite Empty name)
  unfolding at_suite
  suite-pair = choose (eqb (tag_of name) testcase) (λ e. cases e) (λ u. choose (eqb (tag_of name) properties) (λ e. lists e) (λ v. outputs-pair suite))

  case-pair : Pair seen name (at case) (at_case Start name) (at_case Empty name)
  unfolding at_case
  case-pair = choose (is_status (tag_of name)) (λ e. statuses e) (λ u. choose (eqb (tag_of name) properties) (λ e. lists e) (λ v. outputs-pair case))

  status-pair : Pair seen name (at status) (at_status Start name) (at_status Empty name)
  unfolding at_status child
  status-pair = choose (eqb (tag_of name) stack_trace) (λ e. texts e) (λ u. outputs-pair status)

  text-pair : (l : Level) (o : Output) → eqb (tag_of name) (tag_of_output o) ≡ false → Pair seen name (gathering l o) (in_text l o Start (tag_of name)) (in_text l o Empty (tag_of name))
  unfolding plan_at in_text
  text-pair l o e = passes {m = gathering l o} (rw e refl)

  list-pair : (l : Level) → eqb (tag_of name) properties ≡ false → Pair seen name (listing l) (in_list_of l Start name) (in_list_of l Empty name)
  unfolding plan_at in_list_of
  list-pair l e = choose (eqb (tag_of name) property) (λ p. reads) (λ u. passes {m = listing l} (rw e refl))

  skip-pair : (m : Mode) (skipped : List ℕ) (depth : ℕ) → Pair seen name (skipping m skipped depth) (in_skip m skipped depth Start name) (in_skip m skipped depth Empty name)
  unfolding plan_at in_skip
  skip-pair m skipped depth = go (same_bytes name skipped) refl
    where
      go : (t : Bool) → same_bytes name skipped ≡ t → Pair seen name (skipping m skipped depth) (pass (skipping m skipped (cond t (suc depth) depth))) (pass (skipping m skipped depth))
      go true e = deeper e
      go false e = passes {m = skipping m skipped depth} (rw e refl)

  -- wherever an Empty is spelled out its act and its Start's are such a pair
  pub pair : (m : Mode) → is_spelled m name ≡ true → Pair seen name m (plan_at m seen Start name) (plan_at m seen Empty name)
  unfolding plan_at
  pair (at top) h = top-pair (not-true (eqb (tag_of name) testsuites) h)
  pair (at suite) h = suite-pair
  pair (at case) h = case-pair
  pair (at status) h = status-pair
  pair (gathering l o) h = text-pair l o (not-true (eqb (tag_of name) (tag_of_output o)) h)
  pair (listing l) h = list-pair l (not-true (eqb (tag_of name) properties) h)
  pair (skipping m skipped depth) h = skip-pair m skipped depth
  pair finished h = passes refl

-- ---- the control
pub turns : {seen : Bool} {name : List ℕ} {m : Mode} {a e : Act} (closed : Bool) (t : Tally) → Pair seen name m a e
    → control_after (Tag End name 0 []) (turn a (control m seen closed t)) ≡ turn e (control m seen closed t)
unfolding turn plan_at at_top at_suite at_case at_status in_text in_list_of in_skip
turns closed t (passes e) = rw e refl
turns {name = name} closed t unknown = rw (same_refl name) refl
turns closed t (deeper e) = rw e refl
turns closed t (lists e) = rw e refl
turns closed t (texts e) = rw e refl
turns closed t (suites e) = rw e refl
turns closed t (cases e) = rw e refl
turns closed t (statuses e) = rw e refl
turns {name = name} closed t reads = rw (same_refl name) refl
