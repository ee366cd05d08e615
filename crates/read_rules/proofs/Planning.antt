-- What the rules come to where the code tests them. Assumes nothing.
use Prim.Native.Nat.{ℕ, zero, suc, ◌≤◌, ◌<◌}
use mathlib.Core.Bool.{Bool, true, false, cond, ◌&&◌}
use mathlib.Core.List.{List}
use mathlib.Core.Path.{◌≡◌, refl}
use native.Mathlib.Omega.{arith}
use borrow.Author.Tests.{lt-ltb, leb-true}
use lib.Dec.{leb, ltb, eqb}
use Rattle.read_children.specs.of_names.Tags.{tag_of}
use Rattle.read_children.specs.of_table.Event.{Start, Empty, End, tag_kind}
use Rattle.read_children.specs.of_read_state.Control.{Level, top, suite, case, status, Output, at, gathering, listing, pass, open_report, open_suite}
use Rattle.read_children.specs.of_read_state.Control.{open_case, open_status, close_text, open_list, read_property, stop, missing, broken, is_status}
use Rattle.read_rules.specs.Rules.{outputs, emptied, at_top, at_suite, at_case, tag_of_output, in_text, in_list_of, plan_eof}
pub use Rattle.read_children.proofs.Children.{kind_end}
use Rattle.read_children.proofs.of_read_state.Turning.{opening_other}
use Rattle.read_children.specs.of_read_state.inside.Coded.{mode_at, is_top, opening}
use Rattle.read_children.specs.of_read_state.declared.Mode.{Mode as CodedMode}
use Rattle.read_children.specs.of_read_state.declared.Mode.TheVariants.{At, Text, List as Listing}
use Rattle.read_children.specs.of_refusal.declared.Cause.TheVariants as cause

pub kind-above : (k : ℕ) → 1 < k → tag_kind k ≡ End
kind-above k h = kind_end k (λ e. omega arith) (λ e. omega arith)

-- Start and Empty alike
pub top_opens : (seen empty : Bool) (t : ℕ) → at_top seen (cond empty Empty Start) t ≡ cond (eqb t 1) (open_report empty) (cond (eqb t 2 && seen) (open_suite empty) (pass (at top)))
unfolding at_top
top_opens seen true t = refl
top_opens seen false t = refl

pub suite_opens : (empty : Bool) (name : List ℕ)
    → at_suite (cond empty Empty Start) name ≡ cond (eqb (tag_of name) 3) (open_case empty) (cond (eqb (tag_of name) 4) (open_list suite empty) (cond empty (emptied suite name) (outputs suite name)))
unfolding at_suite
suite_opens true name = refl
suite_opens false name = refl

pub case_opens : (empty : Bool) (name : List ℕ) → at_case (cond empty Empty Start) name
    ≡ cond (is_status (tag_of name)) (open_status (tag_of name) empty) (cond (eqb (tag_of name) 4) (open_list case empty) (cond empty (emptied case name) (outputs case name)))
unfolding at_case
case_opens true name = refl
case_opens false name = refl

pub list_opens : (l : Level) (empty : Bool) (name : List ℕ) → in_list_of l (cond empty Empty Start) name ≡ cond (eqb (tag_of name) 5) (read_property l empty name) (pass (listing l))
unfolding in_list_of
list_opens l true name = refl
list_opens l false name = refl

-- a text is closed by an End of its name
pub text_closes : (l : Level) (o : Output) (k t : ℕ) → in_text l o (tag_kind k) t ≡ cond (ltb 1 k && eqb t (tag_of_output o)) (close_text l o) (pass (gathering l o))
unfolding in_text
text_closes l o zero t = refl
text_closes l o (suc zero) t = refl
text_closes l o (suc (suc k)) t =
    rw (kind-above (suc (suc k)) (omega arith), lt-ltb 1 (suc (suc k)) (omega arith)) refl

-- Eof by whether an element inside the report is open
pub eof_plans : (m : CodedMode) (l : Level) (o : Output) (seen closed : Bool)
    → plan_eof (mode_at m l o) seen closed ≡ cond (is_top (mode_at m l o)) (cond seen (cond closed stop (broken cause.EofInElement)) missing) (broken cause.EofInElement)
unfolding plan_eof
eof_plans At top o seen closed = refl
eof_plans At suite o seen closed = refl
eof_plans At case o seen closed = refl
eof_plans At status o seen closed = refl
eof_plans Text l o seen closed = refl
eof_plans Listing l o seen closed = refl

-- the codes of the status names
status-from : (a b : Bool) → (a && b) ≡ true → a ≡ true
status-from true b e = refl
status-from false b e = e

status-to : (a b : Bool) → (a && b) ≡ true → b ≡ true
status-to true b e = e
status-to false true e = refl
status-to false false e = e

status-least : (t : ℕ) → is_status t ≡ true → 6 ≤ t
status-least t e = leb-true 6 t (status-from (leb 6 t) (leb t 12) e)

pub status_most : (t : ℕ) → is_status t ≡ true → t ≤ 12
status_most t e = leb-true t 12 (status-to (leb 6 t) (leb t 12) e)

pub opening_status : (t : ℕ) (e : Bool) → is_status t ≡ true → opening t e ≡ open_status t e
opening_status t e s =
    let h : 6 ≤ t = status-least t s in
    opening_other t e (λ x. omega arith) (λ x. omega arith) (λ x. omega arith)
