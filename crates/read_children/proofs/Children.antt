-- What the rules of children come to where the code tests them. Assumes nothing.
use Prim.Native.Nat.{ℕ}
use mathlib.Core.Bool.{Bool, true, false, cond}
use mathlib.Core.List.{List}
use mathlib.Core.Path.{◌≡◌, refl}
use borrow.Author.Tests.{ne_eqb}
use lib.Dec.{eqb}
use Rattle.names.specs.Tags.{tag_of}
use Rattle.table.specs.Event.{Start, Empty, End, tag_kind}
use Rattle.read_state.specs.Control.{Level, status, trace, out, err, open_text, close_text}
use Rattle.read_children.specs.Children.{outputs, emptied, child, at_status}

-- a tag that is neither Start nor Empty is an End (rule T3)
pub kind_end : (k : ℕ) → (k ≡ 0 → ⊥) → (k ≡ 1 → ⊥) → tag_kind k ≡ End
kind_end k a b = rw (ne_eqb k 0 a, ne_eqb k 1 b) refl

-- Start and Empty alike
pub status_opens : (empty : Bool) (name : List ℕ)
    → at_status (cond empty Empty Start) name ≡ cond (eqb (tag_of name) 13) (cond empty (close_text status trace) (open_text status trace)) (cond empty (emptied status name) (outputs status name))
unfolding at_status child
status_opens true name = refl
status_opens false name = refl

-- an output, opened or closed at once
pub child_out : (l : Level) (empty : Bool) (name : List ℕ) → tag_of name ≡ 14 → cond empty (close_text l out) (open_text l out) ≡ cond empty (emptied l name) (outputs l name)
unfolding emptied outputs
child_out l true name h = rw h refl
child_out l false name h = rw h refl

pub child_err : (l : Level) (empty : Bool) (name : List ℕ) → tag_of name ≡ 15 → cond empty (close_text l err) (open_text l err) ≡ cond empty (emptied l name) (outputs l name)
unfolding emptied outputs
child_err l true name h = rw h refl
child_err l false name h = rw h refl
