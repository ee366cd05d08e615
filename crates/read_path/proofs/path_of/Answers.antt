use mathlib.Core.Bool.{Bool}
use mathlib.Core.List.{List}
use mathlib.Core.Logic.{◌⊎◌, inl, inr}
use mathlib.Core.Path.{◌≡◌}
use Prim.Native.Nat.{ℕ}
use Rattle.read_rules.specs.of_refusal.declared.Path.{Path}
use Rattle.read_place.specs.inside.Coded.{marks_of}
use Rattle.read_place.specs.Marks.{Marks}
use Rattle.read_path.proofs.Leading.{inside}
use Rattle.read_place.specs.of_read_state.inside.Coded.{output_of, mode_of, act_of}
use Rattle.read_place.specs.of_read_state.declared.Act.{Act}
use Rattle.read_place.specs.of_read_state.declared.Act.TheVariants as act
use Rattle.read_place.specs.of_read_state.declared.Control.{Control}
use Rattle.read_place.specs.of_read_state.declared.Output.{Output}
use Rattle.read_place.specs.of_read_state.Control.{Level, close_text, read_property, or_skip}
use Rattle.read_path.specs.Paths.{path_of, root}
use Rattle.read_path.specs.inside.Coded.{Leads}
use Rattle.read_path.proofs.path_of.Goals as goal

-- the acts that aren't refused
rooted : (a : Act) (name : List ℕ) (k : Control) (m : Marks) {p : Path} → Leads p root
    → (a ≡ act.Pass) ⊎ ((a ≡ act.Skip) ⊎ (((o : Output) × (a ≡ act.OpenText o)) ⊎ (((e : Bool) × (a ≡ act.OpenList e)) ⊎ ((a ≡ act.CloseList) ⊎ (a ≡ act.Stop)))))
    → Leads p (path_of (act_of k name a) (mode_of k) m)
unfolding or_skip
rooted a name k m h (inl e) = rw e h
rooted a name k m h (inr (inl e)) = rw e h
rooted a name k m h (inr (inr (inl x))) = rw x.1 h
rooted a name k m h (inr (inr (inr (inl x)))) = rw x.1 h
rooted a name k m h (inr (inr (inr (inr (inl e))))) = rw e h
rooted a name k m h (inr (inr (inr (inr (inr e))))) = rw e h

pub returns-in-CloseText : goal.returns-in-CloseText
returns-in-CloseText c =
    let args = c.args in
    λ name. rw c.in-CloseText.is (inside (λ (l : Level). path_of (close_text l (output_of c.in-CloseText.output)) (mode_of args.control) (marks_of args.m))
    args.control (c.text_path.ensures (mode_of args.control)))

pub returns-in-ReadProperty : goal.returns-in-ReadProperty
returns-in-ReadProperty c = λ name. rw c.in-ReadProperty.is
    (inside (λ (l : Level). path_of (read_property l c.in-ReadProperty.field-0 name) (mode_of c.args.control) (marks_of c.args.m))
    c.args.control (c.property_path.ensures c.in-ReadProperty.field-0 name (mode_of c.args.control)))

pub returns-in-Pass : goal.returns-in-Pass
returns-in-Pass c = λ name. rooted c.args.act name c.args.control (marks_of c.args.m) c.root.ensures c.in-Pass.is
