use mathlib.Core.Bool.{Bool}
use mathlib.Core.List.{List}
use mathlib.Core.Logic.{◌⊎◌, inl, inr}
use mathlib.Core.Path.{◌≡◌, refl}
use Prim.Native.Nat.{ℕ}
use Rattle.read_pieces.specs.of_refusal.declared.Cause.{Cause}
use Rattle.read_pieces.specs.of_read_state.inside.Coded.{output_of}
use Rattle.read_pieces.specs.of_read_state.declared.Act.{Act}
use Rattle.read_pieces.specs.of_read_state.declared.Act.TheVariants as act
use Rattle.read_pieces.specs.of_read_state.declared.Mode.{Mode}
use Rattle.read_pieces.specs.of_read_state.declared.Mode.TheVariants.{At}
use Rattle.read_pieces.specs.of_read_state.declared.Output.{Output}
use Rattle.read_again.specs.declared.Led.TheVariants as led
use Rattle.read_again.specs.inside.Turns.{LedBy}
use Rattle.read_again.proofs.Leading.{led-skip, led-open, led-close, led-listed, led-ends, led-opens}
use Rattle.read_again.proofs.led_by.Goals as goal

closes : (m : Mode) (o : Output) (name : List ℕ) (a : Act) → ((x : Output) × (a ≡ act.CloseText x)) ⊎ (a ≡ act.CloseList) → LedBy m o a name (led.To At o)
closes m o name a (inl x) = λ f. rw x.1 (led-close name (output_of o) f m x.0)
closes m o name a (inr e) = λ f. rw e (led-listed name (output_of o) f m)

ends : (m : Mode) (o : Output) (name : List ℕ) (a : Act)
    → ((x : ℕ) × (y : Bool) × (a ≡ act.Open x y)) ⊎ ((a ≡ act.Close) ⊎ (((x : Bool) × (a ≡ act.OpenList x)) ⊎ (((x : Bool) × (a ≡ act.ReadProperty x))
    ⊎ ((a ≡ act.Stop) ⊎ ((a ≡ act.Missing) ⊎ ((x : Cause) × (a ≡ act.Broken x)))))))
    → LedBy m o a name led.End
ends m o name a (inl x) = λ f. rw x.2 (led-opens name (output_of o) f m x.0 x.1)
ends m o name a (inr (inl e)) = λ f. rw e (led-ends name (output_of o) f m)
ends m o name a (inr (inr (inl x))) = λ f. rw x.1 refl
ends m o name a (inr (inr (inr (inl x)))) = λ f. rw x.1 refl
ends m o name a (inr (inr (inr (inr (inl e))))) = λ f. rw e refl
ends m o name a (inr (inr (inr (inr (inr (inl e)))))) = λ f. rw e refl
ends m o name a (inr (inr (inr (inr (inr (inr x)))))) = λ f. rw x.1 refl

pub returns-in-Pass : goal.returns-in-Pass
returns-in-Pass c = λ name f. rw c.in-Pass.is refl

pub returns-in-Skip : goal.returns-in-Skip
returns-in-Skip c = λ name f. rw c.in-Skip.is (led-skip name (output_of c.args.output) f c.args.mode)

pub returns-in-OpenText : goal.returns-in-OpenText
returns-in-OpenText c = λ name f. rw c.in-OpenText.is (led-open name (output_of c.args.output) f c.args.mode c.in-OpenText.o)

pub returns-in-CloseText : goal.returns-in-CloseText
returns-in-CloseText c = λ name. closes c.args.mode c.args.output name c.args.act c.in-CloseText.is

pub returns-in-Open : goal.returns-in-Open
returns-in-Open c = λ name. ends c.args.mode c.args.output name c.args.act c.in-Open.is
