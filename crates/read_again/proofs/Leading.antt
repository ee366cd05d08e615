-- Where a tag leads inside a status element, in the code's words. Assumes nothing.
use Prim.Native.Nat.{ℕ}
use mathlib.Core.Path.{◌≡◌, refl, sym, ap}
use mathlib.Core.List.{List, []}
use mathlib.Core.Bool.{Bool, true, false, cond}
use lib.Dec.{eqb}
use Rattle.read_pieces.specs.of_names.Tags.{tag_of}
use Rattle.read_pieces.specs.of_table.Event.{TagKind}
use Rattle.read_pieces.specs.of_read_rules.Rules.{at_status, in_text, in_list_of, plan_at}
use Rattle.read_pieces.specs.of_read_state.Control.{status, Output, Mode, at, gathering, listing, skipping, open_report, open_suite, open_case, open_status, or_skip}
use Rattle.read_pieces.specs.of_read_state.inside.Coded.{output_of, mode_at, act_in}
use Rattle.read_pieces.specs.of_read_state.declared.Mode.{Mode as CodedMode}
use Rattle.read_pieces.specs.of_read_state.declared.Mode.TheVariants.{At, Text, List as Listing}
use Rattle.read_pieces.specs.of_read_state.declared.Output.{Output as CodedOutput}
use Rattle.read_pieces.specs.of_read_state.declared.Act.{Act as CodedAct}
use Rattle.read_pieces.specs.of_read_state.declared.Act.TheVariants.{Skip, Open, Close, OpenText, CloseText, CloseList}
use Rattle.read_again.specs.Told.{along}

module _ (name : List ℕ) (o : Output) (f : Mode → List ℕ) where
  abbrev led : CodedMode → CodedAct → List ℕ
  led m a = along (act_in (mode_at m status o) name a) f

  pub led-skip : (m : CodedMode) → led m Skip ≡ f (skipping (at status) name 0)
  unfolding or_skip
  led-skip At = refl
  led-skip Text = refl
  led-skip Listing = refl

  pub led-open : (m : CodedMode) (p : CodedOutput) → led m (OpenText p) ≡ f (gathering status (output_of p))
  led-open At p = refl
  led-open Text p = refl
  led-open Listing p = refl

  pub led-close : (m : CodedMode) (p : CodedOutput) → led m (CloseText p) ≡ f (at status)
  led-close At p = refl
  led-close Text p = refl
  led-close Listing p = refl

  pub led-listed : (m : CodedMode) → led m CloseList ≡ f (at status)
  led-listed At = refl
  led-listed Text = refl
  led-listed Listing = refl

  pub led-ends : (m : CodedMode) → led m Close ≡ []
  led-ends At = refl
  led-ends Text = refl
  led-ends Listing = refl

  pub led-opens : (m : CodedMode) (k : ℕ) (e : Bool) → led m (Open k e) ≡ []
  led-opens m k e = go (eqb k 1) (eqb k 2) (eqb k 3)
    where
      go : (t u v : Bool) → along (cond t (open_report e) (cond u (open_suite e) (cond v (open_case e) (open_status k e)))) f ≡ []
      go true u v = refl
      go false true v = refl
      go false false true = refl
      go false false false = refl

-- ---- the plan inside a status element
pub status-plan : (k : TagKind) (name : List ℕ) → at_status k name ≡ plan_at (at status) true k name
unfolding plan_at
status-plan k name = refl

pub text-plan : (o : Output) (k : TagKind) (name : List ℕ) (tag : ℕ) → tag_of name ≡ tag → in_text status o k tag ≡ plan_at (gathering status o) true k name
unfolding plan_at
text-plan o k name tag e = ap (in_text status o k) (sym e)

pub list-plan : (k : TagKind) (name : List ℕ) → in_list_of status k name ≡ plan_at (listing status) true k name
unfolding plan_at
list-plan k name = refl
