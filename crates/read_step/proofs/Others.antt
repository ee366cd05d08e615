-- The acts that a test of one act lets pass. Assumes nothing.
use mathlib.Core.Bool.{Bool, false}
use mathlib.Core.Path.{◌≡◌, refl}
use Rattle.read_actions.specs.of_read_state.declared.Act.{Act as CodedAct}
use Rattle.read_actions.specs.of_read_state.declared.Act.TheVariants.{Pass, Skip, Open, Close, OpenText, CloseText, OpenList, CloseList, ReadProperty, Stop, Missing, Broken}
use Rattle.read_step.specs.inside.Planned.{is_skip, is_stop, is_close, has_content}

pub other_skip : (a : CodedAct) → (a ≡ Skip → ⊥) → false ≡ is_skip a
other_skip Pass n = refl
other_skip Skip n = absurd (n refl)
other_skip (Open k e) n = refl
other_skip Close n = refl
other_skip (OpenText o) n = refl
other_skip (CloseText o) n = refl
other_skip (OpenList e) n = refl
other_skip CloseList n = refl
other_skip (ReadProperty e) n = refl
other_skip Stop n = refl
other_skip Missing n = refl
other_skip (Broken why) n = refl

pub other_stop : (a : CodedAct) → (a ≡ Stop → ⊥) → false ≡ is_stop a
other_stop Pass n = refl
other_stop Skip n = refl
other_stop (Open k e) n = refl
other_stop Close n = refl
other_stop (OpenText o) n = refl
other_stop (CloseText o) n = refl
other_stop (OpenList e) n = refl
other_stop CloseList n = refl
other_stop (ReadProperty e) n = refl
other_stop Stop n = absurd (n refl)
other_stop Missing n = refl
other_stop (Broken why) n = refl

pub other_close : (a : CodedAct) → (a ≡ Close → ⊥) → false ≡ is_close a
other_close Pass n = refl
other_close Skip n = refl
other_close (Open k e) n = refl
other_close Close n = absurd (n refl)
other_close (OpenText o) n = refl
other_close (CloseText o) n = refl
other_close (OpenList e) n = refl
other_close CloseList n = refl
other_close (ReadProperty e) n = refl
other_close Stop n = refl
other_close Missing n = refl
other_close (Broken why) n = refl

pub other_content : (a : CodedAct) → ((e : Bool) → a ≡ ReadProperty e → ⊥) → false ≡ has_content a
other_content Pass n = refl
other_content Skip n = refl
other_content (Open k e) n = refl
other_content Close n = refl
other_content (OpenText o) n = refl
other_content (CloseText o) n = refl
other_content (OpenList e) n = refl
other_content CloseList n = refl
other_content (ReadProperty e) n = absurd (n e refl)
other_content Stop n = refl
other_content Missing n = refl
other_content (Broken why) n = refl
