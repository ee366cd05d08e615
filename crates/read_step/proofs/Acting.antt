-- One action of the machine, by what its performing comes to. Assumes nothing.
use Prim.Native.Nat.{ℕ}
use mathlib.Core.Path.{◌≡◌, refl, ap}
use mathlib.Core.List.{List, []}
use lib.ListN.{length}
use Rattle.read_actions.specs.of_refusal.Refusal.{Refused, Outcome, accepted, refused}
use Rattle.read_actions.specs.of_table.Event.{Attribute}
use Rattle.read_actions.specs.of_read_element.Outcome.{◌>>=◌, Place, Rooms}
use Rattle.read_actions.specs.of_read_element.Attributes.{read_attributes, read_element}
use Rattle.read_actions.specs.of_read_state.Control.{Control, Act, pass, open_report, open_suite, open_case, open_status, close_suite, close_case}
use Rattle.read_actions.specs.of_read_state.Control.{close_status, open_text, close_text, open_list, read_property, stop, missing, broken, turn}
use Rattle.read_actions.specs.of_read_place.Marks.{Marks, marks_after, onward}
use Rattle.read_again.specs.of_read_path.Paths.{act_place}
use Rattle.read_actions.specs.of_read_content.Content.{Content, adding, perform}
use Rattle.read_again.specs.of_read_machine.Machine.{Machine, act}

-- the machine behind an action that leaves a content
abbrev pub behind : Act → Machine → Content → Machine
behind a s c = record { control = turn a s.control; content = c; marks = onward (marks_after a (length s.content.records) s.marks) }

module _ (rooms : Rooms) (a : Act) (j : ℕ) (xs : List Attribute) (s : Machine) where
  abbrev performed : Outcome Content
  performed = perform rooms (act_place a s.control.mode s.marks) a j xs s.control s.marks s.content

  pub act-goes : (c : Content) → performed ≡ accepted c → act rooms a j xs s ≡ accepted (behind a s c)
  unfolding act ◌>>=◌
  act-goes c e = ap (λ (o : Outcome Content). o >>= λ c. accepted (behind a s c)) e

  pub act-refuses : (r : Refused) → performed ≡ refused r → act rooms a j xs s ≡ refused r
  unfolding act ◌>>=◌
  act-refuses r e = ap (λ (o : Outcome Content). o >>= λ c. accepted (behind a s c)) e

-- without attributes the number of the first isn't looked at (rule T11)
perform-none : (rooms : Rooms) (p : Place) (a : Act) (i j : ℕ) (k : Control) (m : Marks) (c : Content) → perform rooms p a i [] k m c ≡ perform rooms p a j [] k m c
unfolding perform adding read_element read_attributes
perform-none rooms p (pass n) i j k m c = refl
perform-none rooms p (open_report e) i j k m c = refl
perform-none rooms p (open_suite e) i j k m c = refl
perform-none rooms p (open_case e) i j k m c = refl
perform-none rooms p (open_status s e) i j k m c = refl
perform-none rooms p close_suite i j k m c = refl
perform-none rooms p close_case i j k m c = refl
perform-none rooms p close_status i j k m c = refl
perform-none rooms p (open_text l o) i j k m c = refl
perform-none rooms p (close_text l o) i j k m c = refl
perform-none rooms p (open_list l e) i j k m c = refl
perform-none rooms p (read_property l e name) i j k m c = refl
perform-none rooms p stop i j k m c = refl
perform-none rooms p missing i j k m c = refl
perform-none rooms p (broken n) i j k m c = refl

pub act-none : (rooms : Rooms) (a : Act) (i j : ℕ) (s : Machine) → act rooms a i [] s ≡ act rooms a j [] s
unfolding act
act-none rooms a i j s = ap (λ (o : Outcome Content). o >>= λ c. accepted (behind a s c)) (perform-none rooms (act_place a s.control.mode s.marks) a i j s.control s.marks s.content)
