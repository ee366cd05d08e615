-- What closing an element comes to. Assumes nothing.
use Rattle.std.specs.Prelude.{Ok, Err}
use Prim.Native.Nat.{ℕ}
use mathlib.Core.Path.{◌≡◌, refl}
use mathlib.Core.Bool.{true, false}
use mathlib.Core.List.{List}
use lib.ListN.{length}
use mathlib.Core.Logic.{◌⊎◌, inl, inr}
use Rattle.read_texts.specs.of_read_state.declared.Level.{Level as CodedLevel}
use Rattle.read_texts.specs.of_read_state.declared.Level.TheVariants.{Top, Suite}
use Rattle.read_texts.specs.of_refusal.Refusal.{nowhere}
use Rattle.read_texts.specs.of_refusal.declared.Cause.TheVariants.{StatusRule}
use Rattle.read_texts.specs.of_table.Event.{Attribute}
use Rattle.read_texts.specs.of_tree_status.Status.{ruled}
use Rattle.read_texts.specs.of_read_element.Outcome.{Place, Rooms, need}
use Rattle.read_texts.specs.of_read_state.Control.{top, suite, case, status, at, Control, turn}
use Rattle.read_texts.specs.of_read_state.inside.Coded.{level_of, closing}
use Rattle.read_texts.specs.of_read_place.Marks.{Marks, marks_after}
use Rattle.read_texts.specs.of_read_content.Content.{Content, describing, perform}
use Rattle.read_texts.specs.of_read_element.inside.Refines.{went}
use Rattle.read_texts.specs.of_read_content.inside.Holds.{Performed, Holds, Lists, Performs, fault_of}
use Rattle.read_texts.specs.of_read_content.declared.Content.{Content as CodedContent}
use Rattle.read_texts.proofs.of_read_content.Refusing.{halts}

module _ (p : Place) (k : Control) (m : Marks) (rooms : Rooms) (j : ℕ) (xs : List Attribute) (c : CodedContent) (s : Content) {words text scratch attributes source : List ℕ} where
  closed-top : Holds words text scratch attributes source c s → Lists (at top) m c s
      → Performs (turn (closing top) k).mode (marks_after (closing top) (length s.records) m) p words text scratch attributes source (perform rooms p (closing top) j xs k m s) (Ok c)
  unfolding turn marks_after perform
  closed-top hd li = went (hd, li)

  closed-suite : Holds words text scratch attributes source c s → Lists (at suite) m c s
      → Performs (turn (closing suite) k).mode (marks_after (closing suite) (length s.records) m) p words text scratch attributes source (perform rooms p (closing suite) j xs k m s) (Ok c)
  unfolding turn marks_after perform
  closed-suite hd li = went (hd, (tt, li.1))

  -- the report and a suite, as the code takes them together
  pub closed-outer : {l : CodedLevel} → (l ≡ Top) ⊎ (l ≡ Suite) → Holds words text scratch attributes source c s → Lists (at (level_of l)) m c s
      → Performs (turn (closing (level_of l)) k).mode (marks_after (closing (level_of l)) (length s.records) m) p words text scratch attributes source
      (perform rooms p (closing (level_of l)) j xs k m s) (Ok c)
  closed-outer (inl e) hd li = rw e (closed-top hd (rw e at li))
  closed-outer (inr e) hd li = rw e (closed-suite hd (rw e at li))

  pub closed-case : ruled k.tally ≡ true → Holds words text scratch attributes source c s → Lists (at case) m c s
      → Performs (turn (closing case) k).mode (marks_after (closing case) (length s.records) m) p words text scratch attributes source (perform rooms p (closing case) j xs k m s) (Ok c)
  unfolding turn marks_after perform need
  closed-case e hd li = rw e (went (hd, (li.0.0, li.1)))

  -- the status rule (20)
  pub closed-not : {r : Performed} → ruled k.tally ≡ false → p.attribute ≡ nowhere → r ≡ Err (fault_of StatusRule)
      → Performs (turn (closing case) k).mode (marks_after (closing case) (length s.records) m) p words text scratch attributes source (perform rooms p (closing case) j xs k m s) r
  unfolding perform need
  closed-not e pa q = halts p StatusRule pa (rw e refl) q

  pub closed-status : {r : Performed} → Performs (at case) m p words text scratch attributes source (describing rooms p m s) r
      → Performs (turn (closing status) k).mode (marks_after (closing status) (length s.records) m) p words text scratch attributes source (perform rooms p (closing status) j xs k m s) r
  unfolding turn marks_after perform
  closed-status f = f
