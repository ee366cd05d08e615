-- What an action's calls ask and do. Definitions only.
use Rattle.std.specs.Prelude.{ℕ, ◌*◌, ◌≤◌, ◌≡◌, List, length}
use Rattle.read_texts.specs.of_refusal.Refusal.{nowhere}
use Rattle.read_texts.specs.of_table.Event.{Attribute}
use Rattle.read_texts.specs.of_tree_status.declared.Tally.{Tally}
use Rattle.read_texts.specs.of_read_element.Outcome.{Place, Rooms}
use Rattle.read_texts.specs.of_read_attribute.declared.Range.{Range}
use Rattle.read_texts.specs.of_read_each.inside.Promises.{attributes_in}
use Rattle.read_texts.specs.of_read_state.Control.{Level, Mode, at, Control, turn}
use Rattle.read_texts.specs.of_read_state.inside.Coded.{mode_of, control_of, closing, act_of, turned}
use Rattle.read_texts.specs.of_read_state.declared.Act.{Act as CodedAct}
use Rattle.read_texts.specs.of_read_state.declared.Act.TheVariants.{Close}
use Rattle.read_texts.specs.of_read_state.declared.Control.{Control as CodedControl}
use Rattle.read_texts.specs.of_read_place.Marks.{Marks, marks_after}
use Rattle.read_texts.specs.of_read_content.Content.{Content, perform}
use Rattle.read_texts.specs.of_read_content.declared.Content.{Content as CodedContent}
use Rattle.read_texts.specs.of_read_element.inside.Refines.{Table, Areas}
use Rattle.read_texts.specs.of_read_content.inside.Holds.{Performed, Holds, Lists, Carries, Sized, Performs}

-- the open element of that level is closed, as `perform` says
abbrev pub Closes : Level → Tally → Marks → CodedContent → (before after : Areas) (scratch : List ℕ) → Performed → Type 0
Closes l tally m c before after scratch r =
    (rooms : Rooms) (p : Place) (s : Content) (k : Control) (j : ℕ) (xs : List Attribute) (attributes source : List ℕ) → p.attribute ≡ nowhere
    → k.tally ≡ tally
    → c.child ≡ c.description
    → Holds before.records before.text scratch attributes source c s
    → Lists (at l) m c s
    → Sized rooms (length before.records) (length before.text) (length scratch)
    → Performs (turn (closing l) k).mode (marks_after (closing l) (length s.records) m) p after.records after.text scratch attributes source
    (perform rooms p (closing l) j xs k m s) r

-- the range lies in the table, there are at most 16,777,216 bytes for texts, and the areas hold some content in that mode
abbrev pub ReadyIn : Mode → Marks → Range → CodedContent → Table → Areas → (scratch : List ℕ) → Type 0
ReadyIn mode m range c t a scratch =
    (range.first ≤ range.end)
    × ((range.end * 5 ≤ length t.attributes)
    × ((range.end ≤ 65536)
    × ((length a.text ≤ 16777216)
    × Carries mode m a.records a.text scratch t.attributes t.source c)))

-- an action is done with the attributes of a range, as `perform` says, and reading goes on where it leads; where an element is closed, no
-- description is lost
abbrev pub PerformsAct : CodedAct → Range → CodedControl → Marks → CodedContent → Table → (before after : Areas) (scratch : List ℕ) → Performed → Type 0
PerformsAct act range control m c t before after scratch r =
    (rooms : Rooms) (p : Place) (s : Content) (name : List ℕ) → p.attribute ≡ nowhere
    → (act ≡ Close → c.child ≡ c.description)
    → Holds before.records before.text scratch t.attributes t.source c s
    → Lists (mode_of control) m c s
    → Sized rooms (length before.records) (length before.text) (length scratch)
    → Performs (turned act name control).mode (marks_after (act_of control name act) (length s.records) m) p after.records after.text scratch t.attributes t.source
    (perform rooms p (act_of control name act) range.first (attributes_in t range) (control_of control) m s) r
