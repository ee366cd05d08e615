-- What the calls that end a text do. Definitions only.
use Rattle.std.specs.Prelude.{ℕ, ◌≡◌, List, length}
use Rattle.read_content.specs.of_refusal.Refusal.{nowhere}
use Rattle.read_content.specs.of_read_element.Outcome.{Place, Rooms}
use Rattle.read_content.specs.of_read_state.Control.{Level, case, status, Output, at, gathering}
use Rattle.read_content.specs.of_read_place.Marks.{Marks}
use Rattle.read_content.specs.Content.{Content, describing, outputting}
use Rattle.read_content.specs.declared.Content.{Content as CodedContent}
use Rattle.read_content.specs.of_read_element.inside.Refines.{Areas}
use Rattle.read_content.specs.inside.Holds.{Performed, Holds, Lists, Sized, Performs}

-- the open description, if no child's text was put over it, is put into record i, as `describing` says, and reading goes on in the case
abbrev pub ClosesStatus : ℕ → CodedContent → (before after : Areas) (scratch : List ℕ) → Performed → Type 0
ClosesStatus i c before after scratch r =
    (rooms : Rooms) (p : Place) (s : Content) (m : Marks) (attributes source : List ℕ) → m.status_at_of ≡ i → p.attribute ≡ nowhere
    → c.child ≡ c.description
    → Holds before.records before.text scratch attributes source c s
    → Lists (at status) m c s
    → Sized rooms (length before.records) (length before.text) (length scratch)
    → Performs (at case) m p after.records after.text scratch attributes source (describing rooms p m s) r

-- the text of a child is put into the open element's record, as `outputting` says, and reading goes on in the element
abbrev pub ClosesText : Level → Output → Marks → CodedContent → (before after : Areas) (scratch : List ℕ) → Performed → Type 0
ClosesText l o m c before after scratch r =
    (rooms : Rooms) (p : Place) (s : Content) (attributes source : List ℕ) → p.attribute ≡ nowhere
    → Holds before.records before.text scratch attributes source c s
    → Lists (gathering l o) m c s
    → Sized rooms (length before.records) (length before.text) (length scratch)
    → Performs (at l) m p after.records after.text scratch attributes source (outputting rooms p l o m s) r
