-- What the calls that read elements ask and do. Definitions only.
use Rattle.std.specs.Prelude.{ℕ, ◌*◌, ◌≤◌, ◌≡◌, List, [], Bool, true, length}
use Rattle.read_lists.specs.of_refusal.Refusal.{nowhere}
use Rattle.read_lists.specs.of_read_element.Outcome.{Place, Rooms}
use Rattle.read_lists.specs.of_read_attribute.declared.Range.{Range}
use Rattle.read_lists.specs.of_read_each.inside.Promises.{attributes_in}
use Rattle.read_lists.specs.of_read_state.Control.{Level, top, suite, case, at, listing, Control, turn}
use Rattle.read_lists.specs.of_read_state.inside.Coded.{opening}
use Rattle.read_lists.specs.of_read_place.Marks.{Marks, marks_after}
use Rattle.read_lists.specs.of_read_content.Content.{Content, kill_all, adding, with_records, property_kind, perform}
use Rattle.read_lists.specs.of_read_content.declared.Content.{Content as CodedContent}
use Rattle.read_lists.specs.of_read_element.inside.Refines.{Table, Areas}
use Rattle.read_lists.specs.of_read_content.inside.Holds.{Performed, Holds, Holding, Lists, Sized, Added, Comes, Performs, opens}

-- the range lies in the table, there are at most 16,777,216 bytes for texts, and the areas hold some content
abbrev pub Ready : Range → CodedContent → Table → Areas → Type 0
Ready range c t a =
    (range.first ≤ range.end)
    × ((range.end * 5 ≤ length t.attributes)
    × ((range.end ≤ 65536)
    × ((length a.text ≤ 16777216)
    × Holding a.records a.text t.attributes t.source c)))

-- an element of that kind is read behind the records, from the attributes of a range, as `adding` says
abbrev pub AddsElement : (kind : ℕ) → Range → CodedContent → Table → (before after : Areas) → Performed → Type 0
AddsElement kind range c t before after r =
    (rooms : Rooms) (p : Place) (s : Content) (scratch : List ℕ) → p.attribute ≡ nowhere
    → Holds before.records before.text scratch t.attributes t.source c s
    → Sized rooms (length before.records) (length before.text) (length scratch)
    → Comes (Added kind c s) p after.records after.text scratch t.attributes t.source
    (adding rooms p kind range.first (attributes_in t range) s) r

-- every record is marked dead, and a report is read behind them
abbrev pub OpensReport : Range → CodedContent → Table → (before after : Areas) → Performed → Type 0
OpensReport range c t before after r =
    (rooms : Rooms) (p : Place) (s : Content) (scratch : List ℕ) (m : Marks) → p.attribute ≡ nowhere
    → Holds before.records before.text scratch t.attributes t.source c s
    → Sized rooms (length before.records) (length before.text) (length scratch)
    → s.gathered ≡ []
    → Performs (at top) m p after.records after.text scratch t.attributes t.source
    (adding rooms p 1 range.first (attributes_in t range) (with_records s (kill_all s.records))) r

-- a suite is read behind the records, and has no properties yet
abbrev pub OpensSuite : Range → CodedContent → Table → (before after : Areas) → Performed → Type 0
OpensSuite range c t before after r =
    (rooms : Rooms) (p : Place) (s : Content) (scratch : List ℕ) (m : Marks) → p.attribute ≡ nowhere
    → Holds before.records before.text scratch t.attributes t.source c s
    → Sized rooms (length before.records) (length before.text) (length scratch)
    → s.gathered ≡ []
    → m.suite_at_of ≡ length s.records
    → Performs (at suite) m p after.records after.text scratch t.attributes t.source
    (adding rooms p 2 range.first (attributes_in t range) s) r

-- a case of the open suite is read behind the records, and has no properties yet
abbrev pub OpensCase : Range → CodedContent → Table → (before after : Areas) → Performed → Type 0
OpensCase range c t before after r =
    (rooms : Rooms) (p : Place) (s : Content) (scratch : List ℕ) (m : Marks) → p.attribute ≡ nowhere
    → Holds before.records before.text scratch t.attributes t.source c s
    → Sized rooms (length before.records) (length before.text) (length scratch)
    → Lists (at suite) m c s
    → m.case_at_of ≡ length s.records
    → Performs (at case) m p after.records after.text scratch t.attributes t.source
    (adding rooms p 3 range.first (attributes_in t range) s) r

-- an element of a kind that may open where reading stands is read, as `perform` says of its opening
abbrev pub OpensElement : (kind : ℕ) → Range → CodedContent → Table → (before after : Areas) → Performed → Type 0
OpensElement kind range c t before after r =
    (rooms : Rooms) (p : Place) (s : Content) (scratch : List ℕ) (k : Control) (m : Marks) (e : Bool) → p.attribute ≡ nowhere
    → opens kind k.mode ≡ true
    → Holds before.records before.text scratch t.attributes t.source c s
    → Lists k.mode m c s
    → Sized rooms (length before.records) (length before.text) (length scratch)
    → Performs (turn (opening kind e) k).mode (marks_after (opening kind e) (length s.records) m) p after.records after.text scratch t.attributes t.source
    (perform rooms p (opening kind e) range.first (attributes_in t range) k m s) r

-- a property of the open list is read behind the records, and counted in the list
abbrev pub ReadsProperty : Level → Range → CodedContent → Table → (before after : Areas) → Performed → Type 0
ReadsProperty l range c t before after r =
    (rooms : Rooms) (p : Place) (s : Content) (scratch : List ℕ) (m : Marks) → p.attribute ≡ nowhere
    → Holds before.records before.text scratch t.attributes t.source c s
    → Lists (listing l) m c s
    → Sized rooms (length before.records) (length before.text) (length scratch)
    → Performs (listing l) m p after.records after.text scratch t.attributes t.source
    (adding rooms p (property_kind l) range.first (attributes_in t range) s) r
