-- What the areas hold between events, and how the code's answers are those of the definitions. Definitions only.
use Rattle.std.specs.Prelude.{Result, Ok, Err, ℕ, zero, suc, ◌+◌, ◌*◌, ◌≤◌, ◌<◌, ◌≡◌, List, [], ◌∷◌, ◌++◌, Bool, true, false, not, ◌||◌, length, get_or, take, drop, leb, eqb}
use Rattle.trim.specs.of_area.Area.{zeros}
use Rattle.trim.specs.of_utf8.Characters.{joined}
use Rattle.trim.specs.of_refusal.Refusal.{nowhere, Outcome}
use Rattle.trim.specs.of_refusal.declared.Cause.{Cause}
use Rattle.read_attributes.specs.of_read_element.Outcome.{Place, Rooms, fits}
use Rattle.read_attributes.specs.of_read_element.Attributes.{extra_kind}
use Rattle.read_attributes.specs.of_read_attribute.inside.Steps.{fault_at}
use Rattle.read_attributes.specs.inside.Elements.{Free}
use Rattle.read_attributes.specs.of_read_fault.declared.Fault.{Fault}
use Rattle.read_attributes.specs.declared.Grown.{Grown as CodedGrown}
use Rattle.read_place.specs.of_read_state.Control.{Level, top, suite, case, status, Mode, at, gathering, listing, skipping, finished, is_status}
use Rattle.read_place.specs.of_read_state.declared.Act.{Act as CodedAct}
use Rattle.read_place.specs.of_read_state.declared.Act.TheVariants as act
use Rattle.read_place.specs.Marks.{Marks}
use Rattle.read_content.specs.Content.{Content, killed}
use Rattle.read_attributes.specs.of_read_element.inside.Refines.{Refines}
use Rattle.read_content.specs.declared.List.{List as CodedList}
use Rattle.read_content.specs.declared.Content.{Content as CodedContent}

-- ---- records in their area
-- record i changed
abbrev pub in_record : ℕ → (List ℕ → List ℕ) → List ℕ → List ℕ
in_record i f words = take (i * 32) words ++ f (drop (i * 32) words)

-- n records from number i on marked dead
unfoldable pub kill_words : ℕ → ℕ → List ℕ → List ℕ
kill_words zero i words = words
kill_words (suc n) i words = kill_words n (i + 1) (in_record i killed words)

abbrev pub Whole : List (List ℕ) → Type 0
Whole [] = Unit {0}
Whole (r ∷ rs) = (length r ≡ 32) × Whole rs

-- the kind of record i, 0 behind the last
abbrev pub kind_in : List (List ℕ) → ℕ → ℕ
kind_in rs i = get_or (get_or rs i []) 0 0

-- the records before number n are dead
abbrev pub Dead : ℕ → List (List ℕ) → Type 0
Dead n rs = (i : ℕ) → i < n → 16 ≤ kind_in rs i

-- record `from` is there, and the records of a kind from it on are those of the list
pub record Listed (kind from : ℕ) (list : CodedList) (rs : List (List ℕ)) : Type 0 where
  pub inside : from < length rs
  pub high : list.first + list.count ≤ length rs
  pub only : (i : ℕ) → from ≤ i → kind_in rs i ≡ kind → (list.first ≤ i) × (i < list.first + list.count)
  pub each : (i : ℕ) → list.first ≤ i → i < list.first + list.count → (from ≤ i) × (kind_in rs i ≡ kind)

-- ---- what the areas hold
-- behind the records and the texts stored they are zero; scratch has the text of a child, and at its front the open description, if the
-- child's begins behind that
pub record Holds (words text scratch attributes source : List ℕ) (c : CodedContent) (s : Content) : Type 0 where
  pub room : ℕ
  pub left : ℕ
  pub records : words ≡ joined s.records ++ zeros room
  pub whole : Whole s.records
  pub used : c.used ≡ length s.records
  pub stored : text ≡ s.texts ++ zeros left
  pub fill : c.fill ≡ length s.texts
  pub within : c.description ≤ length scratch
  pub begins : c.child ≤ c.description
  pub described : c.child ≡ c.description → take c.description scratch ≡ s.description
  pub behind : take c.gathered (drop c.child scratch) ≡ s.gathered
  pub description : c.description ≡ length s.description
  pub gathered : c.gathered ≡ length s.gathered
  pub free : Free attributes source c.free.first c.free.end
  pub report : c.report_at ≤ c.used
  pub dead : Dead c.report_at s.records

-- the rooms are those of areas of so many words and bytes
pub record Sized (rooms : Rooms) (words text scratch : ℕ) : Type 0 where
  pub for-records : (n : ℕ) → fits rooms.records n ≡ leb (n * 32) words
  pub for-text : (n : ℕ) → fits rooms.text n ≡ leb n text
  pub for-scratch : (n : ℕ) → fits rooms.scratch n ≡ leb n scratch

-- ---- what is known while elements are open
abbrev pub Opened : Level → Marks → CodedContent → Content → Type 0
Opened top m c s = Unit {0}
Opened suite m c s = Listed 4 m.suite_at_of c.suite_list s.records
Opened case m c s = Listed 4 m.suite_at_of c.suite_list s.records × Listed 5 m.case_at_of c.case_list s.records
Opened status m c s =
    Listed 4 m.suite_at_of c.suite_list s.records × (Listed 5 m.case_at_of c.case_list s.records × (m.status_at_of < length s.records))

-- a properties list that is open takes the last records; only suite and case have one
abbrev pub Ends : Level → CodedContent → Type 0
Ends top c = ⊥
Ends suite c = c.suite_list.first + c.suite_list.count ≡ c.used
Ends case c = c.case_list.first + c.case_list.count ≡ c.used
Ends status c = ⊥

-- no text is gathered but in its mode; skips are read whole
abbrev pub Lists : Mode → Marks → CodedContent → Content → Type 0
Lists (at l) m c s = Opened l m c s × (s.gathered ≡ [])
Lists (gathering l o) m c s = Opened l m c s
Lists (listing l) m c s = Opened l m c s × ((s.gathered ≡ []) × Ends l c)
Lists (skipping outer name depth) m c s = ⊥
Lists finished m c s = ⊥

-- some content is held so
pub record Carries (mode : Mode) (m : Marks) (words text scratch attributes source : List ℕ) (c : CodedContent) : Type 0 where
  pub said : Content
  pub holds : Holds words text scratch attributes source c said
  pub lists : Lists mode m c said

pub record Holding (words text attributes source : List ℕ) (c : CodedContent) : Type 0 where
  pub scratch : List ℕ
  pub said : Content
  pub holds : Holds words text scratch attributes source c said

-- the acts that tags, Eof and Fault give in a mode
abbrev pub opens : ℕ → Mode → Bool
opens k (at top) = eqb k 1 || eqb k 2
opens k (at suite) = eqb k 3
opens k (at case) = is_status k
opens k (at status) = false
opens k (gathering l o) = false
opens k (listing l) = false
opens k (skipping outer name depth) = false
opens k finished = false

abbrev pub is_at : Mode → Bool
is_at (at l) = true
is_at (gathering l o) = false
is_at (listing l) = false
is_at (skipping outer name depth) = false
is_at finished = false

abbrev pub is_text : Mode → Bool
is_text (at l) = false
is_text (gathering l o) = true
is_text (listing l) = false
is_text (skipping outer name depth) = false
is_text finished = false

abbrev pub is_list : Mode → Bool
is_list (at l) = false
is_list (gathering l o) = false
is_list (listing l) = true
is_list (skipping outer name depth) = false
is_list finished = false

-- suite and case have properties
abbrev pub has_list : Mode → Bool
has_list (at top) = false
has_list (at suite) = true
has_list (at case) = true
has_list (at status) = false
has_list (gathering l o) = false
has_list (listing l) = false
has_list (skipping outer name depth) = false
has_list finished = false

abbrev pub apt : CodedAct → Mode → Bool
apt act.Pass m = true
apt act.Skip m = true
apt (act.Open k e) m = opens k m
apt act.Close m = is_at m
apt (act.OpenText o) m = is_at m
apt (act.CloseText o) m = is_at m || is_text m
apt (act.OpenList e) m = has_list m
apt act.CloseList m = not (is_text m)
apt (act.ReadProperty e) m = is_list m
apt act.Stop m = true
apt act.Missing m = true
apt (act.Broken why) m = true

-- ---- answers
-- what an action answers: the content behind it, or its fault
abbrev pub Performed : Type 0
Performed = Result CodedContent Fault

-- a refusal with no attribute
abbrev pub fault_of : Cause → Fault
fault_of why = record { cause = why; key = 0; attribute = nowhere }

-- an answer and the areas are those of an outcome, and Q holds of the content
abbrev pub Comes : (CodedContent → Content → Type 0) → Place → (words text scratch attributes source : List ℕ) → Outcome Content → Performed → Type 0
Comes Q p words text scratch attributes source = Refines Ok Err fault_at p (λ s c. Holds words text scratch attributes source c s × Q c s)

-- behind an action reading goes on in that mode with those marks
abbrev pub Performs : Mode → Marks → Place → (words text scratch attributes source : List ℕ) → Outcome Content → Performed → Type 0
Performs mode m p words text scratch attributes source = Comes (Lists mode m) p words text scratch attributes source

-- ---- the content behind an action
abbrev pub no_list : CodedList
no_list = record { first = 0; count = 0 }

abbrev pub list_of : Level → CodedContent → CodedList
list_of top c = c.suite_list
list_of suite c = c.suite_list
list_of case c = c.case_list
list_of status c = c.case_list

abbrev pub content : (used fill description gathered report_at_of : ℕ) → CodedList → CodedList → CodedContent → CodedContent
content u f d g r sl cl c =
    record { used = u; fill = f; description = d; gathered = g; child = c.child; report_at = r; suite_list = sl; case_list = cl; free = c.free }

abbrev pub with_list : Level → CodedContent → CodedList → CodedContent
with_list top c l = content c.used c.fill c.description c.gathered c.report_at l c.case_list c
with_list suite c l = content c.used c.fill c.description c.gathered c.report_at l c.case_list c
with_list case c l = content c.used c.fill c.description c.gathered c.report_at c.suite_list l c
with_list status c l = content c.used c.fill c.description c.gathered c.report_at c.suite_list l c

-- an element more is read
abbrev pub added_in : CodedGrown → CodedContent → CodedContent
added_in e c =
    record {
      used = c.used + e.records;
      fill = e.fill;
      description = c.description;
      gathered = c.gathered;
      child = c.child;
      report_at = c.report_at;
      suite_list = c.suite_list;
      case_list = c.case_list;
      free = e.free;
    }

abbrev pub added_to : Result CodedGrown Fault → CodedContent → Performed
added_to (Ok e) c = Ok (added_in e c)
added_to (Err f) c = Err f

-- an element of that kind more: its record, behind it its extras, which only suites and cases have
pub record Added (kind : ℕ) (c : CodedContent) (s : Content) (c' : CodedContent) (s' : Content) : Type 0 where
  pub suite-list : c'.suite_list ≡ c.suite_list
  pub case-list : c'.case_list ≡ c.case_list
  pub gathered : s'.gathered ≡ s.gathered
  pub before : (i : ℕ) → i < length s.records → kind_in s'.records i ≡ kind_in s.records i
  pub main : kind_in s'.records (length s.records) ≡ kind
  pub extras : (i : ℕ) → length s.records < i → i < length s'.records → kind_in s'.records i ≡ extra_kind kind
  pub more : length s.records < length s'.records
  pub alone : 4 ≤ kind → length s'.records ≡ length s.records + 1

-- the number of the open status element's record
abbrev pub status_end : Level → Marks → ℕ
status_end top m = 0
status_end suite m = 0
status_end case m = 0
status_end status m = m.status_at_of

-- ---- before the first event
abbrev pub no_content : CodedContent
no_content =
    record { used = 0; fill = 0; description = 0; gathered = 0; child = 0; report_at = 0; suite_list = no_list; case_list = no_list; free = record { first = 0; end = 0 } }
