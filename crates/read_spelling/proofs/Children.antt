-- An Empty and its Start and End lead to the same, with areas of any lengths, or are refused alike. Assumes nothing.
use Prim.Native.Nat.{ℕ, suc, ◌+◌}
use mathlib.Core.Bool.{Bool, true, false}
use mathlib.Core.List.{List, []}
use mathlib.Core.Path.{◌≡◌, refl, sym, ap, subst, ◌∙◌}
use lib.Dec.{eqb}
use lib.ListN.{length}
use Rattle.read_report.specs.of_names.Names.{same_bytes}
use Rattle.read_report.specs.of_names.Tags.{tag_of, testsuite, testcase, properties}
use Rattle.read_report.proofs.of_names.NameLaws.{same_refl}
use Rattle.read_report.specs.of_refusal.Refusal.{Refused, Outcome, accepted, refused}
use Rattle.read_report.specs.of_table.Event.{Attribute, Start, Empty, End, Tag}
use Rattle.read_report.specs.of_tree_status.declared.Tally.{Tally}
use Rattle.read_report.specs.of_tree_status.Status.{ruled}
use Rattle.read_report.specs.of_tree_record.Kinds as kind
use Rattle.read_report.specs.of_read_element.Outcome.{◌>>=◌, need, Rooms}
use Rattle.read_report.specs.of_read_element.Attributes.{Grown, read_element}
use Rattle.read_report.specs.of_read_state.Control.{Level, top, suite, case, Output, Mode, at, gathering, listing, skipping}
use Rattle.read_report.specs.of_read_state.Control.{control, Act, pass, open_suite, open_case, open_status, open_text, close_text, open_list, read_property, is_status, turn}
use Rattle.read_report.specs.of_read_rules.Rules.{at_suite, at_case, at_status, tag_of_output, in_text, in_list_of, in_skip, plan_at}
use Rattle.read_report.specs.of_read_place.Marks.{Marks, marks_after, onward}
use Rattle.read_report.specs.of_read_path.Paths.{act_place}
use Rattle.read_report.specs.of_read_content.Content.{Content, property_kind, adding, grown, describing, perform}
use Rattle.read_report.specs.of_read_machine.Machine.{Machine, act, step}
use Rattle.read_spelling.specs.Spelling.{is_spelled, SameRefusal}
use Rattle.read_spelling.proofs.Numbers.{place-near, outputting-moves, Shifted, goes, stops, then}
use Rattle.read_spelling.proofs.Bare.{Bare, BareMachine}
use Rattle.read_spelling.proofs.Pairs.{Pair, passes, unknown, deeper, lists, texts, suites, cases, statuses, reads, pair}

-- ---- refusals
pub same-refusal : (r : Refused) → SameRefusal r r
same-refusal r = record { cause = refl; path = refl; attribute = refl }

pub same_after : {r q p : Refused} → SameRefusal r q → SameRefusal q p → SameRefusal r p
same_after h g = record { cause = h.cause ∙ g.cause; path = h.path ∙ g.path; attribute = h.attribute ∙ g.attribute }

pub across : {o u v : Outcome Machine} → Shifted o u → Shifted u v → Shifted o v
across (goes e ss cs) (goes f st ct) = goes f st ct
across (stops h) (stops g) = stops (same_after h g)

-- ---- one Empty
module _ (rooms : Rooms) (seen closed : Bool) (t : Tally) (k : Marks) (name : List ℕ) (j : ℕ) (xs : List Attribute) where
  abbrev standing : Mode → Content → Machine
  standing m c = record { control = control m seen closed t; content = c; marks = k }

  abbrev behind : Act → Machine → Content → Machine
  behind a s c = record { control = turn a s.control; content = c; marks = onward (marks_after a (length s.content.records) s.marks) }

  -- the act of the Empty, and the act of the Start with the End behind it
  abbrev Same : Act → Act → Machine → Type 0
  Same a e s = Shifted (act rooms e j xs s) (act rooms a j xs s >>= λ u. step rooms (Tag End name 0 []) u)

  -- the same, of what the acts make of the content
  abbrev Ended : Act → Act → Machine → Outcome Content → Type 0
  Ended a e s o = Shifted (o >>= λ d. accepted (behind e s d)) ((o >>= λ d. accepted (behind a s d)) >>= λ u. step rooms (Tag End name 0 []) u)

  -- one event later
  abbrev next : ℕ
  next = k.event + 1 + 1

  passed : (m : Mode) (c : Content) → plan_at m seen End name ≡ pass m → Same (pass m) (pass m) (standing m c)
  unfolding step act perform turn marks_after ◌>>=◌
  passed m c e = rw e (goes next k.suite_start_of k.case_start_of)

  skipped : (l : Level) (c : Content) → Same (pass (skipping (at l) name 0)) (pass (at l)) (standing (at l) c)
  unfolding step act perform turn marks_after plan_at in_skip ◌>>=◌
  skipped l c = rw (same_refl name) (goes next k.suite_start_of k.case_start_of)

  raised : (m : Mode) (over : List ℕ) (depth : ℕ) (c : Content) → same_bytes name over ≡ true
      → Same (pass (skipping m over (suc depth))) (pass (skipping m over depth)) (standing (skipping m over depth) c)
  unfolding step act perform turn marks_after plan_at in_skip ◌>>=◌
  raised m over depth c e = rw e (goes next k.suite_start_of k.case_start_of)

  listed : (l : Level) (c : Content) → eqb (tag_of name) properties ≡ true → Same (open_list l false) (open_list l true) (standing (at l) c)
  unfolding step act perform turn marks_after plan_at in_list_of ◌>>=◌
  listed l c e = rw e (goes next k.suite_start_of k.case_start_of)

  -- ---- a text: its End takes what the Empty takes
  abbrev inside : Level → Output → Content → Machine
  inside l o c = record { control = control (gathering l o) seen closed t; content = c; marks = onward k }

  text-end : (l : Level) (o : Output) (c : Content) → eqb (tag_of name) (tag_of_output o) ≡ true
      → act rooms (close_text l o) 0 [] (inside l o c) ≡ (act rooms (open_text l o) j xs (standing (at l) c) >>= λ u. step rooms (Tag End name 0 []) u)
  unfolding step act perform turn marks_after plan_at in_text ◌>>=◌
  text-end l o c e = rw e refl

  text-ends : (l : Level) (o : Output) (c : Content) → Shifted (act rooms (close_text l o) j xs (standing (at l) c)) (act rooms (close_text l o) 0 [] (inside l o c))
  unfolding act perform turn marks_after
  text-ends l o c =
      then (outputting-moves rooms (place-near (k.event + 1) k.suite_start_of k.case_start_of k (close_text l o) (at l)) (k.event + 1) k.suite_start_of k.case_start_of k c l o) λ d.
      goes next k.suite_start_of k.case_start_of

  gathered : (l : Level) (o : Output) (c : Content) → eqb (tag_of name) (tag_of_output o) ≡ true → Same (open_text l o) (close_text l o) (standing (at l) c)
  gathered l o c e = subst (λ (u : Outcome Machine). Shifted (act rooms (close_text l o) j xs (standing (at l) c)) u) (text-end l o c e) (text-ends l o c)

  -- ---- an element that is read
  suite-ended : (c : Content) → eqb (tag_of name) testsuite ≡ true → (o : Outcome Content) → Ended (open_suite false) (open_suite true) (standing (at top) c) o
  unfolding step act perform turn marks_after plan_at at_suite ◌>>=◌
  suite-ended c e (accepted d) = rw e (goes next k.event 0)
  suite-ended c e (refused r) = stops (same-refusal r)

  case-ended : (c : Content) → eqb (tag_of name) testcase ≡ true → (o : Outcome Content) → Ended (open_case false) (open_case true) (standing (at suite) c) o
  unfolding step act perform need ruled turn marks_after plan_at at_case ◌>>=◌
  case-ended c e (accepted d) = rw e (goes next k.suite_start_of k.event)
  case-ended c e (refused r) = stops (same-refusal r)

  property-ended : (l : Level) (c : Content) (o : Outcome Content) → Ended (read_property l false name) (read_property l true name) (standing (listing l) c) o
  unfolding step act perform turn marks_after plan_at in_skip ◌>>=◌
  property-ended l c (accepted d) = rw (same_refl name) (goes next k.suite_start_of k.case_start_of)
  property-ended l c (refused r) = stops (same-refusal r)

  -- nothing is gathered where a status element opens
  abbrev bare : List (List ℕ) → List ℕ → Content
  bare records stored = record { records = records; texts = stored; description = []; gathered = [] }

  status-ended : (κ : ℕ) (records : List (List ℕ)) (stored : List ℕ) → is_status (tag_of name) ≡ true → (o : Outcome Grown)
      → Ended (open_status κ false) (open_status κ true) (standing (at case) (bare records stored)) (o >>= λ g. accepted (grown (bare records stored) g))
  unfolding step act perform describing turn marks_after plan_at at_status ◌>>=◌
  status-ended κ records stored e (accepted g) = rw e (goes next k.suite_start_of k.case_start_of)
  status-ended κ records stored e (refused r) = stops (same-refusal r)

  status-opened : (κ : ℕ) (records : List (List ℕ)) (stored : List ℕ) → is_status (tag_of name) ≡ true → Same (open_status κ false) (open_status κ true) (standing (at case) (bare records stored))
  unfolding act perform adding
  status-opened κ records stored e = status-ended κ records stored e (read_element rooms (act_place (open_status κ true) (at case) k) κ j xs records stored)

  -- ---- each pair
  spelled_same : {m : Mode} {a e : Act} (c : Content) → Pair seen name m a e → Bare m c → Same a e (standing m c)
  spelled_same c (passes {m = m} e) b = passed m c e
  spelled_same c (unknown {l = l}) b = skipped l c
  spelled_same c (deeper {m = m} {skipped = over} {depth = depth} e) b = raised m over depth c e
  spelled_same c (lists {l = l} e) b = listed l c e
  spelled_same c (texts {l = l} {o = o} e) b = gathered l o c e
  spelled_same c (suites e) b = unfold act in unfold perform in suite-ended c e (adding rooms (act_place (open_suite true) (at top) k) kind.suite j xs c)
  spelled_same c (cases e) b = unfold act in unfold perform in case-ended c e (adding rooms (act_place (open_case true) (at suite) k) kind.case j xs c)
  spelled_same c (reads {l = l}) b =
      unfold act in unfold perform in property-ended l c (adding rooms (act_place (read_property l true name) (listing l) k) (property_kind l) j xs c)
  spelled_same c (statuses {κ = κ} e) b =
      subst (λ (d : Content). Same (open_status κ false) (open_status κ true) (standing (at case) d))
      (ap (λ (d : List ℕ). record { records = c.records; texts = c.texts; description = d; gathered = [] }) (sym b.0)
      ∙ ap (λ (g : List ℕ). record { records = c.records; texts = c.texts; description = c.description; gathered = g }) (sym b.1))
      (status-opened κ c.records c.texts e)

-- an Empty, and its Start and End
pub empty-spelled : (rooms : Rooms) (s : Machine) (name : List ℕ) (j : ℕ) (xs : List Attribute) → is_spelled s.control.mode name ≡ true → BareMachine s
    → Shifted (step rooms (Tag Empty name j xs) s) (step rooms (Tag Start name j xs) s >>= λ u. step rooms (Tag End name 0 []) u)
unfolding step
empty-spelled rooms s name j xs h b =
    spelled_same rooms s.control.seen s.control.closed s.control.tally s.marks name j xs s.content (pair s.control.seen name s.control.mode h) b
