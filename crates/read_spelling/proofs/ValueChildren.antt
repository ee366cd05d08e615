-- On values: an Empty and its Start and End lead to the same, with any room, or are refused alike. Assumes nothing.
use Prim.Native.Nat.{ℕ, suc, ◌+◌}
use mathlib.Core.Bool.{Bool, true, false}
use mathlib.Core.List.{List, [], ◌∷◌, ◌++◌}
use mathlib.Core.Path.{◌≡◌, refl, sym, ap, subst, ◌∙◌}
use lib.Dec.{eqb}
use Rattle.read_report.specs.of_names.Names.{same_bytes}
use Rattle.read_report.specs.of_names.Tags.{tag_of, testsuite, testcase, properties}
use Rattle.read_report.proofs.of_names.NameLaws.{same_refl}
use Rattle.read_report.specs.of_refusal.Refusal.{Outcome, accepted, refused}
use Rattle.read_report.specs.of_table.Event.{Attribute, Start, Empty, End, Tag}
use Rattle.read_report.specs.of_tree_status.declared.Tally.{Tally}
use Rattle.read_report.specs.of_tree_status.Status.{ruled}
use Rattle.read_report.specs.of_tree_report.Report.{Pair as KeyValue, success, TestCase, TestSuite, Report}
use Rattle.read_report.specs.of_read_element.Outcome.{◌>>=◌, need, Rooms}
use Rattle.read_report.specs.of_read_state.Control.{Level, top, suite, case, Output, Mode, at, gathering, listing, skipping}
use Rattle.read_report.specs.of_read_state.Control.{control, Act, pass, open_suite, open_case, open_status, open_text, close_text, open_list, read_property, is_status, turn}
use Rattle.read_report.specs.of_read_rules.Rules.{at_suite, at_case, at_status, tag_of_output, in_text, in_list_of, in_skip, plan_at}
use Rattle.read_report.specs.of_read_place.Marks.{Marks, marks_after, onward}
use Rattle.read_report.specs.of_read_path.Paths.{act_place}
use Rattle.read_report.specs.Deserialize.{Used, Taken, a_suite, a_case_of, a_property, a_status, element, new_case, StatusElement, new_status, on_last, suite_with, case_with, add_case, set_status}
use Rattle.read_report.specs.Deserialize.{Draft, draft, perform, Reader, act, step}
use Rattle.read_spelling.specs.Spelling.{is_spelled}
use Rattle.read_spelling.proofs.Children.{same-refusal, same_after}
use Rattle.read_spelling.proofs.ValueNumbers.{elsewhere, Shifted, goes, stops, then, perform-moves}
use Rattle.read_spelling.proofs.Numbers.{place-near}
use Rattle.read_spelling.proofs.ValueBare.{Bare, BareReader}
use Rattle.read_spelling.proofs.Pairs.{Pair, passes, unknown, deeper, lists, texts, suites, cases, statuses, reads, pair}

pub across : {o u v : Outcome Reader} → Shifted o u → Shifted u v → Shifted o v
across (goes e ss cs) (goes f st ct) = goes f st ct
across (stops h) (stops g) = stops (same_after h g)

-- ---- an empty case is a success already
last-appended : {A : Type 0} (f : A → A) (c : A) → f c ≡ c → (xs : List A) → on_last f (xs ++ (c ∷ [])) ≡ xs ++ (c ∷ [])
last-appended f c e [] = ap (λ (x : _). x ∷ []) e
last-appended f c e (x ∷ []) = ap (λ (y : _). x ∷ y ∷ []) e
last-appended f c e (x ∷ (y ∷ ys)) = ap (λ (l : List _). x ∷ l) (last-appended f c e (y ∷ ys))

last-twice : {A : Type 0} (f g : A → A) → ((x : A) → g (f x) ≡ f x) → (xs : List A) → on_last g (on_last f xs) ≡ on_last f xs
last-twice f g e [] = refl
last-twice f g e (x ∷ []) = ap (λ (y : _). y ∷ []) (e x)
last-twice f g e (x ∷ (y ∷ [])) = ap (λ (z : _). x ∷ z ∷ []) (e y)
last-twice f g e (x ∷ (y ∷ (z ∷ zs))) = ap (λ (l : List _). x ∷ l) (last-twice f g e (y ∷ (z ∷ zs)))

success-already : (xs : List Attribute) (es : List KeyValue) (r : Report) → set_status (success []) (add_case (new_case xs es) r) ≡ add_case (new_case xs es) r
success-already xs es r =
    ap (λ (ss : List TestSuite). record { name = r.name; uuid = r.uuid; timestamp = r.timestamp; time = r.time; counts = r.counts; suites = ss })
    (last-twice (λ s. suite_with s (s.cases ++ (new_case xs es ∷ [])) s.properties s.system_out s.system_err)
    (λ s. suite_with s (on_last (λ c. case_with c (success []) c.properties c.system_out c.system_err) s.cases) s.properties s.system_out s.system_err)
    (λ s. ap (λ (cs : List TestCase). suite_with s cs s.properties s.system_out s.system_err)
    (last-appended (λ c. case_with c (success []) c.properties c.system_out c.system_err) (new_case xs es) refl s.cases)) r.suites)

-- ---- one Empty
module _ (rooms : Rooms) (seen closed : Bool) (t : Tally) (k : Marks) (name : List ℕ) (j : ℕ) (xs : List Attribute) where
  abbrev standing : Mode → Draft → Reader
  standing m d = record { control = control m seen closed t; draft = d; marks = k }

  abbrev behind : Act → Reader → Draft → Reader
  behind a s d = record { control = turn a s.control; draft = d; marks = onward (marks_after a 0 s.marks) }

  -- the act of the Empty, and the act of the Start with the End behind it
  abbrev Same : Act → Act → Reader → Type 0
  Same a e s = Shifted (act rooms e j xs s) (act rooms a j xs s >>= λ u. step rooms (Tag End name 0 []) u)

  -- the same, of what the element makes of the draft
  abbrev Ended : Act → Act → Reader → Outcome Taken → (Taken → Draft) → Type 0
  Ended a e s o f =
      Shifted ((o >>= λ g. accepted (f g)) >>= λ d. accepted (behind e s d)) (((o >>= λ g. accepted (f g)) >>= λ d. accepted (behind a s d)) >>= λ u. step rooms (Tag End name 0 []) u)

  -- one event later
  abbrev next : ℕ
  next = k.event + 1 + 1

  passed : (m : Mode) (d : Draft) → plan_at m seen End name ≡ pass m → Same (pass m) (pass m) (standing m d)
  unfolding step act perform turn marks_after ◌>>=◌
  passed m d e = rw e (goes next k.suite_start_of k.case_start_of)

  skipped : (l : Level) (d : Draft) → Same (pass (skipping (at l) name 0)) (pass (at l)) (standing (at l) d)
  unfolding step act perform turn marks_after plan_at in_skip ◌>>=◌
  skipped l d = rw (same_refl name) (goes next k.suite_start_of k.case_start_of)

  raised : (m : Mode) (over : List ℕ) (depth : ℕ) (d : Draft) → same_bytes name over ≡ true
      → Same (pass (skipping m over (suc depth))) (pass (skipping m over depth)) (standing (skipping m over depth) d)
  unfolding step act perform turn marks_after plan_at in_skip ◌>>=◌
  raised m over depth d e = rw e (goes next k.suite_start_of k.case_start_of)

  listed : (l : Level) (d : Draft) → eqb (tag_of name) properties ≡ true → Same (open_list l false) (open_list l true) (standing (at l) d)
  unfolding step act perform turn marks_after plan_at in_list_of ◌>>=◌
  listed l d e = rw e (goes next k.suite_start_of k.case_start_of)

  -- ---- a text: its End takes what the Empty takes
  abbrev inside : Level → Output → Draft → Reader
  inside l o d = record { control = control (gathering l o) seen closed t; draft = d; marks = onward k }

  text-end : (l : Level) (o : Output) (d : Draft) → eqb (tag_of name) (tag_of_output o) ≡ true
      → act rooms (close_text l o) 0 [] (inside l o d) ≡ (act rooms (open_text l o) j xs (standing (at l) d) >>= λ u. step rooms (Tag End name 0 []) u)
  unfolding step act perform turn marks_after plan_at in_text ◌>>=◌
  text-end l o d e = rw e refl

  text-ends : (l : Level) (o : Output) (d : Draft) → Shifted (act rooms (close_text l o) j xs (standing (at l) d)) (act rooms (close_text l o) 0 [] (inside l o d))
  unfolding act perform turn marks_after
  text-ends l o d =
      then (perform-moves rooms (place-near (k.event + 1) k.suite_start_of k.case_start_of k (close_text l o) (at l)) (close_text l o) j xs (control (at l) seen closed t) d) λ x.
      goes next k.suite_start_of k.case_start_of

  gathered : (l : Level) (o : Output) (d : Draft) → eqb (tag_of name) (tag_of_output o) ≡ true → Same (open_text l o) (close_text l o) (standing (at l) d)
  gathered l o d e = subst (λ (u : Outcome Reader). Shifted (act rooms (close_text l o) j xs (standing (at l) d)) u) (text-end l o d e) (text-ends l o d)

  -- ---- an element that is read
  suite-ended : (d : Draft) → eqb (tag_of name) testsuite ≡ true → (o : Outcome Taken) (f : Taken → Draft) → Ended (open_suite false) (open_suite true) (standing (at top) d) o f
  unfolding step act perform turn marks_after plan_at at_suite ◌>>=◌
  suite-ended d e (accepted g) f = rw e (goes next k.event 0)
  suite-ended d e (refused r) f = stops (same-refusal r)

  abbrev with_report : Reader → Report → Reader
  with_report s r = record { control = s.control; draft = draft s.draft r s.draft.statuses s.draft.used; marks = s.marks }

  abbrev cased : Draft → Taken → Draft
  cased d g = draft d (add_case (new_case xs g.extra) d.report) [] g.used

  case-ended : (d : Draft) → eqb (tag_of name) testcase ≡ true → (o : Outcome Taken) → Ended (open_case false) (open_case true) (standing (at suite) d) o (cased d)
  unfolding step act perform need ruled turn marks_after plan_at at_case ◌>>=◌
  case-ended d e (accepted g) =
      rw e (subst (λ (x : Reader). Shifted (accepted (behind (open_case true) (standing (at suite) d) (cased d g))) (accepted x))
      (ap (with_report (elsewhere next k.suite_start_of k.event (behind (open_case true) (standing (at suite) d) (cased d g)))) (sym (success-already xs g.extra d.report)))
      (goes next k.suite_start_of k.event))
  case-ended d e (refused r) = stops (same-refusal r)

  property-ended : (l : Level) (d : Draft) (o : Outcome Taken) (f : Taken → Draft) → Ended (read_property l false name) (read_property l true name) (standing (listing l) d) o f
  unfolding step act perform turn marks_after plan_at in_skip ◌>>=◌
  property-ended l d (accepted g) f = rw (same_refl name) (goes next k.suite_start_of k.case_start_of)
  property-ended l d (refused r) f = stops (same-refusal r)

  -- nothing is gathered where a status element opens
  abbrev bare : Report → List StatusElement → Used → Draft
  bare r es u = record { report = r; statuses = es; description = []; text = []; used = u }

  status-ended : (κ : ℕ) (r : Report) (es : List StatusElement) (u : Used) → is_status (tag_of name) ≡ true → (o : Outcome Taken)
      → Ended (open_status κ false) (open_status κ true) (standing (at case) (bare r es u)) o (λ g. draft (bare r es u) r (es ++ (new_status κ xs ∷ [])) g.used)
  unfolding step act perform turn marks_after plan_at at_status ◌>>=◌
  status-ended κ r es u e (accepted g) = rw e (goes next k.suite_start_of k.case_start_of)
  status-ended κ r es u e (refused q) = stops (same-refusal q)

  status-opened : (κ : ℕ) (r : Report) (es : List StatusElement) (u : Used) → is_status (tag_of name) ≡ true → Same (open_status κ false) (open_status κ true) (standing (at case) (bare r es u))
  unfolding act perform
  status-opened κ r es u e = status-ended κ r es u e (element rooms (act_place (open_status κ true) (at case) k) a_status j xs u)

  -- ---- each pair
  spelled_same : {m : Mode} {a e : Act} (d : Draft) → Pair seen name m a e → Bare m d → Same a e (standing m d)
  spelled_same d (passes {m = m} e) b = passed m d e
  spelled_same d (unknown {l = l}) b = skipped l d
  spelled_same d (deeper {m = m} {skipped = over} {depth = depth} e) b = raised m over depth d e
  spelled_same d (lists {l = l} e) b = listed l d e
  spelled_same d (texts {l = l} {o = o} e) b = gathered l o d e
  spelled_same d (suites e) b = unfold act in unfold perform in suite-ended d e (element rooms (act_place (open_suite true) (at top) k) a_suite j xs d.used) _
  spelled_same d (cases e) b = unfold act in unfold perform in case-ended d e (element rooms (act_place (open_case true) (at suite) k) a_case_of j xs d.used)
  spelled_same d (reads {l = l}) b =
      unfold act in unfold perform in property-ended l d (element rooms (act_place (read_property l true name) (listing l) k) a_property j xs d.used) _
  spelled_same d (statuses {κ = κ} e) b =
      subst (λ (x : Draft). Same (open_status κ false) (open_status κ true) (standing (at case) x))
      (ap (λ (v : List ℕ). record { report = d.report; statuses = d.statuses; description = v; text = []; used = d.used }) (sym b.0)
      ∙ ap (λ (v : List ℕ). record { report = d.report; statuses = d.statuses; description = d.description; text = v; used = d.used }) (sym b.1))
      (status-opened κ d.report d.statuses d.used e)

-- an Empty, and its Start and End
pub empty-spelled : (rooms : Rooms) (s : Reader) (name : List ℕ) (j : ℕ) (xs : List Attribute) → is_spelled s.control.mode name ≡ true → BareReader s
    → Shifted (step rooms (Tag Empty name j xs) s) (step rooms (Tag Start name j xs) s >>= λ u. step rooms (Tag End name 0 []) u)
unfolding step
empty-spelled rooms s name j xs h b =
    spelled_same rooms s.control.seen s.control.closed s.control.tally s.marks name j xs s.draft (pair s.control.seen name s.control.mode h) b
