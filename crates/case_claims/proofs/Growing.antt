-- No action adds more cases to the report than it opens. Assumes nothing.
use Prim.Native.Nat.{ℕ, zero, suc, ◌+◌, ◌≤◌}
use mathlib.Core.Path.{◌≡◌, refl, sym, ap, ◌∙◌}
use mathlib.Core.List.{List, [], ◌∷◌, ◌++◌}
use mathlib.Core.Bool.{Bool, true, false, cond, not}
use native.Mathlib.Omega.{arith}
use lib.ListN.{length}
use Rattle.case_tags.specs.of_refusal.Refusal.{Refused, Outcome, accepted, refused}
use Rattle.case_tags.specs.of_refusal.declared.Cause.{Cause}
use Rattle.case_tags.specs.of_refusal.declared.Cause.TheVariants as cause
use Rattle.read_report.specs.of_trim.Trim.{trimmed}
use Rattle.case_tags.specs.of_table.Event.{Attribute, PieceKind}
use Rattle.read_report.specs.of_tree_status.Status.{ruled}
use Rattle.read_report.specs.of_tree_report.Report.{Text, Pair, TestCase, TestSuite, Report}
use Rattle.read_report.specs.of_read_element.Outcome.{◌>>=◌, Place, refused_at, there, need, Rooms, fits}
use Rattle.read_report.specs.of_read_state.Control.{Level, top, suite, case, status, Output, trace, out, err, Mode, at, gathering, listing, skipping, finished, Control}
use Rattle.read_report.specs.of_read_state.Control.{Act, pass, open_report, open_suite, open_case, open_status, close_suite, close_case, close_status, open_text, close_text, open_list, read_property, stop, missing, broken}
use Rattle.read_report.specs.of_read_content.Content.{piece_of, cleaned, is_empty}
use Rattle.read_report.specs.Deserialize.{Used, storing, Taken, a_report, a_suite, a_case_of, a_property, a_status, element, new_report, new_status, new_suite, new_case, new_property}
use Rattle.read_report.specs.Deserialize.{on_last, suite_with, case_with, on_suite, on_case, add_suite, add_case, set_status, status_of, on_properties, suite_output, case_output}
use Rattle.read_report.specs.Deserialize.{Draft, draft, with_texts, put, described, describing, perform, join_piece, own, gather}
use Rattle.case_claims.specs.PassedOver.{cases_in, cases_of}
use Rattle.case_claims.proofs.Planned.{opened}

-- what is accepted has at most n of what f counts
pub data Upto {A : Type 0} (f : A → ℕ) (n : ℕ) : Outcome A → Type 0 where
  within : {a : A} → f a ≤ n → Upto f n (accepted a)
  stopped : {why : Refused} → Upto f n (refused why)

pub upto_bind : {A B : Type 0} {f : A → ℕ} {g : B → ℕ} {k n : ℕ} {m : Outcome A} {h : A → Outcome B} → Upto f k m → ((a : A) → f a ≤ k → Upto g n (h a)) → Upto g n (m >>= h)
unfolding ◌>>=◌
upto_bind (within {a = a} l) v = v a l
upto_bind stopped v = stopped

-- whatever comes before
pub upto-behind : {A B : Type 0} {g : B → ℕ} {n : ℕ} (m : Outcome A) {h : A → Outcome B} → ((a : A) → Upto g n (h a)) → Upto g n (m >>= h)
unfolding ◌>>=◌
upto-behind (accepted a) v = v a
upto-behind (refused why) v = stopped

upto-need : {A : Type 0} {f : A → ℕ} {n : ℕ} (t : Bool) (p : Place) (why : Cause) {m : Outcome A} → Upto f n m → Upto f n (need t p why m)
unfolding need
upto-need true p why u = u
upto-need false p why u = stopped

-- ---- the lists of a report
length_last : {A : Type 0} (f : A → A) (xs : List A) → length (on_last f xs) ≡ length xs
length_last f [] = refl
length_last f (x ∷ []) = refl
length_last f (x ∷ (y ∷ ys)) = ap suc (length_last f (y ∷ ys))

length-one : {A : Type 0} (xs : List A) (x : A) → length (xs ++ (x ∷ [])) ≡ length xs + 1
length-one [] x = refl
length-one (y ∷ ys) x = let z = length-one ys x in omega arith

cases_last : (f : TestSuite → TestSuite) (n : ℕ) → ((s : TestSuite) → length (f s).cases ≤ length s.cases + n) → (ss : List TestSuite) → cases_in (on_last f ss) ≤ cases_in ss + n
cases_last f n h [] = omega arith
cases_last f n h (s ∷ []) = let z = h s in omega arith
cases_last f n h (s ∷ (t ∷ ss)) = let z = cases_last f n h (t ∷ ss) in omega arith

cases-suite : (ss : List TestSuite) (s : TestSuite) → length s.cases ≡ 0 → cases_in (ss ++ (s ∷ [])) ≤ cases_in ss + 0
cases-suite [] s e = omega arith
cases-suite (x ∷ ss) s e = let z = cases-suite ss s e in omega arith

abbrev pub draft_cases : Draft → ℕ
draft_cases d = cases_of d.report

module _ (r : Report) where
  suite-kept : (f : TestSuite → TestSuite) → ((s : TestSuite) → length (f s).cases ≡ length s.cases) → cases_of (on_suite f r) ≤ cases_of r + 0
  suite-kept f h = cases_last f 0 (λ s. let z = h s in omega arith) r.suites

  case-kept : (f : TestCase → TestCase) → cases_of (on_case f r) ≤ cases_of r + 0
  case-kept f = suite-kept (λ s. suite_with s (on_last f s.cases) s.properties s.system_out s.system_err) (λ s. length_last f s.cases)

  case-added : (c : TestCase) → cases_of (add_case c r) ≤ cases_of r + 1
  case-added c = cases_last (λ s. suite_with s (s.cases ++ (c ∷ [])) s.properties s.system_out s.system_err) 1 (λ s. let z = length-one s.cases c in omega arith) r.suites

  properties-kept : (l : Level) (f : List Pair → List Pair) → cases_of (on_properties l f r) ≤ cases_of r + 0
  properties-kept top f = omega arith
  properties-kept suite f = suite-kept (λ s. suite_with s s.cases (f s.properties) s.system_out s.system_err) (λ s. refl)
  properties-kept case f = case-kept (λ c. case_with c c.status (f c.properties) c.system_out c.system_err)
  properties-kept status f = omega arith

output-cases : (o : Output) (v : Text) (s : TestSuite) → length (suite_output o v s).cases ≡ length s.cases
output-cases trace v s = refl
output-cases out v s = refl
output-cases err v s = refl

put-kept : (l : Level) (o : Output) (v : Text) (d : Draft) (u : Used) → draft_cases (put l o v d u) ≤ draft_cases d + 0
put-kept top o v d u = omega arith
put-kept suite o v d u = suite-kept d.report (suite_output o v) (output-cases o v)
put-kept case o v d u = case-kept d.report (case_output o v)
put-kept status o v d u = omega arith

-- ---- actions
describes : (rooms : Rooms) (p : Place) (d : Draft) → Upto draft_cases (draft_cases d + 0) (describing rooms p d)
describes rooms p d = go (is_empty (trimmed d.description))
  where
    go : (t : Bool) → Upto draft_cases (draft_cases d + 0) (cond t (accepted (with_texts d [] []))
        (storing rooms p (cleaned d.description) d.used >>= λ u. accepted (with_texts (draft d d.report (on_last (described (cleaned d.description)) d.statuses) u) [] [])))
    go true = within {a = with_texts d [] []} (omega arith)
    go false = upto-behind (storing rooms p (cleaned d.description) d.used) λ u.
        within {a = with_texts (draft d d.report (on_last (described (cleaned d.description)) d.statuses) u) [] []} (omega arith)

pub performs : (rooms : Rooms) (p : Place) (a : Act) (j : ℕ) (xs : List Attribute) (k : Control) (d : Draft) → Upto draft_cases (draft_cases d + opened a) (perform rooms p a j xs k d)
unfolding perform
performs rooms p (pass n) j xs k d = within {a = d} (omega arith)
performs rooms p (open_report e) j xs k d = upto-behind (element rooms p a_report j xs d.used) λ t. within {a = draft d (new_report xs) [] t.used} (omega arith)
performs rooms p (open_suite e) j xs k d = upto-behind (element rooms p a_suite j xs d.used) λ t. within (cases-suite d.report.suites (new_suite xs t.extra) refl)
performs rooms p (open_case e) j xs k d = upto-behind (element rooms p a_case_of j xs d.used) λ t. within (case-added d.report (new_case xs t.extra))
performs rooms p (open_status s e) j xs k d = upto-behind (element rooms p a_status j xs d.used) λ t. within {a = draft d d.report (d.statuses ++ (new_status s xs ∷ [])) t.used} (omega arith)
performs rooms p close_suite j xs k d = within {a = d} (omega arith)
performs rooms p close_case j xs k d =
    upto-need (ruled k.tally) p cause.StatusRule (within (case-kept d.report λ c. case_with c (status_of d.statuses) c.properties c.system_out c.system_err))
performs rooms p close_status j xs k d = describes rooms p d
performs rooms p (open_text l o) j xs k d = within {a = d} (omega arith)
performs rooms p (close_text l o) j xs k d = upto-behind (storing rooms p (cleaned d.text) d.used) λ u. within (put-kept l o (cleaned d.text) d u)
performs rooms p (open_list l e) j xs k d = within (properties-kept d.report l (λ _. []))
performs rooms p (read_property l e name) j xs k d = upto-behind (element rooms p a_property j xs d.used) λ t. within (properties-kept d.report l (λ ps. ps ++ (new_property xs ∷ [])))
performs rooms p stop j xs k d = within {a = d} (omega arith)
performs rooms p missing j xs k d = stopped
performs rooms p (broken why) j xs k d = stopped

joins : (m : Mode) (v : Text) (d : Draft) → draft_cases (join_piece m v d) ≤ draft_cases d
joins (at l) v d = omega arith
joins (gathering l o) v d = omega arith
joins (listing l) v d = omega arith
joins (skipping m name depth) v d = omega arith
joins finished v d = omega arith

pub gathered : (rooms : Rooms) (p : Place) (m : Mode) (k : PieceKind) (s : List ℕ) (d : Draft) → Upto draft_cases (draft_cases d) (gather rooms p m k s d)
unfolding gather
gathered rooms p m k s d =
    upto-behind (there p (piece_of k s)) λ v. upto-need (fits rooms.scratch (length (own m d) + length v)) p cause.ScratchFull (within (joins m v d))
