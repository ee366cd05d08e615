-- `TestCaseStatus::add_rerun` and `set_rerun_kind`, as operations on the report. Assumes nothing.
use Prim.Native.Nat.{ℕ, ◌+◌, ◌-◌}
use mathlib.Core.Bool.{Bool, true, false, cond, not, false≢true}
use mathlib.Core.List.{List, [], ◌∷◌}
use mathlib.Core.Option.{some}
use mathlib.Core.Path.{◌≡◌, refl, sym, ap, ◌∙◌}
use lib.Dec.{ltb, eqb}
use Rattle.tree_placed.specs.of_refusal.Refusal.{nowhere, Outcome, accepted}
use Rattle.tree_placed.specs.of_refusal.declared.Cause.TheVariants as cause
use Rattle.tree_placed.specs.of_tree_record.Kinds as kind
use Rattle.tree_placed.specs.of_tree_record.Record.{unmarked}
use Rattle.tree_placed.specs.of_tree_report.Report.{TestCaseStatus, success, non_success, skipped, TestCase, TestSuite, Report}
use Rattle.build_draft.specs.declared.Builder.{Builder}
use Rattle.build_draft.specs.declared.NonSuccessKind.{NonSuccessKind}
use Rattle.build_draft.specs.declared.FlakyOrRerun.{FlakyOrRerun}
use Rattle.build_draft.specs.declared.FlakyOrRerun.TheVariants as families
use Rattle.build_draft.specs.Draft.{Draft, asks, room_for, is_of, on_record_of, with_words}
use Rattle.build_draft.specs.Parts.{taking, run_kind, turn_runs}
use Rattle.build_draft.specs.Calls as call
use Rattle.build_draft.specs.Calls.{has_runs, family_of, flagged}
use Rattle.build_report.specs.Operations as report
use Rattle.build_report.specs.Operations.{last_in, open_case, has_main}
use Rattle.build_report.specs.Stands.{Stands, Comes, gives, Stand}
use Rattle.build_report.specs.Builders.{is_some, is_skipped, is_non_success, of_case, takes_runs, has_family, fits_records}
use Rattle.build_report.proofs.Coming.{comes-tests, comes-anyway}
use Rattle.build_report.proofs.Storing.{room-test}
use Rattle.build_report.proofs.Calling.{comes-same, comes-taking, comes-last}
use Rattle.build_report.proofs.Opens.{case_open}
use Rattle.build_report.proofs.RunReads.{Opened, no-case, one-case, opened, family_name, status-test, main-none_test, runs-test, family-read, family-test}
use Rattle.build_report.proofs.RunStores.{room-off, run-on-success, run-on-failure, family-flagged, family-turned}

module _ {b : Builder} {words text : List ℕ} {r : Report} (h : Stands b words text r) where
  abbrev d₀ : Draft
  d₀ = record { builder = b; words = words; text = text }

  -- ---- a run more
  -- on a failure or error
  abbrev on_main : NonSuccessKind → Outcome Draft
  on_main k = taking (run_kind (family_of d₀) k) (with_words d₀ (on_record_of b.main (unmarked 9) words))

  -- what follows where a case is open
  abbrev on_status : NonSuccessKind → Outcome Draft
  on_status k = cond (eqb b.main nowhere) (taking (run_kind families.Flaky k) d₀) (asks (call.is_non_success d₀) cause.NotLayout (on_main k))

  abbrev AddsRun : NonSuccessKind → Type 0
  AddsRun k =
      Comes (Stand (report.add_rerun k r)) ((takes_runs r, cause.NotLayout) ∷ (fits_records 1 r words, cause.RecordsSpent) ∷ [])
      (asks (is_of b words b.case kind.case) cause.NotLayout (on_status k))

  module _ {s : TestSuite} {c : TestCase} (e : last_in r.suites ≡ some s) (d : last_in s.cases ≡ some c) where
    open_is : open_case (last_in r.suites) ≡ some c
    open_is = ap open_case e ∙ d

    case-is : is_of b words b.case kind.case ≡ true
    case-is = case_open h ∙ ap is_some open_is

    takes-is : (t : TestCaseStatus) → c.status ≡ t → takes_runs r ≡ not (is_skipped t)
    takes-is t q = ap (of_case (λ (c : TestCase). not (is_skipped c.status))) open_is ∙ ap (λ (u : TestCaseStatus). not (is_skipped u)) q

    -- with a main, and without one
    branch : (k : NonSuccessKind) (t : TestCaseStatus) → c.status ≡ t
        → on_status k ≡ cond (not (has_main t)) (taking (run_kind families.Flaky k) d₀) (asks (call.is_non_success d₀) cause.NotLayout (on_main k))
    branch k t q = ap (λ (u : Bool). cond u (taking (run_kind families.Flaky k) d₀) (asks (call.is_non_success d₀) cause.NotLayout (on_main k))) (main-none_test h e d t q)

    adds_run : (k : NonSuccessKind) (t : TestCaseStatus) → c.status ≡ t → AddsRun k
    adds_run k (success runs) q =
        let κ : ℕ = run_kind families.Flaky k in
        comes-tests (is_of b words b.case kind.case) (takes_runs r) cause.NotLayout (case-is ∙ sym (takes-is (success runs) q))
        (λ y. comes-same (branch k (success runs) q)
        (comes-last (taking κ d₀)
        (comes-taking d₀ (λ g. accepted g) κ (fits_records 1 r words) (room-test h.stored)
        (λ l. gives (run-on-success h e d k q (room-test h.stored ∙ l))))))
    adds_run k (non_success j m g runs) q =
        let κ : ℕ = run_kind (family_name g) k in
        let off : Draft = with_words d₀ (on_record_of b.main (unmarked 9) words) in
        let room : ltb b.records (room_for off.words) ≡ fits_records 1 r words = ap (ltb b.records) (room-off h e d q) ∙ room-test h.stored in
        comes-anyway (is_of b words b.case kind.case) cause.NotLayout case-is
        (comes-same (branch k (non_success j m g runs) q)
        (comes-tests (call.is_non_success d₀) (takes_runs r) cause.NotLayout (status-test h e d (non_success j m g runs) q ∙ sym (takes-is (non_success j m g runs) q))
        (λ y. comes-same (ap (λ (f : FlakyOrRerun). taking (run_kind f k) off) (family-read h e d runs q))
        (comes-last (taking κ off)
        (comes-taking off (λ g. accepted g) κ (fits_records 1 r words) room
        (λ l. gives (run-on-failure h e d q k (room-test h.stored ∙ l))))))))
    adds_run k (skipped m) q =
        comes-anyway (is_of b words b.case kind.case) cause.NotLayout case-is
        (comes-same (branch k (skipped m) q)
        (comes-tests (call.is_non_success d₀) (takes_runs r) cause.NotLayout (status-test h e d (skipped m) q ∙ sym (takes-is (skipped m) q))
        (λ y. absurd (false≢true (sym (takes-is (skipped m) q) ∙ y)))))

  pub add_rerun : (k : NonSuccessKind)
      → Comes (Stand (report.add_rerun k r)) ((takes_runs r, cause.NotLayout) ∷ (fits_records 1 r words, cause.RecordsSpent) ∷ [])
      (call.add_rerun k (record { builder = b; words = words; text = text }))
  unfolding call.add_rerun
  add_rerun k = go (opened r)
    where
      go : Opened r → AddsRun k
      go (no-case q) =
          let n : takes_runs r ≡ false = ap (of_case (λ (c : TestCase). not (is_skipped c.status))) q in
          comes-tests (is_of b words b.case kind.case) (takes_runs r) cause.NotLayout (case_open h ∙ ap is_some q ∙ sym n) (λ y. absurd (false≢true (sym n ∙ y)))
      go (one-case {c = c} e d) = adds_run e d k c.status refl

  -- ---- another family, by whether there are runs
  abbrev family_words : FlakyOrRerun → Bool → List ℕ
  family_words f t = cond t (turn_runs f (b.main + 1) (b.records - (b.main + 1)) words) (on_record_of b.main (flagged f) words)

  -- of a failure or error, without runs and with some
  sets-family : (f : FlakyOrRerun) {s : TestSuite} {c : TestCase} → last_in r.suites ≡ some s → last_in s.cases ≡ some c → (t : TestCaseStatus) → c.status ≡ t → is_non_success t ≡ true
      → Comes (Stand (report.set_rerun_kind f r)) [] (accepted (with_words d₀ (family_words f (has_runs d₀))))
  sets-family f e d (success runs) q y = absurd (false≢true y)
  sets-family f e d (non_success k m g []) q y =
      comes-same (ap (λ (t : Bool). accepted (with_words d₀ (family_words f t))) (runs-test h e d [] q))
      (gives (family-flagged h e d f q))
  sets-family f e d (non_success k m g (x ∷ xs)) q y =
      comes-same (ap (λ (t : Bool). accepted (with_words d₀ (family_words f t))) (runs-test h e d (x ∷ xs) q))
      (gives (family-turned h e d f q))
  sets-family f e d (skipped m) q y = absurd (false≢true y)

  pub set_rerun_kind : (f : FlakyOrRerun)
      → Comes (Stand (report.set_rerun_kind f r)) ((has_family r, cause.NotLayout) ∷ []) (call.set_rerun_kind f (record { builder = b; words = words; text = text }))
  unfolding call.set_rerun_kind
  set_rerun_kind f = comes-tests (call.is_non_success d₀) (has_family r) cause.NotLayout (family-test h) (λ y. go (opened r) y)
    where
      go : Opened r → has_family r ≡ true → Comes (Stand (report.set_rerun_kind f r)) [] (accepted (with_words d₀ (family_words f (has_runs d₀))))
      go (no-case q) y = absurd (false≢true (sym (ap (of_case (λ (c : TestCase). is_non_success c.status)) q) ∙ y))
      go (one-case {c = c} e d) y =
          sets-family f e d c.status refl (sym (ap (of_case (λ (c : TestCase). is_non_success c.status)) (ap open_case e ∙ d)) ∙ y)
