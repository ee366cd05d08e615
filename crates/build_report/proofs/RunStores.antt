-- A run more, the flaky bit and runs of another family: the areas and the marks. Assumes nothing.
use Prim.Native.Nat.{ℕ, ◌+◌, ◌-◌, ◌/◌, min}
use mathlib.Core.Bool.{Bool, true, false, ◌&&◌}
use mathlib.Core.List.{List, [], ◌∷◌, ◌++◌, map, append_assoc, append-nil}
use mathlib.Core.Option.{some}
use mathlib.Core.Path.{◌≡◌, refl, sym, ap, ap₂, subst, ◌∙◌}
use native.Mathlib.Omega.{arith}
use lib.Dec.{ltb}
use lib.ListN.{length, length-append, length-map}
use Rattle.tree_placed.specs.of_tree_record.Record.{unmarked}
use Rattle.tree_placed.specs.of_tree_report.Report.{NonSuccessKind, FlakyOrRerun, flaky, rerun, TestRerun, Reason, TestCaseStatus, success, non_success, skipped, TestCase, TestSuite, Report}
use Rattle.tree_placed.specs.of_tree_report.inside.Cells.{Row, main_row, kind_of_main, run_row, is_flaky_alone, status_rows, every, fits_row, rows_of}
use Rattle.tree_placed.specs.inside.Placed.{Placed, rows_in, InTexts}
use Rattle.tree_placed.specs.inside.Changed.{blank_row, blank_placed, with_kind, with_flaky}
use Rattle.build_draft.specs.declared.Builder.{Builder}
use Rattle.build_draft.specs.declared.NonSuccessKind.{NonSuccessKind as KindOfRun}
use Rattle.build_draft.specs.declared.NonSuccessKind.TheVariants as kinds
use Rattle.build_draft.specs.declared.FlakyOrRerun.{FlakyOrRerun as Family}
use Rattle.build_draft.specs.declared.FlakyOrRerun.TheVariants as families
use Rattle.build_draft.specs.Draft.{room_for, on_record_of, with_words}
use Rattle.build_draft.specs.Parts.{run_kind, turn_runs}
use Rattle.build_draft.specs.Calls.{flagged}
use Rattle.build_report.specs.Operations.{last_in, family_for, new_run, on_status, with_run, with_family, add_rerun, set_rerun_kind}
use Rattle.build_report.specs.Stands.{suite_mark, case_mark, main_mark, Marked, Stored, Stands, Stand}
use Rattle.build_report.proofs.SpotTypes.{Spot}
use Rattle.build_report.proofs.Openings.{up_to_status, length-up_to-status, rows-on-status}
use Rattle.build_report.proofs.Marks.{marked-status, main-more, main-family}
use Rattle.build_report.proofs.Spots.{spot-main, spot-family}
use Rattle.build_report.proofs.RunRows.{turned_row, turned-runs, rows-run-success, rows_run, rows-main, rows-family, no_flag}
use Rattle.build_report.proofs.Holding.{Holding, holding-more, holding-turned, turned_placed, one_more_record}
use Rattle.build_report.proofs.Storing.{holding, stored, divide, rows_append, row_fits, Becomes, stored-set, stored_more}
use Rattle.build_report.proofs.Becoming.{becomes_on, flaky-becomes, unflaky_becomes}
use Rattle.build_report.proofs.Calling.{taken_draft}
use Rattle.build_report.proofs.Summing.{length-at_spot}
use Rattle.build_report.proofs.RunReads.{family_name, draft, main-number, runs-many}

-- ---- rows
-- a new run has nothing but its kind
new-run : (g : FlakyOrRerun) (k : KindOfRun) → blank_row (run_kind (family_name g) k) ≡ run_row g (new_run k)
new-run flaky kinds.Failure = refl
new-run flaky kinds.Error = refl
new-run rerun kinds.Failure = refl
new-run rerun kinds.Error = refl

blank-fits : (κ : ℕ) → fits_row (blank_row κ) ≡ true
unfolding fits_row
blank-fits κ = refl

new-fits : (g : FlakyOrRerun) (k : KindOfRun) → fits_row (run_row g (new_run k)) ≡ true
new-fits g k = ap fits_row (sym (new-run g k)) ∙ blank-fits (run_kind (family_name g) k)

-- kind and flaky bit fit in any case
kind_fits : (κ : ℕ) (row : Row) → fits_row (with_kind κ row) ≡ fits_row row
unfolding fits_row
kind_fits κ row = refl

flag-fits : (t : Bool) (row : Row) → fits_row (with_flaky t row) ≡ fits_row row
unfolding fits_row
flag-fits t row = refl

turned-fit : (f : Family) (front rows : List Row) → every fits_row (front ++ map (turned_row f) rows) ≡ every fits_row (front ++ rows)
turned-fit f [] [] = refl
turned-fit f [] (row ∷ rows) = ap₂ (λ (x y : Bool). x && y) (kind_fits (turned_row f row).kind row) (turned-fit f [] rows)
turned-fit f (x ∷ front) rows = ap (λ (t : Bool). fits_row x && t) (turned-fit f front rows)

turned_rows : (f : Family) (ps : List Placed) → rows_in (map (turned_placed f) ps) ≡ map (turned_row f) (rows_in ps)
turned_rows f [] = refl
turned_rows f (p ∷ ps) = ap (λ (l : List Row). turned_row f p.row ∷ l) (turned_rows f ps)

-- a failure or error with the flaky bit off
abbrev unflagged : TestCaseStatus → TestCaseStatus
unflagged (success runs) = success runs
unflagged (non_success k m g []) = non_success k m rerun []
unflagged (non_success k m g (x ∷ xs)) = non_success k m g (x ∷ xs)
unflagged (skipped m) = skipped m

unflagged-rows : (k : NonSuccessKind) (m : Reason) (g : FlakyOrRerun) (runs : List TestRerun) → status_rows (unflagged (non_success k m g runs)) ≡ main_row (kind_of_main k) false m ∷ map (run_row g) runs
unflagged-rows k m g [] = refl
unflagged-rows k m g (x ∷ xs) = ap (λ (t : Bool). main_row (kind_of_main k) t m ∷ map (run_row g) (x ∷ xs)) (no_flag g x xs)

-- a place, said otherwise
spot-at : {r r' : Report} {i n : ℕ} {row row' : Row} → Spot r n row r' row' → i ≡ n → Spot r i row r' row'
spot-at t e = record { front = t.front; back = t.back; here = t.here; there = t.there; at = t.at ∙ sym e }

-- how many records there are doesn't matter for the marks
more-marks : {b : Builder} {r : Report} → Marked b r → Marked (one_more_record b) r
more-marks m = record { report = m.report; suite = m.suite; case = m.case; main = m.main }

-- the stores
unmark_becomes : {texts : List ℕ} {row : Row} (p : Placed) → p.row ≡ row → InTexts texts p → Becomes (unmarked 9) texts p (with_flaky false row)
unmark_becomes p e i = becomes_on (unflaky_becomes i) (ap (with_flaky false) e)

flag-becomes : (f : Family) {texts : List ℕ} {row : Row} (p : Placed) → p.row ≡ row → InTexts texts p → Becomes (flagged f) texts p (with_flaky (is_flaky_alone (family_for f) []) row)
flag-becomes families.Flaky p e i = becomes_on (flaky-becomes i) (ap (with_flaky true) e)
flag-becomes families.Rerun p e i = becomes_on (unflaky_becomes i) (ap (with_flaky false) e)

module _ {b : Builder} {words text : List ℕ} {r : Report} (h : Stands b words text r) {s : TestSuite} {c : TestCase} (e : last_in r.suites ≡ some s) (d : last_in s.cases ≡ some c) where
  -- ---- a run more
  marks-run : (k : KindOfRun) → Marked (one_more_record b) (add_rerun k r)
  marks-run k = more-marks (marked-status (with_run (new_run k)) r e d (main-more (new_run k) c.status) h.marks)

  -- on success
  pub run-on-success : (k : KindOfRun) {runs : List TestRerun} → c.status ≡ success runs → ltb b.records (room_for words) ≡ true
      → Stand (add_rerun k r) (taken_draft (run_kind families.Flaky k) (draft h))
  run-on-success k q l =
      let κ : ℕ = run_kind families.Flaky k in
      record {
        stored = stored_more h.stored (blank_placed κ) (holding-more κ l (holding h.stored)) (new-run flaky k) (rows-run-success r e d q (new_run k)) (new-fits flaky k);
        marks = marks-run k;
      }

  module _ {k : NonSuccessKind} {m : Reason} {g : FlakyOrRerun} {runs : List TestRerun} (q : c.status ≡ non_success k m g runs) where
    main-is : b.main ≡ main_mark (case_mark (suite_mark r) s) c
    main-is = main-number h e d (non_success k m g runs) q

    spot_unflagged : Spot r b.main (main_row (kind_of_main k) (is_flaky_alone g runs) m) (on_status unflagged r) (main_row (kind_of_main k) false m)
    spot_unflagged =
        spot-at (spot-main r e d unflagged (ap status_rows q) (ap (λ (t : TestCaseStatus). status_rows (unflagged t)) q ∙ unflagged-rows k m g runs)) main-is

    -- the main's bit goes off
    abbrev pub off_words : List ℕ
    off_words = on_record_of b.main (unmarked 9) words

    stored-off : Stored b off_words text (on_status unflagged r)
    stored-off =
        stored-set h.stored spot_unflagged (unmarked 9)
        (flag-fits false (main_row (kind_of_main k) (is_flaky_alone g runs) m) ∙ row_fits h.stored spot_unflagged) unmark_becomes

    pub room-off : room_for off_words ≡ room_for words
    room-off = ap (λ (n : ℕ). min (n / 32) 65536) (length-at_spot h.stored spot_unflagged (unmarked 9) unmark_becomes)

    rows-off : rows_of (on_status unflagged r) ≡ up_to_status r s c ++ (main_row (kind_of_main k) false m ∷ map (run_row g) runs)
    rows-off =
        rows-on-status r e d unflagged
        ∙ ap (λ (l : List Row). up_to_status r s c ++ l) (ap (λ (t : TestCaseStatus). status_rows (unflagged t)) q ∙ unflagged-rows k m g runs)

    -- and the run is of its family
    pub run-on-failure : (j : KindOfRun) → ltb b.records (room_for words) ≡ true → Stand (add_rerun j r) (taken_draft (run_kind (family_name g) j) (with_words (draft h) off_words))
    run-on-failure j l =
        let κ : ℕ = run_kind (family_name g) j in
        record {
          stored =
              stored_more stored-off (blank_placed κ) (holding-more κ (ap (ltb b.records) room-off ∙ l) (holding stored-off)) (new-run g j)
              (rows_run r e d q (new_run j) ∙ ap (λ (l : List Row). l ++ (run_row g (new_run j) ∷ [])) (sym rows-off)) (new-fits g j);
          marks = marks-run j;
        }

  -- ---- another family
  marks-family : (f : Family) → Marked b (set_rerun_kind f r)
  marks-family f = marked-status (with_family (family_for f)) r e d (main-family (family_for f) c.status) h.marks

  -- without runs
  pub family-flagged : (f : Family) {k : NonSuccessKind} {m : Reason} {g : FlakyOrRerun} → c.status ≡ non_success k m g []
      → Stand (set_rerun_kind f r) (with_words (draft h) (on_record_of b.main (flagged f) words))
  family-flagged f {k} {m} {g} q =
      let t = spot-at (spot-family r e d (family_for f) q) (main-is q) in
      record {
        stored = stored-set h.stored t (flagged f) (flag-fits (is_flaky_alone (family_for f) []) (main_row (kind_of_main k) (is_flaky_alone g []) m) ∙ row_fits h.stored t) (flag-becomes f);
        marks = marks-family f;
      }

  -- with runs
  module _ (f : Family) {k : NonSuccessKind} {m : Reason} {g : FlakyOrRerun} {x : TestRerun} {xs : List TestRerun} (q : c.status ≡ non_success k m g (x ∷ xs)) where
    -- the rows up to the main, which stay, and those of the runs
    abbrev staying : List Row
    staying = up_to_status r s c ++ (main_row (kind_of_main k) false m ∷ [])

    behind-main : (g' : FlakyOrRerun) → up_to_status r s c ++ (main_row (kind_of_main k) (is_flaky_alone g' (x ∷ xs)) m ∷ map (run_row g') (x ∷ xs)) ≡ staying ++ map (run_row g') (x ∷ xs)
    behind-main g' =
        ap (λ (t : Bool). up_to_status r s c ++ (main_row (kind_of_main k) t m ∷ map (run_row g') (x ∷ xs))) (no_flag g' x xs)
        ∙ sym (append_assoc (up_to_status r s c) (main_row (kind_of_main k) false m ∷ []) (map (run_row g') (x ∷ xs)))

    rows_before : rows_of r ≡ staying ++ map (run_row g) (x ∷ xs)
    rows_before = rows-main r e d q ∙ behind-main g

    rows-after : rows_of (set_rerun_kind f r) ≡ staying ++ map (run_row (family_for f)) (x ∷ xs)
    rows-after = rows-family r e d (family_for f) q ∙ behind-main (family_for f)

    fits_after : every fits_row (rows_of (set_rerun_kind f r)) ≡ true
    fits_after =
        ap (every fits_row) (rows-after ∙ ap (λ (l : List Row). staying ++ l) (sym (turned-runs f g (x ∷ xs))))
        ∙ turned-fit f staying (map (run_row g) (x ∷ xs)) ∙ ap (every fits_row) (sym rows_before) ∙ h.stored.sound

    pub family-turned : Stand (set_rerun_kind f r) (with_words (draft h) (turn_runs f (b.main + 1) (b.records - (b.main + 1)) words))
    family-turned =
        let v = divide h.stored.placed staying (map (run_row g) (x ∷ xs)) (h.stored.rows ∙ rows_before) in
        let w : Holding b words text (v.before ++ (v.behind ++ [])) h.stored.texts =
        subst (λ (l : List Placed). Holding b words text l h.stored.texts) (v.whole ∙ ap (λ (l : List Placed). v.before ++ l) (sym (append-nil v.behind))) (holding h.stored) in
        let at : length v.before ≡ b.main + 1 =
        sym (length-map v.before (λ (p : Placed). p.row)) ∙ ap length v.front-rows ∙ length-append (up_to_status r s c) (main_row (kind_of_main k) false m ∷ [])
        ∙ ap (λ (n : ℕ). n + 1) (length-up_to-status r s c ∙ sym (main-is q)) in
        let n : length v.behind ≡ length (x ∷ xs) =
        sym (length-map v.behind (λ (p : Placed). p.row)) ∙ ap length v.back-rows ∙ length-map (x ∷ xs) (run_row g) in
        let a : b.records ≡ b.main + 1 + length (x ∷ xs) = runs-many h e d q in
        let turned : List Placed = map (turned_placed f) v.behind in
        record {
          stored =
              stored (set_rerun_kind f r) (holding-turned f v.before v.behind [] at (omega arith) w)
              (rows_append v.before (turned ++ [])
              ∙ ap₂ (λ (i j : List Row). i ++ j) v.front-rows
              (ap rows_in (append-nil turned) ∙ turned_rows f v.behind ∙ ap (map (turned_row f)) v.back-rows ∙ turned-runs f g (x ∷ xs))
              ∙ sym rows-after)
              fits_after;
          marks = marks-family f;
        }
