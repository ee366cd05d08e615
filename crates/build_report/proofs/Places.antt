-- Where the marks of a builder stand: at the records of their elements. Assumes nothing.
use Prim.Native.Nat.{ℕ, ◌+◌, ◌-◌}
use mathlib.Core.Bool.{true, false, ◌||◌}
use mathlib.Core.List.{List, [], ◌∷◌, ◌++◌, map, append_assoc, map-append}
use mathlib.Core.Option.{some}
use mathlib.Core.Path.{◌≡◌, refl, sym, ap, ◌∙◌}
use native.Mathlib.Omega.{arith}
use lib.Dec.{eqb}
use lib.ListN.{length, length-append}
use Rattle.tree_placed.specs.of_tree_record.Kinds as kind
use Rattle.tree_placed.specs.of_tree_report.Report.{Pair, NonSuccessKind, failure, error, FlakyOrRerun, flaky, rerun, TestCaseStatus, success, non_success, skipped, Report}
use Rattle.tree_placed.specs.of_tree_report.inside.Cells.{Row, pair_row_of, kind_of_main, kind_of_run, status_rows, rows_of}
use Rattle.build_draft.specs.declared.TextField.{TextField}
use Rattle.build_draft.specs.declared.TextField.TheVariants as field
use Rattle.build_draft.specs.Parts.{is_status, is_run, has_text}
use Rattle.build_report.specs.Operations.{last_in, is_empty, has_main, runs_in, report, suite, case, nothing}
use Rattle.build_report.specs.Stands.{all_but_last}
use Rattle.build_report.proofs.Lasts.{last-split}
use Rattle.build_report.proofs.PlaceTypes.{SameFields, Place, at_pair}

-- ---- kinds with the same setters
pub same-fields : (k k' : ℕ) → eqb k kind.report ≡ eqb k' kind.report → eqb k kind.suite ≡ eqb k' kind.suite → eqb k kind.case ≡ eqb k' kind.case
    → is_status k ≡ is_status k' → is_run k ≡ is_run k' → SameFields k k'
same-fields k k' a b c d e = record { text = go; times = λ i. a i || (b i || (c i || e i)) }
  where
    go : (f : TextField) → has_text k f ≡ has_text k' f
    go field.Classname = c
    go field.Message = d
    go field.Ty = d
    go field.Description = d
    go field.StackTrace = e
    go field.SystemOut = λ i. b i || (c i || e i)
    go field.SystemErr = λ i. b i || (c i || e i)
    go field.Hostname = b

pub same_kind : (k : ℕ) → SameFields k k
same_kind k = record { text = λ f. refl; times = refl }

pub same-main : (k : NonSuccessKind) → SameFields (kind_of_main k) kind.failure
same-main failure = same_kind 6
same-main error = same-fields 7 6 refl refl refl refl refl

pub same-run : (g : FlakyOrRerun) (k : NonSuccessKind) → SameFields (kind_of_run g k) kind.flaky_failure
same-run flaky failure = same_kind 9
same-run flaky error = same-fields 10 9 refl refl refl refl refl
same-run rerun failure = same-fields 11 9 refl refl refl refl refl
same-run rerun error = same-fields 12 9 refl refl refl refl refl

pub same-case-property : SameFields kind.case_property kind.suite_property
same-case-property = same-fields 5 4 refl refl refl refl refl

pub same-suite-extra : SameFields kind.suite_extra kind.suite_property
same-suite-extra = same-fields 13 4 refl refl refl refl refl

pub same-case-extra : SameFields kind.case_extra kind.suite_property
same-case-extra = same-fields 14 4 refl refl refl refl refl

-- ---- the end of a list of rows
pub last-there : {A : Type 0} (xs : List A) → is_empty xs ≡ false → (x : A) × (last_in xs ≡ some x)
last-there [] e = let z : ◌≡◌ {A = ℕ} 0 1 = cc in absurd (omega arith)
last-there (x ∷ []) e = (x, refl)
last-there (x ∷ (y ∷ ys)) e = last-there (y ∷ ys) refl

-- a pair's row stands last
module _ (r : Report) (κ : ℕ) (s : SameFields κ kind.suite_property) where
  pub pair-last : (before : List Row) (ps : List Pair) → is_empty ps ≡ false → rows_of r ≡ before ++ map (pair_row_of κ) ps → {i : ℕ} → i ≡ length (rows_of r) - 1 → Place r i nothing
  pair-last before ps e h {i} n =
      let l = last-there ps e in
      let front : List Row = before ++ map (pair_row_of κ) (all_but_last ps) in
      let row : Row = pair_row_of κ l.0 in
      let t : rows_of r ≡ front ++ (row ∷ []) =
      h ∙ ap (λ (l : List Pair). before ++ map (pair_row_of κ) l) (last-split ps l.1) ∙ ap (λ (l : List Row). before ++ l) (map-append (pair_row_of κ) (all_but_last ps) (l.0 ∷ []))
      ∙ sym (append_assoc before (map (pair_row_of κ) (all_but_last ps)) (row ∷ [])) in
      let m : length (rows_of r) ≡ length front + 1 = ap length t ∙ length-append front (row ∷ []) in
      at_pair front [] κ l.0 t (omega arith) s

-- how many rows a status has without runs
pub main-alone : (t : TestCaseStatus) → is_empty (runs_in t) ≡ true → has_main t ≡ true → length (status_rows t) ≡ 1
main-alone (success runs) e h = let z : ◌≡◌ {A = ℕ} 0 1 = cc in absurd (omega arith)
main-alone (non_success k m g []) e h = refl
main-alone (non_success k m g (x ∷ xs)) e h = let z : ◌≡◌ {A = ℕ} 0 1 = cc in absurd (omega arith)
main-alone (skipped m) e h = refl

pub no-status : (t : TestCaseStatus) → is_empty (runs_in t) ≡ true → has_main t ≡ false → status_rows t ≡ []
no-status (success []) e h = refl
no-status (success (x ∷ xs)) e h = let z : ◌≡◌ {A = ℕ} 0 1 = cc in absurd (omega arith)
no-status (non_success k m g runs) e h = let z : ◌≡◌ {A = ℕ} 0 1 = cc in absurd (omega arith)
no-status (skipped m) e h = let z : ◌≡◌ {A = ℕ} 0 1 = cc in absurd (omega arith)
