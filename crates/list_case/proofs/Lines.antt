-- The lines of a case and its runs, by the parts in which they are put. Assumes nothing.
use Prim.Native.Nat.{ℕ, suc, ◌+◌}
use mathlib.Core.Path.{◌≡◌, refl, sym, ap, ◌∙◌}
use mathlib.Core.List.{List, [], ◌∷◌, ◌++◌, append_assoc, append-nil, map}
use mathlib.Core.Bool.{Bool, true, false, cond, ◌||◌, true≢false}
use native.Mathlib.Omega.{arith}
use lib.Dec.{eqb}
use lib.ListN.{length}
use Rattle.list_status.specs.of_names.Bytes.{bytes}
use Rattle.list_status.specs.of_digits.Digits.{decimal}
use Rattle.list_status.specs.of_tree_report.Fields.{kind_of, is_main, is_run, text_at, second, time}
use Rattle.list_status.specs.of_tree_report.Report.{TestCaseStatus, failure, error}
use Rattle.list_status.specs.of_tree_report.ReportOf.{only, status_of}
use Rattle.list_status.specs.of_list_text.Listing.{Status, RunKind, PublicRun, status_shown, run_kind_shown, runs_shown, quoted, or_dash, timed, fields, status_word, kind_word, run_word, close, run_text, run_texts, case_text}
use Rattle.list_status.proofs.of_list_values.Joining.{three-parts, fields_split}
use Rattle.list_status.specs.of_list_sums.inside.Summed.{own, summary, is_skipped_by, status_by, kind_by, runs_by, summed_on, run_listed}
use Rattle.list_case.specs.inside.Shown.{run_opened, case_opened, case_shown}
use Rattle.list_case.specs.inside.Shown as shown
use Rattle.list_status.proofs.of_list_sums.Sums.{status-summed, kind-summed, runs-summed}

pub run-parts : (r : List ℕ) → run_opened (kind_of r) ++ ((32 ∷ or_dash timed (time r)) ++ close) ≡ run_text (run_listed r)
unfolding run_text
run-parts r = simp (append_assoc, append-nil)

pub run-failure : (kind : ℕ) → (eqb kind 9 || eqb kind 11) ≡ true → bytes "\n(run failure" ≡ run_opened kind
run-failure kind e = go (eqb kind 9) (eqb kind 11) e
  where
    go : (a b : Bool) → (a || b) ≡ true → bytes "\n(run failure" ≡ 10 ∷ (bytes "(run" ++ fields (run_word (cond a failure (cond b failure error)) ∷ []))
    go true b x = refl
    go false true x = refl
    go false false x = absurd (true≢false (sym x))

pub run-error : (kind : ℕ) → (eqb kind 9 || eqb kind 11) ≡ false → bytes "\n(run error" ≡ run_opened kind
run-error kind e = go (eqb kind 9) (eqb kind 11) e
  where
    go : (a b : Bool) → (a || b) ≡ false → bytes "\n(run error" ≡ 10 ∷ (bytes "(run" ++ fields (run_word (cond a failure (cond b failure error)) ∷ []))
    go true b x = absurd (true≢false x)
    go false true x = absurd (true≢false x)
    go false false x = refl

-- ---- a case
texts-cond : (b : Bool) (l : List PublicRun) → run_texts (cond b [] l) ≡ cond b [] (run_texts l)
texts-cond true l = refl
texts-cond false l = refl

length-map : (l : List (List ℕ)) → length (map run_listed l) ≡ length l
length-map [] = refl
length-map (r ∷ l) = ap suc (length-map l)

length-cond : (b : Bool) (l : List (List ℕ)) → length (cond b [] (map run_listed l)) ≡ cond b 0 (0 + length l)
length-cond true l = refl
length-cond false l = length-map l ∙ omega arith

module _ (text r : List ℕ) (rs : List (List ℕ)) where
  abbrev opening : List (List ℕ)
  opening = quoted (text_at text r 2) ∷ or_dash quoted (second text r) ∷ or_dash timed (time r) ∷ []

  abbrev state : TestCaseStatus
  state = status_of text (only is_main (own rs)) (only is_run (own rs))

  abbrev lined : Status → RunKind → ℕ → List ℕ → List ℕ
  lined st kd n runs = 10 ∷ (bytes "(case" ++ (fields (opening ++ (status_word st ∷ kind_word kd ∷ decimal n ∷ [])) ++ (runs ++ close)))

  case-lined : lined (status_shown state) (run_kind_shown state) (length (runs_shown state)) (run_texts (runs_shown state)) ≡ case_shown text r rs
  unfolding case_text case_shown
  case-lined = refl

  runs-lined : (st : Status) (kd : RunKind)
      → lined st kd (length (runs_shown state)) (run_texts (runs_shown state)) ≡ lined st kd (runs_by (summary rs)) (cond (is_skipped_by (summary rs)) [] (shown.runs_shown rs))
  unfolding shown.runs_shown summed_on
  runs-lined st kd =
      let b = is_skipped_by (summary rs) in
      let l = only is_run (own rs) in
      ap (λ (x : List PublicRun). lined st kd (length x) (run_texts x)) (runs-summed text (only is_main (own rs)) l)
      ∙ ap (λ (n : ℕ). lined st kd n (run_texts (cond b [] (map run_listed l)))) (length-cond b l)
      ∙ ap (lined st kd (cond b 0 (0 + length l))) (texts-cond b (map run_listed l))

  case-summed : lined (status_by (summary rs)) (kind_by (summary rs)) (runs_by (summary rs)) (cond (is_skipped_by (summary rs)) [] (shown.runs_shown rs)) ≡ case_shown text r rs
  case-summed =
      sym (runs-lined (status_by (summary rs)) (kind_by (summary rs)))
      ∙ ap (λ (x : Status). lined x (kind_by (summary rs)) (length (runs_shown state)) (run_texts (runs_shown state))) (sym (status-summed text (only is_main (own rs)) (only is_run (own rs))))
      ∙ ap (λ (x : RunKind). lined (status_shown state) x (length (runs_shown state)) (run_texts (runs_shown state))) (sym (kind-summed text (only is_main (own rs)) (only is_run (own rs))))
      ∙ case-lined

  abbrev closing : List (List ℕ)
  closing = status_word (status_by (summary rs)) ∷ kind_word (kind_by (summary rs)) ∷ decimal (runs_by (summary rs)) ∷ []

  split-lined : (runs : List ℕ) → case_opened text r ++ (fields closing ++ (runs ++ close)) ≡ lined (status_by (summary rs)) (kind_by (summary rs)) (runs_by (summary rs)) runs
  split-lined runs = ap (λ (x : List ℕ). 10 ∷ (bytes "(case" ++ x)) (fields_split opening closing (runs ++ close))

  pub skipped-parts : is_skipped_by (summary rs) ≡ true → case_opened text r ++ (fields closing ++ close) ≡ case_shown text r rs
  skipped-parts e = split-lined [] ∙ ap (λ (b : Bool). lined (status_by (summary rs)) (kind_by (summary rs)) (runs_by (summary rs)) (cond b [] (shown.runs_shown rs))) (sym e) ∙ case-summed

  pub case-parts : is_skipped_by (summary rs) ≡ false → case_opened text r ++ (fields closing ++ (shown.runs_shown rs ++ close)) ≡ case_shown text r rs
  case-parts e = split-lined (shown.runs_shown rs) ∙ ap (λ (b : Bool). lined (status_by (summary rs)) (kind_by (summary rs)) (runs_by (summary rs)) (cond b [] (shown.runs_shown rs))) (sym e) ∙ case-summed

  pub opened-parts : bytes "\n(case" ++ ((32 ∷ quoted (text_at text r 2)) ++ ((32 ∷ or_dash quoted (second text r)) ++ (32 ∷ or_dash timed (time r)))) ≡ case_opened text r
  opened-parts = ap (λ (x : List ℕ). bytes "\n(case" ++ x) (three-parts (quoted (text_at text r 2)) (or_dash quoted (second text r)) (or_dash timed (time r)))
