-- What is shown of a case, from its record and those behind it. Definitions only.
use Rattle.std.specs.Prelude.{ℕ, List, [], ◌∷◌, ◌++◌, map}
use Rattle.list_status.specs.of_names.Bytes.{bytes}
use Rattle.list_status.specs.of_tree_record.Words as word
use Rattle.list_status.specs.of_tree_record.Record.{text_at}
use Rattle.list_status.specs.of_tree_report.Fields.{is_run, second, time}
use Rattle.list_status.specs.of_tree_report.ReportOf.{only, case_of}
use Rattle.list_status.specs.of_list_text.Listing.{public_case, quoted, or_dash, timed, fields, run_word, run_texts, case_text}
use Rattle.list_status.specs.of_list_sums.inside.Summed.{own, run_kind_of, run_listed}

-- ---- runs
-- the runs of a case, from the records behind it
unfoldable pub runs_shown : List (List ℕ) → List ℕ
runs_shown rs = run_texts (map run_listed (only is_run (own rs)))

-- a run's line up to its kind
abbrev pub run_opened : ℕ → List ℕ
run_opened k = 10 ∷ (bytes "(run" ++ fields (run_word (run_kind_of k) ∷ []))

-- ---- a case
module _ (text : List ℕ) where
  -- a case's line up to its time
  abbrev pub case_opened : List ℕ → List ℕ
  case_opened r = 10 ∷ (bytes "(case" ++ fields (quoted (text_at text r word.name) ∷ or_dash quoted (second text r) ∷ or_dash timed (time r) ∷ []))

  -- a case, with the records behind it
  unfoldable pub case_shown : List ℕ → List (List ℕ) → List ℕ
  case_shown r rs = case_text (public_case (case_of text (record { head = r; below = own rs })))
