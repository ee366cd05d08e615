-- What is shown of the records, one record after the other. Assumes nothing.
use Prim.Native.Nat.{ℕ}
use mathlib.Core.Path.{◌≡◌, refl, ap}
use mathlib.Core.List.{List, [], ◌∷◌, ◌++◌}
use mathlib.Core.Bool.{true, false}
use Rattle.tree_layout.specs.of_tree_report.Fields.{live, first, counts}
use Rattle.tree_layout.specs.of_tree_report.Layout.{used_text, records_of}
use Rattle.tree_layout.specs.of_tree_report.ReportOf.{report_of}
use Rattle.list_suites.specs.of_list_text.Listing.{PublicSuite, suite_texts, header, ending, render_public, render, listing_of}
use Rattle.list_suites.specs.inside.Shown.{suites_shown}
use Rattle.lister.specs.inside.Shown.{whole_shown, report_shown}
use Rattle.lister.proofs.Dead.{suites-live}

module _ (text : List ℕ) where
  pub report-over : report_shown text [] ≡ []
  unfolding report_shown
  report-over = refl

  module _ (r : List ℕ) (rs : List (List ℕ)) where
    pub report-dead : live r ≡ false → report_shown text (r ∷ rs) ≡ report_shown text rs
    unfolding report_shown
    report-dead e = rw e refl

    pub report-live : live r ≡ true → report_shown text (r ∷ rs) ≡ whole_shown text r rs
    unfolding report_shown whole_shown suites_shown render render_public
    report-live e = rw e (ap (λ (l : List PublicSuite). header (first text r) (counts r) ++ (suite_texts l ++ ending)) (suites-live text rs))

pub listing-shown : (words text : List ℕ) → listing_of words text ≡ report_shown (used_text text) (records_of words)
unfolding listing_of report_of report_shown
listing-shown words text = refl
