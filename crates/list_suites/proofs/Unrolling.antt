-- What is shown of the records, one record after the other. Assumes nothing.
use Prim.Native.Nat.{ℕ}
use mathlib.Core.Path.{◌≡◌, refl}
use mathlib.Core.List.{List, [], ◌∷◌, ◌++◌}
use mathlib.Core.Bool.{true, false}
use Rattle.list_case.specs.of_tree_report.Fields.{is_suite, is_case}
use Rattle.list_case.specs.inside.Shown.{case_shown}
use Rattle.list_suites.specs.inside.Shown.{cases_shown, suite_shown, suites_shown}

module _ (text : List ℕ) where
  pub cases-over : cases_shown text [] ≡ []
  unfolding cases_shown
  cases-over = refl

  pub suites-over : suites_shown text [] ≡ []
  unfolding suites_shown
  suites-over = refl

  module _ (r : List ℕ) (rs : List (List ℕ)) where
    pub cases_end : is_suite r ≡ true → cases_shown text (r ∷ rs) ≡ []
    unfolding cases_shown
    cases_end e = rw e refl

    pub cases-case : is_suite r ≡ false → is_case r ≡ true → cases_shown text (r ∷ rs) ≡ case_shown text r rs ++ cases_shown text rs
    unfolding cases_shown case_shown
    cases-case e h = rw (e, h) refl

    pub cases_other : is_suite r ≡ false → is_case r ≡ false → cases_shown text (r ∷ rs) ≡ cases_shown text rs
    unfolding cases_shown
    cases_other e h = rw (e, h) refl

    pub suites-suite : is_suite r ≡ true → suites_shown text (r ∷ rs) ≡ suite_shown text r rs ++ suites_shown text rs
    unfolding suites_shown suite_shown
    suites-suite e = rw e refl

    pub suites-other : is_suite r ≡ false → suites_shown text (r ∷ rs) ≡ suites_shown text rs
    unfolding suites_shown
    suites-other e = rw e refl
