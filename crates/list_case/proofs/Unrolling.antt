-- What is shown of a case's runs, one record after the other. Assumes nothing.
use Prim.Native.Nat.{ℕ}
use mathlib.Core.Path.{◌≡◌, refl}
use mathlib.Core.List.{List, [], ◌∷◌, ◌++◌}
use mathlib.Core.Bool.{true, false}
use Rattle.list_status.specs.of_tree_report.Fields.{is_run}
use Rattle.list_status.specs.of_list_text.Listing.{run_text}
use Rattle.list_status.specs.of_list_sums.inside.Summed.{ends_case, run_listed}
use Rattle.list_case.specs.inside.Shown.{runs_shown}
use Rattle.list_status.proofs.of_list_sums.Sums.{own-end, own-next}

pub runs-over : runs_shown [] ≡ []
unfolding runs_shown
runs-over = refl

module _ (r : List ℕ) (rs : List (List ℕ)) where
  pub runs-end : ends_case r ≡ true → runs_shown (r ∷ rs) ≡ []
  unfolding runs_shown
  runs-end e = rw (own-end r rs e) refl

  pub runs-run : ends_case r ≡ false → is_run r ≡ true → runs_shown (r ∷ rs) ≡ run_text (run_listed r) ++ runs_shown rs
  unfolding runs_shown
  runs-run e h = rw (own-next r rs e, h) refl

  pub runs_other : ends_case r ≡ false → is_run r ≡ false → runs_shown (r ∷ rs) ≡ runs_shown rs
  unfolding runs_shown
  runs_other e h = rw (own-next r rs e, h) refl
