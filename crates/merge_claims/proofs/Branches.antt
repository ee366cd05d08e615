-- Elements of two lists of records, one behind the other. Assumes nothing.
use Prim.Native.Nat.{ℕ}
use mathlib.Core.Path.{◌≡◌, refl, ap}
use mathlib.Core.Bool.{Bool, true, false, cond}
use mathlib.Core.List.{List, [], ◌∷◌, ◌++◌}
use Rattle.tree_merge.specs.of_tree_report.ReportOf.{until, branches}
use Rattle.tree_merge.proofs.of_tree_report.EncodeLists.{Starts}

module _ (p : List ℕ → Bool) where
  until-starts : (ys : List (List ℕ)) → Starts p ys → until p ys ≡ []
  until-starts [] s = refl
  until-starts (y ∷ ys) s = rw s refl

  until-append : (xs ys : List (List ℕ)) → Starts p ys → until p (xs ++ ys) ≡ until p xs
  until-append [] ys s = until-starts ys s
  until-append (x ∷ xs) ys s = ap (λ (l : List (List ℕ)). cond (p x) [] (x ∷ l)) (until-append xs ys s)

  -- where the second list begins with an element, or is empty, none of it belongs to the first list's last element
  pub branches-append : (xs ys : List (List ℕ)) → Starts p ys → branches p (xs ++ ys) ≡ branches p xs ++ branches p ys
  branches-append [] ys s = refl
  branches-append (x ∷ xs) ys s = go (p x) (until-append xs ys s) (branches-append xs ys s)
    where
      go : (b : Bool) → until p (xs ++ ys) ≡ until p xs → branches p (xs ++ ys) ≡ branches p xs ++ branches p ys
          → cond b (record { head = x; below = until p (xs ++ ys) } ∷ branches p (xs ++ ys)) (branches p (xs ++ ys))
          ≡ cond b (record { head = x; below = until p xs } ∷ branches p xs) (branches p xs) ++ branches p ys
      go true u e = λ i. record { head = x; below = u i } ∷ e i
      go false u e = e
