-- Fields one behind the other. Assumes nothing.
use Prim.Native.Nat.{ℕ}
use mathlib.Core.Path.{◌≡◌, refl, sym, ap, ◌∙◌}
use mathlib.Core.List.{List, [], ◌∷◌, ◌++◌, append_assoc, append-nil}
use Rattle.list_text.specs.of_digits.Digits.{decimal}
use Rattle.list_text.specs.of_tree_report.Report.{Counts}
use Rattle.list_text.specs.Listing.{or_dash, fields, count_fields}

pub counts-parts : (c : Counts)
    → (32 ∷ decimal c.tests) ++ ((32 ∷ decimal c.failures) ++ ((32 ∷ decimal c.errors) ++ ((32 ∷ decimal c.skipped) ++ (32 ∷ or_dash decimal c.disabled)))) ≡ fields (count_fields c)
counts-parts c = simp append-nil

-- three texts with a space before each are three fields
pub three-parts : (a b c : List ℕ) → (32 ∷ a) ++ ((32 ∷ b) ++ (32 ∷ c)) ≡ fields (a ∷ b ∷ c ∷ [])
three-parts a b c = simp append-nil

-- fields put in two goes are the fields of both lists
pub fields_split : (l m : List (List ℕ)) (rest : List ℕ) → fields l ++ (fields m ++ rest) ≡ fields (l ++ m) ++ rest
fields_split [] m rest = refl
fields_split (f ∷ l) m rest =
    ap (λ (x : List ℕ). 32 ∷ x) (append_assoc f (fields l) (fields m ++ rest) ∙ ap (λ (x : List ℕ). f ++ x) (fields_split l m rest) ∙ sym (append_assoc f (fields (l ++ m)) rest))
