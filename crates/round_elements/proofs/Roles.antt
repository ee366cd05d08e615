-- A key that isn't among a suite's or case's own is an extra's. Assumes nothing.
use Prim.Native.Nat.{ℕ, zero, suc, ◌<◌}
use mathlib.Core.Bool.{Bool, true, false, false≢true}
use mathlib.Core.List.{List, [], ◌∷◌}
use mathlib.Core.Path.{◌≡◌, refl, sym, ap, ◌∙◌}
use native.Mathlib.Omega.{arith}
use borrow.Author.Tests.{eqb-true}
use lib.Dec.{eqb, lit<}
use lib.ListN.{length, get_or}
use Rattle.read_machine.specs.of_names.Names.{same_bytes}
use Rattle.read_machine.specs.of_names.Keys.{keys, key_of}
use Rattle.read_machine.proofs.of_names.NameLaws.{same_refl, code-name}
use Rattle.read_machine.specs.of_read_keys.declared.Role.TheVariants as role
use Rattle.read_machine.specs.of_read_keys.Roles.{role_in, suite_role, case_role, role_of}
use Rattle.round_elements.specs.Plain.{is_in, suite_keys, case_keys}
use Rattle.round_elements.proofs.Keys.{or_left, or_right}

not_in : (k : List ℕ) (own : List (List ℕ)) (i : ℕ) → i < length own → is_in k own ≡ false → same_bytes (get_or own i []) k ≡ false
not_in k [] i h e = absurd (omega arith)
not_in k (o ∷ own) zero h e = or_left (same_bytes o k) (is_in k own) e
not_in k (o ∷ own) (suc i) h e = not_in k own i (omega arith) (or_right (same_bytes o k) (is_in k own) e)

not_code : (k : List ℕ) (i : ℕ) → same_bytes (get_or keys i []) k ≡ false → eqb (key_of k) (suc i) ≡ false
not_code k i e = go (eqb (key_of k) (suc i)) refl
  where
    go : (t : Bool) → eqb (key_of k) (suc i) ≡ t → eqb (key_of k) (suc i) ≡ false
    go true q = absurd (false≢true (sym e ∙ ap (same_bytes (get_or keys i [])) (code-name keys k i (eqb-true (key_of k) (suc i) q)).1 ∙ same_refl (get_or keys i [])))
    go false q = q

module _ (k : List ℕ) where
  pub suite-extra : is_in k suite_keys ≡ false → role_of 2 (key_of k) ≡ role.Extra
  unfolding role_of suite_role role_in keys
  suite-extra e =
      rw (
        not_code k 0 (not_in k suite_keys 0 (lit< tt) e),
        not_code k 3 (not_in k suite_keys 6 (lit< tt) e),
        not_code k 4 (not_in k suite_keys 7 (lit< tt) e),
        not_code k 5 (not_in k suite_keys 1 (lit< tt) e),
        not_code k 6 (not_in k suite_keys 4 (lit< tt) e),
        not_code k 7 (not_in k suite_keys 3 (lit< tt) e),
        not_code k 8 (not_in k suite_keys 2 (lit< tt) e),
        not_code k 9 (not_in k suite_keys 5 (lit< tt) e),
        not_code k 14 (not_in k suite_keys 8 (lit< tt) e),
      ) refl

  pub case-extra : is_in k case_keys ≡ false → role_of 3 (key_of k) ≡ role.Extra
  unfolding role_of case_role role_in keys
  case-extra e =
      rw (
        not_code k 0 (not_in k case_keys 0 (lit< tt) e),
        not_code k 1 (not_in k case_keys 1 (lit< tt) e),
        not_code k 3 (not_in k case_keys 3 (lit< tt) e),
        not_code k 4 (not_in k case_keys 4 (lit< tt) e),
        not_code k 10 (not_in k case_keys 2 (lit< tt) e),
      ) refl
