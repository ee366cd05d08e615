-- The role of each key is that of its record's table. Assumes nothing.
use Prim.Native.Nat.{ℕ, ◌≤◌}
use mathlib.Core.Bool.{Bool, true, false, cond}
use mathlib.Core.Path.{◌≡◌, refl}
use native.Mathlib.Omega.{arith}
use borrow.Author.Tests.{leb-true, leb-false, le-leb, lt-leb}
use lib.Dec.{leb, eqb}
use Rattle.read_content.specs.of_tree_record.Kinds as kind
use Rattle.read_content.specs.of_read_keys.Roles.{role_in, keys_by, report_role, suite_role, case_role, property_role, status_role, role_of}
use Rattle.read_content.specs.of_read_keys.declared.Role.TheVariants as role
use Rattle.read_content.specs.of_schema.Schema.{report, suite, case, main, skipped, run, property, extra, table_of}
use Rattle.schema_agree.specs.Roles.{other_role}

-- every kind of record that is read from a tag (rule A1)
pub kind-role : (k c : ℕ) → k ≤ kind.rerun_error → role_of k c ≡ role_in (keys_by (table_of k)) (other_role k) c
unfolding role_of report_role suite_role case_role property_role status_role
kind-role k c h = go (eqb k 1) (eqb k 2) (eqb k 3) (leb k 5) (leb k 7) (leb k 8) refl refl
  where
    go : (r s t p m u : Bool) → leb k 7 ≡ m → leb k 8 ≡ u
        → cond r (report_role c) (cond s (suite_role c) (cond t (case_role c) (cond p (property_role c) (status_role (leb 9 k) c))))
        ≡ role_in (keys_by (cond r report (cond s suite (cond t case (cond p property (cond m main (cond u skipped (cond (leb k 12) run extra))))))))
        (cond r role.Ignored (cond s role.Extra (cond t role.Extra role.Ignored))) c
    go true s t p m u e d = refl
    go false true t p m u e d = refl
    go false false true p m u e d = refl
    go false false false true m u e d = refl
    go false false false false true u e d = rw (lt-leb 9 k (let l = leb-true k 7 e in omega arith)) refl
    go false false false false false true e d = rw (lt-leb 9 k (let l = leb-true k 8 d in omega arith)) refl
    go false false false false false false e d =
        rw (le-leb 9 k (let l = leb-false k 8 d in omega arith), le-leb k 12 h) refl
