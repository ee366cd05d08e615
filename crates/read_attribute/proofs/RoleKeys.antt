-- What holds of the role of every key. Assumes nothing.
use role.{Uuid}
use role.{Timestamp}
use role.{Time}
use role.{Text}
use role.{Number}
use role.{Count}
use Prim.Native.Nat.{ℕ, ◌<◌, ◌^◌}
use mathlib.Core.Path.{◌≡◌, refl, sym, subst}
use mathlib.Core.Bool.{Bool, true, false, cond}
use mathlib.Core.List.{List}
use native.Mathlib.Omega.{arith}
use lib.Dec.{eqb, leb}
use Rattle.read_repeats.specs.of_names.Keys.{keys, key_of}
use Rattle.read_repeats.proofs.of_names.NameLaws.{code-most}
use Rattle.read_repeats.specs.of_read_keys.Roles.{role_in, report_keys, report_role, suite_keys, suite_role, case_keys, case_role, property_keys, property_role, status_keys, status_role, role_of}
use Rattle.read_repeats.proofs.of_read_keys.RoleLaws.{role-each}
use Rattle.read_repeats.specs.of_read_keys.declared.Role.{Role}
use Rattle.read_repeats.specs.of_read_keys.declared.Role.TheVariants as role
use Rattle.read_repeats.specs.of_table.Event.{Attribute}
use Rattle.read_repeats.specs.of_refusal.Refusal.{Outcome, accepted, refused}
use Rattle.read_repeats.specs.of_read_element.Outcome.{Place, Rooms}
use Rattle.read_repeats.specs.of_read_element.Attributes.{Given, by_role}
use Rattle.read_role.specs.inside.Roles.{RoleFits}

pub key-small : (s : List ℕ) → key_of s < 2 ^ 32
unfolding keys
key-small s = let h = code-most keys s in omega arith

pub role-fits : (kind key : ℕ) → RoleFits (role_of kind key)
unfolding role_of report_role suite_role case_role property_role status_role
role-fits kind key = go (eqb kind 1) (eqb kind 2) (eqb kind 3) (leb kind 5) (leb 9 kind)
  where
    go : (a b c d e : Bool) → RoleFits (cond a (report_role key) (cond b (suite_role key) (cond c (case_role key) (cond d (property_role key) (status_role e key)))))
    go true b c d e = role-each RoleFits report_keys role.Ignored key (omega arith, (tt, (tt, (tt, (omega arith, (omega arith, (omega arith, (omega arith, (omega arith, tt))))))))) tt
    go false true c d e = role-each RoleFits suite_keys role.Extra key (omega arith, (tt, (tt, (omega arith, (omega arith, (omega arith, (omega arith, (omega arith, (omega arith, tt))))))))) tt
    go false false true d e = role-each RoleFits case_keys role.Extra key (omega arith, (tt, (tt, (omega arith, (omega arith, tt))))) tt
    go false false false true e = role-each RoleFits property_keys role.Ignored key (omega arith, (omega arith, tt)) tt
    go false false false false true = role-each RoleFits (status_keys true) role.Ignored key (omega arith, (tt, (tt, (omega arith, tt)))) tt
    go false false false false false = role-each RoleFits (status_keys false) role.Ignored key (omega arith, (tt, (tt, (omega arith, tt)))) tt

-- no value is read under a key that isn't known
pub data Unread : Role → Type 0 where
  extra : Unread role.Extra
  ignored : Unread role.Ignored

pub unknown-unread : (kind : ℕ) → Unread (role_of kind 0)
unfolding role_of role_in report_role suite_role case_role property_role status_role
unknown-unread kind = go (eqb kind 1) (eqb kind 2) (eqb kind 3) (leb kind 5) (leb 9 kind)
  where
    go : (a b c d e : Bool) → Unread (cond a (report_role 0) (cond b (suite_role 0) (cond c (case_role 0) (cond d (property_role 0) (status_role e 0)))))
    go true b c d e = ignored
    go false true c d e = extra
    go false false true d e = extra
    go false false false true e = ignored
    go false false false false true = ignored
    go false false false false false = ignored

abbrev pub Accepts : Outcome Given → Type 0
Accepts (accepted g) = Unit {0}
Accepts (refused r) = ⊥

-- such a key is an extra's, or it refuses nothing
pub unknown-accepts : (rooms : Rooms) (p : Place) (used kind key : ℕ) (x : Attribute) (g : Given)
    → (role_of kind key ≡ role.Extra → ⊥) → key ≡ 0 → Accepts (by_role rooms p used kind key (role_of kind key) x g)
unfolding by_role
unknown-accepts rooms p used kind key x g n e = go (role_of kind key) (subst (λ (k : ℕ). Unread (role_of kind k)) (sym e) (unknown-unread kind)) n
  where
    go : (r : Role) → Unread r → (r ≡ role.Extra → ⊥) → Accepts (by_role rooms p used kind key r x g)
    go (Text _ _) x5 m = elim x5 [ ]
    go (Count _) x5 m = elim x5 [ ]
    go (Number _ _) x7 m = elim x7 [ ]
    go Uuid x6 m = elim x6 [ ]
    go (Timestamp _) x8 m = elim x8 [ ]
    go (Time _) x9 m = elim x9 [ ]
    go role.Extra extra m = absurd (m refl)
    go role.Ignored ignored m = tt
