-- An element whose attributes were read and that misses none. Assumes nothing.
use Prim.Native.Nat.{ℕ}
use mathlib.Core.Bool.{true}
use mathlib.Core.List.{List, [], ◌∷◌, ◌++◌}
use mathlib.Core.Path.{◌≡◌, refl, ap, subst}
use lib.ListN.{length}
use Rattle.read_machine.specs.of_refusal.Refusal.{accepted}
use Rattle.read_machine.specs.of_names.Bytes.{bytes}
use Rattle.read_machine.specs.of_names.Names.{same_bytes, code_from}
use Rattle.read_machine.specs.of_names.Keys.{keys, key_of}
use Rattle.write_report.specs.of_table.Event.{Attribute}
use Rattle.read_machine.specs.of_tree_record.Kinds as kind
use Rattle.write_report.specs.of_tree_report.Report.{Pair, NonSuccessKind, failure, error, FlakyOrRerun, flaky, rerun}
use Rattle.write_report.specs.of_tree_report.Fields.{has_bit}
use Rattle.write_report.specs.of_tree_report.Encode.{kind_of_run}
use Rattle.read_machine.specs.of_tree_put.Put.{blank}
use Rattle.read_machine.specs.of_read_keys.declared.Role.TheVariants as role
use Rattle.read_machine.specs.of_read_keys.Roles.{role_in, property_role, status_role, role_of}
use Rattle.read_machine.specs.of_read_element.Outcome.{◌>>=◌, Place, need, unlimited, fits}
use Rattle.read_machine.specs.of_read_element.Attributes.{Given, extra_kind, read_attributes, complete, read_element}
use Rattle.round_elements.specs.inside.Opened.{PairsShown, Opened}

pub opened : {κ : ℕ} {Shown : List ℕ → List ℕ → Type 0} {extra : List Pair} {records : List (List ℕ)} {texts : List ℕ} (p : Place) (j : ℕ) (xs : List Attribute) (g : Given) (added : List ℕ)
    → read_attributes unlimited p (length records) κ [] j xs (record { main = blank κ; extras = []; texts = texts }) ≡ accepted g → complete p κ g ≡ accepted g
    → g.texts ≡ texts ++ added → Shown g.texts g.main → PairsShown (extra_kind κ) g.texts g.extras extra
    → Opened κ Shown extra records texts (read_element unlimited p κ j xs records texts)
unfolding read_element need fits ◌>>=◌
opened {κ} {Shown} {extra} {records} {texts} p j xs g added e c f s q = record {
  main = g.main;
  extras = g.extras;
  added = added;
  answer = rw (e, c) (ap (λ (t : List ℕ). accepted (record { records = records ++ (g.main ∷ g.extras); texts = t })) f);
  shown = subst (λ (t : List ℕ). Shown t g.main) f s;
  pairs = subst (λ (t : List ℕ). PairsShown (extra_kind κ) t g.extras extra) f q;
}

-- ---- nothing is missing
module _ (p : Place) (g : Given) where
  pub complete-report : complete p kind.report g ≡ accepted g
  unfolding complete need
  complete-report = refl

  pub complete-suite : has_bit 0 g.main ≡ true → complete p kind.suite g ≡ accepted g
  unfolding complete need
  complete-suite e = rw e refl

  pub complete-case : has_bit 0 g.main ≡ true → complete p kind.case g ≡ accepted g
  unfolding complete need
  complete-case e = rw e refl

-- ---- properties
pub data IsProperty : ℕ → Type 0 where
  of_suite : IsProperty kind.suite_property
  of_case : IsProperty kind.case_property

pub record PropertyRoles (κ : ℕ) : Type 0 where
  pub name : role_of κ (key_of (bytes "name")) ≡ role.Text 2 0
  pub value : role_of κ (key_of (bytes "value")) ≡ role.Text 4 1
  pub whole : (p : Place) (g : Given) → has_bit 0 g.main ≡ true → has_bit 1 g.main ≡ true → complete p κ g ≡ accepted g

pub property-roles : {κ : ℕ} → IsProperty κ → PropertyRoles κ
unfolding role_of property_role role_in keys code_from same_bytes complete need
property-roles of_suite = record { name = refl; value = refl; whole = λ p g e f. rw (e, f) refl }
property-roles of_case = record { name = refl; value = refl; whole = λ p g e f. rw (e, f) refl }

-- ---- status elements
pub record StatusRoles (κ : ℕ) : Type 0 where
  pub message : role_of κ (key_of (bytes "message")) ≡ role.Text 2 0
  pub type : role_of κ (key_of (bytes "type")) ≡ role.Text 18 5
  pub whole : (p : Place) (g : Given) → complete p κ g ≡ accepted g

pub data IsMain : ℕ → Type 0 where
  is_failure : IsMain kind.failure
  is_error : IsMain kind.error
  is_skipped : IsMain kind.skipped

pub main-roles : {κ : ℕ} → IsMain κ → StatusRoles κ
unfolding role_of status_role role_in keys code_from same_bytes complete need
main-roles is_failure = record { message = refl; type = refl; whole = λ p g. refl }
main-roles is_error = record { message = refl; type = refl; whole = λ p g. refl }
main-roles is_skipped = record { message = refl; type = refl; whole = λ p g. refl }

pub record RunRoles (κ : ℕ) : Type 0 where
  pub timestamp : role_of κ (key_of (bytes "timestamp")) ≡ role.Timestamp true
  pub time : role_of κ (key_of (bytes "time")) ≡ role.Time true
  pub status : StatusRoles κ

pub run-roles : (family : FlakyOrRerun) (k : NonSuccessKind) → RunRoles (kind_of_run family k)
unfolding role_of status_role role_in keys code_from same_bytes complete need
run-roles flaky failure = record { timestamp = refl; time = refl; status = record { message = refl; type = refl; whole = λ p g. refl } }
run-roles flaky error = record { timestamp = refl; time = refl; status = record { message = refl; type = refl; whole = λ p g. refl } }
run-roles rerun failure = record { timestamp = refl; time = refl; status = record { message = refl; type = refl; whole = λ p g. refl } }
run-roles rerun error = record { timestamp = refl; time = refl; status = record { message = refl; type = refl; whole = λ p g. refl } }
