-- What the attributes of each element may put into its record. Assumes nothing.
use Prim.Native.Nat.{ℕ}
use mathlib.Core.Bool.{Bool, true, false, cond, not, ◌&&◌, ◌||◌, false≢true}
use mathlib.Core.List.{List, ◌++◌}
use mathlib.Core.Option.{none}
use mathlib.Core.Path.{◌≡◌, refl, sym, ◌∙◌}
use lib.Dec.{eqb, leb}
use Rattle.tree_report.specs.inside.Cells.{Cell, absent, constant, is_given}
use Rattle.tree_report.proofs.EncodeCells.{bit-flag}
use Rattle.tree_put.specs.of_tree_record.Record.{has_bit}
use Rattle.tree_put.specs.Put.{blank}
use Rattle.read_keys.specs.declared.Role.{Role}
use Rattle.read_keys.specs.declared.Role.TheVariants as role
use Rattle.read_keys.specs.Roles.{role_in, report_role, suite_role, case_role, property_role, status_role, role_of}
use Rattle.read_keys.proofs.RoleLaws.{count_keys}
use Rattle.tree_report.proofs.EncodeLists.{Each, done, more}
use Rattle.read_element.proofs.TreeSheet.{text, name, number, count, Fits, textless, placed, named, numberless, counted, empty, uuid, value, pair}
use Rattle.read_element.proofs.TreeSheet.{InMiddle, two, idless, open-value, full-value, without, untimed, timed, Sorts, flags, Sheet, sheet}
use Rattle.read_element.proofs.TreeGood.{report_sorts, suite_sorts, case_sorts, pair_sorts, main_sorts, run_sorts, Final}
use Rattle.read_element.proofs.TreeGood

-- suites and cases have extras
pub data Wide : ℕ → Type 0 where
  suite-wide : Wide 2
  case-wide : Wide 3

pub data Suits (S : Sorts) (κ : ℕ) : Role → Type 0 where
  as_first : S.first ≡ text → Suits S κ (role.Text 2 0)
  as-value : S.middle ≡ value → Suits S κ (role.Text 4 1)
  as-second : S.second ≡ text → Suits S κ (role.Text 18 5)
  as-tests : S.second ≡ count → Suits S κ (role.Count 18)
  as-failures : S.third ≡ count → Suits S κ (role.Count 20)
  as-errors : S.fourth ≡ count → Suits S κ (role.Count 22)
  as-skipped : S.fifth ≡ count → Suits S κ (role.Count 24)
  as-disabled : S.sixth ≡ number → Suits S κ (role.Number 26 8)
  as-host : S.seventh ≡ text → Suits S κ (role.Text 28 10)
  as-assertions : S.third ≡ number → Suits S κ (role.Number 20 6)
  as-uuid : S.middle ≡ uuid → Suits S κ role.Uuid
  as-moment : {kept : Bool} → (kept ≡ true → S.times ≡ true) → Suits S κ (role.Timestamp kept)
  as-time : {kept : Bool} → (kept ≡ true → S.times ≡ true) → Suits S κ (role.Time kept)
  as-extra : Wide κ → Suits S κ role.Extra
  as_ignored : Suits S κ role.Ignored

module _ {S : Sorts} {κ : ℕ} where
  pick : {r s : Role} (b : Bool) → Suits S κ r → Suits S κ s → Suits S κ (cond b r s)
  pick true p q = p
  pick false p q = q

  by_key : {xs : List (ℕ × Role)} {other : Role} → Each (λ x. Suits S κ x.1) xs → Suits S κ other → (k : ℕ) → Suits S κ (role_in xs other k)
  unfolding role_in
  by_key done o k = o
  by_key (more {x = x} h hs) o k = pick (eqb k x.0) h (by_key hs o k)

-- an element by its kind: the parts of its record while its attributes are read, and then
pub data Class : ℕ → Sorts → Sorts → Type 0 where
  report : Class 1 report_sorts report_sorts
  suite : Class 2 (suite_sorts text) (suite_sorts name)
  case : Class 3 (case_sorts text) (case_sorts name)
  suite_property : Class 4 (pair_sorts text value) (pair_sorts name pair)
  case_property : Class 5 (pair_sorts text value) (pair_sorts name pair)
  failure : Class 6 main_sorts main_sorts
  error : Class 7 main_sorts main_sorts
  skipped : Class 8 main_sorts main_sorts
  flaky_failure : Class 9 run_sorts run_sorts
  flaky_error : Class 10 run_sorts run_sorts
  rerun_failure : Class 11 run_sorts run_sorts
  rerun_error : Class 12 run_sorts run_sorts

-- the parts of an element's record, once its attributes are read, are those of its kind in a layout
pub class_final : {κ : ℕ} {S T : Sorts} → Class κ S T → Final κ T
class_final report = TreeGood.report
class_final suite = TreeGood.suite
class_final case = TreeGood.case
class_final suite_property = TreeGood.suite_property
class_final case_property = TreeGood.case_property
class_final failure = TreeGood.failure
class_final error = TreeGood.error
class_final skipped = TreeGood.skipped
class_final flaky_failure = TreeGood.flaky_failure
class_final flaky_error = TreeGood.flaky_error
class_final rerun_failure = TreeGood.rerun_failure
class_final rerun_error = TreeGood.rerun_error

-- ---- roles
main-roles : {κ : ℕ} (x : ℕ) → Suits main_sorts κ (status_role false x)
unfolding status_role
main-roles x = by_key (more (as_first refl) (more (as-moment (λ e. absurd (false≢true e))) (more (as-time (λ e. absurd (false≢true e))) (more (as-second refl) done)))) as_ignored x

run-roles : {κ : ℕ} (x : ℕ) → Suits run_sorts κ (status_role true x)
unfolding status_role
run-roles x = by_key (more (as_first refl) (more (as-moment (λ e. refl)) (more (as-time (λ e. refl)) (more (as-second refl) done)))) as_ignored x

property-roles : {κ : ℕ} (x : ℕ) → Suits (pair_sorts text value) κ (property_role x)
unfolding property_role
property-roles x = by_key (more (as_first refl) (more (as-value refl) done)) as_ignored x

count-roles : {S : Sorts} {κ : ℕ} {xs : List (ℕ × Role)} → S.second ≡ count → S.third ≡ count → S.fourth ≡ count → S.fifth ≡ count → S.sixth ≡ number
    → Each (λ x. Suits S κ x.1) xs → Each (λ x. Suits S κ x.1) (count_keys ++ xs)
count-roles a b c d e t = more (as-tests a) (more (as-failures b) (more (as-errors c) (more (as-skipped d) (more (as-disabled e) t))))

-- whatever attribute comes, what it may put suits the record of its element
pub class_roles : {κ : ℕ} {S T : Sorts} → Class κ S T → (x : ℕ) → Suits S κ (role_of κ x)
unfolding role_of report_role suite_role case_role
class_roles report x =
    by_key (more (as_first refl) (more (as-uuid refl) (more (as-moment (λ e. refl)) (more (as-time (λ e. refl)) (count-roles refl refl refl refl refl done))))) as_ignored x
class_roles suite x =
    by_key (more (as_first refl) (more (as-moment (λ e. refl)) (more (as-time (λ e. refl)) (count-roles refl refl refl refl refl (more (as-host refl) done)))))
    (as-extra suite-wide) x
class_roles case x =
    by_key (more (as_first refl) (more (as-moment (λ e. refl)) (more (as-time (λ e. refl)) (more (as-second refl) (more (as-assertions refl) done))))) (as-extra case-wide) x
class_roles suite_property x = property-roles x
class_roles case_property x = property-roles x
class_roles failure x = main-roles x
class_roles error x = main-roles x
class_roles skipped x = main-roles x
class_roles flaky_failure x = run-roles x
class_roles flaky_error x = run-roles x
class_roles rerun_failure x = run-roles x
class_roles rerun_error x = run-roles x

-- ---- a record with nothing in it
main-blank : {texts : List ℕ} (κ : ℕ) → Sheet main_sorts texts κ (blank κ)
main-blank κ = sheet absent absent absent none none absent absent absent absent absent absent textless without untimed textless textless empty empty empty empty

run-blank : {texts : List ℕ} (κ : ℕ) → Sheet run_sorts texts κ (blank κ)
run-blank κ = sheet absent absent absent none none absent absent absent absent absent absent textless (two textless textless) (timed refl refl) textless textless textless empty empty empty

pair-blank : {texts : List ℕ} (κ : ℕ) → Sheet (pair_sorts text value) texts κ (blank κ)
pair-blank κ = sheet absent absent absent none none absent absent absent absent absent absent textless (open-value textless) untimed empty empty empty empty empty empty

pub class-blank : {κ : ℕ} {S T : Sorts} {texts : List ℕ} → Class κ S T → Sheet S texts κ (blank κ)
class-blank report =
    let z : Cell = constant 0 0 in
    sheet absent absent absent none none z z z z absent absent textless idless (timed refl refl) counted counted counted counted numberless empty
class-blank suite =
    let z : Cell = constant 0 0 in
    sheet absent absent absent none none z z z z absent absent textless (two textless textless) (timed refl refl) counted counted counted counted numberless textless
class-blank case = sheet absent absent absent none none absent absent absent absent absent absent textless (two textless textless) (timed refl refl) textless numberless empty empty empty empty
class-blank suite_property = pair-blank 4
class-blank case_property = pair-blank 5
class-blank failure = main-blank 6
class-blank error = main-blank 7
class-blank skipped = main-blank 8
class-blank flaky_failure = run-blank 9
class-blank flaky_error = run-blank 10
class-blank rerun_failure = run-blank 11
class-blank rerun_error = run-blank 12

-- ---- the names that may not be missing
fits-name : {texts : List ℕ} {c : Cell} → Fits texts text c → is_given c ≡ true → Fits texts name c
fits-name textless e = absurd (false≢true e)
fits-name (placed p) e = named p

middle-name : {texts : List ℕ} {b c : Cell} → InMiddle texts value b c → is_given b ≡ true → InMiddle texts pair b c
middle-name (open-value textless) e = absurd (false≢true e)
middle-name (open-value (placed p)) e = full-value p

module _ {texts : List ℕ} {κ : ℕ} where
  name-suite : {r : List ℕ} → Sheet (suite_sorts text) texts κ r → has_bit 0 r ≡ true → Sheet (suite_sorts name) texts κ r
  name-suite (sheet a b c m d e f g h i j pa pb pt pe pf pg ph pi pj) y =
      sheet a b c m d e f g h i j (fits-name pa (sym (bit-flag 0 (flags a b c m d e f g i j)) ∙ y)) pb pt pe pf pg ph pi pj

  name-case : {r : List ℕ} → Sheet (case_sorts text) texts κ r → has_bit 0 r ≡ true → Sheet (case_sorts name) texts κ r
  name-case (sheet a b c m d e f g h i j pa pb pt pe pf pg ph pi pj) y =
      sheet a b c m d e f g h i j (fits-name pa (sym (bit-flag 0 (flags a b c m d e f g i j)) ∙ y)) pb pt pe pf pg ph pi pj

  name-pair : {r : List ℕ} → Sheet (pair_sorts text value) texts κ r → has_bit 0 r ≡ true → has_bit 1 r ≡ true → Sheet (pair_sorts name pair) texts κ r
  name-pair (sheet a b c m d e f g h i j pa pb pt pe pf pg ph pi pj) y z =
      sheet a b c m d e f g h i j (fits-name pa (sym (bit-flag 0 (flags a b c m d e f g i j)) ∙ y)) (middle-name pb (sym (bit-flag 1 (flags a b c m d e f g i j)) ∙ z)) pt pe pf pg ph pi pj

pub class-named : {κ : ℕ} {S T : Sorts} {texts r : List ℕ} → Class κ S T → (not (leb 2 κ && leb κ 5) || has_bit 0 r) ≡ true → (not (leb 4 κ && leb κ 5) || has_bit 1 r) ≡ true
    → Sheet S texts κ r → Sheet T texts κ r
class-named report y z h = h
class-named suite y z h = name-suite h y
class-named case y z h = name-case h y
class-named suite_property y z h = name-pair h y z
class-named case_property y z h = name-pair h y z
class-named failure y z h = h
class-named error y z h = h
class-named skipped y z h = h
class-named flaky_failure y z h = h
class-named flaky_error y z h = h
class-named rerun_failure y z h = h
class-named rerun_error y z h = h
