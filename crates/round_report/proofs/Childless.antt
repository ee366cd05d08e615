-- A suite that is written as Empty has nothing inside. Assumes nothing.
use Prim.Native.Nat.{ℕ}
use mathlib.Core.List.{List, [], ◌∷◌, ◌++◌}
use mathlib.Core.Option.{Option, none, some}
use mathlib.Core.Path.{◌≡◌, refl}
use native.Mathlib.Omega.{arith}
use Rattle.round_rooms.specs.of_names.Bytes.{bytes}
use Rattle.round_rooms.specs.of_table.Event.{Attribute, Event}
use Rattle.round_rooms.specs.of_tree_report.Report.{Text, Pair, TestCase, TestSuite}
use Rattle.round_rooms.specs.of_write_report.Written.{optional, each, element, case_attributes, serialize_output, serialize_properties, serialize_outputs, serialize_elements, serialize_test_case}

abbrev pub children : TestSuite → List Event
children s = serialize_properties s.properties ++ (each serialize_test_case s.cases ++ serialize_outputs s.system_out s.system_err)

nil-left : {A : Type 0} (xs ys : List A) → xs ++ ys ≡ [] → xs ≡ []
nil-left [] ys e = refl
nil-left (x ∷ xs) ys e = let z : ◌≡◌ {A = ℕ} 0 1 = cc in absurd (omega arith)

nil_right : {A : Type 0} (xs ys : List A) → xs ++ ys ≡ [] → ys ≡ []
nil_right [] ys e = e
nil_right (x ∷ xs) ys e = let z : ◌≡◌ {A = ℕ} 0 1 = cc in absurd (omega arith)

never : {A : Type 0} {x : A} {xs : List A} → x ∷ xs ≡ [] → ⊥
never e = let z : ◌≡◌ {A = ℕ} 0 1 = cc in omega arith

element-some : (name : List ℕ) (xs : List Attribute) (es : List Event) → element name xs es ≡ [] → ⊥
element-some name xs [] e = never e
element-some name xs (c ∷ cs) e = never e

no-properties : (ps : List Pair) → serialize_properties ps ≡ [] → ps ≡ []
unfolding serialize_properties
no-properties [] e = refl
no-properties (p ∷ ps) e = absurd (never e)

no_cases : (cs : List TestCase) → each serialize_test_case cs ≡ [] → cs ≡ []
unfolding serialize_test_case
no_cases [] e = refl
no_cases (c ∷ cs) e =
    absurd (element-some (bytes "testcase") (case_attributes c) (serialize_properties c.properties ++ (serialize_elements c.status ++ serialize_outputs c.system_out c.system_err))
    (nil-left (serialize_test_case c) (each serialize_test_case cs) e))

no_output : (name : List ℕ) (o : Option Text) → optional (serialize_output name) o ≡ [] → o ≡ none
unfolding serialize_output
no_output name none e = refl
no_output name (some t) e = absurd (never e)

pub record Childless (s : TestSuite) : Type 0 where
  pub properties : s.properties ≡ []
  pub cases : s.cases ≡ []
  pub out : s.system_out ≡ none
  pub err : s.system_err ≡ none

pub childless : (s : TestSuite) → children s ≡ [] → Childless s
unfolding serialize_outputs
childless s e =
    let ps = serialize_properties s.properties in
    let cs = each serialize_test_case s.cases in
    let os = serialize_outputs s.system_out s.system_err in
    let q = nil_right ps (cs ++ os) e in
    let u = nil_right cs os q in
    let a = optional (serialize_output (bytes "system-out")) s.system_out in
    let b = optional (serialize_output (bytes "system-err")) s.system_err in
    record {
      properties = no-properties s.properties (nil-left ps (cs ++ os) e);
      cases = no_cases s.cases (nil-left cs os q);
      out = no_output (bytes "system-out") s.system_out (nil-left a b u);
      err = no_output (bytes "system-err") s.system_err (nil_right a b u);
    }
