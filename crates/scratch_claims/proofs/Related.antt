-- Reading with two rooms beside one another: what holds between each test of records and of text holds between the steps. Assumes nothing.
use Prim.Native.Nat.{ℕ, ◌+◌}
use mathlib.Core.List.{List, [], ◌∷◌, ◌++◌}
use mathlib.Core.Bool.{Bool, true, false, cond, not}
use lib.ListN.{length}
use Rattle.read_report.specs.of_refusal.Refusal.{Outcome, accepted}
use Rattle.read_report.specs.of_refusal.declared.Cause.{Cause}
use Rattle.read_report.specs.of_refusal.declared.Cause.TheVariants as cause
use Rattle.read_report.specs.of_names.Keys.{key_of}
use Rattle.read_report.specs.of_trim.Trim.{trimmed}
use Rattle.read_report.specs.of_text.Value.{value_text}
use Rattle.read_report.specs.of_table.Event.{Attribute}
use Rattle.read_report.specs.of_tree_report.Report.{Text}
use Rattle.read_report.specs.of_read_element.Outcome.{◌>>=◌, Place, need, within, Rooms, fits}
use Rattle.read_report.specs.of_read_element.Attributes.{among, numbered}
use Rattle.read_report.specs.of_read_state.Control.{Control}
use Rattle.read_report.specs.of_read_state.Control.{Act, pass, open_report, open_suite, open_case, open_status, close_suite, close_case, close_status, open_text, close_text, open_list, read_property, stop, missing, broken}
use Rattle.read_report.specs.of_read_content.Content.{cleaned, is_empty}
use Rattle.read_report.specs.Deserialize.{Used, taking, storing, Element, a_report, a_suite, a_case_of, a_property, a_status, keys_of, has_extras, is_in, Sort, a_text, a_number, a_moment, a_time, a_uuid}
use Rattle.read_report.specs.Deserialize.{sort_of, Taken, reading, has_pair, extra, attribute, attributes, element, Draft, describing, perform}

module _ (R : (A : Type 0) → Outcome A → Outcome A → Type 0) (same : (A : Type 0) (m : Outcome A) → R A m m)
    (behind : (A B : Type 0) (m n : Outcome A) (f g : A → Outcome B) → R A m n → ((a : A) → R B (f a) (g a)) → R B (m >>= f) (n >>= g))
    (r q : Rooms) (of-records : (A : Type 0) (x : ℕ) (p : Place) (m : Outcome A) → R A (need (fits r.records x) p cause.RecordsSpent m) (need (fits q.records x) p cause.RecordsSpent m))
    (of-text : (A : Type 0) (x : ℕ) (p : Place) (m : Outcome A) → R A (need (fits r.text x) p cause.TextFull m) (need (fits q.text x) p cause.TextFull m)) where
  alike : {A : Type 0} {m : Outcome A} → R A m m
  alike {A} {m} = same A m

  bind : {A B : Type 0} {m n : Outcome A} {f g : A → Outcome B} → R A m n → ((a : A) → R B (f a) (g a)) → R B (m >>= f) (n >>= g)
  bind {A} {B} {m} {n} {f} {g} x y = behind A B m n f g x y

  choose : {A : Type 0} (b : Bool) {m n k l : Outcome A} → R A m n → R A k l → R A (cond b m k) (cond b n l)
  choose true x y = x
  choose false x y = y

  asks : {A : Type 0} (b : Bool) (p : Place) (why : Cause) {m n : Outcome A} → R A m n → R A (need b p why m) (need b p why n)
  unfolding need
  asks true p why x = x
  asks false p why x = alike

  takes : (p : Place) (u : Used) → R Used (taking r p u) (taking q p u)
  takes p u = of-records Used (u.records + 1) p (accepted (record { records = u.records + 1; text = u.text }))

  stores : (p : Place) (v : Text) (u : Used) → R Used (storing r p v u) (storing q p v u)
  stores p v u = of-text Used (u.text + length v) p (accepted (record { records = u.records; text = u.text + length v }))

  reads : (p : Place) (s : Sort) (v : List ℕ) (t : Taken) → R Taken (reading r p s v t) (reading q p s v t)
  reads p a_text v t = bind alike λ _. bind (stores p (value_text v) t.used) λ u. alike
  reads p a_number v t = alike
  reads p a_moment v t = alike
  reads p a_time v t = alike
  reads p a_uuid v t = alike

  adds : (p : Place) (x : Attribute) (t : Taken) → R Taken (extra r p x t) (extra q p x t)
  adds p x t =
      bind alike λ _.
      bind alike λ _.
      bind (bind (choose (has_pair (value_text x.key) t.extra) alike (bind (takes p t.used) λ u. stores p (value_text x.key) u)) λ u. stores p (value_text x.value) u) λ u.
      alike

  each : (p : Place) (e : Element) (k : ℕ) (x : Attribute) (t : Taken) → R Taken (attribute r p e k x t) (attribute q p e k x t)
  each p e k x t = choose (is_in k (keys_of e)) (reads (within p k) (sort_of k) x.value t) (choose (has_extras e) (adds p x t) alike)

  all : (p : Place) (e : Element) (before : List (List ℕ)) (j : ℕ) (xs : List Attribute) (t : Taken) → R Taken (attributes r p e before j xs t) (attributes q p e before j xs t)
  unfolding attributes
  all p e before j [] t = alike
  all p e before j (x ∷ xs) t =
      bind (asks x.good (numbered p j) cause.FaultyAttribute (asks (not (among x.key before)) (numbered p j) cause.RepeatedKey (each (numbered p j) e (key_of x.key) x t))) λ u.
      all p e (before ++ (x.key ∷ [])) (j + 1) xs u

  elements : (p : Place) (e : Element) (j : ℕ) (xs : List Attribute) (u : Used) → R Taken (element r p e j xs u) (element q p e j xs u)
  unfolding element
  elements p e j xs u = bind (takes p u) λ v. bind (all p e [] j xs (record { used = v; extra = [] })) λ t. alike

  describes : (p : Place) (d : Draft) → R Draft (describing r p d) (describing q p d)
  describes p d = choose (is_empty (trimmed d.description)) alike (bind (stores p (cleaned d.description) d.used) λ u. alike)

  pub performs : (p : Place) (a : Act) (j : ℕ) (xs : List Attribute) (k : Control) (d : Draft) → R Draft (perform r p a j xs k d) (perform q p a j xs k d)
  unfolding perform
  performs p (pass n) j xs k d = alike
  performs p (open_report e) j xs k d = bind (elements p a_report j xs d.used) λ t. alike
  performs p (open_suite e) j xs k d = bind (elements p a_suite j xs d.used) λ t. alike
  performs p (open_case e) j xs k d = bind (elements p a_case_of j xs d.used) λ t. alike
  performs p (open_status s e) j xs k d = bind (elements p a_status j xs d.used) λ t. alike
  performs p close_suite j xs k d = alike
  performs p close_case j xs k d = alike
  performs p close_status j xs k d = describes p d
  performs p (open_text l o) j xs k d = alike
  performs p (close_text l o) j xs k d = bind (stores p (cleaned d.text) d.used) λ u. alike
  performs p (open_list l e) j xs k d = alike
  performs p (read_property l e name) j xs k d = bind (elements p a_property j xs d.used) λ t. alike
  performs p stop j xs k d = alike
  performs p missing j xs k d = alike
  performs p (broken why) j xs k d = alike
