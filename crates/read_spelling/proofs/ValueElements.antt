-- An element, on values, at another place with the same elements. Assumes nothing.
use Prim.Native.Nat.{ℕ, ◌+◌}
use mathlib.Core.List.{List, [], ◌∷◌, ◌++◌}
use Rattle.read_report.specs.of_names.Keys.{key_of}
use Rattle.read_report.specs.of_table.Event.{Attribute}
use Rattle.read_report.specs.of_text.Value.{value_text, checked_of}
use Rattle.read_report.specs.of_integer.Integer.{integer_of}
use Rattle.read_report.specs.of_time.Time.{time_of}
use Rattle.read_report.specs.of_timestamp.Timestamp.{timestamp_of}
use Rattle.read_report.specs.of_uuids.Uuid.{uuid_of}
use Rattle.read_report.specs.of_tree_report.Report.{Text}
use Rattle.read_report.specs.of_read_element.Outcome.{Place, Rooms}
use Rattle.read_report.specs.Deserialize.{Used, taking, storing, Element, keys_of, has_extras, required, is_in, Sort, a_text, a_number, a_moment, a_time, a_uuid, sort_of}
use Rattle.read_report.specs.Deserialize.{Taken, reading, has_pair, extra, attribute, attributes, completed, element}
use Rattle.read_report.specs.of_refusal.declared.Cause.TheVariants as cause
use Rattle.read_spelling.proofs.Places.{Moves, same, Near, within-near, bind, told, needing, choosing}
use Rattle.read_spelling.proofs.Elements.{numbered-near}

module _ (rooms : Rooms) where
  taking-moves : {p q : Place} → Near p q → (u : Used) → Moves (taking rooms p u) (taking rooms q u)
  taking-moves n u = needing n _ cause.RecordsSpent same

  pub storing-moves : {p q : Place} → Near p q → (v : Text) (u : Used) → Moves (storing rooms p v u) (storing rooms q v u)
  storing-moves n v u = needing n _ cause.TextFull same

  reading-moves : {p q : Place} → Near p q → (s : Sort) (v : List ℕ) (t : Taken) → Moves (reading rooms p s v t) (reading rooms q s v t)
  reading-moves n a_text v t = bind (told n (checked_of v)) λ _. bind (storing-moves n (value_text v) t.used) λ u. same
  reading-moves n a_number v t = bind (told n (integer_of v)) λ _. same
  reading-moves n a_moment v t = bind (told n (timestamp_of v)) λ _. same
  reading-moves n a_time v t = bind (told n (time_of v)) λ _. same
  reading-moves n a_uuid v t = bind (told n (uuid_of v)) λ _. same

  extra-moves : {p q : Place} → Near p q → (x : Attribute) (t : Taken) → Moves (extra rooms p x t) (extra rooms q x t)
  extra-moves n x t =
      bind (told n (checked_of x.key)) λ _.
      bind (told n (checked_of x.value)) λ _.
      (let k = value_text x.key in
      bind (bind (choosing (has_pair k t.extra) same (bind (taking-moves n t.used) λ u. storing-moves n k u)) λ u. storing-moves n (value_text x.value) u) λ u. same)

  attribute-moves : {p q : Place} → Near p q → (e : Element) (k : ℕ) (x : Attribute) (t : Taken) → Moves (attribute rooms p e k x t) (attribute rooms q e k x t)
  attribute-moves n e k x t =
      choosing (is_in k (keys_of e)) (reading-moves (within-near n k) (sort_of k) x.value t) (choosing (has_extras e) (extra-moves n x t) same)

  attributes-move : {p q : Place} → Near p q → (e : Element) (before : List (List ℕ)) (j : ℕ) (xs : List Attribute) (t : Taken)
      → Moves (attributes rooms p e before j xs t) (attributes rooms q e before j xs t)
  unfolding attributes
  attributes-move n e before j [] t = same
  attributes-move n e before j (x ∷ xs) t =
      bind (needing (numbered-near n j) _ cause.FaultyAttribute
      (needing (numbered-near n j) _ cause.RepeatedKey (attribute-moves (numbered-near n j) e (key_of x.key) x t))) λ u.
      attributes-move n e (before ++ (x.key ∷ [])) (j + 1) xs u

  completed-moves : {p q : Place} → Near p q → (ks : List ℕ) (xs : List Attribute) (t : Taken) → Moves (completed p ks xs t) (completed q ks xs t)
  unfolding completed
  completed-moves n [] xs t = same
  completed-moves n (k ∷ ks) xs t = needing (within-near n k) _ cause.MissingAttribute (completed-moves n ks xs t)

  pub element-moves : {p q : Place} → Near p q → (e : Element) (j : ℕ) (xs : List Attribute) (u : Used) → Moves (element rooms p e j xs u) (element rooms q e j xs u)
  unfolding element
  element-moves n e j xs u = bind (taking-moves n u) λ v. bind (attributes-move n e [] j xs _) λ t. completed-moves n (required e) xs t
