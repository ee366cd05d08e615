-- An element at another place with the same elements. Assumes nothing.
use Prim.Native.Nat.{ℕ, ◌+◌}
use mathlib.Core.List.{List, [], ◌∷◌, ◌++◌}
use mathlib.Core.Path.{refl}
use lib.Dec.{leb}
use lib.ListN.{length}
use Rattle.read_report.specs.of_names.Keys.{key_of}
use Rattle.read_report.specs.of_table.Event.{Attribute}
use Rattle.read_report.specs.of_text.Value.{value_text, checked_of}
use Rattle.read_report.specs.of_integer.Integer.{integer_of}
use Rattle.read_report.specs.of_time.Time.{time_of}
use Rattle.read_report.specs.of_timestamp.Timestamp.{timestamp_of}
use Rattle.read_report.specs.of_uuids.Uuid.{uuid_of}
use Rattle.read_report.specs.of_read_keys.declared.Role.{Role}
use Rattle.read_report.specs.of_read_keys.declared.Role.TheVariants as role
use Rattle.read_report.specs.of_read_keys.Roles.{role_of}
use Rattle.read_report.specs.of_read_element.Outcome.{Place, Rooms}
use Rattle.read_report.specs.of_read_element.Attributes.{Given, place_of, numbered, read_text, old_extra, new_extra, read_extra, by_role, read_attributes, complete, read_element}
use Rattle.read_report.specs.of_refusal.declared.Cause.TheVariants as cause
use Rattle.read_spelling.proofs.Places.{Moves, same, Near, within-near, bind, told, needing, choosing}

pub numbered-near : {p q : Place} → Near p q → (j : ℕ) → Near (numbered p j) (numbered q j)
numbered-near n j = record { path = n.path; attribute = refl }

module _ (rooms : Rooms) where
  text-moves : {p q : Place} → Near p q → (o k : ℕ) (value : List ℕ) (g : Given) → Moves (read_text rooms p o k value g) (read_text rooms q o k value g)
  unfolding read_text
  text-moves n o k value g = bind (told n (checked_of value)) λ _. needing n _ cause.TextFull same

  old_moves : {p q : Place} → Near p q → (value : List ℕ) (i : ℕ) (g : Given) → Moves (old_extra rooms p value i g) (old_extra rooms q value i g)
  unfolding old_extra
  old_moves n value i g = needing n _ cause.TextFull same

  new-moves : {p q : Place} → Near p q → (used kind : ℕ) (key value : List ℕ) (g : Given) → Moves (new_extra rooms p used kind key value g) (new_extra rooms q used kind key value g)
  unfolding new_extra
  new-moves n used kind key value g = needing n _ cause.RecordsSpent (needing n _ cause.TextFull (needing n _ cause.TextFull same))

  extra-moves : {p q : Place} → Near p q → (used kind : ℕ) (x : Attribute) (g : Given) → Moves (read_extra rooms p used kind x g) (read_extra rooms q used kind x g)
  unfolding read_extra
  extra-moves n used kind x g =
      bind (told n (checked_of x.key)) λ _.
      bind (told n (checked_of x.value)) λ _.
      (let i = place_of g.texts (value_text x.key) g.extras in
      choosing (leb (length g.extras) i) (new-moves n used kind (value_text x.key) (value_text x.value) g) (old_moves n (value_text x.value) i g))

  role_moves : {p q : Place} → Near p q → (used kind key : ℕ) (role : Role) (x : Attribute) (g : Given) → Moves (by_role rooms p used kind key role x g) (by_role rooms q used kind key role x g)
  unfolding by_role
  role_moves n used kind key (role.Text o k) x g = text-moves (within-near n key) o k x.value g
  role_moves n used kind key (role.Count o) x g = bind (told (within-near n key) (integer_of x.value)) λ v. same
  role_moves n used kind key (role.Number o k) x g = bind (told (within-near n key) (integer_of x.value)) λ v. same
  role_moves n used kind key role.Uuid x g = bind (told (within-near n key) (uuid_of x.value)) λ v. same
  role_moves n used kind key (role.Timestamp kept) x g = bind (told (within-near n key) (timestamp_of x.value)) λ v. same
  role_moves n used kind key (role.Time kept) x g = bind (told (within-near n key) (time_of x.value)) λ v. same
  role_moves n used kind key role.Extra x g = extra-moves n used kind x g
  role_moves n used kind key role.Ignored x g = same

  attributes-move : {p q : Place} → Near p q → (used kind : ℕ) (before : List (List ℕ)) (j : ℕ) (xs : List Attribute) (g : Given) →
      Moves (read_attributes rooms p used kind before j xs g) (read_attributes rooms q used kind before j xs g)
  unfolding read_attributes
  attributes-move n used kind before j [] g = same
  attributes-move n used kind before j (x ∷ xs) g =
      bind (needing (numbered-near n j) _ cause.FaultyAttribute
      (needing (numbered-near n j) _ cause.RepeatedKey (role_moves (numbered-near n j) used kind (key_of x.key) (role_of kind (key_of x.key)) x g))) λ h.
      attributes-move n used kind (before ++ (x.key ∷ [])) (j + 1) xs h

  complete-moves : {p q : Place} → Near p q → (kind : ℕ) (g : Given) → Moves (complete p kind g) (complete q kind g)
  unfolding complete
  complete-moves n kind g = needing (within-near n 1) _ cause.MissingAttribute (needing (within-near n 14) _ cause.MissingAttribute same)

  pub element-moves : {p q : Place} → Near p q → (kind j : ℕ) (xs : List Attribute) (records : List (List ℕ)) (texts : List ℕ) →
      Moves (read_element rooms p kind j xs records texts) (read_element rooms q kind j xs records texts)
  unfolding read_element
  element-moves n kind j xs records texts =
      bind (needing n _ cause.RecordsSpent (attributes-move n (length records) kind [] j xs _)) λ g.
      bind (complete-moves n kind g) λ h. same
