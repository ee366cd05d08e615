-- An element is refused with its own path, or with one Attribute behind it. Assumes nothing.
use Prim.Native.Nat.{ℕ, ◌+◌, ◌≤◌}
use mathlib.Core.Path.{◌≡◌, subst}
use mathlib.Core.List.{List, [], ◌∷◌, ◌++◌}
use mathlib.Core.Bool.{Bool, true, false, cond}
use native.Mathlib.Omega.{arith}
use lib.ListN.{length, length-append}
use lib.Dec.{leb}
use Rattle.explain_text.specs.of_area.Answer.{Answer, gives, refuses}
use Rattle.explain_text.specs.of_names.Keys.{key_of}
use Rattle.explain_text.specs.of_refusal.Refusal.{Refused, Outcome, accepted, refused}
use Rattle.explain_text.specs.of_refusal.declared.Cause.{Cause}
use Rattle.explain_text.specs.of_refusal.declared.Cause.TheVariants as cause
use Rattle.explain_text.specs.of_table.Event.{Attribute}
use Rattle.xml_listing.specs.of_integer.Integer.{integer_of}
use Rattle.explain_text.specs.of_time.Time.{time_of}
use Rattle.explain_text.specs.of_timestamp.Timestamp.{timestamp_of}
use Rattle.explain_text.specs.of_uuids.Uuid.{uuid_of}
use Rattle.explain_text.specs.of_text.Value.{value_text, checked_of}
use Rattle.xml_listing.specs.of_read_keys.declared.Role.{Role}
use Rattle.xml_listing.specs.of_read_keys.declared.Role.TheVariants as role
use Rattle.xml_listing.specs.of_read_keys.Roles.{role_of}
use Rattle.xml_listing.specs.of_read_element.Outcome.{◌>>=◌, Place, there, need, attribute_element, within, Rooms}
use Rattle.xml_listing.specs.of_read_element.Attributes.{Given, place_of, numbered, read_text, old_extra, new_extra, read_extra, by_role, read_attributes, complete, read_element}

-- m accepts, or refuses with a path of at most six elements
pub data Told {A : Type 0} : Outcome A → Type 0 where
  fine : {a : A} → Told (accepted a)
  told : {r : Refused} → length r.path ≤ 6 → Told (refused r)

pub told-path : {A : Type 0} {m : Outcome A} (r : Refused) → Told m → m ≡ refused r → length r.path ≤ 6
told-path r fine e = let z : ◌≡◌ {A = ℕ} 0 1 = cc in absurd (omega arith)
told-path r (told {r = q} h) e = let z : q ≡ r = cc in subst (λ (x : Refused). length x.path ≤ 6) z h

pub told-bind : {A B : Type 0} {m : Outcome A} {f : A → Outcome B} → Told m → ((a : A) → Told (f a)) → Told (m >>= f)
unfolding ◌>>=◌
told-bind (fine {a = a}) k = k a
told-bind (told h) k = told h

pub told-need : {A : Type 0} (b : Bool) (p : Place) (why : Cause) → length p.path ≤ 6 → {m : Outcome A} → Told m → Told (need b p why m)
unfolding need
told-need true p why l h = h
told-need false p why l h = told l

pub told-there : {A : Type 0} (p : Place) (x : Answer A) → length p.path ≤ 6 → Told (there p x)
unfolding there
told-there p (gives a) l = fine
told-there p (refuses why) l = told l

pub told-cond : {A : Type 0} (b : Bool) {m n : Outcome A} → Told m → Told n → Told (cond b m n)
told-cond true h k = h
told-cond false h k = k

one_more : (p : Place) (key : ℕ) → length p.path ≤ 5 → length (within p key).path ≤ 6
one_more p key h = omega (arith, h, length-append p.path (attribute_element key ∷ []))

module _ (rooms : Rooms) where
  told_text : (p : Place) (o k : ℕ) (value : List ℕ) (g : Given) → length p.path ≤ 6 → Told (read_text rooms p o k value g)
  unfolding read_text
  told_text p o k value g l = told-bind (told-there p (checked_of value) l) λ _. told-need _ p cause.TextFull l fine

  told-extra : (p : Place) (used kind : ℕ) (x : Attribute) (g : Given) → length p.path ≤ 6 → Told (read_extra rooms p used kind x g)
  unfolding read_extra new_extra old_extra
  told-extra p used kind x g l =
      told-bind (told-there p (checked_of x.key) l) λ _.
      told-bind (told-there p (checked_of x.value) l) λ _.
      told-cond (leb (length g.extras) (place_of g.texts (value_text x.key) g.extras))
      (told-need _ p cause.RecordsSpent l (told-need _ p cause.TextFull l (told-need _ p cause.TextFull l fine)))
      (told-need _ p cause.TextFull l fine)

  told-role : (p : Place) (used kind key : ℕ) (role : Role) (x : Attribute) (g : Given) → length p.path ≤ 5 → Told (by_role rooms p used kind key role x g)
  unfolding by_role
  told-role p used kind key (role.Text o k) x g l = told_text (within p key) o k x.value g (one_more p key l)
  told-role p used kind key (role.Count o) x g l = told-bind (told-there (within p key) (integer_of x.value) (one_more p key l)) λ n. fine
  told-role p used kind key (role.Number o k) x g l = told-bind (told-there (within p key) (integer_of x.value) (one_more p key l)) λ n. fine
  told-role p used kind key role.Uuid x g l = told-bind (told-there (within p key) (uuid_of x.value) (one_more p key l)) λ w. fine
  told-role p used kind key (role.Timestamp kept) x g l = told-bind (told-there (within p key) (timestamp_of x.value) (one_more p key l)) λ m. fine
  told-role p used kind key (role.Time kept) x g l = told-bind (told-there (within p key) (time_of x.value) (one_more p key l)) λ t. fine
  told-role p used kind key role.Extra x g l = told-extra p used kind x g (omega (arith, l))
  told-role p used kind key role.Ignored x g l = fine

  told-attributes : (p : Place) (used kind : ℕ) (before : List (List ℕ)) (j : ℕ) (xs : List Attribute) (g : Given) → length p.path ≤ 5
      → Told (read_attributes rooms p used kind before j xs g)
  unfolding read_attributes
  told-attributes p used kind before j [] g l = fine
  told-attributes p used kind before j (x ∷ xs) g l =
      told-bind
      (told-need _ (numbered p j) cause.FaultyAttribute (omega (arith, l))
      (told-need _ (numbered p j) cause.RepeatedKey (omega (arith, l)) (told-role (numbered p j) used kind (key_of x.key) (role_of kind (key_of x.key)) x g l))) λ h.
      told-attributes p used kind (before ++ (x.key ∷ [])) (j + 1) xs h l

  pub told-element : (p : Place) (kind j : ℕ) (xs : List Attribute) (records : List (List ℕ)) (texts : List ℕ) → length p.path ≤ 5
      → Told (read_element rooms p kind j xs records texts)
  unfolding read_element complete
  told-element p kind j xs records texts l =
      told-bind (told-need _ p cause.RecordsSpent (omega (arith, l)) (told-attributes p (length records) kind [] j xs _ l)) λ g.
      told-bind (told-need _ (within p 1) cause.MissingAttribute (one_more p 1 l) (told-need _ (within p 14) cause.MissingAttribute (one_more p 14 l) fine)) λ h. fine
