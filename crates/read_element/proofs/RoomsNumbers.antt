-- Where areas have no limit, an element is refused with numbers of the rules only. Assumes nothing.
use Prim.Native.Nat.{ℕ, ◌+◌}
use mathlib.Core.Path.{◌≡◌, subst}
use mathlib.Core.List.{List, [], ◌∷◌, ◌++◌}
use mathlib.Core.Bool.{Bool, true, false, cond}
use mathlib.Core.Logic.{inl}
use native.Mathlib.Omega.{arith}
use lib.ListN.{length}
use lib.Dec.{leb, lit≤}
use Rattle.integer.specs.of_area.Answer.{gives, refuses}
use Rattle.integer.specs.of_utf8.Utf8.{utf8}
use Rattle.integer.specs.of_names.Keys.{key_of}
use Rattle.integer.specs.of_refusal.Refusal.{number, OfRules, Refused, Outcome, accepted, refused}
use Rattle.table.specs.Event.{Attribute}
use Rattle.integer.specs.Integer.{is_integer}
use Rattle.time.specs.Time.{is_time}
use Rattle.tree_put.specs.of_timestamp.Timestamp.{is_timestamp, timestamp_of}
use Rattle.tree_put.specs.of_uuids.Uuid.{is_uuid, uuid_of}
use Rattle.text.specs.of_reference.Reference.{refs_ok}
use Rattle.text.specs.Value.{value_text}
use Rattle.read_element.specs.Outcome.{◌>>=◌, Place, there, need, within, unlimited, fits}
use Rattle.read_keys.specs.declared.Role.{Role}
use Rattle.read_keys.specs.declared.Role.TheVariants as role
use Rattle.read_keys.specs.Roles.{role_of}
use Rattle.read_element.specs.Attributes.{Given, place_of, numbered, read_text, old_extra, new_extra, read_extra, by_role, read_attributes, complete, read_element}
use Rattle.integer.specs.of_refusal.declared.Cause.TheVariants as cause
use Rattle.integer.specs.of_refusal.declared.Cause.{Cause}

-- m accepts, or refuses with a number of the rules
pub data ByRules {A : Type 0} : Outcome A → Type 0 where
  fine : {a : A} → ByRules (accepted a)
  low : {r : Refused} → OfRules (number r.cause) → ByRules (refused r)

-- a refusal by the rules has one of the rules' numbers
pub low-number : {A : Type 0} {m : Outcome A} (r : Refused) → ByRules m → m ≡ refused r → OfRules (number r.cause)
low-number r fine e = let z : ◌≡◌ {A = ℕ} 0 1 = cc in absurd (omega arith)
low-number r (low {r = q} h) e = let z : q ≡ r = cc in subst (λ (x : Refused). OfRules (number x.cause)) z h

-- refusing by the rules alone goes along one part behind another
pub low-bind : {A B : Type 0} {m : Outcome A} {f : A → Outcome B} → ByRules m → ((a : A) → ByRules (f a)) → ByRules (m >>= f)
unfolding ◌>>=◌
low-bind (fine {a = a}) k = k a
low-bind (low h) k = low h

-- a demand refuses by the rules if its cause is one of theirs
pub low-need : {A : Type 0} (b : Bool) (p : Place) (why : Cause) → OfRules (number why) → {m : Outcome A} → ByRules m → ByRules (need b p why m)
unfolding need
low-need true p why l h = h
low-need false p why l h = low l

-- refusing by the rules alone goes along a choice
pub low-cond : {A : Type 0} (b : Bool) {m n : Outcome A} → ByRules m → ByRules n → ByRules (cond b m n)
low-cond true h k = h
low-cond false h k = k

-- no limit is never passed
pub low-room : {A : Type 0} (n : ℕ) (p : Place) (k : Cause) {m : Outcome A} → ByRules m → ByRules (need (fits unlimited.text n) p k m)
unfolding need fits
low-room n p k h = h

-- a leaf's answer: of a text that is not UTF-8, of one that fails its test, and else
pub low-leaf : {A : Type 0} (p : Place) (b c : Bool) (a : A) (n : Cause) → OfRules (number n) → ByRules (there p (cond b (cond c (gives a) (refuses n)) (refuses cause.NotUtf8)))
unfolding there
low-leaf p true true a n l = fine
low-leaf p true false a n l = low l
low-leaf p false c a n l = low (inl (lit≤ tt))

low-text : (p : Place) (o k : ℕ) (value : List ℕ) (g : Given) → ByRules (read_text unlimited p o k value g)
unfolding read_text
low-text p o k value g = low-bind (low-leaf p (utf8 value) (refs_ok value 0) tt cause.BadReference (inl (lit≤ tt))) λ _. low-room _ p cause.TextFull fine

low-extra : (p : Place) (used kind : ℕ) (x : Attribute) (g : Given) → ByRules (read_extra unlimited p used kind x g)
unfolding read_extra new_extra old_extra
low-extra p used kind x g =
    low-bind (low-leaf p (utf8 x.key) (refs_ok x.key 0) tt cause.BadReference (inl (lit≤ tt))) λ _.
    low-bind (low-leaf p (utf8 x.value) (refs_ok x.value 0) tt cause.BadReference (inl (lit≤ tt))) λ _.
    low-cond (leb (length g.extras) (place_of g.texts (value_text x.key) g.extras))
    (low-room _ p cause.RecordsSpent (low-room _ p cause.TextFull (low-room _ p cause.TextFull fine))) (low-room _ p cause.TextFull fine)

low-role : (p : Place) (used kind key : ℕ) (role : Role) (x : Attribute) (g : Given) → ByRules (by_role unlimited p used kind key role x g)
unfolding by_role timestamp_of uuid_of
low-role p used kind key (role.Text o k) x g = low-text (within p key) o k x.value g
low-role p used kind key (role.Count o) x g = low-bind (low-leaf (within p key) (utf8 x.value) (is_integer x.value) _ cause.BadInteger (inl (lit≤ tt))) λ n. fine
low-role p used kind key (role.Number o k) x g = low-bind (low-leaf (within p key) (utf8 x.value) (is_integer x.value) _ cause.BadInteger (inl (lit≤ tt))) λ n. fine
low-role p used kind key role.Uuid x g = low-bind (low-leaf (within p key) (utf8 x.value) (is_uuid x.value) _ cause.BadUuid (inl (lit≤ tt))) λ w. fine
low-role p used kind key (role.Timestamp kept) x g = low-bind (low-leaf (within p key) (utf8 x.value) (is_timestamp x.value) _ cause.BadTimestamp (inl (lit≤ tt))) λ m. fine
low-role p used kind key (role.Time kept) x g = low-bind (low-leaf (within p key) (utf8 x.value) (is_time x.value) _ cause.BadTime (inl (lit≤ tt))) λ t. fine
low-role p used kind key role.Extra x g = low-extra p used kind x g
low-role p used kind key role.Ignored x g = fine

low-attributes : (p : Place) (used kind : ℕ) (before : List (List ℕ)) (j : ℕ) (xs : List Attribute) (g : Given) → ByRules (read_attributes unlimited p used kind before j xs g)
unfolding read_attributes
low-attributes p used kind before j [] g = fine
low-attributes p used kind before j (x ∷ xs) g =
    low-bind (low-need _ (numbered p j) cause.FaultyAttribute (inl (lit≤ tt))
    (low-need _ (numbered p j) cause.RepeatedKey (inl (lit≤ tt)) (low-role (numbered p j) used kind (key_of x.key) (role_of kind (key_of x.key)) x g))) λ h.
    low-attributes p used kind (before ++ (x.key ∷ [])) (j + 1) xs h

-- reading an element with no limit refuses by the rules alone
pub low-element : (p : Place) (kind j : ℕ) (xs : List Attribute) (records : List (List ℕ)) (texts : List ℕ) → ByRules (read_element unlimited p kind j xs records texts)
unfolding read_element complete
low-element p kind j xs records texts =
    low-bind (low-room _ p cause.RecordsSpent (low-attributes p (length records) kind [] j xs _)) λ g.
    low-bind (low-need _ (within p 1) cause.MissingAttribute (inl (lit≤ tt)) (low-need _ (within p 14) cause.MissingAttribute (inl (lit≤ tt)) fine)) λ h. fine
