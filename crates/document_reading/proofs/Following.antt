-- Where reading an element is accepted, it is accepted at any other place, with any other number of its first attribute, with the same. Assumes nothing.
use Prim.Native.Nat.{ℕ, ◌+◌}
use mathlib.Core.Bool.{Bool, true, false, cond, not}
use mathlib.Core.List.{List, [], ◌∷◌, ◌++◌}
use mathlib.Core.Path.{◌≡◌, refl, subst}
use native.Mathlib.Omega.{arith}
use Rattle.read_spelling.specs.of_area.Answer.{Answer, gives, refuses}
use Rattle.xml_grammar.specs.of_names.Keys.{key_of}
use Rattle.read_spelling.specs.of_refusal.Refusal.{Refused, Outcome, accepted, refused}
use Rattle.read_spelling.specs.of_refusal.declared.Cause.{Cause}
use Rattle.read_spelling.specs.of_refusal.declared.Cause.TheVariants as cause
use Rattle.xml_grammar.specs.of_table.Event.{Attribute}
use Rattle.read_spelling.specs.of_text.Value.{value_text, checked_of}
use Rattle.read_spelling.specs.of_integer.Integer.{integer_of}
use Rattle.read_spelling.specs.of_time.Time.{time_of}
use Rattle.read_spelling.specs.of_timestamp.Timestamp.{timestamp_of}
use Rattle.read_spelling.specs.of_uuids.Uuid.{uuid_of}
use Rattle.read_spelling.specs.of_tree_report.Report.{Text}
use Rattle.read_spelling.specs.of_read_element.Outcome.{◌>>=◌, Place, Rooms, there, need, within}
use Rattle.read_spelling.specs.of_read_element.Attributes.{among, numbered}
use Rattle.read_spelling.proofs.of_read_element.TreeOutcome.{Holds, accept}
use Rattle.read_spelling.specs.of_read_report.Deserialize.{Used, taking, storing, Element, keys_of, has_extras, required, is_in, Sort, a_text, a_number, a_moment, a_time, a_uuid, sort_of}
use Rattle.read_spelling.specs.of_read_report.Deserialize.{Taken, reading, has_pair, extra, attribute, attributes, text_under, is_there, completed, element}

-- where the first is accepted, the second is, with R between what they carry
pub data Follow {A B : Type 0} (R : A → B → Type 0) : Outcome A → Outcome B → Type 0 where
  goes : {a : A} {b : B} → R a b → Follow R (accepted a) (accepted b)
  halts : {r : Refused} {n : Outcome B} → Follow R (refused r) n

pub bind : {A B C D : Type 0} {R : A → B → Type 0} {S : C → D → Type 0} {m : Outcome A} {n : Outcome B} {f : A → Outcome C} {g : B → Outcome D}
    → Follow R m n → ((a : A) (b : B) → R a b → Follow S (f a) (g b)) → Follow S (m >>= f) (n >>= g)
unfolding ◌>>=◌
bind (goes {a = a} {b = b} r) k = k a b r
bind halts k = halts

pub needing : {A B : Type 0} {R : A → B → Type 0} (p q : Place) (b : Bool) (why : Cause) {m : Outcome A} {n : Outcome B} → Follow R m n → Follow R (need b p why m) (need b q why n)
unfolding need
needing p q true why h = h
needing p q false why h = halts

pub choosing : {A B : Type 0} {R : A → B → Type 0} (b : Bool) {m k : Outcome A} {n l : Outcome B} → Follow R m n → Follow R k l → Follow R (cond b m k) (cond b n l)
choosing true h g = h
choosing false h g = g

-- what is known of both
pub knowing : {A B : Type 0} {R : A → B → Type 0} {P : A → Type 0} {Q : B → Type 0} {m : Outcome A} {n : Outcome B}
    → Follow R m n → Holds P m → Holds Q n → Follow (λ a b. R a b × P a × Q b) m n
knowing (goes r) (accept p) (accept q) = goes (r, p, q)
knowing halts h k = halts

pub weaken : {A B : Type 0} {R S : A → B → Type 0} {m : Outcome A} {n : Outcome B} → Follow R m n → ((a : A) (b : B) → R a b → S a b) → Follow S m n
weaken (goes {a = a} {b = b} r) k = goes (k a b r)
weaken halts k = halts

pub followed : {A B : Type 0} {R : A → B → Type 0} {m : Outcome A} {n : Outcome B} → Follow R m n → (a : A) → m ≡ accepted a → (b : B) × (n ≡ accepted b) × R a b
followed {R = R} (goes {a = x} {b = b} r) a e = let z : x ≡ a = cc in (b, refl, subst (λ (c : _). R c b) z r)
followed halts a e = let z : ◌≡◌ {A = ℕ} 0 1 = cc in absurd (omega arith)

-- ---- the same
pub data Same {A : Type 0} (a : A) : A → Type 0 where
  same : Same a a

pub then : {A B C : Type 0} {R : B → C → Type 0} {m n : Outcome A} {f : A → Outcome B} {g : A → Outcome C}
    → Follow Same m n → ((a : A) → Follow R (f a) (g a)) → Follow R (m >>= f) (n >>= g)
unfolding ◌>>=◌
then (goes {a = a} same) k = k a
then halts k = halts

told : {A : Type 0} (p q : Place) (a : Answer A) → Follow Same (there p a) (there q a)
unfolding there
told p q (gives a) = goes same
told p q (refuses why) = halts

module _ (rooms : Rooms) where
  taking-follows : (p q : Place) (u : Used) → Follow Same (taking rooms p u) (taking rooms q u)
  taking-follows p q u = needing p q _ cause.RecordsSpent (goes same)

  pub storing-follows : (p q : Place) (v : Text) (u : Used) → Follow Same (storing rooms p v u) (storing rooms q v u)
  storing-follows p q v u = needing p q _ cause.TextFull (goes same)

  reading-follows : (p q : Place) (s : Sort) (v : List ℕ) (t : Taken) → Follow Same (reading rooms p s v t) (reading rooms q s v t)
  reading-follows p q a_text v t = then (told p q (checked_of v)) λ _. then (storing-follows p q (value_text v) t.used) λ u. goes same
  reading-follows p q a_number v t = then (told p q (integer_of v)) λ _. goes same
  reading-follows p q a_moment v t = then (told p q (timestamp_of v)) λ _. goes same
  reading-follows p q a_time v t = then (told p q (time_of v)) λ _. goes same
  reading-follows p q a_uuid v t = then (told p q (uuid_of v)) λ _. goes same

  extra-follows : (p q : Place) (x : Attribute) (t : Taken) → Follow Same (extra rooms p x t) (extra rooms q x t)
  extra-follows p q x t =
      then (told p q (checked_of x.key)) λ _.
      then (told p q (checked_of x.value)) λ _.
      (let k = value_text x.key in
      then (then (choosing (has_pair k t.extra) (goes same) (then (taking-follows p q t.used) λ u. storing-follows p q k u)) λ u. storing-follows p q (value_text x.value) u) λ u. goes same)

  attribute-follows : (p q : Place) (e : Element) (k : ℕ) (x : Attribute) (t : Taken) → Follow Same (attribute rooms p e k x t) (attribute rooms q e k x t)
  attribute-follows p q e k x t =
      choosing (is_in k (keys_of e)) (reading-follows (within p k) (within q k) (sort_of k) x.value t) (choosing (has_extras e) (extra-follows p q x t) (goes same))

  attributes-follow : (p q : Place) (e : Element) (before : List (List ℕ)) (j i : ℕ) (xs : List Attribute) (t : Taken)
      → Follow Same (attributes rooms p e before j xs t) (attributes rooms q e before i xs t)
  unfolding attributes
  attributes-follow p q e before j i [] t = goes same
  attributes-follow p q e before j i (x ∷ xs) t =
      then (needing (numbered p j) (numbered q i) x.good cause.FaultyAttribute
      (needing (numbered p j) (numbered q i) (not (among x.key before)) cause.RepeatedKey (attribute-follows (numbered p j) (numbered q i) e (key_of x.key) x t))) λ u.
      attributes-follow p q e (before ++ (x.key ∷ [])) (j + 1) (i + 1) xs u

  completed-follows : (p q : Place) (ks : List ℕ) (xs : List Attribute) (t : Taken) → Follow Same (completed p ks xs t) (completed q ks xs t)
  unfolding completed
  completed-follows p q [] xs t = goes same
  completed-follows p q (k ∷ ks) xs t = needing (within p k) (within q k) (is_there (text_under k xs)) cause.MissingAttribute (completed-follows p q ks xs t)

  pub element-follows : (p q : Place) (e : Element) (j i : ℕ) (xs : List Attribute) (u : Used) → Follow Same (element rooms p e j xs u) (element rooms q e i xs u)
  unfolding element
  element-follows p q e j i xs u =
      then (taking-follows p q u) λ v. then (attributes-follow p q e [] j i xs (record { used = v; extra = [] })) λ t. completed-follows p q (required e) xs t
