-- How the areas' lengths enter an element's reading: with less room it comes to the same, or to 12, 13 or 14. Assumes nothing.
use Prim.Native.Nat.{ℕ, ◌+◌, ◌/◌, min, ◌≤◌}
use mathlib.Core.Path.{◌≡◌, refl, subst}
use mathlib.Core.List.{List, [], ◌∷◌, ◌++◌}
use mathlib.Core.Bool.{Bool, true, false, cond}
use mathlib.Core.Option.{Option, none, some}
use mathlib.Core.Logic.{◌⊎◌, inl, inr}
use native.Mathlib.Omega.{arith}
use lib.ListN.{length}
use lib.Dec.{T, leb, leb→le, le→leb}
use Rattle.integer.specs.of_names.Keys.{key_of}
use Rattle.integer.specs.of_refusal.Refusal.{Refused, Outcome, accepted, refused}
use Rattle.table.specs.Event.{Attribute}
use Rattle.text.specs.Value.{value_text}
use Rattle.read_element.specs.Outcome.{◌>>=◌, Place, need, within, Rooms, rooms_of, unlimited, fits}
use Rattle.read_keys.specs.declared.Role.{Role}
use Rattle.read_keys.specs.declared.Role.TheVariants as role
use Rattle.read_keys.specs.Roles.{role_of}
use Rattle.read_element.specs.Attributes.{Given, place_of, numbered, read_text, old_extra, new_extra, read_extra, by_role, read_attributes, read_element}
use Rattle.integer.specs.of_refusal.declared.Cause.TheVariants as cause
use Rattle.integer.specs.of_refusal.declared.Cause.{Cause}

-- records spent (12), text area too short (13), scratch too short (14)
abbrev pub IsShort : Cause → Type 0
IsShort why = (why ≡ cause.RecordsSpent) ⊎ ((why ≡ cause.TextFull) ⊎ (why ≡ cause.ScratchFull))

-- a refusal with such a cause
pub data Short {A : Type 0} : Outcome A → Type 0 where
  lacking : {r : Refused} → IsShort r.cause → Short (refused r)

-- an outcome that is short is a refusal with 12, 13 or 14
pub short-refusal : {A : Type 0} {m : Outcome A} → Short m → (r : Refused) × (m ≡ refused r) × IsShort r.cause
short-refusal (lacking {r = r} h) = (r, refl, h)

-- m is n, or m is short
pub data Agrees {A : Type 0} : Outcome A → Outcome A → Type 0 where
  same : {m : Outcome A} → Agrees m m
  lacks : {m n : Outcome A} → Short m → Agrees m n

-- with less room an outcome is the same or is short: for who asks which
pub agreed : {A : Type 0} {m n : Outcome A} → Agrees m n → (m ≡ n) ⊎ Short m
agreed same = inl refl
agreed (lacks h) = inr h

-- where m accepts, n gives the same
pub accepts : {A : Type 0} {m n : Outcome A} (a : A) → Agrees m n → m ≡ accepted a → n ≡ accepted a
accepts a same e = e
accepts a (lacks (lacking h)) e = let z : ◌≡◌ {A = ℕ} 0 1 = cc in absurd (omega arith)

-- where m refuses, it is short, or n refuses alike
pub refuses-so : {A : Type 0} {m n : Outcome A} (r : Refused) → Agrees m n → m ≡ refused r → IsShort r.cause ⊎ (n ≡ refused r)
refuses-so r same e = inr e
refuses-so r (lacks (lacking {r = q} h)) e = let z : q ≡ r = cc in inl (subst (λ (x : Refused). IsShort x.cause) z h)

-- where n refuses, m refuses alike, or it is short
pub refuses-too : {A : Type 0} {m n : Outcome A} (r : Refused) → Agrees m n → n ≡ refused r → (m ≡ refused r) ⊎ Short m
refuses-too r same e = inl e
refuses-too r (lacks h) e = inr h

-- where m is not short, n is m
pub suffices : {A : Type 0} {m n : Outcome A} → Agrees m n → ¬ Short m → n ≡ m
suffices same h = refl
suffices (lacks s) h = absurd (h s)

-- ---- steps behind one another
then-bind : {A B : Type 0} (m : Outcome A) {f g : A → Outcome B} → ((a : A) → Agrees (f a) (g a)) → Agrees (m >>= f) (m >>= g)
unfolding ◌>>=◌
then-bind (accepted a) k = k a
then-bind (refused r) k = same

-- agreement goes along one part behind another
pub bind : {A B : Type 0} {m n : Outcome A} {f g : A → Outcome B} → Agrees m n → ((a : A) → Agrees (f a) (g a)) → Agrees (m >>= f) (n >>= g)
unfolding ◌>>=◌
bind (same {m = m}) k = then-bind m k
bind (lacks (lacking h)) k = lacks (lacking h)

-- ---- tests
needing : {A : Type 0} (b : Bool) (p : Place) (why : Cause) {m n : Outcome A} → Agrees m n → Agrees (need b p why m) (need b p why n)
unfolding need
needing true p why h = h
needing false p why h = same

-- agreement goes along a choice that doesn't depend on the room
pub choosing : {A : Type 0} (b : Bool) {m n k l : Outcome A} → Agrees m n → Agrees k l → Agrees (cond b m k) (cond b n l)
choosing true h j = h
choosing false h j = j

-- ---- rooms
-- the second has no limit, or is at least the first
pub data AtLeast : Option ℕ → Option ℕ → Type 0 where
  unbounded : {most : Option ℕ} → AtLeast most none
  larger : {most most' : ℕ} → most ≤ most' → AtLeast (some most) (some most')

pub record Wider (rooms rooms' : Rooms) : Type 0 where
  pub records : AtLeast rooms.records rooms'.records
  pub text : AtLeast rooms.text rooms'.text
  pub scratch : AtLeast rooms.scratch rooms'.scratch

-- no limit is at least as wide as any rooms
pub wider-unlimited : (rooms : Rooms) → Wider rooms unlimited
wider-unlimited rooms = record { records = unbounded; text = unbounded; scratch = unbounded }

-- longer areas have more room
pub wider-areas : (words words' text text' scratch scratch' : ℕ) → words ≤ words' → text ≤ text' → scratch ≤ scratch' →
    Wider (rooms_of words text scratch) (rooms_of words' text' scratch')
wider-areas words words' text text' scratch scratch' h j k =
    let a : min (words / 32) 65536 ≤ min (words' / 32) 65536 = omega arith in
    let b : min text 16777216 ≤ min text' 16777216 = omega arith in
    let c : min scratch 16777216 ≤ min scratch' 16777216 = omega arith in
    record { records = larger a; text = larger b; scratch = larger c }

fits_more : {most most' : Option ℕ} → AtLeast most most' → (n : ℕ) → T (fits most n) → T (fits most' n)
unfolding fits
fits_more unbounded n h = tt
fits_more (larger {most = a} {most' = b} l) n h = le→leb n b (let k : n ≤ a = leb→le n a h in omega arith)

need-more : {A : Type 0} (b c : Bool) → (T b → T c) → (p : Place) (why : Cause) → IsShort why → {m n : Outcome A} → Agrees m n →
    Agrees (need b p why m) (need c p why n)
unfolding need
need-more true true e p why s h = h
need-more true false e p why s h = absurd (e tt)
need-more false c e p why s h = lacks (lacking s)

-- the law of all three areas: where n are needed, by the area's cause
fitting : {A : Type 0} {most most' : Option ℕ} → AtLeast most most' → (n : ℕ) (p : Place) (why : Cause) → IsShort why → {k l : Outcome A} → Agrees k l →
    Agrees (need (fits most n) p why k) (need (fits most' n) p why l)
fitting {most} {most'} w n p why s h = need-more (fits most n) (fits most' n) (fits_more w n) p why s h

-- ---- an element
module _ (rooms rooms' : Rooms) (w : Wider rooms rooms') where
  records-fit : {A : Type 0} (n : ℕ) (p : Place) {k l : Outcome A} → Agrees k l
      → Agrees (need (fits rooms.records n) p cause.RecordsSpent k) (need (fits rooms'.records n) p cause.RecordsSpent l)
  records-fit n p h = fitting w.records n p cause.RecordsSpent (inl refl) h

  -- the test for text room: with less room it may refuse, and then with 13
  pub text-fits : {A : Type 0} (n : ℕ) (p : Place) {k l : Outcome A} → Agrees k l → Agrees (need (fits rooms.text n) p cause.TextFull k) (need (fits rooms'.text n) p cause.TextFull l)
  text-fits n p h = fitting w.text n p cause.TextFull (inr (inl refl)) h

  -- the test for scratch room: with less room it may refuse, and then with 14
  pub scratch-fits : {A : Type 0} (n : ℕ) (p : Place) {k l : Outcome A} → Agrees k l
      → Agrees (need (fits rooms.scratch n) p cause.ScratchFull k) (need (fits rooms'.scratch n) p cause.ScratchFull l)
  scratch-fits n p h = fitting w.scratch n p cause.ScratchFull (inr (inr refl)) h

  text-agrees : (p : Place) (o k : ℕ) (value : List ℕ) (g : Given) → Agrees (read_text rooms p o k value g) (read_text rooms' p o k value g)
  unfolding read_text
  text-agrees p o k value g = bind same λ _. text-fits _ p same

  old-agrees : (p : Place) (value : List ℕ) (i : ℕ) (g : Given) → Agrees (old_extra rooms p value i g) (old_extra rooms' p value i g)
  unfolding old_extra
  old-agrees p value i g = text-fits _ p same

  new-agrees : (p : Place) (used kind : ℕ) (key value : List ℕ) (g : Given) → Agrees (new_extra rooms p used kind key value g) (new_extra rooms' p used kind key value g)
  unfolding new_extra
  new-agrees p used kind key value g = records-fit _ p (text-fits _ p (text-fits _ p same))

  extra-agrees : (p : Place) (used kind : ℕ) (x : Attribute) (g : Given) → Agrees (read_extra rooms p used kind x g) (read_extra rooms' p used kind x g)
  unfolding read_extra
  extra-agrees p used kind x g =
      bind same λ _.
      bind same λ _.
      (let i = place_of g.texts (value_text x.key) g.extras in
      choosing (leb (length g.extras) i) (new-agrees p used kind (value_text x.key) (value_text x.value) g) (old-agrees p (value_text x.value) i g))

  role-agrees : (p : Place) (used kind key : ℕ) (role : Role) (x : Attribute) (g : Given) → Agrees (by_role rooms p used kind key role x g) (by_role rooms' p used kind key role x g)
  unfolding by_role
  role-agrees p used kind key (role.Text o k) x g = text-agrees (within p key) o k x.value g
  role-agrees p used kind key (role.Count o) x g = same
  role-agrees p used kind key (role.Number o k) x g = same
  role-agrees p used kind key role.Uuid x g = same
  role-agrees p used kind key (role.Timestamp kept) x g = same
  role-agrees p used kind key (role.Time kept) x g = same
  role-agrees p used kind key role.Extra x g = extra-agrees p used kind x g
  role-agrees p used kind key role.Ignored x g = same

  attributes-agree : (p : Place) (used kind : ℕ) (before : List (List ℕ)) (j : ℕ) (xs : List Attribute) (g : Given) →
      Agrees (read_attributes rooms p used kind before j xs g) (read_attributes rooms' p used kind before j xs g)
  unfolding read_attributes
  attributes-agree p used kind before j [] g = same
  attributes-agree p used kind before j (x ∷ xs) g =
      bind (needing _ (numbered p j) cause.FaultyAttribute (needing _ (numbered p j) cause.RepeatedKey (role-agrees (numbered p j) used kind (key_of x.key) (role_of kind (key_of x.key)) x g)))
      λ h.
      attributes-agree p used kind (before ++ (x.key ∷ [])) (j + 1) xs h

  -- an element read with less room comes to the same, or to a refusal for lack of room
  pub element-agrees : (p : Place) (kind j : ℕ) (xs : List Attribute) (records : List (List ℕ)) (texts : List ℕ) →
      Agrees (read_element rooms p kind j xs records texts) (read_element rooms' p kind j xs records texts)
  unfolding read_element
  element-agrees p kind j xs records texts = bind (records-fit _ p (attributes-agree p (length records) kind [] j xs _)) λ g. same
