-- An attribute's answer, against the definition. Assumes nothing.
use Prim.Native.Nat.{ℕ, zero, suc, ◌-◌, ◌*◌}
use mathlib.Core.Path.{◌≡◌, refl, sym, ap, subst, ◌∙◌}
use mathlib.Core.Bool.{Bool, true, false, not, ◌&&◌}
use mathlib.Core.List.{List, [], ◌∷◌}
use native.Mathlib.Omega.{arith}
use borrow.Author.Tests.{ne_eqb}
use mathlib.Core.Logic.{inl, inr}
use types.Run.{OneOf}
use lib.Dec.{eqb}
use lib.ListN.{length, get_or, take, drop}
use Rattle.read_repeats.specs.of_area.Answer.{Answer, gives, refuses}
use Rattle.read_repeats.proofs.of_area.Parts.{rest_part}
use Rattle.read_repeats.specs.of_refusal.Refusal.{Outcome}
use Rattle.read_repeats.specs.of_refusal.declared.Cause.{Cause}
use Rattle.read_repeats.specs.of_names.Keys.{key_of}
use Rattle.read_repeats.specs.of_table.Event.{Attribute, part, mark_at, key_at, value_at, attribute_at}
use Rattle.read_repeats.proofs.of_table.Words.{word_at, part_at}
use Rattle.read_repeats.specs.of_read_keys.Roles.{role_of}
use Rattle.read_repeats.specs.of_read_keys.declared.Role.{Role}
use Rattle.read_repeats.specs.of_read_keys.declared.Role.TheVariants as role
use Rattle.read_repeats.specs.of_read_element.Outcome.{Place, Rooms, within, need}
use Rattle.read_repeats.specs.of_text.Value.{value_text}
use Rattle.read_extras.specs.inside.Hinted.{Hinted}
use Rattle.read_repeats.specs.of_read_element.Attributes.{Given, place_of, among, numbered, read_extra, by_role}
use Rattle.read_repeats.specs.of_read_element.inside.Held.{Held, Meets}
use Rattle.read_repeats.specs.of_read_element.inside.Refines.{went, stopped}
use Rattle.read_extras.specs.of_read_extra_record.inside.Answers.{gave_answer}
use Rattle.read_repeats.specs.inside.Words.{attribute_in}
use Rattle.read_role.specs.inside.Roles.{took_given}
use Rattle.read_attribute.specs.inside.Steps.{taken_step, gave_step, by_key_of, Matches}
use Rattle.read_extras.specs.of_read_extra_record.declared.Given.{Given as Counted}
use Rattle.std.specs.Prelude.{Result, Ok, Err}
use Rattle.read_fault.specs.inside.Faults.{fault_of}
use Rattle.read_fault.specs.declared.Fault.{Fault}
use Rattle.read_attribute.proofs.RoleKeys.{Accepts, unknown-accepts}
use Rattle.read_repeats.specs.of_refusal.declared.Cause.TheVariants as cause

-- the attribute at a place of the table, in the words from there on
pub attribute-in : (attributes source : List ℕ) (j : ℕ) → attribute_in (drop (j * 5) attributes) source ≡ attribute_at attributes source j
attribute-in attributes source j =
    let good : eqb (get_or (drop (j * 5) attributes) 0 0) 0 ≡ mark_at attributes j = ap (λ (n : ℕ). eqb n 0) (sym (word_at attributes j 0)) in
    let key : part source (get_or (drop (j * 5) attributes) 1 0) (get_or (drop (j * 5) attributes) 2 0) ≡ key_at attributes source j = sym (part_at attributes j source 1 2) in
    let value : part source (get_or (drop (j * 5) attributes) 3 0) (get_or (drop (j * 5) attributes) 4 0) ≡ value_at attributes source j = sym (part_at attributes j source 3 4) in
    rw (good, key, value)

-- the numbers that are given
abbrev numbers_of : Answer (ℕ × ℕ) → ℕ × ℕ
numbers_of (gives a) = a
numbers_of (refuses n) = (0, 0)

module _ {p : Place} {j : ℕ} {own text : List ℕ} where
  -- a value's answer: its refusals have the Attribute
  value-by : (key : ℕ) (given : Counted) (t : Result ℕ Cause) {o : Outcome Given} {a : Answer (ℕ × ℕ)} → Meets (within (numbered p j) key) own text o a → a ≡ took_given given.extras t → (key ≡ 0 → Accepts o)
      → Matches p own text o (taken_step t given key j)
  value-by key given (Ok n) (went {s = h} {c = (e, f)} hd) q s =
      let z : e ≡ given.extras = ap (λ (b : Answer (ℕ × ℕ)). (numbers_of b).0) q in
      let y : f ≡ n = ap (λ (b : Answer (ℕ × ℕ)). (numbers_of b).1) q in
      let held : Held own text given.extras n h = rw (← z, ← y) hd in
      went held
  value-by key given (Err why) (went hd) q s = let z : ◌≡◌ {A = ℕ} 0 1 = cc in absurd (omega arith)
  value-by key given (Ok n) stopped q s = let z : ◌≡◌ {A = ℕ} 0 1 = cc in absurd (omega arith)
  value-by zero given (Err why) stopped q s = absurd (s refl)
  value-by (suc k) given (Err why) (stopped {f = n}) q s = let z : n ≡ why = cc in rw z stopped

  -- an extra's answer: they have none
  extra-by : (found : Result Counted Cause) {o : Outcome Given} {a : Answer (ℕ × ℕ)} → Meets (numbered p j) own text o a → a ≡ gave_answer found → Matches p own text o (gave_step found j)
  extra-by (Ok given) (went {s = h} {c = (e, f)} hd) q =
      let z : e ≡ given.extras = ap (λ (b : Answer (ℕ × ℕ)). (numbers_of b).0) q in
      let y : f ≡ given.fill = ap (λ (b : Answer (ℕ × ℕ)). (numbers_of b).1) q in
      let held : Held own text given.extras given.fill h = rw (← z, ← y) hd in
      went held
  extra-by (Err why) (went hd) q = let z : ◌≡◌ {A = ℕ} 0 1 = cc in absurd (omega arith)
  extra-by (Ok given) stopped q = let z : ◌≡◌ {A = ℕ} 0 1 = cc in absurd (omega arith)
  extra-by (Err why) (stopped {f = n}) q = let z : n ≡ why = cc in rw z stopped

-- an attribute with the role of its key
module _ (kind j : ℕ) (x : Attribute) (g : Given) (rooms : Rooms) (p : Place) (used : ℕ) {own text : List ℕ} {key : ℕ} {r : Role} (ek : key ≡ key_of x.key) (er : r ≡ role_of kind key) where
  by_key : {s : Result Counted Fault} → Matches p own text (by_role rooms (numbered p j) used kind key r x g) s → Matches p own text (by_key_of rooms (numbered p j) used kind x g) s
  by_key {s} m =
      subst (λ (k : ℕ). Matches p own text (by_role rooms (numbered p j) used kind k (role_of kind k) x g) s) ek
      (subst (λ (t : Role). Matches p own text (by_role rooms (numbered p j) used kind key t x g) s) er m)

  pub value-step : (given : Counted) (t : Result ℕ Cause) {s : Result Counted Fault} → (r ≡ role.Extra → ⊥)
      → Meets (within (numbered p j) key) own text (by_role rooms (numbered p j) used kind key r x g) (took_given given.extras t)
      → s ≡ taken_step t given key j → Matches p own text (by_key_of rooms (numbered p j) used kind x g) s
  value-step given t n m e =
      let quiet : key ≡ 0 → Accepts (by_role rooms (numbered p j) used kind key r x g) =
      λ z. subst (λ (t : Role). Accepts (by_role rooms (numbered p j) used kind key t x g)) (sym er) (unknown-accepts rooms (numbered p j) used kind key x g (λ q. n (er ∙ q)) z)
      in
      rw e (by_key (value-by key given t m refl quiet))

  pub extra-step : (found : Result Counted Cause) {s : Result Counted Fault} → r ≡ role.Extra → Meets (numbered p j) own text (read_extra rooms (numbered p j) used kind x g) (gave_answer found) → s ≡ gave_step found j
      → Matches p own text (by_key_of rooms (numbered p j) used kind x g) s
  unfolding by_role
  extra-step found n m e = rw e (by_key (rw n (extra-by found m refl)))

-- a role with another number is no extra
pub other-role : {n : ℕ} → OneOf (0 ∷ 1 ∷ 2 ∷ 3 ∷ 4 ∷ 5 ∷ 7 ∷ []) n → n ≡ 6 → ⊥
other-role (inl a) e = omega arith
other-role (inr (inl a)) e = omega arith
other-role (inr (inr (inl a))) e = omega arith
other-role (inr (inr (inr (inl a)))) e = omega arith
other-role (inr (inr (inr (inr (inl a))))) e = omega arith
other-role (inr (inr (inr (inr (inr (inl a)))))) e = omega arith
other-role (inr (inr (inr (inr (inr (inr a)))))) e = omega arith

-- a key that was searched for, or is known not to be repeated
repeat-told : {found among : Bool} (free : Bool) → found ≡ (not free && among) → (free ≡ true → among ≡ false) → among ≡ found
repeat-told true e k = k refl ∙ sym e
repeat-told false e k = sym e

passed : {p : Place} (q : Place) (n : Cause) {own text : List ℕ} {s : Result Counted Fault} (b : Bool) (m : Outcome Given) → b ≡ true → Matches p own text m s → Matches p own text (need b q n m) s
unfolding need
passed q n b m e x = rw e x

-- the words `&attributes[j * 5..]`
abbrev lent : List ℕ → ℕ → List ℕ
lent attributes j = take (length attributes - j * 5) (drop (j * 5) attributes)

module _ (attributes source : List ℕ) (j : ℕ) where
  attribute-lent : attribute_in (lent attributes j) source ≡ attribute_at attributes source j
  attribute-lent = ap (λ (l : List ℕ). attribute_in l source) (rest_part attributes (j * 5)) ∙ attribute-in attributes source j

  -- a hint for its key
  pub hint-lent : {hint : ℕ} (g : Given) → Hinted hint g (value_text (key_at attributes source j)) → Hinted hint g (value_text (attribute_in (lent attributes j) source).key)
  hint-lent {hint} g k h = ap (λ (x : Attribute). place_of g.texts (value_text x.key) g.extras) attribute-lent ∙ k h

  mark-lent : {t : Bool} → eqb (get_or (lent attributes j) 0 0) 0 ≡ t → mark_at attributes j ≡ t
  mark-lent e = sym (ap (λ (x : Attribute). x.good) attribute-lent) ∙ e

  -- faulty (rule A2) or repeated (rule A3), and else the key and value
  module _ (p : Place) (ks : List (List ℕ)) where
    pub step-faulty : {own text : List ℕ} {s : Result Counted Fault} (m : Outcome Given) → (get_or (lent attributes j) 0 0 ≡ 0 → ⊥) → s ≡ Err (fault_of cause.FaultyAttribute 0 j)
        → Matches p own text (need (mark_at attributes j) (numbered p j) cause.FaultyAttribute (need (not (among (key_at attributes source j) ks)) (numbered p j) cause.RepeatedKey m)) s
    unfolding need
    step-faulty m h q = rw (q, mark-lent (ne_eqb (get_or (lent attributes j) 0 0) 0 h)) stopped

    module _ {found free : Bool} (h : get_or (lent attributes j) 0 0 ≡ 0) (e : found ≡ (not free && among (attribute_in (lent attributes j) source).key ks))
        (k : free ≡ true → among (key_at attributes source j) ks ≡ false) where
      good : mark_at attributes j ≡ true
      good = mark-lent (ap (λ (n : ℕ). eqb n 0) h)

      told : among (key_at attributes source j) ks ≡ found
      told = repeat-told free (e ∙ ap (λ (x : Attribute). not free && among x.key ks) attribute-lent) k

      pub step-repeated : {own text : List ℕ} {s : Result Counted Fault} (m : Outcome Given) → found ≡ true → s ≡ Err (fault_of cause.RepeatedKey 0 j)
          → Matches p own text (need (mark_at attributes j) (numbered p j) cause.FaultyAttribute (need (not (among (key_at attributes source j) ks)) (numbered p j) cause.RepeatedKey m)) s
      unfolding need
      step-repeated m f q = rw (q, good, told ∙ f) stopped

      pub step-on : {own text : List ℕ} {s : Result Counted Fault} (rooms : Rooms) (used kind : ℕ) (g : Given) → found ≡ false
          → Matches p own text (by_key_of rooms (numbered p j) used kind (attribute_in (lent attributes j) source) g) s
          → Matches p own text (need (mark_at attributes j) (numbered p j) cause.FaultyAttribute
          (need (not (among (key_at attributes source j) ks)) (numbered p j) cause.RepeatedKey (by_key_of rooms (numbered p j) used kind (attribute_at attributes source j) g))) s
      step-on {own} {text} {s} rooms used kind g f m =
          passed (numbered p j) cause.FaultyAttribute (mark_at attributes j)
          (need (not (among (key_at attributes source j) ks)) (numbered p j) cause.RepeatedKey (by_key_of rooms (numbered p j) used kind (attribute_at attributes source j) g)) good
          (passed (numbered p j) cause.RepeatedKey (not (among (key_at attributes source j) ks)) (by_key_of rooms (numbered p j) used kind (attribute_at attributes source j) g) (ap not (told ∙ f))
          (subst (λ (x : Attribute). Matches p own text (by_key_of rooms (numbered p j) used kind x g) s) attribute-lent m))
