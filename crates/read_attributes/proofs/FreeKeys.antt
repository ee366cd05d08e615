-- Ranges of attributes without a repeated key, and the keys before an attribute. Assumes nothing.
use Prim.Native.Nat.{ℕ, zero, suc, ◌+◌, ◌-◌, ◌≤◌}
use mathlib.Core.Path.{◌≡◌, refl, sym, ap, subst, ◌∙◌}
use mathlib.Core.Bool.{Bool, true, false, cond, not, ◌&&◌, ◌||◌}
use mathlib.Core.List.{List, []}
use native.Mathlib.Omega.{arith}
use borrow.Author.Tests.{leb-true, not-true}
use lib.Dec.{leb, eqb}
use Rattle.read_all.specs.of_refusal.Refusal.{Outcome, accepted, refused}
use Rattle.read_all.specs.of_table.Event.{key_at, mark_at, attributes_from}
use Rattle.read_all.specs.of_read_element.Outcome.{Place, Rooms}
use Rattle.read_all.specs.of_read_element.Attributes.{Given, among, numbered, read_attributes}
use Rattle.read_all.specs.of_read_element.inside.Held.{keys_of}
use Rattle.read_attributes.specs.inside.Elements.{Free, known_of}
use Rattle.read_all.specs.of_read_attribute.declared.Range.{Range}
use Rattle.read_all.proofs.of_read_free.MoreKeys.{unrepeated-more}
use Rattle.read_all.proofs.of_read_each.KeysBefore.{keys-next}
use Rattle.read_all.proofs.of_read_element.TreeOutcome.{Holds, accept, refuse, bind, weaken, needed}
use Rattle.read_all.specs.of_refusal.declared.Cause.TheVariants as cause

and-true : (a b : Bool) → (a && b) ≡ true → (a ≡ true) × (b ≡ true)
and-true true b e = (refl, e)
and-true false b e = let z : ◌≡◌ {A = ℕ} 0 1 = cc in absurd (omega arith)

-- which range `known_of` answers
pub known-answer : (known range : Range) {b t : Bool} → b ≡ (leb known.first range.first && leb range.end known.end)
    → (eqb range.first range.end || b) ≡ t → cond t known range ≡ known_of known range
known-answer known range e q = sym (ap (λ (u : Bool). cond (eqb range.first range.end || u) known range) (sym e) ∙ ap (λ (u : Bool). cond u known range) q)

module _ (attributes source : List ℕ) where
  pub free-within : (known range : Range) → Free attributes source known.first known.end
      → (leb known.first range.first && leb range.end known.end) ≡ true → Free attributes source range.first range.end
  free-within known range f e i j a b c =
      let q = and-true (leb known.first range.first) (leb range.end known.end) e in
      let x = leb-true known.first range.first q.0 in
      let y = leb-true range.end known.end q.1 in
      f i j (omega arith) b (omega arith)

  pub free-either : (known range : Range) → Free attributes source known.first known.end
      → Free attributes source range.first range.end → {r : Range} → r ≡ known_of known range → Free attributes source r.first r.end
  free-either known range f h {r} e =
      subst (λ (x : Range). Free attributes source x.first x.end) (sym e) (go (eqb range.first range.end || (leb known.first range.first && leb range.end known.end)))
    where
      go : (t : Bool) → Free attributes source (cond t known range).first (cond t known range).end
      go true = f
      go false = h

-- an outcome whatever it is
always : {A Q : Type 0} (m : Outcome A) → Q → Holds (λ _. Q) m
always (accepted a) q = accept q
always (refused r) q = refuse

-- attributes that are accepted have no repeated key
module _ (attributes source : List ℕ) (rooms : Rooms) (p : Place) (used kind first : ℕ) where
  free-from : (n j : ℕ) (g : Given) → first ≤ j → Free attributes source first j
      → Holds (λ _. Free attributes source first (j + n)) (read_attributes rooms p used kind (keys_of (attributes_from attributes source (j - first) first)) j (attributes_from attributes source n j) g)
  unfolding read_attributes attributes_from
  free-from zero j g h f = accept (λ i k a b c. f i k a b (omega arith))
  free-from (suc n) j g h f =
      let key : List ℕ = key_at attributes source j in
      let keys : List (List ℕ) = keys_of (attributes_from attributes source (j - first) first) in
      bind (needed (mark_at attributes j) (numbered p j) cause.FaultyAttribute λ _. needed (not (among key keys)) (numbered p j) cause.RepeatedKey (λ e. always _ (not-true (among key keys) e)))
      (λ g' q. subst (λ (ks : List (List ℕ)). Holds (λ _. Free attributes source first (j + suc n)) (read_attributes rooms p used kind ks (j + 1) (attributes_from attributes source n (j + 1)) g'))
      (keys-next attributes source first j h)
      (weaken (free-from n (j + 1) g' (omega arith) (unrepeated-more attributes source first j f q)) (λ _ r i k a b c. r i k a b (omega arith))))

  pub free-read : (end : ℕ) (g : Given) → first ≤ end
      → Holds (λ _. Free attributes source first end) (read_attributes rooms p used kind [] first (attributes_from attributes source (end - first) first) g)
  unfolding attributes_from
  free-read end g h =
      let z : first - first ≡ 0 = omega arith in
      weaken (subst (λ (n : ℕ). Holds (λ _. Free attributes source first (first + (end - first)))
      (read_attributes rooms p used kind (keys_of (attributes_from attributes source n first)) first (attributes_from attributes source (end - first) first) g))
      z (free-from (end - first) first g (omega arith) (λ i k a b c. absurd (omega arith))))
      (λ _ r i k a b c. r i k a b (omega arith))
