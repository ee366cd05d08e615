-- What a value's answer tells of the record and the texts. Assumes nothing.
use Prim.Native.Nat.{ℕ, ◌+◌, ◌-◌, ◌≤◌}
use mathlib.Core.Path.{◌≡◌, refl, sym, ap, ◌∙◌}
use mathlib.Core.Bool.{Bool, true, false, cond, ◌&&◌}
use mathlib.Core.List.{List, ◌++◌}
use native.Mathlib.Omega.{arith}
use lib.ListN.{length, take, drop, length-drop}
use borrow.Rule.Slice.PartMut.{put_mid}
use lib.Dec.{leb}
use Rattle.integer.specs.of_area.Answer.{Answer, gives, refuses}
use Rattle.integer.specs.of_area.Area.{placing, laid}
use Rattle.integer.proofs.of_area.Parts.{rest_part, rest_back}
use Rattle.integer.specs.of_utf8.Utf8.{utf8}
use Rattle.text.specs.of_reference.Reference.{refs_ok}
use Rattle.text.specs.Value.{value_text, checked_of, value_of, value_laid}
use Rattle.text.proofs.Checking.{checked-good}
use Rattle.text.proofs.Putting.{put_both, both_yes}
use Rattle.read_element.specs.Attributes.{keep}
use Rattle.read_element.specs.inside.Held.{unmoved, moved, putting}
use Rattle.integer.specs.of_refusal.declared.Cause.TheVariants as cause
use Rattle.integer.specs.of_refusal.declared.Cause.{Cause}

module _ {A : Type 0} (f : A → List ℕ → List ℕ) (fill : ℕ) (w : List ℕ) where
  -- a value that was given is put, and one that was refused is not
  pub took-put : {m : Answer A} {a : A} {w' : List ℕ} → gives a ≡ m → w' ≡ f a w → (gives fill ≡ unmoved fill m) × (w' ≡ putting f m w)
  took-put e o = (ap (unmoved fill) e, o ∙ ap (λ (x : Answer A). putting f x w) e)

  -- a value that was refused: the refusal is passed on, and the record is as it was
  pub took-none : {m : Answer A} {n : Cause} → refuses n ≡ m → (refuses n ≡ unmoved fill m) × (w ≡ putting f m w)
  took-none e = (ap (unmoved fill) e, ap (λ (x : Answer A). putting f x w) e)

  -- one that is kept or dropped
  module _ {kept : Bool} {m : Answer A} {a : A} (e : gives a ≡ m) where
    -- a value that was given and is kept is put into the record
    pub took-kept : {w' : List ℕ} → kept ≡ true → w' ≡ f a w → (gives fill ≡ unmoved fill m) × (w' ≡ putting (λ a x. keep kept (f a x) x) m w)
    took-kept k o = (ap (unmoved fill) e, o ∙ sym (ap (λ (t : Bool). keep t (f a w) w) k) ∙ ap (λ (x : Answer A). putting (λ a x. keep kept (f a x) x) x w) e)

    -- a value that was given and is dropped leaves the record as it was
    pub took-dropped : kept ≡ false → (gives fill ≡ unmoved fill m) × (w ≡ putting (λ a x. keep kept (f a x) x) m w)
    took-dropped k = (ap (unmoved fill) e, sym (ap (λ (t : Bool). keep t (f a w) w) k) ∙ ap (λ (x : Answer A). putting (λ a x. keep kept (f a x) x) x w) e)

  -- a change more, where it was put
  module _ (g : List ℕ → List ℕ) {w₁ : List ℕ} where
    -- one change more of the record, where the value was put
    pub took_more : (m : Answer A) {to : ℕ} {w₂ : List ℕ} → gives to ≡ unmoved fill m → w₁ ≡ putting f m w → w₂ ≡ g w₁ → (gives to ≡ unmoved fill m) × (w₂ ≡ putting (λ a x. g (f a x)) m w)
    took_more (gives a) e o p = (e, p ∙ ap g o)
    took_more (refuses n) e o p = let z : ◌≡◌ {A = ℕ} 0 1 = cc in absurd (omega arith)

    -- no change more, where the value was refused
    pub took-not : (m : Answer A) {n : Cause} → refuses n ≡ unmoved fill m → w₁ ≡ putting f m w → (refuses n ≡ unmoved fill m) × (w₁ ≡ putting (λ a x. g (f a x)) m w)
    took-not (gives a) e o = let z : ◌≡◌ {A = ℕ} 0 1 = cc in absurd (omega arith)
    took-not (refuses n) e o = (e, o)

-- a text that was put behind the `fill` bytes of l, or not
module _ (l : List ℕ) (fill : ℕ) (value : List ℕ) where
  part-size : length (take (length l - fill) (drop fill l)) ≡ length l - fill
  part-size = ap length (rest_part l fill) ∙ length-drop fill l

  sized : {a : Answer ℕ} → a ≡ value_of (length (take (length l - fill) (drop fill l))) value → a ≡ value_of (length l - fill) value
  sized e = e ∙ ap (λ (n : ℕ). value_of n value) part-size

  -- a value's text that was put ends in the text area: the bound for the next
  pub text-fits : {n : ℕ} → fill ≤ length l → gives n ≡ value_of (length (take (length l - fill) (drop fill l))) value → fill + n ≤ length l
  text-fits {n} h e =
      let p = put_both (utf8 value) (refs_ok value 0) cause.TextFull cause.BadReference cause.NotUtf8 (length l - fill) n (value_text value) (sized e) in
      let q = p.2 in let r = p.3 in omega arith

  text-back : {ys : List ℕ} → ys ≡ value_laid (take (length l - fill) (drop fill l)) value → put_mid fill (length l - fill) l ys ≡ take fill l ++ value_laid (drop fill l) value
  text-back {ys} e = rest_back l fill ys ∙ ap (λ (z : List ℕ). take fill l ++ z) (e ∙ ap (λ (z : List ℕ). value_laid z value) (rest_part l fill))

  module _ (f : ℕ → List ℕ → List ℕ) (w : List ℕ) {ys : List ℕ} (b : ys ≡ value_laid (take (length l - fill) (drop fill l)) value) where
    -- a value's text that was put: the new end of the texts, the record and the text area
    pub text-put : {n : ℕ} {w' : List ℕ} → gives n ≡ value_of (length (take (length l - fill) (drop fill l))) value → w' ≡ f n w
        → (gives (fill + n) ≡ moved fill (value_of (length l - fill) value))
        × ((w' ≡ putting f (value_of (length l - fill) value) w) × (put_mid fill (length l - fill) l ys ≡ take fill l ++ value_laid (drop fill l) value))
    text-put e o = (ap (moved fill) (sized e), (o ∙ ap (λ (x : Answer ℕ). putting f x w) (sized e), text-back b))

    -- a value's text that was refused: the refusal, the record as it was, and the text area
    pub text-none : {n : Cause} → refuses n ≡ value_of (length (take (length l - fill) (drop fill l))) value
        → (refuses n ≡ moved fill (value_of (length l - fill) value))
        × ((w ≡ putting f (value_of (length l - fill) value) w) × (put_mid fill (length l - fill) l ys ≡ take fill l ++ value_laid (drop fill l) value))
    text-none e = (ap (moved fill) (sized e), (ap (λ (x : Answer ℕ). putting f x w) (sized e), text-back b))

  -- of a value whose form is good, the text itself
  module _ (good : gives tt ≡ checked_of value) {ys : List ℕ} (b : ys ≡ value_laid (take (length l - fill) (drop fill l)) value) where
    placed : (n : ℕ) → value_of n value ≡ placing cause.TextFull n (value_text value)
    placed n =
        let h = checked-good value good in
        sym (both_yes (utf8 value) (refs_ok value 0) (placing cause.TextFull n (value_text value)) (refuses cause.BadReference) (refuses cause.NotUtf8) h.0 h.1)

    lay-back : put_mid fill (length l - fill) l ys ≡ take fill l ++ laid (drop fill l) (value_text value)
    lay-back =
        let h = checked-good value good in
        let e : (utf8 value && refs_ok value 0) ≡ true = ap (λ (t : Bool). t && refs_ok value 0) h.0 ∙ h.1 in
        text-back b ∙ ap (λ (t : Bool). take fill l ++ cond t (laid (drop fill l) (value_text value)) (drop fill l)) e

    -- an extra's text, whose value was checked before, was put: the new end of the texts, and the text area
    pub lay-put : {n : ℕ} → gives n ≡ value_of (length (take (length l - fill) (drop fill l))) value
        → (gives (fill + n) ≡ moved fill (placing cause.TextFull (length l - fill) (value_text value))) × (put_mid fill (length l - fill) l ys ≡ take fill l ++ laid (drop fill l) (value_text value))
    lay-put e = (ap (moved fill) (sized e ∙ placed (length l - fill)), lay-back)

    -- an extra's text whose value was checked before can only be refused for lack of room
    pub lay-full : {n : Cause} → refuses n ≡ value_of (length (take (length l - fill) (drop fill l))) value
        → (refuses cause.TextFull ≡ moved fill (placing cause.TextFull (length l - fill) (value_text value)))
        × (put_mid fill (length l - fill) l ys ≡ take fill l ++ laid (drop fill l) (value_text value))
    lay-full {n} e = (ap (moved fill) (go (leb (length (value_text value)) (length l - fill)) (sized e ∙ placed (length l - fill))), lay-back)
      where
        go : (t : Bool) → refuses n ≡ cond t (gives (length (value_text value))) (refuses cause.TextFull) → refuses cause.TextFull ≡ cond t (gives (length (value_text value))) (refuses cause.TextFull)
        go true q = let z : ◌≡◌ {A = ℕ} 0 1 = cc in absurd (omega arith)
        go false q = refl
