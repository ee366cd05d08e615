-- What the answers to putting a text into an area tell. Assumes nothing.
use Prim.Native.Nat.{ℕ, ◌≤◌}
use mathlib.Core.Path.{◌≡◌, refl, sym, ap, ◌∙◌}
use mathlib.Core.List.{List}
use mathlib.Core.Bool.{Bool, true, false, cond, ◌&&◌}
use native.Mathlib.Omega.{arith}
use lib.ListN.{length}
use Rattle.std.specs.Prelude.{Option, Result}
use Rattle.utf8_chars.specs.of_area.Answer.{Answer, gives, refuses}
use Rattle.utf8_chars.specs.of_area.Area.{stored_answer, placing, laid}
use Rattle.utf8_chars.proofs.of_area.Laying.{other-area, put-fits}
use Rattle.text.specs.Kept.{kept_answer}
use Rattle.text.specs.declared.kept.Unkept.{Unkept}
use Rattle.utf8_chars.specs.of_refusal.declared.Cause.{Cause}

-- a choice by one test, and by two, from their outcomes
module _ {A : Type 0} (t : Bool) (x y : A) where
  pub cond_yes : t ≡ true → x ≡ cond t x y
  cond_yes e = sym (ap (λ (b : Bool). cond b x y) e)

  pub cond_no : t ≡ false → y ≡ cond t x y
  cond_no e = sym (ap (λ (b : Bool). cond b x y) e)

module _ (t u : Bool) {A : Type 0} (x y z : A) where
  -- both tests hold: the answer is that of the way through both
  pub both_yes : t ≡ true → u ≡ true → x ≡ cond t (cond u x y) z
  both_yes p q = cond_yes u x y q ∙ cond_yes t (cond u x y) z p

  pub second-no : t ≡ true → u ≡ false → y ≡ cond t (cond u x y) z
  second-no p q = cond_no u x y q ∙ cond_yes t (cond u x y) z p

-- answer and area where the first test fails, the second fails, and both hold
module _ (t u : Bool) (good bad not-utf8 : Answer ℕ) (out full : List ℕ) where
  -- the first test fails: the answer is its refusal, and the area is as it was
  pub first-fails : t ≡ false → (not-utf8 ≡ cond t (cond u good bad) not-utf8) × (out ≡ cond (t && u) full out)
  first-fails p = (cond_no t (cond u good bad) not-utf8 p, cond_no (t && u) full out (ap (λ (b : Bool). b && u) p))

  -- the second test fails: the answer is its refusal, and the area is as it was
  pub second-fails : t ≡ true → u ≡ false → (bad ≡ cond t (cond u good bad) not-utf8) × (out ≡ cond (t && u) full out)
  second-fails p q = (second-no t u good bad not-utf8 p q, cond_no (t && u) full out (ap (λ (b : Bool). b && u) p ∙ q))

  pub both_hold : (a : Answer ℕ) (out' : List ℕ) → t ≡ true → u ≡ true → a ≡ good → out' ≡ full → (a ≡ cond t (cond u good bad) not-utf8) × (out' ≡ cond (t && u) full out)
  both_hold a out' p q e o = (e ∙ both_yes t u good bad not-utf8 p q, o ∙ cond_yes (t && u) full out (ap (λ (b : Bool). b && u) p ∙ q))

-- f was put at the front of out, an area that has the cause `here` where it is too short, by a function that has `there` for it
module _ (here there : Cause) (out out' f : List ℕ) (put : Option ℕ) (k : Result ℕ Unkept) (e : stored_answer there put ≡ placing there (length out) f)
    (g : (short : Cause) → kept_answer short k ≡ stored_answer short put) where
  -- the answer of a function with another cause for "too short", said with this area's cause
  pub kept-placing : kept_answer here k ≡ placing here (length out) f
  kept-placing = g here ∙ other-area there here (length out) f put e

  -- that answer behind one test that held, with the area
  pub kept-when : (t : Bool) (other : Answer ℕ) → t ≡ true → out' ≡ laid out f → (kept_answer here k ≡ cond t (placing here (length out) f) other) × (out' ≡ cond t (laid out f) out)
  kept-when t other q o = (kept-placing ∙ cond_yes t (placing here (length out) f) other q, o ∙ cond_yes t (laid out f) out q)

  -- that answer behind two tests that held, with the area
  pub kept-both : (t u : Bool) (bad not-utf8 : Answer ℕ) → t ≡ true → u ≡ true → out' ≡ laid out f
      → (kept_answer here k ≡ cond t (cond u (placing here (length out) f) bad) not-utf8) × (out' ≡ cond (t && u) (laid out f) out)
  kept-both t u bad not-utf8 p q o = both_hold t u (placing here (length out) f) bad not-utf8 out (laid out f) (kept_answer here k) out' p q kept-placing o

-- what a count tells of both tests and of the room
pub put_both : (t u : Bool) (short bad not-utf8 : Cause) (n m : ℕ) (f : List ℕ) → gives m ≡ cond t (cond u (placing short n f) (refuses bad)) (refuses not-utf8)
    → (t ≡ true) × (u ≡ true) × (length f ≤ n) × (m ≡ length f)
put_both true true short bad not-utf8 n m f e = let p = put-fits short n f m e in (refl, refl, p.0, p.1)
put_both true false short bad not-utf8 n m f e = let z : ◌≡◌ {A = ℕ} 0 1 = cc in absurd (omega arith)
put_both false u short bad not-utf8 n m f e = let z : ◌≡◌ {A = ℕ} 0 1 = cc in absurd (omega arith)
