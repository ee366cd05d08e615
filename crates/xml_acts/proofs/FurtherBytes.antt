-- A further byte of a character, and the small letter of a letter. Assumes nothing.
use Prim.Native.Nat.{ℕ, ◌+◌, ◌<◌}
use mathlib.Core.Path.{◌≡◌, refl, sym, ◌∙◌}
use mathlib.Core.Bool.{Bool, true, false, cond, ◌&&◌}
use lib.Dec.{leb, ltb, eqb, leb-suc-suc}
use borrow.Author.Tests.{ltb-true, eq-eqb, ne_eqb}
use Rattle.xml_part.specs.of_xml_chars.Chars.{lower}
use Rattle.xml_part.specs.of_xml_state.declared.Part.{Part}
use Rattle.xml_part.specs.of_xml_state.declared.State.{State}
use Rattle.std.specs.Prelude.{Option, Some, None}
use Rattle.xml_part.specs.of_xml_state.declared.Step.TheVariants.{Go, Bad}
use Rattle.xml_part.specs.of_xml_state.inside.Parts.{follow_of}
use Rattle.xml_part.specs.of_xml_state.inside.Registers.{in_mode, with_part}
use Rattle.xml_part.specs.of_xml_state.inside.Acts.{further_of}

pub when_none-left : {l m x : ℕ} (y : ℕ) → l ≡ 0 → m ≡ x → m ≡ cond (eqb l 0) x y
when_none-left {l} y e q = rw (eq-eqb l 0 e) q

pub when_some-left : {l m y : ℕ} (x : ℕ) → (l ≡ 0 → ⊥) → m ≡ y → m ≡ cond (eqb l 0) x y
when_some-left {l} x n q = rw (ne_eqb l 0 n) q

pub taken : (s : State) (b : ℕ) {r : Option Part} {p : Part} {m : ℕ} → r ≡ follow_of s.part b → r ≡ Some p → m ≡ cond (eqb p.left 0) s.then s.mode →
    Go (with_part p (in_mode m s)) ≡ further_of s b
unfolding further_of
taken s b e t q = rw (sym e ∙ t, q) refl

pub untaken : (s : State) (b : ℕ) {r : Option Part} → r ≡ follow_of s.part b → r ≡ None → Bad ≡ further_of s b
unfolding further_of
untaken s b e t = rw (sym e ∙ t) refl

-- from `A` to `Z`, as the code asks it
capital_test : (b : ℕ) → (ltb 64 b && ltb b 91) ≡ (leb 65 b && leb b 90)
capital_test b = rw (leb-suc-suc b 90) refl

right-true : (x y : Bool) → (x && y) ≡ true → y ≡ true
right-true true y e = e
right-true false true e = refl
right-true false false e = e

pub capital-most : (b : ℕ) → (ltb 64 b && ltb b 91) ≡ true → b < 91
capital-most b e = ltb-true b 91 (right-true (ltb 64 b) (ltb b 91) e)

pub lower-capital : (b : ℕ) → (ltb 64 b && ltb b 91) ≡ true → b + 32 ≡ lower b
unfolding lower
lower-capital b e = rw (sym (capital_test b) ∙ e) refl

pub lower-other : (b : ℕ) → (ltb 64 b && ltb b 91) ≡ false → b ≡ lower b
unfolding lower
lower-other b e = rw (sym (capital_test b) ∙ e) refl
