-- The whole answer of explaining, and the area. Assumes nothing.
use Prim.Native.Nat.{ℕ, ◌+◌, ◌-◌}
use mathlib.Core.Path.{◌≡◌, refl, sym, ap, ◌∙◌}
use mathlib.Core.List.{List}
use native.Mathlib.Omega.{arith}
use lib.ListN.{length, length-replicate}
use Rattle.std.specs.Prelude.{Option, Some, None}
use Rattle.list_text.specs.of_refusal.declared.Cause.TheVariants as cause
use Rattle.explain_spot.specs.of_area.Answer.{Answer, gives, refuses}
use Rattle.explain_spot.specs.of_area.Area.{zeros, placing, laid, stored_answer}
use Rattle.list_text.specs.Listing.{output_for}
use Rattle.list_text.specs.inside.Behind.{Filled, filled, behind, Puts}
use Rattle.explain_xml.specs.XmlExplanation.{xml_line, xml_line_answer, xml_explanation_in}

-- from the start of an area
from_start : (out f : List ℕ) → behind (gives 0, out) f ≡ (placing cause.OutputFull (length out) f, laid out f)
unfolding behind
from_start out f =
    let z : length out - 0 ≡ length out = omega arith in
    let y : 0 + length f ≡ length f = omega arith in
    rw (z, y) refl

module _ (source : List ℕ) (number byte events attributes n : ℕ) where
  abbrev f : List ℕ
  f = xml_line source number byte events attributes

  abbrev answer : Answer ℕ
  answer = xml_line_answer source number byte events attributes n

  module _ {out : List ℕ} {t : Filled} (z : out ≡ zeros n) (p : Puts (filled (Some 0) out) f t) where
    left_behind : t ≡ (answer, laid (zeros n) f)
    unfolding xml_line_answer
    left_behind =
        p.same ∙ ap (λ (x : List ℕ). behind (gives 0, x) f) z ∙ from_start (zeros n) f
        ∙ ap (λ (m : ℕ). (placing cause.OutputFull m f, laid (zeros n) f)) (length-replicate {A = ℕ} n 0)

  module _ {out out' : List ℕ} (k : Option ℕ) (z : out ≡ zeros n) (p : Puts (filled (Some 0) out) f (filled k out')) where
    answered : stored_answer cause.OutputFull k ≡ answer
    answered = ap (λ (x : Filled). x.0) (left_behind z p)

    -- the line was put
    pub whole-line : {m : ℕ} → k ≡ Some m → (stored_answer cause.OutputFull k ≡ answer) × (out' ≡ xml_explanation_in source number byte events attributes n)
    unfolding xml_explanation_in
    whole-line {m} e =
        let a : gives m ≡ answer = sym (ap (stored_answer cause.OutputFull) e) ∙ answered in
        (answered, ap (λ (x : Filled). x.1) (left_behind z p) ∙ ap (λ (x : Answer ℕ). output_for x n f) a)

    -- it didn't fit
    pub short-line : {out'' : List ℕ} → k ≡ None → out'' ≡ zeros n → (stored_answer cause.OutputFull k ≡ answer) × (out'' ≡ xml_explanation_in source number byte events attributes n)
    unfolding xml_explanation_in
    short-line e y =
        let a : refuses cause.OutputFull ≡ answer = sym (ap (stored_answer cause.OutputFull) e) ∙ answered in
        (answered, y ∙ ap (λ (x : Answer ℕ). output_for x n f) a)
