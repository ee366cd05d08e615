-- The whole answer of explaining, and the area. Assumes nothing.
use Prim.Native.Nat.{ℕ, ◌+◌, ◌-◌}
use mathlib.Core.Path.{◌≡◌, refl, ap, ◌∙◌}
use mathlib.Core.List.{List}
use native.Mathlib.Omega.{arith}
use lib.ListN.{length, length-replicate}
use Rattle.std.specs.Prelude.{Some, None}
use Rattle.explain_sentence.specs.of_refusal.Refusal.{refused, late, no_refusal}
use Rattle.explain_sentence.specs.of_refusal.declared.Refusal.{Refusal}
use Rattle.explain_sentence.specs.of_refusal.declared.Verdict.TheVariants.{Accepted}
use Rattle.explain_sentence.specs.of_refusal.declared.Cause.TheVariants as cause
use Rattle.explain_sentence.specs.of_area.Answer.{Answer, gives, refuses}
use Rattle.explain_sentence.specs.of_area.Area.{zeros, placing, laid}
use Rattle.explain_sentence.specs.of_list_text.Listing.{outcome_of, output_for}
use Rattle.explain_sentence.specs.of_list_text.inside.Behind.{Filled, filled, behind, Puts}
use Rattle.explain_sentence.specs.of_explain_text.Explanation.{line_of, line_answer, explained, explanation_in}
use Rattle.explain.specs.declared.Explained.{Explained}
use Rattle.explain.specs.Answer.{explained_from}

-- from the start of an area
from_start : (out f : List ℕ) → behind (gives 0, out) f ≡ (placing cause.OutputFull (length out) f, laid out f)
unfolding behind
from_start out f =
    let z : length out - 0 ≡ length out = omega arith in
    let y : 0 + length f ≡ length f = omega arith in
    rw (z, y) refl

module _ (events attributes source : List ℕ) (r : Refusal) (lent n : ℕ) where
  abbrev f : List ℕ
  f = line_of events attributes source r lent

  abbrev answer : Answer ℕ
  answer = line_answer events attributes source r lent n

  module _ {out : List ℕ} {t : Filled} (z : out ≡ zeros n) (p : Puts (filled (Some 0) out) f t) where
    left_behind : t ≡ (answer, laid (zeros n) f)
    unfolding line_answer
    left_behind =
        p.same ∙ ap (λ (x : List ℕ). behind (gives 0, x) f) z ∙ from_start (zeros n) f
        ∙ ap (λ (m : ℕ). (placing cause.OutputFull m f, laid (zeros n) f)) (length-replicate {A = ℕ} n 0)

  -- the line was put
  pub whole-line : {out out' : List ℕ} {m : ℕ} {q : Refusal} → q ≡ no_refusal → out ≡ zeros n → Puts (filled (Some 0) out) f (filled (Some m) out')
      → (◌≡◌ {A = Explained} (record { verdict = Accepted; length = m; refusal = q }) (explained_from (explained events attributes source r lent n)))
      × (out' ≡ explanation_in events attributes source r lent n)
  unfolding explanation_in
  whole-line {out} {out'} {m} {q} e z p =
      let l = left_behind z p in
      let a : gives m ≡ answer = ap (λ (x : Filled). x.0) l in
      (told e ∙ ap (λ (x : Answer ℕ). explained_from (outcome_of x)) a, ap (λ (x : Filled). x.1) l ∙ ap (λ (x : Answer ℕ). output_for x n f) a)
    where
      told : q ≡ no_refusal → ◌≡◌ {A = Explained} (record { verdict = Accepted; length = m; refusal = q }) (explained_from (outcome_of (gives m)))
      told e = rw e refl

  -- it didn't fit
  pub short-line : {out out' out'' : List ℕ} {x : Explained} → x ≡ explained_from (refused (late cause.OutputFull)) → out ≡ zeros n → Puts (filled (Some 0) out) f (filled None out') → out'' ≡ zeros n
      → (x ≡ explained_from (explained events attributes source r lent n)) × (out'' ≡ explanation_in events attributes source r lent n)
  unfolding explanation_in
  short-line e z p y =
      let l = left_behind z p in
      let a : refuses cause.OutputFull ≡ answer = ap (λ (x : Filled). x.0) l in
      (e ∙ ap (λ (x : Answer ℕ). explained_from (outcome_of x)) a, y ∙ ap (λ (x : Answer ℕ). output_for x n f) a)
