-- The answer and the output area of a listing. Assumes nothing.
use Prim.Native.Nat.{ℕ, ◌+◌, ◌-◌}
use mathlib.Core.Path.{◌≡◌, refl, sym, ap, ◌∙◌}
use mathlib.Core.List.{List}
use mathlib.Core.Bool.{true, false}
use native.Mathlib.Omega.{arith}
use lib.ListN.{length, length-replicate}
use Rattle.std.specs.Prelude.{Some, None}
use Rattle.time_text.specs.of_area.Answer.{Answer, gives, refuses}
use Rattle.time_text.specs.of_area.Area.{zeros, placing, laid}
use Rattle.tree_report.specs.Layout.{layout}
use Rattle.list_text.specs.Listing.{listing_of, listing_answer, output_for, output_of}
use Rattle.list_text.specs.inside.Behind.{Filled, filled, behind, Puts}
use Rattle.time_text.specs.of_refusal.declared.Cause.TheVariants as cause

-- from the start of an area
pub from_start : (out f : List ℕ) → behind (gives 0, out) f ≡ (placing cause.OutputFull (length out) f, laid out f)
unfolding behind
from_start out f =
    let z : length out - 0 ≡ length out = omega arith in
    let y : 0 + length f ≡ length f = omega arith in
    rw (z, y) refl

module _ (words text : List ℕ) (n : ℕ) where
  -- not a layout
  pub no-listing : {out : List ℕ} → layout words text ≡ false → out ≡ zeros n → (refuses cause.NotLayout ≡ listing_answer words text n) × (out ≡ output_of words text n)
  unfolding listing_answer output_of
  no-listing e z = (rw e refl, rw e z)

  module _ (e : layout words text ≡ true) where
    abbrev f : List ℕ
    f = listing_of words text

    answered : listing_answer words text n ≡ placing cause.OutputFull n f
    unfolding listing_answer
    answered = rw e refl

    output : output_of words text n ≡ output_for (placing cause.OutputFull n f) n f
    unfolding output_of
    output = ap (λ (a : Answer ℕ). output_for a n f) answered

    module _ {out : List ℕ} {t : Filled} (z : out ≡ zeros n) (p : Puts (filled (Some 0) out) f t) where
      left_behind : t ≡ (placing cause.OutputFull n f, laid (zeros n) f)
      left_behind =
          p.same ∙ ap (λ (x : List ℕ). behind (gives 0, x) f) z ∙ from_start (zeros n) f
          ∙ ap (λ (m : ℕ). (placing cause.OutputFull m f, laid (zeros n) f)) (length-replicate {A = ℕ} n 0)

    -- the listing was put
    pub whole-listing : {out out' : List ℕ} (m : ℕ) → out ≡ zeros n → Puts (filled (Some 0) out) f (filled (Some m) out') → (gives m ≡ listing_answer words text n) × (out' ≡ output_of words text n)
    whole-listing m z p =
        let l = left_behind z p in
        let a : gives m ≡ placing cause.OutputFull n f = ap (λ (x : Filled). x.0) l in
        (a ∙ sym answered, ap (λ (x : Filled). x.1) l ∙ sym (output ∙ ap (λ (x : Answer ℕ). output_for x n f) (sym a)))

    -- it didn't fit
    pub short-listing : {out out' out'' : List ℕ} → out ≡ zeros n → Puts (filled (Some 0) out) f (filled None out')
        → out'' ≡ zeros n → (refuses cause.OutputFull ≡ listing_answer words text n) × (out'' ≡ output_of words text n)
    short-listing z p y =
        let l = left_behind z p in
        let a : refuses cause.OutputFull ≡ placing cause.OutputFull n f = ap (λ (x : Filled). x.0) l in
        (a ∙ sym answered, y ∙ sym (output ∙ ap (λ (x : Answer ℕ). output_for x n f) (sym a)))
