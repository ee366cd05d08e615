-- What an output area of k bytes holds after a text was printed into it, and how many bytes of the text fit. Assumes nothing.
use Prim.Native.Nat.{ℕ, ◌+◌, ◌-◌, min}
use mathlib.Core.Path.{◌≡◌, refl, sym, ap, ◌∙◌}
use mathlib.Core.List.{List}
use native.Mathlib.Omega.{arith}
use lib.ListN.{length}
use Rattle.std.specs.Prelude.{Option, Some, None}
use Rattle.writer.specs.of_area.Area.{zeros, stored_answer, placing, laid}
use Rattle.writer.specs.of_area.Answer.{gives}
use Rattle.write_words.specs.of_list_text.inside.Behind.{Filled, filled, behind, Puts}
use Rattle.list_printing.proofs.of_public_call.Writing.{put_whole, put-part}
use Rattle.writer.specs.of_refusal.declared.Cause.TheVariants as cause

-- the area holds f, and n bytes of f fit
abbrev pub Prints : (k : ℕ) (f : List ℕ) (out : List ℕ) (n : ℕ) → Type 0
Prints k f out n = (out ≡ laid (zeros k) f) × (n ≡ min k (length f))

-- the same text, said otherwise
pub same_text : (k : ℕ) {n : ℕ} {f g out : List ℕ} → f ≡ g → Prints k f out n → Prints k g out n
same_text k e h = rw e at h

pub sized : (k m : ℕ) (f out : List ℕ) {n : ℕ} → k ≡ m → Prints k f out n → Prints m f out n
sized k m f out e h = rw e at h

-- from the start of an area
from_start : (out f : List ℕ) → behind (gives 0, out) f ≡ (placing cause.OutputFull (length out) f, laid out f)
unfolding behind
from_start out f =
    let z : length out - 0 ≡ length out = omega arith in
    let y : 0 + length f ≡ length f = omega arith in
    rw (z, y) refl

-- out₀ is the area as it was, x cleared, out with f put into it
module _ (out₀ x out f : List ℕ) (cleared : x ≡ zeros (length out₀)) (r : Option ℕ) (put : Puts (filled (Some 0) x) f (filled r out)) where
  left : filled r out ≡ (placing cause.OutputFull (length x) f, laid x f)
  left = put.same ∙ from_start x f

  area : out ≡ laid x f
  area = ap (λ (s : Filled). s.1) left

  answer : stored_answer cause.OutputFull r ≡ placing cause.OutputFull (length x) f
  answer = ap (λ (s : Filled). s.0) left

  pub whole-printed : (n : ℕ) → r ≡ Some n → Prints (length out₀) f out n
  whole-printed n e = put_whole out₀ x out f cleared area n (sym (ap (stored_answer cause.OutputFull) e) ∙ answer)

  pub part-printed : r ≡ None → Prints (length out₀) f out (length out)
  part-printed e = put-part out₀ x out f cleared area (sym (ap (stored_answer cause.OutputFull) e) ∙ answer)
