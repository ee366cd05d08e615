-- What an area of k bytes holds after a text was put into it, and how many bytes of the text fit. Assumes nothing.
use Prim.Native.Nat.{ℕ, ◌-◌, ◌≤◌, min}
use mathlib.Core.Path.{◌≡◌, refl, sym, ap, ◌∙◌}
use mathlib.Core.List.{List}
use mathlib.Core.Bool.{Bool, true, false, cond}
use native.Mathlib.Omega.{arith}
use native.Mathlib.Nat.{min-eq_left, min-eq_right}
use lib.ListN.{length, take, length-replicate}
use lib.Seq.{take_at}
use Rattle.reader.specs.of_area.Answer.{Answer, gives, refuses}
use Rattle.reader.specs.of_area.Area.{zeros, placing, laid}
use Rattle.reader.proofs.of_area.Laying.{length-laid, laid-zeros, put-fits, full-over}
use Rattle.reader.specs.of_tree_report.Layout.{layout}
use Rattle.public_claims.specs.of_list_text.Listing.{listing_of, listing_answer, output_for, output_of}
use Rattle.public_claims.specs.PublicListing.{refused_text, written}
use Rattle.reader.specs.of_refusal.declared.Cause.TheVariants as cause

-- a text put into an area that was cleared: it fits, or it doesn't
module _ (out₀ x out f : List ℕ) (cleared : x ≡ zeros (length out₀)) (put : out ≡ laid x f) where
  area : out ≡ laid (zeros (length out₀)) f
  area = put ∙ ap (λ (l : List ℕ). laid l f) cleared

  same : length x ≡ length out₀
  same = ap length cleared ∙ length-replicate (length out₀) 0

  -- a text that fitted a cleared area: the area's contents, and the number of bytes printed
  pub put_whole : (n : ℕ) → gives n ≡ placing cause.OutputFull (length x) f → (out ≡ laid (zeros (length out₀)) f) × (n ≡ min (length out₀) (length f))
  put_whole n e =
      let p = put-fits cause.OutputFull (length x) f n e in
      let h : length f ≤ length out₀ = (let q = p.0 in omega (arith, same)) in
      (area, p.1 ∙ sym (min-eq_right h))

  -- a text that didn't fit: the area holds its front, and all of the area is printed
  pub put-part : refuses cause.OutputFull ≡ placing cause.OutputFull (length x) f → (out ≡ laid (zeros (length out₀)) f) × (length out ≡ min (length out₀) (length f))
  put-part e =
      let q = full-over cause.OutputFull (length x) f e in
      let h : length out₀ ≤ length f = omega (arith, same) in
      (area, ap length put ∙ length-laid x f ∙ same ∙ sym (min-eq_left h))

-- a listing that fits is what stands at the front of the output area
front : (k : ℕ) (f : List ℕ) → length f ≤ k → take (length f) (laid (zeros k) f) ≡ f
front k f h = ap (take (length f)) (laid-zeros k f h) ∙ take_at f (zeros (k - length f)) (length f) refl

fitting : (b : Bool) (k n : ℕ) (f : List ℕ) → gives n ≡ cond b (placing cause.OutputFull k f) (refuses cause.NotLayout) → (length f ≤ k) × (n ≡ length f)
fitting true k n f e = put-fits cause.OutputFull k f n e
fitting false k n f e = let z : ◌≡◌ {A = ℕ} 0 1 = cc in absurd (omega arith)

given : (a : Answer ℕ) (k n : ℕ) (f out : List ℕ) → gives n ≡ a → length f ≤ k → n ≡ length f → out ≡ output_for a k f →
    (out ≡ laid (zeros k) (written a (output_for a k f))) × (n ≡ min k (length (written a (output_for a k f))))
given (gives m) k n f out e h q o =
    let s : m ≡ length f = cc in
    let w : take m (laid (zeros k) f) ≡ f = ap (λ (j : ℕ). take j (laid (zeros k) f)) s ∙ front k f h in
    (o ∙ ap (laid (zeros k)) (sym w), q ∙ sym (ap (λ (l : List ℕ). min k (length l)) w ∙ min-eq_right h))
given (refuses m) k n f out e h q o = let z : ◌≡◌ {A = ℕ} 0 1 = cc in absurd (omega arith)

-- a listing in its area is laid out there, and all of it is counted
pub put : (words text : List ℕ) (k n : ℕ) (out : List ℕ) → gives n ≡ listing_answer words text k → out ≡ output_of words text k →
    (out ≡ laid (zeros k) (written (listing_answer words text k) (output_of words text k))) × (n ≡ min k (length (written (listing_answer words text k) (output_of words text k))))
unfolding listing_answer output_of
put words text k n out e o =
    let p = fitting (layout words text) k n (listing_of words text) e in
    given (listing_answer words text k) k n (listing_of words text) out e p.0 p.1 o

-- a refusal, put into an area that another call left
pub refused-there : (k : ℕ) (x out f : List ℕ) (n : ℕ) → length x ≡ k → f ≡ refused_text → out ≡ laid (zeros (length x)) refused_text → n ≡ min (length x) (length refused_text) →
    (out ≡ laid (zeros k) f) × (n ≡ min k (length f))
refused-there k x out f n s e p q = (p ∙ rw (s, e) refl, q ∙ rw (s, e) refl)
