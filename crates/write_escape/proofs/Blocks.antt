-- Blocks that are written as they are. Assumes nothing.
use Prim.Native.Nat.{ℕ, ◌+◌, ◌<◌}
use mathlib.Core.Path.{◌≡◌, refl, ap, ap₂, ◌∙◌}
use mathlib.Core.List.{List, [], ◌∷◌, ◌++◌}
use mathlib.Core.Bool.{Bool, true, false, cond, not, ◌||◌, and-eq-true_iff, true≢false}
use borrow.Author.Tests.{not-true}
use lib.Dec.{eqb}
use lib.ListN.{length, get_or}
use Rattle.names.specs.Bytes.{bytes}
use Rattle.names.proofs.of_area.Sifting.{Sifting, sifting-more}
use Rattle.write_escape.specs.Escape.{written, escaped}
use Rattle.write_escape.specs.inside.Plain.{is_special, plain}

-- ---- a plain text is written as it is
none_of : {A : Type 0} (p q r s t : Bool) (a b c d e x : A) → (p || (q || (r || (s || t)))) ≡ false → cond p a (cond q b (cond r c (cond s d (cond t e x)))) ≡ x
none_of true q r s t a b c d e x h = absurd (true≢false h)
none_of false true r s t a b c d e x h = absurd (true≢false h)
none_of false false true s t a b c d e x h = absurd (true≢false h)
none_of false false false true t a b c d e x h = absurd (true≢false h)
none_of false false false false true a b c d e x h = absurd (true≢false h)
none_of false false false false false a b c d e x h = refl

itself : (b : ℕ) → is_special b ≡ false → written b ≡ b ∷ []
unfolding written
itself b h = none_of (eqb b 0x26) (eqb b 0x3C) (eqb b 0x3E) (eqb b 0x27) (eqb b 0x22) (bytes "&amp;") (bytes "&lt;") (bytes "&gt;") (bytes "&apos;") (bytes "&quot;") (b ∷ []) h

pub plain-escaped : (s : List ℕ) → plain s ≡ true → escaped s ≡ s
plain-escaped [] h = refl
plain-escaped (b ∷ s) h =
    let p = (and-eq-true_iff (not (is_special b)) (plain s)).0 h in
    ap₂ ◌++◌ (itself b (not-true (is_special b) p.0)) (plain-escaped s p.1)

-- ---- one mark for each of the five
or_swap : (a x r q : Bool) → ((a || x) || (r || q)) ≡ ((a || r) || (x || q))
or_swap true x r q = refl
or_swap false true true q = refl
or_swap false true false q = refl
or_swap false false true q = refl
or_swap false false false q = refl

one_more : (a b c d e : Bool) (n : ℕ) → ((a || eqb n 0x26) || ((b || eqb n 0x3C) || ((c || eqb n 0x3E) || ((d || eqb n 0x27) || (e || eqb n 0x22)))))
    ≡ ((a || (b || (c || (d || e)))) || is_special n)
one_more a b c d e n =
    ap (λ (z : Bool). (a || eqb n 0x26) || ((b || eqb n 0x3C) || ((c || eqb n 0x3E) || z))) (or_swap d (eqb n 0x27) e (eqb n 0x22))
    ∙ ap (λ (z : Bool). (a || eqb n 0x26) || ((b || eqb n 0x3C) || z)) (or_swap c (eqb n 0x3E) (d || e) (eqb n 0x27 || eqb n 0x22))
    ∙ ap (λ (z : Bool). (a || eqb n 0x26) || z) (or_swap b (eqb n 0x3C) (c || (d || e)) (eqb n 0x3E || (eqb n 0x27 || eqb n 0x22)))
    ∙ or_swap a (eqb n 0x26) (b || (c || (d || e))) (eqb n 0x3C || (eqb n 0x3E || (eqb n 0x27 || eqb n 0x22)))

pub sifting_five : {s : List ℕ} (a b c d e : Bool) (i : ℕ) → Sifting plain s (a || (b || (c || (d || e)))) i → i < length s
    → Sifting plain s ((a || eqb (get_or s i 0) 0x26) || ((b || eqb (get_or s i 0) 0x3C) ||
    ((c || eqb (get_or s i 0) 0x3E) || ((d || eqb (get_or s i 0) 0x27) || (e || eqb (get_or s i 0) 0x22))))) (i + 1)
sifting_five {s} a b c d e i l h = rw (one_more a b c d e (get_or s i 0)) (sifting-more plain is_special (λ b t. refl) l h)
