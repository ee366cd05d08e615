-- Bytes read lossily are put into an area, part by part; f is what is done to the text on its way, such as a filter. Assumes nothing.
use Prim.Native.Nat.{ℕ, ◌+◌, ◌-◌, ◌≤◌, ◌<◌}
use mathlib.Core.Path.{◌≡◌, sym, ap, ◌∙◌}
use mathlib.Core.List.{List, ◌++◌}
use native.Mathlib.Omega.{arith}
use borrow.Rule.Slice.PartMut.{put_mid}
use lib.ListN.{length, take, drop, length-drop}
use Rattle.std.specs.Prelude.{Option, Some, None}
use Rattle.utf8.specs.of_area.Answer.{refuses}
use Rattle.utf8.specs.of_area.Area.{placing, laid, stored_answer}
use Rattle.utf8.proofs.of_area.Parts.{rest_part, rest_back}
use Rattle.utf8.proofs.of_area.Laying.{Laying, laying_on, laying_chunk, laying-over, put-fits, full-over}
use Rattle.utf8_lossy.specs.Lossy.{part_width, part_text, lossy, Parted}
use Rattle.utf8_lossy.specs.declared.Part.{Part}
use Rattle.utf8_lossy.proofs.Parts.{part-some, part_length}
use Rattle.utf8_lossy.proofs.Replacing.{lossy-next}
use Rattle.utf8.specs.of_refusal.declared.Cause.{Cause}

-- p is the part of s that begins at i
module _ (s : List ℕ) (i : ℕ) (h : i < length s) (p : Part) (e : Parted (take (length s - i) (drop i s)) p) where
  takes-here : p.width ≡ part_width (drop i s)
  takes-here = e.takes ∙ ap part_width (rest_part s i)

  -- a part takes some byte, so that the loop ends
  pub part-moves : 0 < p.width
  part-moves = rw takes-here (part-some (drop i s) (rw (length-drop i s) (omega arith)))

  -- a part ends in the list: the bound for the next turn
  pub part-fits : i + p.width ≤ length s
  part-fits = let m = part_length (drop i s) in let n = length-drop i s in omega (arith, takes-here)

  -- s is put up to i; a call that is lent the area from k on is to put that part, answers r and leaves ys there
  module _ (f : List ℕ → List ℕ) (join : (a b : List ℕ) → f (a ++ b) ≡ f a ++ f b) (short : Cause) {out₀ out : List ℕ}
      {k : ℕ} (l : Laying out₀ out k (f (lossy s)) (f (lossy (drop i s)))) (r : Option ℕ) (ys : List ℕ)
      (a : stored_answer short r ≡ placing short (length (take (length out - k) (drop k out))) (f (part_text (take (length s - i) (drop i s)))))
      (w : ys ≡ laid (take (length out - k) (drop k out)) (f (part_text (take (length s - i) (drop i s))))) where
    abbrev t : List ℕ
    t = f (part_text (drop i s))

    abbrev g : List ℕ
    g = f (lossy (drop (i + p.width) s))

    abbrev after : List ℕ
    after = put_mid k (length out - k) out ys

    turn : Laying out₀ out k (f (lossy s)) (t ++ g)
    turn =
        laying_on l
        (ap f (lossy-next s i) ∙ join (part_text (drop i s)) (lossy (drop (i + part_width (drop i s)) s))
        ∙ ap (λ (n : ℕ). t ++ f (lossy (drop (i + n) s))) (sym takes-here))

    back : after ≡ take k out ++ laid (drop k out) t
    back = rest_back out k ys ∙ ap (λ (z : List ℕ). take k out ++ z)
        (w ∙ ap (λ (z : List ℕ). laid z (f (part_text (take (length s - i) (drop i s))))) (rest_part out k) ∙ ap (λ (z : List ℕ). laid (drop k out) (f (part_text z))) (rest_part s i))

    answer : stored_answer short r ≡ placing short (length out - k) t
    answer =
        a ∙ ap (λ (z : List ℕ). placing short (length z) (f (part_text (take (length s - i) (drop i s))))) (rest_part out k)
        ∙ ap (λ (z : List ℕ). placing short (length (drop k out)) (f (part_text z))) (rest_part s i) ∙ ap (λ (n : ℕ). placing short n t) (length-drop k out)

    -- the call had no room for the part's text: the way out, with the refusal and the area
    pub part-full : r ≡ None → (refuses short ≡ placing short (length out₀) (f (lossy s))) × (after ≡ laid out₀ (f (lossy s)))
    part-full q = laying-over t g turn short after back (full-over short (length out - k) t (sym (ap (stored_answer short) q) ∙ answer))

    -- the call put the part's text: a turn of the loop
    pub part-put : (n : ℕ) → r ≡ Some n → Laying out₀ after (k + n) (f (lossy s)) g
    part-put n q =
        let m = put-fits short (length out - k) t n (sym (ap (stored_answer short) q) ∙ answer) in
        rw m.1 (laying_chunk t g turn after back m.0)

    -- what was put so far lies in the area
    pub put-room : (n : ℕ) → r ≡ Some n → k + n ≤ length out
    put-room n q =
        let m = put-fits short (length out - k) t n (sym (ap (stored_answer short) q) ∙ answer) in
        omega (arith, m.0, m.1, l.fits)
