-- A time's text is put into an area: the seconds, the point, and the digits behind it. Assumes nothing.
use Prim.Native.Nat.{ℕ, ◌+◌, ◌-◌, ◌/◌, ◌≤◌}
use mathlib.Core.Path.{◌≡◌, refl, sym, ap, ◌∙◌, subst}
use mathlib.Core.List.{List, [], ◌∷◌, ◌++◌, append-nil}
use native.Mathlib.Omega.{arith}
use borrow.Author.Tests.{le-leb, lt-leb}
use lib.ListN.{length, take, drop, length-drop}
use borrow.Rule.Slice.PartMut.{put_mid}
use Rattle.time.specs.of_area.Answer.{gives, refuses}
use Rattle.time.specs.of_area.Area.{zeros, placing, laid}
use Rattle.time.proofs.of_area.Parts.{rest_part, rest_back}
use Rattle.time.proofs.of_area.Laying.{Laying, laying-start, laying_on, laying_chunk, laying-over, laying-done, length-laid, put-fits, full-over}
use Rattle.time.specs.of_digits.Digits.{decimal, last_digits_of}
use Rattle.time_text.specs.Written.{time_text, whole}
use Rattle.time.specs.of_refusal.declared.Cause.TheVariants as cause

-- the seconds at the front of an area; n is ms, as the contract has it
module _ (out : List ℕ) (ms n : ℕ) (e : ms ≡ n) where
  abbrev seconds : List ℕ
  seconds = decimal (ms / 1000)

  abbrev behind : List ℕ
  behind = 0x2E ∷ last_digits_of 3 ms

  begun : Laying out out 0 (time_text n) (seconds ++ behind)
  unfolding time_text
  begun = laying_on (laying-start out (time_text n)) (ap (λ (k : ℕ). decimal (k / 1000) ++ (0x2E ∷ last_digits_of 3 k)) (sym e))

  module _ (o : List ℕ) (w : o ≡ laid out seconds) where
    pub seconds-full : refuses cause.OutputFull ≡ placing cause.OutputFull (length out) seconds
        → (refuses cause.OutputFull ≡ placing cause.OutputFull (length out) (time_text n)) × (o ≡ laid out (time_text n))
    seconds-full a = let h = full-over cause.OutputFull (length out) seconds a in laying-over seconds behind begun cause.OutputFull o w (omega arith)

    pub seconds-put : (k : ℕ) → gives k ≡ placing cause.OutputFull (length out) seconds → Laying out o k (time_text n) behind
    seconds-put k a =
        let p = put-fits cause.OutputFull (length out) seconds k a in
        let z : 0 + length seconds ≡ k = omega (arith, p.1) in
        subst (λ (j : ℕ). Laying out o j (time_text n) behind) z (laying_chunk seconds behind begun o w (omega (arith, p.0)))

-- the last part t of a text f, put by a call that is lent the area from k on and leaves ys there
module _ {out o f : List ℕ} {k : ℕ} (t : List ℕ) (l : Laying out o k f t) (ys : List ℕ) (w : ys ≡ laid (take (length o - k) (drop k o)) t) where
  abbrev part : List ℕ
  part = take (length o - k) (drop k o)

  abbrev after : List ℕ
  after = put_mid k (length o - k) o ys

  back : after ≡ take k o ++ laid (drop k o) t
  back = rest_back o k ys ∙ ap (λ (z : List ℕ). take k o ++ z) (w ∙ ap (λ (z : List ℕ). laid z t) (rest_part o k))

  room : length part ≡ length o - k
  room = ap length (rest_part o k) ∙ length-drop k o

  ended : Laying out o k f (t ++ [])
  ended = laying_on l (sym (append-nil t))

  pub last-full : refuses cause.OutputFull ≡ placing cause.OutputFull (length part) t → (refuses cause.OutputFull ≡ placing cause.OutputFull (length out) f) × (after ≡ laid out f)
  last-full a = let h = full-over cause.OutputFull (length part) t a in laying-over t [] ended cause.OutputFull after back (omega (arith, room))

  pub last-put : (n : ℕ) → gives n ≡ placing cause.OutputFull (length part) t → (gives (k + n) ≡ placing cause.OutputFull (length out) f) × (after ≡ laid out f)
  last-put n a =
      let p = put-fits cause.OutputFull (length part) t n a in
      laying-done cause.OutputFull (subst (λ (j : ℕ). Laying out after (k + j) f []) (sym p.1) (laying_chunk t [] ended after back (omega (arith, room, p.0))))

  pub last_fits : (n : ℕ) → gives n ≡ placing cause.OutputFull (length part) t → k + n ≤ length out
  last_fits n a = let p = put-fits cause.OutputFull (length part) t n a in omega (arith, room, p.0, p.1, l.fits, l.same)

-- the text, or nothing of it
module _ (out f : List ℕ) where
  -- the text fitted: the area is as a call that leaves no piece must leave it
  pub whole-put : (n : ℕ) → gives n ≡ placing cause.OutputFull (length out) f → laid out f ≡ whole out f
  whole-put n e = rw (le-leb (length f) (length out) (put-fits cause.OutputFull (length out) f n e).0) refl

  -- the text didn't fit: clearing the area leaves no piece of it
  pub whole-full : refuses cause.OutputFull ≡ placing cause.OutputFull (length out) f → (o : List ℕ) → o ≡ laid out f → zeros (length o) ≡ whole out f
  whole-full e o w = rw (lt-leb (length f) (length out) (full-over cause.OutputFull (length out) f e)) (ap zeros (ap length w ∙ length-laid out f))
