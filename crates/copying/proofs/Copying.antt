-- A text is put at the front of an area that has room for it, several bytes at a time, some of them twice. Assumes nothing.
use Prim.Native.Nat.{ℕ, ◌+◌, ◌-◌, ◌≤◌, ◌<◌}
use mathlib.Core.Path.{◌≡◌, refl, sym, ap, ◌∙◌}
use mathlib.Core.List.{List, [], ◌∷◌, ◌++◌, append_assoc}
use native.Mathlib.Omega.{arith}
use native.Mathlib.Numerals.{add-one}
use borrow.Rule.Slice.PartMut.{put_mid}
use lib.ListN.{length, take, drop, set, get_or, length-append, length-set, length-drop, take-append-drop}
use lib.Seq.{take-suc, take-suc-set, drop-set-lt, drop-drop, take-take, take-add, take_at, drop_at, length-take-le, take-length}
use Rattle.area.specs.Area.{laid}
use Rattle.area.proofs.Laying.{laid-fits}
use Rattle.area.proofs.Parts.{rest_part, rest_back}

-- the first i bytes of s stand in out, which was out₀ and is the same behind them
pub record Copied (s out₀ out : List ℕ) (i : ℕ) : Type 0 where
  pub room : length s ≤ length out₀
  pub same : length out ≡ length out₀
  pub front : take i out ≡ take i s
  pub rest : drop i out ≡ drop i out₀

pub copied-start : (s out : List ℕ) → length s ≤ length out → Copied s out out 0
copied-start s out h = record { room = h; same = refl; front = refl; rest = refl }

-- one store
pub copied_byte : {s out₀ out : List ℕ} {i : ℕ} → Copied s out₀ out i → i < length s → Copied s out₀ (set out i (get_or s i 0)) (i + 1)
copied_byte {s} {out₀} {out} {i} c h = record {
  room = c.room;
  same = length-set out i (get_or s i 0) ∙ c.same;
  front =
      rw (add-one i) (take-suc-set out i (get_or s i 0) (omega (arith, h, c.room, c.same)) ∙ ap (λ (z : List ℕ). z ++ (get_or s i 0 ∷ [])) c.front
      ∙ sym (take-suc s i 0 h));
  rest = drop-set-lt (i + 1) out i (get_or s i 0) (omega arith) ∙ sym (drop-drop 1 i out) ∙ ap (drop 1) c.rest ∙ drop-drop 1 i out₀;
}

-- n bytes from p on, where p doesn't stand behind what is there already
module _ {s out₀ out : List ℕ} {i : ℕ} (c : Copied s out₀ out i) (p n : ℕ) (early : p ≤ i) (more : i ≤ p + n) (within : p + n ≤ length s) where
  abbrev piece : List ℕ
  piece = take n (drop p s)

  room-there : p + n ≤ length out
  room-there = omega (arith, within, c.room, c.same)

  length-piece : length piece ≡ n
  length-piece = length-take-le n (drop p s) (rw (length-drop p s) (omega arith))

  front-there : take p out ≡ take p s
  front-there = sym (take-take p i out early) ∙ ap (take p) c.front ∙ take-take p i s early

  length-there : length (take p out ++ piece) ≡ p + n
  length-there =
      let h : length (take p out) ≡ p = length-take-le p out (omega (arith, room-there)) in
      length-append (take p out) piece ∙ omega (arith, h, length-piece)

  behind : drop (p + n) out ≡ drop (p + n) out₀
  behind =
      let e : i + (p + n - i) ≡ p + n = omega arith in
      ap (λ (m : ℕ). drop m out) (sym e) ∙ sym (drop-drop (p + n - i) i out) ∙ ap (drop (p + n - i)) c.rest
      ∙ drop-drop (p + n - i) i out₀ ∙ ap (λ (m : ℕ). drop m out₀) e

  whole : take p out ++ laid (drop p out) piece ≡ (take p out ++ piece) ++ drop (p + n) out
  whole =
      let h : length piece ≤ length (drop p out) = rw (length-piece, length-drop p out) (omega (arith, room-there)) in
      ap (λ (z : List ℕ). take p out ++ z) (laid-fits (drop p out) piece h)
      ∙ ap (λ (m : ℕ). take p out ++ (piece ++ drop m (drop p out))) length-piece
      ∙ ap (λ (z : List ℕ). take p out ++ (piece ++ z)) (drop-drop n p out)
      ∙ sym (append_assoc (take p out) piece (drop (p + n) out))

  pub copied-part : (out' : List ℕ) → out' ≡ take p out ++ laid (drop p out) piece → Copied s out₀ out' (p + n)
  copied-part out' e =
      let w : out' ≡ (take p out ++ piece) ++ drop (p + n) out = e ∙ whole in
      let d : length (drop (p + n) out) ≡ length out - (p + n) = length-drop (p + n) out in
      record {
        room = c.room;
        same =
            ap length w ∙ length-append (take p out ++ piece) (drop (p + n) out) ∙ omega (arith, length-there, d, room-there) ∙ c.same;
        front =
            ap (take (p + n)) w ∙ take_at (take p out ++ piece) (drop (p + n) out) (p + n) length-there
            ∙ ap (λ (z : List ℕ). z ++ piece) front-there ∙ sym (take-add p n s);
        rest = ap (drop (p + n)) w ∙ drop_at (take p out ++ piece) (drop (p + n) out) (p + n) length-there ∙ behind;
      }

  -- by a call that is lent both from p on
  pub copied-lent : (ys : List ℕ) → ys ≡ laid (take (length out - p) (drop p out)) (take n (take (length s - p) (drop p s)))
      → Copied s out₀ (put_mid p (length out - p) out ys) (p + n)
  copied-lent ys e =
      copied-part (put_mid p (length out - p) out ys) (rest_back out p ys
      ∙ ap (λ (z : List ℕ). take p out ++ z) (e ∙ ap (λ (z : List ℕ). laid z (take n (take (length s - p) (drop p s)))) (rest_part out p)
      ∙ ap (λ (z : List ℕ). laid (drop p out) (take n z)) (rest_part s p)))

-- all of it
pub copied-done : {s out₀ out : List ℕ} {i : ℕ} → Copied s out₀ out i → i ≡ length s → out ≡ laid out₀ s
copied-done {s} {out₀} {out} {i} c e =
    sym (take-append-drop i out) ∙ ap (λ (z : List ℕ). z ++ drop i out) c.front ∙ ap (λ (z : List ℕ). take i s ++ z) c.rest
    ∙ ap (λ (m : ℕ). take m s ++ drop m out₀) e ∙ ap (λ (z : List ℕ). z ++ drop (length s) out₀) (take-length s) ∙ sym (laid-fits out₀ s c.room)

-- the first bytes, by a call that is lent the whole
pub copied-first : (s out : List ℕ) (n : ℕ) → length s ≤ length out → n ≤ length s → (out' : List ℕ) → out' ≡ laid out (take n s) → Copied s out out' n
copied-first s out n room h out' e =
    let z : 0 + n ≡ n = omega arith in
    rw z at (copied-part (copied-start s out room) 0 n (omega arith) (omega arith) (omega (arith, h)) out' e)
