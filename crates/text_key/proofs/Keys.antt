-- A stored text is compared with what a key stands for, piece by piece. Assumes nothing.
use Prim.Native.Nat.{ℕ, ◌+◌, ◌-◌, ◌≤◌, ◌<◌}
use mathlib.Core.Path.{◌≡◌, refl, sym, ap, ◌∙◌}
use mathlib.Core.List.{List, [], ◌∷◌, ◌++◌}
use mathlib.Core.Bool.{Bool, true, false, cond, ◌&&◌}
use native.Mathlib.Omega.{arith}
use native.Mathlib.Decide.{dec_lt}
use borrow.Author.Tests.{eq-eqb, ne_eqb}
use lib.Dec.{eqb}
use lib.ListN.{length, take, drop, length-take, length-drop, drop_of_length-le, length-append}
use lib.Seq.{drop-drop, length-take-le}
use Rattle.text.proofs.of_area.Lists.{drop-next}
use Rattle.text.specs.of_names.Names.{same_bytes}
use Rattle.text.proofs.of_names.NameLaws.{same_true}
use Rattle.text.specs.Decode.{cleaned, piece_of, piece_width, Pieced}
use Rattle.text.specs.Value.{value_text}
use Rattle.text.specs.declared.decode.Piece.{Piece}
use Rattle.text.proofs.Pieces.{piece-length, piece-fits, piece-next, piece-end}
use Rattle.text.proofs.Values.{length-value}

-- the same as one text behind another: the same as the one, and behind it as the other
same-append : (f a g : List ℕ) → same_bytes a (f ++ g) ≡ (same_bytes (take (length f) a) f && same_bytes (drop (length f) a) g)
unfolding same_bytes
same-append [] a g = refl
same-append (x ∷ f) [] g = refl
same-append (x ∷ f) (y ∷ a) g = go (eqb y x) (same-append f a g)
  where
    go : (t : Bool) → same_bytes a (f ++ g) ≡ (same_bytes (take (length f) a) f && same_bytes (drop (length f) a) g)
        → cond t (same_bytes a (f ++ g)) false ≡ (cond t (same_bytes (take (length f) a) f) false && same_bytes (drop (length f) a) g)
    go true ih = ih
    go false ih = refl

-- at its end, the same as nothing
same_end : (a : List ℕ) (k : ℕ) → k ≤ length a → same_bytes (drop k a) [] ≡ eqb k (length a)
unfolding same_bytes
same_end a k h = go (dec_lt k (length a))
  where
    go : Dec (k < length a) → same_bytes (drop k a) [] ≡ eqb k (length a)
    go (yes l) = ap (λ (x : List ℕ). same_bytes x []) (drop-next a k l) ∙ sym (ne_eqb k (length a) (omega arith))
    go (no l) = ap (λ (x : List ℕ). same_bytes x []) (drop_of_length-le a {i = k} (omega arith)) ∙ sym (eq-eqb k (length a) (omega arith))

-- n bytes do not stand where fewer are left
pub same-short : (s bytes : List ℕ) (k n : ℕ) → length s - k < n → n ≤ length bytes → false ≡ same_bytes (take n (drop k s)) (take n bytes)
same-short s bytes k n h m = go (same_bytes (take n (drop k s)) (take n bytes)) refl
  where
    go : (t : Bool) → same_bytes (take n (drop k s)) (take n bytes) ≡ t → false ≡ t
    go true q =
        let l : length (take n (drop k s)) ≤ length s - k = rw (length-take n (drop k s), length-drop k s) (omega arith) in
        let e : length (take n (drop k s)) ≡ n = ap length (same_true _ _ q) ∙ length-take-le n bytes m in
        absurd (omega arith)
    go false q = refl

-- k bytes of stored stand for raw up to i
pub record Matching (stored raw : List ℕ) (i k : ℕ) : Type 0 where
  pub within : i ≤ length raw
  pub fits : k ≤ length stored
  pub left : same_bytes stored (value_text raw) ≡ same_bytes (drop k stored) (value_text (drop i raw))

pub matching-start : (stored raw : List ℕ) → Matching stored raw 0 0
matching-start stored raw = record { within = omega arith; fits = omega arith; left = refl }

pub matching-done : {stored raw : List ℕ} {i k : ℕ} → Matching stored raw i k → length raw ≤ i → eqb k (length stored) ≡ same_bytes stored (value_text raw)
matching-done {stored} {raw} {i} {k} m h = sym (m.left ∙ ap (same_bytes (drop k stored)) (piece-end true raw i h) ∙ same_end stored k m.fits)

-- t says whether the piece p stands behind them
module _ {stored raw : List ℕ} {i k : ℕ} (m : Matching stored raw i k) (h : i < length raw) (p : Piece) (e : Pieced (cleaned true (piece_of (take (length raw - i) (drop i raw))))
    (piece_width (take (length raw - i) (drop i raw))) p) (t : Bool) (q : t ≡ same_bytes (take p.n (drop k stored)) (take p.n p.bytes)) where
  turn : same_bytes stored (value_text raw) ≡ (t && same_bytes (drop (k + p.n) stored) (value_text (drop (i + p.width) raw)))
  turn =
      m.left ∙ ap (same_bytes (drop k stored)) (piece-next true raw i h p e)
      ∙ same-append (take p.n p.bytes) (drop k stored) (value_text (drop (i + p.width) raw))
      ∙ ap (λ (n : ℕ). same_bytes (take n (drop k stored)) (take p.n p.bytes) && same_bytes (drop n (drop k stored)) (value_text (drop (i + p.width) raw))) (piece-length true raw i h p e)
      ∙ ap (λ (l : List ℕ). same_bytes (take p.n (drop k stored)) (take p.n p.bytes) && same_bytes l (value_text (drop (i + p.width) raw))) (drop-drop p.n k stored)
      ∙ ap (λ (b : Bool). b && same_bytes (drop (k + p.n) stored) (value_text (drop (i + p.width) raw))) (sym q)

  pub matching-other : t ≡ false → false ≡ same_bytes stored (value_text raw)
  matching-other r = sym (turn ∙ ap (λ (b : Bool). b && same_bytes (drop (k + p.n) stored) (value_text (drop (i + p.width) raw))) r)

  stands : t ≡ true → k + p.n ≤ length stored
  stands r =
      let l : length (take p.n (drop k stored)) ≡ p.n = ap length (same_true _ _ (sym q ∙ r)) ∙ piece-length true raw i h p e in
      let n : length (take p.n (drop k stored)) ≤ length stored - k = rw (length-take p.n (drop k stored), length-drop k stored) (omega arith) in
      let f = m.fits in omega arith

  pub matching-more : t ≡ true → Matching stored raw (i + p.width) (k + p.n)
  matching-more r = record {
    within = piece-fits true raw i h p e;
    fits = stands r;
    left = turn ∙ ap (λ (b : Bool). b && same_bytes (drop (k + p.n) stored) (value_text (drop (i + p.width) raw))) r;
  }

-- what raw stands for up to i takes k bytes
pub record Counting (raw : List ℕ) (i k : ℕ) : Type 0 where
  pub within : i ≤ length raw
  pub left : k + length (value_text (drop i raw)) ≡ length (value_text raw)

pub counting-start : (raw : List ℕ) → Counting raw 0 0
counting-start raw = record { within = omega arith; left = omega arith }

pub counting-done : {raw : List ℕ} {i k : ℕ} → Counting raw i k → length raw ≤ i → k ≡ length (value_text raw)
counting-done {raw} {i} {k} m h =
    let e : length (value_text (drop i raw)) ≡ 0 = ap length (piece-end true raw i h) in
    let l = m.left in
    omega arith

module _ {raw : List ℕ} {i k : ℕ} (m : Counting raw i k) (h : i < length raw) (p : Piece)
    (e : Pieced (cleaned true (piece_of (take (length raw - i) (drop i raw)))) (piece_width (take (length raw - i) (drop i raw))) p) where
  pub counting_more : Counting raw (i + p.width) (k + p.n)
  counting_more = record {
    within = piece-fits true raw i h p e;
    left =
        let a : length (value_text (drop i raw)) ≡ length (take p.n p.bytes) + length (value_text (drop (i + p.width) raw)) =
        ap length (piece-next true raw i h p e) ∙ length-append (take p.n p.bytes) (value_text (drop (i + p.width) raw)) in
        let b = piece-length true raw i h p e in
        let l = m.left in
        omega arith;
  }

  pub counting-within : k + p.n ≤ length raw
  counting-within =
      let l = counting_more.left in
      let n = length-value raw in
      omega arith
