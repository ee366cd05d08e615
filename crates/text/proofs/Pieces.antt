-- What a value stands for, piece by piece. Assumes nothing.
use Prim.Native.Nat.{ℕ, suc, ◌+◌, ◌-◌, ◌≤◌, ◌<◌}
use mathlib.Core.Path.{◌≡◌, refl, sym, ap, ◌∙◌}
use mathlib.Core.List.{List, [], ◌∷◌, ◌++◌}
use mathlib.Core.Bool.{Bool, true, false, cond}
use native.Mathlib.Omega.{arith}
use native.Mathlib.Nat.{not-suc-le-zero}
use borrow.Author.Tests.{eq-eqb, ne_eqb}
use lib.Dec.{eqb}
use lib.ListN.{length, get_or, take, drop, length-drop, drop_of_length-le}
use lib.Seq.{drop-drop, length-take-le}
use Rattle.utf8_chars.proofs.of_area.Parts.{rest_part}
use Rattle.utf8_chars.specs.of_utf8.Characters.{encode}
use Rattle.reference.specs.Reference.{ref_at, code_of, bytes_of, decoded}
use Rattle.std.specs.Prelude.{Some, None}
use Rattle.reference.proofs.Behind.{ref-fits}
use Rattle.reference.proofs.Decoding.{decoded-drop}
use Rattle.text.specs.Decode.{cleaned, piece_of, piece_width, Pieced}
use Rattle.text.specs.declared.decode.Piece.{Piece}
use Rattle.text.proofs.Cleaning.{cleaned-append, cleaned-nil}

-- the first piece, and the rest
piece_on : (s : List ℕ) → decoded s 0 ≡ piece_of s ++ decoded (drop (piece_width s) s) 0
piece_on [] = refl
piece_on (b ∷ s) = go (eqb b 0x26)
  where
    go : (t : Bool) → cond t (encode (code_of (ref_at s)) ++ decoded s (bytes_of (ref_at s))) (b ∷ decoded s 0)
        ≡ cond t (encode (code_of (ref_at s))) (b ∷ []) ++ decoded (drop (cond t (suc (bytes_of (ref_at s))) 1) (b ∷ s)) 0
    go true = ap (λ (l : List ℕ). encode (code_of (ref_at s)) ++ l) (decoded-drop s (bytes_of (ref_at s)))
    go false = refl

width_some : (s : List ℕ) → 0 < length s → 0 < piece_width s
width_some [] h = absurd (not-suc-le-zero h)
width_some (b ∷ s) h = go (eqb b 0x26)
  where
    go : (t : Bool) → 0 < cond t (suc (bytes_of (ref_at s))) 1
    go true = omega arith
    go false = omega arith

width-in : (s : List ℕ) → piece_width s ≤ length s
width-in [] = omega arith
width-in (b ∷ s) = go (eqb b 0x26) (ref-fits s)
  where
    go : (t : Bool) → bytes_of (ref_at s) ≤ length s → cond t (suc (bytes_of (ref_at s))) 1 ≤ suc (length s)
    go true f = omega arith
    go false f = omega arith

-- no piece at the end
pub piece-none : (s : List ℕ) (clean : Bool) → length s ≡ 0 → (p : Piece) → p.n ≡ 0 → p.width ≡ 0 → Pieced (cleaned clean (piece_of s)) (piece_width s) p
piece-none [] clean h p n w = record { fits = omega (arith, n); front = ap (λ (k : ℕ). take k p.bytes) n ∙ sym (cleaned-nil clean); takes = w }
piece-none (b ∷ s) clean h p n w = absurd (omega arith)

-- the first piece, from what the code finds at the front
module _ (s : List ℕ) (h : 0 < length s) where
  pub piece_byte : (get_or s 0 0 ≡ 0x26 → ⊥) → (piece_of s ≡ get_or s 0 0 ∷ []) × (piece_width s ≡ 1)
  piece_byte = go s h
    where
      go : (s : List ℕ) → 0 < length s → (get_or s 0 0 ≡ 0x26 → ⊥) → (piece_of s ≡ get_or s 0 0 ∷ []) × (piece_width s ≡ 1)
      go [] h n = absurd (not-suc-le-zero h)
      go (b ∷ s) h n = let e : eqb b 0x26 ≡ false = ne_eqb b 0x26 n in (
        ap (λ (t : Bool). cond t (encode (code_of (ref_at s))) (b ∷ [])) e,
        ap (λ (t : Bool). cond t (suc (bytes_of (ref_at s))) 1) e,
      )

  reference : get_or s 0 0 ≡ 0x26 → (piece_of s ≡ encode (code_of (ref_at (drop 1 s)))) × (piece_width s ≡ suc (bytes_of (ref_at (drop 1 s))))
  reference = go s h
    where
      go : (s : List ℕ) → 0 < length s → get_or s 0 0 ≡ 0x26 → (piece_of s ≡ encode (code_of (ref_at (drop 1 s)))) × (piece_width s ≡ suc (bytes_of (ref_at (drop 1 s))))
      go [] h n = absurd (not-suc-le-zero h)
      go (b ∷ s) h n = let e : eqb b 0x26 ≡ true = eq-eqb b 0x26 n in (
        ap (λ (t : Bool). cond t (encode (code_of (ref_at s))) (b ∷ [])) e,
        ap (λ (t : Bool). cond t (suc (bytes_of (ref_at s))) 1) e,
      )

  pub piece-bad : get_or s 0 0 ≡ 0x26 → ref_at (drop 1 s) ≡ None → (piece_of s ≡ 0 ∷ []) × (piece_width s ≡ 1)
  unfolding encode
  piece-bad n r = let p = reference n in (p.0 ∙ rw r refl, p.1 ∙ rw r refl)

  pub piece-char : (c w : ℕ) → get_or s 0 0 ≡ 0x26 → ref_at (drop 1 s) ≡ Some (c, w) → (piece_of s ≡ encode c) × (piece_width s ≡ w + 1)
  piece-char c w n r = let p = reference n in (p.0 ∙ rw r refl, p.1 ∙ rw r (omega arith))

  pub ref-room : (c w : ℕ) → ref_at (drop 1 s) ≡ Some (c, w) → w + 1 ≤ length s
  ref-room c w r =
      let k : bytes_of (ref_at (drop 1 s)) ≤ length (drop 1 s) = ref-fits (drop 1 s) in
      let n : bytes_of (ref_at (drop 1 s)) ≡ w = ap bytes_of r in
      omega (arith, simp length-drop at k)

pub pieced_on : {f g : List ℕ} {v w : ℕ} {p : Piece} → Pieced f v p → f ≡ g → v ≡ w → Pieced g w p
pieced_on k e m = record { fits = k.fits; front = k.front ∙ e; takes = k.takes ∙ m }

-- a piece p was made of the part of s that begins at i
module _ (clean : Bool) (s : List ℕ) (i : ℕ) (h : i ≤ length s) (p : Piece)
    (k : Pieced (cleaned clean (piece_of (take (length s - i) (drop i s)))) (piece_width (take (length s - i) (drop i s))) p) where
  here : Pieced (cleaned clean (piece_of (drop i s))) (piece_width (drop i s)) p
  here = rw (rest_part s i) at k

  -- a piece ends in the value, also at its end
  pub fits-at : i + p.width ≤ length s
  fits-at = rw here.takes (let f : piece_width (drop i s) ≤ length (drop i s) = width-in (drop i s) in omega (arith, simp length-drop at f))

  pub next-at : cleaned clean (decoded (drop i s) 0) ≡ take p.n p.bytes ++ cleaned clean (decoded (drop (i + p.width) s) 0)
  next-at =
      ap (cleaned clean) (piece_on (drop i s) ∙ ap (λ (l : List ℕ). piece_of (drop i s) ++ decoded l 0) (drop-drop (piece_width (drop i s)) i s))
      ∙ cleaned-append clean (piece_of (drop i s)) (decoded (drop (i + piece_width (drop i s)) s) 0)
      ∙ rw (here.front, here.takes) refl

module _ (clean : Bool) (s : List ℕ) (i : ℕ) (h : i < length s) (p : Piece)
    (k : Pieced (cleaned clean (piece_of (take (length s - i) (drop i s)))) (piece_width (take (length s - i) (drop i s))) p) where
  -- a piece has as many bytes as it says
  pub piece-length : length (take p.n p.bytes) ≡ p.n
  piece-length = length-take-le p.n p.bytes k.fits

  -- a piece takes some byte of the value, so that the loop ends
  pub piece_moves : 0 < p.width
  piece_moves = rw (here clean s i (omega arith) p k).takes (width_some (drop i s) (rw (length-drop i s) (omega arith)))

  -- a piece ends in the value: the bound for the next turn
  pub piece-fits : i + p.width ≤ length s
  piece-fits = fits-at clean s i (omega arith) p k

  -- what the value stands for from here on: the piece, and what it stands for behind it
  pub piece-next : cleaned clean (decoded (drop i s) 0) ≡ take p.n p.bytes ++ cleaned clean (decoded (drop (i + p.width) s) 0)
  piece-next = next-at clean s i (omega arith) p k

-- behind the end a value stands for nothing more
pub piece-end : (clean : Bool) (s : List ℕ) (i : ℕ) → length s ≤ i → cleaned clean (decoded (drop i s) 0) ≡ []
piece-end clean s i h = ap (λ (l : List ℕ). cleaned clean (decoded l 0)) (drop_of_length-le s h) ∙ cleaned-nil clean
