-- The next byte that would be stored for a key, piece by piece. Assumes nothing.
use Prim.Native.Nat.{ℕ, ◌+◌, ◌-◌, ◌≤◌, ◌<◌}
use mathlib.Core.Path.{◌≡◌, refl, sym, ap, ◌∙◌}
use mathlib.Core.List.{List, [], ◌∷◌, ◌++◌}
use mathlib.Core.Bool.{true}
use native.Mathlib.Omega.{arith}
use lib.ListN.{length, get_or, take, drop}
use lib.Seq.{drop-append-add, drop-append-le, drop-nil}
use Rattle.text_key.proofs.of_area.Lists.{drop-next}
use Rattle.text_key.specs.of_text.Decode.{cleaned, piece_of, piece_width, Pieced}
use Rattle.text_key.specs.of_text.Value.{value_text}
use Rattle.text_key.specs.of_text.declared.decode.Piece.{Piece}
use Rattle.text_key.proofs.of_text.Pieces.{piece-length, piece-fits, piece-next, piece-end}
use Rattle.clean_order.specs.declared.Next.{Next}
use Rattle.clean_order.specs.inside.Following.{rest_of, Follows}

-- what is left at the one place is left at the other
pub record Passing (key : List ℕ) (at passed i left : ℕ) : Type 0 where
  pub within : i ≤ length key
  pub same : rest_of key at passed ≡ rest_of key i left

pub passing-start : (key : List ℕ) (at passed : ℕ) → at ≤ length key → Passing key at passed at passed
passing-start key at passed h = record { within = h; same = refl }

-- the first element, and what is behind it
head_of : (l g : List ℕ) (k : ℕ) → k < length l → drop k (l ++ g) ≡ get_or l k 0 ∷ drop (k + 1) (l ++ g)
head_of l g k h =
    drop-append-le k l g (omega arith) ∙ ap (λ (s : List ℕ). s ++ g) (drop-next l k h)
    ∙ ap (λ (s : List ℕ). get_or l k 0 ∷ s) (sym (drop-append-le (k + 1) l g (omega arith)))

module _ {key : List ℕ} {at passed i left : ℕ} (m : Passing key at passed i left) where
  pub passing-done : length key ≤ i → (r : Next) → r.at ≡ i → Follows key at passed r
  passing-done h r e =
      let z : rest_of key i left ≡ [] = ap (drop left) (piece-end true key i h) ∙ drop-nil left in
      let w = m.within in
      record { within = omega arith; rest = λ l. absurd (none (ap length (m.same ∙ z)) l) }
    where
      none : length (rest_of key at passed) ≡ 0 → 0 < length (rest_of key at passed) → ⊥
      none e l = omega arith

  module _ (h : i < length key) (p : Piece) (e : Pieced (cleaned true (piece_of (take (length key - i) (drop i key)))) (piece_width (take (length key - i) (drop i key))) p) where
    pub passing-within : i + p.width ≤ length key
    passing-within = piece-fits true key i h p e

    pub passing-more : p.n ≤ left → Passing key at passed (i + p.width) (left - p.n)
    passing-more l =
        let n = piece-length true key i h p e in
        let z : left ≡ length (take p.n p.bytes) + (left - p.n) = omega arith in
        record {
          within = passing-within;
          same = m.same ∙ ap (drop left) (piece-next true key i h p e)
              ∙ ap (λ (k : ℕ). drop k (take p.n p.bytes ++ value_text (drop (i + p.width) key))) z
              ∙ drop-append-add (take p.n p.bytes) (value_text (drop (i + p.width) key)) (left - p.n);
        }

    pub passing-byte : left < p.n → (r : Next) → r.byte ≡ get_or (take p.n p.bytes) left 0 → r.at ≡ i → r.passed ≡ left + 1 → Follows key at passed r
    passing-byte l r b a q =
        let n = piece-length true key i h p e in
        let w = m.within in
        let f = piece-next true key i h p e in
        record {
          within = omega arith;
          rest = λ _. m.same ∙ ap (drop left) f ∙ head_of (take p.n p.bytes) (value_text (drop (i + p.width) key)) left (omega arith)
              ∙ ap (λ (x : ℕ). x ∷ drop (left + 1) (take p.n p.bytes ++ value_text (drop (i + p.width) key))) (sym b)
              ∙ ap (λ (s : List ℕ). r.byte ∷ drop (left + 1) s) (sym f)
              ∙ ap (λ (k : ℕ). r.byte ∷ rest_of key i k) (sym q)
              ∙ ap (λ (k : ℕ). r.byte ∷ rest_of key k r.passed) (sym a);
        }
