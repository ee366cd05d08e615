-- What a value stands for is put into an area, piece by piece. Assumes nothing.
use Prim.Native.Nat.{ℕ, suc, ◌+◌, ◌-◌, ◌≤◌, ◌<◌}
use mathlib.Core.Path.{◌≡◌, refl, sym, ap, ◌∙◌}
use mathlib.Core.List.{List, [], ◌∷◌, ◌++◌}
use mathlib.Core.Bool.{Bool, true, false, cond, ◌&&◌, ◌||◌}
use native.Mathlib.Omega.{arith}
use native.Mathlib.Decide.{dec_lt}
use lib.Dec.{eqb}
use lib.ListN.{length, take, drop, get_or, length-drop, drop_of_length-le}
use lib.Seq.{drop-drop, length-take-le}
use Rattle.utf8_chars.proofs.of_area.Lists.{drop-next}
use Rattle.utf8_chars.proofs.of_area.Parts.{rest_part}
use Rattle.utf8_chars.specs.of_area.Answer.{gives, refuses}
use Rattle.utf8_chars.specs.of_area.Area.{placing, laid}
use Rattle.utf8_chars.proofs.of_area.Laying.{Laying, laying_on, laying_chunk, laying-over, put-fits, full-over}
use Rattle.utf8_chars.specs.of_utf8.Characters.{encode}
use Rattle.reference.specs.Reference.{ref_at, code_of, bytes_of, decoded}
use Rattle.text.specs.Decode.{cleaned, piece_of, piece_width, Pieced}
use Rattle.text_filter.specs.Filter.{dropped}
use Rattle.text.specs.inside.Plain.{stops, run}
use Rattle.text.specs.declared.decode.Piece.{Piece}
use Rattle.text_filter.proofs.Filtering.{filter-keep}
use Rattle.text.proofs.Unchanged.{or-none}
use Rattle.text.proofs.Pieces.{piece_moves, fits-at, next-at}
use Rattle.utf8_chars.specs.of_refusal.declared.Cause.TheVariants as cause

-- k bytes are put, and s is read up to i
pub record Writing (clean : Bool) (out₀ s out : List ℕ) (i k : ℕ) : Type 0 where
  pub within : i ≤ length s
  pub laying : Laying out₀ out k (cleaned clean (decoded s 0)) (cleaned clean (decoded (drop i s) 0))

-- the piece p is put behind them
module _ {clean : Bool} {out₀ s out : List ℕ} {i k : ℕ} (w : Writing clean out₀ s out i k) (p : Piece)
    (e : Pieced (cleaned clean (piece_of (take (length s - i) (drop i s)))) (piece_width (take (length s - i) (drop i s))) p) where
  turn : Laying out₀ out k (cleaned clean (decoded s 0)) (take p.n p.bytes ++ cleaned clean (decoded (drop (i + p.width) s) 0))
  turn = laying_on w.laying (next-at clean s i w.within p e)

  -- a run and the piece behind it take some byte, so that the loop ends
  pub writing_moves : (j : ℕ) → j ≤ i → j < length s → j < i + p.width
  writing_moves j l h = go (dec_lt i (length s))
    where
      go : Dec (i < length s) → j < i + p.width
      go (yes m) = let f = piece_moves clean s i m p e in omega arith
      go (no m) = omega arith

  module _ (out' : List ℕ) (o : out' ≡ take k out ++ laid (drop k out) (take p.n p.bytes)) where
    pub writing_more : (n : ℕ) → gives n ≡ placing cause.OutputFull (length out - k) (take p.n p.bytes) → Writing clean out₀ s out' (i + p.width) (k + n)
    writing_more n a =
        let f = put-fits cause.OutputFull (length out - k) (take p.n p.bytes) n a in
        record {
          within = fits-at clean s i w.within p e;
          laying = rw f.1 (laying_chunk (take p.n p.bytes) (cleaned clean (decoded (drop (i + p.width) s) 0)) turn out' o f.0);
        }

    pub writing-full : refuses cause.OutputFull ≡ placing cause.OutputFull (length out - k) (take p.n p.bytes)
        → (refuses cause.TextFull ≡ placing cause.TextFull (length out₀) (cleaned clean (decoded s 0))) × (out' ≡ laid out₀ (cleaned clean (decoded s 0)))
    writing-full a =
        laying-over (take p.n p.bytes) (cleaned clean (decoded (drop (i + p.width) s) 0)) turn cause.TextFull out' o (full-over cause.OutputFull (length out - k) (take p.n p.bytes) a)

-- ---- what is put as it is
pub run-within : (clean : Bool) (s : List ℕ) → run clean s ≤ length s
run-within clean [] = omega arith
run-within clean (b ∷ s) = go (stops clean b) (run-within clean s)
  where
    go : (t : Bool) → run clean s ≤ length s → cond t 0 (suc (run clean s)) ≤ suc (length s)
    go true h = omega arith
    go false h = omega arith

keeps : (clean : Bool) (b : ℕ) (l : List ℕ) → (clean && dropped b) ≡ false → cleaned clean (b ∷ l) ≡ b ∷ cleaned clean l
keeps true b l e = filter-keep b l e
keeps false b l e = refl

run_on : (clean : Bool) (s : List ℕ) → cleaned clean (decoded s 0) ≡ take (run clean s) s ++ cleaned clean (decoded (drop (run clean s) s) 0)
run_on clean [] = refl
run_on clean (b ∷ s) = go (stops clean b) refl (run_on clean s)
  where
    go : (t : Bool) → stops clean b ≡ t → cleaned clean (decoded s 0) ≡ take (run clean s) s ++ cleaned clean (decoded (drop (run clean s) s) 0)
        → cleaned clean (decoded (b ∷ s) 0) ≡ take (cond t 0 (suc (run clean s))) (b ∷ s) ++ cleaned clean (decoded (drop (cond t 0 (suc (run clean s))) (b ∷ s)) 0)
    go true q ih = refl
    go false q ih =
        let p = or-none (eqb b 0x26) (clean && dropped b) q in
        ap (λ (t : Bool). cleaned clean (cond t (encode (code_of (ref_at s)) ++ decoded s (bytes_of (ref_at s))) (b ∷ decoded s 0))) p.0
        ∙ keeps clean b (decoded s 0) p.1 ∙ ap (λ (l : List ℕ). b ∷ l) ih

-- a run is put
module _ {clean : Bool} {out₀ s out : List ℕ} {i k : ℕ} (w : Writing clean out₀ s out i k) (out' : List ℕ)
    (o : out' ≡ take k out ++ laid (drop k out) (take (run clean (take (length s - i) (drop i s))) (take (length s - i) (drop i s)))) where
  abbrev size : ℕ
  size = run clean (drop i s)

  abbrev as_is : List ℕ
  as_is = take size (drop i s)

  in_rest : size + i ≤ length s
  in_rest = let f = run-within clean (drop i s) in let g = w.within in omega (arith, simp length-drop at f)

  long : length as_is ≡ size
  long = length-take-le size (drop i s) (run-within clean (drop i s))

  put-here : out' ≡ take k out ++ laid (drop k out) as_is
  put-here = rw (rest_part s i) at o

  next : Laying out₀ out k (cleaned clean (decoded s 0)) (as_is ++ cleaned clean (decoded (drop (i + size) s) 0))
  next = laying_on w.laying (run_on clean (drop i s) ∙ ap (λ (l : List ℕ). as_is ++ cleaned clean (decoded l 0)) (drop-drop size i s))

  pub run_more : (n : ℕ) → gives n ≡ placing cause.OutputFull (length out - k) (take (run clean (take (length s - i) (drop i s))) (take (length s - i) (drop i s)))
      → Writing clean out₀ s out' (i + n) (k + n)
  run_more n a =
      let f = put-fits cause.OutputFull (length out - k) as_is n (rw (rest_part s i) at a) in
      let m : n ≡ size = f.1 ∙ long in
      record {
        within = omega (arith, in_rest);
        laying = rw (m) (rw (long) at (laying_chunk as_is (cleaned clean (decoded (drop (i + size) s) 0)) next out' put-here f.0));
      }

  pub run-full : refuses cause.OutputFull ≡ placing cause.OutputFull (length out - k) (take (run clean (take (length s - i) (drop i s))) (take (length s - i) (drop i s)))
      → (refuses cause.TextFull ≡ placing cause.TextFull (length out₀) (cleaned clean (decoded s 0))) × (out' ≡ laid out₀ (cleaned clean (decoded s 0)))
  run-full a =
      laying-over as_is (cleaned clean (decoded (drop (i + size) s) 0)) next cause.TextFull out' put-here (full-over cause.OutputFull (length out - k) as_is (rw (rest_part s i) at a))

-- ---- the loop that finds its length
pub record Running (clean : Bool) (s : List ℕ) (i : ℕ) : Type 0 where
  pub inside : i ≤ length s
  pub ahead : i + run clean (drop i s) ≡ run clean s

module _ {clean : Bool} {s : List ℕ} {i : ℕ} (r : Running clean s i) where
  pub running-end : length s ≤ i → i ≡ run clean s
  running-end h =
      let z : run clean (drop i s) ≡ 0 = ap (run clean) (drop_of_length-le s {i = i} h) in
      omega (arith, r.ahead)

  module _ (h : i < length s) (t u : Bool) (q : u ≡ dropped (get_or s i 0)) (e : (eqb (get_or s i 0) 0x26 || (clean && u)) ≡ t) where
    turn-run : run clean (drop i s) ≡ cond t 0 (suc (run clean (drop (i + 1) s)))
    turn-run =
        ap (run clean) (drop-next s i h)
        ∙ ap (λ (d : Bool). cond (eqb (get_or s i 0) 0x26 || (clean && d)) 0 (suc (run clean (drop (i + 1) s)))) (sym q)
        ∙ ap (λ (d : Bool). cond d 0 (suc (run clean (drop (i + 1) s)))) e

    pub running-found : t ≡ true → i ≡ run clean s
    running-found f =
        let z : run clean (drop i s) ≡ 0 = turn-run ∙ ap (λ (d : Bool). cond d 0 (suc (run clean (drop (i + 1) s)))) f in
        omega (arith, r.ahead)

    pub running_more : t ≡ false → Running clean s (i + 1)
    running_more f =
        let z : run clean (drop i s) ≡ suc (run clean (drop (i + 1) s)) = turn-run ∙ ap (λ (d : Bool). cond d 0 (suc (run clean (drop (i + 1) s)))) f in
        record { inside = omega arith; ahead = omega (arith, r.ahead) }
