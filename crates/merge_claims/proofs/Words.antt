-- Words of a record, one by one. Assumes nothing.
use Prim.Native.Nat.{ℕ, zero, suc, ◌+◌, ◌*◌, ◌/◌, ◌%◌, ◌^◌, ◌≤◌, ◌<◌}
use mathlib.Core.Path.{◌≡◌, refl, sym, ap, ◌∙◌}
use mathlib.Core.Bool.{Bool, true, false, cond, false≢true}
use mathlib.Core.List.{List, [], ◌∷◌}
use mathlib.Core.Option.{Option, none, some}
use native.Mathlib.Omega.{arith}
use borrow.Author.Tests.{eqb-true, eq-eqb}
use lib.Dec.{eqb}
use lib.ListN.{length, get_or, set, take, drop, length-set}
use lib.Seq.{get_or-drop, get_or-set_same, get_or-set_other}
use Rattle.tree_merge.specs.of_schema.Schema.{Form, text, number, time, timestamp, uuid, flag, Row, width, bit_of}
use Rattle.tree_merge.specs.of_schema.Records.{value_at, all_zero, zero_at, bit_value, bits_in}
use Rattle.tree_merge.proofs.of_tree_report.EncodeLists.{both, and_left, and_right}

-- ---- words of zero
front-zero : (l : List ℕ) (k : ℕ) → all_zero (take k l) ≡ true → (i : ℕ) → i < k → get_or l i 0 ≡ 0
front-zero [] k e i h = refl
front-zero (w ∷ l) zero e i h = absurd (omega arith)
front-zero (w ∷ l) (suc k) e zero h = eqb-true w 0 (and_left (eqb w 0) (all_zero (take k l)) e)
front-zero (w ∷ l) (suc k) e (suc i) h = front-zero l k (and_right (eqb w 0) (all_zero (take k l)) e) i (omega arith)

zeros-front : (l : List ℕ) (k : ℕ) → ((i : ℕ) → i < k → get_or l i 0 ≡ 0) → all_zero (take k l) ≡ true
zeros-front l zero f = refl
zeros-front [] (suc k) f = refl
zeros-front (w ∷ l) (suc k) f = both (eq-eqb w 0 (f 0 (omega arith))) (zeros-front l k (λ i h. f (suc i) (omega arith)))

-- two records with the same words there
abbrev pub Same : (w r : List ℕ) (n m : ℕ) → Type 0
Same w r n m = (i : ℕ) → n ≤ i → i < m → get_or w i 0 ≡ get_or r i 0

pub zero_same : (w r : List ℕ) (n k : ℕ) → Same w r n (n + k) → zero_at r n k ≡ true → zero_at w n k ≡ true
zero_same w r n k f e =
    zeros-front (drop n w) k (λ i h. get_or-drop n w i 0 ∙ f (n + i) (omega arith) (omega arith) ∙ sym (get_or-drop n r i 0) ∙ front-zero (drop n r) k e i h)

-- ---- values and bits
pub value_same : (t : Form) (w r : List ℕ) (o : ℕ) → Same w r o (o + width t) → value_at t w o ≡ value_at t r o
value_same text w r o f = let a = f o (omega arith) (omega arith) in let b = f (o + 1) (omega arith) (omega arith) in λ i. record { start = a i; size = b i }
value_same number w r o f = let a = f o (omega arith) (omega arith) in let b = f (o + 1) (omega arith) (omega arith) in λ i. a i + b i * 4294967296
value_same time w r o f = let a = f o (omega arith) (omega arith) in let b = f (o + 1) (omega arith) (omega arith) in λ i. record { seconds = a i; nanos = b i }
value_same timestamp w r o f =
    let a = f o (omega arith) (omega arith) in
    let b = f (o + 1) (omega arith) (omega arith) in
    let c = f (o + 2) (omega arith) (omega arith) in
    let d = f (o + 3) (omega arith) (omega arith) in
    let e = f (o + 4) (omega arith) (omega arith) in
    let g = f (o + 5) (omega arith) (omega arith) in
    let h = f (o + 6) (omega arith) (omega arith) in
    let j = f (o + 7) (omega arith) (omega arith) in
    λ i. record { year = a i; month = b i; day = c i; hour = d i; minute = e i; second = g i; nanos = h i; offset = j i }
value_same uuid w r o f =
    let a = f o (omega arith) (omega arith) in
    let b = f (o + 1) (omega arith) (omega arith) in
    let c = f (o + 2) (omega arith) (omega arith) in
    let d = f (o + 3) (omega arith) (omega arith) in
    λ i. record { a = a i; b = b i; c = c i; d = d i }
value_same flag w r o f = refl

pub bits-same : (xs : List Row) (w r : List ℕ) → get_or w 1 0 ≡ get_or r 1 0 → bits_in xs w ≡ bits_in xs r
bits-same xs w r e = go xs
  where
    one : (o : Option ℕ) → bit_value o w ≡ bit_value o r
    one none = refl
    one (some k) = ap (λ (b : ℕ). cond (eqb (b / 2 ^ k % 2) 1) (2 ^ k) 0) e

    go : (xs : List Row) → bits_in xs w ≡ bits_in xs r
    go [] = refl
    go (x ∷ xs) = let a = one (bit_of x.presence) in let b = go xs in λ i. a i + b i

-- ---- one word put, or none
module _ (s : List ℕ) (o v : ℕ) where
  pub put_other : (b : Bool) (i : ℕ) → (b ≡ true → i ≡ o → ⊥) → get_or (cond b (set s o v) s) i 0 ≡ get_or s i 0
  put_other true i f = get_or-set_other s o i v 0 (f refl)
  put_other false i f = refl

  pub put_same : (b : Bool) → b ≡ true → o < length s → get_or (cond b (set s o v) s) o 0 ≡ v
  put_same true e h = get_or-set_same s o v 0 h
  put_same false e h = absurd (false≢true e)

  pub put-length : (b : Bool) → length (cond b (set s o v) s) ≡ length s
  put-length true = length-set s o v
  put-length false = refl
