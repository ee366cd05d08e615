-- The record area: whole records, one behind the other, and zeros. Assumes nothing.
use Prim.Native.Nat.{ℕ, zero, suc, ◌+◌, ◌-◌, ◌*◌, ◌/◌, ◌≤◌, min}
use mathlib.Core.Bool.{Bool, true, false, cond}
use mathlib.Core.List.{List, [], ◌∷◌, ◌++◌, append_assoc}
use mathlib.Core.Path.{◌≡◌, refl, ap, ap₂, ◌∙◌}
use native.Mathlib.Omega.{arith}
use lib.Dec.{eqb}
use lib.ListN.{length, get_or, take, drop, length-append, length-take, length-replicate, get_or-append}
use lib.Seq.{take_at, drop_at}
use Rattle.schema.proofs.of_area.Laying.{laid-zeros}
use Rattle.schema.specs.of_area.Area.{zeros, laid}
use Rattle.schema.specs.of_utf8.Characters.{joined}
use Rattle.tree_report.specs.Fields.{kind_of}
use Rattle.tree_report.specs.Layout.{used_words, all_zero, records_from, records_of}
use Rattle.tree_report.proofs.EncodeLists.{Each, done, more}
use Rattle.tree_report.proofs.EncodeText.{zero-zeros, take-area}

-- a record of 32 words whose kind is not 0
abbrev pub Whole : List ℕ → Type 0
Whole r = (length r ≡ 32) × (eqb (kind_of r) 0 ≡ false)

pub joined_length : {rs : List (List ℕ)} → Each Whole rs → length (joined rs) ≡ length rs * 32
joined_length done = refl
joined_length (more {x = r} {xs = rs} h hs) =
    let e = h.0 in
    let n = joined_length hs in
    length-append r (joined rs) ∙ omega arith

pub records-from : {rs : List (List ℕ)} → Each Whole rs → (n k : ℕ) → length rs ≤ n → records_from n (joined rs ++ zeros k) ≡ rs
unfolding records_from
records-from done zero k h = refl
records-from done (suc n) zero h = refl
records-from done (suc n) (suc k) h = refl
records-from (more w ws) zero k h = absurd (omega arith)
records-from (more {x = r} {xs = rs} w ws) (suc n) k h =
    let l : List ℕ = joined rs ++ zeros k in
    let e : (r ++ joined rs) ++ zeros k ≡ r ++ l = append_assoc r (joined rs) (zeros k) in
    let f : eqb (get_or (r ++ l) 0 0) 0 ≡ false = ap (λ (a : ℕ). eqb a 0) (get_or-append r l 0 0 (let z = w.0 in omega arith)) ∙ w.1 in
    ap (λ (s : List ℕ). cond (eqb (get_or s 0 0) 0) [] (take 32 s ∷ records_from n (drop 32 s))) e
    ∙ ap (λ (t : Bool). cond t [] (take 32 (r ++ l) ∷ records_from n (drop 32 (r ++ l)))) f
    ∙ ap₂ (λ (a : List ℕ) (b : List ℕ). a ∷ records_from n b) (take_at r l 32 w.0) (drop_at r l 32 w.0)
    ∙ ap (λ (q : List (List ℕ)). r ∷ q) (records-from ws n k (omega arith))

module _ {rs : List (List ℕ)} (w : Each Whole rs) (n : ℕ) (limit : length rs ≤ 65536) (room : length rs * 32 ≤ n) where
  laid-records : laid (zeros n) (joined rs) ≡ joined rs ++ zeros (n - length (joined rs))
  laid-records = laid-zeros n (joined rs) (let e = joined_length w in omega arith)

  -- an area that holds whole records and zeros behind them
  pub records-of : records_of (laid (zeros n) (joined rs)) ≡ rs
  unfolding records_of
  records-of =
      let k : ℕ = n - length (joined rs) in
      let l : List ℕ = joined rs ++ zeros k in
      let e = joined_length w in
      let a : length l ≡ length (joined rs) + k = length-append (joined rs) (zeros k) ∙ ap (λ (m : ℕ). length (joined rs) + m) (length-replicate k 0) in
      let b : length (take 2097152 l) ≡ min 2097152 (length l) = length-take 2097152 l in
      ap (λ (s : List ℕ). records_from (length (take 2097152 s) / 32) s) laid-records ∙ records-from w (length (take 2097152 l) / 32) k (omega arith)

  -- behind the records that were put into a cleared area it is zero, as a layout asks
  pub zeros-behind : all_zero (drop (length rs * 32) (used_words (laid (zeros n) (joined rs)))) ≡ true
  zeros-behind =
      let p = take-area (joined rs) (n - length (joined rs)) 2097152 (let e = joined_length w in omega arith) in
      ap (λ (s : List ℕ). all_zero (drop (length rs * 32) s)) (ap used_words laid-records ∙ p.1)
      ∙ ap all_zero (drop_at (joined rs) (zeros p.0) (length rs * 32) (joined_length w)) ∙ zero-zeros p.0
