-- Along the records: how many there are behind the report, and how long their texts are. Assumes nothing.
use Prim.Native.Nat.{ℕ, ◌+◌, ◌-◌, ◌*◌, ◌≤◌, ◌<◌}
use mathlib.Core.Bool.{Bool, true, false, cond, not, ◌&&◌}
use mathlib.Core.List.{List, [], ◌∷◌}
use mathlib.Core.Path.{◌≡◌, refl, sym, ap, ◌∙◌}
use native.Mathlib.Omega.{arith}
use lib.Dec.{ltb, eqb}
use lib.ListN.{length, get_or, take, drop}
use Rattle.merge_rows.specs.of_list_sums.inside.Rows.{stands}
use Rattle.merge_rows.proofs.of_list_sums.Records.{stands-room, records-here, records-over}
use Rattle.merge_rows.specs.of_tree_report.ReportOf.{only}
use Rattle.merge_rows.specs.of_tree_merge.Answer.{is_below}
use Rattle.merge_rows.specs.inside.Slots.{sizes_of}
use Rattle.merge_records.specs.inside.Copied.{below_in, sizes_in}

-- by the kind that was read
pub below-kind : {k : ℕ} {b t : Bool} (p : List ℕ) → k ≡ get_or p 0 0 → b ≡ (ltb k 16 && not (eqb k 1)) → b ≡ t → is_below p ≡ t
below-kind p e h q = ap (λ (n : ℕ). ltb n 16 && not (eqb n 1)) (sym e) ∙ sym h ∙ q

module _ (words : List ℕ) (at : ℕ) where
  abbrev pub here : List ℕ
  here = take (at + 32 - at) (drop at words)

  abbrev pub is_standing : Bool
  is_standing = stands (take (length words - at) (drop at words))

  split : is_standing ≡ true → below_in (drop at words) ≡ cond (is_below here) (here ∷ below_in (drop (at + 32) words)) (below_in (drop (at + 32) words))
  unfolding below_in
  split s = ap (only is_below) (records-here words at s)

  pub below_more : is_standing ≡ true → is_below here ≡ true → below_in (drop at words) ≡ here ∷ below_in (drop (at + 32) words)
  below_more s b = split s ∙ ap (λ (t : Bool). cond t (here ∷ below_in (drop (at + 32) words)) (below_in (drop (at + 32) words))) b

  pub below-pass : is_standing ≡ true → is_below here ≡ false → below_in (drop at words) ≡ below_in (drop (at + 32) words)
  below-pass s b = split s ∙ ap (λ (t : Bool). cond t (here ∷ below_in (drop (at + 32) words)) (below_in (drop (at + 32) words))) b

  pub below-over : is_standing ≡ false → below_in (drop at words) ≡ []
  unfolding below_in
  below-over s = ap (only is_below) (records-over words at s)

sizes-next : (r : List ℕ) (rs : List (List ℕ)) → sizes_in (r ∷ rs) ≡ sizes_of r + sizes_in rs
unfolding sizes_in
sizes-next r rs = refl

sizes-none : sizes_in [] ≡ 0
unfolding sizes_in
sizes-none = refl

-- the records before `at` are counted
pub record Counting (words : List ℕ) (records bytes at : ℕ) : Type 0 where
  pub fits : at ≤ length words
  pub count : records + length (below_in (drop at words)) ≡ length (below_in words)
  pub sizes : bytes + sizes_in (below_in (drop at words)) ≡ sizes_in (below_in words)
  pub few : records * 32 ≤ at
  pub small : bytes ≤ at * 1073741824

pub counting-start : (words : List ℕ) → Counting words 0 0 0
counting-start words = record { fits = omega arith; count = omega arith; sizes = omega arith; few = omega arith; small = omega arith }

module _ {words : List ℕ} {records bytes at : ℕ} (c : Counting words records bytes at) where
  pub counting_more : {n : ℕ} → is_standing words at ≡ true → is_below (here words at) ≡ true → n ≡ sizes_of (here words at) → n < 30064771072
      → Counting words (records + 1) (bytes + n) (at + 32)
  counting_more {n} s b e l =
      let m = below_more words at s b in
      let k : length (below_in (drop at words)) ≡ length (below_in (drop (at + 32) words)) + 1 = ap length m ∙ (omega arith) in
      let z : sizes_in (below_in (drop at words)) ≡ sizes_of (here words at) + sizes_in (below_in (drop (at + 32) words)) = ap sizes_in m ∙ sizes-next (here words at) (below_in (drop (at + 32) words)) in
      let x = c.count in
      let y = c.sizes in
      let f = c.few in
      let g = c.small in
      record {
        fits = stands-room words at s;
        count = omega arith;
        sizes = omega arith;
        few = omega arith;
        small = omega arith;
      }

  pub counting-pass : is_standing words at ≡ true → is_below (here words at) ≡ false → Counting words records bytes (at + 32)
  counting-pass s b =
      let m = below-pass words at s b in
      let f = c.few in
      let g = c.small in
      record {
        fits = stands-room words at s;
        count = ap (λ (rs : List (List ℕ)). records + length rs) (sym m) ∙ c.count;
        sizes = ap (λ (rs : List (List ℕ)). bytes + sizes_in rs) (sym m) ∙ c.sizes;
        few = omega arith;
        small = omega arith;
      }

  pub counting-done : is_standing words at ≡ false → (records ≡ length (below_in words)) × (bytes ≡ sizes_in (below_in words))
  counting-done s =
      let m = below-over words at s in
      let k : length (below_in (drop at words)) ≡ 0 = ap length m in
      let z : sizes_in (below_in (drop at words)) ≡ 0 = ap sizes_in m ∙ sizes-none in
      let x = c.count in
      let y = c.sizes in
      (omega arith, omega arith)

  pub counting-most : (records * 32 ≤ length words) × (bytes ≤ length words * 1073741824)
  counting-most = let a = c.fits in let f = c.few in let g = c.small in (omega arith, omega arith)
