-- What each call makes of a record and its texts. Assumes nothing.
use Prim.Native.Nat.{ℕ, ◌+◌, ◌-◌, ◌/◌, ◌%◌, ◌≤◌}
use mathlib.Core.Bool.{Bool, true, false, cond}
use mathlib.Core.List.{List, [], ◌++◌, append-nil}
use mathlib.Core.Path.{◌≡◌, sym, ap, ap₂, ◌∙◌}
use native.Mathlib.Nat.{le_of_eq}
use native.Mathlib.Omega.{arith}
use lib.Dec.{eqb}
use lib.ListN.{length, get_or, set, take, drop, drop_of_length-le}
use Rattle.std.specs.Prelude.{Option, Some}
use Rattle.write_bytes.proofs.of_area.Laying.{laid-fits}
use Rattle.write_bytes.specs.of_list_text.inside.Behind.{Filled, filled, behind, Puts}
use Rattle.write_bytes.specs.of_tree_record.Record as words
use Rattle.write_bytes.specs.of_tree_record.Record.{kind_of}
use Rattle.merge_rows.specs.inside.Slots.{text_bits, has_text, text_at, size_at, start_at, name, out, type, description, trace}
use Rattle.merge_rows.specs.inside.Slots.{front_texts, back_texts, front_moved, back_moved, row_texts, row_moved_of, sizes_of}

-- ---- one text
module _ (slot : Bool) (k o : ℕ) (texts r : List ℕ) where
  pub part-here : {a n : ℕ} {p : List ℕ} → has_text slot k r ≡ true → a ≡ get_or r o 0 → n ≡ get_or r (o + 1) 0 → p ≡ take n (drop a texts) → p ≡ text_at slot k o texts r
  unfolding text_at
  part-here h x y e = e ∙ ap₂ (λ (n a : ℕ). take n (drop a texts)) y x ∙ sym (ap (λ (t : Bool). cond t (words.text_at texts r o) []) h)

  pub none_here : has_text slot k r ≡ false → text_at slot k o texts r ≡ []
  unfolding text_at
  none_here h = ap (λ (t : Bool). cond t (words.text_at texts r o) []) h

module _ (slot : Bool) (k o : ℕ) (r : List ℕ) (fill : ℕ) (s : List ℕ) where
  pub start-here : {w : List ℕ} → has_text slot k r ≡ true → w ≡ set s o fill → w ≡ start_at slot k o r fill s
  unfolding start_at
  start-here h e = e ∙ sym (ap (λ (t : Bool). cond t (set s o fill) s) h)

  pub start_none : has_text slot k r ≡ false → s ≡ start_at slot k o r fill s
  unfolding start_at
  start_none h = sym (ap (λ (t : Bool). cond t (set s o fill) s) h)

-- ---- the sizes
pub sizes-added : {m a b c d e f g : ℕ} (r : List ℕ) → m ≡ text_bits (kind_of r)
    → a ≡ size_at (eqb (m % 2) 1) 0 2 r → b ≡ size_at (eqb (m / 2 % 2) 1) 1 4 r → c ≡ size_at (eqb (m / 4 % 2) 1) 2 6 r
    → d ≡ size_at (eqb (m / 32 % 2) 1) 5 18 r → e ≡ size_at (eqb (m / 64 % 2) 1) 6 20 r → f ≡ size_at (eqb (m / 128 % 2) 1) 7 22 r
    → g ≡ size_at (eqb (m / 1024 % 2) 1) 10 28 r → a + b + c + d + e + f + g ≡ sizes_of r
unfolding sizes_of
sizes-added {m} r q x y z u v w t =
    rw (x, y, z, u, v, w, t)
    (ap (λ (m : ℕ). size_at (eqb (m % 2) 1) 0 2 r + size_at (eqb (m / 2 % 2) 1) 1 4 r + size_at (eqb (m / 4 % 2) 1) 2 6 r
    + size_at (eqb (m / 32 % 2) 1) 5 18 r + size_at (eqb (m / 64 % 2) 1) 6 20 r + size_at (eqb (m / 128 % 2) 1) 7 22 r
    + size_at (eqb (m / 1024 % 2) 1) 10 28 r) q)

-- ---- three starts, and four
module _ (m : ℕ) (texts r : List ℕ) (fill : ℕ) (w : List ℕ) {a b : ℕ} {w1 w2 w3 : List ℕ} where
  pub front-rows : a ≡ fill + length (name m texts r) → b ≡ a + length (out m texts r)
      → w1 ≡ start_at (eqb (m % 2) 1) 0 2 r fill w → w2 ≡ start_at (eqb (m / 2 % 2) 1) 1 4 r a w1 → w3 ≡ start_at (eqb (m / 4 % 2) 1) 2 6 r b w2
      → w3 ≡ front_moved m texts fill r w
  unfolding front_moved
  front-rows x y e f g =
      g
      ∙ ap₂ (λ (n : ℕ) (l : List ℕ). start_at (eqb (m / 4 % 2) 1) 2 6 r n l) (y ∙ ap (λ (n : ℕ). n + length (out m texts r)) x)
      (f ∙ ap₂ (λ (n : ℕ) (l : List ℕ). start_at (eqb (m / 2 % 2) 1) 1 4 r n l) x e)

  pub back-rows : {c : ℕ} {w4 : List ℕ} → a ≡ fill + length (type m texts r) → b ≡ a + length (description m texts r) → c ≡ b + length (trace m texts r)
      → w1 ≡ start_at (eqb (m / 32 % 2) 1) 5 18 r fill w → w2 ≡ start_at (eqb (m / 64 % 2) 1) 6 20 r a w1 → w3 ≡ start_at (eqb (m / 128 % 2) 1) 7 22 r b w2
      → w4 ≡ start_at (eqb (m / 1024 % 2) 1) 10 28 r c w3 → w4 ≡ back_moved m texts fill r w
  unfolding back_moved
  back-rows x y z e f g h =
      let v = y ∙ ap (λ (n : ℕ). n + length (description m texts r)) x in
      h
      ∙ ap₂ (λ (n : ℕ) (l : List ℕ). start_at (eqb (m / 1024 % 2) 1) 10 28 r n l) (z ∙ ap (λ (n : ℕ). n + length (trace m texts r)) v)
      (g ∙ ap₂ (λ (n : ℕ) (l : List ℕ). start_at (eqb (m / 128 % 2) 1) 7 22 r n l) v
      (f ∙ ap₂ (λ (n : ℕ) (l : List ℕ). start_at (eqb (m / 64 % 2) 1) 6 20 r n l) x e))

-- ---- a whole record
-- the words of r fill an area of their length
pub copied : (row r w : List ℕ) (k : Option ℕ) → length row ≡ length r → Puts (filled (Some 0) row) r (filled k w) → w ≡ r
unfolding behind
copied row r w k n p =
    ap (λ (t : Filled). t.1) p.same ∙ laid-fits row r (le_of_eq (sym n))
    ∙ ap (λ (l : List ℕ). r ++ l) (drop_of_length-le row {i = length r} (le_of_eq n)) ∙ append-nil r

module _ (texts r : List ℕ) {m : ℕ} (q : m ≡ text_bits (kind_of r)) where
  pub row-split : row_texts texts r ≡ front_texts m texts r ++ back_texts m texts r
  unfolding row_texts
  row-split = sym (ap (λ (m : ℕ). front_texts m texts r ++ back_texts m texts r) q)

  pub row_fits : (fill : ℕ) {n : ℕ} → fill + length (row_texts texts r) ≤ n → fill + length (front_texts m texts r ++ back_texts m texts r) ≤ n
  row_fits fill h = let e = ap length row-split in omega arith

  pub row-rows : (fill : ℕ) {a : ℕ} {w1 w2 w3 : List ℕ} → a ≡ fill + length (front_texts m texts r) → w1 ≡ r → w2 ≡ front_moved m texts fill r w1
      → w3 ≡ back_moved m texts a r w2 → w3 ≡ row_moved_of texts fill r
  unfolding row_moved_of
  row-rows fill x e f g =
      g ∙ ap₂ (λ (n : ℕ) (l : List ℕ). back_moved m texts n r l) x (f ∙ ap (front_moved m texts fill r) e)
      ∙ ap (λ (m : ℕ). back_moved m texts (fill + length (front_texts m texts r)) r (front_moved m texts fill r r)) q
