-- What the code finds in a record by its presence bits is what the rows of its kind say. Assumes nothing.
use Prim.Native.Nat.{ℕ, ◌+◌, ◌/◌, ◌%◌, ◌≤◌}
use mathlib.Core.Bool.{Bool, true, false, cond, not, ◌&&◌, false≢true}
use mathlib.Core.List.{List, [], ◌∷◌, ◌++◌, append_assoc, append-nil}
use mathlib.Core.Path.{◌≡◌, refl, sym, ap, ◌∙◌}
use native.Mathlib.Nat.{add-zero, zero-add}
use native.Mathlib.Omega.{arith}
use borrow.Author.Tests.{leb-true, le-leb, not-true}
use lib.Dec.{leb, eqb}
use lib.ListN.{length, get_or, set, length-append}
use Rattle.write_bytes.specs.of_schema.Schema.{report, suite, case, main, skipped, run, property, extra, table_of}
use Rattle.write_bytes.specs.of_schema.Records.{is_set, bits_in, good_from, good}
use Rattle.write_bytes.proofs.of_schema.Tests.{and_left, and_right}
use Rattle.write_bytes.specs.of_tree_record.Record as words
use Rattle.write_bytes.specs.of_tree_record.Record.{kind_of, live, has_bit}
use Rattle.write_bytes.specs.of_tree_report.Fields.{is_report}
use Rattle.write_bytes.specs.of_tree_report.Layout.{good_record}
use Rattle.tree_merge.proofs.Records.{table-good}
use Rattle.tree_merge.specs.Answer.{is_below}
use Rattle.tree_merge.specs.Moved.{texts_of, moved_to}
use Rattle.merge_rows.specs.inside.Slots.{text_bits, text_at, size_at, start_at, front_texts, back_texts, front_moved, back_moved, row_texts, row_moved_of, sizes_of}
use Rattle.merge_rows.proofs.Slots.{Slot, slots_of, bitted, slot_texts, slot_moved, slot_sizes, rows-texts, rows-moved, rows-sizes}

-- ---- the seven slots of the code
abbrev if_slot : Bool → Slot → List Slot → List Slot
if_slot b s ss = cond b (s ∷ ss) ss

abbrev from10 : ℕ → List Slot
from10 m = if_slot (eqb (m / 1024 % 2) 1) (10, 28) []

abbrev from7 : ℕ → List Slot
from7 m = if_slot (eqb (m / 128 % 2) 1) (7, 22) (from10 m)

abbrev from6 : ℕ → List Slot
from6 m = if_slot (eqb (m / 64 % 2) 1) (6, 20) (from7 m)

abbrev from5 : ℕ → List Slot
from5 m = if_slot (eqb (m / 32 % 2) 1) (5, 18) (from6 m)

abbrev from2 : ℕ → List Slot
from2 m = if_slot (eqb (m / 4 % 2) 1) (2, 6) (from5 m)

abbrev from1 : ℕ → List Slot
from1 m = if_slot (eqb (m / 2 % 2) 1) (1, 4) (from2 m)

abbrev slots_in : ℕ → List Slot
slots_in m = if_slot (eqb (m % 2) 1) (0, 2) (from1 m)

module _ (texts r : List ℕ) (k o : ℕ) (same : has_bit k r ≡ is_set k r) where
  slot-text : (b : Bool) (ss : List Slot) → slot_texts texts r (if_slot b (k, o) ss) ≡ text_at b k o texts r ++ slot_texts texts r ss
  unfolding text_at
  slot-text true ss = ap (λ (t : Bool). cond t (words.text_at texts r o) [] ++ slot_texts texts r ss) (sym same)
  slot-text false ss = refl

  slot-start : (b : Bool) (ss : List Slot) (fill : ℕ) (w : List ℕ)
      → slot_moved texts r (if_slot b (k, o) ss) fill w ≡ slot_moved texts r ss (fill + length (text_at b k o texts r)) (start_at b k o r fill w)
  unfolding text_at start_at
  slot-start true ss fill w = ap (λ (t : Bool). slot_moved texts r ss (fill + length (cond t (words.text_at texts r o) [])) (cond t (set w o fill) w)) (sym same)
  slot-start false ss fill w = ap (λ (n : ℕ). slot_moved texts r ss n w) (sym (add-zero fill))

  slot-size : (b : Bool) (ss : List Slot) → slot_sizes r (if_slot b (k, o) ss) ≡ size_at b k o r + slot_sizes r ss
  unfolding size_at
  slot-size true ss = ap (λ (t : Bool). cond t (get_or r (o + 1) 0) 0 + slot_sizes r ss) (sym same)
  slot-size false ss = sym (zero-add (slot_sizes r ss))

seven : (a b c d e f g : List ℕ) → a ++ (b ++ (c ++ (d ++ (e ++ (f ++ (g ++ [])))))) ≡ (a ++ (b ++ c)) ++ (d ++ (e ++ (f ++ g)))
seven a b c d e f g =
    let x = d ++ (e ++ (f ++ g)) in
    ap (λ (l : List ℕ). a ++ (b ++ (c ++ (d ++ (e ++ (f ++ l)))))) (append-nil g)
    ∙ ap (λ (l : List ℕ). a ++ l) (sym (append_assoc b c x)) ∙ sym (append_assoc a (b ++ c) x)

module _ (m : ℕ) (texts r : List ℕ) where
  abbrev t0 : List ℕ
  t0 = text_at (eqb (m % 2) 1) 0 2 texts r

  abbrev t1 : List ℕ
  t1 = text_at (eqb (m / 2 % 2) 1) 1 4 texts r

  abbrev t2 : List ℕ
  t2 = text_at (eqb (m / 4 % 2) 1) 2 6 texts r

  abbrev t5 : List ℕ
  t5 = text_at (eqb (m / 32 % 2) 1) 5 18 texts r

  abbrev t6 : List ℕ
  t6 = text_at (eqb (m / 64 % 2) 1) 6 20 texts r

  abbrev t7 : List ℕ
  t7 = text_at (eqb (m / 128 % 2) 1) 7 22 texts r

  abbrev t10 : List ℕ
  t10 = text_at (eqb (m / 1024 % 2) 1) 10 28 texts r

  seven-texts : slot_texts texts r (slots_in m) ≡ front_texts m texts r ++ back_texts m texts r
  unfolding front_texts back_texts
  seven-texts =
      slot-text texts r 0 2 refl (eqb (m % 2) 1) (from1 m)
      ∙ ap (λ (l : List ℕ). t0 ++ l) (slot-text texts r 1 4 refl (eqb (m / 2 % 2) 1) (from2 m)
      ∙ ap (λ (l : List ℕ). t1 ++ l) (slot-text texts r 2 6 refl (eqb (m / 4 % 2) 1) (from5 m)
      ∙ ap (λ (l : List ℕ). t2 ++ l) (slot-text texts r 5 18 refl (eqb (m / 32 % 2) 1) (from6 m)
      ∙ ap (λ (l : List ℕ). t5 ++ l) (slot-text texts r 6 20 refl (eqb (m / 64 % 2) 1) (from7 m)
      ∙ ap (λ (l : List ℕ). t6 ++ l) (slot-text texts r 7 22 refl (eqb (m / 128 % 2) 1) (from10 m)
      ∙ ap (λ (l : List ℕ). t7 ++ l) (slot-text texts r 10 28 refl (eqb (m / 1024 % 2) 1) []))))))
      ∙ seven t0 t1 t2 t5 t6 t7 t10

  seven-moved : (fill : ℕ) (w : List ℕ) → slot_moved texts r (slots_in m) fill w ≡ back_moved m texts (fill + length (front_texts m texts r)) r (front_moved m texts fill r w)
  unfolding front_texts front_moved back_moved
  seven-moved fill w =
      let f1 = fill + length t0 in
      let f2 = f1 + length t1 in
      let f5 = f2 + length t2 in
      let f6 = f5 + length t5 in
      let f7 = f6 + length t6 in
      let f10 = f7 + length t7 in
      let w1 = start_at (eqb (m % 2) 1) 0 2 r fill w in
      let w2 = start_at (eqb (m / 2 % 2) 1) 1 4 r f1 w1 in
      let w5 = start_at (eqb (m / 4 % 2) 1) 2 6 r f2 w2 in
      let w6 = start_at (eqb (m / 32 % 2) 1) 5 18 r f5 w5 in
      let w7 = start_at (eqb (m / 64 % 2) 1) 6 20 r f6 w6 in
      let w10 = start_at (eqb (m / 128 % 2) 1) 7 22 r f7 w7 in
      let z : f5 ≡ fill + length (t0 ++ (t1 ++ t2)) = (let a = length-append t0 (t1 ++ t2) in let b = length-append t1 t2 in omega arith) in
      slot-start texts r 0 2 refl (eqb (m % 2) 1) (from1 m) fill w
      ∙ slot-start texts r 1 4 refl (eqb (m / 2 % 2) 1) (from2 m) f1 w1
      ∙ slot-start texts r 2 6 refl (eqb (m / 4 % 2) 1) (from5 m) f2 w2
      ∙ slot-start texts r 5 18 refl (eqb (m / 32 % 2) 1) (from6 m) f5 w5
      ∙ slot-start texts r 6 20 refl (eqb (m / 64 % 2) 1) (from7 m) f6 w6
      ∙ slot-start texts r 7 22 refl (eqb (m / 128 % 2) 1) (from10 m) f7 w7
      ∙ slot-start texts r 10 28 refl (eqb (m / 1024 % 2) 1) [] f10 w10
      ∙ ap
      (λ (f : ℕ). start_at (eqb (m / 1024 % 2) 1) 10 28 r (f + length t5 + length t6 + length t7)
      (start_at (eqb (m / 128 % 2) 1) 7 22 r (f + length t5 + length t6)
      (start_at (eqb (m / 64 % 2) 1) 6 20 r (f + length t5) (start_at (eqb (m / 32 % 2) 1) 5 18 r f w5)))) z

  seven_sizes : slot_sizes r (slots_in m)
      ≡ size_at (eqb (m % 2) 1) 0 2 r + size_at (eqb (m / 2 % 2) 1) 1 4 r + size_at (eqb (m / 4 % 2) 1) 2 6 r
      + size_at (eqb (m / 32 % 2) 1) 5 18 r + size_at (eqb (m / 64 % 2) 1) 6 20 r + size_at (eqb (m / 128 % 2) 1) 7 22 r
      + size_at (eqb (m / 1024 % 2) 1) 10 28 r
  seven_sizes =
      let a = slot-size texts r 0 2 refl (eqb (m % 2) 1) (from1 m) in
      let b = slot-size texts r 1 4 refl (eqb (m / 2 % 2) 1) (from2 m) in
      let c = slot-size texts r 2 6 refl (eqb (m / 4 % 2) 1) (from5 m) in
      let d = slot-size texts r 5 18 refl (eqb (m / 32 % 2) 1) (from6 m) in
      let e = slot-size texts r 6 20 refl (eqb (m / 64 % 2) 1) (from7 m) in
      let f = slot-size texts r 7 22 refl (eqb (m / 128 % 2) 1) (from10 m) in
      let g = slot-size texts r 10 28 refl (eqb (m / 1024 % 2) 1) [] in
      let x0 = size_at (eqb (m % 2) 1) 0 2 r in
      let x1 = size_at (eqb (m / 2 % 2) 1) 1 4 r in
      let x2 = size_at (eqb (m / 4 % 2) 1) 2 6 r in
      let x5 = size_at (eqb (m / 32 % 2) 1) 5 18 r in
      let x6 = size_at (eqb (m / 64 % 2) 1) 6 20 r in
      let x7 = size_at (eqb (m / 128 % 2) 1) 7 22 r in
      let x10 = size_at (eqb (m / 1024 % 2) 1) 10 28 r in
      let z : x0 + (x1 + (x2 + (x5 + (x6 + (x7 + (x10 + 0)))))) ≡ x0 + x1 + x2 + x5 + x6 + x7 + x10 = omega arith in
      a
      ∙ ap (λ (n : ℕ). x0 + n) (b ∙ ap (λ (n : ℕ). x1 + n)
      (c ∙ ap (λ (n : ℕ). x2 + n) (d ∙ ap (λ (n : ℕ). x5 + n) (e ∙ ap (λ (n : ℕ). x6 + n) (f ∙ ap (λ (n : ℕ). x7 + n) g)))))
      ∙ z

-- ---- the tables
kind-slots : (k : ℕ) → eqb k 1 ≡ false → slots_of (table_of k) ≡ slots_in (text_bits k)
unfolding text_bits
kind-slots k e = rw e (go (eqb k 2) (eqb k 3) (leb k 5) (leb k 7) (leb k 8) (leb k 12) (λ p. le-leb k 8 (let l = leb-true k 7 p in omega arith)))
  where
    go : (b c d f g h : Bool) → (f ≡ true → g ≡ true)
        → slots_of (cond b suite (cond c case (cond d property (cond f main (cond g skipped (cond h run extra)))))) ≡ slots_in (cond b 1031 (cond c 39 (cond d 3 (cond g 97 (cond h 231 3)))))
    go true c d f g h p = refl
    go false true d f g h p = refl
    go false false true f g h p = refl
    go false false false true true h p = refl
    go false false false true false h p = absurd (false≢true (p refl))
    go false false false false true h p = refl
    go false false false false false true p = refl
    go false false false false false false p = refl

kind-bits : (k : ℕ) → bitted (table_of k) ≡ true
kind-bits k = go (eqb k 1) (eqb k 2) (eqb k 3) (leb k 5) (leb k 7) (leb k 8) (leb k 12)
  where
    go : (a b c d f g h : Bool) → bitted (cond a report (cond b suite (cond c case (cond d property (cond f main (cond g skipped (cond h run extra))))))) ≡ true
    go true b c d f g h = refl
    go false true c d f g h = refl
    go false false true d f g h = refl
    go false false false true f g h = refl
    go false false false false true g h = refl
    go false false false false false true h = refl
    go false false false false false false true = refl
    go false false false false false false false = refl

-- ---- a good live record behind the report
module _ (g texts r : List ℕ) (h : good_record g r ≡ true) (below : is_below r ≡ true) where
  alive : live r ≡ true
  alive = and_left (live r) (not (is_report r)) below

  other : eqb (kind_of r) 1 ≡ false
  other = not-true (is_report r) (and_right (live r) (not (is_report r)) below)

  good-table : good (table_of (kind_of r)) g r ≡ true
  good-table =
      let t : Bool = leb (kind_of r) 14 && good (table_of (kind_of r)) g r in
      let e : cond (live r) t (leb 17 (kind_of r) && leb (kind_of r) 30) ≡ true = sym (table-good g r) ∙ h in
      and_right (leb (kind_of r) 14) (good (table_of (kind_of r)) g r) (ap (λ (b : Bool). cond b t (leb 17 (kind_of r) && leb (kind_of r) 30)) (sym alive) ∙ e)

  rows : good_from g r 2 (table_of (kind_of r)) ≡ true
  unfolding good
  rows = and_right (eqb (get_or r 1 0) (bits_in (table_of (kind_of r)) r)) (good_from g r 2 (table_of (kind_of r))) good-table

  pub row-texts : row_texts texts r ≡ texts_of texts r
  unfolding row_texts texts_of
  row-texts =
      sym (rows-texts g texts r (table_of (kind_of r)) 2 (kind-bits (kind_of r)) rows
      ∙ ap (slot_texts texts r) (kind-slots (kind_of r) other) ∙ seven-texts (text_bits (kind_of r)) texts r)

  pub row_moved : (fill : ℕ) → row_moved_of texts fill r ≡ moved_to texts fill r
  unfolding row_moved_of moved_to
  row_moved fill =
      sym (rows-moved g texts r (table_of (kind_of r)) 2 (kind-bits (kind_of r)) rows fill r
      ∙ ap (λ (ss : List Slot). slot_moved texts r ss fill r) (kind-slots (kind_of r) other) ∙ seven-moved (text_bits (kind_of r)) texts r fill r)

  pub row-sizes : length g ≤ length texts → sizes_of r ≡ length (texts_of texts r)
  unfolding sizes_of texts_of
  row-sizes l =
      sym (rows-sizes g texts r l (table_of (kind_of r)) 2 (kind-bits (kind_of r)) rows
      ∙ ap (slot_sizes r) (kind-slots (kind_of r) other) ∙ seven_sizes (text_bits (kind_of r)) texts r)
