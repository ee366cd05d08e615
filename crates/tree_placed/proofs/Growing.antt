-- Texts that grow by whole characters keep what stands in them, and hold the new text. Assumes nothing.
use Prim.Native.Nat.{ℕ, ◌+◌, ◌≤◌}
use mathlib.Core.Bool.{Bool, true, false, not, ◌&&◌, ◌||◌}
use mathlib.Core.List.{List, ◌++◌}
use mathlib.Core.Path.{◌≡◌, refl, sym, ap, ◌∙◌}
use native.Mathlib.Omega.{arith}
use borrow.Author.Tests.{eqb-true, eq-eqb, ne_eqb, leb-true, le-leb, ltb-true, lt-ltb}
use lib.Dec.{eqb, leb, ltb}
use lib.ListN.{length, get_or, take, drop, length-append, get_or-append}
use lib.Seq.{take-length, drop-append_seam}
use Rattle.tree_put.specs.of_utf8.Utf8.{utf8, within}
use Rattle.tree_put.specs.of_utf8.Characters.{boundary}
use Rattle.tree_put.proofs.of_utf8.Boundaries.{boundary-append, boundary-in}
use Rattle.tree_report.proofs.of_schema.RecordLaws.{text-read}
use Rattle.tree_report.specs.inside.Cells.{Cell, absent, written, valued, constant}
use Rattle.tree_report.specs.Report.{Text}
use Rattle.tree_report.proofs.EncodeLists.{both, and_left, and_right, Each, each_on}
use Rattle.tree_placed.specs.inside.Placed.{Placed, good_at, StandsAt, InTexts}

-- ---- the ends of a text
boundary-more : (s v : List ℕ) (i : ℕ) → utf8 v ≡ true → boundary s i ≡ true → boundary (s ++ v) i ≡ true
boundary-more s v i u e = go (eqb i (length s)) refl
  where
    go : (t : Bool) → eqb i (length s) ≡ t → boundary (s ++ v) i ≡ true
    go true q = ap (boundary (s ++ v)) (eqb-true i (length s) q) ∙ boundary-append s v u
    go false q =
        let n : length (s ++ v) ≡ length s + length v = length-append s v in
        let h = boundary-in s i e in
        let f : (ltb i (length s) && not (within 0x80 0xBF (get_or s i 0))) ≡ true = sym (ap (λ (t : Bool). t || (ltb i (length s) && not (within 0x80 0xBF (get_or s i 0)))) q) ∙ e in
        let l = ltb-true i (length s) (and_left (ltb i (length s)) (not (within 0x80 0xBF (get_or s i 0))) f) in
        let w = and_right (ltb i (length s)) (not (within 0x80 0xBF (get_or s i 0))) f in
        rw (ne_eqb i (length (s ++ v)) (λ z. omega arith), lt-ltb i (length (s ++ v)) (omega arith), get_or-append s v 0 i (omega arith)) w

-- a good place ends within the texts
pub good-ends : (s : List ℕ) (x n : ℕ) → good_at s x n ≡ true → x + n ≤ length s
good-ends s x n e = leb-true (x + n) (length s) (and_left (leb (x + n) (length s)) (boundary s x && boundary s (x + n)) e)

pub good_more : (s v : List ℕ) (x n : ℕ) → utf8 v ≡ true → good_at s x n ≡ true → good_at (s ++ v) x n ≡ true
good_more s v x n u e =
    let q = and_right (leb (x + n) (length s)) (boundary s x && boundary s (x + n)) e in
    let l : length (s ++ v) ≡ length s + length v = length-append s v in
    let h = good-ends s x n e in
    both (le-leb (x + n) (length (s ++ v)) (omega arith))
    (both (boundary-more s v x u (and_left (boundary s x) (boundary s (x + n)) q)) (boundary-more s v (x + n) u (and_right (boundary s x) (boundary s (x + n)) q)))

pub good_new : (s v : List ℕ) → utf8 v ≡ true → good_at (s ++ v) (length s) (length v) ≡ true
good_new s v u =
    let l : length (s ++ v) ≡ length s + length v = length-append s v in
    both (le-leb (length s + length v) (length (s ++ v)) (omega arith))
    (both (boundary-append s v u) (rw (eq-eqb (length s + length v) (length (s ++ v)) (sym l)) refl))

-- ---- a text
-- it is read back, whatever stands behind the texts
pub stands_read : (texts : List ℕ) (x : ℕ) (t : Text) → StandsAt texts x (written t) → (z : List ℕ) → take (length t) (drop x (texts ++ z)) ≡ t
stands_read texts x t h z = text-read texts x t h z

-- a text that stands in the texts stands there when UTF-8 is put behind them
pub stands-more : (texts v : List ℕ) → utf8 v ≡ true → (x : ℕ) (c : Cell) → StandsAt texts x c → StandsAt (texts ++ v) x c
stands-more texts v u x absent h = tt
stands-more texts v u x (written t) h = (stands_read texts x t h v, good_more texts v x (length t) u h.1)
stands-more texts v u x (valued a b) h = tt
stands-more texts v u x (constant a b) h = tt

-- the text just stored, also an empty one
pub text-new : (texts v : List ℕ) → utf8 v ≡ true → StandsAt (texts ++ v) (length texts) (written v)
text-new texts v u = (ap (take (length v)) (drop-append_seam texts v) ∙ take-length v, good_new texts v u)

-- ---- all texts of a record, and of records
pub in_texts-more : (texts v : List ℕ) → utf8 v ≡ true → {p : Placed} → InTexts texts p → InTexts (texts ++ v) p
in_texts-more texts v u {p} h = record {
  first = stands-more texts v u p.places.first p.row.first h.first;
  out = stands-more texts v u p.places.out p.row.out h.out;
  err = stands-more texts v u p.places.err p.row.err h.err;
  second = stands-more texts v u p.places.second p.row.second h.second;
  third = stands-more texts v u p.places.third p.row.third h.third;
  fourth = stands-more texts v u p.places.fourth p.row.fourth h.fourth;
  seventh = stands-more texts v u p.places.seventh p.row.seventh h.seventh;
}

-- the texts of all records stand where they stood when UTF-8 is put behind the texts
pub each-in_texts-more : (texts v : List ℕ) → utf8 v ≡ true → {ps : List Placed} → Each (InTexts texts) ps → Each (InTexts (texts ++ v)) ps
each-in_texts-more texts v u h = each_on (λ p i. in_texts-more texts v u i) h
