-- A record that was copied is a layout's, and shows what it showed. Assumes nothing.
use Prim.Native.Nat.{ℕ, ◌+◌, ◌-◌, ◌≤◌, ◌<◌}
use mathlib.Core.Path.{◌≡◌, refl, sym, ap, ap₂, ◌∙◌}
use mathlib.Core.Bool.{Bool, true, false, ◌&&◌, true≢false}
use mathlib.Core.List.{List, [], ◌∷◌, ◌++◌}
use native.Mathlib.Omega.{arith}
use borrow.Author.Tests.{leb-true}
use lib.Dec.{leb, eqb, lit≤}
use lib.ListN.{length, get_or}
use Rattle.tree_merge.specs.of_schema.Schema.{Row, behind, bit_of, after, fine_bit, fine_from, fine}
use Rattle.tree_merge.specs.of_schema.Records.{zero_at, good_slot, good_from, bits_in, good}
use Rattle.tree_merge.specs.of_schema.Texts.{fields_of, stored_in}
use Rattle.tree_merge.proofs.of_tree_report.EncodeLists.{both, and_left, and_right}
use Rattle.tree_merge.specs.Moved.{has_text, text_in_of, moved_by}
use Rattle.merge_claims.specs.inside.Stands.{Clean, Stands}
use Rattle.merge_claims.proofs.Words.{zero_same, bits-same, put_other, put_same, put-length}
use Rattle.merge_claims.proofs.Texts.{stands-first, stands-rest}
use Rattle.merge_claims.proofs.Rows.{text-width, Slot, kept_slot, moved-slot, clean-fields, put, moved_before}

-- r with the texts t and z behind them; its texts stand in u, with y behind them
module _ (t z u y r : List ℕ) (c : Clean t) where
  abbrev texts : List ℕ
  texts = t ++ z

  -- the words s are r's from word n on, and its bits
  record Begun (n : ℕ) (s : List ℕ) : Type 0 where
    long : length s ≡ 32
    low : 2 ≤ n
    bits : get_or s 1 0 ≡ get_or r 1 0
    words : (i : ℕ) → n ≤ i → get_or s i 0 ≡ get_or r i 0

  abbrev Done : ℕ → List Row → List ℕ → Type 0
  Done n xs w = (good_from u w n xs ≡ true) × (fields_of xs (u ++ y) w ≡ fields_of xs texts r)

  -- one row, and those behind it
  module _ (n b : ℕ) (x : Row) (xs : List Row) (fill : ℕ) (s : List ℕ) (fineness : fine_from n b (x ∷ xs) ≡ true) (h : Begun n s)
      (g : good_from t r n (x ∷ xs) ≡ true) (stands : Stands u fill (stored_in (x ∷ xs) (fields_of (x ∷ xs) texts r))) where
    abbrev o : ℕ
    o = x.word

    abbrev next : ℕ
    next = after b (bit_of x.presence)

    abbrev s' : List ℕ
    s' = put texts r x fill s

    abbrev fill' : ℕ
    fill' = fill + length (text_in_of x texts r)

    abbrev w : List ℕ
    w = moved_by xs texts fill' r s'

    abbrev fine_rest : Bool
    fine_rest = fine_from (behind x) next xs

    abbrev fine_bits : Bool
    fine_bits = fine_bit b (bit_of x.presence)

    up : n ≤ o
    up = leb-true n o (and_left (leb n o) (leb (behind x) 32 && (fine_bits && fine_rest)) fineness)

    fine-next : (leb (behind x) 32 && (fine_bits && fine_rest)) ≡ true
    fine-next = and_right (leb n o) (leb (behind x) 32 && (fine_bits && fine_rest)) fineness

    within : behind x ≤ 32
    within = leb-true (behind x) 32 (and_left (leb (behind x) 32) (fine_bits && fine_rest) fine-next)

    fine-rest : fine_from (behind x) next xs ≡ true
    fine-rest = and_right fine_bits fine_rest (and_right (leb (behind x) 32) (fine_bits && fine_rest) fine-next)

    -- a text has two words
    two : has_text x r ≡ true → behind x ≡ o + 2
    two e = ap (λ (k : ℕ). o + k) (text-width r x.presence x.form e)

    -- the words of w before those of the rows behind
    before : (i : ℕ) → i < behind x → (has_text x r ≡ true → i ≡ o → ⊥) → get_or w i 0 ≡ get_or s i 0
    before i l f = moved_before texts r xs fill' s' (behind x) next fine-rest i l ∙ put_other s o fill (has_text x r) i f

    bits-kept : get_or w 1 0 ≡ get_or r 1 0
    bits-kept = let a = up in let e = h.low in before 1 (omega arith) (λ q p. omega arith) ∙ h.bits

    begun : Begun (behind x) s'
    begun = record {
      long = put-length s o fill (has_text x r) ∙ h.long;
      low = let a = up in let e = h.low in omega arith;
      bits = let a = up in let e = h.low in put_other s o fill (has_text x r) 1 (λ q p. omega arith) ∙ h.bits;
      words = λ i l. put_other s o fill (has_text x r) i (λ q p. let k = two q in omega arith) ∙ h.words i (let a = up in omega arith);
    }

    abbrev slot_good : Bool
    slot_good = good_slot t r x.presence x.form o

    abbrev rest_good : Bool
    rest_good = good_from t r (behind x) xs

    good-here : slot_good ≡ true
    good-here = and_left slot_good rest_good (and_right (zero_at r n (o - n)) (slot_good && rest_good) g)

    good-rest : rest_good ≡ true
    good-rest = and_right slot_good rest_good (and_right (zero_at r n (o - n)) (slot_good && rest_good) g)

    gap : zero_at w n (o - n) ≡ true
    gap =
        let a = up in
        zero_same w r n (o - n) (λ i l m. before i (omega arith) (λ q p. omega arith) ∙ h.words i l)
        (and_left (zero_at r n (o - n)) (slot_good && rest_good) g)

    slot-moved : Slot t z u y r w bits-kept x.presence x.form o
    slot-moved = go (has_text x r) refl
      where
        go : (b : Bool) → has_text x r ≡ b → Slot t z u y r w bits-kept x.presence x.form o
        go false e =
            let a = up in
            kept_slot t z u y r w bits-kept x.form o x.presence e (λ i l m. before i m (λ q p. absurd (true≢false (sym q ∙ e))) ∙ h.words i (omega arith)) good-here
        go true e =
            let a = up in
            let k = two e in
            let m = within in
            let l = h.long in
            moved-slot t z u y r w bits-kept fill o c
            (moved_before texts r xs fill' s' (behind x) next fine-rest o (omega arith) ∙ put_same s o fill (has_text x r) e (omega arith))
            (before (o + 1) (omega arith) (λ q p. omega arith) ∙ h.words (o + 1) (omega arith))
            x.presence x.form e good-here
            (stands-first (text_in_of x texts r) (stored_in xs (fields_of xs texts r)) stands (clean-fields t z r c (behind x) xs good-rest))

    row_done : Done (behind x) xs w → Done n (x ∷ xs) w
    row_done d = (both gap (both slot-moved.0 d.0), λ i. (slot-moved.1 i, d.1 i))

  rows-done : (n b : ℕ) (xs : List Row) (fill : ℕ) (s : List ℕ) → fine_from n b xs ≡ true → Begun n s → good_from t r n xs ≡ true
      → Stands u fill (stored_in xs (fields_of xs texts r)) → Done n xs (moved_by xs texts fill r s)
  rows-done n b [] fill s f h g stands = (zero_same s r n (32 - n) (λ i l m. h.words i l) g, refl)
  rows-done n b (x ∷ xs) fill s f h g stands =
      row_done n b x xs fill s f h g stands
      (rows-done (behind x) (after b (bit_of x.presence)) xs (fill + length (text_in_of x texts r)) (put texts r x fill s)
      (fine-rest n b x xs fill s f h g stands) (begun n b x xs fill s f h g stands) (good-rest n b x xs fill s f h g stands)
      (stands-rest (text_in_of x texts r) (stored_in xs (fields_of xs texts r)) stands))

  -- ---- the record, by any table
  module _ (xs : List Row) (fineness : fine xs ≡ true) (fill : ℕ) (long : length r ≡ 32) (g : good xs t r ≡ true)
      (stands : Stands u fill (stored_in xs (fields_of xs texts r))) where
    abbrev moved : List ℕ
    moved = moved_by xs texts fill r r

    rows-good : good_from t r 2 xs ≡ true
    unfolding good
    rows-good = and_right (eqb (get_or r 1 0) (bits_in xs r)) (good_from t r 2 xs) g

    done : Done 2 xs moved
    done = rows-done 2 0 xs fill r fineness (record { long = long; low = lit≤ tt; bits = refl; words = λ i l. refl }) rows-good stands

    -- kind and presence bits stay
    pub moved_front : (i : ℕ) → i < 2 → get_or moved i 0 ≡ get_or r i 0
    moved_front = moved_before texts r xs fill r 2 0 fineness

    pub moved-good : good xs u moved ≡ true
    unfolding good
    moved-good =
        let e = moved_front 1 (lit≤ tt) in
        both (ap₂ eqb e (bits-same xs moved r e) ∙ and_left (eqb (get_or r 1 0) (bits_in xs r)) (good_from t r 2 xs) g) done.0

    pub moved-shown : fields_of xs (u ++ y) moved ≡ fields_of xs texts r
    moved-shown = done.1
