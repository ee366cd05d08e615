-- Along the records: each is copied behind those before it. Assumes nothing.
use Prim.Native.Nat.{ℕ, ◌+◌, ◌-◌, ◌*◌, ◌≤◌}
use mathlib.Core.Bool.{Bool, true, false, cond}
use mathlib.Core.List.{List, [], ◌∷◌, ◌++◌}
use mathlib.Core.Path.{◌≡◌, refl, sym, ap, ◌∙◌}
use native.Mathlib.Omega.{arith}
use borrow.Rule.Slice.PartMut.{put_mid}
use lib.ListN.{length, take, drop, set, length-append, length-set}
use lib.Seq.{drop-drop}
use Rattle.merge_rows.proofs.of_area.Parts.{length_part}
use Rattle.merge_rows.specs.of_area.Limits.{most_bytes}
use Rattle.merge_rows.proofs.of_list_sums.Records.{stands-room}
use Rattle.merge_rows.specs.of_schema.Stores.{splice}
use Rattle.merge_rows.specs.of_tree_merge.Answer.{is_below}
use Rattle.merge_rows.specs.inside.Slots.{start_at, has_text, front_moved, back_moved, row_texts, row_moved_of}
use Rattle.merge_rows.proofs.Splicing.{splice-none, splice-then, length-splice}
use Rattle.merge_records.specs.declared.Mark.{Mark}
use Rattle.merge_records.specs.inside.Copied.{below_in, texts_for, records_for, Room}
use Rattle.merge_records.proofs.Counting.{here, is_standing, below_more, below-pass, below-over}

-- ---- a record keeps its length
length-start : (b : Bool) (k o : ℕ) (r : List ℕ) (fill : ℕ) (s : List ℕ) → length (start_at b k o r fill s) ≡ length s
unfolding start_at
length-start b k o r fill s = go (has_text b k r)
  where
    go : (t : Bool) → length (cond t (set s o fill) s) ≡ length s
    go true = length-set s o fill
    go false = refl

length_front : (m : ℕ) (texts : List ℕ) (fill : ℕ) (r s : List ℕ) → length (front_moved m texts fill r s) ≡ length s
unfolding front_moved
length_front m texts fill r s = length-start _ 2 6 r _ _ ∙ length-start _ 1 4 r _ _ ∙ length-start _ 0 2 r fill s

length_back : (m : ℕ) (texts : List ℕ) (fill : ℕ) (r s : List ℕ) → length (back_moved m texts fill r s) ≡ length s
unfolding back_moved
length_back m texts fill r s = length-start _ 10 28 r _ _ ∙ length-start _ 7 22 r _ _ ∙ length-start _ 6 20 r _ _ ∙ length-start _ 5 18 r fill s

pub length_moved : (texts : List ℕ) (fill : ℕ) (r : List ℕ) → length (row_moved_of texts fill r) ≡ length r
unfolding row_moved_of
length_moved texts fill r = length_back _ texts _ r _ ∙ length_front _ texts fill r r

-- ---- one record more
texts-next : (texts r : List ℕ) (rs : List (List ℕ)) → texts_for texts (r ∷ rs) ≡ row_texts texts r ++ texts_for texts rs
unfolding texts_for
texts-next texts r rs = refl

texts-none : (texts : List ℕ) → texts_for texts [] ≡ []
unfolding texts_for
texts-none texts = refl

records-next : (texts : List ℕ) (fill : ℕ) (r : List ℕ) (rs : List (List ℕ)) → records_for texts fill (r ∷ rs) ≡ row_moved_of texts fill r ++ records_for texts (fill + length (row_texts texts r)) rs
unfolding records_for
records-next texts fill r rs = refl

records-none : (texts : List ℕ) (fill : ℕ) → records_for texts fill [] ≡ []
unfolding records_for
records-none texts fill = refl

-- the whole, with a record's part back
pub mid_back : (l ys : List ℕ) (a : ℕ) → length ys ≡ 32 → put_mid a (a + 32 - a) l ys ≡ splice a ys l
mid_back l ys a e =
    let z : a + 32 - a ≡ 32 = omega arith in
    ap (λ (n : ℕ). take a l ++ (ys ++ drop n (drop a l))) (z ∙ sym e) ∙ ap (λ (x : List ℕ). take a l ++ (ys ++ x)) (drop-drop (length ys) a l)

-- the records before `at` are copied: what is still to come behind the marks makes the whole
pub record Copying (texts words : List ℕ) (from : Mark) (out₀ bytes₀ out bytes : List ℕ) (next fill at : ℕ) : Type 0 where
  pub fits : at ≤ length words
  pub most : length bytes ≤ most_bytes
  pub same_words : length out ≡ length out₀
  pub same_bytes : length bytes ≡ length bytes₀
  pub room : next + length (below_in (drop at words)) * 32 ≤ length out
  pub spare : fill + length (texts_for texts (below_in (drop at words))) ≤ length bytes
  pub next_end : next + length (below_in (drop at words)) * 32 ≡ from.word + length (below_in words) * 32
  pub fill_end_of : fill + length (texts_for texts (below_in (drop at words))) ≡ from.fill + length (texts_for texts (below_in words))
  pub out_end : splice next (records_for texts fill (below_in (drop at words))) out ≡ splice from.word (records_for texts from.fill (below_in words)) out₀
  pub bytes_end : splice fill (texts_for texts (below_in (drop at words))) bytes ≡ splice from.fill (texts_for texts (below_in words)) bytes₀

pub copying-start : {texts words : List ℕ} {from : Mark} {out bytes : List ℕ} → Room texts (below_in words) from out bytes
    → Copying texts words from out bytes out bytes from.word from.fill 0
copying-start r = record {
  fits = omega arith;
  most = r.most;
  same_words = refl;
  same_bytes = refl;
  room = r.words;
  spare = r.fits;
  next_end = refl;
  fill_end_of = refl;
  out_end = refl;
  bytes_end = refl;
}

module _ {texts words : List ℕ} {from : Mark} {out₀ bytes₀ out bytes : List ℕ} {next fill at : ℕ} (c : Copying texts words from out₀ bytes₀ out bytes next fill at) where
  module _ (s : is_standing words at ≡ true) (b : is_below (here words at) ≡ true) where
    counted : length (below_in (drop at words)) ≡ length (below_in (drop (at + 32) words)) + 1
    counted = ap length (below_more words at s b) ∙ (omega arith)

    added : texts_for texts (below_in (drop at words)) ≡ row_texts texts (here words at) ++ texts_for texts (below_in (drop (at + 32) words))
    added = ap (texts_for texts) (below_more words at s b) ∙ texts-next texts (here words at) (below_in (drop (at + 32) words))

    sized : length (texts_for texts (below_in (drop at words))) ≡ length (row_texts texts (here words at)) + length (texts_for texts (below_in (drop (at + 32) words)))
    sized = ap length added ∙ length-append (row_texts texts (here words at)) (texts_for texts (below_in (drop (at + 32) words)))

    pub word_room : next + 32 ≤ length out
    word_room = let k = counted in let r = c.room in omega arith

    pub text-room : fill + length (row_texts texts (here words at)) ≤ length bytes
    text-room = let k = sized in let r = c.spare in omega arith

    whole : length (here words at) ≡ 32
    whole = let z : at + 32 - at ≡ 32 = omega arith in length_part words at (at + 32) (stands-room words at s) ∙ z

    pub same_length : length (take (next + 32 - next) (drop next out)) ≡ length (here words at)
    same_length = let z : next + 32 - next ≡ 32 = omega arith in length_part out next (next + 32) word_room ∙ z ∙ sym whole

    pub copying-more : {ys bytes' : List ℕ} {fill' : ℕ} → fill' ≡ fill + length (row_texts texts (here words at)) → ys ≡ row_moved_of texts fill (here words at)
        → bytes' ≡ splice fill (row_texts texts (here words at)) bytes
        → Copying texts words from out₀ bytes₀ (put_mid next (next + 32 - next) out ys) bytes' (next + 32) fill' (at + 32)
    copying-more {ys} {bytes'} {fill'} f y t =
        let row = row_moved_of texts fill (here words at) in
        let own = row_texts texts (here words at) in
        let n : length row ≡ 32 = length_moved texts fill (here words at) ∙ whole in
        let out' : put_mid next (next + 32 - next) out ys ≡ splice next row out = ap (put_mid next (next + 32 - next) out) y ∙ mid_back out row next n in
        let fits_row : next + length row ≤ length out = (let w = word_room in omega arith) in
        let lo : length (put_mid next (next + 32 - next) out ys) ≡ length out = ap length out' ∙ length-splice next out row fits_row in
        let lb : length bytes' ≡ length bytes = ap length t ∙ length-splice fill bytes own text-room in
        let k = counted in
        let z = sized in
        let r = c.room in
        let p = c.spare in
        let nx = c.next_end in
        let fx = c.fill_end_of in
        let mo = c.most in
        let sw = c.same_words in
        let sb = c.same_bytes in
        record {
          fits = stands-room words at s;
          most = omega arith;
          same_words = lo ∙ sw;
          same_bytes = lb ∙ sb;
          room = omega arith;
          spare = omega arith;
          next_end = omega arith;
          fill_end_of = omega arith;
          out_end =
              ap (λ (l : List ℕ). splice (next + 32) (records_for texts fill' (below_in (drop (at + 32) words))) l) out'
              ∙ ap (λ (m : ℕ). splice (next + 32) (records_for texts m (below_in (drop (at + 32) words))) (splice next row out)) f
              ∙ ap (λ (m : ℕ). splice (next + m) (records_for texts (fill + length own) (below_in (drop (at + 32) words))) (splice next row out)) (sym n)
              ∙ splice-then next out row fits_row (records_for texts (fill + length own) (below_in (drop (at + 32) words)))
              ∙ ap (λ (l : List ℕ). splice next l out) (sym (records-next texts fill (here words at) (below_in (drop (at + 32) words))))
              ∙ ap (λ (rs : List (List ℕ)). splice next (records_for texts fill rs) out) (sym (below_more words at s b))
              ∙ c.out_end;
          bytes_end =
              ap (λ (l : List ℕ). splice fill' (texts_for texts (below_in (drop (at + 32) words))) l) t
              ∙ ap (λ (m : ℕ). splice m (texts_for texts (below_in (drop (at + 32) words))) (splice fill own bytes)) f
              ∙ splice-then fill bytes own text-room (texts_for texts (below_in (drop (at + 32) words)))
              ∙ ap (λ (l : List ℕ). splice fill l bytes) (sym added)
              ∙ c.bytes_end;
        }

  pub copying-pass : is_standing words at ≡ true → is_below (here words at) ≡ false → Copying texts words from out₀ bytes₀ out bytes next fill (at + 32)
  copying-pass s b =
      let m = below-pass words at s b in
      record {
        fits = stands-room words at s;
        most = c.most;
        same_words = c.same_words;
        same_bytes = c.same_bytes;
        room = rw m at c.room;
        spare = rw m at c.spare;
        next_end = rw m at c.next_end;
        fill_end_of = rw m at c.fill_end_of;
        out_end = rw m at c.out_end;
        bytes_end = rw m at c.bytes_end;
      }

  module _ (s : is_standing words at ≡ false) where
    over : below_in (drop at words) ≡ []
    over = below-over words at s

    pub next-done : next ≡ from.word + length (below_in words) * 32
    next-done = let k : length (below_in (drop at words)) ≡ 0 = ap length over in let n = c.next_end in omega arith

    pub fill_done : fill ≡ from.fill + length (texts_for texts (below_in words))
    fill_done =
        let k : length (texts_for texts (below_in (drop at words))) ≡ 0 = ap (λ (rs : List (List ℕ)). length (texts_for texts rs)) over ∙ ap length (texts-none texts) in
        let n = c.fill_end_of in
        omega arith

    pub out-done : out ≡ splice from.word (records_for texts from.fill (below_in words)) out₀
    out-done =
        sym (splice-none next out) ∙ ap (λ (l : List ℕ). splice next l out) (sym (ap (records_for texts fill) over ∙ records-none texts fill)) ∙ c.out_end

    pub bytes-done : bytes ≡ splice from.fill (texts_for texts (below_in words)) bytes₀
    bytes-done = sym (splice-none fill bytes) ∙ ap (λ (l : List ℕ). splice fill l bytes) (sym (ap (texts_for texts) over ∙ texts-none texts)) ∙ c.bytes_end
