-- A store into a record that others stand behind touches its words alone. Assumes nothing.
use Prim.Native.Nat.{ℕ, ◌+◌, ◌-◌, ◌/◌, ◌%◌, ◌^◌, ◌≤◌, ◌<◌}
use mathlib.Core.Bool.{Bool, true, false}
use mathlib.Core.List.{List, [], ◌∷◌, ◌++◌}
use mathlib.Core.Path.{◌≡◌, refl, sym, ap, ◌∙◌}
use native.Mathlib.Omega.{arith}
use lib.Dec.{eqb}
use lib.ListN.{length, get_or, set, length-set, get_or-append}
use lib.Seq.{set-append_left}
use Rattle.tree_put.specs.of_timestamp.declared.Moment.{Moment}
use Rattle.tree_put.specs.of_uuids.declared.Words.{Words}
use Rattle.tree_put.specs.of_tree_record.Record.{mask_of, has_bit, marked, unmarked}
use Rattle.tree_put.proofs.of_tree_record.Marks.{marked-already, marked-anew}
use Rattle.tree_put.specs.Put.{put_pair, put_text, put_count_of, put_words, uuid_words, put_uuid, moment_words, put_moment, put_time}
use Rattle.tree_put.proofs.Puts.{pair-length, words-length}
use Rattle.tree_placed.proofs.Flags.{unmarked-already, unmarked-anew}

-- ---- at any place of a record
pub pair-append : (o a b : ℕ) (r z : List ℕ) → o + 1 < length r → put_pair o a b (r ++ z) ≡ put_pair o a b r ++ z
pair-append o a b r z h =
    let n = length-set r o a in
    ap (λ (l : List ℕ). set l (o + 1) b) (set-append_left r z o a (omega arith)) ∙ set-append_left (set r o a) z (o + 1) b (omega arith)

pub words_append : (o : ℕ) (vs r z : List ℕ) → o + length vs ≤ length r → put_words o vs (r ++ z) ≡ put_words o vs r ++ z
words_append o [] r z h = refl
words_append o (v ∷ vs) r z h =
    let n = length-set r o v in
    ap (put_words (o + 1) vs) (set-append_left r z o v (omega arith)) ∙ words_append (o + 1) vs (set r o v) z (omega arith)

module _ (k : ℕ) (r z : List ℕ) (h : 1 < length r) where
  word : get_or (r ++ z) 1 0 ≡ get_or r 1 0
  word = get_or-append r z 0 1 h

  bit : has_bit k (r ++ z) ≡ has_bit k r
  bit = ap (λ (n : ℕ). eqb (n / mask_of k % 2) 1) word

  pub marked_append : marked k (r ++ z) ≡ marked k r ++ z
  marked_append = go (has_bit k r) refl
    where
      go : (t : Bool) → has_bit k r ≡ t → marked k (r ++ z) ≡ marked k r ++ z
      go true e = marked-already k (r ++ z) (bit ∙ e) ∙ sym (ap (λ (l : List ℕ). l ++ z) (marked-already k r e))
      go false e =
          marked-anew k (r ++ z) (bit ∙ e) ∙ ap (λ (n : ℕ). set (r ++ z) 1 (n + mask_of k)) word
          ∙ set-append_left r z 1 (get_or r 1 0 + mask_of k) h ∙ sym (ap (λ (l : List ℕ). l ++ z) (marked-anew k r e))

  pub unmarked-append : unmarked k (r ++ z) ≡ unmarked k r ++ z
  unmarked-append = go (has_bit k r) refl
    where
      go : (t : Bool) → has_bit k r ≡ t → unmarked k (r ++ z) ≡ unmarked k r ++ z
      go false e = unmarked-already k (r ++ z) (bit ∙ e) ∙ sym (ap (λ (l : List ℕ). l ++ z) (unmarked-already k r e))
      go true e =
          unmarked-anew k (r ++ z) (bit ∙ e) ∙ ap (λ (n : ℕ). set (r ++ z) 1 (n - mask_of k)) word
          ∙ set-append_left r z 1 (get_or r 1 0 - mask_of k) h ∙ sym (ap (λ (l : List ℕ). l ++ z) (unmarked-anew k r e))

-- ---- at the front of records
module _ (r z : List ℕ) (h : length r ≡ 32) where
  -- two words put into the first record leave those behind it
  pub pair-fronts : (o a b : ℕ) → o ≤ 30 → put_pair o a b (r ++ z) ≡ put_pair o a b r ++ z
  pair-fronts o a b l = pair-append o a b r z (omega arith)

  -- a text's place and bit put into the first record leave those behind it
  pub text-fronts : (o k x n : ℕ) → o ≤ 30 → put_text o k x n (r ++ z) ≡ put_text o k x n r ++ z
  text-fronts o k x n l =
      let m = pair-length o x n r in
      ap (marked k) (pair-fronts o x n l) ∙ marked_append k (put_pair o x n r) z (omega arith)

  -- a count put into the first record leaves those behind it
  pub count-fronts : (o n : ℕ) → o ≤ 30 → put_count_of o n (r ++ z) ≡ put_count_of o n r ++ z
  count-fronts o n l = pair-fronts o (n % 2 ^ 32) (n / 2 ^ 32) l

  -- a number and its bit put into the first record leave those behind it
  pub number-fronts : (k o n : ℕ) → o ≤ 30 → marked k (put_count_of o n (r ++ z)) ≡ marked k (put_count_of o n r) ++ z
  number-fronts k o n l = text-fronts o k (n % 2 ^ 32) (n / 2 ^ 32) l

  -- a timestamp put into the first record leaves those behind it
  pub moment-fronts : (m : Moment) → put_moment m (r ++ z) ≡ put_moment m r ++ z
  moment-fronts m =
      let n = words-length 8 (moment_words m) r in
      ap (marked 3) (words_append 8 (moment_words m) r z (omega arith)) ∙ marked_append 3 (put_words 8 (moment_words m) r) z (omega arith)

  -- a time put into the first record leaves those behind it
  pub time-fronts : (t : ℕ × ℕ) → put_time t (r ++ z) ≡ put_time t r ++ z
  time-fronts t = text-fronts 16 4 t.0 t.1 (omega arith)

  -- a UUID put into the first record leaves those behind it
  pub uuid-fronts : (w : Words) → put_uuid w (r ++ z) ≡ put_uuid w r ++ z
  uuid-fronts w =
      let n = words-length 4 (uuid_words w) r in
      ap (marked 1) (words_append 4 (uuid_words w) r z (omega arith)) ∙ marked_append 1 (put_words 4 (uuid_words w) r) z (omega arith)

  -- a presence bit set in the first record leaves those behind it
  pub mark-fronts : (k : ℕ) → marked k (r ++ z) ≡ marked k r ++ z
  mark-fronts k = marked_append k r z (omega arith)

  -- a presence bit cleared in the first record leaves those behind it
  pub unmark_fronts : (k : ℕ) → unmarked k (r ++ z) ≡ unmarked k r ++ z
  unmark_fronts k = unmarked-append k r z (omega arith)

  pub kind-fronts : (k : ℕ) → set (r ++ z) 0 k ≡ set r 0 k ++ z
  kind-fronts k = set-append_left r z 0 k (omega arith)
