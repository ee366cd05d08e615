-- What is put into a record is a splice and a bit: the stores of a table's rows. Assumes nothing.
use Prim.Native.Nat.{ℕ, zero, suc, ◌+◌, ◌/◌, ◌%◌, ◌^◌, ◌≤◌, min}
use mathlib.Core.Bool.{cond}
use mathlib.Core.List.{List, [], ◌∷◌, ◌++◌}
use mathlib.Core.Path.{◌≡◌, refl, sym, ap, ◌∙◌}
use native.Mathlib.Nat.{add-zero, zero-add, min-eq_left}
use native.Mathlib.Omega.{arith}
use lib.Dec.{eqb}
use lib.ListN.{length, get_or, set, take, drop, take-append-drop}
use Rattle.read_content.specs.of_timestamp.declared.Moment.{Moment}
use Rattle.read_content.specs.of_uuids.declared.Words.{Words}
use Rattle.read_content.specs.of_tree_record.Record.{marked}
use Rattle.build_draft.specs.of_tree_put.Put.{put_text, put_count_of, put_words, put_uuid, put_moment, put_time}
use Rattle.read_content.specs.of_schema.Schema.{text, number, time, timestamp, uuid}
use Rattle.read_content.specs.of_schema.Records.{words_of}
use Rattle.read_content.specs.of_schema.Stores.{splice, with_bit}

words-under : (o : ℕ) (vs : List ℕ) (x : ℕ) (r : List ℕ) → put_words (suc o) vs (x ∷ r) ≡ x ∷ put_words o vs r
words-under o [] x r = refl
words-under o (v ∷ vs) x r =
    let e : suc o + 1 ≡ suc (o + 1) = omega arith in
    ap (λ (n : ℕ). put_words n vs (x ∷ set r o v)) e ∙ words-under (o + 1) vs x (set r o v)

pub put-words : (o : ℕ) (vs r : List ℕ) → o + length vs ≤ length r → put_words o vs r ≡ splice o vs r
put-words o [] r h = sym (ap (λ (n : ℕ). take o r ++ drop n r) (add-zero o) ∙ take-append-drop o r)
put-words o (v ∷ vs) [] h = absurd (omega arith)
put-words zero (v ∷ vs) (x ∷ r) h =
    words-under 0 vs v r ∙ ap (λ (l : List ℕ). v ∷ l) (put-words 0 vs r (omega arith))
    ∙ ap (λ (n : ℕ). v ∷ (vs ++ drop n r)) (zero-add (length vs))
    ∙ sym (ap (λ (n : ℕ). v ∷ (vs ++ drop n (x ∷ r))) (zero-add (suc (length vs))))
put-words (suc o) (v ∷ vs) (x ∷ r) h =
    let e : suc o + suc (length vs) ≡ suc (o + suc (length vs)) = omega arith in
    words-under o (v ∷ vs) x r ∙ ap (λ (l : List ℕ). x ∷ l) (put-words o (v ∷ vs) r (omega arith))
    ∙ sym (ap (λ (n : ℕ). x ∷ (take o r ++ ((v ∷ vs) ++ drop n (x ∷ r)))) e)

pub put-bit : (k : ℕ) (r : List ℕ) → k ≤ 31 → marked k r ≡ with_bit k r
unfolding marked
put-bit k r h =
    let e : min k 31 ≡ k = min-eq_left h in
    ap (λ (n : ℕ). cond (eqb (get_or r 1 0 / 2 ^ n % 2) 1) r (set r 1 (get_or r 1 0 + 2 ^ n))) e

-- ---- one law for each form
module _ (r : List ℕ) (whole : length r ≡ 32) where
  pub text-put : (o k start n : ℕ) → k ≤ 31 → o ≤ 30 → put_text o k start n r ≡ with_bit k (splice o (words_of text (record { start = start; size = n })) r)
  text-put o k start n h l = ap (marked k) (put-words o (start ∷ n ∷ []) r (omega arith)) ∙ put-bit k (splice o (start ∷ n ∷ []) r) h

  pub count-put : (o n : ℕ) → o ≤ 30 → put_count_of o n r ≡ splice o (words_of number n) r
  count-put o n l = put-words o (words_of number n) r (omega arith)

  pub number_put : (o k n : ℕ) → k ≤ 31 → o ≤ 30 → marked k (put_count_of o n r) ≡ with_bit k (splice o (words_of number n) r)
  number_put o k n h l = ap (marked k) (count-put o n l) ∙ put-bit k (splice o (words_of number n) r) h

  pub uuid-put : (w : Words) → put_uuid w r ≡ with_bit 1 (splice 4 (words_of uuid w) r)
  uuid-put w = ap (marked 1) (put-words 4 (words_of uuid w) r (omega arith)) ∙ put-bit 1 (splice 4 (words_of uuid w) r) (omega arith)

  pub moment-put : (m : Moment) → put_moment m r ≡ with_bit 3 (splice 8 (words_of timestamp m) r)
  moment-put m = ap (marked 3) (put-words 8 (words_of timestamp m) r (omega arith)) ∙ put-bit 3 (splice 8 (words_of timestamp m) r) (omega arith)

  pub time-put : (a b : ℕ) → put_time (a, b) r ≡ with_bit 4 (splice 16 (words_of time (record { seconds = a; nanos = b })) r)
  time-put a b = ap (marked 4) (put-words 16 (a ∷ b ∷ []) r (omega arith)) ∙ put-bit 4 (splice 16 (a ∷ b ∷ []) r) (omega arith)
