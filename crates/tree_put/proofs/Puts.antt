-- Words put into a record: what stands there then, and what stays. Assumes nothing.
use Prim.Native.Nat.{ℕ, zero, suc, ◌+◌, ◌*◌, ◌/◌, ◌%◌, ◌^◌, ◌≤◌, ◌<◌}
use mathlib.Core.Path.{◌≡◌, refl, sym, ap, ◌∙◌}
use mathlib.Core.List.{List, [], ◌∷◌}
use native.Mathlib.Omega.{arith}
use native.Mathlib.Nat.{mod-add-div'}
use lib.Dec.{eqb}
use lib.ListN.{length, get_or, set, take, drop, length-set}
use lib.Seq.{set_out, take-set-lt, drop-set-lt}
use Rattle.timestamp.specs.declared.Moment.{Moment}
use Rattle.uuids.specs.declared.Words.{Words}
use Rattle.tree_record.proofs.RecordLaws.{field-same, field-other}
use Rattle.tree_record.specs.Record.{mask_of, has_bit, marked}
use Rattle.tree_record.proofs.Marks.{marked-length}
use Rattle.tree_put.specs.Put.{put_pair, put_text, put_count_of, put_words, uuid_words, put_uuid, moment_words, put_moment, put_time}

-- the bits where word 1 stays
same_bits : (j : ℕ) (r r' : List ℕ) → get_or r' 1 0 ≡ get_or r 1 0 → has_bit j r' ≡ has_bit j r
same_bits j r r' e = ap (λ (n : ℕ). eqb (n / mask_of j % 2) 1) e

-- two words
module _ (o a b : ℕ) (r : List ℕ) where
  -- putting two words leaves the record's length
  pub pair-length : length (put_pair o a b r) ≡ length r
  pair-length = length-set (set r o a) (o + 1) b ∙ length-set r o a

  -- the first of two words put is there
  pub pair-first : o < length r → get_or (put_pair o a b r) o 0 ≡ a
  pair-first h = field-other (set r o a) (o + 1) b o (omega arith) ∙ field-same r o a h

  -- the second of two words put is there
  pub pair-second : o + 1 < length r → get_or (put_pair o a b r) (o + 1) 0 ≡ b
  pair-second h = field-same (set r o a) (o + 1) b (rw (length-set r o a) h)

  -- every other word stays
  pub pair-other : (p : ℕ) → (p ≡ o → ⊥) → (p ≡ o + 1 → ⊥) → get_or (put_pair o a b r) p 0 ≡ get_or r p 0
  pair-other p h h' = field-other (set r o a) (o + 1) b p h' ∙ field-other r o a p h

  -- two words put behind the presence bits leave the bits
  pub pair-bits : (j : ℕ) → 1 < o → has_bit j (put_pair o a b r) ≡ has_bit j r
  pair-bits j h = same_bits j r (put_pair o a b r) (pair-other 1 (omega arith) (omega arith))

  -- in a part, just the record at its front
  module _ (n : ℕ) (h : o + 1 < n) where
    pub pair-front : take n (put_pair o a b r) ≡ put_pair o a b (take n r)
    pair-front = take-set-lt n (set r o a) (o + 1) b h ∙ ap (λ (x : List ℕ). set x (o + 1) b) (take-set-lt n r o a (omega arith))

    pub pair-behind : drop n (put_pair o a b r) ≡ drop n r
    pair-behind = drop-set-lt n (set r o a) (o + 1) b h ∙ drop-set-lt n r o a (omega arith)

  -- behind the part's end there is nothing to change
  pub pair-none : length r ≤ o → r ≡ put_pair o a b r
  pair-none h =
      let e : set r o a ≡ r = set_out r o a h in
      sym (ap (λ (x : List ℕ). set x (o + 1) b) e ∙ set_out r (o + 1) b (omega arith))

-- any number of words
pub words-length : (o : ℕ) (vs r : List ℕ) → length (put_words o vs r) ≡ length r
words-length o [] r = refl
words-length o (v ∷ vs) r = words-length (o + 1) vs (set r o v) ∙ length-set r o v

-- words put from o on leave those before it
pub words-before : (o : ℕ) (vs r : List ℕ) (p : ℕ) → p < o → get_or (put_words o vs r) p 0 ≡ get_or r p 0
words-before o [] r p h = refl
words-before o (v ∷ vs) r p h = words-before (o + 1) vs (set r o v) p (omega arith) ∙ field-other r o v p (omega arith)

pub words-after : (o : ℕ) (vs r : List ℕ) (p : ℕ) → o + length vs ≤ p → get_or (put_words o vs r) p 0 ≡ get_or r p 0
words-after o [] r p h = refl
words-after o (v ∷ vs) r p h = words-after (o + 1) vs (set r o v) p (omega arith) ∙ field-other r o v p (omega arith)

pub words-at : (o : ℕ) (vs r : List ℕ) (i : ℕ) → i < length vs → o + i < length r → get_or (put_words o vs r) (o + i) 0 ≡ get_or vs i 0
words-at o [] r i h l = absurd (omega arith)
words-at o (v ∷ vs) r zero h l =
    let e : o + 0 ≡ o = omega arith in
    ap (λ (n : ℕ). get_or (put_words (o + 1) vs (set r o v)) n 0) e ∙ words-before (o + 1) vs (set r o v) o (omega arith) ∙ field-same r o v (omega arith)
words-at o (v ∷ vs) r (suc i) h l =
    let e : o + suc i ≡ o + 1 + i = omega arith in
    ap (λ (n : ℕ). get_or (put_words (o + 1) vs (set r o v)) n 0) e ∙ words-at (o + 1) vs (set r o v) i (omega arith) (rw (length-set r o v) (omega arith))

pub words-bits : (o : ℕ) (vs r : List ℕ) (j : ℕ) → 1 < o → has_bit j (put_words o vs r) ≡ has_bit j r
words-bits o vs r j h = same_bits j r (put_words o vs r) (words-before o vs r 1 h)

pub words-front : (o : ℕ) (vs r : List ℕ) (n : ℕ) → o + length vs ≤ n → take n (put_words o vs r) ≡ put_words o vs (take n r)
words-front o [] r n h = refl
words-front o (v ∷ vs) r n h = words-front (o + 1) vs (set r o v) n (omega arith) ∙ ap (put_words (o + 1) vs) (take-set-lt n r o v (omega arith))

pub words-behind : (o : ℕ) (vs r : List ℕ) (n : ℕ) → o + length vs ≤ n → drop n (put_words o vs r) ≡ drop n r
words-behind o [] r n h = refl
words-behind o (v ∷ vs) r n h = words-behind (o + 1) vs (set r o v) n (omega arith) ∙ drop-set-lt n r o v (omega arith)

-- a count is read back
pub count-back : (o n : ℕ) (r : List ℕ) → o + 1 < length r → get_or (put_count_of o n r) o 0 + get_or (put_count_of o n r) (o + 1) 0 * 2 ^ 32 ≡ n
count-back o n r h =
    let low = pair-first o (n % 2 ^ 32) (n / 2 ^ 32) r (omega arith) in
    let high = pair-second o (n % 2 ^ 32) (n / 2 ^ 32) r h in
    ap (λ (x : ℕ). x + get_or (put_count_of o n r) (o + 1) 0 * 2 ^ 32) low ∙ ap (λ (x : ℕ). n % 2 ^ 32 + x * 2 ^ 32) high ∙ mod-add-div' n (2 ^ 32)

-- the lengths of the fields with a bit of their own
pub text-length : (o k start n : ℕ) (r : List ℕ) → length (put_text o k start n r) ≡ length r
text-length o k start n r = marked-length k (put_pair o start n r) ∙ pair-length o start n r

-- putting a UUID leaves the record's length
pub uuid-length : (w : Words) (r : List ℕ) → length (put_uuid w r) ≡ length r
uuid-length w r = marked-length 1 (put_words 4 (uuid_words w) r) ∙ words-length 4 (uuid_words w) r

-- putting a timestamp leaves the record's length
pub moment-length : (m : Moment) (r : List ℕ) → length (put_moment m r) ≡ length r
moment-length m r = marked-length 3 (put_words 8 (moment_words m) r) ∙ words-length 8 (moment_words m) r

-- putting a time leaves the record's length
pub time-length : (t : ℕ × ℕ) (r : List ℕ) → length (put_time t r) ≡ length r
time-length t r = marked-length 4 (put_pair 16 t.0 t.1 r) ∙ pair-length 16 t.0 t.1 r

-- a UUID and a timestamp, put pair by pair
pub uuid-put : (w : Words) (r : List ℕ) {r₁ r₂ out : List ℕ} → r₁ ≡ put_pair 4 w.a w.b r → r₂ ≡ put_pair 6 w.c w.d r₁ → out ≡ marked 1 r₂ → out ≡ put_uuid w r
uuid-put w r e₁ e₂ e = e ∙ ap (marked 1) (e₂ ∙ ap (put_pair 6 w.c w.d) e₁)

-- the code's five stores of a timestamp, one behind the other, are the definition's
pub moment-put :
    (m : Moment) (r : List ℕ) {r₁ r₂ r₃ r₄ out : List ℕ} → r₁ ≡ put_pair 8 m.year m.month r → r₂ ≡ put_pair 10 m.day m.hour r₁
    → r₃ ≡ put_pair 12 m.minute m.second r₂ → r₄ ≡ put_pair 14 m.nanos m.offset r₃ → out ≡ marked 3 r₄ → out ≡ put_moment m r
moment-put m r e₁ e₂ e₃ e₄ e =
    e ∙ ap (marked 3) (e₄ ∙ ap (put_pair 14 m.nanos m.offset) (e₃ ∙ ap (put_pair 12 m.minute m.second) (e₂ ∙ ap (put_pair 10 m.day m.hour) e₁)))
