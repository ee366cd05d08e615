-- A record whose texts were copied, row by row: it is a layout's, and shows what it showed. Assumes nothing.
use Prim.Native.Nat.{ℕ, ◌+◌, ◌-◌, ◌/◌, ◌%◌, ◌^◌, ◌≤◌, ◌<◌}
use mathlib.Core.Path.{◌≡◌, refl, sym, ap, subst, ◌∙◌}
use mathlib.Core.Bool.{Bool, true, false, cond, ◌&&◌, false≢true}
use mathlib.Core.List.{List, [], ◌∷◌, ◌++◌}
use mathlib.Core.Option.{some}
use native.Mathlib.Omega.{arith}
use borrow.Author.Tests.{leb-true}
use lib.Dec.{leb, eqb}
use lib.ListN.{length, get_or, set}
use Rattle.tree_merge.specs.of_schema.Schema.{Form, text, number, time, timestamp, uuid, flag, Presence, always, must, may, unkept, Row, width, width_if, behind, bit_of, after, fine_bit, fine_from}
use Rattle.tree_merge.specs.of_schema.Records.{Of, Span, given, is_set, value_at, good_value, zero_at, good_slot, good_from}
use Rattle.tree_merge.specs.of_schema.Report.{Text}
use Rattle.tree_merge.specs.of_schema.Texts.{read_value, shown_slot, fields_of, stored_value, stored, stored_in}
use Rattle.tree_merge.proofs.of_tree_report.EncodeLists.{both, and_left, and_right}
use Rattle.tree_merge.specs.Moved.{is_text, is_there, has_text, text_in_of, moved_by}
use Rattle.merge_claims.specs.inside.Stands.{Clean, Stands}
use Rattle.merge_claims.proofs.Words.{Same, zero_same, value_same, put_other, put-length}
use Rattle.merge_claims.proofs.Texts.{clean-both, text-size, text-clean, stands_good, stands_read}

-- ---- what is no text stays, whatever the texts are
module _ (t u : List ℕ) where
  plain-good : (f : Form) → is_text f ≡ false → (v : Of Span f) → good_value u f v ≡ good_value t f v
  plain-good text e v = absurd (false≢true (sym e))
  plain-good number e v = refl
  plain-good time e v = refl
  plain-good timestamp e v = refl
  plain-good uuid e v = refl
  plain-good flag e v = refl

  plain-read : (f : Form) → is_text f ≡ false → (v : Of Span f) → read_value u f v ≡ read_value t f v
  plain-read text e v = absurd (false≢true (sym e))
  plain-read number e v = refl
  plain-read time e v = refl
  plain-read timestamp e v = refl
  plain-read uuid e v = refl
  plain-read flag e v = refl

no_text : (b : Bool) → (b && true) ≡ false → b ≡ false
no_text true e = e
no_text false e = refl

pub text-width : (r : List ℕ) (p : Presence) (f : Form) → (is_text f && is_there p r) ≡ true → width_if p (width f) ≡ 2
text-width r always text e = refl
text-width r (must k) text e = refl
text-width r (may k) text e = refl
text-width r unkept text e = absurd (false≢true e)
text-width r p number e = absurd (false≢true e)
text-width r p time e = absurd (false≢true e)
text-width r p timestamp e = absurd (false≢true e)
text-width r p uuid e = absurd (false≢true e)
text-width r p flag e = absurd (false≢true e)

-- r with the texts t and z behind them, w with the texts u and y behind them
module _ (t z u y r w : List ℕ) (bits : get_or w 1 0 ≡ get_or r 1 0) where
  -- w's row is a layout's and shows what r's row shows
  abbrev pub Slot : Presence → Form → ℕ → Type 0
  Slot p f o = (good_slot u w p f o ≡ true) × (shown_slot (u ++ y) p f w o ≡ shown_slot (t ++ z) p f r o)

  bit-same : (k : ℕ) → is_set k w ≡ is_set k r
  bit-same k = ap (λ (b : ℕ). eqb (b / 2 ^ k % 2) 1) bits

  -- ---- a value that is there, by what it is in w
  module _ (f : Form) (o : ℕ) (g : good_value u f (value_at f w o) ≡ true) (e : read_value (u ++ y) f (value_at f w o) ≡ read_value (t ++ z) f (value_at f r o)) where
    there : (p : Presence) → is_there p r ≡ true → good_slot t r p f o ≡ true → Slot p f o
    there always h q = (g, e)
    there (must k) h q = (both (bit-same k ∙ and_left (is_set k r) (good_value t f (value_at f r o)) q) g, e)
    there (may k) h q = (
      ap (λ (b : Bool). cond b (good_value u f (value_at f w o)) (zero_at w o (width f))) (bit-same k ∙ h) ∙ g,
      ap (λ (b : Bool). given b (read_value (u ++ y) f (value_at f w o))) (bit-same k ∙ h) ∙ ap (λ (v : Of Text f). some v) e
          ∙ sym (ap (λ (b : Bool). given b (read_value (t ++ z) f (value_at f r o))) h),
    )
    there unkept h q = absurd (false≢true h)

  -- ---- words that stay
  module _ (f : Form) (o : ℕ) where
    value-good : (p : Presence) → is_there p r ≡ true → good_slot t r p f o ≡ true → good_value t f (value_at f r o) ≡ true
    value-good always h q = q
    value-good (must k) h q = and_right (is_set k r) (good_value t f (value_at f r o)) q
    value-good (may k) h q = sym (ap (λ (b : Bool). cond b (good_value t f (value_at f r o)) (zero_at r o (width f))) h) ∙ q
    value-good unkept h q = absurd (false≢true h)

    missing : (p : Presence) → is_there p r ≡ false → Same w r o (o + width_if p (width f)) → good_slot t r p f o ≡ true → Slot p f o
    missing always h s q = absurd (false≢true (sym h))
    missing (must k) h s q = absurd (false≢true (sym h))
    missing (may k) h s q = (
      ap (λ (b : Bool). cond b (good_value u f (value_at f w o)) (zero_at w o (width f))) (bit-same k ∙ h)
          ∙ zero_same w r o (width f) s (sym (ap (λ (b : Bool). cond b (good_value t f (value_at f r o)) (zero_at r o (width f))) h) ∙ q),
      ap (λ (b : Bool). given b (read_value (u ++ y) f (value_at f w o))) (bit-same k ∙ h) ∙ sym (ap (λ (b : Bool). given b (read_value (t ++ z) f (value_at f r o))) h),
    )
    missing unkept h s q = (refl, refl)

    there-width : (p : Presence) → is_there p r ≡ true → width_if p (width f) ≡ width f
    there-width always h = refl
    there-width (must k) h = refl
    there-width (may k) h = refl
    there-width unkept h = absurd (false≢true h)

    pub kept_slot : (p : Presence) → (is_text f && is_there p r) ≡ false → Same w r o (o + width_if p (width f)) → good_slot t r p f o ≡ true → Slot p f o
    kept_slot p h s q = go (is_there p r) refl h
      where
        go : (b : Bool) → is_there p r ≡ b → (is_text f && b) ≡ false → Slot p f o
        go false e n = missing p e s q
        go true e n =
            let k = there-width p e in
            let v = value_same f w r o (λ i a b. s i a (omega arith)) in
            let d = no_text (is_text f) n in
            there f o (plain-good t u f d (value_at f w o) ∙ ap (good_value t f) v ∙ value-good p e q)
            (plain-read (t ++ z) (u ++ y) f d (value_at f w o) ∙ ap (read_value (t ++ z) f) v) p e q

  -- ---- a text that was copied
  module _ (fill o : ℕ) (c : Clean t) (start : get_or w o 0 ≡ fill) (size : get_or w (o + 1) 0 ≡ get_or r (o + 1) 0) where
    abbrev source : List ℕ
    source = read_value (t ++ z) text (value_at text r o)

    copied : (p : Presence) → is_there p r ≡ true → good_slot t r p text o ≡ true → Stands u fill source → Slot p text o
    copied p h q s =
        let g = value-good text o p h q in
        let n = size ∙ sym (text-size t z (value_at text r o) g) in
        let v : value_at text w o ≡ record { start = fill; size = length source } = λ i. record { start = start i; size = n i } in
        let k = text-clean t z (value_at text r o) g c in
        there text o (ap (good_value u text) v ∙ stands_good source k s) (ap (read_value (u ++ y) text) v ∙ stands_read source k s y) p h q

    stored_there : (p : Presence) → is_there p r ≡ true → stored p text (shown_slot (t ++ z) p text r o) ≡ source
    stored_there always h = refl
    stored_there (must k) h = refl
    stored_there (may k) h = ap (λ (b : Bool). stored (may k) text (given b source)) h
    stored_there unkept h = absurd (false≢true h)

    pub moved-slot : (p : Presence) (f : Form) → (is_text f && is_there p r) ≡ true → good_slot t r p f o ≡ true → Stands u fill (stored p f (shown_slot (t ++ z) p f r o)) → Slot p f o
    moved-slot p text h q s = copied p h q (subst (Stands u fill) (stored_there p h) s)
    moved-slot p number h q s = absurd (false≢true h)
    moved-slot p time h q s = absurd (false≢true h)
    moved-slot p timestamp h q s = absurd (false≢true h)
    moved-slot p uuid h q s = absurd (false≢true h)
    moved-slot p flag h q s = absurd (false≢true h)

-- ---- the texts of a record are clean
module _ (t z r : List ℕ) (c : Clean t) where
  clean-value : (f : Form) (v : Of Span f) → good_value t f v ≡ true → Clean (stored_value f (read_value (t ++ z) f v))
  clean-value text v g = text-clean t z v g c
  clean-value number v g = (refl, refl)
  clean-value time v g = (refl, refl)
  clean-value timestamp v g = (refl, refl)
  clean-value uuid v g = (refl, refl)
  clean-value flag v g = (refl, refl)

  pub clean-slot : (p : Presence) (f : Form) (o : ℕ) → good_slot t r p f o ≡ true → Clean (stored p f (shown_slot (t ++ z) p f r o))
  clean-slot always f o g = clean-value f (value_at f r o) g
  clean-slot (must k) f o g = clean-value f (value_at f r o) (and_right (is_set k r) (good_value t f (value_at f r o)) g)
  clean-slot (may k) f o g = go (is_set k r) g
    where
      go : (b : Bool) → cond b (good_value t f (value_at f r o)) (zero_at r o (width f)) ≡ true → Clean (stored (may k) f (given b (read_value (t ++ z) f (value_at f r o))))
      go true h = clean-value f (value_at f r o) h
      go false h = (refl, refl)
  clean-slot unkept f o g = (refl, refl)

  pub clean-fields : (n : ℕ) (xs : List Row) → good_from t r n xs ≡ true → Clean (stored_in xs (fields_of xs (t ++ z) r))
  clean-fields n [] g = (refl, refl)
  clean-fields n (x ∷ xs) g =
      let slot = good_slot t r x.presence x.form x.word in
      let rest = good_from t r (behind x) xs in
      let h = and_right (zero_at r n (x.word - n)) (slot && rest) g in
      clean-both (stored x.presence x.form (shown_slot (t ++ z) x.presence x.form r x.word)) (stored_in xs (fields_of xs (t ++ z) r))
      (clean-slot x.presence x.form x.word (and_left slot rest h)) (clean-fields (behind x) xs (and_right slot rest h))

-- ---- the words before a table's are not moved
module _ (texts r : List ℕ) where
  abbrev pub put : Row → ℕ → List ℕ → List ℕ
  put x fill s = cond (has_text x r) (set s x.word fill) s

  pub moved_length : (xs : List Row) (fill : ℕ) (s : List ℕ) → length (moved_by xs texts fill r s) ≡ length s
  moved_length [] fill s = refl
  moved_length (x ∷ xs) fill s = moved_length xs (fill + length (text_in_of x texts r)) (put x fill s) ∙ put-length s x.word fill (has_text x r)

  pub moved_before : (xs : List Row) (fill : ℕ) (s : List ℕ) (n b : ℕ) → fine_from n b xs ≡ true → (i : ℕ) → i < n → get_or (moved_by xs texts fill r s) i 0 ≡ get_or s i 0
  moved_before [] fill s n b h i l = refl
  moved_before (x ∷ xs) fill s n b h i l =
      let rest = fine_from (behind x) (after b (bit_of x.presence)) xs in
      let bit = fine_bit b (bit_of x.presence) in
      let h2 = and_right (leb n x.word) (leb (behind x) 32 && (bit && rest)) h in
      let up : n ≤ x.word = leb-true n x.word (and_left (leb n x.word) (leb (behind x) 32 && (bit && rest)) h) in
      let f = and_right bit rest (and_right (leb (behind x) 32) (bit && rest) h2) in
      moved_before xs (fill + length (text_in_of x texts r)) (put x fill s) (behind x) (after b (bit_of x.presence)) f i (omega arith)
      ∙ put_other s x.word fill (has_text x r) i (λ e q. omega arith)
