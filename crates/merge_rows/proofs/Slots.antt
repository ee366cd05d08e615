-- The texts of a record by the rows of a table, and by their presence bits and words alone. Assumes nothing.
use Prim.Native.Nat.{ℕ, ◌+◌, ◌-◌, ◌≤◌}
use mathlib.Core.Bool.{Bool, true, false, cond, ◌&&◌, false≢true}
use mathlib.Core.List.{List, [], ◌∷◌, ◌++◌}
use mathlib.Core.Option.{none, some}
use mathlib.Core.Path.{◌≡◌, refl, sym, ap, ◌∙◌}
use native.Mathlib.Nat.{add-zero}
use native.Mathlib.Omega.{arith}
use borrow.Author.Tests.{leb-true}
use lib.Dec.{leb}
use lib.ListN.{length, get_or, set, drop, length-append, length-drop}
use lib.Seq.{length-take-le}
use Rattle.write_bytes.specs.of_utf8.Characters.{boundary}
use Rattle.write_bytes.specs.of_schema.Report.{Text}
use Rattle.write_bytes.specs.of_schema.Schema.{Form, text, number, time, timestamp, uuid, flag, Presence, always, must, may, unkept, Row, behind}
use Rattle.write_bytes.specs.of_schema.Records.{Of, Held, is_set, given, value_at, good_value, zero_at, good_slot, good_from}
use Rattle.write_bytes.specs.of_schema.Texts.{shown_slot, fields_of, stored_value, stored, stored_in}
use Rattle.write_bytes.proofs.of_schema.Tests.{and_left, and_right}
use Rattle.write_bytes.specs.of_tree_record.Record.{text_at}
use Rattle.tree_merge.specs.Moved.{is_text, is_there, has_text, text_in_of, moved_by}

-- a text's presence bit and first word
abbrev pub Slot : Type 0
Slot = ℕ × ℕ

abbrev pub bit_slot : Presence → ℕ → List Slot → List Slot
bit_slot always o ss = ss
bit_slot (must k) o ss = (k, o) ∷ ss
bit_slot (may k) o ss = (k, o) ∷ ss
bit_slot unkept o ss = ss

abbrev pub slots_of : List Row → List Slot
slots_of [] = []
slots_of (x ∷ xs) = cond (is_text x.form) (bit_slot x.presence x.word (slots_of xs)) (slots_of xs)

-- each text has a presence bit
abbrev pub has_bits : Presence → Bool
has_bits always = false
has_bits (must k) = true
has_bits (may k) = true
has_bits unkept = true

abbrev pub bitted : List Row → Bool
bitted [] = true
bitted (x ∷ xs) = cond (is_text x.form) (has_bits x.presence) true && bitted xs

-- ---- along the slots
module _ (texts r : List ℕ) where
  abbrev pub part_of : Slot → List ℕ
  part_of s = cond (is_set s.0 r) (text_at texts r s.1) []

  abbrev pub slot_texts : List Slot → List ℕ
  slot_texts [] = []
  slot_texts (s ∷ ss) = part_of s ++ slot_texts ss

  abbrev pub slot_moved : List Slot → ℕ → List ℕ → List ℕ
  slot_moved [] fill w = w
  slot_moved (s ∷ ss) fill w = slot_moved ss (fill + length (part_of s)) (cond (is_set s.0 r) (set w s.1 fill) w)

abbrev pub slot_sizes : List ℕ → List Slot → ℕ
slot_sizes r [] = 0
slot_sizes r (s ∷ ss) = cond (is_set s.0 r) (get_or r (s.1 + 1) 0) 0 + slot_sizes r ss

-- ---- what is no text adds nothing
no_value : (t : Form) (v : Of Text t) → is_text t ≡ false → stored_value t v ≡ []
no_value text v e = absurd (false≢true (sym e))
no_value number v e = refl
no_value time v e = refl
no_value timestamp v e = refl
no_value uuid v e = refl
no_value flag v e = refl

no_slot : (p : Presence) (t : Form) (v : Held p (Of Text t)) → is_text t ≡ false → stored p t v ≡ []
no_slot always t v e = no_value t v e
no_slot (must k) t v e = no_value t v e
no_slot (may k) t none e = refl
no_slot (may k) t (some v) e = no_value t v e
no_slot unkept t v e = refl

-- ---- one row: g is the texts that the record is good by
module _ (g texts r : List ℕ) (o : ℕ) where
  abbrev own : (p : Presence) (t : Form) → List ℕ
  own p t = stored p t (shown_slot texts p t r o)

  -- the row's text is the slot's
  text-slot : (p : Presence) (ss : List Slot) → has_bits p ≡ true → good_slot g r p text o ≡ true → own p text ++ slot_texts texts r ss ≡ slot_texts texts r (bit_slot p o ss)
  text-slot always ss b h = absurd (false≢true b)
  text-slot (must k) ss b h =
      let e : is_set k r ≡ true = and_left (is_set k r) (good_value g text (value_at text r o)) h in
      ap (λ (t : Bool). cond t (text_at texts r o) [] ++ slot_texts texts r ss) (sym e)
  text-slot (may k) ss b h = go (is_set k r)
    where
      go : (t : Bool) → stored (may k) text (given t (text_at texts r o)) ++ slot_texts texts r ss ≡ cond t (text_at texts r o) [] ++ slot_texts texts r ss
      go true = refl
      go false = refl
  text-slot unkept ss b h = refl

  -- and so is its start
  start-slot : (p : Presence) (ss : List Slot) (fill : ℕ) (w : List ℕ) → has_bits p ≡ true → good_slot g r p text o ≡ true
      → slot_moved texts r ss (fill + length (own p text)) (cond (is_there p r) (set w o fill) w) ≡ slot_moved texts r (bit_slot p o ss) fill w
  start-slot always ss fill w b h = absurd (false≢true b)
  start-slot (must k) ss fill w b h =
      let e : is_set k r ≡ true = and_left (is_set k r) (good_value g text (value_at text r o)) h in
      ap (λ (t : Bool). slot_moved texts r ss (fill + length (cond t (text_at texts r o) [])) (cond t (set w o fill) w)) (sym e)
  start-slot (may k) ss fill w b h = go (is_set k r)
    where
      go : (t : Bool) → slot_moved texts r ss (fill + length (stored (may k) text (given t (text_at texts r o)))) (cond t (set w o fill) w)
          ≡ slot_moved texts r ss (fill + length (cond t (text_at texts r o) [])) (cond t (set w o fill) w)
      go true = refl
      go false = refl
  start-slot unkept ss fill w b h = ap (λ (n : ℕ). slot_moved texts r ss n w) (add-zero fill)

  -- how long it is, where the texts hold it whole
  whole : length g ≤ length texts → good_value g text (value_at text r o) ≡ true → length (text_at texts r o) ≡ get_or r (o + 1) 0
  whole l h =
      let a = get_or r o 0 in
      let n = get_or r (o + 1) 0 in
      let f : a + n ≤ length g = leb-true (a + n) (length g) (and_left (leb (a + n) (length g)) (boundary g a && boundary g (a + n)) h) in
      let d : length (drop a texts) ≡ length texts - a = length-drop a texts in
      length-take-le n (drop a texts) (omega arith)

  size-slot : length g ≤ length texts → (p : Presence) (n : ℕ) (ss : List Slot) → has_bits p ≡ true → good_slot g r p text o ≡ true → n ≡ slot_sizes r ss
      → length (own p text) + n ≡ slot_sizes r (bit_slot p o ss)
  size-slot l always n ss b h q = absurd (false≢true b)
  size-slot l (must k) n ss b h q =
      let e : is_set k r ≡ true = and_left (is_set k r) (good_value g text (value_at text r o)) h in
      let v : good_value g text (value_at text r o) ≡ true = and_right (is_set k r) (good_value g text (value_at text r o)) h in
      rw (whole l v, q) (ap (λ (t : Bool). cond t (get_or r (o + 1) 0) 0 + slot_sizes r ss) (sym e))
  size-slot l (may k) n ss b h q = go (is_set k r) h
    where
      go : (t : Bool) → cond t (good_value g text (value_at text r o)) (zero_at r o 2) ≡ true
          → length (stored (may k) text (given t (text_at texts r o))) + n ≡ cond t (get_or r (o + 1) 0) 0 + slot_sizes r ss
      go true v = rw (whole l v, q) refl
      go false v = rw q refl
  size-slot l unkept n ss b h q = let z : 0 + n ≡ n = omega arith in z ∙ q

-- ---- the rows of a table
module _ (g texts r : List ℕ) where
  pub rows-texts : (xs : List Row) (n : ℕ) → bitted xs ≡ true → good_from g r n xs ≡ true → stored_in xs (fields_of xs texts r) ≡ slot_texts texts r (slots_of xs)
  rows-texts [] n b h = refl
  rows-texts (x ∷ xs) n b h =
      let h₁ = and_right (zero_at r n (x.word - n)) (good_slot g r x.presence x.form x.word && good_from g r (behind x) xs) h in
      let good = and_left (good_slot g r x.presence x.form x.word) (good_from g r (behind x) xs) h₁ in
      let rest = and_right (good_slot g r x.presence x.form x.word) (good_from g r (behind x) xs) h₁ in
      let bit = and_left (cond (is_text x.form) (has_bits x.presence) true) (bitted xs) b in
      let bits = and_right (cond (is_text x.form) (has_bits x.presence) true) (bitted xs) b in
      ap (λ (l : List ℕ). text_in_of x texts r ++ l) (rows-texts xs (behind x) bits rest) ∙ go x.form good bit
    where
      go : (t : Form) → good_slot g r x.presence t x.word ≡ true → cond (is_text t) (has_bits x.presence) true ≡ true
          → stored x.presence t (shown_slot texts x.presence t r x.word) ++ slot_texts texts r (slots_of xs)
          ≡ slot_texts texts r (cond (is_text t) (bit_slot x.presence x.word (slots_of xs)) (slots_of xs))
      go text h b = text-slot g texts r x.word x.presence (slots_of xs) b h
      go number h b = ap (λ (l : List ℕ). l ++ slot_texts texts r (slots_of xs)) (no_slot x.presence number (shown_slot texts x.presence number r x.word) refl)
      go time h b = ap (λ (l : List ℕ). l ++ slot_texts texts r (slots_of xs)) (no_slot x.presence time (shown_slot texts x.presence time r x.word) refl)
      go timestamp h b = ap (λ (l : List ℕ). l ++ slot_texts texts r (slots_of xs)) (no_slot x.presence timestamp (shown_slot texts x.presence timestamp r x.word) refl)
      go uuid h b = ap (λ (l : List ℕ). l ++ slot_texts texts r (slots_of xs)) (no_slot x.presence uuid (shown_slot texts x.presence uuid r x.word) refl)
      go flag h b = ap (λ (l : List ℕ). l ++ slot_texts texts r (slots_of xs)) (no_slot x.presence flag (shown_slot texts x.presence flag r x.word) refl)

  none-moved : (ss : List Slot) (fill : ℕ) (w : List ℕ) (p : Presence) (t : Form) (o : ℕ) → is_text t ≡ false
      → slot_moved texts r ss (fill + length (stored p t (shown_slot texts p t r o))) w ≡ slot_moved texts r ss fill w
  none-moved ss fill w p t o e =
      ap (λ (l : List ℕ). slot_moved texts r ss (fill + length l) w) (no_slot p t (shown_slot texts p t r o) e) ∙ ap (λ (n : ℕ). slot_moved texts r ss n w) (add-zero fill)

  pub rows-moved : (xs : List Row) (n : ℕ) → bitted xs ≡ true → good_from g r n xs ≡ true → (fill : ℕ) (w : List ℕ) → moved_by xs texts fill r w ≡ slot_moved texts r (slots_of xs) fill w
  rows-moved [] n b h fill w = refl
  rows-moved (x ∷ xs) n b h fill w =
      let h₁ = and_right (zero_at r n (x.word - n)) (good_slot g r x.presence x.form x.word && good_from g r (behind x) xs) h in
      let good = and_left (good_slot g r x.presence x.form x.word) (good_from g r (behind x) xs) h₁ in
      let rest = and_right (good_slot g r x.presence x.form x.word) (good_from g r (behind x) xs) h₁ in
      let bit = and_left (cond (is_text x.form) (has_bits x.presence) true) (bitted xs) b in
      let bits = and_right (cond (is_text x.form) (has_bits x.presence) true) (bitted xs) b in
      rows-moved xs (behind x) bits rest (fill + length (text_in_of x texts r)) (cond (has_text x r) (set w x.word fill) w) ∙ go x.form good bit
    where
      go : (t : Form) → good_slot g r x.presence t x.word ≡ true → cond (is_text t) (has_bits x.presence) true ≡ true
          → slot_moved texts r (slots_of xs) (fill + length (stored x.presence t (shown_slot texts x.presence t r x.word))) (cond (is_text t && is_there x.presence r) (set w x.word fill) w)
          ≡ slot_moved texts r (cond (is_text t) (bit_slot x.presence x.word (slots_of xs)) (slots_of xs)) fill w
      go text h b = start-slot g texts r x.word x.presence (slots_of xs) fill w b h
      go number h b = none-moved (slots_of xs) fill w x.presence number x.word refl
      go time h b = none-moved (slots_of xs) fill w x.presence time x.word refl
      go timestamp h b = none-moved (slots_of xs) fill w x.presence timestamp x.word refl
      go uuid h b = none-moved (slots_of xs) fill w x.presence uuid x.word refl
      go flag h b = none-moved (slots_of xs) fill w x.presence flag x.word refl

  none-sized : (m n : ℕ) (p : Presence) (t : Form) (o : ℕ) → is_text t ≡ false → m ≡ n → length (stored p t (shown_slot texts p t r o)) + m ≡ n
  none-sized m n p t o e q =
      let z : 0 + m ≡ n = (let k = q in omega arith) in
      ap (λ (l : List ℕ). length l + m) (no_slot p t (shown_slot texts p t r o) e) ∙ z

  pub rows-sizes : length g ≤ length texts → (xs : List Row) (n : ℕ) → bitted xs ≡ true → good_from g r n xs ≡ true → length (stored_in xs (fields_of xs texts r)) ≡ slot_sizes r (slots_of xs)
  rows-sizes l [] n b h = refl
  rows-sizes l (x ∷ xs) n b h =
      let h₁ = and_right (zero_at r n (x.word - n)) (good_slot g r x.presence x.form x.word && good_from g r (behind x) xs) h in
      let good = and_left (good_slot g r x.presence x.form x.word) (good_from g r (behind x) xs) h₁ in
      let rest = and_right (good_slot g r x.presence x.form x.word) (good_from g r (behind x) xs) h₁ in
      let bit = and_left (cond (is_text x.form) (has_bits x.presence) true) (bitted xs) b in
      let bits = and_right (cond (is_text x.form) (has_bits x.presence) true) (bitted xs) b in
      length-append (text_in_of x texts r) (stored_in xs (fields_of xs texts r)) ∙ go x.form good bit (rows-sizes l xs (behind x) bits rest)
    where
      go : (t : Form) → good_slot g r x.presence t x.word ≡ true → cond (is_text t) (has_bits x.presence) true ≡ true
          → length (stored_in xs (fields_of xs texts r)) ≡ slot_sizes r (slots_of xs)
          → length (stored x.presence t (shown_slot texts x.presence t r x.word)) + length (stored_in xs (fields_of xs texts r))
          ≡ slot_sizes r (cond (is_text t) (bit_slot x.presence x.word (slots_of xs)) (slots_of xs))
      go text h b q = size-slot g texts r x.word l x.presence (length (stored_in xs (fields_of xs texts r))) (slots_of xs) b h q
      go number h b q = none-sized (length (stored_in xs (fields_of xs texts r))) (slot_sizes r (slots_of xs)) x.presence number x.word refl q
      go time h b q = none-sized (length (stored_in xs (fields_of xs texts r))) (slot_sizes r (slots_of xs)) x.presence time x.word refl q
      go timestamp h b q = none-sized (length (stored_in xs (fields_of xs texts r))) (slot_sizes r (slots_of xs)) x.presence timestamp x.word refl q
      go uuid h b q = none-sized (length (stored_in xs (fields_of xs texts r))) (slot_sizes r (slots_of xs)) x.presence uuid x.word refl q
      go flag h b q = none-sized (length (stored_in xs (fields_of xs texts r))) (slot_sizes r (slots_of xs)) x.presence flag x.word refl q
