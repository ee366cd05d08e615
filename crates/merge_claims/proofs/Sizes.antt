-- How many records and bytes a merged tree has. Assumes nothing.
use Prim.Native.Nat.{ℕ, suc, ◌+◌, ◌-◌}
use mathlib.Core.Path.{◌≡◌, refl, sym, ap, ap₂, subst, ◌∙◌}
use mathlib.Core.Bool.{Bool, true, false, cond, ◌&&◌, false≢true}
use mathlib.Core.List.{List, [], ◌∷◌, ◌++◌, append-nil}
use mathlib.Core.Option.{Option, none, some}
use lib.ListN.{length, get_or, length-append}
use Rattle.tree_merge.specs.of_schema.Report.{Text}
use Rattle.tree_merge.specs.of_schema.Schema.{Form, text, number, time, timestamp, uuid, flag, Presence, always, must, may, unkept, Row, behind, report, table_of}
use Rattle.tree_merge.specs.of_schema.Records.{Of, Held, given, is_set, value_at, good_value, zero_at, good_slot, good_from}
use Rattle.tree_merge.specs.of_schema.Texts.{read_value, shown_slot, fields_of, stored_value, stored, stored_in}
use Rattle.tree_merge.specs.of_schema.Elements.{report_fields}
use Rattle.tree_merge.specs.of_tree_record.Record.{kind_of}
use Rattle.tree_merge.specs.of_tree_report.Report.{Report}
use Rattle.tree_merge.proofs.of_tree_report.EncodeLists.{and_left, and_right, Each, done, more}
use Rattle.tree_merge.specs.Moved.{is_text, is_there, texts_of, texts_in, moved_from}
use Rattle.merge_claims.specs.Needs.{texts_by, text_bytes, name_bytes}
use Rattle.merge_claims.specs.inside.Stands as inside
use Rattle.merge_claims.proofs.Texts.{text-size}
use Rattle.merge_claims.proofs.Records.{rows-held}
use Rattle.merge_claims.proofs.Head.{head-texts}

-- ---- what is no text adds nothing
plain_value : (f : Form) → is_text f ≡ false → (v : Of Text f) → stored_value f v ≡ []
plain_value text e v = absurd (false≢true (sym e))
plain_value number e v = refl
plain_value time e v = refl
plain_value timestamp e v = refl
plain_value uuid e v = refl
plain_value flag e v = refl

plain-stored : (p : Presence) (f : Form) → is_text f ≡ false → (v : Held p (Of Text f)) → stored p f v ≡ []
plain-stored always f e v = plain_value f e v
plain-stored (must k) f e v = plain_value f e v
plain-stored (may k) f e none = refl
plain-stored (may k) f e (some v) = plain_value f e v
plain-stored unkept f e v = refl

-- ---- a record's texts are as long as its words say
module _ (t z r : List ℕ) where
  abbrev Sized : Presence → Form → ℕ → Type 0
  Sized p f o = length (stored p f (shown_slot (t ++ z) p f r o)) ≡ cond (is_text f && is_there p r) (get_or r (o + 1) 0) 0

  plain-sized : (p : Presence) (f : Form) (o : ℕ) → is_text f ≡ false → Sized p f o
  plain-sized p f o e = ap length (plain-stored p f e (shown_slot (t ++ z) p f r o)) ∙ sym (ap (λ (b : Bool). cond (b && is_there p r) (get_or r (o + 1) 0) 0) e)

  text-sized : (p : Presence) (o : ℕ) → good_slot t r p text o ≡ true → Sized p text o
  text-sized always o g = text-size t z (value_at text r o) g
  text-sized (must k) o g = text-size t z (value_at text r o) (and_right (is_set k r) (good_value t text (value_at text r o)) g)
  text-sized (may k) o g = go (is_set k r) g
    where
      go : (b : Bool) → cond b (good_value t text (value_at text r o)) (zero_at r o 2) ≡ true
          → length (stored (may k) text (given b (read_value (t ++ z) text (value_at text r o)))) ≡ cond b (get_or r (o + 1) 0) 0
      go true h = text-size t z (value_at text r o) h
      go false h = refl
  text-sized unkept o g = refl

  sized : (p : Presence) (f : Form) (o : ℕ) → good_slot t r p f o ≡ true → Sized p f o
  sized p text o g = text-sized p o g
  sized p number o g = plain-sized p number o refl
  sized p time o g = plain-sized p time o refl
  sized p timestamp o g = plain-sized p timestamp o refl
  sized p uuid o g = plain-sized p uuid o refl
  sized p flag o g = plain-sized p flag o refl

  fields-sized : (n : ℕ) (xs : List Row) → good_from t r n xs ≡ true → length (stored_in xs (fields_of xs (t ++ z) r)) ≡ texts_by xs r
  fields-sized n [] g = refl
  fields-sized n (x ∷ xs) g =
      let slot = good_slot t r x.presence x.form x.word in
      let rest = good_from t r (behind x) xs in
      let h = and_right (zero_at r n (x.word - n)) (slot && rest) g in
      length-append (stored x.presence x.form (shown_slot (t ++ z) x.presence x.form r x.word)) (stored_in xs (fields_of xs (t ++ z) r))
      ∙ ap₂ (λ (a b : ℕ). a + b) (sized x.presence x.form x.word (and_left slot rest h)) (fields-sized (behind x) xs (and_right slot rest h))

  record_sized : inside.Held t r → length (texts_of (t ++ z) r) ≡ texts_by (table_of (kind_of r)) r
  unfolding texts_of
  record_sized h = fields-sized 2 (table_of (kind_of r)) (rows-held t r h)

all-sized : (t z : List ℕ) {rs : List (List ℕ)} → Each (inside.Held t) rs → length (texts_in (t ++ z) rs) ≡ text_bytes rs
all-sized t z done = refl
all-sized t z (more {x = r} {xs = rs} h hs) = length-append (texts_of (t ++ z) r) (texts_in (t ++ z) rs) ∙ ap₂ (λ (a b : ℕ). a + b) (record_sized t z r h) (all-sized t z hs)

pub bytes_of : (t z s : List ℕ) → t ++ z ≡ s → {rs : List (List ℕ)} → Each (inside.Held t) rs → length (texts_in s rs) ≡ text_bytes rs
bytes_of t z s e {rs} h = subst (λ (l : List ℕ). length (texts_in l rs) ≡ text_bytes rs) e (all-sized t z h)

-- ---- records are copied one by one
pub length_moved : (s : List ℕ) (fill : ℕ) (rs : List (List ℕ)) → length (moved_from s fill rs) ≡ length rs
length_moved s fill [] = refl
length_moved s fill (r ∷ rs) = ap suc (length_moved s (fill + length (texts_of s r)) rs)

-- ---- of the merged report only its name is a text
name-sized : (o : Option Text) → length (stored (may 0) text o ++ []) ≡ name_bytes o
name-sized none = refl
name-sized (some s) = ap length (append-nil s)

pub head-sized : (m : Report) → length (stored_in report (report_fields m)) ≡ name_bytes m.name
head-sized m = ap length (head-texts m) ∙ name-sized m.name
