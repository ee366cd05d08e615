-- An entry put as XML. Assumes nothing.
use Prim.Native.Nat.{ℕ, ◌<◌}
use mathlib.Core.Path.{◌≡◌, refl, sym, ap, ◌∙◌}
use mathlib.Core.List.{List, [], ◌∷◌, ◌++◌, append-nil}
use mathlib.Core.Bool.{Bool, true, false, cond, ◌&&◌, ◌||◌}
use borrow.Author.Tests.{leb-false}
use lib.Dec.{leb, eqb}
use Rattle.std.specs.Prelude.{Option, Some, None}
use Rattle.write_codes.specs.of_area.Limits.{most_bytes}
use Rattle.write_bytes.specs.of_list_text.inside.Behind.{filled, Puts}
use Rattle.write_bytes.proofs.of_list_text.Putting.{more, other}
use Rattle.write_form.specs.of_write_table.Laid.{Item, entry, pair}
use Rattle.write_form.specs.of_write_table.inside.Forms.{is_text, entry_text, key_text, value_text, form_behind, level_behind, before, behind, key_in, quote_in}
use Rattle.write_form.specs.of_write_table.inside.Putting.{none, xml, Spelling, with_text, put_text, spell, Areas, held, Wrote}
use Rattle.write_form.proofs.of_write_table.Writing.{wrote-text, wrote-shut}
use Rattle.write_marks.specs.declared.Marks.{Marks}
use Rattle.write_marks.specs.inside.Kept.{kept, shut_by, entry_more, text_more}
use Rattle.write_marks.proofs.Storing.{put-says, full-says, never-put}

-- ---- a table's own bytes
pub table-entry : (form level kind : ℕ) (s : List ℕ) → form ≡ 0 → before form level kind ++ (s ++ behind form kind) ≡ s
table-entry form level kind s z = rw z (append-nil s)

pub table-key : (form : ℕ) (key : List ℕ) → form ≡ 0 → key_in form key ≡ key
table-key form key z = rw z refl

pub table-value : (form : ℕ) (value : List ℕ) → form ≡ 0 → value ++ quote_in form ≡ value
table-value form value z = rw z (append-nil value)

-- ---- XML
abbrev areas : (form level : ℕ) → Option ℕ → ℕ → ℕ → List ℕ → List ℕ → List ℕ → Areas
areas form level m e a ev at by = record { mark = m; form = form; level = level; events = e; attributes = a; event_area = ev; attribute_area = at; byte_area = by }

module _ (form level : ℕ) (z : eqb form 0 ≡ false) (m : Option ℕ) (e a : ℕ) (ev at by : List ℕ) (i : Item) where
  abbrev s : Areas
  s = areas form level m e a ev at by

  abbrev h : ℕ → Spelling
  h b = record { form = form; level = level; bytes = b; byte_area = by }

  held-xml : (b : ℕ) → m ≡ Some b → held s ≡ xml (h b)
  held-xml b p = rw (p, z) refl

  -- it isn't put
  shut-text : (t : Areas) → ((b : ℕ) → spell (h b) i ≡ none) → t.mark ≡ None → Wrote s (i ∷ []) t
  shut-text t n q = go m refl
    where
      go : (x : Option ℕ) → m ≡ x → Wrote s (i ∷ []) t
      go (Some b) p = wrote-text s t i (held-xml b p) (rw q (sym (n b)))
      go None p = wrote-shut s t (i ∷ []) p q

  -- its text is put, or has no room
  module _ (form' level' : ℕ) (z' : eqb form' 0 ≡ false) (to : Option ℕ) (by' f : List ℕ) (w : Puts (filled m by) f (filled to by'))
      (n : (b : ℕ) → spell (h b) i ≡ put_text (h b) f form' level') where
    abbrev t : Areas
    t = areas form' level' to e a ev at by'

    text-put : Wrote s (i ∷ []) t
    text-put = go m to refl refl
      where
        go : (x y : Option ℕ) → m ≡ x → to ≡ y → Wrote s (i ∷ []) t
        go None (Some d) p q = absurd (never-put by f d (rw (p, q) at w))
        go None None p q = wrote-shut s t (i ∷ []) p q
        go (Some b) None p q =
            let u = full-says b by f (rw (p, q) at w) in
            wrote-text s t i (held-xml b p) (rw q (sym (n b ∙ rw u refl)))
        go (Some b) (Some d) p q =
            let u = put-says b by f (rw (p, q) at w) in
            let g : held t ≡ xml (with_text (h b) f form' level') = rw (q, z', u.1, u.2) refl in
            wrote-text s t i (held-xml b p) (g ∙ sym (n b ∙ rw u.0 refl))

-- the form stays XML
still-xml : (form kind : ℕ) → eqb form 0 ≡ false → eqb (form_behind form kind) 0 ≡ false
unfolding form_behind
still-xml form kind z = go (eqb kind 0 || eqb kind 2) (eqb kind 1) (eqb kind 6) (is_text kind || eqb kind 9)
  where
    go : (p q r s : Bool) → eqb (cond p 2 (cond q 1 (cond r 3 (cond s 4 form)))) 0 ≡ false
    go true q r s = refl
    go false true r s = refl
    go false false true s = refl
    go false false false true = refl
    go false false false false = z

module _ (k : Marks) (to : Option ℕ) (n : ℕ) (ev at by by' : List ℕ) (z : eqb k.form 0 ≡ false) where
  -- an entry, with what stands around it
  pub entry-spelt : (kind : ℕ) (s : List ℕ) → Puts (filled k.bytes by) (before k.form k.level kind ++ (s ++ behind k.form kind)) (filled to by')
      → Wrote (kept k ev at by) (entry kind s n ∷ []) (kept (entry_more k to kind) ev at by')
  unfolding spell
  entry-spelt kind s w = go (eqb kind 0 && leb most_bytes k.level) refl
    where
      i : Item
      i = entry kind s n

      f-is : before k.form k.level kind ++ (s ++ behind k.form kind) ≡ entry_text k.form k.level kind s
      f-is = rw z refl

      go : (t : Bool) → (eqb kind 0 && leb most_bytes k.level) ≡ t → Wrote (kept k ev at by) (i ∷ []) (kept (entry_more k to kind) ev at by')
      go true e = shut-text k.form k.level z k.bytes k.events k.attributes ev at by i (kept (entry_more k to kind) ev at by') (λ b. rw e refl) (rw e refl)
      go false e = rw e (text-put k.form k.level z k.bytes k.events k.attributes ev at by i (form_behind k.form kind) (level_behind k.level kind)
          (still-xml k.form kind z) to by' (entry_text k.form k.level kind s) (other w f-is) (λ b. rw e refl))

  -- an attribute
  pub pair-spelt : (mid : Option ℕ) (byᵐ key value : List ℕ) → Puts (filled k.bytes by) (key_in k.form key) (filled mid byᵐ) → Puts (filled mid byᵐ) (value ++ quote_in k.form) (filled to by')
      → Wrote (kept k ev at by) (pair key value ∷ []) (kept (text_more k to) ev at by')
  unfolding spell
  pair-spelt mid byᵐ key value w v =
      let p : key_in k.form key ≡ key_text key = rw z refl in
      let q : value ++ quote_in k.form ≡ value_text value = rw z refl in
      text-put k.form k.level z k.bytes k.events k.attributes ev at by (pair key value) k.form k.level z to by' (key_text key ++ value_text value)
      (more (other w p) (other v q)) (λ b. refl)

-- ---- the marks behind an entry
module _ (k : Marks) (to : Option ℕ) (kind : ℕ) where
  pub entry-shut : (eqb kind 0 && leb most_bytes k.level) ≡ true → shut_by k ≡ entry_more k to kind
  entry-shut h = rw h refl

  pub entry-goes : (eqb kind 0 && leb most_bytes k.level) ≡ false → (form level : ℕ) → form ≡ form_behind k.form kind → level ≡ level_behind k.level kind → (b : Option ℕ) → to ≡ b
      → ◌≡◌ {A = Marks} (record { events = k.events; attributes = k.attributes; form = form; level = level; bytes = b }) (entry_more k to kind)
  entry-goes h form level e f b q = rw (h, e, f, q) refl

pub text-goes : (k : Marks) (to b : Option ℕ) → to ≡ b
    → ◌≡◌ {A = Marks} (record { events = k.events; attributes = k.attributes; form = k.form; level = k.level; bytes = b }) (text_more k to)
text-goes k to b q = rw q refl

-- a Start that isn't refused for its level
pub level-below : (kind level : ℕ) → (eqb kind 0 && leb most_bytes level) ≡ false → kind ≡ 0 → level < 16777216
level-below kind level h e = leb-false most_bytes level (sym (ap (λ (n : ℕ). eqb n 0 && leb most_bytes level) e) ∙ h)
