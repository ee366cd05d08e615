-- Items as XML: they are put exactly where their bytes have room, and their bytes are those of the events. Assumes nothing.
use Prim.Native.Nat.{ℕ, ◌+◌, ◌-◌, ◌≤◌, ◌<◌}
use mathlib.Core.Path.{◌≡◌, refl, sym, ap, ap₂, ◌∙◌}
use mathlib.Core.List.{List, [], ◌∷◌, ◌++◌, append_assoc, append-nil}
use mathlib.Core.Bool.{Bool, true, false, cond, not, ◌&&◌}
use native.Mathlib.Omega.{arith}
use native.Mathlib.Decide.{dec_le}
use borrow.Author.Tests.{le-leb, lt-leb, eqb-true}
use lib.Dec.{leb, eqb}
use lib.ListN.{length, length-append}
use Rattle.write_spelled.specs.of_area.Limits.{most_bytes}
use Rattle.write_spelled.specs.of_table.Event.{Attribute, Start, Empty, End, Text, CData, Ref, Other, Indent, Event, Tag, Piece, Eof, Fault}
use Rattle.write_spelled.specs.of_names.Bytes.{bytes}
use Rattle.write_spelled.specs.Spelled.{newline, line, attributes_text, spelled}
use Rattle.write_table.specs.Laid.{Item, entry, pair, pairs_of_it, items_of}
use Rattle.write_table.specs.inside.Forms.{free, closing, lead, before_entry, behind_entry, entry_text, key_text, value_text, form_behind, level_behind}
use Rattle.write_table.specs.inside.Putting.{over, Spelling, Kept, none, xml, with_text, put_text, spell, put_all}
use Rattle.write_table.proofs.Filling.{length_over, over_none, over-over}

-- ---- the bytes of items, and form and level behind them
unfoldable pub items_text : (form level : ℕ) → List Item → List ℕ
items_text form level [] = []
items_text form level (entry k s n ∷ is) = entry_text form level k s ++ items_text (form_behind form k) (level_behind level k) is
items_text form level (pair key value ∷ is) = (key_text key ++ value_text value) ++ items_text form level is

unfoldable pub last_form : ℕ → List Item → ℕ
last_form form [] = form
last_form form (entry k s n ∷ is) = last_form (form_behind form k) is
last_form form (pair key value ∷ is) = last_form form is

unfoldable pub last_level : ℕ → List Item → ℕ
last_level level [] = level
last_level level (entry k s n ∷ is) = last_level (level_behind level k) is
last_level level (pair key value ∷ is) = last_level level is

-- ---- their room
abbrev text_of : Spelling → List Item → List ℕ
text_of h is = items_text h.form h.level is

abbrev pub spelt : Spelling → List Item → Spelling
spelt h is = with_text h (text_of h is) (last_form h.form is) (last_level h.level is)

-- no more elements are open than there are bytes
pub record Near (h : Spelling) : Type 0 where
  pub level : h.level ≤ h.bytes
  pub within : h.bytes ≤ length h.byte_area
  pub most : length h.byte_area ≤ most_bytes

module _ (form level k : ℕ) (s : List ℕ) where
  abbrev f : List ℕ
  f = entry_text form level k s

  -- a Start has at least one byte
  start-bytes : k ≡ 0 → 1 ≤ length f
  unfolding before_entry
  start-bytes e =
      let a = length-append (before_entry form level k) (s ++ behind_entry k) in
      let b : before_entry form level k ≡ lead form level ++ bytes "<" = ap (before_entry form level) e in
      let c = length-append (lead form level) (bytes "<") in
      let d = ap length b in
      omega arith

  level-grows : level_behind level k ≤ level + length f
  unfolding level_behind
  level-grows = go (eqb k 0) (eqb k 2) refl
    where
      go : (x y : Bool) → eqb k 0 ≡ x → cond x (level + 1) (cond y (level - 1) level) ≤ level + length f
      go true y e = let b = start-bytes (eqb-true k 0 e) in omega arith
      go false true e = omega arith
      go false false e = omega arith

  level-small : level + length f ≤ most_bytes → (eqb k 0 && leb most_bytes level) ≡ false
  level-small h = go (eqb k 0) refl
    where
      go : (x : Bool) → eqb k 0 ≡ x → (x && leb most_bytes level) ≡ false
      go true e = let b = start-bytes (eqb-true k 0 e) in lt-leb most_bytes level (omega arith)
      go false e = refl

module _ (h : Spelling) (g : Near h) (f : List ℕ) (m n : ℕ) where
  text-fits : length f ≤ length h.byte_area - h.bytes → put_text h f m n ≡ xml (with_text h f m n)
  text-fits l = ap (λ (t : Bool). cond t (xml (with_text h f m n)) none) (le-leb (length f) (length h.byte_area - h.bytes) l)

  text-over : length h.byte_area - h.bytes < length f → put_text h f m n ≡ none
  text-over l = ap (λ (t : Bool). cond t (xml (with_text h f m n)) none) (lt-leb (length f) (length h.byte_area - h.bytes) l)

  near-text : n ≤ h.bytes + length f → length f ≤ length h.byte_area - h.bytes → Near (with_text h f m n)
  near-text p l =
      let a = g.within in
      let b = g.most in
      let o = length_over h.byte_area h.bytes f in
      record { level = p; within = omega arith; most = omega arith }

  -- what comes behind it
  behind-text : (r : List ℕ) (m' n' : ℕ) → length f ≤ length h.byte_area - h.bytes → with_text (with_text h f m n) r m' n' ≡ with_text h (f ++ r) m' n'
  behind-text r m' n' l =
      let a = g.within in
      let b : h.bytes + length f + length r ≡ h.bytes + length (f ++ r) = omega (arith, length-append f r) in
      let o = over-over h.byte_area h.bytes f r (omega arith) in
      λ i. record { form = m'; level = n'; bytes = b i; byte_area = o i }

either-none : {A : Type 0} (t : Bool) (x : A) → cond t x x ≡ x
either-none true x = refl
either-none false x = refl

spelt-none : (h : Spelling) → spelt h [] ≡ h
unfolding items_text last_form last_level
spelt-none h =
    let b : h.bytes + 0 ≡ h.bytes = omega arith in
    let o = over_none h.byte_area h.bytes in
    λ i. record { form = h.form; level = h.level; bytes = b i; byte_area = o i }

entry-fits : (h : Spelling) (k : ℕ) (s : List ℕ) (n : ℕ) → Near h → length (entry_text h.form h.level k s) ≤ length h.byte_area - h.bytes
    → spell h (entry k s n) ≡ xml (with_text h (entry_text h.form h.level k s) (form_behind h.form k) (level_behind h.level k))
unfolding spell
entry-fits h k s n g l =
    let a = g.level in
    let b = g.within in
    let c = g.most in
    rw (level-small h.form h.level k s (omega arith)) (text-fits h g (entry_text h.form h.level k s) (form_behind h.form k) (level_behind h.level k) l)

entry-over : (h : Spelling) (k : ℕ) (s : List ℕ) (n : ℕ) → Near h → length h.byte_area - h.bytes < length (entry_text h.form h.level k s) → spell h (entry k s n) ≡ none
unfolding spell
entry-over h k s n g l =
    rw (text-over h g (entry_text h.form h.level k s) (form_behind h.form k) (level_behind h.level k) l) (either-none (eqb k 0 && leb most_bytes h.level) none)

pair_fits : (h : Spelling) (key value : List ℕ) → Near h → length (key_text key ++ value_text value) ≤ length h.byte_area - h.bytes
    → spell h (pair key value) ≡ xml (with_text h (key_text key ++ value_text value) h.form h.level)
unfolding spell
pair_fits h key value g l = text-fits h g (key_text key ++ value_text value) h.form h.level l

pair-over : (h : Spelling) (key value : List ℕ) → Near h → length h.byte_area - h.bytes < length (key_text key ++ value_text value) → spell h (pair key value) ≡ none
unfolding spell
pair-over h key value g l = text-over h g (key_text key ++ value_text value) h.form h.level l

near-entry : (h : Spelling) (k : ℕ) (s : List ℕ) → Near h → length (entry_text h.form h.level k s) ≤ length h.byte_area - h.bytes
    → Near (with_text h (entry_text h.form h.level k s) (form_behind h.form k) (level_behind h.level k))
near-entry h k s g l =
    let a = level-grows h.form h.level k s in
    let b = g.level in
    near-text h g (entry_text h.form h.level k s) (form_behind h.form k) (level_behind h.level k) (omega arith) l

pub all-spelt : (h : Spelling) (is : List Item) → Near h → h.bytes + length (text_of h is) ≤ length h.byte_area → put_all (xml h) is ≡ xml (spelt h is)
unfolding put_all items_text last_form last_level
all-spelt h [] g l = ap xml (sym (spelt-none h))
all-spelt h (entry k s n ∷ is) g l =
    let f = entry_text h.form h.level k s in
    let r = items_text (form_behind h.form k) (level_behind h.level k) is in
    let w = with_text h f (form_behind h.form k) (level_behind h.level k) in
    let a = length-append f r in
    let o = length_over h.byte_area h.bytes f in
    let c = g.within in
    let u : length f ≤ length h.byte_area - h.bytes = omega arith in
    ap (λ (x : Kept). put_all x is) (entry-fits h k s n g u)
    ∙ all-spelt w is (near-entry h k s g u) (omega arith)
    ∙ ap xml (behind-text h g f (form_behind h.form k) (level_behind h.level k) r (last_form (form_behind h.form k) is) (last_level (level_behind h.level k) is) u)
all-spelt h (pair key value ∷ is) g l =
    let f = key_text key ++ value_text value in
    let r = text_of h is in
    let w = with_text h f h.form h.level in
    let a = length-append f r in
    let o = length_over h.byte_area h.bytes f in
    let c = g.within in
    let d = g.level in
    let u : length f ≤ length h.byte_area - h.bytes = omega arith in
    ap (λ (x : Kept). put_all x is) (pair_fits h key value g u)
    ∙ all-spelt w is (near-text h g f h.form h.level (omega arith) u) (omega arith)
    ∙ ap xml (behind-text h g f h.form h.level r (last_form h.form is) (last_level h.level is) u)

put-none : (is : List Item) → put_all none is ≡ none
unfolding put_all
put-none [] = refl
put-none (i ∷ is) = refl

none-behind : (h w : Spelling) (i : Item) (is : List Item) (f r : List ℕ) → Near h → length h.byte_area < h.bytes + length (f ++ r)
    → (length f ≤ length h.byte_area - h.bytes → (spell h i ≡ xml w) × (length w.byte_area ≡ length h.byte_area) × (w.bytes ≡ h.bytes + length f))
    → (length h.byte_area - h.bytes < length f → spell h i ≡ none)
    → (length f ≤ length h.byte_area - h.bytes → length w.byte_area < w.bytes + length r → put_all (xml w) is ≡ none)
    → put_all (spell h i) is ≡ none
none-behind h w i is f r g l fit over behind = go (dec_le (length f) (length h.byte_area - h.bytes))
  where
    go : Dec (length f ≤ length h.byte_area - h.bytes) → put_all (spell h i) is ≡ none
    go (yes u) =
        let a = length-append f r in
        let p = fit u in
        ap (λ (x : Kept). put_all x is) p.0 ∙ behind u (omega (arith, p.1, p.2))
    go (no u) = ap (λ (x : Kept). put_all x is) (over (omega arith)) ∙ put-none is

pub none-spelt : (h : Spelling) (is : List Item) → Near h → length h.byte_area < h.bytes + length (text_of h is) → put_all (xml h) is ≡ none
unfolding put_all items_text
none-spelt h [] g l = let c = g.within in absurd (omega arith)
none-spelt h (entry k s n ∷ is) g l =
    let f = entry_text h.form h.level k s in
    let w = with_text h f (form_behind h.form k) (level_behind h.level k) in
    none-behind h w (entry k s n) is f (items_text (form_behind h.form k) (level_behind h.level k) is) g l
    (λ u. (entry-fits h k s n g u, length_over h.byte_area h.bytes f, refl)) (entry-over h k s n g) (λ u v. none-spelt w is (near-entry h k s g u) v)
none-spelt h (pair key value ∷ is) g l =
    let f = key_text key ++ value_text value in
    let w = with_text h f h.form h.level in
    let d = g.level in
    none-behind h w (pair key value) is f (text_of h is) g l (λ u. (pair_fits h key value g u, length_over h.byte_area h.bytes f, refl)) (pair-over h key value g)
    (λ u v. none-spelt w is (near-text h g f h.form h.level (omega arith) u) v)

-- ---- the bytes of events
pairs-text : (form level : ℕ) (xs : List Attribute) (is : List Item) → items_text form level (pairs_of_it xs ++ is) ≡ attributes_text xs ++ items_text form level is
unfolding items_text
pairs-text form level [] is = refl
pairs-text form level (a ∷ xs) is =
    ap (λ (l : List ℕ). (key_text a.key ++ value_text a.value) ++ l) (pairs-text form level xs is)
    ∙ sym (append_assoc (key_text a.key ++ value_text a.value) (attributes_text xs) (items_text form level is))

pairs-form : (form : ℕ) (xs : List Attribute) (is : List Item) → last_form form (pairs_of_it xs ++ is) ≡ last_form form is
unfolding last_form
pairs-form form [] is = refl
pairs-form form (a ∷ xs) is = pairs-form form xs is

-- a tag: what comes before it, its name, its attributes, and what is spelled behind them
tag-joined : (c l o name at x e r : List ℕ) → x ++ e ≡ r → ((((c ++ l) ++ o) ++ (name ++ [])) ++ (at ++ x)) ++ e ≡ c ++ (l ++ (o ++ (name ++ (at ++ r))))
tag-joined c l o name at x e r h =
    append_assoc (((c ++ l) ++ o) ++ (name ++ [])) (at ++ x) e
    ∙ ap (λ (t : List ℕ). (((c ++ l) ++ o) ++ (name ++ [])) ++ t) (append_assoc at x e ∙ ap (λ (t : List ℕ). at ++ t) h)
    ∙ append_assoc ((c ++ l) ++ o) (name ++ []) (at ++ r)
    ∙ ap (λ (t : List ℕ). ((c ++ l) ++ o) ++ (t ++ (at ++ r))) (append-nil name)
    ∙ append_assoc (c ++ l) o (name ++ (at ++ r))
    ∙ append_assoc c l (o ++ (name ++ (at ++ r)))

-- a declaration
other-joined : (c l o s b x e r : List ℕ) → x ++ e ≡ r → ((((c ++ l) ++ o) ++ (s ++ b)) ++ x) ++ e ≡ c ++ (l ++ (o ++ (s ++ (b ++ r))))
other-joined c l o s b x e r h =
    append_assoc (((c ++ l) ++ o) ++ (s ++ b)) x e
    ∙ ap (λ (t : List ℕ). (((c ++ l) ++ o) ++ (s ++ b)) ++ t) h
    ∙ append_assoc ((c ++ l) ++ o) (s ++ b) r
    ∙ ap (λ (t : List ℕ). ((c ++ l) ++ o) ++ t) (append_assoc s b r)
    ∙ append_assoc (c ++ l) o (s ++ (b ++ r))
    ∙ append_assoc c l (o ++ (s ++ (b ++ r)))

-- a text
text-joined : (c s x e r : List ℕ) → x ++ e ≡ r → ((c ++ (s ++ [])) ++ x) ++ e ≡ c ++ (s ++ r)
text-joined c s x e r h =
    append_assoc (c ++ (s ++ [])) x e
    ∙ ap (λ (t : List ℕ). (c ++ (s ++ [])) ++ t) h
    ∙ append_assoc c (s ++ []) r
    ∙ ap (λ (t : List ℕ). c ++ (t ++ r)) (append-nil s)

indent-joined : (c l x e r : List ℕ) → x ++ e ≡ r → (((c ++ l) ++ []) ++ x) ++ e ≡ c ++ (l ++ r)
indent-joined c l x e r h =
    append_assoc ((c ++ l) ++ []) x e
    ∙ ap (λ (t : List ℕ). ((c ++ l) ++ []) ++ t) h
    ∙ ap (λ (t : List ℕ). t ++ r) (append-nil (c ++ l))
    ∙ append_assoc c l r

-- the items of a tag, whose attributes stand behind it
module _ (form level k : ℕ) (name : List ℕ) (n : ℕ) (xs : List Attribute) (is : List Item) where
  tag-text : items_text form level (entry k name n ∷ (pairs_of_it xs ++ is)) ≡ entry_text form level k name ++ (attributes_text xs ++ items_text (form_behind form k) (level_behind level k) is)
  unfolding items_text
  tag-text = ap (λ (l : List ℕ). entry_text form level k name ++ l) (pairs-text (form_behind form k) (level_behind level k) xs is)

  tag-form : last_form form (entry k name n ∷ (pairs_of_it xs ++ is)) ≡ last_form (form_behind form k) is
  unfolding last_form
  tag-form = pairs-form (form_behind form k) xs is

-- the bytes of items, with the end of the last tag behind them, are the end of the tag before and the events spelled out
pub items-spelled : (form level : ℕ) (es : List Event)
    → items_text form level (items_of es) ++ closing (last_form form (items_of es)) ≡ closing form ++ spelled level (not (eqb form free)) es
unfolding items_of items_text last_form spelled before_entry behind_entry form_behind level_behind
items-spelled form level [] = sym (append-nil (closing form))
items-spelled form level (Tag Start name first xs ∷ es) =
    ap₂ (λ (a b : List ℕ). a ++ b) (tag-text form level 0 name (length xs) xs (items_of es)) (ap closing (tag-form form level 0 name (length xs) xs (items_of es)))
    ∙ tag-joined (closing form) (line level (not (eqb form free))) (bytes "<") name (attributes_text xs) (items_text 2 (level + 1) (items_of es)) (closing (last_form 2 (items_of es)))
    (bytes ">" ++ spelled (level + 1) true es) (items-spelled 2 (level + 1) es)
items-spelled form level (Tag Empty name first xs ∷ es) =
    ap₂ (λ (a b : List ℕ). a ++ b) (tag-text form level 1 name (length xs) xs (items_of es)) (ap closing (tag-form form level 1 name (length xs) xs (items_of es)))
    ∙ tag-joined (closing form) (line level (not (eqb form free))) (bytes "<") name (attributes_text xs) (items_text 1 level (items_of es)) (closing (last_form 1 (items_of es)))
    (bytes "/>" ++ spelled level true es) (items-spelled 1 level es)
items-spelled form level (Tag End name first xs ∷ es) =
    ap₂ (λ (a b : List ℕ). a ++ b) (tag-text form level 2 name (length xs) xs (items_of es)) (ap closing (tag-form form level 2 name (length xs) xs (items_of es)))
    ∙ tag-joined (closing form) (line (level - 1) (not (eqb form free))) (bytes "</") name (attributes_text xs) (items_text 2 (level - 1) (items_of es)) (closing (last_form 2 (items_of es)))
    (bytes ">" ++ spelled (level - 1) true es) (items-spelled 2 (level - 1) es)
items-spelled form level (Piece Text s ∷ es) =
    text-joined (closing form) s (items_text 4 level (items_of es)) (closing (last_form 4 (items_of es))) (spelled level false es) (items-spelled 4 level es)
items-spelled form level (Piece CData s ∷ es) =
    text-joined (closing form) s (items_text 4 level (items_of es)) (closing (last_form 4 (items_of es))) (spelled level false es) (items-spelled 4 level es)
items-spelled form level (Piece Ref s ∷ es) =
    text-joined (closing form) s (items_text 4 level (items_of es)) (closing (last_form 4 (items_of es))) (spelled level false es) (items-spelled 4 level es)
items-spelled form level (Piece Other s ∷ es) =
    other-joined (closing form) (line level (not (eqb form free))) (bytes "<?") s (bytes "?>") (items_text 3 level (items_of es)) (closing (last_form 3 (items_of es)))
    (spelled level true es) (items-spelled 3 level es)
items-spelled form level (Piece Indent s ∷ es) =
    indent-joined (closing form) (newline level) (items_text 4 level (items_of es)) (closing (last_form 4 (items_of es))) (spelled level false es) (items-spelled 4 level es)
items-spelled form level (Eof ∷ es) = items-spelled form level es
items-spelled form level (Fault ∷ es) = items-spelled form level es

-- the form behind events that end in an Indent
pub form-append : (form : ℕ) (is js : List Item) → last_form form (is ++ js) ≡ last_form (last_form form is) js
unfolding last_form
form-append form [] js = refl
form-append form (entry k s n ∷ is) js = form-append (form_behind form k) is js
form-append form (pair key value ∷ is) js = form-append form is js
