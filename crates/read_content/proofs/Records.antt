-- Records one behind the other in an area: what a change at one of them does to all. Assumes nothing.
use Prim.Native.Nat.{ℕ, zero, suc, ◌+◌, ◌*◌, ◌≤◌, ◌<◌}
use mathlib.Core.Path.{◌≡◌, refl, sym, ap, ◌∙◌}
use mathlib.Core.Bool.{Bool, true, false, cond}
use mathlib.Core.List.{List, [], ◌∷◌, ◌++◌, append_assoc}
use native.Mathlib.Omega.{arith}
use lib.Dec.{ltb}
use lib.ListN.{length, get_or, set, take, drop, length-append, length-set, take-append-drop, get_or-append, get_or-eq_default}
use lib.Seq.{take_at, drop_at, drop-drop, take-add, set-append_left, get_or-append-add}
use borrow.Author.Tests.{ltb-false, le-ltb}
use Rattle.trim.specs.of_utf8.Characters.{joined}
use Rattle.read_rules.specs.of_tree_record.Record.{marked}
use Rattle.read_attributes.specs.of_tree_put.Put.{put_pair, put_text}
use Rattle.read_attributes.proofs.of_tree_put.Puts.{pair-length, pair-other, text-length}
use Rattle.read_rules.proofs.of_tree_record.Marks.{marked-front, marked-behind, marked_other}
use Rattle.read_attributes.specs.of_read_element.Attributes.{changed}
use Rattle.read_attributes.specs.of_read_element.inside.Held.{Keyed}
use Rattle.read_content.specs.Content.{killed, kept}
use Rattle.read_content.specs.inside.Holds.{in_record, Whole, kind_in}

-- records put behind others: their words stand behind the others' words
pub joined-append : (rs qs : List (List ℕ)) → joined (rs ++ qs) ≡ joined rs ++ joined qs
joined-append [] qs = refl
joined-append (r ∷ rs) qs = ap (λ (l : List ℕ). r ++ l) (joined-append rs qs) ∙ sym (append_assoc r (joined rs) (joined qs))

-- whole records behind whole records are whole
pub whole_append : (rs qs : List (List ℕ)) → Whole rs → Whole qs → Whole (rs ++ qs)
whole_append [] qs h k = k
whole_append (r ∷ rs) qs h k = (h.0, whole_append rs qs h.1 k)

-- records of extras are whole
pub keyed-whole : (n : ℕ) (rs : List (List ℕ)) → Keyed n rs → Whole rs
keyed-whole n [] k = k
keyed-whole n (r ∷ rs) k = (k.0, keyed-whole n rs k.1.1)

-- whole records take 32 words each
pub joined-size : (rs : List (List ℕ)) → Whole rs → length (joined rs) ≡ length rs * 32
joined-size [] h = refl
joined-size (r ∷ rs) h =
    let a = length-append r (joined rs) in
    let b = joined-size rs h.1 in
    let e = h.0 in
    let s : length (joined (r ∷ rs)) ≡ 32 + length rs * 32 = omega arith in
    let t : 32 + length rs * 32 ≡ suc (length rs) * 32 = omega arith in
    s ∙ t

pub whole-at : (rs : List (List ℕ)) (i : ℕ) → Whole rs → i < length rs → length (get_or rs i []) ≡ 32
whole-at [] i w h = absurd (omega arith)
whole-at (r ∷ rs) zero w h = w.0
whole-at (r ∷ rs) (suc i) w h = whole-at rs i w.1 (omega arith)

-- ---- a record changed
-- a change of the record at the front of a part
abbrev pub Local : (List ℕ → List ℕ) → Type 0
Local f = (r t : List ℕ) → length r ≡ 32 → f (r ++ t) ≡ f r ++ t

-- a change of record i in the words is that change in the list of records
pub joined-changed : (f : List ℕ → List ℕ) → Local f → (rs : List (List ℕ)) (i : ℕ) (z : List ℕ) → Whole rs → i < length rs → in_record i f (joined rs ++ z) ≡ joined (changed i f rs) ++ z
joined-changed f loc [] i z k h = absurd (omega arith)
joined-changed f loc (r ∷ rs) zero z k h = ap f (append_assoc r (joined rs) z) ∙ loc r (joined rs ++ z) k.0 ∙ sym (append_assoc (f r) (joined rs) z)
joined-changed f loc (r ∷ rs) (suc i) z k h =
    let w : List ℕ = r ++ (joined rs ++ z) in
    let a : (r ++ joined rs) ++ z ≡ r ++ (joined rs ++ z) = append_assoc r (joined rs) z in
    let s : suc i * 32 ≡ 32 + i * 32 = omega arith in
    let d : drop 32 (r ++ (joined rs ++ z)) ≡ joined rs ++ z = drop_at r (joined rs ++ z) 32 k.0 in
    let t : take 32 (r ++ (joined rs ++ z)) ≡ r = take_at r (joined rs ++ z) 32 k.0 in
    let ih = joined-changed f loc rs i z k.1 (omega arith) in
    ap (λ (x : List ℕ). take (suc i * 32) x ++ f (drop (suc i * 32) x)) a
    ∙ ap (λ (m : ℕ). take m (r ++ (joined rs ++ z)) ++ f (drop m (r ++ (joined rs ++ z)))) s
    ∙ ap (λ (x : List ℕ). x ++ f (drop (32 + i * 32) (r ++ (joined rs ++ z)))) (take-add 32 (i * 32) (r ++ (joined rs ++ z)))
    ∙ ap (λ (x : List ℕ). (take 32 (r ++ (joined rs ++ z)) ++ take (i * 32) (drop 32 (r ++ (joined rs ++ z)))) ++ f x) (sym (drop-drop (i * 32) 32 (r ++ (joined rs ++ z))))
    ∙ ap (λ (x : List ℕ). (x ++ take (i * 32) (drop 32 (r ++ (joined rs ++ z)))) ++ f (drop (i * 32) (drop 32 (r ++ (joined rs ++ z))))) t
    ∙ ap (λ (x : List ℕ). (r ++ take (i * 32) x) ++ f (drop (i * 32) x)) d
    ∙ append_assoc r (take (i * 32) (joined rs ++ z)) (f (drop (i * 32) (joined rs ++ z)))
    ∙ ap (λ (x : List ℕ). r ++ x) ih
    ∙ sym (append_assoc r (joined (changed i f rs)) z)

pub pair-local : (o a b : ℕ) → o + 1 < 32 → Local (put_pair o a b)
pair-local o a b h r t e =
    ap (λ (x : List ℕ). set x (o + 1) b) (set-append_left r t o a (omega arith))
    ∙ set-append_left (set r o a) t (o + 1) b (rw (length-set r o a) (omega arith))

marked-local : (k : ℕ) → Local (marked k)
marked-local k r t e =
    sym (take-append-drop 32 (marked k (r ++ t)))
    ∙ ap (λ (x : List ℕ). x ++ drop 32 (marked k (r ++ t))) (marked-front k (r ++ t) 32 (omega arith) ∙ ap (marked k) (take_at r t 32 e))
    ∙ ap (λ (x : List ℕ). marked k r ++ x) (marked-behind k (r ++ t) 32 (omega arith) ∙ drop_at r t 32 e)

text-local : (o k s n : ℕ) → o + 1 < 32 → Local (put_text o k s n)
text-local o k s n h r t e = ap (marked k) (pair-local o s n h r t e) ∙ marked-local k (put_pair o s n r) t (pair-length o s n r ∙ e)

-- a text put where it is taken
module _ (o k s n : ℕ) where
  -- putting a text, or leaving it out where it isn't taken, touches one record alone
  pub kept-local : (taken : Bool) → o + 1 < 32 → Local (kept taken (put_text o k s n))
  kept-local true h = text-local o k s n h
  kept-local false h = λ r t e. refl

  -- putting a text, or leaving it out, leaves the record's length
  pub kept-size : (taken : Bool) (r : List ℕ) → length (kept taken (put_text o k s n) r) ≡ length r
  kept-size true r = text-length o k s n r
  kept-size false r = refl

  -- putting a text, or leaving it out, leaves the record's kind
  pub kept-kind : (taken : Bool) → 2 ≤ o → (r : List ℕ) → get_or (kept taken (put_text o k s n) r) 0 0 ≡ get_or r 0 0
  kept-kind true h r = marked_other k (put_pair o s n r) 0 (omega arith) ∙ pair-other o s n r 0 (omega arith) (omega arith)
  kept-kind false h r = refl

pub killed-local : Local killed
killed-local [] t e = absurd (omega arith)
killed-local (w ∷ ws) t e = go (ltb w 16)
  where
    go : (b : Bool) → cond b ((w + 16) ∷ (ws ++ t)) (w ∷ (ws ++ t)) ≡ cond b ((w + 16) ∷ ws) (w ∷ ws) ++ t
    go true = refl
    go false = refl

-- a record marked dead is as long as it was
pub killed-size : (r : List ℕ) → length (killed r) ≡ length r
killed-size r = go (ltb (get_or r 0 0) 16)
  where
    go : (t : Bool) → length (cond t (set r 0 (get_or r 0 0 + 16)) r) ≡ length r
    go true = length-set r 0 (get_or r 0 0 + 16)
    go false = refl

-- ---- kinds of records killed
-- a record that is dead is left as it is
pub killed-dead : (r : List ℕ) → 16 ≤ get_or r 0 0 → killed r ≡ r
killed-dead r h = ap (λ (b : Bool). cond b (set r 0 (get_or r 0 0 + 16)) r) (le-ltb (get_or r 0 0) 16 h)

-- a record that has words is dead then
pub killed-kind : (r : List ℕ) → 1 ≤ length r → 16 ≤ get_or (killed r) 0 0
killed-kind [] h = absurd (omega arith)
killed-kind (w ∷ ws) h = go (ltb w 16) refl
  where
    go : (b : Bool) → ltb w 16 ≡ b → 16 ≤ get_or (cond b ((w + 16) ∷ ws) (w ∷ ws)) 0 0
    go true q = omega arith
    go false q = ltb-false w 16 q

-- ---- a list of records changed
-- a change of one record leaves the number of records
pub changed-size : (f : List ℕ → List ℕ) (i : ℕ) (rs : List (List ℕ)) → length (changed i f rs) ≡ length rs
changed-size f i [] = refl
changed-size f zero (r ∷ rs) = refl
changed-size f (suc i) (r ∷ rs) = ap suc (changed-size f i rs)

-- records stay whole if one of them is changed and keeps its length
pub changed-whole : (f : List ℕ → List ℕ) → ((r : List ℕ) → length (f r) ≡ length r) → (i : ℕ) (rs : List (List ℕ)) → Whole rs → Whole (changed i f rs)
changed-whole f h i [] w = w
changed-whole f h zero (r ∷ rs) w = (h r ∙ w.0, w.1)
changed-whole f h (suc i) (r ∷ rs) w = (w.0, changed-whole f h i rs w.1)

-- the record itself, and every other
pub changed-here : (f : List ℕ → List ℕ) → f [] ≡ [] → (i : ℕ) (rs : List (List ℕ)) → get_or (changed i f rs) i [] ≡ f (get_or rs i [])
changed-here f h i [] = sym h
changed-here f h zero (r ∷ rs) = refl
changed-here f h (suc i) (r ∷ rs) = changed-here f h i rs

pub changed-there : (f : List ℕ → List ℕ) (i j : ℕ) (rs : List (List ℕ)) → (j ≡ i → ⊥) → get_or (changed i f rs) j [] ≡ get_or rs j []
changed-there f i j [] h = refl
changed-there f zero zero (r ∷ rs) h = absurd (h refl)
changed-there f zero (suc j) (r ∷ rs) h = refl
changed-there f (suc i) zero (r ∷ rs) h = refl
changed-there f (suc i) (suc j) (r ∷ rs) h = changed-there f i j rs (λ e. h (ap suc e))

-- a change that keeps the kind
pub changed-kind : (f : List ℕ → List ℕ) → ((r : List ℕ) → get_or (f r) 0 0 ≡ get_or r 0 0) → (i : ℕ) (rs : List (List ℕ)) (j : ℕ) → kind_in (changed i f rs) j ≡ kind_in rs j
changed-kind f h i [] j = refl
changed-kind f h zero (r ∷ rs) zero = h r
changed-kind f h zero (r ∷ rs) (suc j) = refl
changed-kind f h (suc i) (r ∷ rs) zero = refl
changed-kind f h (suc i) (r ∷ rs) (suc j) = changed-kind f h i rs j

-- ---- records behind records
-- the kinds of records that others stand behind
pub kind-front : (rs qs : List (List ℕ)) (i : ℕ) → i < length rs → kind_in (rs ++ qs) i ≡ kind_in rs i
kind-front rs qs i h = ap (λ (r : List ℕ). get_or r 0 0) (get_or-append rs qs [] i h)

-- the kinds of records that stand behind others
pub kind-behind : (rs qs : List (List ℕ)) (j : ℕ) → kind_in (rs ++ qs) (length rs + j) ≡ kind_in qs j
kind-behind rs qs j = ap (λ (r : List ℕ). get_or r 0 0) (get_or-append-add rs qs j [])

pub kind-past : (rs : List (List ℕ)) (i : ℕ) → length rs ≤ i → kind_in rs i ≡ 0
kind-past rs i h = ap (λ (r : List ℕ). get_or r 0 0) (get_or-eq_default rs [] {n = i} h)
