-- An extra read as a new one or an old one. Assumes nothing.
use Prim.Native.Nat.{ℕ, suc, ◌+◌, ◌*◌, ◌≤◌, ◌<◌}
use mathlib.Core.Path.{◌≡◌, sym, ap, subst, ◌∙◌}
use mathlib.Core.Bool.{Bool, true, false, cond}
use mathlib.Core.List.{List, [], ◌∷◌, ◌++◌, append_assoc}
use native.Mathlib.Omega.{arith}
use borrow.Author.Tests.{le-leb, lt-leb}
use lib.Dec.{leb}
use lib.ListN.{length, get_or, take, drop, length-drop, get_or-append}
use lib.Seq.{drop_at, drop-drop, take-append-le, drop-append-le}
use Rattle.text_key.specs.of_area.Answer.{Answer, gives, refuses}
use Rattle.text_key.specs.of_area.Area.{zeros}
use Rattle.text_key.specs.of_refusal.Refusal.{Outcome}
use Rattle.text_key.specs.of_names.Names.{same_bytes}
use Rattle.read_extra_record.specs.of_table.Event.{Attribute}
use Rattle.text_key.specs.of_text.Value.{value_text, checked_of}
use Rattle.read_extra_record.specs.of_read_element.Outcome.{Place, Rooms, there, ◌>>=◌}
use Rattle.read_extra_record.specs.of_tree_record.Record.{text_at}
use Rattle.read_extra_record.specs.of_read_element.Attributes.{Given, place_of, old_extra, new_extra, read_extra}
use Rattle.text_key.specs.of_utf8.Characters.{joined}
use Rattle.read_extra_record.specs.of_read_element.inside.Held.{place_at, put_extra, Keyed, Held, Meets}
use Rattle.read_extra_record.specs.of_read_element.inside.Refines.{stopped}
use Rattle.read_extras.specs.inside.Hinted.{Hinted}
use Rattle.text_key.specs.of_refusal.declared.Cause.{Cause}

-- a stored key in the area is that of the texts
pub text_in : (texts z r t : List ℕ) → length r ≡ 32 → get_or r 2 0 + get_or r 3 0 ≤ length texts → text_at (texts ++ z) (r ++ t) 2 ≡ text_at texts r 2
text_in texts z r t e h =
    let d : length (drop (get_or r 2 0) texts) ≡ _ = length-drop (get_or r 2 0) texts in
    ap (λ (n : ℕ). take n (drop (get_or (r ++ t) 2 0) (texts ++ z))) (get_or-append r t 0 3 (omega arith))
    ∙ ap (λ (n : ℕ). take (get_or r 3 0) (drop n (texts ++ z))) (get_or-append r t 0 2 (omega arith))
    ∙ ap (take (get_or r 3 0)) (drop-append-le (get_or r 2 0) texts z (omega arith))
    ∙ take-append-le (get_or r 3 0) (drop (get_or r 2 0) texts) z (omega arith)

place-from : (own texts z key : List ℕ) (rs : List (List ℕ)) (i : ℕ) (y : List ℕ) → drop (i * 32 + 32) own ≡ joined rs ++ y → Keyed (length texts) rs
    → place_at own (texts ++ z) key (length rs) i ≡ i + place_of texts key rs
unfolding place_at
place-from own texts z key [] i y e k = omega arith
place-from own texts z key (r ∷ rs) i y e k = go (same_bytes (text_at texts r 2) key) (place-from own texts z key rs (i + 1) y next k.1.1)
  where
    here : drop (i * 32 + 32) own ≡ r ++ (joined rs ++ y)
    here = e ∙ append_assoc r (joined rs) y

    next : drop ((i + 1) * 32 + 32) own ≡ joined rs ++ y
    next =
        let s : (i + 1) * 32 + 32 ≡ (i * 32 + 32) + 32 = omega arith in
        ap (λ (n : ℕ). drop n own) s ∙ sym (drop-drop 32 (i * 32 + 32) own) ∙ ap (drop 32) here ∙ drop_at r (joined rs ++ y) 32 k.0

    told : same_bytes (text_at (texts ++ z) (drop (i * 32 + 32) own) 2) key ≡ same_bytes (text_at texts r 2) key
    told = ap (λ (l : List ℕ). same_bytes (text_at (texts ++ z) l 2) key) here ∙ ap (λ (l : List ℕ). same_bytes l key) (text_in texts z r (joined rs ++ y) k.0 k.1.0)

    go : (b : Bool) → place_at own (texts ++ z) key (length rs) (i + 1) ≡ (i + 1) + place_of texts key rs
        → cond (same_bytes (text_at (texts ++ z) (drop (i * 32 + 32) own) 2) key) i (place_at own (texts ++ z) key (length rs) (i + 1))
        ≡ i + cond (same_bytes (text_at texts r 2) key) 0 (suc (place_of texts key rs))
    go b ih = ap (λ (t : Bool). cond t i (place_at own (texts ++ z) key (length rs) (i + 1))) told ∙ by (same_bytes (text_at texts r 2) key)
      where
        by : (t : Bool) → cond t i (place_at own (texts ++ z) key (length rs) (i + 1)) ≡ i + cond t 0 (suc (place_of texts key rs))
        by true = omega arith
        by false = omega arith

-- the code's search for a key among the extras in the area is the definition's among its records
pub place-held : {own text : List ℕ} {extras fill : ℕ} {g : Given} → Held own text extras fill g → (key : List ℕ) → place_at own text key extras 0 ≡ place_of g.texts key g.extras
place-held {own} {text} {extras} {fill} {g} hd key =
    ap (λ (t : List ℕ). place_at own t key extras 0) hd.stored
    ∙ ap (λ (n : ℕ). place_at own (g.texts ++ zeros hd.left) key n 0) hd.count
    ∙ place-from own g.texts (zeros hd.left) key g.extras 0 (zeros hd.room)
    (ap (drop 32) hd.records ∙ drop_at g.main (joined g.extras ++ zeros hd.room) 32 hd.main-words) hd.keyed
    ∙ omega arith

-- a hint, in the areas
pub hint-held : {own text : List ℕ} {extras fill : ℕ} {g : Given} → Held own text extras fill g → (key : List ℕ) {hint : ℕ} → Hinted hint g key → hint ≤ extras → place_at own text key extras 0 ≡ hint
hint-held hd key k h = place-held hd key ∙ k (let c = hd.count in omega arith)

pub hint-keyed : {hint : ℕ} (g : Given) {a b : List ℕ} → a ≡ b → Hinted hint g (value_text a) → Hinted hint g (value_text b)
hint-keyed {hint} g e k h = ap (λ (l : List ℕ). place_of g.texts (value_text l) g.extras) (sym e) ∙ k h

module _ {own text : List ℕ} {extras fill : ℕ} {g : Given} (hd : Held own text extras fill g) (rooms : Rooms) (p : Place) (used kind : ℕ)
    (key value : List ℕ) {own' text' : List ℕ} {a : Answer (ℕ × ℕ)} {i : ℕ} (e : i ≡ place_at own text key extras 0) where
  choose : (b : Bool) → leb (length g.extras) i ≡ b → Meets p own' text' (cond b (new_extra rooms p used kind key value g) (old_extra rooms p value i g)) a
      → Meets p own' text' (put_extra rooms p used kind key value g) a
  unfolding put_extra
  choose b q m =
      subst (λ (j : ℕ). Meets p own' text' (cond (leb (length g.extras) j) (new_extra rooms p used kind key value g) (old_extra rooms p value j g)) a) (e ∙ place-held hd key)
      (subst (λ (t : Bool). Meets p own' text' (cond t (new_extra rooms p used kind key value g) (old_extra rooms p value i g)) a) (sym q) m)

  pub choose_old : i < extras → Meets p own' text' (old_extra rooms p value i g) a → Meets p own' text' (put_extra rooms p used kind key value g) a
  choose_old h m = choose false (lt-leb (length g.extras) i (let c = hd.count in omega arith)) m

  pub choose-new : extras ≤ i → Meets p own' text' (new_extra rooms p used kind key value g) a → Meets p own' text' (put_extra rooms p used kind key value g) a
  choose-new h m = choose true (le-leb (length g.extras) i (let c = hd.count in omega arith)) m

-- one step behind another
module _ {A : Type 0} {p : Place} {own text : List ℕ} {m : Answer A} (k : A → Outcome Given) where
  pub meets-first : {n : Cause} → refuses n ≡ m → Meets p own text (there p m >>= k) (refuses n)
  unfolding ◌>>=◌ there
  meets-first {n} e = subst (λ (x : Answer A). Meets p own text (there p x >>= k) (refuses n)) e stopped

  pub meets-then : {b : A} {r : Answer (ℕ × ℕ)} → gives b ≡ m → Meets p own text (k b) r → Meets p own text (there p m >>= k) r
  unfolding ◌>>=◌ there
  meets-then {b} {r} e q = subst (λ (x : Answer A). Meets p own text (there p x >>= k) r) e q

module _ (rooms : Rooms) (p : Place) (used kind : ℕ) (x : Attribute) (g : Given) {key value own text : List ℕ} (ek : x.key ≡ key) (ev : x.value ≡ value) where
  pub read-key : {n : Cause} → refuses n ≡ checked_of key → Meets p own text (read_extra rooms p used kind x g) (refuses n)
  unfolding read_extra
  read-key e = meets-first _ (e ∙ ap checked_of (sym ek))

  module _ (good : gives tt ≡ checked_of key) where
    pub read-value : {n : Cause} → refuses n ≡ checked_of value → Meets p own text (read_extra rooms p used kind x g) (refuses n)
    unfolding read_extra
    read-value e = meets-then _ (good ∙ ap checked_of (sym ek)) (meets-first _ (e ∙ ap checked_of (sym ev)))

    pub read-put : {a : Answer (ℕ × ℕ)} → gives tt ≡ checked_of value
        → Meets p own text (put_extra rooms p used kind (value_text key) (value_text value) g) a → Meets p own text (read_extra rooms p used kind x g) a
    unfolding read_extra put_extra
    read-put {a} e m =
        meets-then _ (good ∙ ap checked_of (sym ek)) (meets-then _ (e ∙ ap checked_of (sym ev))
        (subst (λ (l : List ℕ). Meets p own text (put_extra rooms p used kind (value_text l) (value_text x.value) g) a) (sym ek)
        (subst (λ (l : List ℕ). Meets p own text (put_extra rooms p used kind (value_text key) (value_text l) g) a) (sym ev) m)))
