-- The stored keys in the areas are those of what was given. Assumes nothing.
use Prim.Native.Nat.{ℕ, zero, suc, ◌+◌, ◌*◌, ◌≤◌, ◌<◌}
use mathlib.Core.Path.{◌≡◌, sym, ap, ◌∙◌}
use mathlib.Core.List.{List, [], ◌∷◌, ◌++◌, append_assoc}
use native.Mathlib.Omega.{arith}
use lib.ListN.{length, get_or, drop, length-append}
use lib.Seq.{drop_at, drop-drop}
use Rattle.read_places.specs.of_area.Area.{zeros}
use Rattle.read_places.specs.of_utf8.Characters.{joined}
use Rattle.read_places.specs.of_tree_record.Record.{text_at}
use Rattle.read_places.specs.of_read_element.Attributes.{Given}
use Rattle.read_places.specs.of_read_element.inside.Held.{Keyed, Held}
use Rattle.read_each.proofs.of_read_extras.Choosing.{text_in}
use Rattle.read_places.specs.inside.Stands.{stored_key}
use Rattle.read_each.proofs.Apart.{key_texts, length-texts}
use Rattle.read_each.proofs.Kept.{Kept}

stored-from : (own texts z : List ℕ) (rs : List (List ℕ)) (i : ℕ) (y : List ℕ) → drop (i * 32 + 32) own ≡ joined rs ++ y → Keyed (length texts) rs
    → (n : ℕ) → n < length rs → stored_key own (texts ++ z) (i + n) ≡ get_or (key_texts texts rs) n []
stored-from own texts z [] i y e k n h = absurd (omega arith)
stored-from own texts z (r ∷ rs) i y e k n h = go n h (λ a b. stored-from own texts z rs (i + 1) y next k.1.1 a b)
  where
    here : drop (i * 32 + 32) own ≡ r ++ (joined rs ++ y)
    here = e ∙ append_assoc r (joined rs) y

    next : drop ((i + 1) * 32 + 32) own ≡ joined rs ++ y
    next =
        let s : (i + 1) * 32 + 32 ≡ (i * 32 + 32) + 32 = omega arith in
        ap (λ (n : ℕ). drop n own) s ∙ sym (drop-drop 32 (i * 32 + 32) own) ∙ ap (drop 32) here ∙ drop_at r (joined rs ++ y) 32 k.0

    go : (n : ℕ) → n < length (r ∷ rs) → ((a : ℕ) → a < length rs → stored_key own (texts ++ z) (i + 1 + a) ≡ get_or (key_texts texts rs) a [])
        → stored_key own (texts ++ z) (i + n) ≡ get_or (key_texts texts (r ∷ rs)) n []
    go zero h ih =
        let s : i + 0 ≡ i = omega arith in
        ap (λ (m : ℕ). stored_key own (texts ++ z) m) s ∙ ap (λ (l : List ℕ). text_at (texts ++ z) l 2) here ∙ text_in texts z r (joined rs ++ y) k.0 k.1.0
    go (suc a) h ih =
        let s : i + suc a ≡ i + 1 + a = omega arith in
        ap (λ (m : ℕ). stored_key own (texts ++ z) m) s ∙ ih a (omega arith)

pub stored-held : {own text : List ℕ} {extras fill : ℕ} {g : Given} → Held own text extras fill g → (i : ℕ) → i < extras → stored_key own text i ≡ get_or (key_texts g.texts g.extras) i []
stored-held {own} {text} {extras} {fill} {g} hd i h =
    let s : i ≡ 0 + i = omega arith in
    ap (λ (t : List ℕ). stored_key own t i) hd.stored
    ∙ ap (λ (m : ℕ). stored_key own (g.texts ++ zeros hd.left) m) s
    ∙ stored-from own g.texts (zeros hd.left) g.extras 0 (zeros hd.room)
    (ap (drop 32) hd.records ∙ drop_at g.main (joined g.extras ++ zeros hd.room) 32 hd.main-words) hd.keyed i (let c = hd.count in omega arith)

module _ {own text : List ℕ} {extras fill : ℕ} {g : Given} {own' text' : List ℕ} {extras' fill' : ℕ}
    {h : Given} {key : List ℕ} (hd : Held own text extras fill g) (hd' : Held own' text' extras' fill' h) (k : Kept key g h) where
  sizes : extras' ≡ extras + length k.more
  sizes =
      let a = ap length k.same ∙ length-append (key_texts g.texts g.extras) k.more in
      let b = length-texts g.texts g.extras in
      let c = length-texts h.texts h.extras in
      let d = hd.count in
      let e = hd'.count in
      omega arith

  pub kept-most : extras' ≤ extras + 1
  kept-most = let s = sizes in let f = k.few in omega arith
