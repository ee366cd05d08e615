-- Two keys for which as many bytes would be stored are compared byte by byte. Assumes nothing.
use Prim.Native.Nat.{ℕ, ◌+◌, ◌≤◌, ◌<◌}
use mathlib.Core.Path.{◌≡◌, refl, sym, ap, ◌∙◌}
use mathlib.Core.List.{List, ◌∷◌}
use mathlib.Core.Bool.{Bool, true, false}
use native.Mathlib.Omega.{arith}
use lib.ListN.{length, get_or, drop, length-drop}
use lib.Dec.{leb, ltb}
use Rattle.text_key.proofs.of_area.Lists.{drop-next}
use Rattle.text_key.specs.of_text.Value.{value_text}
use Rattle.key_order.specs.inside.KeyOrder.{comes}
use Rattle.key_order.proofs.Commoning.{Commoning, commoning-start, commoning-more, commoning_unlike, commoning-done}
use Rattle.key_order.proofs.Testing.{by_length, by_number, by_byte}
use Rattle.key_order.specs.of_table.Event.{key_at}
use Rattle.clean_order.specs.inside.CleanOrder.{comes_by}
use Rattle.clean_order.specs.declared.Next.{Next}
use Rattle.clean_order.specs.inside.Following.{rest_of, Follows}

-- what is left of a key's bytes behind the first k
pub record Stood (key : List ℕ) (k : ℕ) (r : Next) : Type 0 where
  pub within : r.at ≤ length key
  pub rest : drop k (value_text key) ≡ rest_of key r.at r.passed

pub record Walking (a b : List ℕ) (n k : ℕ) (x y : Next) : Type 0 where
  pub common : Commoning (value_text a) (value_text b) n k
  pub first : Stood a k x
  pub second : Stood b k y

pub stood-start : (key : List ℕ) (r : Next) → r.at ≡ 0 → r.passed ≡ 0 → Stood key 0 r
stood-start key r e f = record {
  within = omega arith;
  rest = ap (λ (i : ℕ). rest_of key i 0) (sym e) ∙ ap (rest_of key r.at) (sym f);
}

module _ {key : List ℕ} {k : ℕ} {r s : Next} (z : Stood key k r) (h : k < length (value_text key)) (f : Follows key r.at r.passed s) where
  some : 0 < length (rest_of key r.at r.passed)
  some = let e = ap length z.rest in let l = length-drop k (value_text key) in omega arith

  whole : get_or (value_text key) k 0 ∷ drop (k + 1) (value_text key) ≡ s.byte ∷ rest_of key s.at s.passed
  whole = sym (drop-next (value_text key) k h) ∙ z.rest ∙ f.rest some

  pub stood-byte : get_or (value_text key) k 0 ≡ s.byte
  stood-byte = ap (λ (l : List ℕ). get_or l 0 0) whole

  pub stood-more : Stood key (k + 1) s
  stood-more = record { within = f.within; rest = ap (drop 1) whole }

module _ {a b : List ℕ} {n : ℕ} (p : n ≡ length (value_text a)) (q : n ≡ length (value_text b)) where
  pub walking_start : (x y : Next) → x.at ≡ 0 → x.passed ≡ 0 → y.at ≡ 0 → y.passed ≡ 0 → Walking a b n 0 x y
  walking_start x y e f g h = record { common = commoning-start (omega arith); first = stood-start a x e f; second = stood-start b y g h }

  module _ {k : ℕ} {x y : Next} (w : Walking a b n k x y) where
    pub walking-done : n ≤ k → (i j : ℕ) → leb i j ≡ comes (value_text a) (value_text b) i j
    walking-done h i j =
        let l = w.common.fits in
        by_number refl refl i j (sym p ∙ q) (commoning-done w.common h) (omega arith)

    module _ (h : k < n) {s t : Next} (f : Follows a x.at x.passed s) (g : Follows b y.at y.passed t) where
      in-first : k < length (value_text a)
      in-first = omega arith

      in-second : k < length (value_text b)
      in-second = omega arith

      pub walking-more : s.byte ≡ t.byte → Walking a b n (k + 1) s t
      walking-more e = record {
        common = commoning-more w.common h (stood-byte w.first in-first f ∙ e ∙ sym (stood-byte w.second in-second g));
        first = stood-more w.first in-first f;
        second = stood-more w.second in-second g;
      }

      pub walking_unlike : (s.byte ≡ t.byte → ⊥) → (i j : ℕ) → ltb s.byte t.byte ≡ comes (value_text a) (value_text b) i j
      walking_unlike e i j =
          let u = stood-byte w.first in-first f in
          let v = stood-byte w.second in-second g in
          ap (λ (z : ℕ). ltb z t.byte) (sym u) ∙ ap (ltb (get_or (value_text a) k 0)) (sym v)
          ∙ by_byte refl refl i j (sym p ∙ q) (commoning_unlike w.common h (λ o. e (sym u ∙ o ∙ v))) (omega arith)

-- as many bytes would not be stored
pub other-lengths : (a b : List ℕ) (i j : ℕ) {n m : ℕ} → n ≡ length (value_text a) → m ≡ length (value_text b) → (n ≡ m → ⊥) → ltb n m ≡ comes (value_text a) (value_text b) i j
other-lengths a b i j {n} {m} p q h =
    ap (λ (k : ℕ). ltb k m) p ∙ ap (ltb (length (value_text a))) q ∙ by_length {a = value_text a} {b = value_text b} refl refl i j (λ e. h (p ∙ e ∙ sym q))

-- by what would be stored, and by the keys as they are
module _ (attributes source : List ℕ) (i j : ℕ) {r : Bool} where
  pub by-cleaned : {clean : Bool} {x y : List ℕ} → clean ≡ true → x ≡ key_at attributes source i → y ≡ key_at attributes source j → r ≡ comes (value_text x) (value_text y) i j
      → r ≡ comes_by clean attributes source i j
  by-cleaned {clean} {x} {y} e p q h =
      h ∙ ap (λ (k : List ℕ). comes (value_text k) (value_text y) i j) p ∙ ap (λ (k : List ℕ). comes (value_text (key_at attributes source i)) (value_text k) i j) q
      ∙ ap (λ (t : Bool). comes_by t attributes source i j) (sym e)

  pub by-raw : {clean : Bool} → clean ≡ false → r ≡ comes (key_at attributes source i) (key_at attributes source j) i j → r ≡ comes_by clean attributes source i j
  by-raw e h = h ∙ ap (λ (t : Bool). comes_by t attributes source i j) (sym e)
