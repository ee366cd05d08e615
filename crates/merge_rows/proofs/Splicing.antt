-- Texts put one behind the other into an area. Assumes nothing.
use Prim.Native.Nat.{ℕ, ◌+◌, ◌-◌, ◌≤◌}
use mathlib.Core.List.{List, [], ◌++◌, append_assoc}
use mathlib.Core.Path.{◌≡◌, sym, ap, ◌∙◌}
use native.Mathlib.Nat.{add-zero}
use native.Mathlib.Omega.{arith}
use lib.ListN.{length, take, drop, length-append, length-drop, take-append-drop}
use lib.Seq.{length-take-le, take_at, drop_at, drop-drop}
use Rattle.write_bytes.specs.of_area.Area.{laid}
use borrow.Rule.Slice.PartMut.{put_mid}
use Rattle.write_bytes.proofs.of_area.Laying.{laid-fits}
use Rattle.write_bytes.proofs.of_area.Parts.{rest_part, rest_back}
use Rattle.write_bytes.specs.of_schema.Stores.{splice}

module _ (fill : ℕ) (b : List ℕ) where
  pub splice-none : splice fill [] b ≡ b
  splice-none = ap (λ (n : ℕ). take fill b ++ drop n b) (add-zero fill) ∙ take-append-drop fill b

  module _ (p : List ℕ) (h : fill + length p ≤ length b) where
    pub spliced : take fill b ++ laid (drop fill b) p ≡ splice fill p b
    spliced =
        let d : length (drop fill b) ≡ length b - fill = length-drop fill b in
        ap (λ (l : List ℕ). take fill b ++ l) (laid-fits (drop fill b) p (omega arith))
        ∙ ap (λ (l : List ℕ). take fill b ++ (p ++ l)) (drop-drop (length p) fill b)

    front_length : length (take fill b ++ p) ≡ fill + length p
    front_length = length-append (take fill b) p ∙ ap (λ (n : ℕ). n + length p) (length-take-le fill b (omega arith))

    again : splice fill p b ≡ (take fill b ++ p) ++ drop (fill + length p) b
    again = sym (append_assoc (take fill b) p (drop (fill + length p) b))

    pub length-splice : length (splice fill p b) ≡ length b
    length-splice =
        let d : length (drop (fill + length p) b) ≡ length b - (fill + length p) = length-drop (fill + length p) b in
        let e : length (splice fill p b) ≡ length (take fill b ++ p) + length (drop (fill + length p) b) =
        ap length again ∙ length-append (take fill b ++ p) (drop (fill + length p) b) in
        let f = front_length in
        omega arith

    take-splice : take (fill + length p) (splice fill p b) ≡ take fill b ++ p
    take-splice = ap (take (fill + length p)) again ∙ take_at (take fill b ++ p) (drop (fill + length p) b) (fill + length p) front_length

    drop-splice : drop (fill + length p) (splice fill p b) ≡ drop (fill + length p) b
    drop-splice = ap (drop (fill + length p)) again ∙ drop_at (take fill b ++ p) (drop (fill + length p) b) (fill + length p) front_length

    -- one text behind another
    pub splice-then : (q : List ℕ) → splice (fill + length p) q (splice fill p b) ≡ splice fill (p ++ q) b
    splice-then q =
        let n : fill + length p + length q ≡ fill + length (p ++ q) = (let e = length-append p q in omega arith) in
        ap (λ (l : List ℕ). l ++ (q ++ drop (fill + length p + length q) (splice fill p b))) take-splice
        ∙ ap (λ (l : List ℕ). (take fill b ++ p) ++ (q ++ l))
        (sym (drop-drop (length q) (fill + length p) (splice fill p b)) ∙ ap (drop (length q)) drop-splice ∙ drop-drop (length q) (fill + length p) b)
        ∙ append_assoc (take fill b) p (q ++ drop (fill + length p + length q) b)
        ∙ ap (λ (l : List ℕ). take fill b ++ l) (sym (append_assoc p q (drop (fill + length p + length q) b)))
        ∙ ap (λ (m : ℕ). take fill b ++ ((p ++ q) ++ drop m b)) n

-- a text that a call put into the part of an area from fill on
pub put_back : (b s ys : List ℕ) (fill : ℕ) → fill + length s ≤ length b → ys ≡ laid (take (length b - fill) (drop fill b)) s → put_mid fill (length b - fill) b ys ≡ splice fill s b
put_back b s ys fill h e =
    rest_back b fill ys ∙ ap (λ (l : List ℕ). take fill b ++ l) (e ∙ ap (λ (l : List ℕ). laid l s) (rest_part b fill)) ∙ spliced fill b s h

-- two texts, one behind the other
module _ (fill : ℕ) (b₀ p q : List ℕ) (h : fill + length (p ++ q) ≤ length b₀) where
  pub first_fits : fill + length p ≤ length b₀
  first_fits = let e = length-append p q in omega arith

  pub same_size : {b₁ : List ℕ} → b₁ ≡ splice fill p b₀ → length b₁ ≡ length b₀
  same_size e = ap length e ∙ length-splice fill b₀ p first_fits

  pub second_fits : {a : ℕ} {b₁ : List ℕ} → a ≡ fill + length p → b₁ ≡ splice fill p b₀ → a + length q ≤ length b₁
  second_fits x e = let n = same_size e in let l = length-append p q in omega arith

  pub two : {a : ℕ} {b₁ b₂ : List ℕ} → a ≡ fill + length p → b₁ ≡ splice fill p b₀ → b₂ ≡ splice a q b₁ → b₂ ≡ splice fill (p ++ q) b₀
  two {a} {b₁} {b₂} x e k =
      k ∙ ap (λ (n : ℕ). splice n q b₁) x ∙ ap (splice (fill + length p) q) e ∙ splice-then fill b₀ p first_fits q

  pub two_size : {a n : ℕ} → a ≡ fill + length p → n ≡ a + length q → n ≡ fill + length (p ++ q)
  two_size x y = let l = length-append p q in omega arith

-- three
module _ (fill : ℕ) (b₀ p q s : List ℕ) (h : fill + length (p ++ (q ++ s)) ≤ length b₀) {a : ℕ} {b₁ : List ℕ} (x : a ≡ fill + length p) (e : b₁ ≡ splice fill p b₀) where
  rest : a + length (q ++ s) ≤ length b₁
  rest = second_fits fill b₀ p (q ++ s) h x e

  pub middle-fits : a + length q ≤ length b₁
  middle-fits = first_fits a b₁ q s rest

  pub middle-size : length b₁ ≡ length b₀
  middle-size = same_size fill b₀ p (q ++ s) h e

  pub third-fits : {b : ℕ} {b₂ : List ℕ} → b ≡ a + length q → b₂ ≡ splice a q b₁ → b + length s ≤ length b₂
  third-fits y f = second_fits a b₁ q s rest y f

  pub third-size : {b₂ : List ℕ} → b₂ ≡ splice a q b₁ → length b₂ ≡ length b₀
  third-size f = same_size a b₁ q s rest f ∙ middle-size

  pub three : {b : ℕ} {b₂ b₃ : List ℕ} → b ≡ a + length q → b₂ ≡ splice a q b₁ → b₃ ≡ splice b s b₂ → b₃ ≡ splice fill (p ++ (q ++ s)) b₀
  three y f g = two fill b₀ p (q ++ s) h x e (two a b₁ q s rest y f g)

  pub three-size : {b n : ℕ} → b ≡ a + length q → n ≡ b + length s → n ≡ fill + length (p ++ (q ++ s))
  three-size y w = two_size fill b₀ p (q ++ s) h x (two_size a b₁ q s rest y w)

-- four
module _
    (fill : ℕ) (b₀ p q s t : List ℕ) (h : fill + length (p ++ (q ++ (s ++ t))) ≤ length b₀)
    {a : ℕ} {b₁ : List ℕ} (x : a ≡ fill + length p) (e : b₁ ≡ splice fill p b₀)
    {b : ℕ} {b₂ : List ℕ} (y : b ≡ a + length q) (f : b₂ ≡ splice a q b₁) where
  last : b + length (s ++ t) ≤ length b₂
  last = third-fits fill b₀ p q (s ++ t) h x e y f

  pub of_four-fits : b + length s ≤ length b₂
  of_four-fits = first_fits b b₂ s t last

  pub fourth-fits : {c : ℕ} {b₃ : List ℕ} → c ≡ b + length s → b₃ ≡ splice b s b₂ → c + length t ≤ length b₃
  fourth-fits z g = second_fits b b₂ s t last z g

  pub fourth-size : {b₃ : List ℕ} → b₃ ≡ splice b s b₂ → length b₃ ≡ length b₀
  fourth-size g = same_size b b₂ s t last g ∙ third-size fill b₀ p q (s ++ t) h x e f

  pub four : {c : ℕ} {b₃ b₄ : List ℕ} → c ≡ b + length s → b₃ ≡ splice b s b₂ → b₄ ≡ splice c t b₃ → b₄ ≡ splice fill (p ++ (q ++ (s ++ t))) b₀
  four z g k = three fill b₀ p q (s ++ t) h x e y f (two b b₂ s t last z g k)

  pub four-size : {c n : ℕ} → c ≡ b + length s → n ≡ c + length t → n ≡ fill + length (p ++ (q ++ (s ++ t)))
  four-size z w = three-size fill b₀ p q (s ++ t) h x e y (two_size b b₂ s t last z w)
