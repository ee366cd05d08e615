-- Classes of characters: intervals that meet them, a code point in an interval, and that they hold code points of UTF-8 only. Assumes
-- nothing.
use Prim.Native.Nat.{ℕ, ◌+◌, ◌-◌, ◌≤◌, ◌<◌, max}
use mathlib.Core.Path.{◌≡◌, refl}
use mathlib.Core.List.{List, [], ◌∷◌}
use mathlib.Core.Bool.{Bool, true, false, cond, ◌&&◌, ◌||◌, false≢true, and-eq-true_iff}
use native.Mathlib.Omega.{arith}
use borrow.Author.Tests.{le-leb, leb-true, eqb-true}
use lib.Dec.{leb, eqb}
use Rattle.utf8.specs.Characters.{is_scalar}
use Rattle.xml_chars.specs.Chars.{Range, to, crosses, meets, is_in, any_char, name_start, name_char, is_space, is_digit, is_hex, lower}
use Rattle.xml_chars.specs.Bytes.{Left, span, fits}

pub or_cases : (x y : Bool) {C : Type 0} → (x || y) ≡ true → (x ≡ true → C) → (y ≡ true → C) → C
or_cases true y e f g = f refl
or_cases false y e f g = g e

pub or_left : (x y : Bool) → x ≡ true → (x || y) ≡ true
or_left x y e = rw e refl

pub or_right : (x y : Bool) → y ≡ true → (x || y) ≡ true
or_right true y e = refl
or_right false y e = e

pub crosses-in : (a z low high : ℕ) → crosses a z low high ≡ true → (a ≤ z) × (low ≤ high) × (a ≤ high) × (low ≤ z)
unfolding crosses
crosses-in a z low high e =
    let p = (and-eq-true_iff (leb a z && leb low high && leb a high) (leb low z)).0 e in
    let q = (and-eq-true_iff (leb a z && leb low high) (leb a high)).0 p.0 in
    let r = (and-eq-true_iff (leb a z) (leb low high)).0 q.0 in
    (leb-true a z r.0, leb-true low high r.1, leb-true a high q.1, leb-true low z p.1)

pub in-crosses : (a z low high : ℕ) → a ≤ z → low ≤ high → a ≤ high → low ≤ z → crosses a z low high ≡ true
unfolding crosses
in-crosses a z low high h i j k = simp (le-leb a z h, le-leb low high i, le-leb a high j, le-leb low z k)

pub meets-wide : (cls : List Range) (c low high : ℕ) → is_in cls c ≡ true → low ≤ c → c ≤ high → meets cls low high ≡ true
meets-wide [] c low high e h k = absurd (false≢true e)
meets-wide (to a z ∷ rs) c low high e h k =
    or_cases (crosses a z c c) (meets rs c c) e
    (λ x. let p = crosses-in a z c c x in or_left (crosses a z low high) (meets rs low high) (in-crosses a z low high (omega arith) (omega arith) (omega arith) (omega arith)))
    (λ y. or_right (crosses a z low high) (meets rs low high) (meets-wide rs c low high y h k))

-- a code point of the class from low to high
abbrev pub pick : List Range → ℕ → ℕ → ℕ
pick [] low high = 0
pick (to a z ∷ rs) low high = cond (crosses a z low high) (max a low) (pick rs low high)

abbrev pub Picked : List Range → ℕ → ℕ → ℕ → Type 0
Picked cls low high c = (low ≤ c) × (c ≤ high) × (is_in cls c ≡ true)

pub pick-in : (cls : List Range) (low high : ℕ) → meets cls low high ≡ true → Picked cls low high (pick cls low high)
pick-in [] low high e = absurd (false≢true e)
pick-in (to a z ∷ rs) low high e = go (crosses a z low high) refl (pick-in rs low high)
  where
    go : (x : Bool) → crosses a z low high ≡ x → (meets rs low high ≡ true → Picked rs low high (pick rs low high)) →
        Picked (to a z ∷ rs) low high (pick (to a z ∷ rs) low high)
    go true x ih =
        let p = crosses-in a z low high x in
        rw x (omega arith, omega arith, or_left (crosses a z (max a low) (max a low)) _ (in-crosses a z (max a low) (max a low) (omega arith) (omega arith) (omega arith) (omega arith)))
    go false x ih =
        let q = ih (rw x at e) in
        rw x (q.0, q.1, or_right (crosses a z (pick rs low high) (pick rs low high)) _ q.2)

pub fits-of : (cls : List Range) (low : ℕ) (l : Left) (least c : ℕ) → is_in cls c ≡ true → low ≤ c → c ≤ low + (span l - 1) → least ≤ c → fits cls low l least ≡ true
unfolding fits
fits-of cls low l least c e h k j = meets-wide cls c (max low least) (low + (span l - 1)) e (omega arith) k

-- all code points of a class are code points of UTF-8
abbrev pub scalars : List Range → Bool
scalars [] = true
scalars (to a z ∷ rs) = (leb z 0xD7FF || (leb 0xE000 a && leb z 0x10FFFF)) && scalars rs

range-scalar : (a z c : ℕ) → (leb z 0xD7FF || (leb 0xE000 a && leb z 0x10FFFF)) ≡ true → a ≤ c → c ≤ z → is_scalar c ≡ true
range-scalar a z c e h k =
    or_cases (leb z 0xD7FF) (leb 0xE000 a && leb z 0x10FFFF) e
    (λ x. let p = leb-true z 0xD7FF x in or_left (leb c 0xD7FF) _ (le-leb c 0xD7FF (omega arith)))
    (λ y.
    let q = (and-eq-true_iff (leb 0xE000 a) (leb z 0x10FFFF)).0 y in
    let i = leb-true 0xE000 a q.0 in
    let j = leb-true z 0x10FFFF q.1 in
    or_right (leb c 0xD7FF) _ (simp (le-leb 0xE000 c (omega arith), le-leb c 0x10FFFF (omega arith))))

pub class-scalar : (cls : List Range) (c : ℕ) → scalars cls ≡ true → is_in cls c ≡ true → is_scalar c ≡ true
class-scalar [] c l m = absurd (false≢true m)
class-scalar (to a z ∷ rs) c l m =
    let p = (and-eq-true_iff (leb z 0xD7FF || (leb 0xE000 a && leb z 0x10FFFF)) (scalars rs)).0 l in
    or_cases (crosses a z c c) (meets rs c c) m
    (λ e. let q = crosses-in a z c c e in range-scalar a z c p.0 q.2 q.3)
    (λ e. class-scalar rs c p.1 e)

pub in-scalar : (c : ℕ) → is_in any_char c ≡ true → is_scalar c ≡ true
in-scalar c m = class-scalar any_char c refl m

pub start-scalar : (c : ℕ) → is_in name_start c ≡ true → is_scalar c ≡ true
start-scalar c m = class-scalar name_start c refl m

pub name-scalar : (c : ℕ) → is_in name_char c ≡ true → is_scalar c ≡ true
name-scalar c m = class-scalar name_char c refl m

-- a character that may begin a name may go on in it
pub start-name : (c : ℕ) → is_in name_start c ≡ true → is_in name_char c ≡ true
start-name c m =
    or_right (crosses 0x2D 0x2E c c) _
    (or_right (crosses 0x30 0x39 c c) _
    (or_right (crosses 0xB7 0xB7 c c) _
    (or_right (crosses 0x300 0x36F c c) _ (or_right (crosses 0x203F 0x2040 c c) _ m))))

pub low_scalar : (c : ℕ) → c < 0xD800 → is_scalar c ≡ true
low_scalar c h = or_left (leb c 0xD7FF) _ (le-leb c 0xD7FF (omega arith))

-- white space, digits and letters are ASCII
pub space-low : (c : ℕ) → is_space c ≡ true → c ≤ 0x20
space-low c e =
    or_cases (eqb c 0x20) _ e (λ x. let p = eqb-true c 0x20 x in omega arith)
    (λ e. or_cases (eqb c 0x9) _ e (λ x. let p = eqb-true c 0x9 x in omega arith)
    (λ e. or_cases (eqb c 0xD) (eqb c 0xA) e (λ x. let p = eqb-true c 0xD x in omega arith) (λ x. let p = eqb-true c 0xA x in omega arith)))

pub digit_low : (c : ℕ) → is_digit c ≡ true → c < 0x80
digit_low c e = let p = leb-true c 0x39 ((and-eq-true_iff (leb 0x30 c) (leb c 0x39)).0 e).1 in omega arith

pub hex-low : (c : ℕ) → is_hex c ≡ true → c < 0x80
hex-low c e =
    or_cases (is_digit c) _ e (λ x. digit_low c x)
    (λ e. or_cases (leb 0x61 c && leb c 0x66) (leb 0x41 c && leb c 0x46) e
    (λ x. let p = leb-true c 0x66 ((and-eq-true_iff (leb 0x61 c) (leb c 0x66)).0 x).1 in omega arith)
    (λ x. let p = leb-true c 0x46 ((and-eq-true_iff (leb 0x41 c) (leb c 0x46)).0 x).1 in omega arith))

pub lower-least : (c : ℕ) → c ≤ lower c
unfolding lower
lower-least c = go (leb 0x41 c && leb c 0x5A)
  where
    go : (x : Bool) → c ≤ cond x (c + 0x20) c
    go true = omega arith
    go false = omega arith
