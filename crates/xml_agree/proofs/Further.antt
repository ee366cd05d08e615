-- A further byte of a character: what the code takes is what the definition takes. Assumes nothing.
use Prim.Native.Nat.{ℕ, ◌+◌, ◌-◌, ◌*◌, ◌%◌, ◌≤◌, max}
use mathlib.Core.Path.{◌≡◌, refl, ap, ◌∙◌}
use mathlib.Core.List.{List, [], ◌∷◌}
use mathlib.Core.Bool.{Bool, true, false, cond, ◌&&◌, ◌||◌, false≢true}
use native.Mathlib.Omega.{arith}
use borrow.Author.Tests.{leb-true, leb-false, ltb-true, ltb-false, lt-ltb, le-ltb}
use lib.Dec.{leb, ltb, eqb}
use lib.ListN.{get_or}
use Rattle.xml_rep.specs.of_xml_chars.Chars as chars
use Rattle.xml_rep.specs.of_xml_chars.Chars.{crosses, meets, any_char, name_start, name_char, to}
use Rattle.xml_rep.specs.of_xml_chars.Bytes.{Left, one, two, three, Part, whole, part, fits}
use Rattle.xml_rep.specs.of_xml_machine.State.{State, Stay, no, go}
use Rattle.xml_rep.specs.of_xml_machine.Machine.{follow, begun}
use Rattle.xml_rep.specs.of_xml_machine.Tokens.{Marks}
use Rattle.xml_rep.specs.of_xml_stack.Stack.{Range}
use Rattle.xml_rep.specs.of_xml_state.declared.Part.{Part as Open}
use Rattle.xml_rep.specs.of_xml_state.declared.class.Class.{Class}
use Rattle.xml_rep.specs.of_xml_state.declared.class.Class.TheVariants.{Any, Start, Name}
use Rattle.std.specs.Prelude.{Option, Some, None}
use Rattle.xml_rep.specs.of_xml_state.declared.State.{State as Registers}
use Rattle.xml_rep.specs.of_xml_state.inside.Rows as row
use Rattle.xml_rep.specs.of_xml_state.inside.Parts.{class_of, unit_of, part_of, follow_of}
use Rattle.xml_rep.specs.of_xml_state.inside.Registers.{in_mode, with_part}
use Rattle.xml_rep.specs.of_xml_state.inside.Acts.{further_by, further_of, acted_of}
use Rattle.xml_rep.specs.of_xml_state.inside.Puts.{turned, act_on}
use Rattle.xml_rep.specs.inside.Rep.{left_of, Parted, Partly, Moded, Homed, Placed, Rep}
use Rattle.xml_rep.specs.inside.Agree.{Agree, wrong}
use Rattle.xml_agree.proofs.Agreeing.{moved, Level, stayed}

-- ---- a code point of a class is below 0x110000
abbrev low : List chars.Range → Bool
low [] = true
low (to a z ∷ rs) = leb z 0x10FFFF && low rs

and_left : (x y : Bool) → (x && y) ≡ true → x ≡ true
and_left true y e = refl
and_left false y e = absurd (false≢true e)

and_right : (x y : Bool) → (x && y) ≡ true → y ≡ true
and_right true y e = e
and_right false y e = absurd (false≢true e)

crosses-low : (a z from end : ℕ) → crosses a z from end ≡ true → from ≤ z
unfolding crosses
crosses-low a z from end e = leb-true from z (and_right (leb a z && leb from end && leb a end) (leb from z) e)

meets-low : (cls : List chars.Range) (from end : ℕ) → low cls ≡ true → meets cls from end ≡ true → from ≤ 0x10FFFF
meets-low [] from end l e = absurd (false≢true e)
meets-low (to a z ∷ rs) from end l e = by (crosses a z from end) refl e (meets-low rs from end (and_right (leb z 0x10FFFF) (low rs) l))
  where
    by : (x : Bool) → crosses a z from end ≡ x → (x || meets rs from end) ≡ true → (meets rs from end ≡ true → from ≤ 0x10FFFF) → from ≤ 0x10FFFF
    by true c t more = omega (arith, crosses-low a z from end c, leb-true z 0x10FFFF (and_left (leb z 0x10FFFF) (low rs) l))
    by false c t more = more t

class_low : (c : Class) → low (class_of c) ≡ true
class_low Any = refl
class_low Start = refl
class_low Name = refl

-- ---- the byte's range, both ways
byte-in : (b : ℕ) → (ltb b 0x80 || ltb 0xBF b) ≡ cond (leb 0x80 b && ltb b 0xC0) false true
byte-in b = by (leb 0x80 b) (ltb b 0xC0) refl refl
  where
    by : (x y : Bool) → leb 0x80 b ≡ x → ltb b 0xC0 ≡ y → (ltb b 0x80 || ltb 0xBF b) ≡ cond (x && y) false true
    by true true e f = rw (le-ltb b 0x80 (leb-true 0x80 b e), le-ltb 0xBF b (omega (arith, ltb-true b 0xC0 f))) refl
    by true false e f = rw (le-ltb b 0x80 (leb-true 0x80 b e), lt-ltb 0xBF b (omega (arith, ltb-false b 0xC0 f))) refl
    by false y e f = rw (lt-ltb b 0x80 (leb-false 0x80 b e)) refl

abbrev further : ℕ → ℕ → ℕ → ℕ
further low b unit = low + (b - 0x80) * unit

-- ---- what the code takes, over the numbers of the open character
abbrev takes : List chars.Range → Class → ℕ → ℕ → ℕ → ℕ → Option Open
takes cls class left low least b =
    cond (ltb b 0x80 || ltb 0xBF b) None
    (cond (meets cls (max (further low b (unit_of left)) least) (further low b (unit_of left) + (unit_of left - 1)))
    (Some (part_of class (left - 1) (further low b (unit_of left) % 4294967296) least)) None)

takes-law : (class : Class) (left low least b : ℕ) → takes (class_of class) class left low least b ≡
    cond (leb 0x80 b && ltb b 0xC0)
    (cond (meets (class_of class) (max (further low b (unit_of left)) least) (further low b (unit_of left) + (unit_of left - 1))) (Some (part_of class (left - 1) (further low b (unit_of left)) least)) None) None
takes-law class left low least b = rw (byte-in b) (by (leb 0x80 b && ltb b 0xC0) (meets (class_of class) (max l least) (l + (unit_of left - 1))) refl)
  where
    l : ℕ
    l = further low b (unit_of left)

    by : (x y : Bool) → meets (class_of class) (max l least) (l + (unit_of left - 1)) ≡ y → cond (cond x false true) None (cond y (Some (part_of class (left - 1) (l % 4294967296) least)) None) ≡ cond x (cond y (Some (part_of class (left - 1) l least)) None) None
    by true true e = let h : l % 4294967296 ≡ l = omega (arith, meets-low (class_of class) (max l least) (l + (unit_of left - 1)) (class_low class) e) in rw h refl
    by true false e = refl
    by false y e = refl

follow-law : (cls : List chars.Range) (low : ℕ) (l : Left) (least b : ℕ) (p : Open) → Parted cls low l least p →
    follow_of p b ≡ cond (leb 0x80 b && ltb b 0xC0)
    (cond (meets cls (max (further low b (unit_of (left_of l))) least) (further low b (unit_of (left_of l)) + (unit_of (left_of l) - 1))) (Some (part_of p.class (left_of l - 1) (further low b (unit_of (left_of l))) least)) None) None
unfolding follow_of
follow-law cls low l least b p d =
    ap (λ (x : ℕ). takes (class_of p.class) p.class x p.low p.least b) d.1 ∙ ap (λ (x : ℕ). takes (class_of p.class) p.class (left_of l) x p.least b) d.2
    ∙ ap (λ (x : ℕ). takes (class_of p.class) p.class (left_of l) low x b) d.3 ∙ takes-law p.class (left_of l) low least b
    ∙ ap (λ (x : List chars.Range). cond (leb 0x80 b && ltb b 0xC0) (cond (meets x (max (further low b (unit_of (left_of l))) least) (further low b (unit_of (left_of l)) + (unit_of (left_of l) - 1))) (Some (part_of p.class (left_of l - 1) (further low b (unit_of (left_of l))) least)) None) None) d.0

module _ (src : List ℕ) (at : ℕ) {st : Registers} {m : Marks} {n : ℕ} {rs : List Range} where
  further-agrees : (x y : Bool) (q : Open) (u : State) → follow_of st.part (get_or src at 0) ≡ cond x (cond y (Some q) None) None →
      Rep src (at + 1) (with_part q (in_mode (cond (eqb q.left 0) st.then st.mode) st)) u m n rs → Agree src at st m n rs (row.to row.within row.further) (cond x (cond y (go Stay u) no) no)
  unfolding act_on acted_of further_of
  further-agrees true true q u e r = stayed (with_part q (in_mode (cond (eqb q.left 0) st.then st.mode) st)) u (λ events attributes. ap (λ (x : Option Open). turned (further_by x st) events attributes) e) refl refl r
  further-agrees true false q u e r = wrong (λ events attributes. ap (λ (x : Option Open). turned (further_by x st) events attributes) e)
  further-agrees false y q u e r = wrong (λ events attributes. ap (λ (x : Option Open). turned (further_by x st) events attributes) e)

  -- the state f leads back to the mode k
  module _ (v : Level st m n) (k : ℕ) (f : Part → State) (e : (q : Part) (to : Registers) → Partly q k to → Moded (f q) to) (h : (q : Part) → Homed (f q) st.home)
      (p : (q : Part) (k t : ℕ) (o : Open) → Placed src (at + 1) (f q) (moved k t o st) m rs) (cls : List chars.Range) (low least : ℕ) where
    pub follow-agrees : (l : Left) → Partly (part cls low l least) k st → Agree src at st m n rs (row.to row.within row.further) (follow cls low l least (get_or src at 0) f)
    unfolding follow begun fits
    follow-agrees one d =
        let u : further low (get_or src at 0) 1 ≡ low + (get_or src at 0 - 0x80) = omega arith in
        let o : Open = part_of st.part.class 0 (low + (get_or src at 0 - 0x80)) least in
        let z : low + (get_or src at 0 - 0x80) + 0 ≡ low + (get_or src at 0 - 0x80) = omega arith in
        further-agrees (leb 0x80 (get_or src at 0) && ltb (get_or src at 0) 0xC0) (meets cls (max (low + (get_or src at 0 - 0x80)) least) (low + (get_or src at 0 - 0x80))) o (f whole)
        (rw (u, z) at (follow-law cls low one least (get_or src at 0) st.part d.2))
        (record { moded = e whole (moved st.then st.then o st) d.1; homed = h whole; placed = p whole st.then st.then o; mark = v.same; kept = v.kept })
    follow-agrees two d =
        let o : Open = part_of st.part.class 1 (further low (get_or src at 0) 64) least in
        let q : Part = part cls (further low (get_or src at 0) 64) one least in
        further-agrees (leb 0x80 (get_or src at 0) && ltb (get_or src at 0) 0xC0) (fits cls (further low (get_or src at 0) 64) one least) o (f q)
        (follow-law cls low two least (get_or src at 0) st.part d.2)
        (record { moded = e q (moved st.mode st.then o st) (d.0, d.1, (d.2.0, refl, refl, refl)); homed = h q; placed = p q st.mode st.then o; mark = v.same; kept = v.kept })
    follow-agrees three d =
        let o : Open = part_of st.part.class 2 (further low (get_or src at 0) 4096) least in
        let q : Part = part cls (further low (get_or src at 0) 4096) two least in
        further-agrees (leb 0x80 (get_or src at 0) && ltb (get_or src at 0) 0xC0) (fits cls (further low (get_or src at 0) 4096) two least) o (f q)
        (follow-law cls low three least (get_or src at 0) st.part d.2)
        (record { moded = e q (moved st.mode st.then o st) (d.0, d.1, (d.2.0, refl, refl, refl)); homed = h q; placed = p q st.mode st.then o; mark = v.same; kept = v.kept })
