-- A written timestamp of whole milliseconds is read back. Assumes nothing.
use Prim.Native.Nat.{ℕ, zero, suc, ◌+◌, ◌-◌, ◌*◌, ◌/◌, ◌%◌, ◌≤◌, ◌<◌}
use mathlib.Core.Path.{◌≡◌, refl, ap, ◌∙◌}
use mathlib.Core.Bool.{Bool, true, false, cond, ◌&&◌, ◌||◌, and-eq-true_iff}
use mathlib.Core.List.{List, [], ◌∷◌, ◌++◌}
use native.Mathlib.Nat.{mod-eq_of_lt}
use native.Mathlib.Omega.{arith}
use borrow.Author.Tests.{le-leb, ltb-true, ltb-false, leb-true}
use lib.Dec.{ltb, leb, eqb, lit<, lit≤}
use lib.ListN.{length, drop, get_or}
use Rattle.text.specs.of_area.Answer.{gives}
use Rattle.text.specs.of_digits.Digits.{digit, is_digit, is_number, value, last_digits_of}
use Rattle.text.proofs.of_digits.Printing.{last-value, last_digits, last-number}
use Rattle.write_moment.specs.of_fixed.Fields.{part, all}
use Rattle.write_moment.specs.of_fraction.Fraction.{billionths}
use Rattle.write_moment.specs.of_timestamp.declared.Moment.{Moment}
use Rattle.write_moment.specs.of_calendar.Calendar.{is_leap, lengths, month_length}
use Rattle.write_moment.specs.of_timestamp.Timestamp.{date_tests, clock_tests, fraction_tests, offset_tests, places, is_utc, nanos_of, fraction_width}
use Rattle.write_moment.specs.of_timestamp.Timestamp.{offset_of, away_of, tail, zone, is_timestamp, moment_of, timestamp_of, in_range}
use Rattle.write_moment.proofs.of_timestamp.Ranges.{InRange, range-facts}
use Rattle.write_moment.specs.Written.{date_text, clock_text, sign, offset_text, timestamp_text}
use Rattle.write_moment.proofs.Texts.{utf8-timestamp}

-- no month has more than 31 days
abbrev short : List ℕ → Bool
short [] = true
short (b ∷ l) = leb b 31 && short l

at_most : (l : List ℕ) (k : ℕ) → short l ≡ true → get_or l k 0 ≤ 31
at_most [] k e = lit≤ tt
at_most (b ∷ l) zero e = leb-true b 31 ((and-eq-true_iff (leb b 31) (short l)).0 e).0
at_most (b ∷ l) (suc k) e = at_most l k ((and-eq-true_iff (leb b 31) (short l)).0 e).1

month-most : (y m : ℕ) → month_length y m ≤ 31
unfolding month_length
month-most y m = go (eqb m 2 && is_leap y)
  where
    go : (t : Bool) → cond t 29 (get_or (0 ∷ lengths) m 0) ≤ 31
    go true = lit≤ tt
    go false = at_most (0 ∷ lengths) m refl

-- two digits, and four
module _ (n : ℕ) (h : n < 100) where
  two-value : value 10 (last_digits_of 2 n) ≡ n
  two-value = last-value 2 n ∙ mod-eq_of_lt h

  two-number : (most : ℕ) → n ≤ most → is_number 10 most (last_digits_of 2 n) ≡ true
  two-number most l = let e : n % 100 ≡ n = mod-eq_of_lt h in last-number 2 n most (lit< tt) (rw e l)

four-value : (n : ℕ) → n ≤ 9999 → value 10 (last_digits_of 4 n) ≡ n
four-value n h = last-value 4 n ∙ mod-eq_of_lt (omega arith)

four-number : (n : ℕ) → n ≤ 9999 → is_number 10 9999 (last_digits_of 4 n) ≡ true
four-number n h = let e : n % 10000 ≡ n = mod-eq_of_lt (omega arith) in last-number 4 n 9999 (lit< tt) (rw e h)

-- ---- the date
module _ (y mo d : ℕ) (t : List ℕ) (hy : y ≤ 9999) (lm : 1 ≤ mo) (hm : mo ≤ 12) (ld : 1 ≤ d) (hd : d ≤ month_length y mo) where
  abbrev dated : List ℕ
  dated = last_digits_of 4 y ++ 0x2D ∷ last_digits_of 2 mo ++ 0x2D ∷ last_digits_of 2 d ++ t

  date-passes : all (date_tests dated) ≡ true
  date-passes =
      let h = month-most y mo in
      let p : value 10 (part 0 4 dated) ≡ y = four-value y hy in
      let q : value 10 (part 5 2 dated) ≡ mo = two-value mo (omega arith) in
      let r : value 10 (part 8 2 dated) ≡ d = two-value d (omega arith) in
      let a : is_number 10 9999 (part 0 4 dated) ≡ true = four-number y hy in
      let b : is_number 10 12 (part 5 2 dated) ≡ true = two-number mo (omega arith) 12 hm in
      let c : is_number 10 31 (part 8 2 dated) ≡ true = two-number d (omega arith) 31 (omega arith) in
      rw (a, b, c, p, q, r, le-leb 1 mo lm, le-leb 1 d ld, le-leb d (month_length y mo) hd) refl

-- ---- the clock, behind any date
module _ (y mo d h mi x : ℕ) (t : List ℕ) (hh : h ≤ 23) (hi : mi ≤ 59) (hx : x ≤ 59) where
  abbrev clocked : List ℕ
  clocked = last_digits_of 4 y ++ 0x2D ∷ last_digits_of 2 mo ++ 0x2D ∷ last_digits_of 2 d ++ 0x54 ∷ last_digits_of 2 h ++ 0x3A ∷ last_digits_of 2 mi ++ 0x3A ∷ last_digits_of 2 x ++ t

  clock-passes : all (clock_tests clocked) ≡ true
  clock-passes =
      let a : is_number 10 23 (part 11 2 clocked) ≡ true = two-number h (omega arith) 23 hh in
      let b : is_number 10 59 (part 14 2 clocked) ≡ true = two-number mi (omega arith) 59 hi in
      let c : is_number 10 59 (part 17 2 clocked) ≡ true = two-number x (omega arith) 59 hx in
      rw (a, b, c) refl

-- ---- the fraction, with no digit behind it
digit-good : (n : ℕ) → is_digit 10 (0x30 + n % 10) ≡ true
digit-good n = ((and-eq-true_iff (is_digit 10 (0x30 + n % 10)) true).0 (last_digits 1 n)).0

module _ (ms b : ℕ) (z : List ℕ) (n : is_digit 10 b ≡ false) where
  abbrev fraction : List ℕ
  fraction = 0x2E ∷ last_digits_of 3 ms ++ b ∷ z

  three : places fraction ≡ 3
  unfolding places
  three = rw (digit-good (ms / 10 / 10), digit-good (ms / 10), digit-good ms, n) refl

  width : fraction_width fraction ≡ 4
  width = rw three refl

  fraction-passes : all (fraction_tests fraction) ≡ true
  fraction-passes = rw three refl

  fraction-value : ms < 1000 → nanos_of fraction ≡ ms * 1000000
  fraction-value h =
      let e : value 10 (last_digits_of 3 ms) ≡ ms = last-value 3 ms ∙ mod-eq_of_lt h in
      ap (λ (k : ℕ). billionths (part 1 k fraction)) three ∙ ap (λ (v : ℕ). v * 1000000) e

-- ---- the offset: a sign, and minutes
abbrev signed : ℕ → ℕ → List ℕ
signed b a = b ∷ last_digits_of 2 (a / 60) ++ 0x3A ∷ last_digits_of 2 (a % 60)

module _ (b a : ℕ) (h : a ≤ 1439) (g : (eqb b 0x2B || eqb b 0x2D) ≡ true) where
  offset-passes : all (offset_tests (signed b a)) ≡ true
  offset-passes =
      let p : is_number 10 23 (part 1 2 (signed b a)) ≡ true = two-number (a / 60) (omega arith) 23 (omega arith) in
      let q : is_number 10 59 (part 4 2 (signed b a)) ≡ true = two-number (a % 60) (omega arith) 59 (omega arith) in
      rw (g, p, q) refl

  away-value : away_of (signed b a) ≡ a
  away-value =
      let p : value 10 (part 1 2 (signed b a)) ≡ a / 60 = two-value (a / 60) (omega arith) in
      let q : value 10 (part 4 2 (signed b a)) ≡ a % 60 = two-value (a % 60) (omega arith) in
      rw (p, q) (omega arith)

module _ (o : ℕ) (h : o ≤ 2878) where
  numeric : is_utc (offset_text o) ≡ false
  unfolding is_utc offset_text
  numeric = refl

  zone-passes : all (offset_tests (offset_text o)) ≡ true
  unfolding offset_text
  zone-passes = go (ltb o 1439) refl
    where
      go : (t : Bool) → ltb o 1439 ≡ t → all (offset_tests (signed (cond t 0x2D 0x2B) (cond t (1439 - o) (o - 1439)))) ≡ true
      go true e = offset-passes 0x2D (1439 - o) (omega arith) refl
      go false e = offset-passes 0x2B (o - 1439) (omega arith) refl

  zone-good : (is_utc (offset_text o) || all (offset_tests (offset_text o))) ≡ true
  zone-good = rw (numeric, zone-passes) refl

  zone-value : offset_of (offset_text o) ≡ o
  unfolding offset_text
  zone-value = rw numeric (go (ltb o 1439) refl)
    where
      go : (t : Bool) → ltb o 1439 ≡ t → cond (eqb (cond t 0x2D 0x2B) 0x2B) (1439 + away_of (signed (cond t 0x2D 0x2B) (cond t (1439 - o) (o - 1439))))
          (1439 - away_of (signed (cond t 0x2D 0x2B) (cond t (1439 - o) (o - 1439)))) ≡ o
      go true e = let l = ltb-true o 1439 e in rw (away-value 0x2D (1439 - o) (omega arith) refl) (omega arith)
      go false e = let l = ltb-false o 1439 e in rw (away-value 0x2B (o - 1439) (omega arith) refl) (omega arith)

  no_digit : is_digit 10 (sign o) ≡ false
  unfolding digit
  no_digit = go (ltb o 1439)
    where
      go : (t : Bool) → is_digit 10 (cond t 0x2D 0x2B) ≡ false
      go true = refl
      go false = refl

-- ---- the whole
same-moment : (v w : Moment) → v.year ≡ w.year → v.month ≡ w.month → v.day ≡ w.day → v.hour ≡ w.hour
    → v.minute ≡ w.minute → v.second ≡ w.second → v.nanos ≡ w.nanos → v.offset ≡ w.offset → v ≡ w
same-moment v w e f g h i j k l =
    ap (λ (x : ℕ). the x v.month v.day v.hour v.minute v.second v.nanos v.offset) e
    ∙ ap (λ (x : ℕ). the w.year x v.day v.hour v.minute v.second v.nanos v.offset) f
    ∙ ap (λ (x : ℕ). the w.year w.month x v.hour v.minute v.second v.nanos v.offset) g
    ∙ ap (λ (x : ℕ). the w.year w.month w.day x v.minute v.second v.nanos v.offset) h
    ∙ ap (λ (x : ℕ). the w.year w.month w.day w.hour x v.second v.nanos v.offset) i
    ∙ ap (λ (x : ℕ). the w.year w.month w.day w.hour w.minute x v.nanos v.offset) j
    ∙ ap (λ (x : ℕ). the w.year w.month w.day w.hour w.minute w.second x v.offset) k
    ∙ ap (the w.year w.month w.day w.hour w.minute w.second w.nanos) l
  where
    the : ℕ → ℕ → ℕ → ℕ → ℕ → ℕ → ℕ → ℕ → Moment
    the a b c d e f g h = record { year = a; month = b; day = c; hour = d; minute = e; second = f; nanos = g; offset = h }

all-passes : (s : List ℕ) → leb 20 (length s) ≡ true → all (date_tests s) ≡ true → all (clock_tests s) ≡ true
    → all (fraction_tests (tail s)) ≡ true → (is_utc (zone s) || all (offset_tests (zone s))) ≡ true → is_timestamp s ≡ true
unfolding is_timestamp
all-passes s a b c d e = rw (a, b, c, d, e) refl

module _ (m : Moment) (r : InRange m) (whole : m.nanos % 1000000 ≡ 0) where
  abbrev text : List ℕ
  text = timestamp_text m

  abbrev millis : ℕ
  millis = m.nanos / 1000000

  small : millis < 1000
  small = let h = r.nanos-below in omega arith

  zone-is : zone text ≡ offset_text m.offset
  unfolding date_text clock_text offset_text timestamp_text
  zone-is = ap (λ (k : ℕ). drop k (tail text)) (width millis (sign m.offset) _ (no_digit m.offset r.offset-most))

  form : is_timestamp text ≡ true
  unfolding date_text clock_text offset_text timestamp_text
  form =
      all-passes text refl
      (date-passes m.year m.month m.day (drop 10 text) r.year-most r.month-least r.month-most r.day-least r.day-most)
      (clock-passes m.year m.month m.day m.hour m.minute m.second (tail text) r.hour-most r.minute-most r.second-most)
      (fraction-passes millis (sign m.offset) _ (no_digit m.offset r.offset-most))
      (ap (λ (z : List ℕ). is_utc z || all (offset_tests z)) zone-is ∙ zone-good m.offset r.offset-most)

  moment : moment_of text ≡ m
  unfolding date_text clock_text offset_text timestamp_text
  moment =
      let h = month-most m.year m.month in
      same-moment (moment_of text) m
      (four-value m.year r.year-most)
      (two-value m.month (omega (arith, r.month-most)))
      (two-value m.day (omega (arith, r.day-most)))
      (two-value m.hour (omega (arith, r.hour-most)))
      (two-value m.minute (omega (arith, r.minute-most)))
      (two-value m.second (omega (arith, r.second-most)))
      (fraction-value millis (sign m.offset) _ (no_digit m.offset r.offset-most) small ∙ (omega arith))
      (ap offset_of zone-is ∙ zone-value m.offset r.offset-most)

-- the text of a moment in range, of whole milliseconds, reads back as the moment
pub timestamp-back : (m : Moment) → in_range m ≡ true → m.nanos % 1000000 ≡ 0 → timestamp_of (timestamp_text m) ≡ gives m
unfolding timestamp_of
timestamp-back m e whole = let r = range-facts m e in rw (utf8-timestamp m, form m r whole) (ap gives (moment m r whole))
