-- A timestamp's numbers with no more digits than are written. Assumes nothing.
use Prim.Native.Nat.{ℕ, ◌+◌, ◌-◌, ◌*◌, ◌/◌, ◌%◌, ◌≤◌}
use mathlib.Core.Path.{◌≡◌, refl, sym, ap, ◌∙◌}
use mathlib.Core.List.{List, [], ◌∷◌, ◌++◌}
use mathlib.Core.Bool.{Bool, true, false, cond}
use native.Mathlib.Nat.{mod-mod, div-eq_of_lt-le}
use native.Mathlib.Omega.{arith}
use borrow.Author.Tests.{le-ltb, ltb-false}
use lib.Dec.{ltb}
use Rattle.tree_stamp.specs.of_digits.Digits.{last_digits_of}
use Rattle.tree_stamp.specs.of_timestamp.declared.Moment.{Moment}
use Rattle.tree_stamp.specs.of_tree_report.Fields.{moment_of}
use Rattle.tree_stamp.specs.Stamp.{cut_offset, cut_moment}
use Rattle.write_bytes.specs.of_write_moment.Written.{date_text, clock_text, away, offset_text, timestamp_text}

hundred : (n : ℕ) → (n % 100 % 10 ≡ n % 10) × (n % 100 / 10 ≡ n / 10 % 10)
hundred n =
    let q = n / 100 in
    let r = n % 100 in
    let e : n / 10 ≡ q * 10 + r / 10 = div-eq_of_lt-le 10 (omega arith) (omega arith) in
    let f : n / 10 / 10 ≡ q = div-eq_of_lt-le 10 (omega arith) (omega arith) in
    (omega arith, omega arith)

thousand : (n : ℕ) → (n % 1000 % 10 ≡ n % 10) × (n % 1000 / 10 ≡ n / 10 % 100)
thousand n =
    let q = n / 1000 in
    let r = n % 1000 in
    let e : n / 10 ≡ q * 100 + r / 10 = div-eq_of_lt-le 10 (omega arith) (omega arith) in
    let f : n / 10 / 100 ≡ q = div-eq_of_lt-le 100 (omega arith) (omega arith) in
    (omega arith, omega arith)

myriad : (n : ℕ) → (n % 10000 % 10 ≡ n % 10) × (n % 10000 / 10 ≡ n / 10 % 1000)
myriad n =
    let q = n / 10000 in
    let r = n % 10000 in
    let e : n / 10 ≡ q * 1000 + r / 10 = div-eq_of_lt-le 10 (omega arith) (omega arith) in
    let f : n / 10 / 1000 ≡ q = div-eq_of_lt-le 1000 (omega arith) (omega arith) in
    (omega arith, omega arith)

hours : (n : ℕ) → (n % 6000 % 60 ≡ n % 60) × (n % 6000 / 60 ≡ n / 60 % 100)
hours n =
    let q = n / 6000 in
    let r = n % 6000 in
    let e : n / 60 ≡ q * 100 + r / 60 = div-eq_of_lt-le 60 (omega arith) (omega arith) in
    let f : n / 60 / 100 ≡ q = div-eq_of_lt-le 100 (omega arith) (omega arith) in
    (omega arith, omega arith)

two_digits : (n : ℕ) → last_digits_of 2 (n % 100) ≡ last_digits_of 2 n
two_digits n = rw ((hundred n).0, (hundred n).1, mod-mod (n / 10) 10) refl

three-digits : (n : ℕ) → last_digits_of 3 (n % 1000) ≡ last_digits_of 3 n
three-digits n = rw ((thousand n).0, (thousand n).1) (ap (λ (l : List ℕ). l ++ ((0x30 + n % 10) ∷ [])) (two_digits (n / 10)))

four-digits : (n : ℕ) → last_digits_of 4 (n % 10000) ≡ last_digits_of 4 n
four-digits n = rw ((myriad n).0, (myriad n).1) (ap (λ (l : List ℕ). l ++ ((0x30 + n % 10) ∷ [])) (three-digits (n / 10)))

dated : {a a' b b' c c' : List ℕ} → a ≡ a' → b ≡ b' → c ≡ c' → a ++ 0x2D ∷ b ++ 0x2D ∷ c ≡ a' ++ 0x2D ∷ b' ++ 0x2D ∷ c'
dated p q r = rw (p, q, r) refl

clocked : {a a' b b' c c' : List ℕ} (d : List ℕ) → a ≡ a' → b ≡ b' → c ≡ c' → a ++ 0x3A ∷ b ++ 0x3A ∷ c ++ 0x2E ∷ d ≡ a' ++ 0x3A ∷ b' ++ 0x3A ∷ c' ++ 0x2E ∷ d
clocked d p q r = rw (p, q, r) refl

zoned : {s s' : ℕ} {a a' b b' : List ℕ} → s ≡ s' → a ≡ a' → b ≡ b' → s ∷ a ++ 0x3A ∷ b ≡ s' ∷ a' ++ 0x3A ∷ b'
zoned p q r = rw (p, q, r) refl

stamped : {a a' b b' c c' : List ℕ} → a ≡ a' → b ≡ b' → c ≡ c' → a ++ 0x54 ∷ b ++ c ≡ a' ++ 0x54 ∷ b' ++ c'
stamped p q r = rw (p, q, r) refl

offset-digits : (n : ℕ) → 1439 ≤ n → offset_text (1439 + (n - 1439) % 6000) ≡ offset_text n
unfolding offset_text
offset-digits n h =
    let x = n - 1439 in
    let m = 1439 + (n - 1439) % 6000 in
    let p : ltb m 1439 ≡ false = le-ltb m 1439 (omega arith) in
    let q : ltb n 1439 ≡ false = le-ltb n 1439 h in
    let z : m - 1439 ≡ x % 6000 = omega arith in
    let am : away m ≡ x % 6000 = rw p z in
    let an : away n ≡ x = rw q refl in
    zoned (rw (p, q) refl) (ap (λ (k : ℕ). last_digits_of 2 (k / 60)) am ∙ ap (last_digits_of 2) (hours x).1 ∙ two_digits (x / 60) ∙ ap (λ (k : ℕ). last_digits_of 2 (k / 60)) (sym an))
    (ap (λ (k : ℕ). last_digits_of 2 (k % 60)) am ∙ ap (last_digits_of 2) (hours x).0 ∙ ap (λ (k : ℕ). last_digits_of 2 (k % 60)) (sym an))

moment-digits : (m : Moment) (offset : ℕ) → offset_text offset ≡ offset_text m.offset → timestamp_text (record {
  year = m.year % 10000;
  month = m.month % 100;
  day = m.day % 100;
  hour = m.hour % 100;
  minute = m.minute % 100;
  second = m.second % 100;
  nanos = m.nanos;
  offset = offset;
}) ≡ timestamp_text m
unfolding timestamp_text date_text clock_text
moment-digits m offset e =
    stamped (dated (four-digits m.year) (two_digits m.month) (two_digits m.day))
    (clocked (last_digits_of 3 (m.nanos / 1000000)) (two_digits m.hour) (two_digits m.minute) (two_digits m.second)) e

offset-cut : (n : ℕ) → offset_text (cut_offset n) ≡ offset_text n
unfolding cut_offset
offset-cut n = go (ltb n 7439) refl
  where
    go : (b : Bool) → ltb n 7439 ≡ b → offset_text (cond b n (1439 + (n - 1439) % 6000)) ≡ offset_text n
    go true e = refl
    go false e = offset-digits n (omega (arith, ltb-false n 7439 e))

-- what is cut off of a record's timestamp isn't written
pub stamp-text : (r : List ℕ) → timestamp_text (cut_moment r) ≡ timestamp_text (moment_of r)
unfolding cut_moment
stamp-text r = moment-digits (moment_of r) (cut_offset (moment_of r).offset) (offset-cut (moment_of r).offset)
