-- What the form of a timestamp tells, with the test for UTF-8. Assumes nothing.
use Prim.Native.Nat.{ℕ, ◌+◌, ◌<◌}
use mathlib.Core.Path.{◌≡◌, refl, sym, ap, ◌∙◌}
use mathlib.Core.Bool.{Bool, true, false, cond, ◌||◌, and-eq-true_iff}
use mathlib.Core.List.{List}
use native.Mathlib.Omega.{arith}
use borrow.Author.Tests.{eqb-true}
use lib.Dec.{eqb, lit<}
use lib.ListN.{length, get_or, drop, drop_of_length-le}
use Rattle.names.specs.of_area.Answer.{gives, refuses}
use Rattle.fraction.specs.of_utf8.Utf8.{utf8}
use Rattle.fraction.specs.of_digits.Digits.{all_digits, is_number}
use Rattle.fraction.proofs.of_digits.Numbers.{number-parts}
use Rattle.clock.specs.of_fixed.Fields.{part, all}
use Rattle.clock.proofs.of_fixed.Tests.{passes}
use Rattle.clock.proofs.of_fixed.Texts.{digits-on, byte-on}
use Rattle.timestamp.specs.Timestamp.{date_tests, clock_tests, has_point, places, fraction_width, is_utc, offset_tests, tail, zone, timestamp_tests, is_timestamp, moment_of, timestamp_of}
use Rattle.timestamp.specs.inside.Leaves.{form_of}
use Rattle.timestamp.specs.declared.Moment.{Moment}
use Rattle.std.specs.Prelude.{Some, None}
use Rattle.timestamp.proofs.Fractions.{run-part}
use Rattle.names.specs.of_refusal.declared.Cause.TheVariants as cause

-- ---- a timestamp is ASCII
either : (b x y : ℕ) → x < 0x80 → y < 0x80 → (eqb b x || eqb b y) ≡ true → b < 0x80
either b x y hx hy e = go (eqb b x) refl e
  where
    go : (t : Bool) → eqb b x ≡ t → (t || eqb b y) ≡ true → b < 0x80
    go true h e = let z = eqb-true b x h in omega arith
    go false h e = let z = eqb-true b y e in omega arith

byte : (b x : ℕ) → x < 0x80 → eqb b x ≡ true → b < 0x80
byte b x h e = let z = eqb-true b x e in omega arith

digits : (most : ℕ) (s : List ℕ) → is_number 10 most s ≡ true → all_digits 10 s ≡ true
digits most s e = (number-parts 10 most s e).1

module _ (z : List ℕ) where
  utc-utf8 : is_utc z ≡ true → utf8 z ≡ true
  unfolding is_utc
  utc-utf8 e =
      let p = (and-eq-true_iff (eqb (length z) 1) (eqb (get_or z 0 0) 0x5A || eqb (get_or z 0 0) 0x7A)).0 e in
      let l = eqb-true (length z) 1 p.0 in
      byte-on z 0 (either (get_or z 0 0) 0x5A 0x7A (lit< tt) (lit< tt) p.1) (ap utf8 (drop_of_length-le z {i = 1} (omega arith)))

  offset-utf8 : all (offset_tests z) ≡ true → utf8 z ≡ true
  offset-utf8 e =
      let l = eqb-true (length z) 6 (passes (offset_tests z) 0 e) in
      byte-on z 0 (either (get_or z 0 0) 0x2B 0x2D (lit< tt) (lit< tt) (passes (offset_tests z) 1 e))
      (digits-on z 1 10 2 (digits 23 (part 1 2 z) (passes (offset_tests z) 2 e)) (byte-on z 3 (byte (get_or z 3 0) 0x3A (lit< tt) (passes (offset_tests z) 3 e))
      (digits-on z 4 10 2 (digits 59 (part 4 2 z) (passes (offset_tests z) 4 e)) (ap utf8 (drop_of_length-le z {i = 6} (omega arith))))))

  zone-utf8 : (is_utc z || all (offset_tests z)) ≡ true → utf8 z ≡ true
  zone-utf8 e = go (is_utc z) refl e
    where
      go : (b : Bool) → is_utc z ≡ b → (b || all (offset_tests z)) ≡ true → utf8 z ≡ true
      go true h e = utc-utf8 h
      go false h e = offset-utf8 e

fraction-utf8 : (t : List ℕ) → utf8 (drop (fraction_width t) t) ≡ true → utf8 t ≡ true
fraction-utf8 t u = go (has_point t) refl u
  where
    go : (b : Bool) → has_point t ≡ b → utf8 (drop (cond b (places t + 1) 0) t) ≡ true → utf8 t ≡ true
    go true h u =
        let p = eqb-true (get_or t 0 0) 0x2E h in
        let e : places t + 1 ≡ 1 + places t = omega arith in
        byte-on t 0 (byte (get_or t 0 0) 0x2E (lit< tt) h) (digits-on t 1 10 (places t) (run-part t p) (ap (λ (k : ℕ). utf8 (drop k t)) (sym e) ∙ u))
    go false h u = u

module _ (s : List ℕ) where
  clock-utf8 : all (clock_tests s) ≡ true → utf8 (drop 19 s) ≡ true → utf8 (drop 10 s) ≡ true
  clock-utf8 e u =
      byte-on s 10 (either (get_or s 10 0) 0x54 0x74 (lit< tt) (lit< tt) (passes (clock_tests s) 0 e))
      (digits-on s 11 10 2 (digits 23 (part 11 2 s) (passes (clock_tests s) 1 e)) (byte-on s 13 (byte (get_or s 13 0) 0x3A (lit< tt) (passes (clock_tests s) 2 e))
      (digits-on s 14 10 2 (digits 59 (part 14 2 s) (passes (clock_tests s) 3 e)) (byte-on s 16 (byte (get_or s 16 0) 0x3A (lit< tt) (passes (clock_tests s) 4 e))
      (digits-on s 17 10 2 (digits 59 (part 17 2 s) (passes (clock_tests s) 5 e)) u)))))

  date-utf8 : all (date_tests s) ≡ true → utf8 (drop 10 s) ≡ true → utf8 s ≡ true
  date-utf8 e u =
      digits-on s 0 10 4 (digits 9999 (part 0 4 s) (passes (date_tests s) 0 e)) (byte-on s 4 (byte (get_or s 4 0) 0x2D (lit< tt) (passes (date_tests s) 1 e))
      (digits-on s 5 10 2 (digits 12 (part 5 2 s) (passes (date_tests s) 2 e)) (byte-on s 7 (byte (get_or s 7 0) 0x2D (lit< tt) (passes (date_tests s) 3 e))
      (digits-on s 8 10 2 (digits 31 (part 8 2 s) (passes (date_tests s) 4 e)) u))))

  pub timestamp-utf8 : is_timestamp s ≡ true → utf8 s ≡ true
  unfolding is_timestamp
  timestamp-utf8 e =
      date-utf8 (passes (timestamp_tests s) 1 e) (clock-utf8 (passes (timestamp_tests s) 2 e) (fraction-utf8 (tail s) (zone-utf8 (zone s) (passes (timestamp_tests s) 4 e))))

  -- ---- the answer
  pub answer-right : (m : Moment) → Some m ≡ form_of s → gives m ≡ timestamp_of s
  unfolding timestamp_of form_of
  answer-right m e = go (is_timestamp s) refl e
    where
      go : (b : Bool) → is_timestamp s ≡ b → Some m ≡ cond b (Some (moment_of s)) None → gives m ≡ timestamp_of s
      go true h e = let z : m ≡ moment_of s = cc in rw (timestamp-utf8 h, h, z)
      go false h e = let z : ◌≡◌ {A = ℕ} 0 1 = cc in absurd (omega arith)

  pub answer-bad : None ≡ form_of s → utf8 s ≡ true → refuses cause.BadTimestamp ≡ timestamp_of s
  unfolding timestamp_of form_of
  answer-bad e u = go (is_timestamp s) refl e
    where
      go : (b : Bool) → is_timestamp s ≡ b → None ≡ cond b (Some (moment_of s)) None → refuses cause.BadTimestamp ≡ timestamp_of s
      go true h e = let z : ◌≡◌ {A = ℕ} 0 1 = cc in absurd (omega arith)
      go false h e = rw (u, h)

  pub answer-not-utf8 : utf8 s ≡ false → refuses cause.NotUtf8 ≡ timestamp_of s
  unfolding timestamp_of
  answer-not-utf8 u = rw u

  -- a timestamp that was read
  pub timestamp-read : (m : Moment) → timestamp_of s ≡ gives m → (is_timestamp s ≡ true) × (m ≡ moment_of s)
  unfolding timestamp_of
  timestamp-read m e = go (utf8 s) (is_timestamp s) refl e
    where
      go : (u b : Bool) → is_timestamp s ≡ b → cond u (cond b (gives (moment_of s)) (refuses cause.BadTimestamp)) (refuses cause.NotUtf8) ≡ gives m → (is_timestamp s ≡ true) × (m ≡ moment_of s)
      go true true h e = (h, cc)
      go true false h e = let z : ◌≡◌ {A = ℕ} 0 1 = cc in absurd (omega arith)
      go false b h e = let z : ◌≡◌ {A = ℕ} 0 1 = cc in absurd (omega arith)
