-- Dates and offsets, from their fields. Assumes nothing.
use Prim.Native.Nat.{ℕ, ◌+◌, ◌-◌, ◌*◌}
use mathlib.Core.Path.{◌≡◌, refl, sym, ◌∙◌}
use mathlib.Core.Bool.{Bool, true, false, ◌&&◌, ◌||◌, and_assoc, and-true}
use mathlib.Core.List.{List}
use borrow.Author.Tests.{eq-eqb, ne_eqb, eqb-false}
use lib.Dec.{leb, eqb}
use lib.ListN.{length, get_or}
use Rattle.clock.specs.of_fixed.Fields.{part, all}
use Rattle.clock.proofs.of_fixed.Tests.{fails}
use Rattle.calendar.specs.Calendar.{month_length}
use Rattle.timestamp.specs.Timestamp.{date_tests, is_utc, offset_tests, away_of}
use Rattle.timestamp.specs.inside.Leaves.{date_of, zone_of}
use Rattle.std.specs.Prelude.{Some, None}
use Rattle.fraction.specs.of_digits.Digits.{number_in}
use Rattle.fraction.proofs.of_digits.Numbers.{is-number}

module _ (s : List ℕ) where
  -- a test that fails
  pub date-none : (k : ℕ) → get_or (date_tests s) k true ≡ false → None ≡ date_of s
  unfolding date_of
  date-none k e = rw (fails (date_tests s) k e)

  module _ (y m d : ℕ) (ey : Some y ≡ number_in 10 9999 (part 0 4 s)) (em : Some m ≡ number_in 10 12 (part 5 2 s)) (ed : Some d ≡ number_in 10 31 (part 8 2 s))
      (l : ℕ) (el : l ≡ month_length y m) where
    abbrev date_flag : Bool
    date_flag = eqb (get_or s 4 0) 0x2D && eqb (get_or s 7 0) 0x2D && leb 1 m && leb 1 d && leb d l

    date-tests : date_flag ≡ all (date_tests s)
    date-tests =
        let py = is-number 10 9999 (part 0 4 s) y ey in
        let pm = is-number 10 12 (part 5 2 s) m em in
        let pd = is-number 10 31 (part 8 2 s) d ed in
        rw (el, py.0, pm.0, pd.0, sym py.1, sym pm.1, sym pd.1) (simp (and_assoc, and-true))

    pub date-wrong : date_flag ≡ false → None ≡ date_of s
    unfolding date_of
    date-wrong h = rw (sym date-tests ∙ h)

    pub date_right : date_flag ≡ true → Some (y, m, d) ≡ date_of s
    unfolding date_of
    date_right h =
        rw (sym date-tests ∙ h, (is-number 10 9999 (part 0 4 s) y ey).1, (is-number 10 12 (part 5 2 s) m em).1, (is-number 10 31 (part 8 2 s) d ed).1)

module _ (z : List ℕ) where
  none : is_utc z ≡ false → all (offset_tests z) ≡ false → None ≡ zone_of z
  unfolding zone_of
  none u t = rw (u, t)

  utc-length : (length z ≡ 1 → ⊥) → is_utc z ≡ false
  unfolding is_utc
  utc-length n = rw (ne_eqb (length z) 1 n)

  -- one byte
  module _ (b : Bool) (l : length z ≡ 1) (h : (eqb (get_or z 0 0) 0x5A || eqb (get_or z 0 0) 0x7A) ≡ b) where
    utc-byte : is_utc z ≡ b
    unfolding is_utc
    utc-byte = rw (eq-eqb (length z) 1 l) h

  pub zone-utc : length z ≡ 1 → (eqb (get_or z 0 0) 0x5A || eqb (get_or z 0 0) 0x7A) ≡ true → Some 1439 ≡ zone_of z
  unfolding zone_of
  zone-utc l h = rw (utc-byte true l h)

  pub zone-byte : length z ≡ 1 → (eqb (get_or z 0 0) 0x5A || eqb (get_or z 0 0) 0x7A) ≡ false → None ≡ zone_of z
  zone-byte l h = none (utc-byte false l h) (fails (offset_tests z) 0 (ne_eqb (length z) 6 (λ e. let k : ◌≡◌ {A = ℕ} 1 6 = sym l ∙ e in eqb-false 1 6 refl k)))

  pub zone-length : (length z ≡ 1 → ⊥) → (length z ≡ 6 → ⊥) → None ≡ zone_of z
  zone-length n k = none (utc-length n) (fails (offset_tests z) 0 (ne_eqb (length z) 6 k))

  -- six bytes
  module _ (n : length z ≡ 1 → ⊥) where
    pub zone-none : (k : ℕ) → get_or (offset_tests z) k true ≡ false → None ≡ zone_of z
    zone-none k e = none (utc-length n) (fails (offset_tests z) k e)

    module _ (l : length z ≡ 6) (h m : ℕ) (eh : Some h ≡ number_in 10 23 (part 1 2 z)) (em : Some m ≡ number_in 10 59 (part 4 2 z)) where
      offset-tests : all (offset_tests z) ≡ ((eqb (get_or z 0 0) 0x2B || eqb (get_or z 0 0) 0x2D) && eqb (get_or z 3 0) 0x3A)
      offset-tests =
          rw (eq-eqb (length z) 6 l, (is-number 10 23 (part 1 2 z) h eh).0, (is-number 10 59 (part 4 2 z) m em).0)
          (simp and-true)

      away : h * 60 + m ≡ away_of z
      away = rw ((is-number 10 23 (part 1 2 z) h eh).1, (is-number 10 59 (part 4 2 z) m em).1)

      pub zone-plus : get_or z 3 0 ≡ 0x3A → get_or z 0 0 ≡ 0x2B → Some (1439 + (h * 60 + m)) ≡ zone_of z
      unfolding zone_of
      zone-plus t p = let e = eq-eqb (get_or z 0 0) 0x2B p in rw (utc-length n, offset-tests, eq-eqb (get_or z 3 0) 0x3A t, away, e)

      pub zone-minus : get_or z 3 0 ≡ 0x3A → (get_or z 0 0 ≡ 0x2B → ⊥) → get_or z 0 0 ≡ 0x2D → Some (1439 - (h * 60 + m)) ≡ zone_of z
      unfolding zone_of
      zone-minus t k p = rw (utc-length n, offset-tests, eq-eqb (get_or z 3 0) 0x3A t, away, ne_eqb (get_or z 0 0) 0x2B k, eq-eqb (get_or z 0 0) 0x2D p)

      pub zone-sign : (get_or z 0 0 ≡ 0x2B → ⊥) → (get_or z 0 0 ≡ 0x2D → ⊥) → None ≡ zone_of z
      zone-sign k j = none (utc-length n) (offset-tests ∙ rw (ne_eqb (get_or z 0 0) 0x2B k, ne_eqb (get_or z 0 0) 0x2D j))
