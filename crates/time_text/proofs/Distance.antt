-- A written time is at most 500,000 nanoseconds off: each claim holds. Assumes nothing.
use Prim.Native.Nat.{ℕ, suc, ◌+◌, ◌*◌, ◌/◌, ◌%◌, ◌^◌, ◌<◌}
use mathlib.Core.Path.{◌≡◌, sym, ap, ◌∙◌, subst}
use mathlib.Core.List.{List, [], ◌∷◌, ◌++◌}
use native.Mathlib.Omega.{arith}
use lib.ListN.{length}
use Rattle.time.specs.of_digits.Digits.{decimal, last_digits_of, all_digits, value}
use Rattle.time.proofs.of_digits.Values.{append-value, value-from}
use Rattle.time.proofs.of_digits.Printing.{length_last, last_digits, last-value, decimal-digits, decimal-value}
use Rattle.time.specs.Time.{whole, fraction, time_of}
use Rattle.time.proofs.Points.{whole-between, fraction-between}
use Rattle.time_text.specs.Written.{float_sum, thousandths_of, time_text, written_time}
use Rattle.time_text.specs.Distance.{InRange, stored_nanoseconds, Form, thousandths_in, written_nanoseconds, Within, ReadAs, AllInRange, stored_sum, written_sum, Distance}
use Rattle.time_text.proofs.Sum.{over, under}
use Rattle.time_text.proofs.ReadBack.{text-read}

-- ---- the text of some thousandths
module _ (ms : ℕ) where
  abbrev w : List ℕ
  w = decimal (ms / 1000)

  abbrev f : List ℕ
  f = last_digits_of 3 ms

  text-whole : whole (time_text ms) ≡ w
  unfolding time_text
  text-whole = whole-between w f (decimal-digits (ms / 1000))

  text-fraction : fraction (time_text ms) ≡ f
  unfolding time_text
  text-fraction = fraction-between w f (decimal-digits (ms / 1000))

  text-form : Form (time_text ms)
  unfolding time_text
  text-form =
      record {
        parts = ap (λ (l : List ℕ). l ++ (0x2E ∷ f)) (sym text-whole) ∙ ap (λ (l : List ℕ). whole (time_text ms) ++ (0x2E ∷ l)) (sym text-fraction);
        before = ap (all_digits 10) text-whole ∙ decimal-digits (ms / 1000);
        behind = ap (all_digits 10) text-fraction ∙ last_digits 3 ms;
        three = ap length text-fraction ∙ length_last 3 ms;
      }

  text-counts : ms < 10 ^ 20 → thousandths_in (time_text ms) ≡ ms
  unfolding thousandths_in
  text-counts h =
      ap (λ (l : List ℕ). value 10 (l ++ fraction (time_text ms))) text-whole
      ∙ ap (λ (l : List ℕ). value 10 (w ++ l)) text-fraction
      ∙ append-value 10 0 w f
      ∙ value-from 10 (value 10 w) f
      ∙ ap (λ (k : ℕ). value 10 w * 10 ^ k + value 10 f) (length_last 3 ms)
      ∙ ap (λ (k : ℕ). k * 1000 + value 10 f) (decimal-value (ms / 1000) (omega arith))
      ∙ ap (λ (k : ℕ). ms / 1000 * 1000 + k) (last-value 3 ms)
      ∙ whole_again
    where
      whole_again : ms / 1000 * 1000 + ms % 1000 ≡ ms
      whole_again = omega arith

-- ---- one time
module _ (secs nanos : ℕ) (r : InRange secs nanos) where
  abbrev W : ℕ
  W = thousandths_of (float_sum secs nanos)

  written_over : W * 2000000 < secs * 2000000000 + nanos * 2 + 1000002
  written_over = over secs nanos r.seconds r.nanoseconds

  written-under : secs * 2000000000 + nanos * 2 < W * 2000000 + 1000002
  written-under = under secs nanos r.seconds r.nanoseconds

  written-counts : thousandths_in (written_time secs nanos) ≡ W
  written-counts = text-counts W (few W secs nanos r.seconds r.nanoseconds written_over)
    where
      few : (w s n : ℕ) → s < 8388608 → n < 1000000000 → w * 2000000 < s * 2000000000 + n * 2 + 1000002 → w < 10 ^ 20
      few w s n S N h = omega arith

  written-bounded : Within 500000 (written_nanoseconds secs nanos) (stored_nanoseconds secs nanos)
  written-bounded = subst (λ (k : ℕ). Within 500000 (k * 1000000) (stored_nanoseconds secs nanos)) (sym written-counts) (go W secs nanos written_over written-under)
    where
      go : (w s n : ℕ) → w * 2000000 < s * 2000000000 + n * 2 + 1000002 → s * 2000000000 + n * 2 < w * 2000000 + 1000002 → Within 500000 (w * 1000000) (stored_nanoseconds s n)
      go w s n a b = record { over = omega arith; under = omega arith }

  written-exact : nanos % 1000000 ≡ 0 → written_nanoseconds secs nanos ≡ stored_nanoseconds secs nanos
  written-exact h = ap (λ (k : ℕ). k * 1000000) written-counts ∙ go W secs nanos h written_over written-under
    where
      go : (w s n : ℕ) → n % 1000000 ≡ 0 → w * 2000000 < s * 2000000000 + n * 2 + 1000002 → s * 2000000000 + n * 2 < w * 2000000 + 1000002 → w * 1000000 ≡ stored_nanoseconds s n
      go w s n e a b = omega arith

  written_read : written_nanoseconds secs nanos < 8388608 * 1000000000 → ReadAs (written_time secs nanos) (written_nanoseconds secs nanos)
  written_read h = go W (thousandths_in (written_time secs nanos)) (sym written-counts) h
    where
      go : (ms n : ℕ) → ms ≡ n → n * 1000000 < 8388608 * 1000000000 → ReadAs (time_text ms) (n * 1000000)
      go ms n e h =
          record {
            secs = ms / 1000;
            nanos = ms % 1000 * 1000000;
            given = ap (λ (k : ℕ). time_of (time_text k)) (again ms) ∙ text-read (ms / 1000) (ms % 1000) (omega arith) (omega arith);
            same = total ms n e;
          }
        where
          again : (ms : ℕ) → ms ≡ ms / 1000 * 1000 + ms % 1000
          again ms = omega arith

          total : (ms n : ℕ) → ms ≡ n → stored_nanoseconds (ms / 1000) (ms % 1000 * 1000000) ≡ n * 1000000
          total ms n e = omega arith

-- ---- many
all-bounded : (times : List (ℕ × ℕ)) → AllInRange times → Within (length times * 500000) (written_sum times) (stored_sum times)
all-bounded [] r = record { over = omega arith; under = omega arith }
all-bounded (t ∷ ts) r =
    both (written_nanoseconds t.0 t.1) (stored_nanoseconds t.0 t.1) (written_sum ts) (stored_sum ts) (length ts) (written-bounded t.0 t.1 r.0) (all-bounded ts r.1)
  where
    both : (a b c d n : ℕ) → Within 500000 a b → Within (n * 500000) c d → Within (suc n * 500000) (a + c) (b + d)
    both a b c d n p q = record { over = omega (arith, p.over, q.over); under = omega (arith, p.under, q.under) }

pub distance : Distance
distance =
    record {
      form = λ secs nanos. text-form (thousandths_of (float_sum secs nanos));
      counts = written-counts;
      bounded = written-bounded;
      exact = written-exact;
      summed = all-bounded;
      read_back_of = written_read;
    }
