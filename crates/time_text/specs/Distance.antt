-- How far a written time may be off (rule W11): what is claimed of the text that is written for a stored time. The claims are types;
-- proofs/Distance.antt has a proof of each, and proofs/DistanceExamples.antt computes that the bound is reached and what decides a
-- tie. Definitions only.
--
-- Whoever wants to be sure that this is what the rule asks for reads these definitions:
--   written_time (Written)                         the text that is written for seconds and nanoseconds: the promise of `write_time`,
--                                                 and the text that writing and listing put (crates write_report, list_text: `timed`)
--   float_sum, thousandths_of (Written)             the float sum, and its nearest thousandth, which that text spells
--   whole, fraction (crate time: Time)            what stands before a text's point, and what behind it
--   all_digits, value (crate digits: Digits)       whether bytes are digits; the number that digits stand for
--   time_of (crate time: Time)                     the seconds and nanoseconds that a time's text is read as
use Rattle.std.specs.Prelude.{ℕ, ◌+◌, ◌*◌, ◌%◌, ◌≤◌, ◌<◌, ◌≡◌, List, [], ◌∷◌, ◌++◌, true, length}
use Rattle.time.specs.of_area.Answer.{gives}
use Rattle.time.specs.of_digits.Digits.{all_digits, value}
use Rattle.time.specs.Time.{whole, fraction, time_of}
use Rattle.time_text.specs.Written.{float_sum, thousandths_of, written_time}

-- ---- what the claims speak of
-- stored times (rule V4)
pub record InRange (secs nanos : ℕ) : Type 0 where
  pub seconds : secs < 8388608
  pub nanoseconds : nanos < 1000000000

abbrev pub stored_nanoseconds : ℕ → ℕ → ℕ
stored_nanoseconds secs nanos = secs * 1000000000 + nanos

-- digits, a point, three digits
pub record Form (s : List ℕ) : Type 0 where
  pub parts : s ≡ whole s ++ (0x2E ∷ fraction s)
  pub before : all_digits 10 (whole s) ≡ true
  pub behind : all_digits 10 (fraction s) ≡ true
  pub three : length (fraction s) ≡ 3

-- the number of such a text in thousandths: its digits with the point left out
unfoldable pub thousandths_in : List ℕ → ℕ
thousandths_in s = value 10 (whole s ++ fraction s)

abbrev pub written_nanoseconds : ℕ → ℕ → ℕ
written_nanoseconds secs nanos = thousandths_in (written_time secs nanos) * 1000000

-- a and b differ by at most d
pub record Within (d a b : ℕ) : Type 0 where
  pub over : a ≤ b + d
  pub under : b ≤ a + d

-- s is read, as n nanoseconds
pub record ReadAs (s : List ℕ) (n : ℕ) : Type 0 where
  pub secs : ℕ
  pub nanos : ℕ
  pub given : time_of s ≡ gives (secs, nanos)
  pub same : stored_nanoseconds secs nanos ≡ n

-- times, each as seconds and nanoseconds: all in range; the sums of the stored and of the written ones
abbrev pub AllInRange : List (ℕ × ℕ) → Type 0
AllInRange [] = Unit {0}
AllInRange (t ∷ ts) = InRange t.0 t.1 × AllInRange ts

abbrev pub stored_sum : List (ℕ × ℕ) → ℕ
stored_sum [] = 0
stored_sum (t ∷ ts) = stored_nanoseconds t.0 t.1 + stored_sum ts

abbrev pub written_sum : List (ℕ × ℕ) → ℕ
written_sum [] = 0
written_sum (t ∷ ts) = written_nanoseconds t.0 t.1 + written_sum ts

-- ---- the claims
pub record Distance : Type 0 where
  -- A. The text is digits, a point and three digits, and its number of thousandths is the one nearest to the float sum.
  pub form : (secs nanos : ℕ) → Form (written_time secs nanos)
  pub counts : (secs nanos : ℕ) → InRange secs nanos → thousandths_in (written_time secs nanos) ≡ thousandths_of (float_sum secs nanos)
  -- B. The written time is off by half a millisecond at most (rule W11).
  pub bounded : (secs nanos : ℕ) → InRange secs nanos → Within 500000 (written_nanoseconds secs nanos) (stored_nanoseconds secs nanos)
  -- B. Whole milliseconds are written exactly (rule W11).
  pub exact : (secs nanos : ℕ) → InRange secs nanos → nanos % 1000000 ≡ 0 → written_nanoseconds secs nanos ≡ stored_nanoseconds secs nanos
  -- C. The sum of n written times differs from the sum of the stored ones by at most n times as much.
  pub summed : (times : List (ℕ × ℕ)) → AllInRange times → Within (length times * 500000) (written_sum times) (stored_sum times)
  -- D. The text is read as the written nanoseconds, unless they come to 8388608 seconds.
  pub read_back_of : (secs nanos : ℕ) → InRange secs nanos → written_nanoseconds secs nanos < 8388608 * 1000000000 → ReadAs (written_time secs nanos) (written_nanoseconds secs nanos)
