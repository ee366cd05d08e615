-- What kind of text a timestamp is written as. Assumes nothing.
use Prim.Native.Nat.{ℕ, ◌+◌, ◌%◌}
use mathlib.Core.Path.{◌≡◌, refl}
use mathlib.Core.Bool.{Bool, true, false, cond}
use native.Mathlib.Omega.{arith}
use borrow.Author.Tests.{lt-ltb}
use lib.Dec.{ltb}
use lib.ListN.{length}
use Rattle.timestamp.specs.of_utf8.Utf8.{utf8}
use Rattle.timestamp.specs.of_utf8.inside.Ascii.{ascii}
use Rattle.timestamp.proofs.of_utf8.Rules.{ascii-utf8}
use Rattle.timestamp.specs.declared.Moment.{Moment}
use Rattle.write_moment.specs.Written.{date_text, clock_text, offset_text, timestamp_text, sign}

digit-ascii : (n : ℕ) → ltb (0x30 + n % 10) 0x80 ≡ true
digit-ascii n = lt-ltb (0x30 + n % 10) 0x80 (omega arith)

sign-ascii : (offset : ℕ) → ltb (sign offset) 0x80 ≡ true
sign-ascii offset = go (ltb offset 1439)
  where
    go : (t : Bool) → ltb (cond t 0x2D 0x2B) 0x80 ≡ true
    go true = refl
    go false = refl

module _ (m : Moment) where
  pub timestamp-length : length (timestamp_text m) ≡ 29
  unfolding date_text clock_text offset_text timestamp_text
  timestamp-length = refl

  pub timestamp-ascii : ascii (timestamp_text m) ≡ true
  unfolding date_text clock_text offset_text timestamp_text
  timestamp-ascii = simp (digit-ascii, sign-ascii m.offset)

  -- a written timestamp is UTF-8, whatever the moment is
  pub utf8-timestamp : utf8 (timestamp_text m) ≡ true
  utf8-timestamp = ascii-utf8 (timestamp_text m) timestamp-ascii
