-- What kind of text a UUID is written as. Assumes nothing.
use Prim.Native.Nat.{ℕ, ◌+◌, ◌%◌}
use mathlib.Core.Path.{◌≡◌, refl}
use mathlib.Core.Bool.{Bool, true, false, cond}
use native.Mathlib.Omega.{arith}
use borrow.Author.Tests.{lt-ltb}
use lib.Dec.{ltb}
use lib.ListN.{length}
use Rattle.uuids.specs.of_utf8.Utf8.{utf8}
use Rattle.uuids.specs.of_utf8.inside.Ascii.{ascii}
use Rattle.uuids.proofs.of_utf8.Rules.{ascii-utf8}
use Rattle.uuids.specs.declared.Words.{Words}
use Rattle.write_uuid.specs.Written.{hex_digit, uuid_text}

digit-ascii : (n : ℕ) → ltb (hex_digit (n % 16)) 0x80 ≡ true
unfolding hex_digit
digit-ascii n = go (ltb (n % 16) 10)
  where
    go : (t : Bool) → ltb (cond t (0x30 + n % 16) (0x57 + n % 16)) 0x80 ≡ true
    go true = lt-ltb (0x30 + n % 16) 0x80 (omega arith)
    go false = lt-ltb (0x57 + n % 16) 0x80 (omega arith)

module _ (w : Words) where
  pub uuid-length : length (uuid_text w) ≡ 36
  unfolding uuid_text
  uuid-length = refl

  pub uuid-ascii : ascii (uuid_text w) ≡ true
  unfolding uuid_text
  uuid-ascii = simp digit-ascii

  -- a written UUID is UTF-8, whatever its words are
  pub utf8-uuid : utf8 (uuid_text w) ≡ true
  utf8-uuid = ascii-utf8 (uuid_text w) uuid-ascii
