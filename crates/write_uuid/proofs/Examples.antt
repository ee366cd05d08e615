-- UUIDs written, computed. Assumes nothing.
use Prim.Native.Nat.{ℕ}
use mathlib.Core.Path.{◌≡◌, refl}
use Rattle.uuids.specs.of_names.Bytes.{bytes}
use Rattle.uuids.specs.declared.Words.{Words}
use Rattle.write_uuid.specs.Written.{hex_digit, uuid_text}

words : ℕ → ℕ → ℕ → ℕ → Words
words a b c d = record { a = a; b = b; c = c; d = d }

-- RFC 9562, appendix A.1: a UUIDv1
time-based : uuid_text (words 0xC232AB00 0x941411EC 0xB3C89F6B 0xDECED846) ≡ bytes "c232ab00-9414-11ec-b3c8-9f6bdeced846"
unfolding hex_digit uuid_text words
time-based = refl

-- RFC 9562, sections 5.9 and 5.10
nil : uuid_text (words 0 0 0 0) ≡ bytes "00000000-0000-0000-0000-000000000000"
unfolding hex_digit uuid_text words
nil = refl

max : uuid_text (words 0xFFFFFFFF 0xFFFFFFFF 0xFFFFFFFF 0xFFFFFFFF) ≡ bytes "ffffffff-ffff-ffff-ffff-ffffffffffff"
unfolding hex_digit uuid_text words
max = refl

-- each digit at its place
places : uuid_text (words 0x01234567 0x89ABCDEF 0xFEDCBA98 0x76543210) ≡ bytes "01234567-89ab-cdef-fedc-ba9876543210"
unfolding hex_digit uuid_text words
places = refl
