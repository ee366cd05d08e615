-- UUIDs, computed. Assumes nothing.
use mathlib.Core.Path.{◌≡◌, refl}
use mathlib.Core.List.{[], ◌∷◌, ◌++◌}
use Rattle.names.specs.of_area.Answer.{gives, refuses}
use Rattle.fixed.specs.of_utf8.Utf8.{need, low, high}
use Rattle.names.specs.Bytes.{bytes}
use Rattle.fixed.specs.of_digits.Digits.{digit}
use Rattle.uuids.specs.Uuid.{is_uuid, uuid_of}
use Rattle.names.specs.of_refusal.declared.Cause.TheVariants as cause

-- RFC 9562, section 4; letters of either case
read : (uuid_of (bytes "f81d4fae-7dec-11d0-a765-00a0c91e6bf6") ≡ gives (record { a = 0xF81D4FAE; b = 0x7DEC11D0; c = 0xA76500A0; d = 0xC91E6BF6 }))
    × (uuid_of (bytes "F81D4FAE-7DEC-11D0-A765-00A0C91E6BF6") ≡ gives (record { a = 0xF81D4FAE; b = 0x7DEC11D0; c = 0xA76500A0; d = 0xC91E6BF6 }))
unfolding uuid_of is_uuid digit need low high
read = (refl, refl)

-- RFC 9562, section 5.10
largest : uuid_of (bytes "ffffffff-ffff-ffff-ffff-ffffffffffff") ≡ gives (record { a = 0xFFFFFFFF; b = 0xFFFFFFFF; c = 0xFFFFFFFF; d = 0xFFFFFFFF })
unfolding uuid_of is_uuid digit need low high
largest = refl

-- a moved hyphen, a digit less, a digit more, no hyphens, g
other-forms : (uuid_of (bytes "f81d4fae7-dec-11d0-a765-00a0c91e6bf6") ≡ refuses cause.BadUuid)
    × (uuid_of (bytes "f81d4fae-7dec-11d0-a765-00a0c91e6bf") ≡ refuses cause.BadUuid)
    × (uuid_of (bytes "f81d4fae-7dec-11d0-a765-00a0c91e6bf60") ≡ refuses cause.BadUuid)
    × (uuid_of (bytes "f81d4fae7dec11d0a76500a0c91e6bf6") ≡ refuses cause.BadUuid)
    × (uuid_of (bytes "g81d4fae-7dec-11d0-a765-00a0c91e6bf6") ≡ refuses cause.BadUuid)
unfolding uuid_of is_uuid digit need low high
other-forms = (refl, refl, refl, refl, refl)

-- no UUID, and not UTF-8: 2 comes before 6
two-before-six : (uuid_of (0xFF ∷ []) ≡ refuses cause.NotUtf8) × (uuid_of (bytes "f81d4fae-7dec-11d0-a765-00a0c91e6bf" ++ (0xFF ∷ [])) ≡ refuses cause.NotUtf8)
unfolding uuid_of is_uuid digit need low high
two-before-six = (refl, refl)
