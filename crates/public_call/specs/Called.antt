-- The calls on lent areas: of the areas only their lengths count. Definitions only.
use Rattle.std.specs.Prelude.{ℕ, List, length}
use Rattle.reader.specs.of_read_machine.Reading.{Read, reading}
use Rattle.public_claims.specs.PublicListing.{public_listing}
use Rattle.public_claims.specs.Once.{Once, once}

-- what reading leaves in its three areas
abbrev pub read_into : (events attributes source records text scratch : List ℕ) → Read
read_into events attributes source records text scratch = reading events attributes source (length records) (length text) (length scratch)

-- what reading and listing in one call answers, and leaves in its four areas (rule L13)
abbrev pub once_into : (events attributes source records text scratch out : List ℕ) → Once
once_into events attributes source records text scratch out = once events attributes source (length records) (length text) (length scratch) (length out)

-- the public listing
abbrev pub listing_into : (events attributes source records text scratch out : List ℕ) → List ℕ
listing_into events attributes source records text scratch out = public_listing events attributes source (length records) (length text) (length scratch) (length out)
