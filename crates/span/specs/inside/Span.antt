-- Two instants by their seconds and nanoseconds; proofs/Numbers.antt says that this is the order and the difference of one number. Definitions only.
use Rattle.std.specs.Prelude.{ℕ, ◌-◌, Bool, cond, ◌&&◌, ◌||◌, ltb, eqb}
use Rattle.instant.specs.declared.Instant.{Instant}

abbrev pub sooner : Instant → Instant → Bool
sooner a b = ltb a.seconds b.seconds || (eqb a.seconds b.seconds && ltb a.nanos b.nanos)

-- a second is borrowed where the nanoseconds are fewer
abbrev pub seconds_between : Instant → Instant → ℕ
seconds_between a b = cond (ltb b.nanos a.nanos) (b.seconds - a.seconds - 1) (b.seconds - a.seconds)

abbrev pub nanos_between : Instant → Instant → ℕ
nanos_between a b = cond (ltb b.nanos a.nanos) (1000000000 - (a.nanos - b.nanos)) (b.nanos - a.nanos)
