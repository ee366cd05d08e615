use mathlib.Core.Path.{ap}
use Prim.Native.Nat.{ℕ, ◌%◌}
use Rattle.chains.proofs.bucket.Goals as goal

pub returns : goal.returns
returns c = ap (λ (h : ℕ). h % c.args.m) c.hash_from.ensures
