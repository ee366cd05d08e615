use Prim.Native.Nat.{ℕ, ◌+◌, ◌-◌}
use mathlib.Core.Path.{◌≡◌, ap}
use native.Mathlib.Omega.{arith}
use lib.ListN.{take, drop}
use Rattle.table_parts.proofs.Parts.{part-past, part-rest}
use Rattle.table_parts.proofs.bytes_of.Goals as goal

pub returns-then-size-start : goal.returns-then-size-start
returns-then-size-start c = part-past c.args.source.now c.args.start c.args.len c.if-size-start.true

pub returns-then-size-start-2 : goal.returns-then-size-start-2
returns-then-size-start-2 c = part-rest c.args.source.now c.args.start c.args.len c.if-size-start-2.true

pub returns : goal.returns
returns c = let z : c.args.start + c.args.len - c.args.start ≡ c.args.len = omega arith in
    ap (λ (n : ℕ). take n (drop c.args.start c.args.source.now)) z
