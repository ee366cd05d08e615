use Prim.Native.Nat.{ℕ, ◌+◌, ◌-◌, ◌≤◌, ◌<◌, min}
use mathlib.Core.Path.{◌≡◌, sym, ap, ◌∙◌}
use mathlib.Core.List.{List}
use native.Mathlib.Omega.{arith}
use native.Mathlib.Decide.{dec_lt}
use lib.ListN.{length, drop}
use Rattle.utf8_lossy.specs.Lossy.{along}
use Rattle.utf8_lossy.proofs.Parts.{along-end, along-more, along-stop, along-done}
use Rattle.utf8_lossy.proofs.along_of.Goals as goal

ended : (s : List ℕ) (n lo hi least most i end : ℕ) → along s n lo hi ≡ i + along (drop i s) (n - i) least most → end ≤ i → i ≤ end → end ≡ min n (length s) → end ≡ along s n lo hi
ended s n lo hi least most i end e p q m = go (dec_lt i (length s))
  where
    go : Dec (i < length s) → end ≡ along s n lo hi
    go (yes h) = let z = along-done s i (n - i) least most (omega (arith, p, m, h)) in omega (arith, e, z, p, q)
    go (no h) = let z = along-end s i (n - i) least most (omega (arith, h)) in omega (arith, e, z, p, q)

pub returns-then-b-least : goal.returns-then-b-least
returns-then-b-least c =
    let l = c.loop-i in
    sym (l.invariant ∙ along-stop _ l.i (c.args.n - l.i) l.least l.most (omega arith) (omega arith) (search (arith, c.if-b-least.true)))

pub loop-i-preserved : goal.loop-i-preserved
loop-i-preserved c =
    let l = c.loop-i in
    let left : c.args.n - l.i - 1 ≡ c.args.n - (l.i + 1) = omega arith in
    l.invariant ∙ along-more _ l.i (c.args.n - l.i) l.least l.most (omega arith) (omega arith) (search (arith, c.if-b-least.false))
    ∙ ap (λ (k : ℕ). l.i + 1 + along (drop (l.i + 1) c.args.s.now) k 0x80 0xBF) left

pub returns : goal.returns
returns c = let l = c.loop-i in ended _ _ _ _ l.least l.most l.i _ l.invariant (omega arith) (omega arith) c.min-end.ensures
