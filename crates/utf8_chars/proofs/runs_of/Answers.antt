use Prim.Native.Nat.{ℕ, ◌+◌, ◌-◌, ◌<◌}
use mathlib.Core.Bool.{Bool, true, false}
use mathlib.Core.Path.{◌≡◌, refl, sym, ap, ◌∙◌}
use mathlib.Core.List.{List}
use native.Mathlib.Omega.{arith}
use lib.ListN.{length, drop}
use Rattle.utf8.specs.Utf8.{runs}
use Rattle.utf8.proofs.Runs.{runs-length, runs-next}
use Rattle.utf8_chars.proofs.runs_of.Goals as goal

too-short : (s : List ℕ) (n lo hi : ℕ) → length s < n → false ≡ runs s n lo hi
too-short s n lo hi h = go (runs s n lo hi) refl
  where
    go : (t : Bool) → runs s n lo hi ≡ t → false ≡ runs s n lo hi
    go true e = let z = runs-length s n lo hi e in absurd (omega arith)
    go false e = sym e

pub returns-then-s-n : goal.returns-then-s-n
returns-then-s-n c = too-short _ _ _ _ c.if-s-n.true

pub returns-then-b-least : goal.returns-then-b-least
returns-then-b-least c =
    let l = c.loop-i in
    sym (l.invariant.1 ∙ runs-next _ l.i (c.args.n - l.i) l.least l.most (omega arith) false (omega arith) (search (arith, c.if-b-least.true)))

pub loop-i-preserved : goal.loop-i-preserved
loop-i-preserved c =
    let l = c.loop-i in
    let left : c.args.n - l.i - 1 ≡ c.args.n - (l.i + 1) = omega arith in (
      l.invariant.0,
      l.invariant.1 ∙ runs-next _ l.i (c.args.n - l.i) l.least l.most (omega arith) true (omega arith) (search (arith, c.if-b-least.false))
          ∙ ap (λ (k : ℕ). runs (drop (l.i + 1) c.args.s.now) k 0x80 0xBF) left,
    )
