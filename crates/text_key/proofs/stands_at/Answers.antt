use Prim.Native.Nat.{ℕ, ◌+◌, ◌-◌}
use mathlib.Core.Path.{◌≡◌, sym, ap, ◌∙◌}
use native.Mathlib.Omega.{arith}
use lib.Seq.{length-take-le}
use lib.ListN.{take, drop}
use Rattle.text.specs.of_names.Names.{same_bytes}
use Rattle.text_key.proofs.Keys.{same-short}
use Rattle.text_key.proofs.stands_at.Goals as goal

pub returns-then-s-k : goal.returns-then-s-k
returns-then-s-k c =
    let a = c.args in same-short a.s.now a.p.bytes a.k a.p.n c.if-s-k.true c.requires.n_in_bounds

pub slice_bounds-same-end-2 : goal.slice_bounds-same-end-2
slice_bounds-same-end-2 c =
    let pre = c.requires in
    sym (length-take-le _ _ pre.n_in_bounds)

pub returns : goal.returns
returns c =
    let a = c.args in
    let z : a.k + a.p.n - a.k ≡ a.p.n = omega arith in c.same.ensures ∙ ap (λ (n : ℕ). same_bytes (take n (drop a.k a.s.now)) (take a.p.n a.p.bytes)) z
