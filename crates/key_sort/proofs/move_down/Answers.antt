use Rattle.key_sort.proofs.Taking.{numbers-down}
use Rattle.key_sort.proofs.Numbers.{length-numbers}
use Rattle.std.proofs.lemmas.List.Edits.{take-paste}
use Prim.Native.Nat.{◌+◌, ◌-◌, ◌≤◌}
use mathlib.Core.Path.{◌≡◌, ap, ◌∙◌}
use native.Mathlib.Omega.{arith}
use lib.ListN.{length, take, drop, length-drop}
use lib.Seq.{paste}
use Rattle.key_sort.proofs.move_down.Goals as goal

pub overflow_add-start : goal.overflow_add-start
overflow_add-start c = omega (arith, c.requires, c.well_formed, length-numbers c.args.bytes.now)

pub overflow_add-start-2 : goal.overflow_add-start-2
overflow_add-start-2 c = omega (arith, c.requires, c.well_formed, length-numbers c.args.bytes.now)

pub copy_within-requires-clause-in_bounds : goal.copy_within-requires-clause-in_bounds
copy_within-requires-clause-in_bounds c = omega (arith, c.requires, length-numbers c.args.bytes.now)

pub copy_within-requires-clause-dest_in_bounds : goal.copy_within-requires-clause-dest_in_bounds
copy_within-requires-clause-dest_in_bounds c =
    let m = c.args.n + c.args.n in
    let z : 0 + (m + m - m) ≤ length c.args.bytes.now = omega (arith, c.requires, length-numbers c.args.bytes.now) in
    z

pub returns : goal.returns
returns c =
    let w = c.args.bytes.now in
    let m = c.args.n + c.args.n in
    let l = length-numbers w in
    let d = length-drop m w in
    let z : m ≡ 0 + (m + m - m) = omega arith in
    let y : m + m - m ≡ m = omega arith in
    numbers-down w c.copy_within.new.self c.args.n c.requires c.copy_within.ensures.len
    (ap (take m) c.copy_within.ensures.after ∙ ap (λ k. take k (paste w 0 (drop m w) (m + m - m))) z
    ∙ take-paste w 0 (drop m w) (m + m - m) (omega (arith, c.requires, l)) (omega (arith, c.requires, l, d)) ∙ ap (λ k. take k (drop m w)) y)
