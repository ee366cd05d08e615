use Prim.Native.Nat.{ℕ, ◌+◌, ◌≤◌}
use mathlib.Core.Path.{sym, ap, ◌∙◌}
use mathlib.Core.List.{List}
use native.Mathlib.Nat.{le_of_lt}
use native.Mathlib.Omega.{arith}
use lib.ListN.{length, take}
use lib.Seq.{length-take-le}
use Rattle.fraction.proofs.of_area.Parts.{rest_part}
use Rattle.time.specs.Time.{fraction, formed_time}
use Rattle.fraction.proofs.of_area.Seeking.{first-within}
use Rattle.time.proofs.Points.{whole-at, fraction-at, whole-none, fraction-none}
use Rattle.time.proofs.read.formed_time.Goals as goal
use Rattle.time.proofs.read.formed_time.Goals.{Else-p-s}

within : (c : Else-p-s) → c.first_at-p.result ≤ length c.args.s.now
within c = omega (arith, first-within 0x2E c.args.s.now, c.first_at-p.ensures)

pub slice_bounds-time_in-end : goal.slice_bounds-time_in-end
slice_bounds-time_in-end c =
    let args = c.args in
    sym (length-take-le c.first_at-p.result args.s.now (le_of_lt c.if-p-s.true))

pub returns-then-p-s : goal.returns-then-p-s
returns-then-p-s c =
    let first-at = c.first_at-p in
    let s = c.args.s.now in
    let p = first-at.result in
    let e = first-at.ensures in
    c.time_in.ensures ∙ ap (λ (l : List ℕ). formed_time (take p s) l) (rest_part s (p + 1) ∙ fraction-at s p e) ∙ ap (λ (l : List ℕ). formed_time l (fraction s)) (whole-at s p e)

pub slice_bounds-time_in-count-2 : goal.slice_bounds-time_in-count-2
slice_bounds-time_in-count-2 c = within (goal.at.slice_bounds-time_in-count-2 c).Else-p-s

pub slice_bounds-time_in-start-2 : goal.slice_bounds-time_in-start-2
slice_bounds-time_in-start-2 c = within (goal.at.slice_bounds-time_in-start-2 c).Else-p-s

pub returns : goal.returns
returns c = let s = c.args.s.now in
    let p = c.first_at-p.result in
    let e = c.first_at-p.ensures in
    let h = c.if-p-s.false in
    c.time_in-2.ensures ∙ ap (λ (l : List ℕ). formed_time s l) (rest_part s p ∙ fraction-none s p e h) ∙ ap (λ (l : List ℕ). formed_time l (fraction s)) (whole-none s p e h)
