use Prim.Native.Nat.{◌≤◌, ◌+◌}
use mathlib.Core.Path.{◌≡◌, ap, ◌∙◌}
use native.Mathlib.Omega.{arith}
use lib.ListN.{length}
use Rattle.std.specs.Prelude.{Some}
use Rattle.names.proofs.of_area.Parts.{rest_part}
use Rattle.timestamp.specs.Timestamp.{tail}
use Rattle.timestamp.specs.inside.Leaves.{fraction_of, zone_of}
use Rattle.timestamp.proofs.Forms.{form-short, form-date, form-clock, form-fraction, form-width, form-zone, form-right}
use Rattle.timestamp.proofs.form_of.Goals as goal
use Rattle.timestamp.proofs.form_of.Goals.{In_ok-nanos}

fraction-told : (c : In_ok-nanos) → Some (c.in_ok-nanos.nanos, c.in_ok-nanos.width) ≡ fraction_of (tail c.args.s.now)
fraction-told c = c.in_ok-nanos.ensures ∙ ap fraction_of (rest_part c.args.s.now 19)

width_fits : (c : In_ok-nanos) → 19 + c.in_ok-nanos.width ≤ length c.args.s.now
width_fits c = form-width c.args.s.now c.in_ok-nanos.nanos c.in_ok-nanos.width (fraction-told c) c.if-s-lt20.false

pub returns-then-s-lt20 : goal.returns-then-s-lt20
returns-then-s-lt20 c = form-short _ c.if-s-lt20.true

pub returns-in_err-year : goal.returns-in_err-year
returns-in_err-year c = c.from_residual.ensures ∙ form-date _ c.in_err-year.ensures

pub returns-in_err-hour : goal.returns-in_err-hour
returns-in_err-hour c = c.from_residual-in_err-hour.ensures ∙ form-clock _ c.in_err-hour.ensures

pub returns-in_err-nanos : goal.returns-in_err-nanos
returns-in_err-nanos c = let s = c.args.s.now in c.from_residual-in_err-nanos.ensures ∙ form-fraction s (c.in_err-nanos.ensures ∙ ap fraction_of (rest_part s 19))

pub overflow_add-at : goal.overflow_add-at
overflow_add-at c = omega (arith, width_fits (goal.at.overflow_add-at c).In_ok-nanos)

pub slice_bounds-zone_of-count : goal.slice_bounds-zone_of-count
slice_bounds-zone_of-count c = omega (arith, width_fits (goal.at.slice_bounds-zone_of-count c).In_ok-nanos)

pub slice_bounds-zone_of-start : goal.slice_bounds-zone_of-start
slice_bounds-zone_of-start c = omega (arith, width_fits (goal.at.slice_bounds-zone_of-start c).In_ok-nanos)

pub returns-in_err-offset : goal.returns-in_err-offset
returns-in_err-offset c =
    let s = c.args.s.now in
    let told = fraction-told (goal.at.returns-in_err-offset c).In_ok-nanos in
    c.from_residual-in_err-offset.ensures ∙ form-zone s c.in_ok-nanos.nanos c.in_ok-nanos.width told (c.in_err-offset.ensures ∙ ap zone_of (rest_part s (19 + c.in_ok-nanos.width)))

pub returns : goal.returns
returns c =
    let s = c.args.s.now in
    let told = fraction-told (goal.at.returns c).In_ok-nanos in
    form-right s c.in_ok-nanos.nanos c.in_ok-nanos.width told c.in_ok-year.year c.in_ok-year.month c.in_ok-year.day c.in_ok-hour.hour c.in_ok-hour.minute c.in_ok-hour.second c.in_ok-offset.offset
    c.if-s-lt20.false c.in_ok-year.ensures c.in_ok-hour.ensures (c.in_ok-offset.ensures ∙ ap zone_of (rest_part s (19 + c.in_ok-nanos.width)))
