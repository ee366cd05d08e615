use Rattle.build_pairs.proofs.Adding.{place-within, place-fits, kept-old, kept_new}
use native.Mathlib.Omega.{arith}
use Rattle.build_pairs.proofs.put_kept.Goals as goal

pub old_place-i-requires : goal.old_place-i-requires
old_place-i-requires c =
    place-fits c.args.b c.args.records.now c.requires.0 c.place_for-place.ensures

pub put_value-requires : goal.put_value-requires
put_value-requires c =
    let args = c.args in
    let pre = c.requires in
    let place-for = c.place_for-place in
    let f = place-fits args.b args.records.now pre.0 place-for.ensures in let h = c.if-i-place.true in omega arith

pub returns-then-i-place : goal.returns-then-i-place
returns-then-i-place c =
    let args = c.args in
    let place-for = c.place_for-place in
    let old-place = c.old_place-i in
    let if1 = c.if-i-place in
    kept-old args.b args.d args.records.now args.text.now args.k args.y place-for.ensures old-place.ensures if1.true c.put_value.ensures

pub new_pair-requires : goal.new_pair-requires
new_pair-requires c =
    let args = c.args in
    let pre = c.requires in
    let place-for = c.place_for-place in
    let f = place-within args.b args.records.now pre.0 place-for.ensures in let e = pre.1 in (omega arith, pre.2, pre.3)

pub returns : goal.returns
returns c =
    let args = c.args in
    let place-for = c.place_for-place in
    let old-place = c.old_place-i in
    let if1 = c.if-i-place in
    kept_new args.b args.d args.records.now args.text.now args.k args.y place-for.ensures
    old-place.ensures if1.false (c.new_pair.ensures args.text.now)
