use Rattle.read_attributes.proofs.Sparing.{spare-zero, text-back}
use Rattle.read_attributes.specs.inside.Elements.{Vacant, Becomes}
use Rattle.read_all.specs.of_read_element.inside.Refines.{tagged, areas}
use Rattle.read_all.specs.of_read_element.Attributes.{read_element}
use mathlib.Core.List.{List}
use Rattle.read_all.specs.of_area.Area.{zeros}
use Rattle.read_all.specs.of_read_element.inside.Held.{Roomy}
use mathlib.Core.Path.{sym, ap, subst, ◌∙◌}
use native.Mathlib.Omega.{arith}
use lib.ListN.{length, take}
use Prim.Native.Nat.{ℕ, ◌-◌}
use Rattle.read_all.specs.of_table.Event.{attributes_from}
use Rattle.read_attributes.proofs.Growing.{element-spent}
use Rattle.read_attributes.proofs.read_element.Goals as goal

pub returns-then-own-lt32 : goal.returns-then-own-lt32
returns-then-own-lt32 c =
    let args = c.args in
    λ rooms p before w ro. element-spent p before ro args.kind args.range.first (attributes_from args.attributes.now args.source.now
    (args.range.end - args.range.first) args.range.first) (take args.fill args.text.now) c.if-own-lt32.true w c.refused.ensures

pub clear_to-clear-requires : goal.clear_to-clear-requires
clear_to-clear-requires c =
    let start = c in
    let v = start.requires.vacant in record { first_le_end = v.0; end_in_bounds = v.1.0; end_bound = v.1.1.0; own_value = v.1.1.1.1.1.0; spare_value = spare-zero start.args.text.now start.args.fill v.1.1.1.1.1.1.0; free = v.1.1.1.1.1.1.1 }

pub read_record-requires : goal.read_record-requires
read_record-requires c =
    let if1 = c.if-own-lt32 in
    let clear-to = c.clear_to-clear in
    let s = c.args in
    let p = c.requires in let v = p.vacant in let l = clear-to.auto.own in
    let e = text-back s.text.now s.fill v.1.1.1.1.1.1.0 clear-to.ensures.spare_after in record {
      kind_bound = p.kind_bound;
      in_bounds = omega (arith, l, if1.false);
      free = clear-to.ensures.free_2;
      vacant = subst (λ (t : List ℕ). Vacant (tagged s.attributes.now s.source.now) s.range s.known s.fill (areas clear-to.new.own t)) (sym e)
          (v.0, (v.1.0, (v.1.1.0, (v.1.1.1.0, (v.1.1.1.1.0, (clear-to.ensures.own_after ∙ ap zeros (sym l), (v.1.1.1.1.1.1.0, v.1.1.1.1.1.1.1)))))));
    }

pub shape_of-text : goal.shape_of-text
shape_of-text c =
    let at-clear-to = c in
    let start = at-clear-to in
    let read-record = c.read_record in
    let s = start.args in read-record.auto.text ∙ ap length (text-back s.text.now s.fill start.requires.vacant.1.1.1.1.1.1.0 at-clear-to.clear_to-clear.ensures.spare_after)

pub returns : goal.returns
returns c =
    let at-clear-to = c in
    let start = at-clear-to in
    let read-record = c.read_record in
    let s = start.args in let l = at-clear-to.clear_to-clear.auto.own in
    let e = text-back s.text.now s.fill start.requires.vacant.1.1.1.1.1.1.0 at-clear-to.clear_to-clear.ensures.spare_after in
    λ rooms p before w ro. subst (λ (t : List ℕ). Becomes p before read-record.new.own read-record.new.text
    s.attributes.now s.source.now (read_element rooms p s.kind s.range.first
    (attributes_from s.attributes.now s.source.now (s.range.end - s.range.first) s.range.first) before (take s.fill t)) read-record.result) e
    (read-record.ensures rooms p before w (subst (λ (n : ℕ). Roomy rooms (length before) (length at-clear-to.clear_to-clear.new.own) n) (sym (ap length e))
    (subst (λ (n : ℕ). Roomy rooms (length before) n (length s.text.now)) (sym l) ro)))
