use Prim.Native.Nat.{◌+◌, ◌-◌, ◌*◌}
use native.Mathlib.Omega.{arith}
use lib.ListN.{length, take, drop}
use Rattle.read_indexed.proofs.of_area.Parts.{rest_back}
use Rattle.read_indexed.specs.of_read_element.inside.Refines.{tagged, areas}
use Rattle.read_all.proofs.Wider.{front-held, rest-zero, cleared}
use Rattle.read_all.proofs.Marked.{text-zero, begun, within_same}
use Rattle.read_all.proofs.read_cleared.Goals as goal

pub mark_words-requires : goal.mark_words-requires
mark_words-requires c =
    let s = c.args in
    let pre = c.requires in
    let k = (s.range.end - s.range.first) * 32 + 32 in
    let hd = pre.begins.1.1.1.1.0 in record { first_le_end = pre.begins.0; end_bound = pre.begins.1.1.0; first_in_bounds = omega (arith, pre.first_in_bounds); first_in_bounds_2 = pre.first_in_bounds_2; own_value = rest-zero s.kind s.fill (take s.fill s.text.now) s.own.now s.text.now hd k (omega arith) (omega (arith, pre.first_in_bounds)); text_value = text-zero hd }

pub read_marked-step-requires : goal.read_marked-step-requires
read_marked-step-requires c =
    let s = c.args in
    let pre = c.requires in
    let k = (s.range.end - s.range.first) * 32 + 32 in
    let m = c.mark_words in
    let l = m.auto.own in
    let t = m.auto.text in record {
      kind_bound = pre.kind_bound;
      first_bound = omega arith;
      k_in_bounds = omega (arith, l, pre.first_in_bounds);
      marks = m.ensures.marks;
      begins = (
        pre.begins.0,
        (
          pre.begins.1.0,
          (
            pre.begins.1.1.0,
            (
              omega (arith, t, pre.begins.1.1.1.0),
              (
                begun s.kind s.fill k s.own.now s.text.now m.new.own m.new.text m.ensures.own_unchanged m.ensures.text_unchanged
                    (front-held s.kind s.fill (take s.fill s.text.now) s.own.now s.text.now pre.begins.1.1.1.1.0 k (omega arith) (omega (arith, pre.first_in_bounds))),
                pre.begins.1.1.1.1.1,
              ),
            ),
          ),
        ),
      );
    }

pub returns : goal.returns
returns c =
    let s = c.args in
    let k = (s.range.end - s.range.first) * 32 + 32 in
    let m = c.mark_words in
    let r = c.read_marked-step in
    let o = r.new.own in
    λ rooms p used whole w ro. cleared k (length (take (length o - k) (drop k o))) o (rest_back o k _) c.clear_words.ensures
    (within_same s.kind s.fill (tagged s.attributes.now s.source.now) s.range s.own.now s.text.now m.new.own m.new.text
    (areas (take k o) r.new.text) r.result m.ensures.text_unchanged m.auto.own r.ensures rooms p used whole w ro)
