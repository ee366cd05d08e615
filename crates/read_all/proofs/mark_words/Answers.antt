use mathlib.Core.Path.{ap, ◌∙◌}
use native.Mathlib.Omega.{arith}
use Prim.Native.Nat.{◌-◌}
use lib.ListN.{length, length-drop}
use Rattle.read_indexed.proofs.of_area.Parts.{rest_part, rest_back}
use Rattle.read_all.proofs.Marked.{marks-none, marked-front, marked-rest, text-back}
use Rattle.read_all.proofs.mark_words.Goals as goal

pub mark_range-requires : goal.mark_range-requires
mark_range-requires c =
    let s = c.args in
    let pre = c.requires in
    let a = ap length (rest_part s.own.now s.k) ∙ length-drop s.k s.own.now in
    let b = ap length (rest_part s.text.now s.fill) ∙ length-drop s.fill s.text.now in record { first_le_end = pre.first_le_end; end_bound = pre.end_bound; first_in_bounds = omega (arith, a, pre.first_in_bounds); first_in_bounds_2 = omega (arith, b, pre.first_in_bounds_2); marks = marks-none s.attributes.now s.source.now s.range.first (length s.own.now - s.k) (rest_part s.own.now s.k ∙ pre.own_value) }

pub returns : goal.returns
returns c =
    let s = c.args in
    let pre = c.requires in
    let m = c.mark_range in
    let w = m.new.words in
    let b = m.new.bytes in
    let q = rest_back s.own.now s.k w in record { own_unchanged = marked-front s.k s.own.now w (omega (arith, pre.first_in_bounds)) q; marks = marked-rest s.k s.own.now w (omega (arith, pre.first_in_bounds)) q s.attributes.now s.source.now s.range.first m.ensures.marks_2; text_unchanged = text-back s.fill s.text.now pre.text_value (rest_back s.text.now s.fill b) m.ensures.bytes_after }
