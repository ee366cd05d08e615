use Rattle.merge_rows.proofs.Steps.{copied, row-split, row_fits, row-rows}
use Rattle.merge_rows.proofs.Splicing.{first_fits, same_size, second_fits, two, two_size}
use Rattle.merge_rows.specs.inside.Slots.{text_bits, front_texts, back_texts}
use Rattle.write_bytes.specs.of_schema.Stores.{splice}
use lib.ListN.{length}
use native.Mathlib.Omega.{arith}
use mathlib.Core.Path.{sym, ap, ◌∙◌}
use mathlib.Core.List.{List}
use Prim.Native.Nat.{ℕ, ◌+◌}
use Rattle.merge_rows.proofs.move_row.Goals as goal

pub move_front-a-requires : goal.move_front-a-requires
move_front-a-requires c =
    let start = c in
    let s = start.args in
    let q = c.text_bits-m.ensures ∙ ap text_bits c.field.ensures in
    let m = c.text_bits-m.result in
    let x = front_texts m s.text.now s.r.now in
    let y = back_texts m s.text.now s.r.now in
    let h = row_fits s.text.now s.r.now q s.fill start.requires.1 in
    (first_fits s.fill s.bytes.now x y h, start.requires.2)

pub move_back-requires : goal.move_back-requires
move_back-requires c =
    let pre = c.requires in
    let field = c.field in
    let text-bits = c.text_bits-m in
    let move-front = c.move_front-a in
    let s = c.args in
    let q = text-bits.ensures ∙ ap text_bits field.ensures in
    let m = text-bits.result in
    let x = front_texts m s.text.now s.r.now in
    let y = back_texts m s.text.now s.r.now in
    let h = row_fits s.text.now s.r.now q s.fill pre.1 in
    (second_fits s.fill s.bytes.now x y h move-front.ensures.value move-front.ensures.bytes_after, omega (arith, same_size s.fill s.bytes.now x y h move-front.ensures.bytes_after, pre.2))

pub returns : goal.returns
returns c =
    let at-put-words = c in
    let start = at-put-words in
    let field = c.field in
    let text-bits = c.text_bits-m in
    let move-front = c.move_front-a in
    let move-back = c.move_back in
    let s = start.args in
    let q = text-bits.ensures ∙ ap text_bits field.ensures in
    let m = text-bits.result in
    let x = front_texts m s.text.now s.r.now in
    let y = back_texts m s.text.now s.r.now in
    let h = row_fits s.text.now s.r.now q s.fill start.requires.1 in
    let e = row-split s.text.now s.r.now q in record {
      value = two_size s.fill s.bytes.now x y h move-front.ensures.value move-back.ensures.value ∙ sym (ap (λ (l : List ℕ). s.fill + length l) e);
      row_after = row-rows s.text.now s.r.now q s.fill move-front.ensures.value
          (copied s.row.now s.r.now _ at-put-words.put_words.result start.requires.0 at-put-words.put_words.ensures) move-front.ensures.row_after move-back.ensures.row_after;
      bytes_after = two s.fill s.bytes.now x y h move-front.ensures.value move-front.ensures.bytes_after move-back.ensures.bytes_after ∙ sym (ap (λ (l : List ℕ). splice s.fill l s.bytes.now) e);
    }
