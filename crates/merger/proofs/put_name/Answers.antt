use Rattle.merger.proofs.Steps.{name-here, name-none}
use Rattle.merge_records.proofs.of_merge_rows.Splicing.{splice-none}
use Rattle.merge_records.specs.of_schema.Stores.{splice}
use lib.ListN.{length}
use native.Mathlib.Omega.{arith}
use mathlib.Core.Path.{sym, ap, ◌∙◌}
use mathlib.Core.List.{List}
use Prim.Native.Nat.{ℕ}
use Rattle.merger.proofs.put_name.Goals as goal

pub put_text-requires : goal.put_text-requires
put_text-requires c =
    let pre = c.requires in
    let has-bit = c.has_bit in
    let if1 = c.if-has_bit in
    let s = c.args in
    let e = name-here s.text.now s.r.now (sym has-bit.ensures ∙ if1.true) c.field.ensures c.field-then-has_bit.ensures c.part_of.ensures in
    omega (arith, ap length e, pre)

pub returns-then-has_bit : goal.returns-then-has_bit
returns-then-has_bit c =
    let has-bit = c.has_bit in
    let if1 = c.if-has_bit in
    let field = c.field in
    let field2 = c.field-then-has_bit in
    let s = c.args in
    let e = name-here s.text.now s.r.now (sym has-bit.ensures ∙ if1.true) field.ensures field2.ensures c.part_of.ensures in
    record { value = omega (arith, ap length e, c.put_text.ensures.value); bytes_after = c.put_text.ensures.bytes_after ∙ ap (λ (l : List ℕ). splice 0 l s.bytes.now) e }

pub returns : goal.returns
returns c = let s = c.args in
    let e = name-none s.text.now s.r.now (sym c.has_bit.ensures ∙ c.if-has_bit.false) in
    record { value = sym (ap length e); bytes_after = sym (ap (λ (l : List ℕ). splice 0 l s.bytes.now) e ∙ splice-none 0 s.bytes.now) }
