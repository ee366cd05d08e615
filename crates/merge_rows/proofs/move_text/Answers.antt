use Rattle.merge_rows.proofs.Steps.{part-here, none_here, start-here, start_none}
use Rattle.merge_rows.proofs.Splicing.{splice-none}
use Rattle.write_bytes.specs.of_schema.Stores.{splice}
use lib.ListN.{length}
use native.Mathlib.Omega.{arith}
use native.Mathlib.Nat.{add-zero}
use mathlib.Core.Path.{sym, ap, ◌∙◌}
use mathlib.Core.List.{List}
use Prim.Native.Nat.{ℕ, ◌+◌}
use Rattle.merge_rows.proofs.move_text.Goals as goal

pub put_text-requires : goal.put_text-requires
put_text-requires c =
    let pre = c.requires in
    let has-text = c.has_text in
    let if1 = c.if-has_text in
    let s = c.args in
    let e =
    part-here s.slot s.k s.o s.text.now s.r.now (sym has-text.ensures ∙ if1.true) c.field.ensures c.field-then-has_text.ensures c.part_of.ensures in
    omega (arith, ap length e, pre.1)

pub returns-then-has_text : goal.returns-then-has_text
returns-then-has_text c =
    let has-text = c.has_text in
    let if1 = c.if-has_text in
    let put-field = c.put_field in
    let field = c.field in
    let field2 = c.field-then-has_text in
    let s = c.args in
    let h = sym has-text.ensures ∙ if1.true in
    let e = part-here s.slot s.k s.o s.text.now s.r.now h field.ensures field2.ensures c.part_of.ensures in record { value = c.put_text.ensures.value ∙ ap (λ (l : List ℕ). s.fill + length l) e; row_after = start-here s.slot s.k s.o s.r.now s.fill s.row.now h put-field.ensures; bytes_after = c.put_text.ensures.bytes_after ∙ ap (λ (l : List ℕ). splice s.fill l s.bytes.now) e }

pub returns : goal.returns
returns c = let s = c.args in
    let h = sym c.has_text.ensures ∙ c.if-has_text.false in
    let e = none_here s.slot s.k s.o s.text.now s.r.now h in record { value = sym (ap (λ (l : List ℕ). s.fill + length l) e ∙ add-zero s.fill); row_after = start_none s.slot s.k s.o s.r.now s.fill s.row.now h; bytes_after = sym (ap (λ (l : List ℕ). splice s.fill l s.bytes.now) e ∙ splice-none s.fill s.bytes.now) }
