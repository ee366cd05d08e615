use Rattle.xml_writer.specs.of_area.Area.{zeros}
use Rattle.document_printing.proofs.Reports.{program}
use Rattle.write_printing.proofs.Printing.{same_text, sized}
use Rattle.write_printing.proofs.of_list_input.Inputs.{found-lies, found-table}
use lib.ListN.{length, length-replicate}
use mathlib.Core.Path.{◌≡◌, sym, ◌∙◌}
use Prim.Native.Nat.{ℕ}
use borrow.Author.Rules.{rules}
use Rattle.document_printing.proofs.print_input.Goals as goal

pub slice_bounds-input_of-end : goal.slice_bounds-input_of-end
slice_bounds-input_of-end c = sym (length-replicate {A = ℕ} 16384 0)

pub slice_bounds-input_of-end-2 : goal.slice_bounds-input_of-end-2
slice_bounds-input_of-end-2 c = sym (length-replicate {A = ℕ} 16384 0)

pub input_of-found-requires : goal.input_of-found-requires
input_of-found-requires c = tt

pub slice_bounds-print_found-end : goal.slice_bounds-print_found-end
slice_bounds-print_found-end c = let i = c.input_of-found in sym (i.auto.events ∙ length-replicate {A = ℕ} 16384 0)

pub slice_bounds-print_found-end-2 : goal.slice_bounds-print_found-end-2
slice_bounds-print_found-end-2 c = let i = c.input_of-found in sym (i.auto.attributes ∙ length-replicate {A = ℕ} 16384 0)

pub print_found-requires : goal.print_found-requires
print_found-requires c =
    let a = c.args in
    let i = c.input_of-found in
    found-lies i.result _ (length i.new.events) _ (length i.new.attributes) a.input.now i.ensures.value i.auto.events i.auto.attributes

pub returns : goal.returns
returns c =
    let a = c.args in
    let i = c.input_of-found in
    let l : length a.out.now ≡ 65536 = search rules in
    let e = found-table i.result (zeros 16384) i.new.events (zeros 16384) i.new.attributes a.input.now i.ensures.value i.ensures.events_after i.ensures.attributes_after in
    let both = sized _ _ _ _ l
    (same_text (length a.out.now) (program _ _ a.input.now _ _ l (length-replicate {A = ℕ} 16384 0) (length-replicate {A = ℕ} 16384 0) e) (c.print_found.ensures.out, c.print_found.ensures.count)) in record { out = both.0; count = both.1 }
