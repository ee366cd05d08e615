use Prim.Native.Nat.{ℕ}
use mathlib.Core.Path.{◌≡◌, sym}
use lib.ListN.{length, length-replicate}
use borrow.Author.Rules.{rules}
use Rattle.xml_printing.proofs.Documents.{program, sized}
use Rattle.xml_printing.proofs.print_xml.Goals as goal

pub slice_bounds-print_document-end : goal.slice_bounds-print_document-end
slice_bounds-print_document-end c = sym (length-replicate {A = ℕ} 16384 0)

pub slice_bounds-print_document-end-2 : goal.slice_bounds-print_document-end-2
slice_bounds-print_document-end-2 c = sym (length-replicate {A = ℕ} 16384 0)

pub slice_bounds-print_document-end-3 : goal.slice_bounds-print_document-end-3
slice_bounds-print_document-end-3 c = sym (length-replicate {A = ℕ} 16384 0)

pub slice_bounds-print_document-end-4 : goal.slice_bounds-print_document-end-4
slice_bounds-print_document-end-4 c = sym (length-replicate {A = ℕ} 65536 0)

pub slice_bounds-print_document-end-5 : goal.slice_bounds-print_document-end-5
slice_bounds-print_document-end-5 c = sym (length-replicate {A = ℕ} 65536 0)

pub print_document-requires : goal.print_document-requires
print_document-requires c = tt

pub returns : goal.returns
returns c =
    let a = c.args in
    let p = c.print_document.ensures in
    let l : length a.out.now ≡ 65536 = search rules in
    let both = program _ _ _ _ _ _ (length-replicate {A = ℕ} 16384 0) (length-replicate {A = ℕ} 16384 0)
    (sized _ _ _ _ (length-replicate {A = ℕ} 16384 0) (length-replicate {A = ℕ} 65536 0) (length-replicate {A = ℕ} 65536 0) l)
    (p.out, p.count) in record { out = both.0; count = both.1 }
