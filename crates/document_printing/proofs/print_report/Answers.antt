use Rattle.document_printing.proofs.Reports.{report-read, report-refused}
use Rattle.write_printing.proofs.Printing.{same_text}
use Rattle.xml_listing.proofs.of_public_call.Listings.{read-accepted, read-refused}
use lib.ListN.{length, length-replicate}
use mathlib.Core.Path.{sym, ◌∙◌}
use Prim.Native.Nat.{ℕ}
use Rattle.document_printing.proofs.print_report.Goals as goal

pub slice_bounds-read-end : goal.slice_bounds-read-end
slice_bounds-read-end c = sym (length-replicate {A = ℕ} 16384 0)

pub slice_bounds-read-end-2 : goal.slice_bounds-read-end-2
slice_bounds-read-end-2 c = sym (length-replicate {A = ℕ} 65536 0)

pub slice_bounds-read-end-3 : goal.slice_bounds-read-end-3
slice_bounds-read-end-3 c = sym (length-replicate {A = ℕ} 65536 0)

pub read-reading-requires : goal.read-reading-requires
read-reading-requires c = tt

pub slice_bounds-print_tree-end : goal.slice_bounds-print_tree-end
slice_bounds-print_tree-end c =
    let read = c.read-reading in
    sym (read.auto.records ∙ length-replicate {A = ℕ} 16384 0)

pub slice_bounds-print_tree-end-in-Accepted : goal.slice_bounds-print_tree-end-in-Accepted
slice_bounds-print_tree-end-in-Accepted c =
    let read = c.read-reading in
    sym (read.auto.text ∙ length-replicate {A = ℕ} 65536 0)

pub print_tree-requires : goal.print_tree-requires
print_tree-requires c = tt

pub refuse-requires : goal.refuse-requires
refuse-requires c = tt

pub shape_of-out-in-Accepted : goal.shape_of-out-in-Accepted
shape_of-out-in-Accepted c = c.print_tree.auto.out

pub returns-in-Accepted : goal.returns-in-Accepted
returns-in-Accepted c =
    let a = c.args in
    let r = c.read-reading in
    let both = same_text (length a.out.now)
    (report-read (length a.out.now) a.events.now a.attributes.now a.source.now _ _ _ (length-replicate {A = ℕ} 16384 0) (length-replicate {A = ℕ} 65536 0)
    (length-replicate {A = ℕ} 65536 0) _ _ (read-accepted r.result _ r.ensures.answer c.in-Accepted.is) r.ensures.records r.ensures.text)
    (c.print_tree.ensures.out, c.print_tree.ensures.count) in record { out = both.0; count = both.1 }

pub shape_of-out-in-Refused : goal.shape_of-out-in-Refused
shape_of-out-in-Refused c = c.refuse.auto.out

pub returns-in-Refused : goal.returns-in-Refused
returns-in-Refused c =
    let a = c.args in
    let r = c.read-reading in
    let q = read-refused r.result _ r.ensures.answer c.in-Refused.is in
    let both = same_text (length a.out.now) (report-refused (length a.out.now) a.events.now a.attributes.now a.source.now _ _ _ (length-replicate {A = ℕ} 16384 0)
    (length-replicate {A = ℕ} 65536 0) (length-replicate {A = ℕ} 65536 0) q.0 q.1) (c.refuse.ensures.area, c.refuse.ensures.count) in record { out = both.0; count = both.1 }
