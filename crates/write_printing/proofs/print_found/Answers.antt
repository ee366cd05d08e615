use Rattle.write_printing.proofs.Reports.{found-table, found_none}
use Rattle.write_printing.proofs.Printing.{same_text}
use Rattle.list_printing.proofs.Inputs.{found-is, found-lies, found-not}
use native.Mathlib.Omega.{arith}
use mathlib.Core.Path.{sym}
use lib.Seq.{length-take-le}
use lib.ListN.{length}
use Rattle.write_printing.proofs.print_found.Goals as goal

pub overflow_add-end : goal.overflow_add-end
overflow_add-end c =
    let pre = c.requires in
    let a = c.args in
    let l = found-lies a.found _ c.in-Some.is (length a.events.now) (length a.attributes.now) (length a.input.now) pre in
    omega arith

pub slice_bounds-print_report-end : goal.slice_bounds-print_report-end
slice_bounds-print_report-end c =
    let start = c in
    let a = start.args in
    let l = found-lies a.found _ c.in-Some.is (length a.events.now) (length a.attributes.now) (length a.input.now) start.requires in
    sym (length-take-le _ _ l.0)

pub slice_bounds-print_report-end-in-Some : goal.slice_bounds-print_report-end-in-Some
slice_bounds-print_report-end-in-Some c =
    let start = c in
    let a = start.args in
    let l = found-lies a.found _ c.in-Some.is (length a.events.now) (length a.attributes.now) (length a.input.now) start.requires in
    sym (length-take-le _ _ l.1.0)

pub slice_bounds-print_report-end-in-Some-2 : goal.slice_bounds-print_report-end-in-Some-2
slice_bounds-print_report-end-in-Some-2 c =
    let pre = c.requires in
    let a = c.args in
    let l = found-lies a.found _ c.in-Some.is (length a.events.now) (length a.attributes.now) (length a.input.now) pre in
    omega arith

pub print_report-requires : goal.print_report-requires
print_report-requires c = tt

pub refuse-requires : goal.refuse-requires
refuse-requires c = tt

pub returns-in-Some : goal.returns-in-Some
returns-in-Some c =
    let a = c.args in
    let both = same_text (length a.out.now) (found-table _ _ (found-is a.found _ c.in-Some.is a.events.now a.attributes.now a.input.now)) (c.print_report.ensures.out, c.print_report.ensures.count) in record { out = both.0; count = both.1 }

pub returns-in-None : goal.returns-in-None
returns-in-None c =
    let a = c.args in
    let both = same_text (length a.out.now) (found_none _ (found-not a.found c.in-None.is a.events.now a.attributes.now a.input.now)) (c.refuse.ensures.area, c.refuse.ensures.count) in record { out = both.0; count = both.1 }
