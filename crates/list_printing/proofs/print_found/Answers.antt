use Rattle.list_printing.specs.Printed.{lent}
use Rattle.list_printing.proofs.Inputs.{same-found, found-is, found-lies, found-not}
use lib.Seq.{length-take-le}
use lib.ListN.{length}
use mathlib.Core.Path.{sym}
use native.Mathlib.Omega.{arith}
use Rattle.list_printing.proofs.print_found.Goals as goal

pub overflow_add-end : goal.overflow_add-end
overflow_add-end c =
    let pre = c.requires in
    let a = c.args in
    let l = found-lies a.found _ c.in-Some.is (length a.events.now) (length a.attributes.now) (length a.input.now) pre in
    omega arith

pub slice_bounds-public_listing-end : goal.slice_bounds-public_listing-end
slice_bounds-public_listing-end c =
    let start = c in
    let a = start.args in
    let l = found-lies a.found _ c.in-Some.is (length a.events.now) (length a.attributes.now) (length a.input.now) start.requires in
    sym (length-take-le _ _ l.0)

pub slice_bounds-public_listing-end-in-Some : goal.slice_bounds-public_listing-end-in-Some
slice_bounds-public_listing-end-in-Some c =
    let start = c in
    let a = start.args in
    let l = found-lies a.found _ c.in-Some.is (length a.events.now) (length a.attributes.now) (length a.input.now) start.requires in
    sym (length-take-le _ _ l.1.0)

pub slice_bounds-public_listing-count : goal.slice_bounds-public_listing-count
slice_bounds-public_listing-count c =
    let pre = c.requires in
    let a = c.args in
    let l = found-lies a.found _ c.in-Some.is (length a.events.now) (length a.attributes.now) (length a.input.now) pre in
    omega arith

pub slice_bounds-public_listing-start : goal.slice_bounds-public_listing-start
slice_bounds-public_listing-start c =
    let pre = c.requires in
    let a = c.args in
    let l = found-lies a.found _ c.in-Some.is (length a.events.now) (length a.attributes.now) (length a.input.now) pre in
    omega arith

pub slice_bounds-public_listing-end-in-Some-2 : goal.slice_bounds-public_listing-end-in-Some-2
slice_bounds-public_listing-end-in-Some-2 c =
    let pre = c.requires in
    let a = c.args in
    let l = found-lies a.found _ c.in-Some.is (length a.events.now) (length a.attributes.now) (length a.input.now) pre in
    omega arith

pub returns-in-Some : goal.returns-in-Some
returns-in-Some c =
    let public-listing = c.public_listing in
    let a = c.args in
    let h = same-found (lent a.records.now a.text.now a.scratch.now a.out.now) (length a.out.now) _ _
    (found-is a.found _ c.in-Some.is a.events.now a.attributes.now a.input.now) _ _ (public-listing.ensures.out, public-listing.ensures.count) in
    record { out = h.0; count = h.1; records = public-listing.ensures.records; text = public-listing.ensures.text; scratch = public-listing.ensures.scratch }

pub returns-in-None : goal.returns-in-None
returns-in-None c =
    let refuse-input = c.refuse_input in
    let a = c.args in
    let h = same-found (lent a.records.now a.text.now a.scratch.now a.out.now) (length a.out.now) _ _
    (found-not a.found c.in-None.is a.events.now a.attributes.now a.input.now) _ _ (refuse-input.ensures.out, refuse-input.ensures.count) in
    record { out = h.0; count = h.1; records = refuse-input.ensures.records; text = refuse-input.ensures.text; scratch = refuse-input.ensures.scratch }
