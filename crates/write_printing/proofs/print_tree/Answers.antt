use Rattle.write_printing.proofs.Trees.{within, tree-written, tree-refused}
use Rattle.write_printing.proofs.Printing.{same_text}
use lib.Seq.{length-take-le}
use lib.ListN.{length, length-replicate}
use native.Mathlib.Omega.{arith}
use mathlib.Core.Path.{sym}
use Prim.Native.Nat.{ℕ, ◌*◌, ◌≤◌}
use Rattle.write_printing.proofs.print_tree.Goals as goal
use Rattle.write_printing.proofs.print_tree.Goals.{In-Accepted}

-- the table's sizes within the program's areas, and within the areas as writing left them
sizes : (c : In-Accepted) → let w = c.write-writing in (w.result.events * 5 ≤ 16384) × (w.result.attributes * 5 ≤ 16384) × (w.result.bytes ≤ 65536)
sizes c =
    let a = c.args in
    let w = c.write-writing in
    within a.records.now a.text.now _ _ _ (length-replicate {A = ℕ} 16384 0) (length-replicate {A = ℕ} 16384 0)
    (length-replicate {A = ℕ} 65536 0) w.result w.ensures.value c.in-Accepted.is

event-room : (c : In-Accepted) → let w = c.write-writing in w.result.events * 5 ≤ length w.new.events
event-room c =
    let write = c.write-writing in
    omega (arith, (sizes c).0, write.auto.events, length-replicate {A = ℕ} 16384 0)

attribute-room : (c : In-Accepted) → let w = c.write-writing in w.result.attributes * 5 ≤ length w.new.attributes
attribute-room c =
    let write = c.write-writing in
    omega (arith, (sizes c).1, write.auto.attributes, length-replicate {A = ℕ} 16384 0)

byte-room : (c : In-Accepted) → let w = c.write-writing in w.result.bytes ≤ length w.new.bytes
byte-room c =
    let write = c.write-writing in
    omega (arith, (sizes c).2, write.auto.bytes, length-replicate {A = ℕ} 65536 0)

pub slice_bounds-write-end : goal.slice_bounds-write-end
slice_bounds-write-end c = sym (length-replicate {A = ℕ} 16384 0)

pub slice_bounds-write-end-2 : goal.slice_bounds-write-end-2
slice_bounds-write-end-2 c = sym (length-replicate {A = ℕ} 16384 0)

pub slice_bounds-write-end-3 : goal.slice_bounds-write-end-3
slice_bounds-write-end-3 c = sym (length-replicate {A = ℕ} 65536 0)

pub write-writing-requires : goal.write-writing-requires
write-writing-requires c = tt

pub overflow_mul-m : goal.overflow_mul-m
overflow_mul-m c = omega (arith, (sizes (goal.at.overflow_mul-m c).In-Accepted).0)

pub overflow_mul-n : goal.overflow_mul-n
overflow_mul-n c = omega (arith, (sizes (goal.at.overflow_mul-n c).In-Accepted).1)

pub slice_bounds-events-end : goal.slice_bounds-events-end
slice_bounds-events-end c = event-room (goal.at.slice_bounds-events-end c).In-Accepted

pub slice_bounds-print_table-end : goal.slice_bounds-print_table-end
slice_bounds-print_table-end c = sym (length-take-le _ _ (event-room (goal.at.slice_bounds-print_table-end c).In-Accepted))

pub slice_bounds-attributes-end : goal.slice_bounds-attributes-end
slice_bounds-attributes-end c = attribute-room (goal.at.slice_bounds-attributes-end c).In-Accepted

pub slice_bounds-print_table-end-in-Accepted : goal.slice_bounds-print_table-end-in-Accepted
slice_bounds-print_table-end-in-Accepted c =
    let after-enum-told = c in
    sym (length-take-le _ _ (attribute-room (goal.at.slice_bounds-print_table-end-in-Accepted c).In-Accepted))

pub slice_bounds-bytes-end : goal.slice_bounds-bytes-end
slice_bounds-bytes-end c =
    let after-enum-told = c in
    byte-room (goal.at.slice_bounds-bytes-end c).In-Accepted

pub slice_bounds-print_table-end-in-Accepted-2 : goal.slice_bounds-print_table-end-in-Accepted-2
slice_bounds-print_table-end-in-Accepted-2 c =
    let after-enum-told = c in
    sym (length-take-le _ _ (byte-room (goal.at.slice_bounds-print_table-end-in-Accepted-2 c).In-Accepted))

pub print_table-requires : goal.print_table-requires
print_table-requires c = tt

pub refuse-requires : goal.refuse-requires
refuse-requires c = tt

pub shape_of-out-in-Accepted : goal.shape_of-out-in-Accepted
shape_of-out-in-Accepted c = c.print_table.auto.out

pub returns-in-Accepted : goal.returns-in-Accepted
returns-in-Accepted c =
    let a = c.args in
    let w = c.write-writing in
    let both = same_text (length a.out.now) (tree-written a.records.now a.text.now _ _ _ (length-replicate {A = ℕ} 16384 0) (length-replicate {A = ℕ} 16384 0) (length-replicate {A = ℕ} 65536 0)
    w.result w.ensures.value c.in-Accepted.is _ _ _ w.ensures.events_after w.ensures.attributes_after w.ensures.bytes_after) (c.print_table.ensures.out, c.print_table.ensures.count) in record { out = both.0; count = both.1 }

pub shape_of-out-in-Refused : goal.shape_of-out-in-Refused
shape_of-out-in-Refused c = c.refuse.auto.out

pub returns-in-Refused : goal.returns-in-Refused
returns-in-Refused c =
    let a = c.args in
    let w = c.write-writing in
    let both = same_text (length a.out.now) (tree-refused a.records.now a.text.now _ _ _ (length-replicate {A = ℕ} 16384 0) (length-replicate {A = ℕ} 16384 0)
    (length-replicate {A = ℕ} 65536 0) w.result w.ensures.value c.in-Refused.is) (c.refuse.ensures.area, c.refuse.ensures.count) in record { out = both.0; count = both.1 }
