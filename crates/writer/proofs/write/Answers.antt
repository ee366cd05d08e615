use Rattle.writer.proofs.Answered.{refused-whole, written-whole}
use Rattle.writer.proofs.Leaving.{no-writing, whole-writing, short-writing}
use Rattle.area.specs.Area.{zeros}
use lib.ListN.{length}
use mathlib.Core.Path.{◌≡◌, sym, ap, ◌∙◌}
use Rattle.writer.proofs.write.Goals as goal

pub returns-then-not-is_layout : goal.returns-then-not-is_layout
returns-then-not-is_layout c =
    let args = c.args in
    let clear-table = c.clear_table in
    let both = refused-whole args.records.now args.text.now _ _ _ c.refuse.ensures (no-writing args.records.now args.text.now _ _ _
    (sym c.is_layout.ensures ∙ c.if-not-is_layout.true) clear-table.ensures.events_after clear-table.ensures.attributes_after clear-table.ensures.bytes_after) in record { value = both.0; events_after = both.1.0; attributes_after = both.1.1.0; bytes_after = both.1.1.1 }

pub shape_of-events-in_default : goal.shape_of-events-in_default
shape_of-events-in_default c =
    let at-clear-table2 = c in
    let at-put-tree = at-clear-table2 in
    let clear-table = at-put-tree.clear_table in
    at-clear-table2.clear_table-in_default.auto.events ∙ at-put-tree.put_tree-k.auto.events ∙ clear-table.auto.events

pub shape_of-attributes-in_default : goal.shape_of-attributes-in_default
shape_of-attributes-in_default c =
    let at-clear-table2 = c in
    let at-put-tree = at-clear-table2 in
    let clear-table = at-put-tree.clear_table in
    at-clear-table2.clear_table-in_default.auto.attributes ∙ at-put-tree.put_tree-k.auto.attributes ∙ clear-table.auto.attributes

pub shape_of-bytes-in_default : goal.shape_of-bytes-in_default
shape_of-bytes-in_default c =
    let at-clear-table2 = c in
    let at-put-tree = at-clear-table2 in
    let clear-table = at-put-tree.clear_table in
    at-clear-table2.clear_table-in_default.auto.bytes ∙ at-put-tree.put_tree-k.auto.bytes ∙ clear-table.auto.bytes

pub returns-in_default : goal.returns-in_default
returns-in_default c =
    let at-enum-told = c in
    let at-put-tree = at-enum-told in
    let at-if1 = at-put-tree in
    let at-is-layout = at-if1 in
    let at-clear-table = at-is-layout in
    let args = at-clear-table.args in
    let clear-table2 = c.clear_table-in_default in
    let words = args.records.now in
    let text = args.text.now in
    let e = length args.events.now in
    let a = length args.attributes.now in
    let b = length args.bytes.now in
    let l = sym at-is-layout.is_layout.ensures ∙ at-if1.if-not-is_layout.false in
    let x : length at-put-tree.put_tree-k.new.events ≡ e = at-put-tree.put_tree-k.auto.events ∙ at-clear-table.clear_table.auto.events in
    let y : length at-put-tree.put_tree-k.new.attributes ≡ a = at-put-tree.put_tree-k.auto.attributes ∙ at-clear-table.clear_table.auto.attributes in
    let z : length at-put-tree.put_tree-k.new.bytes ≡ b = at-put-tree.put_tree-k.auto.bytes ∙ at-clear-table.clear_table.auto.bytes in
    let both = refused-whole words text e a b c.refuse-in_default.ensures
    (short-writing words text e a b l at-clear-table.clear_table.ensures.events_after at-clear-table.clear_table.ensures.attributes_after
    at-clear-table.clear_table.ensures.bytes_after at-put-tree.put_tree-k.ensures
    at-enum-told.in_default.is (clear-table2.ensures.events_after ∙ ap zeros x) (clear-table2.ensures.attributes_after ∙ ap zeros y) (clear-table2.ensures.bytes_after ∙ ap zeros z)) in record { value = both.0; events_after = both.1.0; attributes_after = both.1.1.0; bytes_after = both.1.1.1 }

pub shape_of-events : goal.shape_of-events
shape_of-events c =
    let at-put-tree = c in
    at-put-tree.put_tree-k.auto.events ∙ at-put-tree.clear_table.auto.events

pub shape_of-attributes : goal.shape_of-attributes
shape_of-attributes c =
    let at-put-tree = c in
    at-put-tree.put_tree-k.auto.attributes ∙ at-put-tree.clear_table.auto.attributes

pub shape_of-bytes : goal.shape_of-bytes
shape_of-bytes c =
    let at-put-tree = c in
    at-put-tree.put_tree-k.auto.bytes ∙ at-put-tree.clear_table.auto.bytes

pub returns : goal.returns
returns c =
    let at-put-tree = c in
    let at-is-layout = at-put-tree in
    let at-clear-table = at-is-layout in
    let args = at-clear-table.args in
    let if1 = at-put-tree.if-not-is_layout in
    let words = args.records.now in
    let text = args.text.now in
    let e = length args.events.now in
    let a = length args.attributes.now in
    let b = length args.bytes.now in
    let l = sym at-is-layout.is_layout.ensures ∙ if1.false in
    let both = written-whole words text e a b c.no_refusal.ensures (whole-writing words text e a b l at-clear-table.clear_table.ensures.events_after
    at-clear-table.clear_table.ensures.attributes_after at-clear-table.clear_table.ensures.bytes_after at-put-tree.put_tree-k.ensures _ c.in-Some.is) in record { value = both.0; events_after = both.1.0; attributes_after = both.1.1.0; bytes_after = both.1.1.1 }
