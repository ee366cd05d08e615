use Rattle.std.specs.Prelude.{Ok}
use Rattle.std.proofs.lemmas.Result.{err_from_is_err_and}
use native.Mathlib.Omega.{arith}
use Prim.Native.Nat.{◌-◌}
use mathlib.Core.Path.{refl, ap}
use Rattle.read_lists.specs.of_table.Event.{attributes_from}
use Rattle.read_lists.specs.of_read_state.inside.Coded.{level_of}
use Rattle.read_lists.specs.of_read_content.declared.List.{List as CodedList}
use Rattle.read_opening.proofs.Opening.{kind-bounds, property-comes}
use Rattle.read_opening.proofs.read_property.Goals as goal

pub overflow_add-list : goal.overflow_add-list
overflow_add-list c = let e = ap (λ (l : CodedList). l.count) c.list_of-old.ensures in let h = c.requires.content_in_bounds in omega arith

pub add_element-requires : goal.add_element-requires
add_element-requires c =
    let b = kind-bounds (level_of c.args.level) in
    let e = c.property_kind.ensures in
    record { le_kind = omega arith; kind_bound = omega arith; ready = c.requires.ready }

pub returns : goal.returns
returns c =
    let args = c.args in
    λ rooms p s scratch m pa hd li sz. property-comes hd m p (level_of args.level) rooms args.range.first
    (attributes_from args.attributes.now args.source.now (args.range.end - args.range.first) args.range.first) c.property_kind.ensures
    li c.list_of-old.ensures (c.in_ok-added.ensures rooms p s scratch pa hd sz) (ap Ok c.with_list.ensures)

pub returns-in_err-added : goal.returns-in_err-added
returns-in_err-added c =
    let args = c.args in
    let q = err_from_is_err_and c.from_residual.result c.from_residual.ensures.1 in
    λ rooms p s scratch m pa hd li sz. rw (q.1, q.2) (property-comes hd m p (level_of args.level) rooms args.range.first
    (attributes_from args.attributes.now args.source.now (args.range.end - args.range.first) args.range.first) c.property_kind.ensures
    li c.list_of-old.ensures (c.in_err-added.ensures rooms p s scratch pa hd sz) refl)
