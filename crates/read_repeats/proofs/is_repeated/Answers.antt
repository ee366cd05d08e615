use Prim.Native.Nat.{◌-◌}
use Rattle.read_element.specs.of_table.Event.{attributes_from}
use Rattle.read_element.specs.inside.Held.{keys_of}
use Rattle.read_repeats.proofs.Keys.{part-told, searched}
use Rattle.read_repeats.proofs.is_repeated.Goals as goal

pub returns : goal.returns
returns c =
    let args = c.args in
    let if1 = c.if-free in
    let wide = c.wide in
    let s = args.source.now in
    searched args.free (keys_of (attributes_from args.attributes.now s (args.j - args.first) args.first)) if1.false
    c.is_among.ensures (part-told s c.bytes_of-key.ensures wide.ensures c.wide-2.ensures)
