use Rattle.list_input.proofs.Filling.{front-filled}
use native.Mathlib.Omega.{arith}
use mathlib.Core.Path.{sym}
use lib.ListN.{length-drop}
use lib.Seq.{length-take-le}
use Rattle.area.proofs.Parts.{rest_part}
use Rattle.list_input.proofs.fill_front.Goals as goal

pub slice_bounds-fill_words-end-2 : goal.slice_bounds-fill_words-end-2
slice_bounds-fill_words-end-2 c = sym (length-take-le c.args.n c.args.area.now c.requires.n_in_bounds)

pub fill_words-requires : goal.fill_words-requires
fill_words-requires c =
    let args = c.args in
    let pre = c.requires in
    let a = length-take-le args.n args.area.now pre.n_in_bounds in
    rw (a, rest_part args.s.now args.at, length-drop args.at args.s.now) (omega (arith, pre.n_in_bounds_2))

pub returns : goal.returns
returns c =
    let start = c in
    front-filled _ _ start.args.area.now start.args.s.now _ start.requires.n_in_bounds c.fill_words.ensures
