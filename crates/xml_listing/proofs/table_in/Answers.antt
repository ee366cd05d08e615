use mathlib.Core.Path.{sym}
use native.Mathlib.Nat.{le_of_lt}
use lib.Seq.{length-take-le, take_all}
use Rattle.xml_listing.proofs.table_in.Goals as goal

pub slice_bounds-result-end : goal.slice_bounds-result-end
slice_bounds-result-end c = sym (length-take-le _ _ (le_of_lt c.if-m-words.true))

pub returns : goal.returns
returns c = sym (take_all _ _ c.if-m-words.false)
