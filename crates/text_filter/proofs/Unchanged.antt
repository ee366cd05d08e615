-- A text that the filter leaves as it is. Assumes nothing.
use Prim.Native.Nat.{ℕ}
use mathlib.Core.Path.{◌≡◌, sym, ap, ◌∙◌}
use mathlib.Core.List.{List}
use mathlib.Core.Bool.{true}
use lib.ListN.{length}
use Rattle.std.specs.Prelude.{Option}
use Rattle.copying.specs.of_area.Area.{stored_answer, placing, laid}
use Rattle.copying.proofs.of_area.Laying.{other-area}
use Rattle.text_filter.specs.Filter.{filtered, unfiltered}
use Rattle.text_filter.proofs.Filtering.{filtered-same}
use Rattle.copying.specs.of_refusal.declared.Cause.TheVariants as cause

-- a text with nothing to filter that was put as it is
pub put-kept : (out s out' : List ℕ) (r : Option ℕ) → unfiltered s ≡ true → stored_answer cause.OutputFull r ≡ placing cause.OutputFull (length out) s → out' ≡ laid out s
    → (stored_answer cause.TextFull r ≡ placing cause.TextFull (length out) (filtered s)) × (out' ≡ laid out (filtered s))
put-kept out s out' r e p o =
    let f = sym (filtered-same s e) in
    (other-area cause.OutputFull cause.TextFull (length out) s r p ∙ ap (placing cause.TextFull (length out)) f, o ∙ ap (laid out) f)
