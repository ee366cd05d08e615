use Prim.Native.Nat.{ℕ}
use mathlib.Core.List.{List, ◌++◌}
use mathlib.Core.Path.{sym, ap, ◌∙◌}
use lib.Seq.{length-take-le}
use lib.ListN.{length, take, length-drop}
use Rattle.utf8_chars.proofs.of_area.Parts.{rest_part, rest_back}
use Rattle.utf8_chars.specs.of_area.Area.{placing, laid}
use Rattle.utf8_chars.specs.of_refusal.declared.Cause.TheVariants as cause
use Rattle.text.proofs.decode.put_piece.Goals as goal

pub slice_bounds-copy_into-end-2 : goal.slice_bounds-copy_into-end-2
slice_bounds-copy_into-end-2 c =
    let pre = c.requires in
    sym (length-take-le _ _ pre.n_in_bounds)

pub returns : goal.returns
returns c =
    let a = c.args in
    let e = c.copy_into.ensures in
    let o = a.out.now in
    let f = take a.p.n a.p.bytes in record { result_value = e.result_value ∙ ap (λ (l : List ℕ). placing cause.OutputFull (length l) f) (rest_part o a.k) ∙ ap (λ (n : ℕ). placing cause.OutputFull n f) (length-drop a.k o); out_after = rest_back o a.k _ ∙ ap (λ (l : List ℕ). take a.k o ++ l) (e.out_after ∙ ap (λ (l : List ℕ). laid l f) (rest_part o a.k)) }
