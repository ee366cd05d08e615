use Prim.Native.Nat.{ℕ, ◌≤◌}
use mathlib.Core.List.{List, ◌++◌}
use mathlib.Core.Path.{sym, ap, ◌∙◌}
use native.Mathlib.Omega.{arith}
use lib.Seq.{length-take-le}
use lib.ListN.{length, take, drop, length-drop}
use Rattle.utf8_chars.proofs.of_area.Parts.{rest_part, rest_back}
use Rattle.utf8_chars.specs.of_area.Area.{placing, laid}
use Rattle.text.proofs.Writing.{run-within}
use Rattle.utf8_chars.specs.of_refusal.declared.Cause.TheVariants as cause
use Rattle.text.proofs.decode.put_run.Goals as goal

pub slice_bounds-copy_into-end-2 : goal.slice_bounds-copy_into-end-2
slice_bounds-copy_into-end-2 c =
    let a = c.args in
    let r = c.run_of-n in
    let h : r.result ≤ length a.s.now = omega (arith, run-within a.clean a.s.now, r.ensures) in
    sym (length-take-le _ _ h)

pub returns : goal.returns
returns c =
    let a = c.args in
    let r = c.run_of-n in
    let e = c.copy_into.ensures in
    let o = a.out.now in
    let f = take r.result a.s.now in
    let q = ap (λ (n : ℕ). take n a.s.now) r.ensures in record {
      result_value = e.result_value ∙ ap (λ (l : List ℕ). placing cause.OutputFull (length l) f) (rest_part o a.k) ∙ ap (λ (n : ℕ). placing cause.OutputFull n f) (length-drop a.k o)
          ∙ ap (placing cause.OutputFull _) q;
      out_after = rest_back o a.k _ ∙ ap (λ (l : List ℕ). take a.k o ++ l) (e.out_after ∙ ap (λ (l : List ℕ). laid l f) (rest_part o a.k) ∙ ap (laid (drop a.k o)) q);
    }
