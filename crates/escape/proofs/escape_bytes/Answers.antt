use mathlib.Core.Path.{◌≡◌, sym, ◌∙◌}
use mathlib.Core.Bool.{true}
use mathlib.Core.List.{[], ◌∷◌}
use native.Mathlib.Omega.{arith}
use lib.ListN.{get_or}
use Rattle.copying.proofs.of_area.Laying.{laying-put, laying-full}
use Rattle.escape.specs.Escape.{letter, listed}
use Rattle.escape.proofs.Spelling.{Coming, coming}
use Rattle.escape.proofs.Escaping.{listed-marked, listed_plain}
use Rattle.copying.specs.of_refusal.declared.Cause.TheVariants as cause
use Rattle.escape.proofs.escape_bytes.Goals as goal
use Rattle.escape.proofs.escape_bytes.Goals.{After-is_marked, Joined-is_marked, then-is_marked+else-out-k, else-is_marked}

-- the byte at hand is marked: its backslash comes next
to-mark : (c : After-is_marked) → c.is_marked.result ≡ true → let l = c in let a = l.args in
    Coming listed a.out.now l.loop-b.out l.loop-b.k a.s.now l.loop-b.b-index (92 ∷ letter (get_or a.s.now l.loop-b.b-index 0) ∷ [])
to-mark c t = let l = c.loop-b in coming listed _ l.b-index l.invariant c.loop-b-test.true (listed-marked _ (sym c.is_marked.ensures ∙ t))

-- where both ways meet, its letter comes next
to-letter : (c : Joined-is_marked) → let l = c in let a = l.args in
    Coming listed a.out.now c.if-is_marked.out c.if-is_marked.k a.s.now l.loop-b.b-index (letter (get_or a.s.now l.loop-b.b-index 0) ∷ [])
to-letter c =
    let l = c.loop-b in
    elim c.if-is_marked.branch [
      | then-is_marked+else-out-k w ↦ rw (w.out-is, w.k-is) (laying-put (coming listed _ l.b-index l.invariant c.loop-b-test.true (listed-marked _ (sym c.is_marked.ensures ∙ w.if-is_marked.true))) (omega arith))
      | else-is_marked w ↦ rw (w.out-is, w.k-is) (coming listed _ l.b-index l.invariant c.loop-b-test.true (listed_plain _ (sym c.is_marked.ensures ∙ w.if-is_marked.false)))
    ]

pub returns-then-out-k : goal.returns-then-out-k
returns-then-out-k c = let both = laying-full cause.OutputFull (to-mark (goal.at.returns-then-out-k c).After-is_marked c.if-is_marked.true) c.if-out-k.true in record { result_value = both.0; out_after = both.1 }

pub returns-then-out-k-2 : goal.returns-then-out-k-2
returns-then-out-k-2 c = let both = laying-full cause.OutputFull (to-letter (goal.at.returns-then-out-k-2 c).Joined-is_marked) c.if-out-k-2.true in record { result_value = both.0; out_after = both.1 }

pub loop-b-preserved : goal.loop-b-preserved
loop-b-preserved c = laying-put (rw (sym c.letter_of.ensures) at (to-letter (goal.at.loop-b-preserved c).Joined-is_marked)) (omega arith)
