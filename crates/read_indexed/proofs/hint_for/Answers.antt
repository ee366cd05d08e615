use mathlib.Core.Path.{sym}
use native.Mathlib.Omega.{arith}
use lib.Seq.{length-take-le}
use Rattle.read_indexed.proofs.Hinting.{told-new, told-place}
use Rattle.read_indexed.proofs.hint_for.Goals as goal

pub returns-then-word_of-eq1 : goal.returns-then-word_of-eq1
returns-then-word_of-eq1 c = λ _. told-new c.requires.told
    c.requires.first_le_j c.word_of.ensures c.if-word_of-eq1.true

pub slice_bounds-is_at-end : goal.slice_bounds-is_at-end
slice_bounds-is_at-end c = sym (length-take-le c.args.k
    c.args.own.now
    c.requires.k_in_bounds)

pub returns-then-is_at : goal.returns-then-is_at
returns-then-is_at c = λ _. told-place c.requires.told
    c.key_at-key.ensures (c.is_at.ensures.i_lt_extras c.if-is_at.true) (c.is_at.ensures.key_value c.if-is_at.true)

pub returns : goal.returns
returns c = λ h. absurd (omega (arith, h))
