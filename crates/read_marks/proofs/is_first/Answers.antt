use mathlib.Core.Logic.{inl}
use Rattle.key_sort.specs.inside.Numbers.{numbers_in}
use Rattle.read_marks.proofs.Leading.{leads-other}
use Rattle.read_marks.proofs.is_first.Goals as goal

pub returns-then-p-eq0 : goal.returns-then-p-eq0
returns-then-p-eq0 c = λ _. inl c.if-p-eq0.true

pub returns : goal.returns
returns c =
    let args = c.args in
    λ h. leads-other args.attributes.now args.source.now (numbers_in args.bytes.now) args.p
    c.number_at-i.ensures.value c.number_at-j.ensures.value
    c.key_of.ensures c.key_of-2.ensures c.comes_cleaned.ensures h
