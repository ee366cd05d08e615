use mathlib.Core.Path.{◌∙◌}
use Rattle.clean_order.proofs.Walking.{other-lengths}
use Rattle.clean_order.proofs.comes_cleaned.Goals as goal

pub returns-then-n-m : goal.returns-then-n-m
returns-then-n-m c =
    let args = c.args in
    other-lengths args.a.now args.b.now args.i args.j c.cleaned_length-n.ensures c.cleaned_length-m.ensures c.if-n-m.true

pub walk-requires : goal.walk-requires
walk-requires c = record { n_value = c.cleaned_length-n.ensures; n_value_2 = c.if-n-m.false ∙ c.cleaned_length-m.ensures }

pub returns : goal.returns
returns c = c.walk.ensures
