use mathlib.Core.Path.{refl}
use Rattle.clean_order.proofs.Walking.{walking_start, walking-more, walking_unlike, walking-done}
use Rattle.clean_order.proofs.walk.Goals as goal

pub loop-init : goal.loop-init
loop-init c = walking_start c.requires.n_value c.requires.n_value_2 _ _ refl refl refl refl

pub next_of-x-requires : goal.next_of-x-requires
next_of-x-requires c = c.loop.invariant.first.within

pub next_of-y-requires : goal.next_of-y-requires
next_of-y-requires c = c.loop.invariant.second.within

pub returns-then-x-y : goal.returns-then-x-y
returns-then-x-y c =
    walking_unlike c.requires.n_value c.requires.n_value_2 c.loop.invariant c.loop-test.true c.next_of-x.ensures c.next_of-y.ensures c.if-x-y.true c.args.i c.args.j

pub loop-preserved : goal.loop-preserved
loop-preserved c = walking-more c.requires.n_value c.requires.n_value_2 c.loop.invariant c.loop-test.true c.next_of-x.ensures c.next_of-y.ensures c.if-x-y.false

pub returns : goal.returns
returns c = walking-done c.requires.n_value c.requires.n_value_2 c.loop.invariant c.loop-test.false c.args.i c.args.j
