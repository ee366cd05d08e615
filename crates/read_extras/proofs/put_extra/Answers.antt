use Rattle.text_key.specs.of_text.Value.{value_text}
use Rattle.read_extras.proofs.Choosing.{choose_old, choose-new, hint-held}
use native.Mathlib.Omega.{arith}
use Rattle.read_extras.proofs.put_extra.Goals as goal

pub returns-then-i-extras : goal.returns-then-i-extras
returns-then-i-extras c =
    let args = c.args in
    let place-for = c.place_for-i in
    let old-extra = c.old_extra in
    λ g rooms p used hd ro k. choose_old hd rooms p used args.kind (value_text args.key.now) (value_text args.value.now)
    (place-for.ensures (hint-held hd (value_text args.key.now) k)) (omega arith) (old-extra.ensures g rooms p used hd ro)

pub returns : goal.returns
returns c =
    let args = c.args in
    let place-for = c.place_for-i in
    let new-extra = c.new_extra in
    λ g rooms p used hd ro k. choose-new hd rooms p used args.kind (value_text args.key.now) (value_text args.value.now)
    (place-for.ensures (hint-held hd (value_text args.key.now) k)) (omega arith) (new-extra.ensures g rooms p used hd ro)
