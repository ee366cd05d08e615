-- What is true of the state that a byte leads to, where it isn't refused. Assumes nothing.
use mathlib.Core.Path.{◌≡◌, refl}
use mathlib.Core.Bool.{Bool, true, false, cond}
use Rattle.xml_machine.specs.State.{State, Act, Next, no, go}

pub data Ok (Q : State → Type 0) : Next → Type 0 where
  good : {act : Act} {s : State} → Q s → Ok Q (go act s)
  bad : Ok Q no

pub ok-go : {Q : State → Type 0} {act : Act} {s : State} → Ok Q (go act s) → Q s
ok-go (good h) = h

pub cond-ok : {Q : State → Type 0} (c : Bool) {x y : Next} → Ok Q x → Ok Q y → Ok Q (cond c x y)
cond-ok true h k = h
cond-ok false h k = k

-- the same, knowing which
pub when-ok : {Q : State → Type 0} (c : Bool) {x y : Next} → (c ≡ true → Ok Q x) → (c ≡ false → Ok Q y) → Ok Q (cond c x y)
when-ok true h k = h refl
when-ok false h k = k refl
