-- Records of a few words, by computing. Assumes nothing.
use mathlib.Core.Bool.{true, false}
use mathlib.Core.List.{[], ◌∷◌}
use mathlib.Core.Path.{◌≡◌, refl}
use Rattle.tree_record.specs.Record.{live, has_bit, marked, text_at, number_at}

-- bit 3 beside bit 1
bit-set : marked 3 (5 ∷ 2 ∷ 7 ∷ []) ≡ 5 ∷ 10 ∷ 7 ∷ []
unfolding marked
bit-set = refl

-- it stands there already
bit-stays : marked 1 (5 ∷ 2 ∷ 7 ∷ []) ≡ 5 ∷ 2 ∷ 7 ∷ []
unfolding marked
bit-stays = refl

flaky-set : has_bit 9 (6 ∷ 512 ∷ []) ≡ true
flaky-set = refl

next-unset : has_bit 8 (6 ∷ 512 ∷ []) ≡ false
next-unset = refl

-- bits that no field has yet are bits of their own, up to the word's last
next-free : has_bit 10 (2 ∷ 512 ∷ []) ≡ false
next-free = refl

last_set : marked 31 (2 ∷ 512 ∷ []) ≡ 2 ∷ 2147484160 ∷ []
unfolding marked
last_set = refl

-- start 1, length 2
text-cut : text_at (97 ∷ 98 ∷ 99 ∷ 100 ∷ []) (3 ∷ 1 ∷ 1 ∷ 2 ∷ []) 2 ≡ 98 ∷ 99 ∷ []
text-cut = refl

-- low word 7, high word 1
number-wide : number_at (2 ∷ 0 ∷ 7 ∷ 1 ∷ []) 2 ≡ 4294967303
number-wide = refl

case-live : live (3 ∷ []) ≡ true
case-live = refl

case-dead : live (19 ∷ []) ≡ false
case-dead = refl
