-- Names by their codes. Assumes nothing.
use Prim.Native.Nat.{ℕ, zero, suc, ◌-◌}
use native.Mathlib.Numerals.{add-one}
use mathlib.Core.Path.{◌≡◌, refl}
use mathlib.Core.List.{List, [], ◌∷◌}
use mathlib.Core.Bool.{cond}
use native.Mathlib.Omega.{arith}
use borrow.Author.Tests.{le-ltb}
use lib.Dec.{ltb}
use lib.ListN.{get_or, take, drop}
use Rattle.tree_stamp.specs.of_names.Bytes.{bytes}
use Rattle.tree_stamp.specs.of_names.Tags.{tags}
use Rattle.tree_stamp.specs.of_names.Keys.{keys}
use Rattle.write_codes.specs.of_write_table.inside.Forms.{key_text}
use Rattle.write_codes.specs.of_write_items.inside.Values.{tag_name, key_name, cut_at}

abbrev tag-starts : List ℕ
tag-starts = 0 ∷ 0 ∷ 10 ∷ 19 ∷ 27 ∷ 37 ∷ 45 ∷ 52 ∷ 57 ∷ 64 ∷ 76 ∷ 86 ∷ 98 ∷ 108 ∷ 118 ∷ 128 ∷ 138 ∷ []

tag_at : (c : ℕ) → take (get_or tag-starts (suc c) 0 - get_or tag-starts c 0)
    (drop (get_or tag-starts c 0) (bytes "testsuitestestsuitetestcasepropertiespropertyfailureerrorskippedflakyFailureflakyErrorrerunFailurererunErrorstackTracesystem-outsystem-err")) ≡ tag_name c
unfolding tag_name tags
tag_at zero = refl
tag_at (suc zero) = refl
tag_at (suc (suc zero)) = refl
tag_at (suc (suc (suc zero))) = refl
tag_at (suc (suc (suc (suc zero)))) = refl
tag_at (suc (suc (suc (suc (suc zero))))) = refl
tag_at (suc (suc (suc (suc (suc (suc zero)))))) = refl
tag_at (suc (suc (suc (suc (suc (suc (suc zero))))))) = refl
tag_at (suc (suc (suc (suc (suc (suc (suc (suc zero)))))))) = refl
tag_at (suc (suc (suc (suc (suc (suc (suc (suc (suc zero))))))))) = refl
tag_at (suc (suc (suc (suc (suc (suc (suc (suc (suc (suc zero)))))))))) = refl
tag_at (suc (suc (suc (suc (suc (suc (suc (suc (suc (suc (suc zero))))))))))) = refl
tag_at (suc (suc (suc (suc (suc (suc (suc (suc (suc (suc (suc (suc zero)))))))))))) = refl
tag_at (suc (suc (suc (suc (suc (suc (suc (suc (suc (suc (suc (suc (suc zero))))))))))))) = refl
tag_at (suc (suc (suc (suc (suc (suc (suc (suc (suc (suc (suc (suc (suc (suc zero)))))))))))))) = refl
tag_at (suc (suc (suc (suc (suc (suc (suc (suc (suc (suc (suc (suc (suc (suc (suc zero))))))))))))))) = refl
tag_at (suc (suc (suc (suc (suc (suc (suc (suc (suc (suc (suc (suc (suc (suc (suc (suc zero)))))))))))))))) = refl
tag_at (suc (suc (suc (suc (suc (suc (suc (suc (suc (suc (suc (suc (suc (suc (suc (suc (suc n))))))))))))))))) = refl

pub tag-cut : (c : ℕ)
    → cut_at (bytes "testsuitestestsuitetestcasepropertiespropertyfailureerrorskippedflakyFailureflakyErrorrerunFailurererunErrorstackTracesystem-outsystem-err") tag-starts c ≡ tag_name c
tag-cut c = rw (add-one c) (tag_at c)

abbrev key-starts : List ℕ
key-starts = 0 ∷ 0 ∷ 4 ∷ 13 ∷ 17 ∷ 26 ∷ 30 ∷ 35 ∷ 43 ∷ 49 ∷ 56 ∷ 64 ∷ 74 ∷ 81 ∷ 85 ∷ 90 ∷ 98 ∷ 102 ∷ []

key-at : (c : ℕ) → take (get_or key-starts (suc c) 0 - get_or key-starts c 0)
    (drop (get_or key-starts c 0) (bytes "nameclassnameuuidtimestamptimetestsfailureserrorsskippeddisabledassertionsmessagetypevaluehostnamename")) ≡ key_name c
unfolding key_name keys
key-at zero = refl
key-at (suc zero) = refl
key-at (suc (suc zero)) = refl
key-at (suc (suc (suc zero))) = refl
key-at (suc (suc (suc (suc zero)))) = refl
key-at (suc (suc (suc (suc (suc zero))))) = refl
key-at (suc (suc (suc (suc (suc (suc zero)))))) = refl
key-at (suc (suc (suc (suc (suc (suc (suc zero))))))) = refl
key-at (suc (suc (suc (suc (suc (suc (suc (suc zero)))))))) = refl
key-at (suc (suc (suc (suc (suc (suc (suc (suc (suc zero))))))))) = refl
key-at (suc (suc (suc (suc (suc (suc (suc (suc (suc (suc zero)))))))))) = refl
key-at (suc (suc (suc (suc (suc (suc (suc (suc (suc (suc (suc zero))))))))))) = refl
key-at (suc (suc (suc (suc (suc (suc (suc (suc (suc (suc (suc (suc zero)))))))))))) = refl
key-at (suc (suc (suc (suc (suc (suc (suc (suc (suc (suc (suc (suc (suc zero))))))))))))) = refl
key-at (suc (suc (suc (suc (suc (suc (suc (suc (suc (suc (suc (suc (suc (suc zero)))))))))))))) = refl
key-at (suc (suc (suc (suc (suc (suc (suc (suc (suc (suc (suc (suc (suc (suc (suc zero))))))))))))))) = refl
key-at (suc (suc (suc (suc (suc (suc (suc (suc (suc (suc (suc (suc (suc (suc (suc (suc zero)))))))))))))))) = refl
key-at (suc (suc (suc (suc (suc (suc (suc (suc (suc (suc (suc (suc (suc (suc (suc (suc (suc zero))))))))))))))))) = refl
key-at (suc (suc (suc (suc (suc (suc (suc (suc (suc (suc (suc (suc (suc (suc (suc (suc (suc (suc n)))))))))))))))))) = refl

pub key-cut : (c : ℕ) → cut_at (bytes "nameclassnameuuidtimestamptimetestsfailureserrorsskippeddisabledassertionsmessagetypevaluehostnamename") key-starts c ≡ key_name c
key-cut c = rw (add-one c) (key-at c)

-- ---- keys with what stands around them
abbrev pub key-text-starts : List ℕ
key-text-starts = 0 ∷ 3 ∷ 10 ∷ 22 ∷ 29 ∷ 41 ∷ 48 ∷ 56 ∷ 67 ∷ 76 ∷ 86 ∷ 97 ∷ 110 ∷ 120 ∷ 127 ∷ 135 ∷ 146 ∷ 153 ∷ []

abbrev pub key-texts : List ℕ
key-texts = bytes " =\" name=\" classname=\" uuid=\" timestamp=\" time=\" tests=\" failures=\" errors=\" skipped=\" disabled=\" assertions=\" message=\" type=\" value=\" hostname=\" name=\""

pub key-text-cut : (c : ℕ) → cut_at key-texts key-text-starts (cond (ltb c 17) c 0) ≡ key_text (key_name c)
unfolding key_name keys
key-text-cut zero = refl
key-text-cut (suc zero) = refl
key-text-cut (suc (suc zero)) = refl
key-text-cut (suc (suc (suc zero))) = refl
key-text-cut (suc (suc (suc (suc zero)))) = refl
key-text-cut (suc (suc (suc (suc (suc zero))))) = refl
key-text-cut (suc (suc (suc (suc (suc (suc zero)))))) = refl
key-text-cut (suc (suc (suc (suc (suc (suc (suc zero))))))) = refl
key-text-cut (suc (suc (suc (suc (suc (suc (suc (suc zero)))))))) = refl
key-text-cut (suc (suc (suc (suc (suc (suc (suc (suc (suc zero))))))))) = refl
key-text-cut (suc (suc (suc (suc (suc (suc (suc (suc (suc (suc zero)))))))))) = refl
key-text-cut (suc (suc (suc (suc (suc (suc (suc (suc (suc (suc (suc zero))))))))))) = refl
key-text-cut (suc (suc (suc (suc (suc (suc (suc (suc (suc (suc (suc (suc zero)))))))))))) = refl
key-text-cut (suc (suc (suc (suc (suc (suc (suc (suc (suc (suc (suc (suc (suc zero))))))))))))) = refl
key-text-cut (suc (suc (suc (suc (suc (suc (suc (suc (suc (suc (suc (suc (suc (suc zero)))))))))))))) = refl
key-text-cut (suc (suc (suc (suc (suc (suc (suc (suc (suc (suc (suc (suc (suc (suc (suc zero))))))))))))))) = refl
key-text-cut (suc (suc (suc (suc (suc (suc (suc (suc (suc (suc (suc (suc (suc (suc (suc (suc zero)))))))))))))))) = refl
key-text-cut (suc (suc (suc (suc (suc (suc (suc (suc (suc (suc (suc (suc (suc (suc (suc (suc (suc n))))))))))))))))) =
    rw (le-ltb (suc (suc (suc (suc (suc (suc (suc (suc (suc (suc (suc (suc (suc (suc (suc (suc (suc n))))))))))))))))) 17 (omega arith)) refl
