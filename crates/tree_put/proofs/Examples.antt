-- Fields put into blank records, by computing. Assumes nothing.
use mathlib.Core.List.{[], ◌∷◌, ◌++◌}
use mathlib.Core.Path.{◌≡◌, refl}
use Rattle.timestamp.specs.of_area.Area.{zeros}
use Rattle.tree_record.specs.Record.{marked}
use Rattle.tree_put.specs.Put.{blank, put_text, put_count_of, put_uuid, put_moment, put_time}

-- a case's classname: 4 bytes from byte 3 on
classname-put : put_text 18 5 3 4 (blank 3) ≡ (3 ∷ 32 ∷ zeros 16) ++ (3 ∷ 4 ∷ zeros 12)
unfolding marked
classname-put = refl

-- a count has no bit
count-put : put_count_of 20 4294967303 (blank 2) ≡ (2 ∷ 0 ∷ zeros 18) ++ (7 ∷ 1 ∷ zeros 10)
count-put = refl

uuid-put : put_uuid (record { a = 1; b = 2; c = 3; d = 4 }) (blank 1) ≡ (1 ∷ 2 ∷ 0 ∷ 0 ∷ []) ++ (1 ∷ 2 ∷ 3 ∷ 4 ∷ zeros 24)
unfolding marked
uuid-put = refl

-- 28 February 2023, 12:34:56.000000789, offset -00:01
moment-put :
    put_moment (record { year = 2023; month = 2; day = 28; hour = 12; minute = 34; second = 56; nanos = 789; offset = 1438 }) (blank 3)
    ≡ (3 ∷ 8 ∷ zeros 6) ++ (2023 ∷ 2 ∷ 28 ∷ 12 ∷ 34 ∷ 56 ∷ 789 ∷ 1438 ∷ zeros 16)
unfolding marked
moment-put = refl

time-put : put_time (5, 6) (blank 9) ≡ (9 ∷ 16 ∷ zeros 14) ++ (5 ∷ 6 ∷ zeros 14)
unfolding marked
time-put = refl
