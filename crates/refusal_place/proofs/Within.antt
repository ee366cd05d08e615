-- In a table that refusal 11 lets pass, the byte of a refusal is one of the source, or its end. Assumes nothing.
use Prim.Native.Nat.{ℕ, zero, suc, ◌+◌, ◌≤◌, ◌<◌}
use mathlib.Core.Path.{◌≡◌, refl}
use mathlib.Core.List.{List}
use mathlib.Core.Bool.{Bool, true, false, cond, not, ◌&&◌}
use mathlib.Core.Logic.{◌⊎◌, inl, inr}
use native.Mathlib.Omega.{arith}
use borrow.Author.Tests.{leb-true, leb-false, eqb-false}
use lib.Dec.{leb, eqb}
use lib.ListN.{length}
use Rattle.table.specs.Table.{word, count_of, check_of}
use Rattle.std.specs.Prelude.{Ok}
use Rattle.table.proofs.ValidTables.{good-event}
use Rattle.refusal_place.specs.Place.{attribute_byte, event_byte, root_from, root_byte, byte_of, Named, InSource}

-- none, or not behind n bytes
abbrev Upto : ℕ → ℕ → Type 0
Upto n b = (b ≡ 4294967295) ⊎ (b ≤ n)

module _ (events attributes source : List ℕ) (good : check_of events attributes source ≡ Ok tt) where
  start-in : (i : ℕ) → i < count_of events → word events i 1 ≤ length source
  start-in i h = let z = (good-event events attributes source good i h).bytes in omega arith

  event-in : (i : ℕ) → event_byte events (length source) i ≤ length source
  event-in i = go (leb (count_of events) i) (eqb (word events i 2) 0) refl
    where
      go : (b e : Bool) → leb (count_of events) i ≡ b → cond b (length source) (cond e (length source) (word events i 1)) ≤ length source
      go true e p = omega arith
      go false true p = omega arith
      go false false p = start-in i (leb-false (count_of events) i p)

  root_in : (n i : ℕ) → i + n ≤ count_of events → Upto (length source) (root_from events n i)
  unfolding root_from
  root_in zero i h = inl refl
  root_in (suc n) i h = go (leb (word events i 0) 1) (root_in n (i + 1) (omega arith))
    where
      go : (b : Bool) → Upto (length source) (root_from events n (i + 1)) → Upto (length source) (cond b (word events i 1) (root_from events n (i + 1)))
      go true r = inr (start-in i (omega arith))
      go false r = r

  module _ (i j : ℕ) (h : i < count_of events) (l : word events i 3 ≤ j) (m : j < word events i 3 + word events i 4) where
    attribute-in : attribute_byte attributes j ≤ length source
    attribute-in = go (leb (count_of attributes) j) (eqb (word attributes j 4) 0) refl
      where
        go : (b e : Bool) → leb (count_of attributes) j ≡ b → cond b 4294967295 (cond e (word attributes j 1) (word attributes j 3)) ≤ length source
        go true e p =
            let y = (good-event events attributes source good i h).range (omega arith) in
            let z = leb-true (count_of attributes) j p in
            absurd (omega arith)
        go false true p = let z = ((good-event events attributes source good i h).each j l m).key in omega arith
        go false false p = let z = ((good-event events attributes source good i h).each j l m).value in omega arith

  module _ (missing : Bool) (event attribute : ℕ) where
    without-attribute : Upto (length source)
        (cond (missing && not (eqb (root_byte events) 4294967295)) (root_byte events) (cond (eqb event 4294967295) 4294967295 (event_byte events (length source) event)))
    without-attribute = go (missing && not (eqb (root_byte events) 4294967295)) (eqb event 4294967295)
      where
        go : (b e : Bool) → Upto (length source) (cond b (root_byte events) (cond e 4294967295 (event_byte events (length source) event)))
        go true e = root_in (count_of events) 0 (omega arith)
        go false true = inl refl
        go false false = inr (event-in event)

    byte-in : Named events event attribute → Upto (length source) (byte_of missing event attribute events attributes (length source))
    unfolding byte_of
    byte-in named = go (eqb attribute 4294967295) refl named
      where
        go : (b : Bool) → eqb attribute 4294967295 ≡ b → Named events event attribute → Upto (length source)
            (cond b (cond (missing && not (eqb (root_byte events) 4294967295)) (root_byte events) (cond (eqb event 4294967295) 4294967295 (event_byte events (length source) event)))
            (attribute_byte attributes attribute))
        go true p n = without-attribute
        go false p (inl z) = absurd (eqb-false attribute 4294967295 p z)
        go false p (inr (h, l, m)) = inr (attribute-in event attribute h l m)

pub in_source : InSource
in_source = record { byte = λ missing event attribute events attributes source good named. byte-in events attributes source good missing event attribute named }
