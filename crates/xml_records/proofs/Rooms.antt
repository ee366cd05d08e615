-- Room for a record; the attributes' area. Assumes nothing.
use Prim.Native.Nat.{ℕ, ◌+◌, ◌*◌, ◌/◌, ◌≤◌, ◌<◌}
use mathlib.Core.Path.{◌≡◌, refl, sym, ◌∙◌}
use mathlib.Core.List.{List, [], ◌∷◌, ◌++◌}
use mathlib.Core.Bool.{Bool, true, false, cond, ◌&&◌}
use native.Mathlib.Omega.{arith}
use borrow.Author.Tests.{lt-ltb, le-ltb, ltb-true, ltb-false}
use lib.Dec.{ltb}
use lib.ListN.{length, replicate, length-append}
use Rattle.xml_rep.specs.of_area.Limits.{most_entries}
use Rattle.xml_rep.specs.of_xml_machine.Tokens.{Rec, rec, laid_out, room_of}
use Rattle.xml_rep.specs.of_xml_stack.Stack.{chained, none, Stacked, put_at}
use Rattle.xml_rep.proofs.of_xml_stack.Stack.{append, none_open, nothing, length-put}
use Rattle.xml_rep.specs.of_xml_state.inside.Puts.{room_for}

-- the code's test is the definition's
pub room-law : (n words : ℕ) → ltb n (room_of words) ≡ room_for n words
unfolding room_of room_for
room-law n words = by (ltb (words / 5) most_entries) (ltb n most_entries) refl refl
  where
    by : (x y : Bool) → ltb (words / 5) most_entries ≡ x → ltb n most_entries ≡ y → ltb n (cond x (words / 5) most_entries) ≡ (y && ltb n (words / 5))
    by true true e g = refl
    by true false e g = le-ltb n (words / 5) (omega (arith, ltb-true (words / 5) most_entries e, ltb-false n most_entries g))
    by false true e g = g ∙ sym (lt-ltb n (words / 5) (omega (arith, ltb-false (words / 5) most_entries e, ltb-true n most_entries g)))
    by false false e g = g

pub room_fits : (n words : ℕ) → room_for n words ≡ true → (n < 65536) × (n * 5 + 5 ≤ words)
unfolding room_for
room_fits n words h = by (ltb n most_entries) refl h
  where
    by : (y : Bool) → ltb n most_entries ≡ y → (y && ltb n (words / 5)) ≡ true → (n < 65536) × (n * 5 + 5 ≤ words)
    by true g h = (ltb-true n most_entries g, omega (arith, ltb-true n (words / 5) h))
    by false g h = let z : ◌≡◌ {A = ℕ} 0 1 = cc in absurd (omega arith)

-- ---- attributes
stacked-none : (rs : List Rec) (area : List ℕ) → length rs * 5 ≤ length area → area ≡ laid_out rs (length area) → Stacked 0 rs [] 0 area
unfolding chained
stacked-none rs area f h = record { opens = []; lies = none; points = refl; fits = f; holds = h }

pub laid_more : (rs : List Rec) (area : List ℕ) (k s l f c : ℕ) → area ≡ laid_out rs (length area) → length rs * 5 + 5 ≤ length area →
    put_at area (length rs) k s l f c ≡ laid_out (rs ++ (rec k s l f c ∷ [])) (length (put_at area (length rs) k s l f c))
laid_more rs area k s l f c h g = (none_open (append (stacked-none rs area (omega arith) h) k s l f c g) refl).1

pub fits_more : (rs : List Rec) (area : List ℕ) (k s l f c : ℕ) → length rs * 5 + 5 ≤ length area →
    length (rs ++ (rec k s l f c ∷ [])) * 5 ≤ length (put_at area (length rs) k s l f c)
fits_more rs area k s l f c g = omega (arith, length-put area (length rs) k s l f c, length-append rs (rec k s l f c ∷ []))

pub laid_none : (words : ℕ) → replicate words 0 ≡ laid_out [] (length (replicate {A = ℕ} words 0))
laid_none words = (none_open (nothing 0 words) refl).1
