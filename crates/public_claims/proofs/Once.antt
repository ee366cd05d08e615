-- The one call and the two calls, by what reading answers. Assumes nothing.
use Prim.Native.Nat.{ℕ}
use mathlib.Core.Path.{◌≡◌, refl, ap}
use mathlib.Core.List.{List}
use native.Mathlib.Omega.{arith}
use Rattle.read_report.specs.of_area.Answer.{Answer, gives, refuses}
use Rattle.read_report.specs.of_area.Area.{zeros}
use Rattle.read_report.specs.of_refusal.Refusal.{Refused, Outcome, accepted, refused}
use Rattle.read_report.specs.of_read_element.Outcome.{◌>>=◌}
use Rattle.read_report.specs.of_read_machine.Machine.{Machine}
use Rattle.read_report.specs.of_read_machine.Reading.{Read, read_as, reading}
use Rattle.list_text.specs.Listing.{listing_of, listing_answer, outcome_of, listed, output_for, output_of}
use Rattle.public_claims.specs.PublicListing.{written, behind_reading, public_listing}
use Rattle.public_claims.specs.Once.{listed_once, output_behind, once_left, printed_for}

-- reading leaves scratch zero, and at a refusal all
scratch-zero : (n m k : ℕ) (o : Outcome Machine) → (read_as n m k o).scratch ≡ zeros k
unfolding read_as
scratch-zero n m k (accepted s) = refl
scratch-zero n m k (refused x) = refl

refused-zero : (n m k : ℕ) (o : Outcome Machine) (x : Refused) → refused x ≡ (read_as n m k o).outcome → ((read_as n m k o).words ≡ zeros n) × ((read_as n m k o).text ≡ zeros m)
unfolding read_as
refused-zero n m k (accepted s) x e = let z : ◌≡◌ {A = ℕ} 0 1 = cc in absurd (omega arith)
refused-zero n m k (refused y) x e = (refl, refl)

module _ (events attributes source : List ℕ) (words text scratch : ℕ) where
  pub reads-scratch : (reading events attributes source words text scratch).scratch ≡ zeros scratch
  unfolding reading
  reads-scratch = scratch-zero words text scratch _

  pub reads-refused : (x : Refused) → refused x ≡ (reading events attributes source words text scratch).outcome
      → ((reading events attributes source words text scratch).words ≡ zeros words) × ((reading events attributes source words text scratch).text ≡ zeros text)
  unfolding reading
  reads-refused x e = refused-zero words text scratch _ x e

module _ (events attributes source : List ℕ) (words text scratch out : ℕ) where
  abbrev r : Read
  r = reading events attributes source words text scratch

  abbrev answer : Answer ℕ
  answer = listing_answer r.words r.text out

  abbrev output : List ℕ
  output = output_of r.words r.text out

  -- with areas of the same lengths the one call gives the bytes, or refuses, as the two calls do (rule L13)
  pub both-calls : printed_for (listed_once events attributes source words text scratch out) (once_left events attributes source words text scratch out)
      ≡ public_listing events attributes source words text scratch out
  unfolding listed_once once_left public_listing ◌>>=◌
  both-calls = go r.outcome answer
    where
      go : (o : Outcome (Unit {0})) (a : Answer ℕ) → printed_for (o >>= λ _. outcome_of a) (output_behind o out output) ≡ behind_reading o (written a output)
      go (accepted u) (gives n) = refl
      go (accepted u) (refuses k) = refl
      go (refused x) a = refl

  -- where reading accepts: what listing answers, leaves and prints
  pub once-accepted : (w t : List ℕ) → accepted tt ≡ r.outcome → w ≡ r.words → t ≡ r.text → listed w t out ≡ listed_once events attributes source words text scratch out
  unfolding listed_once ◌>>=◌
  once-accepted w t e p q = rw (p, q) (ap (λ (o : Outcome (Unit {0})). o >>= λ _. listed r.words r.text out) e)

  pub left-accepted : (w t : List ℕ) → accepted tt ≡ r.outcome → w ≡ r.words → t ≡ r.text → output_of w t out ≡ once_left events attributes source words text scratch out
  unfolding once_left
  left-accepted w t e p q = rw (p, q) (ap (λ (o : Outcome (Unit {0})). output_behind o out output) e)

  -- where it refuses: the refusal, and zeros
  pub once-refused : (x : Refused) → refused x ≡ r.outcome → refused x ≡ listed_once events attributes source words text scratch out
  unfolding listed_once ◌>>=◌
  once-refused x e = ap (λ (o : Outcome (Unit {0})). o >>= λ _. listed r.words r.text out) e

  pub left-refused : (x : Refused) → refused x ≡ r.outcome → zeros out ≡ once_left events attributes source words text scratch out
  unfolding once_left
  left-refused x e = ap (λ (o : Outcome (Unit {0})). output_behind o out output) e

  -- an accepted answer: listing gave it, and what it left is printed
  pub once_gives : (n : ℕ) → listed_once events attributes source words text scratch out ≡ accepted n →
      (gives n ≡ answer) × ((once_left events attributes source words text scratch out ≡ output) × (public_listing events attributes source words text scratch out ≡ written answer output))
  unfolding listed_once once_left public_listing ◌>>=◌
  once_gives n e = go r.outcome answer e
    where
      go : (o : Outcome (Unit {0})) (a : Answer ℕ) → (o >>= λ _. outcome_of a) ≡ accepted n
          → (gives n ≡ a) × ((output_behind o out output ≡ output) × (behind_reading o (written a output) ≡ written a output))
      go (accepted u) (gives m) q = let z : n ≡ m = cc in (ap gives z, (refl, refl))
      go (accepted u) (refuses k) q = let z : ◌≡◌ {A = ℕ} 0 1 = cc in absurd (omega arith)
      go (refused x) a q = let z : ◌≡◌ {A = ℕ} 0 1 = cc in absurd (omega arith)

  -- a refusal: nothing is left
  pub left-zero : (x : Refused) → listed_once events attributes source words text scratch out ≡ refused x → once_left events attributes source words text scratch out ≡ zeros out
  unfolding listed_once once_left output_of ◌>>=◌
  left-zero x e = go r.outcome answer e
    where
      go : (o : Outcome (Unit {0})) (a : Answer ℕ) → (o >>= λ _. outcome_of a) ≡ refused x → output_behind o out (output_for a out (listing_of r.words r.text)) ≡ zeros out
      go (accepted u) (gives n) q = let z : ◌≡◌ {A = ℕ} 0 1 = cc in absurd (omega arith)
      go (accepted u) (refuses k) q = refl
      go (refused y) a q = refl
