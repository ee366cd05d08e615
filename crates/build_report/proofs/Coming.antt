-- What a call comes to, part by part. Assumes nothing.
use mathlib.Core.Bool.{Bool, true, false, false≢true}
use mathlib.Core.List.{List, ◌∷◌, ◌++◌}
use mathlib.Core.Path.{◌≡◌, refl, sym, subst}
use Rattle.tree_placed.specs.of_refusal.Refusal.{Outcome}
use Rattle.tree_placed.specs.of_refusal.declared.Cause.{Cause}
use Rattle.build_draft.specs.Draft.{Draft, ◌>>=◌, asks}
use Rattle.build_report.specs.Stands.{Comes, gives, passes, fails}

module _ {Q : Draft → Type 0} where
  -- a test, and what follows where it passes
  pub comes-asks : {ts : List (Bool × Cause)} {m : Outcome Draft} (t : Bool) (why : Cause) → (t ≡ true → Comes Q ts m) → Comes Q ((t, why) ∷ ts) (asks t why m)
  unfolding asks
  comes-asks true why h = passes (h refl)
  comes-asks false why h = fails

  -- the same, where the test is said otherwise
  pub comes-tests : {ts : List (Bool × Cause)} {m : Outcome Draft} (t u : Bool) (why : Cause) → t ≡ u → (u ≡ true → Comes Q ts m) → Comes Q ((u, why) ∷ ts) (asks t why m)
  comes-tests {ts} {m} t u why e h = subst (λ (b : Bool). Comes Q ((u, why) ∷ ts) (asks b why m)) (sym e) (comes-asks u why h)

  -- a test that passes in any case
  pub comes-anyway : {ts : List (Bool × Cause)} {m : Outcome Draft} (t : Bool) (why : Cause) → t ≡ true → Comes Q ts m → Comes Q ts (asks t why m)
  unfolding asks
  comes-anyway true why e h = h
  comes-anyway false why e h = absurd (false≢true e)

  -- what holds of the draft, said otherwise
  pub comes-on : {P : Draft → Type 0} {ts : List (Bool × Cause)} {m : Outcome Draft} → ((d : Draft) → P d → Q d) → Comes P ts m → Comes Q ts m
  comes-on f (gives {d} p) = gives (f d p)
  comes-on f (passes c) = passes (comes-on f c)
  comes-on f fails = fails

  -- one part behind another
  pub comes-then : {P : Draft → Type 0} {ts us : List (Bool × Cause)} {m : Outcome Draft} {f : Draft → Outcome Draft}
      → Comes P ts m → ((d : Draft) → P d → Comes Q us (f d)) → Comes Q (ts ++ us) (m >>= f)
  unfolding ◌>>=◌
  comes-then (gives {d} p) h = h d p
  comes-then (passes c) h = passes (comes-then c h)
  comes-then fails h = fails
