-- A value put into the element's record, against the definition. Assumes nothing.
use Prim.Native.Nat.{ℕ}
use mathlib.Core.Path.{◌≡◌, ap, ◌∙◌}
use mathlib.Core.List.{List, ◌++◌}
use native.Mathlib.Omega.{arith}
use lib.ListN.{length}
use Rattle.read_values.specs.of_area.Answer.{Answer, gives, refuses}
use Rattle.read_values.specs.of_area.Area.{zeros}
use Rattle.read_values.specs.of_refusal.Refusal.{accepted}
use Rattle.read_values.specs.of_read_element.Outcome.{Place, there, ◌>>=◌}
use Rattle.read_values.specs.of_read_element.Attributes.{Given, with_main}
use Rattle.read_values.specs.of_utf8.Characters.{joined}
use Rattle.read_values.specs.of_read_element.inside.Held.{unmoved, putting, Held, Meets}
use Rattle.read_values.specs.of_read_element.inside.Refines.{went, stopped}
use Rattle.read_values.specs.inside.Answers.{took_answer}
use Rattle.read_role.specs.inside.Roles.{took_given}
use Rattle.std.specs.Prelude.{Result, Ok, Err}
use Rattle.read_values.specs.of_refusal.declared.Cause.{Cause}
use Rattle.read_extra_record.proofs.Storing.{Local}

-- the record changed
module _ {own text : List ℕ} {extras fill : ℕ} {g : Given} (hd : Held own text extras fill g) where
  pub main-changed : (f : List ℕ → List ℕ) → Local f → ((r : List ℕ) → length (f r) ≡ length r) → Held (f own) text extras fill (with_main g (f g.main))
  main-changed f loc len = record {
    room = hd.room;
    left = hd.left;
    records = ap f hd.records ∙ loc g.main (joined g.extras ++ zeros hd.room) hd.main-words;
    main-words = len g.main ∙ hd.main-words;
    keyed = hd.keyed;
    count = hd.count;
    stored = hd.stored;
    filled = hd.filled;
  }

  pub value-meets : {A : Type 0} (f : A → List ℕ → List ℕ) → ((a : A) → Local (f a)) → ((a : A) (r : List ℕ) → length (f a r) ≡ length r)
      → (p : Place) (m : Answer A) (took : Result ℕ Cause) {own' : List ℕ} → took_answer took ≡ unmoved fill m → own' ≡ putting f m own
      → Meets p own' text (there p m >>= λ a. accepted (with_main g (f a g.main))) (took_given extras took)
  unfolding there ◌>>=◌
  value-meets f loc len p (gives a) (Ok n) e o =
      let z : n ≡ fill = cc in
      rw (o, z) (went (main-changed (f a) (loc a) (len a)))
  value-meets f loc len p (gives a) (Err why) e o = let z : ◌≡◌ {A = ℕ} 0 1 = cc in absurd (omega arith)
  value-meets f loc len p (refuses n) (Ok k) e o = let z : ◌≡◌ {A = ℕ} 0 1 = cc in absurd (omega arith)
  value-meets f loc len p (refuses n) (Err why) e o = let z : why ≡ n = cc in rw z stopped
