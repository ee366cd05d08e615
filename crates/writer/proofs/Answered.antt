-- The whole answer of writing, from its numbers or cause. Assumes nothing.
use Prim.Native.Nat.{ℕ}
use mathlib.Core.Path.{◌≡◌, refl, ap, ◌∙◌}
use mathlib.Core.List.{List}
use Rattle.refusal.specs.Refusal.{refused, late, no_refusal}
use Rattle.refusal.specs.declared.Cause.{Cause}
use Rattle.refusal.specs.declared.Refusal.{Refusal}
use Rattle.refusal.specs.declared.Verdict.TheVariants.{Accepted}
use Rattle.area.specs.Answer.{Answer, gives, refuses}
use Rattle.write_answer.specs.Answer.{Sizes, outcome_of, wrote, events_left, attributes_left, bytes_left}
use Rattle.writer.specs.declared.Writing.{Writing}
use Rattle.writer.specs.Answer.{writing_from}
use Rattle.writer.proofs.Leaving.{Left}

module _ (words text : List ℕ) (e a b : ℕ) where
  abbrev pub Whole : Writing → List ℕ → List ℕ → List ℕ → Type 0
  Whole r ev at by =
      (r ≡ writing_from (wrote words text e a b)) × ((ev ≡ events_left words text e a b) × ((at ≡ attributes_left words text e a b) × (by ≡ bytes_left words text e a b)))

  pub refused-whole : {r : Writing} {c : Cause} {ev at by : List ℕ} → r ≡ writing_from (refused (late c)) → Left words text e a b (refuses c) ev at by → Whole r ev at by
  refused-whole q p = (q ∙ ap (λ (o : Answer Sizes). writing_from (outcome_of o)) p.answer, (p.events, (p.attributes, p.bytes)))

  pub written-whole : {f : Refusal} {m n k : ℕ} {ev at by : List ℕ} → f ≡ no_refusal → Left words text e a b (gives (record { events = m; attributes = n; bytes = k })) ev at by
      → Whole (record { verdict = Accepted; events = m; attributes = n; bytes = k; refusal = f }) ev at by
  written-whole {f} {m} {n} {k} q p = (whole q ∙ ap (λ (o : Answer Sizes). writing_from (outcome_of o)) p.answer, (p.events, (p.attributes, p.bytes)))
    where
      whole : f ≡ no_refusal
          → ◌≡◌ {A = Writing} (record { verdict = Accepted; events = m; attributes = n; bytes = k; refusal = f }) (writing_from (outcome_of (gives (record { events = m; attributes = n; bytes = k }))))
      whole q = rw q refl
