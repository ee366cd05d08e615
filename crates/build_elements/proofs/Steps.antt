-- A call's parts one behind the other, as the code goes through them and as the definitions do. Assumes nothing.
use Prim.Native.Nat.{ℕ}
use mathlib.Core.Path.{◌≡◌, refl, sym, ap, ◌∙◌}
use mathlib.Core.Bool.{Bool, true, false, not}
use mathlib.Core.List.{List}
use native.Mathlib.Omega.{arith}
use Rattle.std.specs.Prelude.{Result, Ok, Err}
use Rattle.build_kinds.specs.of_refusal.Refusal.{Outcome, accepted}
use Rattle.build_kinds.specs.of_refusal.declared.Cause.{Cause}
use Rattle.build_kinds.specs.of_build_draft.declared.Builder.{Builder}
use Rattle.build_kinds.specs.of_build_draft.Draft.{Draft, ◌>>=◌, asks, draft_of, with_builder}
use Rattle.build_kinds.specs.of_build_draft.Parts.{taking}
use Rattle.build_kinds.proofs.of_build_draft.Steps.{then-refused, then-done}

module _ (words text : List ℕ) where
  -- a part that refuses ends the call
  pub stopped : {s : Result Builder Cause} {why : Cause} {m : Outcome Draft} (f : Draft → Outcome Draft) → s ≡ Err why → draft_of s words text ≡ m → draft_of s words text ≡ (m >>= f)
  stopped {s = s} f n e = then-refused s words text f words text n e

  -- and else what follows goes on from its draft
  pub went : {s : Result Builder Cause} {b : Builder} {m : Outcome Draft} (f : Draft → Outcome Draft) → s ≡ Ok b → draft_of s words text ≡ m → f (record { builder = b; words = words; text = text }) ≡ (m >>= f)
  went {s = s} f n e = then-done s words text f n e

  pub done : {r b : Builder} → r ≡ b → draft_of (Ok r) words text ≡ accepted (record { builder = b; words = words; text = text })
  unfolding draft_of
  done e = ap (λ (x : Builder). accepted (record { builder = x; words = words; text = text })) e

  -- a test at the front fails
  pub unasked : {t test : Bool} (why : Cause) (m : Outcome Draft) → t ≡ test → not t ≡ true → draft_of (Err why) words text ≡ asks test why m
  unfolding draft_of asks
  unasked {t = false} why m e h = rw (sym e) refl
  unasked {t = true} why m e h = let z : ◌≡◌ {A = ℕ} 0 1 = cc in absurd (omega arith)

-- or passes
pub asked : {t test : Bool} (why : Cause) (m : Outcome Draft) → t ≡ test → not t ≡ false → m ≡ asks test why m
unfolding asks
asked {t = true} why m e h = rw (sym e) refl
asked {t = false} why m e h = let z : ◌≡◌ {A = ℕ} 0 1 = cc in absurd (omega arith)

-- a part behind a test that passes
module _ {t test : Bool} (e : t ≡ test) (h : not t ≡ false) (late : Cause) (f : Draft → Outcome Draft) (words text : List ℕ) where
  pub part-stopped : {s : Result Builder Cause} {why : Cause} {m : Outcome Draft} → s ≡ Err why → draft_of s words text ≡ m → draft_of s words text ≡ asks test late (m >>= f)
  part-stopped {m = m} n p = stopped words text f n p ∙ asked late (m >>= f) e h

  pub part-went : {s : Result Builder Cause} {b : Builder} {m : Outcome Draft} → s ≡ Ok b → draft_of s words text ≡ m → f (record { builder = b; words = words; text = text }) ≡ asks test late (m >>= f)
  part-went {m = m} n p = went words text f n p ∙ asked late (m >>= f) e h

-- the draft with other marks
abbrev pub remarked : (Builder → Builder) → Draft → Outcome Draft
remarked mark d = accepted (with_builder d (mark d.builder))

-- a record taken, and marks set
abbrev pub opening : ℕ → (Builder → Builder) → Draft → Outcome Draft
opening k mark d = taking k d >>= remarked mark

module _ (k : ℕ) (mark : Builder → Builder) (d : Draft) (words : List ℕ) where
  pub not_taken : {s : Result Builder Cause} {why : Cause} → s ≡ Err why → draft_of s words d.text ≡ taking k d → draft_of s words d.text ≡ opening k mark d
  not_taken n e = stopped words d.text (remarked mark) n e

  pub was-taken : {s : Result Builder Cause} {b r : Builder} → s ≡ Ok b → draft_of s words d.text ≡ taking k d → r ≡ mark b → draft_of (Ok r) words d.text ≡ opening k mark d
  was-taken n e m = done words d.text m ∙ went words d.text (remarked mark) n e
