-- A text of the element that a setter is for: refused where the element hasn't it, and else put there. Assumes nothing.
use Prim.Native.Nat.{ℕ}
use mathlib.Core.Path.{◌≡◌, refl, ap, ◌∙◌}
use mathlib.Core.List.{List}
use mathlib.Core.Bool.{Bool, true, false, cond, not, ◌&&◌, ◌||◌, or-true, or-false}
use Rattle.std.specs.Prelude.{Err}
use Rattle.build_text.specs.of_refusal.Refusal.{Outcome}
use Rattle.build_text.specs.of_refusal.declared.Cause.TheVariants as cause
use Rattle.build_text.specs.of_build_draft.declared.Element.{Element}
use Rattle.build_text.specs.of_build_draft.declared.TextField.{TextField}
use Rattle.build_text.specs.of_build_draft.Draft.{Draft, asks, draft_of, kind_at, mark_of}
use Rattle.build_text.specs.of_build_draft.Parts.{putting, has_text, word_for, bit_for, is_output}
use Rattle.build_text.specs.of_build_draft.Calls.{set_text, set_output_lossy}
use Rattle.build_fields.proofs.Answering.{fails, passes}

module _ (lossy : Bool) (e : Element) (f : TextField) (s : List ℕ) (d : Draft) where
  -- both calls
  abbrev pub set_either : Outcome Draft
  set_either = cond lossy (set_output_lossy e f s d) (set_text e f s d)

  -- the code's test, by the words that it is made of
  abbrev pub apt : Bool
  apt = (is_output f || not lossy) && has_text (kind_at d.words (mark_of d.builder e)) f

  pub apt-by : {i k : ℕ} {o t : Bool} → i ≡ mark_of d.builder e → k ≡ kind_at d.words i → o ≡ is_output f → t ≡ has_text k f → (o || not lossy) && t ≡ apt
  apt-by {t = t} m h p q =
      ap (λ (o : Bool). (o || not lossy) && t) p
      ∙ ap (λ (t : Bool). (is_output f || not lossy) && t) (q ∙ ap (λ (k : ℕ). has_text k f) (h ∙ ap (kind_at d.words) m))

either : (lossy : Bool) (e : Element) (f : TextField) (s : List ℕ) (d : Draft)
    → set_either lossy e f s d ≡ asks (apt lossy e f s d) cause.NotLayout (putting (mark_of d.builder e) (word_for f) (bit_for f) lossy s d)
unfolding set_text set_output_lossy
either true e f s d = rw (or-false (is_output f)) refl
either false e f s d = rw (or-true (is_output f)) refl

module _ (lossy : Bool) (e : Element) (f : TextField) (s : List ℕ) (d : Draft) {r : Bool} (same : r ≡ apt lossy e f s d) where
  pub field-lacking : not r ≡ true → (words text : List ℕ) → draft_of (Err cause.NotLayout) words text ≡ set_either lossy e f s d
  unfolding asks draft_of
  field-lacking h words text = rw (either lossy e f s d, fails same h) refl

  pub field_put : not r ≡ false → {i o k : ℕ} {m : Outcome Draft} → i ≡ mark_of d.builder e → o ≡ word_for f → k ≡ bit_for f → m ≡ putting i o k lossy s d
      → m ≡ set_either lossy e f s d
  unfolding asks
  field_put h p q t u = rw (either lossy e f s d, passes same h, ← p, ← q, ← t) u
