-- What a builder's call answers and leaves, through structs and codes. Assumes nothing.
use Prim.Native.Nat.{ℕ, ◌≤◌, ◌<◌}
use mathlib.Core.Path.{◌≡◌, sym, ap, ◌∙◌}
use mathlib.Core.List.{List}
use mathlib.Core.Bool.{Bool, true, false, cond}
use lib.ListN.{length}
use lib.Dec.{ltb}
use Rattle.case_tags.specs.of_refusal.Refusal.{Outcome}
use Rattle.port_values.specs.of_build_draft.declared.Built.{Built}
use Rattle.port_values.specs.of_build_draft.Draft.{Draft, built_from, words_left_of, text_left}
use Rattle.port_values.specs.declared.KBuilt.{KBuilt}
use Rattle.port_values.specs.Values.{port_built, built_port}
use Rattle.port_values.specs.Codes.{no_code_of, coded}
use Rattle.port_values.proofs.Coded.{is_code, no_code}

module _ (old₁ old₂ : List ℕ) {r : KBuilt} {words text : List ℕ} where
  -- areas held old₁ and old₂; the call that was made is o, which is what was asked for
  pub passed : {a : Built} {o p : Outcome Draft} → o ≡ p → r ≡ port_built a → (a ≡ built_from o) × ((words ≡ words_left_of (length old₁) o) × (text ≡ text_left (length old₂) o))
      → (r ≡ built_port p) × ((words ≡ words_left_of (length old₁) p) × (text ≡ text_left (length old₂) p))
  passed e h x = (h ∙ ap port_built x.0 ∙ ap built_port e, (x.1.0 ∙ ap (words_left_of (length old₁)) e, x.1.1 ∙ ap (text_left (length old₂)) e))

  -- a code is none
  pub stopped : {p : Outcome Draft} → no_code_of ≡ p → (r ≡ built_port no_code_of) × ((words ≡ words_left_of (length old₁) no_code_of) × (text ≡ text_left (length old₂) no_code_of))
      → (r ≡ built_port p) × ((words ≡ words_left_of (length old₁) p) × (text ≡ text_left (length old₂) p))
  stopped e x = (x.0 ∙ ap built_port e, (x.1.0 ∙ ap (words_left_of (length old₁)) e, x.1.1 ∙ ap (text_left (length old₂)) e))

module _ {A : Type 0} (variants : List A) (code : ℕ) where
  pub known : (f : A → Outcome Draft) {v x : A} → v ≡ x → code < length variants → f v ≡ coded variants code (f x)
  known f {x = x} e h = ap f e ∙ sym (is_code variants code (f x) h)

  pub unknown : (o : Outcome Draft) → length variants ≤ code → no_code_of ≡ coded variants code o
  unknown o h = sym (no_code variants code o h)

  -- the same behind a call that said whether the code is one
  pub tested-known : (f : A → Outcome Draft) {v x : A} {b : Bool} → v ≡ x → b ≡ ltb code (length variants) → b ≡ true → f v ≡ coded variants code (f x)
  tested-known f {x = x} e h t = ap f e ∙ ap (λ (z : Bool). cond z (f x) no_code_of) (sym t ∙ h)

  pub tested_unknown : (o : Outcome Draft) {b : Bool} → b ≡ ltb code (length variants) → b ≡ false → no_code_of ≡ coded variants code o
  tested_unknown o h t = ap (λ (z : Bool). cond z o no_code_of) (sym t ∙ h)

module _ {A B : Type 0} (variants : List A) (code : ℕ) (others : List B) (other : ℕ) (f : A → B → Outcome Draft) where
  pub both-known : {v x : A} {w y : B} → v ≡ x → w ≡ y → code < length variants → other < length others → f v w ≡ coded variants code (coded others other (f x y))
  both-known {x = x} {w = w} {y = y} e g h k = ap (λ (a : A). f a w) e ∙ known others other (f x) g k ∙ sym (is_code variants code (coded others other (f x y)) h)

  pub second-unknown : (x : A) (y : B) → code < length variants → length others ≤ other → no_code_of ≡ coded variants code (coded others other (f x y))
  second-unknown x y h k = unknown others other (f x y) k ∙ sym (is_code variants code (coded others other (f x y)) h)
