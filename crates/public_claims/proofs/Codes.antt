-- The key codes one by one. Assumes nothing.
use Prim.Native.Nat.{ℕ}
use mathlib.Core.Path.{◌≡◌, refl, sym, subst}
use mathlib.Core.List.{List, []}
use mathlib.Core.Bool.{Bool, true, false, cond}
use borrow.Author.Tests.{eqb-true}
use lib.Dec.{eqb}
use Rattle.read_report.specs.of_names.Keys.{is_public}
use Rattle.public_claims.specs.inside.PublicMachine.{Said, not_listed, field_of, say}

-- a key that has none of the fifteen codes
pub record Other (c : ℕ) : Type 0 where
  pub is1 : eqb c 1 ≡ false
  pub is2 : eqb c 2 ≡ false
  pub is3 : eqb c 3 ≡ false
  pub is4 : eqb c 4 ≡ false
  pub is5 : eqb c 5 ≡ false
  pub is6 : eqb c 6 ≡ false
  pub is7 : eqb c 7 ≡ false
  pub is8 : eqb c 8 ≡ false
  pub is9 : eqb c 9 ≡ false
  pub is10 : eqb c 10 ≡ false
  pub is11 : eqb c 11 ≡ false
  pub is12 : eqb c 12 ≡ false
  pub is13 : eqb c 13 ≡ false
  pub is14 : eqb c 14 ≡ false
  pub is15 : eqb c 15 ≡ false

pub data Code : ℕ → Type 0 where
  code1 : Code 1
  code2 : Code 2
  code3 : Code 3
  code4 : Code 4
  code5 : Code 5
  code6 : Code 6
  code7 : Code 7
  code8 : Code 8
  code9 : Code 9
  code10 : Code 10
  code11 : Code 11
  code12 : Code 12
  code13 : Code 13
  code14 : Code 14
  code15 : Code 15
  further : {c : ℕ} → Other c → Code c

choose : (P : ℕ → Type 0) (n c : ℕ) → P n → (eqb c n ≡ false → P c) → P c
choose P n c h k = go (eqb c n) refl
  where
    go : (b : Bool) → eqb c n ≡ b → P c
    go true e = subst P (sym (eqb-true c n e)) h
    go false e = k e

pub code_of : (c : ℕ) → Code c
code_of c =
    choose Code 1 c code1 λ e₁. choose Code 2 c code2 λ e₂. choose Code 3 c code3 λ e₃. choose Code 4 c code4 λ e₄. choose Code 5 c code5 λ e₅.
    choose Code 6 c code6 λ e₆. choose Code 7 c code7 λ e₇. choose Code 8 c code8 λ e₈. choose Code 9 c code9 λ e₉. choose Code 10 c code10 λ f₀.
    choose Code 11 c code11 λ f₁. choose Code 12 c code12 λ f₂. choose Code 13 c code13 λ f₃. choose Code 14 c code14 λ f₄. choose Code 15 c code15 λ f₅.
    further (record { is1 = e₁; is2 = e₂; is3 = e₃; is4 = e₄; is5 = e₅; is6 = e₆; is7 = e₇; is8 = e₈; is9 = e₉; is10 = f₀; is11 = f₁; is12 = f₂; is13 = f₃; is14 = f₄; is15 = f₅ })

pub field-other : (c : ℕ) → Other c → field_of c ≡ not_listed
unfolding field_of
field-other c o = rw (o.is1, o.is2, o.is5, o.is6, o.is7, o.is8, o.is9, o.is10)

-- a value that is blanked is not listed
pub blank-same : (c : ℕ) → Code c → (v : List ℕ) (s : Said) → say (field_of c) (cond (is_public c) v []) s ≡ say (field_of c) v s
unfolding field_of
blank-same c code1 v s = refl
blank-same c code2 v s = refl
blank-same c code3 v s = refl
blank-same c code4 v s = refl
blank-same c code5 v s = refl
blank-same c code6 v s = refl
blank-same c code7 v s = refl
blank-same c code8 v s = refl
blank-same c code9 v s = refl
blank-same c code10 v s = refl
blank-same c code11 v s = refl
blank-same c code12 v s = refl
blank-same c code13 v s = refl
blank-same c code14 v s = refl
blank-same c code15 v s = refl
blank-same c (further o) v s = rw (field-other c o)
