-- What follows a code, and where there is none. Assumes nothing.
use Prim.Native.Nat.{ℕ, ◌≤◌, ◌<◌}
use mathlib.Core.Path.{◌≡◌, ap}
use mathlib.Core.List.{List}
use mathlib.Core.Bool.{Bool, cond}
use lib.ListN.{length}
use borrow.Author.Tests.{lt-ltb, le-ltb}
use Rattle.port_refusal.specs.of_refusal.Refusal.{Outcome}
use Rattle.port_values.specs.Codes.{no_code_of, coded}

module _ {A B : Type 0} (variants : List A) (code : ℕ) (o : Outcome B) where
  -- a code from the list is taken, and what follows counts
  pub is_code : code < length variants → coded variants code o ≡ o
  is_code h = ap (λ (b : Bool). cond b o no_code_of) (lt-ltb code (length variants) h)

  -- a number past the list is answered as no code
  pub no_code : length variants ≤ code → coded variants code o ≡ no_code_of
  no_code h = ap (λ (b : Bool). cond b o no_code_of) (le-ltb code (length variants) h)
