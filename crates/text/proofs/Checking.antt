-- What the check of a value tells. Assumes nothing.
use Prim.Native.Nat.{ℕ}
use mathlib.Core.Path.{◌≡◌, refl}
use mathlib.Core.List.{List}
use mathlib.Core.Bool.{Bool, true, false, cond}
use native.Mathlib.Omega.{arith}
use lib.ListN.{length}
use Rattle.std.specs.Prelude.{Option, Result}
use Rattle.utf8_chars.specs.of_area.Answer.{Answer, gives, refuses}
use Rattle.utf8_chars.specs.of_area.Area.{stored_answer, placing, laid}
use Rattle.utf8_chars.specs.of_utf8.Utf8.{utf8}
use Rattle.reference.specs.Reference.{refs_ok, decoded}
use Rattle.text.specs.Decode.{cleaned, decoded_of, decoded_laid}
use Rattle.text.specs.Value.{checked_of}
use Rattle.text.specs.Kept.{kept_answer}
use Rattle.text.specs.declared.kept.Unkept.{Unkept}
use Rattle.text.proofs.Putting.{first-fails, second-fails, kept-both}
use Rattle.utf8_chars.specs.of_refusal.declared.Cause.TheVariants as cause
use Rattle.utf8_chars.specs.of_refusal.declared.Cause.{Cause}

abbrev two : Bool → Bool → Answer (Unit {0})
two t u = cond t (cond u (gives tt) (refuses cause.BadReference)) (refuses cause.NotUtf8)

module _ (s : List ℕ) where
  -- a value that passed the check is UTF-8 with good references
  pub checked-good : gives tt ≡ checked_of s → (utf8 s ≡ true) × (refs_ok s 0 ≡ true)
  checked-good = go (utf8 s) (refs_ok s 0)
    where
      go : (t u : Bool) → gives tt ≡ two t u → (t ≡ true) × (u ≡ true)
      go true true e = (refl, refl)
      go true false e = let z : ◌≡◌ {A = ℕ} 0 1 = cc in absurd (omega arith)
      go false u e = let z : ◌≡◌ {A = ℕ} 0 1 = cc in absurd (omega arith)

-- a value put into an area, by the outcome of its tests
module _ (clean : Bool) (out s : List ℕ) where
  pub decoded-not-utf8 : utf8 s ≡ false → ((short : Cause) → refuses cause.NotUtf8 ≡ decoded_of short clean (length out) s) × (out ≡ decoded_laid clean out s)
  decoded-not-utf8 e = (λ short. (short-of short).0, (short-of cause.TextFull).1)
    where
      short-of : (short : Cause) → (refuses cause.NotUtf8 ≡ decoded_of short clean (length out) s) × (out ≡ decoded_laid clean out s)
      short-of short = first-fails (utf8 s) (refs_ok s 0) (placing short (length out) (cleaned clean (decoded s 0)))
          (refuses cause.BadReference) (refuses cause.NotUtf8) out (laid out (cleaned clean (decoded s 0))) e

  pub decoded-bad : utf8 s ≡ true → refs_ok s 0 ≡ false → ((short : Cause) → refuses cause.BadReference ≡ decoded_of short clean (length out) s) × (out ≡ decoded_laid clean out s)
  decoded-bad e f = (λ short. (short-of short).0, (short-of cause.TextFull).1)
    where
      short-of : (short : Cause) → (refuses cause.BadReference ≡ decoded_of short clean (length out) s) × (out ≡ decoded_laid clean out s)
      short-of short =
          second-fails (utf8 s) (refs_ok s 0) (placing short (length out) (cleaned clean (decoded s 0))) (refuses cause.BadReference)
          (refuses cause.NotUtf8) out (laid out (cleaned clean (decoded s 0))) e f

  pub decoded-good : (out' : List ℕ) (put : Option ℕ) (k : Result ℕ Unkept) → utf8 s ≡ true → refs_ok s 0 ≡ true → stored_answer cause.TextFull put ≡ placing cause.TextFull (length out) (cleaned clean (decoded s 0))
      → ((short : Cause) → kept_answer short k ≡ stored_answer short put) → out' ≡ laid out (cleaned clean (decoded s 0))
      → ((short : Cause) → kept_answer short k ≡ decoded_of short clean (length out) s) × (out' ≡ decoded_laid clean out s)
  decoded-good out' put k e f p q o = (λ short. (short-of short).0, (short-of cause.TextFull).1)
    where
      short-of : (short : Cause) → (kept_answer short k ≡ decoded_of short clean (length out) s) × (out' ≡ decoded_laid clean out s)
      short-of short =
          kept-both short cause.TextFull out out' (cleaned clean (decoded s 0)) put k p q (utf8 s) (refs_ok s 0)
          (refuses cause.BadReference) (refuses cause.NotUtf8) e f o
