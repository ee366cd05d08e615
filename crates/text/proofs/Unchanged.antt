-- A text that putting leaves as it is. Assumes nothing.
use Prim.Native.Nat.{ℕ, ◌≤◌, ◌<◌}
use mathlib.Core.Path.{◌≡◌, refl, sym, ap, ◌∙◌}
use mathlib.Core.List.{List, [], ◌∷◌}
use mathlib.Core.Bool.{Bool, true, false, not, ◌&&◌, ◌||◌, and-eq-true_iff, false≢true}
use native.Mathlib.Omega.{arith}
use borrow.Author.Tests.{not-true, lt-ltb, ltb-false}
use lib.Dec.{ltb, eqb}
use lib.ListN.{length}
use Rattle.std.specs.Prelude.{Option, Result}
use Rattle.utf8_chars.specs.of_area.Answer.{refuses}
use Rattle.utf8_chars.specs.of_area.Area.{stored_answer, placing, laid}
use Rattle.utf8_chars.specs.of_utf8.Utf8.{utf8}
use Rattle.utf8_chars.specs.of_utf8.inside.Ascii.{ascii}
use Rattle.utf8_chars.proofs.of_utf8.Rules.{ascii-utf8}
use Rattle.reference.specs.Reference.{refs_ok, decoded, no_ampersand}
use Rattle.reference.proofs.Decoding.{plain-refs, plain-decoded}
use Rattle.text_filter.specs.Filter.{filtered, unfiltered}
use Rattle.text.specs.Decode.{cleaned, decoded_of, decoded_laid}
use Rattle.text.specs.Kept.{kept_answer}
use Rattle.text.specs.declared.kept.Unkept.{Unkept}
use Rattle.text.specs.inside.Plain.{odd, plain}
use Rattle.text_filter.proofs.Filtering.{kept_high, filtered-same}
use Rattle.text.proofs.Putting.{kept-both}
use Rattle.utf8_chars.specs.of_refusal.declared.Cause.TheVariants as cause
use Rattle.utf8_chars.specs.of_refusal.declared.Cause.{Cause}

pub or-none : (t u : Bool) → (t || u) ≡ false → (t ≡ false) × (u ≡ false)
or-none true u e = absurd (false≢true (sym e))
or-none false u e = (refl, e)

byte-plain : (b : ℕ) → odd b ≡ false → (eqb b 0x26 ≡ false) × (0x20 ≤ b) × (b < 0x80)
byte-plain b e =
    let p = or-none (eqb b 0x26) (ltb b 0x20 || ltb 0x7F b) e in
    let q = or-none (ltb b 0x20) (ltb 0x7F b) p.1 in
    let l = ltb-false b 0x20 q.0 in
    let h = ltb-false 0x7F b q.1 in
    (p.0, l, omega arith)

-- a plain text holds no ampersand and nothing that is dropped, and is ASCII
plain-each : (s : List ℕ) → plain s ≡ true → (no_ampersand s ≡ true) × (unfiltered s ≡ true) × (ascii s ≡ true)
plain-each [] e = (refl, refl, refl)
plain-each (b ∷ s) e =
    let p = (and-eq-true_iff (not (odd b)) (plain s)).0 e in
    let q = byte-plain b (not-true (odd b) p.0) in
    let r = plain-each s p.1 in (
      ap (λ (t : Bool). not t && no_ampersand s) q.0 ∙ r.0,
      ap (λ (t : Bool). not t && unfiltered s) (kept_high b q.1) ∙ r.1,
      ap (λ (t : Bool). t && ascii s) (lt-ltb b 0x80 q.2) ∙ r.2,
    )

-- it stands for itself
plain-cleaned : (clean : Bool) (s : List ℕ) → plain s ≡ true → s ≡ cleaned clean (decoded s 0)
plain-cleaned true s e =
    let p = plain-each s e in sym (ap filtered (plain-decoded s p.0) ∙ filtered-same s p.1)
plain-cleaned false s e = sym (plain-decoded s (plain-each s e).0)

-- a plain text that was put as it is
pub put-plain : (clean : Bool) (out s out' : List ℕ) (put : Option ℕ) (k : Result ℕ Unkept) → plain s ≡ true
    → stored_answer cause.OutputFull put ≡ placing cause.OutputFull (length out) s → ((short : Cause) → kept_answer short k ≡ stored_answer short put) → out' ≡ laid out s
    → ((short : Cause) → kept_answer short k ≡ decoded_of short clean (length out) s) × (out' ≡ decoded_laid clean out s)
put-plain clean out s out' put k e p q o = (λ short. (short-of short).0, (short-of cause.TextFull).1)
  where
    f : s ≡ cleaned clean (decoded s 0)
    f = plain-cleaned clean s e

    short-of : (short : Cause) → (kept_answer short k ≡ decoded_of short clean (length out) s) × (out' ≡ decoded_laid clean out s)
    short-of short =
        kept-both short cause.OutputFull out out' (cleaned clean (decoded s 0)) put k (p ∙ ap (placing cause.OutputFull (length out)) f) q (utf8 s) (refs_ok s 0)
        (refuses cause.BadReference) (refuses cause.NotUtf8) (ascii-utf8 s (plain-each s e).2) (plain-refs s (plain-each s e).0) (o ∙ ap (laid out) f)
