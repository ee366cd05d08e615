-- The filter and the character that a reference names. Assumes nothing.
use Prim.Native.Nat.{ℕ, ◌+◌, ◌/◌, ◌%◌, ◌≤◌, ◌<◌}
use mathlib.Core.Path.{◌≡◌, refl, sym, ap, ◌∙◌}
use mathlib.Core.List.{List, [], ◌∷◌, ◌++◌}
use mathlib.Core.Bool.{Bool, true, false, ◌&&◌, false≢true}
use native.Mathlib.Omega.{arith}
use native.Mathlib.Decide.{dec_lt}
use borrow.Author.Tests.{lt-leb, eqb-true}
use lib.Dec.{eqb}
use Rattle.utf8_chars.specs.of_utf8.Characters.{is_scalar, encode}
use Rattle.utf8_chars.proofs.of_utf8.Forms.{form-0, form-1, form-2, form-3, form-4}
use Rattle.reference.specs.Reference.{xml_char}
use Rattle.text_filter.specs.Filter.{dropped, filtered}
use Rattle.text.specs.Decode.{cleaned}
use Rattle.text_filter.proofs.Filtering.{kept_high, filter-drop, filter-keep, filtered-append}

-- an XML Char is no control character that is dropped
pub kept-char : (c : ℕ) → xml_char c ≡ true → dropped c ≡ false
unfolding xml_char
kept-char c e = go (dec_lt c 0x20) (eqb c 0x9) (eqb c 0xA) (eqb c 0xD) refl refl refl
  where
    go : Dec (c < 0x20) → (t u v : Bool) → eqb c 0x9 ≡ t → eqb c 0xA ≡ u → eqb c 0xD ≡ v → dropped c ≡ false
    go (no h) t u v p q r = kept_high c (omega arith)
    go (yes h) true u v p q r = ap dropped (eqb-true c 0x9 p)
    go (yes h) false true v p q r = ap dropped (eqb-true c 0xA q)
    go (yes h) false false true p q r = ap dropped (eqb-true c 0xD r)
    go (yes h) false false false p q r =
        let z : xml_char c ≡ false = simp (p, q, r, lt-leb 0x20 c h, lt-leb 0xE000 c (omega arith), lt-leb 0x10000 c (omega arith)) in absurd (false≢true (sym z ∙ e))

stays : (b : ℕ) (s : List ℕ) → 0x20 ≤ b → filtered s ≡ s → filtered (b ∷ s) ≡ b ∷ s
stays b s h e = filter-keep b s (kept_high b h) ∙ ap (λ (l : List ℕ). b ∷ l) e

-- the filter drops no byte of an XML Char
pub filtered-encode : (c : ℕ) → xml_char c ≡ true → filtered (encode c) ≡ encode c
filtered-encode c e = go (is_scalar c) refl (dec_lt c 0x80) (dec_lt c 0x800) (dec_lt c 0x10000)
  where
    go : (t : Bool) → is_scalar c ≡ t → Dec (c < 0x80) → Dec (c < 0x800) → Dec (c < 0x10000) → filtered (encode c) ≡ encode c
    go false s p q r = rw (form-0 c s) refl
    go true s (yes p) q r = rw (form-1 c s p) (filter-keep c [] (kept-char c e))
    go true s (no p) (yes q) r = rw (form-2 c s (omega arith) q) (stays (192 + c / 64) _ (omega arith) (stays (128 + c % 64) [] (omega arith) refl))
    go true s (no p) (no q) (yes r) =
        rw (form-3 c s (omega arith) r) (stays (224 + c / 4096) _ (omega arith) (stays (128 + c / 64 % 64) _ (omega arith) (stays (128 + c % 64) [] (omega arith) refl)))
    go true s (no p) (no q) (no r) =
        rw (form-4 c s (omega arith))
        (stays (240 + c / 262144) _ (omega arith) (stays (128 + c / 4096 % 64) _ (omega arith) (stays (128 + c / 64 % 64) _ (omega arith) (stays (128 + c % 64) [] (omega arith) refl))))

pub cleaned-encode : (clean : Bool) (c : ℕ) → xml_char c ≡ true → cleaned clean (encode c) ≡ encode c
cleaned-encode true c e = filtered-encode c e
cleaned-encode false c e = refl

pub cleaned-append : (clean : Bool) (s t : List ℕ) → cleaned clean (s ++ t) ≡ cleaned clean s ++ cleaned clean t
cleaned-append true s t = filtered-append s t
cleaned-append false s t = refl

pub cleaned-nil : (clean : Bool) → cleaned clean [] ≡ []
cleaned-nil true = refl
cleaned-nil false = refl

-- one byte, from the test that the code makes of it
module _ (clean d : Bool) (b : ℕ) (q : d ≡ dropped b) where
  pub cleaned-drop : (clean && d) ≡ true → [] ≡ cleaned clean (b ∷ [])
  cleaned-drop e = go clean e
    where
      go : (t : Bool) → (t && d) ≡ true → [] ≡ cleaned t (b ∷ [])
      go true e = sym (filter-drop b [] (sym q ∙ e))
      go false e = absurd (false≢true e)

  pub cleaned-keep : (clean && d) ≡ false → b ∷ [] ≡ cleaned clean (b ∷ [])
  cleaned-keep e = go clean e
    where
      go : (t : Bool) → (t && d) ≡ false → b ∷ [] ≡ cleaned t (b ∷ [])
      go true e = sym (filter-keep b [] (sym q ∙ e))
      go false e = refl
