-- Characters of a kind, and then bytes of a kind. Assumes nothing.
use Prim.Native.Nat.{ℕ, ◌<◌}
use mathlib.Core.Path.{◌≡◌, refl, sym, ap, ◌∙◌, subst}
use mathlib.Core.List.{List, [], ◌∷◌, ◌++◌, append_assoc}
use mathlib.Core.Bool.{true}
use lib.Dec.{ltb}
use borrow.Author.Tests.{ltb-true}
use Rattle.xml_grammar.specs.of_utf8.Characters.{encode}
use Rattle.xml_grammar.specs.of_xml_chars.Bytes.{utf8}
use Rattle.xml_grammar.proofs.of_xml_chars.Encoding.{encode-1, utf8_append}

pub data Then (P R : List ℕ → Type 0) (t : List ℕ) : Type 0 where
  upto : (s u : List ℕ) → P s → t ≡ utf8 s ++ u → R u → Then P R t

-- a character more at the front
pub take-char : {P R : List ℕ → Type 0} (c : ℕ) {v : List ℕ} → Then (λ s. P (c ∷ s)) R v → Then P R (encode c ++ v)
take-char c (upto s u p e r) = upto (c ∷ s) u p (ap (λ z. encode c ++ z) e ∙ sym (append_assoc (encode c) (utf8 s) u)) r

pub take-byte : {P R : List ℕ → Type 0} (b : ℕ) {v : List ℕ} → b < 0x80 → Then (λ s. P (b ∷ s)) R v → Then P R (b ∷ v)
take-byte {P} {R} b {v} h r = subst (λ z. Then P R (z ++ v)) (encode-1 b h) (take-char b r)

pub take-mark : {P R : List ℕ → Type 0} (b : ℕ) {v : List ℕ} → ltb b 0x80 ≡ true → Then (λ s. P (b ∷ s)) R v → Then P R (b ∷ v)
take-mark b e r = take-byte b (ltb-true b 0x80 e) r

pub none_yet : {P R : List ℕ → Type 0} {t : List ℕ} → P [] → R t → Then P R t
none_yet {t = t} p r = upto [] t p refl r

-- the last character
pub last-mark : {P R : List ℕ → Type 0} (b : ℕ) {t : List ℕ} → ltb b 0x80 ≡ true → P (b ∷ []) → R t → Then P R (b ∷ t)
last-mark b e p r = take-mark b e (none_yet p r)

pub each : {P Q R : List ℕ → Type 0} {t : List ℕ} → ((s : List ℕ) → P s → Q s) → Then P R t → Then Q R t
each f (upto s u p e r) = upto s u (f s p) e r

-- two kinds behind each other
pub both : {P Q R S : List ℕ → Type 0} {t : List ℕ} → ((a b : List ℕ) → P a → Q b → S (a ++ b)) → Then P (Then Q R) t → Then S R t
both f (upto a u p e (upto b v q g r)) =
    upto (a ++ b) v (f a b p q)
    (e ∙ ap (λ z. utf8 a ++ z) g ∙ sym (append_assoc (utf8 a) (utf8 b) v) ∙ ap (λ z. z ++ v) (sym (utf8_append a b))) r

-- what follows, said in other words
pub onward : {P R S : List ℕ → Type 0} {t : List ℕ} → ((u : List ℕ) → R u → S u) → Then P R t → Then P S t
onward f (upto s u p e r) = upto s u p e (f u r)
