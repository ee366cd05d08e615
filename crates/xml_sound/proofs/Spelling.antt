-- Fixed bytes as characters, and characters in a row. Assumes nothing.
use Prim.Native.Nat.{ℕ}
use mathlib.Core.Path.{◌≡◌, refl, sym, ap, subst}
use mathlib.Core.List.{List, [], ◌∷◌, ◌++◌, append_assoc, append-nil}
use mathlib.Core.Bool.{true, and-eq-true_iff}
use lib.Dec.{ltb}
use borrow.Author.Tests.{ltb-true}
use Rattle.xml_grammar.specs.of_utf8.Characters.{encode}
use Rattle.xml_grammar.specs.of_xml_chars.Bytes.{utf8}
use Rattle.xml_sound.proofs.Then.{Then, upto, take-char, take-byte, each}
use Rattle.xml_sound.proofs.Parts.{ascii}
use Rattle.xml_sound.proofs.Rests.{Spelt, spelt}

pub take-ascii : {P R : List ℕ → Type 0} (x : List ℕ) {u : List ℕ} → ascii x ≡ true → Then (λ s. P (x ++ s)) R u → Then P R (x ++ u)
take-ascii [] h r = r
take-ascii (b ∷ x) h r =
    let p = (and-eq-true_iff (ltb b 0x80) (ascii x)).0 h in
    take-byte b (ltb-true b 0x80 p.0) (take-ascii x p.1 r)

pub take-chars : {P R : List ℕ → Type 0} (x : List ℕ) {u : List ℕ} → Then (λ s. P (x ++ s)) R u → Then P R (utf8 x ++ u)
take-chars [] r = r
take-chars {P} {R} (c ∷ x) {u} r = subst (λ z. Then P R z) (sym (append_assoc (encode c) (utf8 x) u)) (take-char c (take-chars x r))

-- fixed bytes, and then P
pub spelt-then : {P Q R : List ℕ → Type 0} (x : List ℕ) {t : List ℕ} → ascii x ≡ true → ((s : List ℕ) → P s → Q (x ++ s)) → Spelt x (Then P R) t → Then Q R t
spelt-then {Q = Q} {R = R} x h f (spelt u e r) = subst (λ z. Then Q R z) (sym e) (take-ascii x h (each f r))

-- the bytes of characters, and then P
pub chars-then : {P Q R : List ℕ → Type 0} (x : List ℕ) {t : List ℕ} → ((s : List ℕ) → P s → Q (x ++ s)) → Spelt (utf8 x) (Then P R) t → Then Q R t
chars-then {Q = Q} {R = R} x f (spelt u e r) = subst (λ z. Then Q R z) (sym e) (take-chars x (each f r))

-- fixed bytes alone
pub spelt-last : {Q R : List ℕ → Type 0} (x : List ℕ) {t : List ℕ} → ascii x ≡ true → Q x → Spelt x R t → Then Q R t
spelt-last {Q} {R} x h q (spelt u e r) =
    subst (λ z. Then Q R z) (sym e) (take-ascii x h (upto [] u (subst Q (sym (append-nil x)) q) refl r))

-- a byte more
pub spelt-more : {R : List ℕ → Type 0} {x t : List ℕ} (b : ℕ) → Spelt x R t → Spelt (b ∷ x) R (b ∷ t)
spelt-more b (spelt u e r) = spelt u (ap (λ z. b ∷ z) e) r
