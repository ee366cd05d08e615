-- Pieces of text, and what lies before a closing mark. Assumes nothing.
use Prim.Native.Nat.{ℕ, ◌-◌, ◌<◌}
use mathlib.Core.Path.{◌≡◌, refl, sym, ap, ◌∙◌}
use mathlib.Core.List.{List, [], ◌∷◌, ◌++◌, append_assoc, append-nil}
use mathlib.Core.Bool.{Bool, true}
use native.Mathlib.Omega.{arith}
use native.Mathlib.Decide.{dec_lt}
use lib.ListN.{length, take, length-append}
use Rattle.xml_grammar.specs.of_utf8.Characters.{encode, is_scalar}
use Rattle.xml_grammar.specs.of_table.Event as table
use Rattle.xml_grammar.specs.of_table.Event.{Piece, Text, Other}
use Rattle.xml_grammar.specs.of_xml_chars.Bytes.{utf8}
use Rattle.xml_grammar.proofs.of_xml_chars.Encoding.{encode-1, encode-2, encode-3, encode-4}
use Rattle.xml_grammar.specs.Grammar.{Many, no_char, a-char}
use Rattle.xml_grammar.specs.Events.{text_of}
use Rattle.xml_machine.specs.State as state
use Rattle.xml_machine.specs.State.{State, Stay, Comment, Pi, CData}
use Rattle.xml_machine.specs.Machine.{step}
use Rattle.xml_machine.specs.inside.Saying.{less, text_said}
use Rattle.xml_complete.proofs.Reading.{Tells, tells-byte}

take-front : (x y : List ℕ) → take (length x) (x ++ y) ≡ x
take-front [] y = refl
take-front (a ∷ x) y = ap (λ z. a ∷ z) (take-front x y)

less-front : (k : ℕ) (x y : List ℕ) → length y ≡ k → less k (x ++ y) ≡ x
less-front k x y e =
    let p : length (x ++ y) - k ≡ length x = omega (arith, length-append x y) in
    ap (λ n. take n (x ++ y)) p ∙ take-front x y

pub tells-stay : {s u : State} {c : ℕ} {m : List ℕ} → c < 0x80 → step s c ≡ state.go Stay u → Tells s m (c ∷ []) u (m ++ (c ∷ [])) []
tells-stay {c = c} h e = tells-byte h e (λ d i. (ap (λ x. x ++ (c ∷ [])) i, sym (append-nil d.events)))

-- a closing mark's last byte, where two others of it stand
two-less : (x : List ℕ) (a b : ℕ) → less 2 ((x ++ (a ∷ [])) ++ (b ∷ [])) ≡ x
two-less x a b = ap (λ z. less 2 z) (append_assoc x (a ∷ []) (b ∷ [])) ∙ less-front 2 x (a ∷ b ∷ []) refl

pub tells-comment : {s u : State} (x : List ℕ) (a b : ℕ) {c : ℕ} → c < 0x80 → step s c ≡ state.go Comment u → Tells s ((x ++ (a ∷ [])) ++ (b ∷ [])) (c ∷ []) u [] (Piece Other x ∷ [])
tells-comment x a b h e =
    tells-byte h e (λ d i. (refl, ap (λ z. d.events ++ (Piece Other (less 2 z) ∷ [])) i ∙ ap (λ z. d.events ++ (Piece Other z ∷ [])) (two-less x a b)))

pub tells-section : {s u : State} (x : List ℕ) (a b : ℕ) {c : ℕ} → c < 0x80 → step s c ≡ state.go CData u → Tells s ((x ++ (a ∷ [])) ++ (b ∷ [])) (c ∷ []) u [] (Piece table.CData x ∷ [])
tells-section x a b h e =
    tells-byte h e (λ d i. (refl, ap (λ z. d.events ++ (Piece table.CData (less 2 z) ∷ [])) i ∙ ap (λ z. d.events ++ (Piece table.CData z ∷ [])) (two-less x a b)))

pub tells-instruction : {s u : State} (x : List ℕ) (a : ℕ) {c : ℕ} → c < 0x80 → step s c ≡ state.go Pi u → Tells s (x ++ (a ∷ [])) (c ∷ []) u [] (Piece Other x ∷ [])
tells-instruction x a h e =
    tells-byte h e (λ d i. (refl, ap (λ z. d.events ++ (Piece Other (less 1 z) ∷ [])) i ∙ ap (λ z. d.events ++ (Piece Other z ∷ [])) (less-front 1 x (a ∷ []) refl)))

-- a character has bytes
said-char : (c : ℕ) (r : List ℕ) → is_scalar c ≡ true → text_said (encode c ++ r) ≡ Piece Text (encode c ++ r) ∷ []
said-char c r s = by_width (dec_lt c 0x80) (dec_lt c 0x800) (dec_lt c 0x10000)
  where
    by_width : Dec (c < 0x80) → Dec (c < 0x800) → Dec (c < 0x10000) → text_said (encode c ++ r) ≡ Piece Text (encode c ++ r) ∷ []
    by_width (yes p) q z = rw (encode-1 c p) refl
    by_width (no p) (yes q) z = rw (encode-2 c (omega arith) q) refl
    by_width (no p) (no q) (yes z) = rw (encode-3 c s (omega arith) z) refl
    by_width (no p) (no q) (no z) = rw (encode-4 c s (omega arith)) refl

pub text-said : {is : ℕ → Bool} → ((c : ℕ) → is c ≡ true → is_scalar c ≡ true) → {s : List ℕ} → Many is s → text_said (utf8 s) ≡ text_of s
text-said f no_char = refl
text-said f (a-char {c = c} {s = s} e h) = said-char c (utf8 s) (f c e)
