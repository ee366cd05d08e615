-- An element from the bytes behind its `<`. Assumes nothing.
use Prim.Native.Nat.{ℕ, ◌<◌}
use mathlib.Core.Path.{◌≡◌, refl, sym, ap, ◌∙◌, subst}
use mathlib.Core.List.{List, [], ◌∷◌, ◌++◌, append_assoc}
use mathlib.Core.Bool.{true}
use Rattle.xml_grammar.specs.of_utf8.Characters.{encode}
use Rattle.xml_grammar.specs.of_xml_chars.Chars.{is_in, name_start}
use Rattle.xml_grammar.specs.of_xml_chars.Bytes.{utf8}
use Rattle.xml_grammar.proofs.of_xml_chars.CharLaws.{start-scalar}
use Rattle.xml_grammar.specs.Grammar.{Spaces, Name, name_of, data_of, Attributes, Element, empty, pair, Content, last-data, child, beside}
use Rattle.xml_machine.specs.State.{Here, Next, tag, name, b0}
use Rattle.xml_machine.specs.Machine.{char}
use Rattle.xml_sound.proofs.Then.{Then, both, onward}
use Rattle.xml_sound.proofs.Parts.{Closed, closed, Inner, final, again, aside}
use Rattle.xml_sound.proofs.Rests.{Spelt, spelt, Ending, InText, Shut, Opened, Body, alone, open-tag, InName, in-name}
use Rattle.xml_sound.proofs.Spelling.{spelt-then, spelt-last, chars-then, take-chars}
use Rattle.xml_sound.proofs.Leading.{Leads, char-back}

pub inner-content : {c : List ℕ} → Inner b0 c → Content c
inner-content (final h e) = last-data (data_of h e)
inner-content (again h e i n) = child (data_of h e) i n refl
inner-content (aside h e i n) = beside (data_of h e) i n refl

-- an end tag named n from its name, from its `<`; content before it; what follows the attributes of a tag named n
data EndOf (n : List ℕ) : List ℕ → Type 0 where
  end_of : {w : List ℕ} → Spaces w → EndOf n (n ++ (w ++ (0x3E ∷ [])))

data CloseOf (n : List ℕ) : List ℕ → Type 0 where
  close_of : {w : List ℕ} → Spaces w → CloseOf n (0x3C ∷ 0x2F ∷ (n ++ (w ++ (0x3E ∷ []))))

data PairOf (n : List ℕ) : List ℕ → Type 0 where
  pair_of : {c w : List ℕ} → Content c → Spaces w → PairOf n (c ++ (0x3C ∷ 0x2F ∷ (n ++ (w ++ (0x3E ∷ [])))))

data BodyOf (n : List ℕ) : List ℕ → Type 0 where
  alone_of : BodyOf n (0x2F ∷ 0x3E ∷ [])
  open_of : {c w : List ℕ} → Content c → Spaces w → BodyOf n (0x3E ∷ (c ++ (0x3C ∷ 0x2F ∷ (n ++ (w ++ (0x3E ∷ []))))))

end-chars : (n : List ℕ) {s : List ℕ} → Closed Spaces (0x3E ∷ []) s → EndOf n (n ++ s)
end-chars n (closed h) = end_of h

close-chars : {n s : List ℕ} → EndOf n s → CloseOf n (0x3C ∷ 0x2F ∷ s)
close-chars (end_of h) = close_of h

pair-chars : {n a b : List ℕ} → Inner b0 a → CloseOf n b → PairOf n (a ++ b)
pair-chars i (close_of h) = pair_of (inner-content i) h

open-chars : {n s : List ℕ} → PairOf n s → BodyOf n (0x3E ∷ s)
open-chars (pair_of c h) = open_of c h

-- the bytes, piece by piece from the end
close-then : (n : List ℕ) {R : List ℕ → Type 0} {t : List ℕ} → Spelt (0x3C ∷ 0x2F ∷ []) (Ending (utf8 n) R) t → Then (CloseOf n) R t
close-then n (spelt u e r) = spelt-then (0x3C ∷ 0x2F ∷ []) refl (λ s. close-chars) (spelt u e (chars-then n (λ s. end-chars n) r))

pair_then : (n : List ℕ) {R : List ℕ → Type 0} {t : List ℕ} → InText b0 (utf8 n) R t → Then (PairOf n) R t
pair_then n r = both (λ a b. pair-chars) (onward (λ u. close-then n) r)

body-then : (n : List ℕ) {R : List ℕ → Type 0} {t : List ℕ} → Body (utf8 n) R t → Then (BodyOf n) R t
body-then n (alone r) = spelt-last (0x2F ∷ 0x3E ∷ []) refl alone_of r
body-then n (open-tag (spelt u e r)) = spelt-then (0x3E ∷ []) refl (λ s. open-chars) (spelt u e (pair_then n r))

element-of : {n a b : List ℕ} → Name n → Attributes a → BodyOf n b → Element (0x3C ∷ (n ++ (a ++ b)))
element-of i h alone_of = empty i h refl
element-of i h (open_of c w) = pair i h c w refl

open-name : (c : ℕ) (R : List ℕ → Type 0) (v : List ℕ) → is_in name_start c ≡ true → InName (encode c) R v → Opened R (encode c ++ v)
open-name c R v m (in-name s u h e r) =
    subst (Opened R) (append_assoc (encode c) (utf8 s) u ∙ ap (λ z. encode c ++ z) (sym e))
    (take-chars (c ∷ s) (both (λ a b. element-of (name_of m h)) (onward (λ w. body-then (c ∷ s)) r)))

-- a name behind `<`
pub open-back : (P : List ℕ → Type 0) (ns : List (List ℕ)) → ((t : List ℕ) → Opened (Shut ns) t → P t) → (b : ℕ) (other : Next) → (b < 0x80 → Leads P b other) →
    Leads P b (char name_start b Here (λ p. tag name p (b ∷ []) ns) other)
open-back P ns f b other o =
    char-back P name_start start-scalar b Here (λ p. tag name p (b ∷ []) ns) (λ bs v. InName bs (Shut ns) v) (λ v r. r) (λ low l least t r. r)
    (λ c v i m r. f (encode c ++ v) (open-name c (Shut ns) v m r)) other o
