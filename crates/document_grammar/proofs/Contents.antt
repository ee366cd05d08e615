-- An escaped text before a content: runs of character data and references. Assumes nothing.
use Prim.Native.Nat.{ℕ, zero, suc, ◌*◌}
use mathlib.Core.Path.{◌≡◌, refl, sym, ap, ◌∙◌, subst}
use mathlib.Core.List.{List, [], ◌∷◌, ◌++◌, append_assoc, append-nil}
use mathlib.Core.Bool.{Bool, true, false, not, ◌&&◌, ◌||◌}
use borrow.Author.Tests.{not-true, ne_eqb, eqb-false}
use lib.Dec.{eqb}
use lib.ListN.{replicate}
use Rattle.document_events.specs.of_area.Answer.{gives}
use Rattle.xml_grammar.specs.of_names.Bytes.{bytes}
use Rattle.document_events.specs.of_utf8.Characters.{encode}
use Rattle.xml_grammar.specs.of_table.Event.{Event, Piece, Text, Ref}
use Rattle.document_events.specs.of_read_content.Content.{piece_of}
use Rattle.round_elements.specs.of_write_escape.Escape.{written, escaped}
use Rattle.round_elements.specs.of_write_spelled.Spelled.{newline}
use Rattle.document_events.proofs.of_tree_report.EncodeLists.{and_left, and_right}
use Rattle.document_events.specs.inside.Respelt.{is_white, run, Joins, no-piece, a_piece}
use Rattle.xml_grammar.specs.of_xml_chars.Chars.{crosses, is_in, any_char, begins}
use Rattle.xml_grammar.specs.of_xml_chars.Bytes.{utf8}
use Rattle.xml_grammar.proofs.of_xml_chars.Encoding.{utf8_append}
use Rattle.xml_grammar.specs.Grammar.{Many, no_char, a-char, Referred, lacks, in_data_of, CharData, data_of, reference, Element, Content, last-data, child, beside}
use Rattle.xml_grammar.specs.Events.{text_of, element_of, content_of}
use Rattle.document_grammar.proofs.Escapes.{calm, Stands, as-ref, as_is, stands, calm_piece}

pub many-append : {is : ℕ → Bool} (a b : List ℕ) → Many is a → Many is b → Many is (a ++ b)
many-append [] b no_char n = n
many-append (c ∷ a) b (a-char m ms) n = a-char m (many-append a b ms n)

-- ---- a calm run is character data
calm_in : (c : ℕ) → calm c ≡ true → (in_data_of c ≡ true) × (eqb c 0x3E ≡ false)
calm_in c e = (and_left (in_data_of c) (not (eqb c 0x3E)) e, not-true (eqb c 0x3E) (and_right (in_data_of c) (not (eqb c 0x3E)) e))

calm-many : (d : List ℕ) → Many calm d → Many in_data_of d
calm-many [] no_char = no_char
calm-many (c ∷ d) (a-char m ms) = a-char (calm_in c m).0 (calm-many d ms)

-- without `>` there is no `]]>`
no_end : (a b : Bool) → (a && (b && false)) ≡ false
no_end true true = refl
no_end true false = refl
no_end false b = refl

not-here : (c : ℕ) (d : List ℕ) → Many calm d → begins (bytes "]]>") (c ∷ d) ≡ false
not-here c [] no_char = and_no (eqb 0x5D c)
  where
    and_no : (a : Bool) → (a && false) ≡ false
    and_no true = refl
    and_no false = refl
not-here c (e ∷ []) (a-char m ms) = no_end (eqb 0x5D c) (eqb 0x5D e)
not-here c (e ∷ f ∷ d) (a-char m (a-char n ms)) = rw (angle f (calm_in f n).1) (no_end (eqb 0x5D c) (eqb 0x5D e))
  where
    angle : (x : ℕ) → eqb x 0x3E ≡ false → eqb 0x3E x ≡ false
    angle x h = ne_eqb 0x3E x (λ i. eqb-false x 0x3E h (sym i))

calm-lacks : (d : List ℕ) → Many calm d → lacks (bytes "]]>") d ≡ true
calm-lacks [] no_char = refl
calm-lacks (c ∷ d) (a-char m ms) = rw (not-here c d ms) (calm-lacks d ms)

pub calm_data : (d : List ℕ) → Many calm d → CharData d
calm_data d m = data_of (calm-many d m) (calm-lacks d m)

-- ---- newlines
abbrev blank : ℕ → Bool
blank b = eqb b 10 || eqb b 32

pub spaces-white : (n : ℕ) → is_white (replicate n 32) ≡ true
spaces-white zero = refl
spaces-white (suc n) = spaces-white n

pub newline-white : (l : ℕ) → is_white (newline l) ≡ true
newline-white l = spaces-white (l * 4)

spaces_calm : (n : ℕ) → Many calm (replicate n 32)
unfolding crosses
spaces_calm zero = no_char
spaces_calm (suc n) = a-char refl (spaces_calm n)

pub newline-calm : (l : ℕ) → Many calm (newline l)
unfolding crosses
newline-calm l = a-char refl (spaces_calm (l * 4))

spaces-same : (n : ℕ) → utf8 (replicate n 32) ≡ replicate n 32
unfolding encode
spaces-same zero = refl
spaces-same (suc n) = ap (λ x. 32 ∷ x) (spaces-same n)

pub newline-same : (l : ℕ) → utf8 (newline l) ≡ newline l
unfolding encode
newline-same l = ap (λ x. 10 ∷ x) (spaces-same (l * 4))

pub newline-run : (l : ℕ) → text_of (newline l) ≡ run (newline l)
newline-run l = ap (λ x. Piece Text x ∷ []) (newline-same l)

-- ---- what may follow a run of character data
abbrev pub Tail : List ℕ → List Event → Type 0
Tail t gs = (d : List ℕ) → Many calm d → (c : Content (d ++ t)) × (content_of c ≡ text_of d ++ gs)

pub tail_none : Tail [] []
unfolding content_of
tail_none d m = (last-data (calm_data (d ++ []) (many-append d [] m no_char)), ap text_of (append-nil d) ∙ sym (append-nil (text_of d)))

pub tail-child : {e t : List ℕ} (i : Element e) (c : Content t) → Tail (e ++ t) (element_of i ++ content_of c)
unfolding content_of
tail-child i c d m = (child (calm_data d m) i c refl, refl)

-- ---- pieces, and the text that they join to
pub joins_append : {ps qs : List Event} {v w : List ℕ} → Joins ps v → Joins qs w → Joins (ps ++ qs) (v ++ w)
joins_append no-piece j = j
joins_append {qs = qs} {w = w} (a_piece {k = k} {s = s} {v = v} {w = u} {ps = ps} e i) j =
    subst (Joins (Piece k s ∷ (ps ++ qs))) (sym (append_assoc v u w)) (a_piece e (joins_append i j))

pub joins-run : (d : List ℕ) → Many calm d → Joins (text_of d) (utf8 d)
joins-run [] no_char = no-piece
joins-run (c ∷ d) (a-char m ms) = subst (Joins (text_of (c ∷ d))) (append-nil (utf8 (c ∷ d))) (a_piece (calm_piece (c ∷ d) (a-char m ms)) no-piece)

-- a content whose first pieces join to v, before the events gs
pub record Begins (t v : List ℕ) (gs : List Event) : Type 0 where
  pub content : Content t
  pub pieces : List Event
  pub events : content_of content ≡ pieces ++ gs
  pub joins : Joins pieces v

from-run : {t : List ℕ} {gs : List Event} → Tail t gs → (d : List ℕ) → Many calm d → Begins (d ++ t) (utf8 d) gs
from-run f d m = let p = f d m in record { content = p.0; pieces = text_of d; events = p.1; joins = joins-run d m }

-- a reference behind a run
from-ref : (d : List ℕ) → Many calm d → (c : ℕ) (f : List ℕ) (n : List ℕ) → Referred n → piece_of Ref (utf8 n) ≡ gives (encode c) →
    f ≡ 0x26 ∷ (n ++ (0x3B ∷ [])) → {t v : List ℕ} {gs : List Event} → Begins t v gs → Begins (d ++ (f ++ t)) (utf8 d ++ (encode c ++ v)) gs
unfolding content_of
from-ref d m c f n r p e {t = t} {gs = gs} b = record {
  content = beside (calm_data d m) (reference r) b.content (ap (λ x. d ++ (x ++ t)) e);
  pieces = text_of d ++ (Piece Ref (utf8 n) ∷ b.pieces);
  events = ap (λ x. text_of d ++ (Piece Ref (utf8 n) ∷ x)) b.events ∙ sym (append_assoc (text_of d) (Piece Ref (utf8 n) ∷ b.pieces) gs);
  joins = joins_append (joins-run d m) (a_piece p b.joins);
}

module _ (w : List ℕ) (white : Many calm w) {t : List ℕ} {gs : List Event} (tail : Tail t gs) where
  -- the run so far is d; behind the text comes w, which joins its last run
  abbrev After : List ℕ → List ℕ → Type 0
  After d cs = Begins (d ++ (escaped cs ++ (w ++ t))) (utf8 d ++ (utf8 cs ++ utf8 w)) gs

  text-end : (d : List ℕ) → Many calm d → After d []
  text-end d m =
      subst (λ x. Begins x (utf8 d ++ utf8 w) gs) (append_assoc d w t)
      (subst (λ x. Begins ((d ++ w) ++ t) x gs) (utf8_append d w) (from-run tail (d ++ w) (many-append d w m white)))

  text-more : (d : List ℕ) → Many calm d → (c : ℕ) (cs : List ℕ) → is_in any_char c ≡ true → Stands c (written c) → ((x : List ℕ) → Many calm x → After x cs) → After d (c ∷ cs)
  text-more d m c cs i (as-ref n r p e) next =
      subst (λ x. Begins (d ++ x) (utf8 d ++ (utf8 (c ∷ cs) ++ utf8 w)) gs) (sym (append_assoc (written c) (escaped cs) (w ++ t)))
      (subst (λ x. Begins (d ++ (written c ++ (escaped cs ++ (w ++ t)))) (utf8 d ++ x) gs) (sym (append_assoc (encode c) (utf8 cs) (utf8 w)))
      (from-ref d m c (written c) n r p e (next [] no_char)))
  text-more d m c cs i (as_is k e) next =
      let b = next (d ++ (c ∷ [])) (many-append d (c ∷ []) m (a-char (k i).0 no_char)) in
      let x : (d ++ (c ∷ [])) ++ (escaped cs ++ (w ++ t)) ≡ d ++ ((written c ++ escaped cs) ++ (w ++ t)) =
      append_assoc d (c ∷ []) (escaped cs ++ (w ++ t)) ∙ ap (λ y. d ++ ((y ++ escaped cs) ++ (w ++ t))) (sym e) in
      let z : utf8 (d ++ (c ∷ [])) ++ (utf8 cs ++ utf8 w) ≡ utf8 d ++ (utf8 (c ∷ cs) ++ utf8 w) =
      ap (λ y. y ++ (utf8 cs ++ utf8 w)) (utf8_append d (c ∷ []))
      ∙ append_assoc (utf8 d) (utf8 (c ∷ [])) (utf8 cs ++ utf8 w)
      ∙ ap (λ y. utf8 d ++ (y ++ (utf8 cs ++ utf8 w))) (append-nil (encode c))
      ∙ ap (λ y. utf8 d ++ y) (sym (append_assoc (encode c) (utf8 cs) (utf8 w))) in
      subst (λ y. Begins y (utf8 d ++ (utf8 (c ∷ cs) ++ utf8 w)) gs) x (subst (λ y. Begins ((d ++ (c ∷ [])) ++ (escaped cs ++ (w ++ t))) y gs) z b)

  text-from : (cs : List ℕ) → Many (is_in any_char) cs → (d : List ℕ) → Many calm d → After d cs
  text-from [] no_char d m = text-end d m
  text-from (c ∷ cs) (a-char i is) d m = text-more d m c cs i (stands c) (text-from cs is)

  -- an escaped text and white space before a content
  pub prepend : (cs : List ℕ) → Many (is_in any_char) cs → Begins (escaped cs ++ (w ++ t)) (utf8 cs ++ utf8 w) gs
  prepend cs m = text-from cs m [] no_char
