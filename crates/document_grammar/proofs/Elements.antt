-- Elements as they are written, in the grammar, and their events as they come back. Assumes nothing.
use Prim.Native.Nat.{ℕ, ◌+◌, ◌-◌}
use mathlib.Core.Path.{◌≡◌, refl, sym, ap, ◌∙◌, subst}
use mathlib.Core.List.{List, [], ◌∷◌, ◌++◌, append_assoc, append-nil}
use mathlib.Core.Bool.{Bool, true, false}
use native.Mathlib.Omega.{arith}
use Rattle.document_events.specs.of_area.Answer.{gives}
use Rattle.xml_grammar.specs.of_names.Bytes.{bytes}
use Rattle.document_events.specs.of_utf8.Utf8 as bytewise
use Rattle.document_events.specs.of_utf8.Characters.{encode}
use Rattle.xml_grammar.specs.of_table.Event.{Attribute, Start, Empty, End, Text, Indent, Event, Tag, Piece}
use Rattle.document_events.specs.of_read_content.Content.{piece_of}
use Rattle.round_elements.specs.of_write_escape.Escape.{escaped}
use Rattle.round_elements.proofs.of_write_escape.Keeping.{utf8-escaped}
use Rattle.round_elements.proofs.of_write_back.Escaped.{refs-escaped, decoded-escaped}
use Rattle.round_elements.specs.of_write_spelled.Spelled.{newline, line, attributes_text, spelled}
use Rattle.document_events.specs.inside.Respelt.{is_white, run, Joins, Respelt, a-tag, a-text, indented}
use Rattle.xml_grammar.specs.of_xml_chars.Chars.{is_in, any_char}
use Rattle.xml_grammar.specs.of_xml_chars.Bytes.{utf8}
use Rattle.xml_grammar.proofs.of_xml_chars.Encoding.{utf8_append}
use Rattle.xml_grammar.specs.Grammar.{Many, no_char, Name, Attributes, Element, empty, pair, Content, last-data, child}
use Rattle.xml_grammar.specs.Events.{attributes_of, text_of, element_of, content_of}
use Rattle.document_grammar.proofs.Characters.{Spelt}
use Rattle.document_grammar.proofs.Escapes.{escaped-utf8, utf8-utf8}
use Rattle.document_grammar.proofs.Contents.{calm_data, newline-white, newline-calm, newline-same, newline-run, tail_none, tail-child, prepend}
use Rattle.document_grammar.proofs.Attributes.{Fits}

-- an element's events, where l elements are open around it
pub record Derives (l : ℕ) (es : List Event) : Type 0 where
  pub chars : List ℕ
  pub element : Element chars
  pub spelt : (b : Bool) (more : List Event) → spelled l b (es ++ more) ≡ line l b ++ (utf8 chars ++ spelled l true more)
  pub respelt : (fresh : Bool) (w : List ℕ) → is_white w ≡ true → {more gs : List Event} → Respelt false more gs → Respelt fresh (es ++ more) (run w ++ (element_of element ++ gs))

abbrev pub Whole : List Event → Type 0
Whole es = (l : ℕ) → Derives l es

-- what an element of level l holds, up to its End
pub record Ends (fresh : Bool) (l : ℕ) (es : List Event) : Type 0 where
  pub chars : List ℕ
  pub content : Content chars
  pub spelt : (n : List ℕ) (more : List Event) → spelled (l + 1) true (es ++ (Tag End n 0 [] ∷ more)) ≡ utf8 chars ++ (bytes "</" ++ (n ++ (bytes ">" ++ spelled l true more)))
  pub respelt : (n : List ℕ) {more gs : List Event} → Respelt false more gs → Respelt fresh (es ++ (Tag End n 0 [] ∷ more)) (content_of content ++ (Tag End n 0 [] ∷ gs))

-- elements in a row
pub data Kids : List Event → Type 0 where
  no-kid : Kids []
  a_kid : {es e fs : List Event} → Whole e → Kids fs → es ≡ e ++ fs → Kids es

lower : (l : ℕ) → l + 1 - 1 ≡ l
lower l = omega arith

-- ---- tags
module _ {nc ac : List ℕ} (i : Name nc) (a : Attributes ac) (e : attributes_text (attributes_of a) ≡ utf8 ac) (l : ℕ) where
  abbrev n : List ℕ
  n = utf8 nc

  abbrev xs : List ℕ
  xs = attributes_text (attributes_of a)

  empty-bytes : utf8 (0x3C ∷ (nc ++ (ac ++ (0x2F ∷ 0x3E ∷ [])))) ≡ 0x3C ∷ (n ++ (xs ++ (0x2F ∷ 0x3E ∷ [])))
  unfolding encode
  empty-bytes =
      ap (λ x. 0x3C ∷ x) (utf8_append nc (ac ++ (0x2F ∷ 0x3E ∷ [])) ∙ ap (λ x. n ++ x) (utf8_append ac (0x2F ∷ 0x3E ∷ []) ∙ ap (λ x. x ++ (0x2F ∷ 0x3E ∷ [])) (sym e)))

  empty-derives : Derives l (Tag Empty (utf8 nc) 0 (attributes_of a) ∷ [])
  unfolding spelled element_of content_of
  empty-derives = record {
    chars = 0x3C ∷ (nc ++ (ac ++ (0x2F ∷ 0x3E ∷ [])));
    element = empty i a refl;
    spelt = λ b more.
        ap (λ x. line l b ++ x)
        (sym (ap (λ x. x ++ spelled l true more) empty-bytes
        ∙ ap (λ x. 0x3C ∷ x) (append_assoc n (xs ++ (0x2F ∷ 0x3E ∷ [])) (spelled l true more)
        ∙ ap (λ x. n ++ x) (append_assoc xs (0x2F ∷ 0x3E ∷ []) (spelled l true more)))));
    respelt = λ fresh w h r. a-tag w 0 h r refl;
  }

  -- `<n..>content</n>`
  abbrev paired : List ℕ → List ℕ → List ℕ → List ℕ → List ℕ
  paired m b c z = 0x3C ∷ (m ++ (b ++ (0x3E ∷ (c ++ (0x3C ∷ 0x2F ∷ (m ++ (0x3E ∷ z)))))))

  paired_on : (m b c z : List ℕ) → paired m b c [] ++ z ≡ paired m b c z
  paired_on m b c z = simp append_assoc

  paired-bytes : (c : List ℕ) → utf8 (paired nc ac c []) ≡ paired n xs (utf8 c) []
  unfolding encode
  paired-bytes c =
      ap (λ x. 0x3C ∷ x)
      (utf8_append nc (ac ++ (0x3E ∷ (c ++ (0x3C ∷ 0x2F ∷ (nc ++ (0x3E ∷ []))))))
      ∙ ap (λ x. n ++ x) (utf8_append ac (0x3E ∷ (c ++ (0x3C ∷ 0x2F ∷ (nc ++ (0x3E ∷ [])))))
      ∙ ap (λ x. utf8 ac ++ (0x3E ∷ x)) (utf8_append c (0x3C ∷ 0x2F ∷ (nc ++ (0x3E ∷ [])))
      ∙ ap (λ x. utf8 c ++ (0x3C ∷ 0x2F ∷ x)) (utf8_append nc (0x3E ∷ [])))
      ∙ ap (λ x. x ++ (0x3E ∷ (utf8 c ++ (0x3C ∷ 0x2F ∷ (n ++ (0x3E ∷ [])))))) (sym e)))

  module _ {es : List Event} (t : Ends true l es) where
    inner : (more : List Event) → spelled (l + 1) true ((es ++ (Tag End n 0 [] ∷ [])) ++ more) ≡ utf8 t.chars ++ (0x3C ∷ 0x2F ∷ (n ++ (0x3E ∷ spelled l true more)))
    inner more = ap (spelled (l + 1) true) (append_assoc es (Tag End n 0 [] ∷ []) more) ∙ t.spelt n more

    pair-derives : Derives l (Tag Start (utf8 nc) 0 (attributes_of a) ∷ (es ++ (Tag End (utf8 nc) 0 [] ∷ [])))
    unfolding spelled element_of content_of
    pair-derives = record {
      chars = paired nc ac t.chars [];
      element = pair {w = []} i a t.content no_char refl;
      spelt = λ b more.
          ap (λ x. line l b ++ x)
          (ap (λ x. 0x3C ∷ (n ++ (xs ++ (0x3E ∷ x)))) (inner more)
          ∙ sym (ap (λ x. x ++ spelled l true more) (paired-bytes t.chars) ∙ paired_on n xs (utf8 t.chars) (spelled l true more)));
      respelt = λ fresh w h {more} {gs} r.
          a-tag w 0 h (subst (λ x. Respelt true x (content_of t.content ++ (Tag End n 0 [] ∷ gs))) (sym (append_assoc es (Tag End n 0 [] ∷ []) more)) (t.respelt n r))
          (ap (λ x. run w ++ (Tag Start n 0 (attributes_of a) ∷ x)) (append_assoc (content_of t.content) (Tag End n 0 [] ∷ []) gs));
    }

-- ---- what is between the tags
bytes-3 : (a b c z : List ℕ) → utf8 (a ++ (b ++ c)) ++ z ≡ utf8 a ++ (utf8 b ++ (utf8 c ++ z))
bytes-3 a b c z = simp (utf8_append, append_assoc)

module _ (n : List ℕ) (more : List Event) where
  abbrev shut : ℕ → List ℕ
  shut l = bytes "</" ++ (n ++ (bytes ">" ++ spelled l true more))

none-ends : (fresh : Bool) (l : ℕ) → Ends fresh l []
unfolding spelled content_of
none-ends fresh l = record {
  chars = newline l;
  content = last-data (calm_data (newline l) (newline-calm l));
  spelt = λ n more. ap (λ k. newline k ++ shut n more k) (lower l) ∙ ap (λ x. x ++ shut n more l) (sym (newline-same l));
  respelt = λ n {more} {gs} r. a-tag (newline l) 0 (newline-white l) r (ap (λ x. x ++ (Tag End n 0 [] ∷ gs)) (newline-run l));
}

module _ (fresh : Bool) (l : ℕ) {e fs : List Event} (d : Derives (l + 1) e) (r : Ends false l fs) where
  kid-ends : Ends fresh l (e ++ fs)
  unfolding content_of
  kid-ends = record {
    chars = newline (l + 1) ++ (d.chars ++ r.chars);
    content = child (calm_data (newline (l + 1)) (newline-calm (l + 1))) d.element r.content refl;
    spelt = λ n more.
        ap (spelled (l + 1) true) (append_assoc e fs (Tag End n 0 [] ∷ more))
        ∙ d.spelt true (fs ++ (Tag End n 0 [] ∷ more))
        ∙ ap (λ x. newline (l + 1) ++ (utf8 d.chars ++ x)) (r.spelt n more)
        ∙ ap (λ x. x ++ (utf8 d.chars ++ (utf8 r.chars ++ shut n more l))) (sym (newline-same (l + 1)))
        ∙ sym (bytes-3 (newline (l + 1)) d.chars r.chars (shut n more l));
    respelt = λ n {more} {gs} x.
        subst (λ y. Respelt fresh y ((text_of (newline (l + 1)) ++ (element_of d.element ++ content_of r.content)) ++ (Tag End n 0 [] ∷ gs))) (sym (append_assoc e fs (Tag End n 0 [] ∷ more)))
        (subst (Respelt fresh (e ++ (fs ++ (Tag End n 0 [] ∷ more))))
        (sym (ap (λ y. (y ++ (element_of d.element ++ content_of r.content)) ++ (Tag End n 0 [] ∷ gs)) (newline-run (l + 1))
        ∙ append_assoc (run (newline (l + 1))) (element_of d.element ++ content_of r.content) (Tag End n 0 [] ∷ gs)
        ∙ ap (λ y. run (newline (l + 1)) ++ y) (append_assoc (element_of d.element) (content_of r.content) (Tag End n 0 [] ∷ gs))))
        (d.respelt fresh (newline (l + 1)) (newline-white (l + 1)) (r.respelt n x)));
  }

pub kids-end : {es : List Event} → Kids es → (fresh : Bool) (l : ℕ) → Ends fresh l es
kids-end no-kid fresh l = none-ends fresh l
kids-end (a_kid w k q) fresh l = subst (Ends fresh l) (sym q) (kid-ends fresh l (w (l + 1)) (kids-end k false l))

-- ---- text
piece-escaped : (t : List ℕ) → bytewise.utf8 t ≡ true → piece_of Text (escaped t) ≡ gives t
unfolding piece_of
piece-escaped t u = rw (utf8-escaped t, u, refs-escaped t, decoded-escaped t) refl

module _ (cs : List ℕ) (m : Many (is_in any_char) cs) (l : ℕ) where
  abbrev t : List ℕ
  t = utf8 cs

  given : piece_of Text (escaped t) ≡ gives t
  given = piece-escaped t (utf8-utf8 cs)

  text-ends : Ends true l (Piece Text (escaped (utf8 cs)) ∷ [])
  unfolding spelled content_of
  text-ends =
      let b = prepend [] no_char tail_none cs m in record {
        chars = escaped cs ++ [];
        content = b.content;
        spelt = λ n more. ap (λ k. escaped t ++ shut n more k) (lower l) ∙ ap (λ x. x ++ shut n more l) (escaped-utf8 cs m ∙ ap utf8 (sym (append-nil (escaped cs))));
        respelt = λ n {more} {gs} r.
            a-text given (subst (Joins b.pieces) (append-nil t) b.joins) (a-tag [] 0 refl r refl)
            (ap (λ x. x ++ (Tag End n 0 [] ∷ gs)) (b.events ∙ append-nil b.pieces));
      }

  -- an Indent's newline joins the text before it
  module _ {e fs : List Event} (d : Derives (l + 1) e) (r : Ends false l fs) where
    abbrev nl : List ℕ
    nl = newline (l + 1)

    bytes_4 : (a b c f z : List ℕ) → utf8 (a ++ (b ++ (c ++ f))) ++ z ≡ utf8 a ++ (utf8 b ++ (utf8 c ++ (utf8 f ++ z)))
    bytes_4 a b c f z = simp (utf8_append, append_assoc)

    both_ends : Ends true l (Piece Text (escaped (utf8 cs)) ∷ Piece Indent (10 ∷ []) ∷ (e ++ fs))
    unfolding spelled content_of
    both_ends =
        let b = prepend nl (newline-calm (l + 1)) (tail-child d.element r.content) cs m in record {
          chars = escaped cs ++ (nl ++ (d.chars ++ r.chars));
          content = b.content;
          spelt = λ n more.
              ap (λ x. escaped t ++ (nl ++ x))
              (ap (spelled (l + 1) false) (append_assoc e fs (Tag End n 0 [] ∷ more))
              ∙ d.spelt false (fs ++ (Tag End n 0 [] ∷ more)) ∙ ap (λ x. utf8 d.chars ++ x) (r.spelt n more))
              ∙ ap (λ x. x ++ (nl ++ (utf8 d.chars ++ (utf8 r.chars ++ shut n more l)))) (escaped-utf8 cs m)
              ∙ ap (λ x. utf8 (escaped cs) ++ (x ++ (utf8 d.chars ++ (utf8 r.chars ++ shut n more l)))) (sym (newline-same (l + 1)))
              ∙ sym (bytes_4 (escaped cs) nl d.chars r.chars (shut n more l));
          respelt = λ n {more} {gs} x.
              indented nl given (newline-white (l + 1)) (subst (λ y. Joins b.pieces (t ++ y)) (newline-same (l + 1)) b.joins)
              (subst (λ y. Respelt false y (element_of d.element ++ (content_of r.content ++ (Tag End n 0 [] ∷ gs)))) (sym (append_assoc e fs (Tag End n 0 [] ∷ more)))
              (d.respelt false [] refl (r.respelt n x)))
              (ap (λ y. y ++ (Tag End n 0 [] ∷ gs)) b.events
              ∙ append_assoc b.pieces (element_of d.element ++ content_of r.content) (Tag End n 0 [] ∷ gs)
              ∙ ap (λ y. b.pieces ++ y) (append_assoc (element_of d.element) (content_of r.content) (Tag End n 0 [] ∷ gs)));
        }

-- ---- elements by name, attributes and text
module _ {n : List ℕ} (name : Spelt Name n) {xs : List Attribute} (fits : Fits xs) where
  taken : attributes_text (attributes_of fits.attributes) ≡ utf8 fits.chars
  taken = ap attributes_text fits.same ∙ fits.spelt

  pub whole-empty : Whole (Tag Empty n 0 xs ∷ [])
  whole-empty l =
      subst (λ m. Derives l (Tag Empty m 0 xs ∷ [])) (sym name.same)
      (subst (λ ys. Derives l (Tag Empty (utf8 name.chars) 0 ys ∷ [])) fits.same (empty-derives name.are fits.attributes taken l))

  whole_of : {es : List Event} (l : ℕ) → Ends true l es → Derives l (Tag Start n 0 xs ∷ (es ++ (Tag End n 0 [] ∷ [])))
  whole_of {es = es} l k =
      subst (λ m. Derives l (Tag Start m 0 xs ∷ (es ++ (Tag End m 0 [] ∷ [])))) (sym name.same)
      (subst (λ ys. Derives l (Tag Start (utf8 name.chars) 0 ys ∷ (es ++ (Tag End (utf8 name.chars) 0 [] ∷ [])))) fits.same
      (pair-derives name.are fits.attributes taken l k))

  pub whole-kids : {es : List Event} → Kids es → Whole (Tag Start n 0 xs ∷ (es ++ (Tag End n 0 [] ∷ [])))
  whole-kids k l = whole_of l (kids-end k true l)

  module _ {t : List ℕ} (text : Spelt (Many (is_in any_char)) t) where
    pub whole-text : Whole (Tag Start n 0 xs ∷ Piece Text (escaped t) ∷ Tag End n 0 [] ∷ [])
    whole-text l = subst (λ s. Derives l (Tag Start n 0 xs ∷ Piece Text (escaped s) ∷ Tag End n 0 [] ∷ [])) (sym text.same) (whole_of l (text-ends text.chars text.are l))

    pub whole-both : {es e fs : List Event} → Whole e → Kids fs → es ≡ e ++ fs → Whole (Tag Start n 0 xs ∷ Piece Text (escaped t) ∷ Piece Indent (10 ∷ []) ∷ (es ++ (Tag End n 0 [] ∷ [])))
    whole-both {es = es} w k q l =
        subst (λ s. Derives l (Tag Start n 0 xs ∷ Piece Text (escaped s) ∷ Piece Indent (10 ∷ []) ∷ (es ++ (Tag End n 0 [] ∷ [])))) (sym text.same)
        (subst (λ ys. Derives l (Tag Start n 0 xs ∷ Piece Text (escaped (utf8 text.chars)) ∷ Piece Indent (10 ∷ []) ∷ (ys ++ (Tag End n 0 [] ∷ [])))) (sym q)
        (whole_of l (both_ends text.chars text.are l (w (l + 1)) (kids-end k false l))))

-- ---- rows of elements
pub kids-one : {e : List Event} → Whole e → Kids e
kids-one {e = e} w = a_kid w no-kid (sym (append-nil e))

pub kids_append : {es fs : List Event} → Kids es → Kids fs → Kids (es ++ fs)
kids_append no-kid k = k
kids_append {fs = fs} (a_kid {e = e} {fs = gs} w j q) k = a_kid w (kids_append j k) (ap (λ x. x ++ fs) q ∙ append_assoc e gs fs)
