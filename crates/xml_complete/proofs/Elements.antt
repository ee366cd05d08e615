-- Elements and their content. Assumes nothing.
use Prim.Native.Nat.{ℕ}
use mathlib.Core.Path.{◌≡◌, refl, sym, ap, ◌∙◌, subst}
use mathlib.Core.List.{List, [], ◌∷◌, ◌++◌, append_assoc}
use native.Mathlib.Omega.{arith}
use Rattle.xml_grammar.specs.of_table.Event as table
use Rattle.xml_grammar.specs.of_table.Event.{Event, Tag, Piece}
use Rattle.xml_grammar.specs.of_xml_chars.Bytes.{utf8, whole}
use Rattle.xml_grammar.proofs.of_xml_chars.CharLaws.{in-scalar}
use Rattle.xml_grammar.specs.Grammar as grammar
use Rattle.xml_grammar.specs.Grammar.{data_of, Beside, reference, aside, Element, empty, pair, Content, last-data, child, beside}
use Rattle.xml_grammar.specs.Events.{text_of, beside_of, element_of, content_of, attributes_of}
use Rattle.xml_machine.specs.State as state
use Rattle.xml_machine.specs.State.{State, literal, text, lt, misc, section, ref, Stay, TextMark, Brackets, b0, b2, Place, inside, bang, ampersand, content, to_section}
use Rattle.xml_machine.specs.Machine.{in_text, in_section, in_misc, shut, step}
use Rattle.xml_machine.specs.inside.Saying.{text_said}
use Rattle.xml_complete.proofs.Reading.{Reads, reads_none, reads_byte, Tells, tells-then, tells-reads, tells-byte, tells-mark, tells-text, tells-text-mark}
use Rattle.xml_complete.proofs.Names.{Begins, within}
use Rattle.xml_complete.proofs.References.{referred-reads, refers-end}
use Rattle.xml_complete.proofs.TagsTold.{start-tells, empty-tells, end-tells}
use Rattle.xml_complete.proofs.Pieces.{tells-stay, tells-section, text-said}
use Rattle.xml_complete.proofs.CharacterData.{data-char, text-reads, section-reads, section-bracket, section-brackets}
use Rattle.xml_complete.proofs.Literals.{literal-step, literal-last}
use Rattle.xml_complete.proofs.Comments.{Opens, in-text, opens-step, opens-bang}
use Rattle.xml_complete.proofs.Instructions.{misc-tells}

-- ---- beside elements
pub ampersand-opens : (k : Brackets) (n : List ℕ) (ns : List (List ℕ)) → step (text k whole n ns) 0x26 ≡ state.go TextMark (ref ampersand whole (content n ns))
unfolding step in_text
ampersand-opens k n ns = refl

bracket-opens : (n : List ℕ) (ns : List (List ℕ)) →
    step (misc bang whole (inside n ns)) 0x5B ≡ state.go Stay (literal 0x43 (0x44 ∷ 0x41 ∷ 0x54 ∷ 0x41 ∷ 0x5B ∷ []) (to_section n ns))
unfolding step in_misc
bracket-opens n ns = refl

pub section-ends : (n : List ℕ) (ns : List (List ℕ)) → step (section b2 whole n ns) 0x3E ≡ state.go state.CData (text b0 whole n ns)
unfolding step in_section
section-ends n ns = refl

pub opening-reads : (n : List ℕ) (ns : List (List ℕ)) → Reads (lt (inside n ns)) (0x21 ∷ 0x5B ∷ 0x43 ∷ 0x44 ∷ 0x41 ∷ 0x54 ∷ 0x41 ∷ []) (literal 0x5B [] (to_section n ns))
opening-reads n ns =
    reads_byte (omega arith) (opens-bang (in-text {k = b0}))
    (reads_byte (omega arith) (bracket-opens n ns)
    (reads_byte (omega arith) (literal-step 0x43 0x44 _ (to_section n ns))
    (reads_byte (omega arith) (literal-step 0x44 0x41 _ (to_section n ns))
    (reads_byte (omega arith) (literal-step 0x41 0x54 _ (to_section n ns))
    (reads_byte (omega arith) (literal-step 0x54 0x41 _ (to_section n ns))
    (reads_byte (omega arith) (literal-step 0x41 0x5B _ (to_section n ns)) reads_none))))))

pub beside-tells : {e : List ℕ} (h : Beside e) (k : Brackets) (n : List ℕ) (ns : List (List ℕ)) {m : List ℕ} →
    Tells (text k whole n ns) m e (text b0 whole n ns) [] (text_said m ++ (beside_of h ∷ []))
beside-tells (reference r) k n ns =
    let p = referred-reads r (content n ns) in
    tells-then (tells-text-mark (omega arith) (ampersand-opens k n ns))
    (tells-then {m = []} (tells-reads p.2)
    (tells-byte (omega arith) (refers-end p.1 (content n ns)) (λ d i. (refl, ap (λ x. d.events ++ (Piece table.Ref x ∷ [])) i))))
beside-tells (grammar.section {s = s} c l) k n ns =
    let p = section-reads c l n ns in
    tells-then (tells-text (omega arith) (opens-step in-text))
    (tells-then (tells-reads (opening-reads n ns))
    (tells-then (tells-mark (omega arith) (literal-last 0x5B (to_section n ns)))
    (tells-then {m = []} (tells-reads p.1)
    (tells-then (tells-stay (omega arith) (section-bracket n ns p.0))
    (tells-then (tells-stay (omega arith) (section-brackets p.0 n ns)) (tells-section (utf8 s) 0x5D 0x5D (omega arith) (section-ends n ns)))))))
beside-tells (aside h) k n ns = misc-tells in-text h

-- ---- events that come behind each other, the last text not yet told
-- the characters lead to a place of a kind, and with the text that stands there they tell these events
pub record Stretch (s : State) (cs : List ℕ) (At : State → Type 0) (evs : List Event) : Type 0 where
  pub state : State
  pub place : At state
  pub mark : List ℕ
  pub events : List Event
  pub tells : Tells s [] cs state mark events
  pub all : events ++ text_said mark ≡ evs

pub tells-these : {s u : State} {m k cs : List ℕ} {es fs : List Event} → es ≡ fs → Tells s m cs u k es → Tells s m cs u k fs
tells-these {s = s} {u = u} {m = m} {k = k} {cs = cs} e h = subst (λ z. Tells s m cs u k z) e h

pub joined : {a d g : List Event} (b c x : List Event) → a ≡ d → c ++ x ≡ g → ((a ++ b) ++ c) ++ x ≡ d ++ (b ++ g)
joined {a = a} {g = g} b c x e f =
    append_assoc (a ++ b) c x ∙ ap (λ z. (a ++ b) ++ z) f ∙ append_assoc a b g ∙ ap (λ z. z ++ (b ++ g)) e

data-said : {s : List ℕ} → grammar.Many grammar.in_data_of s → text_said (utf8 s) ≡ text_of s
data-said h = text-said (λ c m. in-scalar c (data-char c m)) h

abbrev Within : List ℕ → List (List ℕ) → State → Type 0
Within n ns u = Opens u (lt (inside n ns)) (inside n ns)

mutual
  unfolding element_of content_of

  pub element-tells : {e : List ℕ} (h : Element e) → {s v : State} {pl : Place} {ns : List (List ℕ)} → Opens s v pl → Begins v ns → {m : List ℕ} →
      Tells s m e (shut ns) [] (text_said m ++ element_of h)
  element-tells (empty {n = n} {a = a} i h q) {s = s} {ns = ns} o b {m = m} =
      subst (λ z. Tells s m z (shut ns) [] (text_said m ++ (Tag table.Empty (utf8 n) 0 (attributes_of h) ∷ []))) (sym q)
      (tells-then (tells-text (omega arith) (opens-step o)) (empty-tells b i h))
  element-tells (pair {n = n} {a = a} {c = c} {w = w} i h j k q) {s = s} {ns = ns} o b {m = m} =
      let p = content-tells j (utf8 n) ns in
      let t : List Event = Tag table.End (utf8 n) 0 [] ∷ [] in
      let f : p.events ++ (text_said p.mark ++ t) ≡ content_of j ++ t = sym (append_assoc p.events (text_said p.mark) t) ∙ ap (λ z. z ++ t) p.all in
      subst (λ z. Tells s m z (shut ns) [] (text_said m ++ (Tag table.Start (utf8 n) 0 (attributes_of h) ∷ (content_of j ++ t)))) (sym q)
      (tells-then (tells-text (omega arith) (opens-step o))
      (start-tells b i h (tells-these f (tells-then p.tells (tells-then (tells-text (omega arith) (opens-step p.place)) (end-tells n k ns))))))

  pub content-tells : {c : List ℕ} (h : Content c) (n : List ℕ) (ns : List (List ℕ)) → Stretch (text b0 whole n ns) c (Within n ns) (content_of h)
  content-tells (last-data {s = s} (data_of h f)) n ns =
      let p = text-reads h f n ns in
      record { state = text p.0 whole n ns; place = in-text; mark = utf8 s; events = []; tells = tells-reads p.1; all = data-said h }
  content-tells (child {d = d} {e = e} {c = c} (data_of h f) i j q) n ns =
      let p = text-reads h f n ns in
      let r = content-tells j n ns in
      record {
        state = r.state;
        place = r.place;
        mark = r.mark;
        events = (text_said (utf8 d) ++ element_of i) ++ r.events;
        tells = subst (λ z. Tells (text b0 whole n ns) [] z r.state r.mark ((text_said (utf8 d) ++ element_of i) ++ r.events)) (sym q)
            (tells-then {m = []} (tells-reads p.1) (tells-then (element-tells i (in-text {k = p.0}) within) r.tells));
        all = joined (element_of i) r.events (text_said r.mark) (data-said h) r.all;
      }
  content-tells (beside {d = d} {e = e} {c = c} (data_of h f) i j q) n ns =
      let p = text-reads h f n ns in
      let r = content-tells j n ns in
      record {
        state = r.state;
        place = r.place;
        mark = r.mark;
        events = (text_said (utf8 d) ++ (beside_of i ∷ [])) ++ r.events;
        tells = subst (λ z. Tells (text b0 whole n ns) [] z r.state r.mark ((text_said (utf8 d) ++ (beside_of i ∷ [])) ++ r.events)) (sym q)
            (tells-then {m = []} (tells-reads p.1) (tells-then (beside-tells i p.0 n ns) r.tells));
        all = joined (beside_of i ∷ []) r.events (text_said r.mark) (data-said h) r.all;
      }
