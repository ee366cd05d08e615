-- Elements and their content. Assumes nothing.
use Prim.Native.Nat.{ℕ, ◌+◌}
use mathlib.Core.Path.{◌≡◌, refl, sym, ap, ◌∙◌, subst}
use mathlib.Core.List.{List, [], ◌∷◌, ◌++◌, append_assoc, append-nil}
use native.Mathlib.Omega.{arith}
use lib.ListN.{length}
use Rattle.xml_tokens.specs.of_table.Kinds as kind
use Rattle.xml_tokens.specs.of_xml_chars.Bytes.{utf8, whole}
use Rattle.xml_tokens.specs.of_xml_grammar.Grammar.{data_of, Element, empty, pair, Content, last-data, child, beside}
use Rattle.xml_tokens.specs.of_xml_machine.State.{State, text, lt, b0, Place, inside}
use Rattle.xml_tokens.specs.of_xml_machine.Machine.{shut}
use Rattle.xml_tokens.specs.of_xml_machine.Tokens.{Rec}
use Rattle.xml_tokens.proofs.of_xml_complete.Names.{Begins, within}
use Rattle.xml_tokens.proofs.of_xml_complete.CharacterData.{text-reads}
use Rattle.xml_tokens.proofs.of_xml_complete.Comments.{Opens, in-text, opens-step}
use Rattle.xml_places.specs.Places.{size, tag_at, attributes_at, element_attributes, content_attributes, beside_at, element_at, content_at}
use Rattle.xml_places.proofs.Putting.{Puts, puts-long, puts_then, puts_these, puts-reads, puts-text, run_at}
use Rattle.xml_places.proofs.Markup.{run-data, puts-end, beside-puts}
use Rattle.xml_places.proofs.Tags.{name-long, start-puts, empty-puts, end-puts}

-- ---- records that come behind each other, the last text not yet put
-- the characters lead to a place of a kind, and with the text that stands there they put these records
pub record Stretch (s : State) (at : ℕ) (cs : List ℕ) (Is : State → Type 0) (evs xs : List Rec) : Type 0 where
  pub state : State
  pub place : Is state
  pub mark : ℕ
  pub to : ℕ
  pub events : List Rec
  pub puts : Puts s at at cs state mark to events xs
  pub all : events ++ run_at mark to ≡ evs

pub joined : {a d g : List Rec} (b c x : List Rec) → a ≡ d → c ++ x ≡ g → ((a ++ b) ++ c) ++ x ≡ d ++ (b ++ g)
joined {a = a} {g = g} b c x e f =
    append_assoc (a ++ b) c x ∙ ap (λ (z : List Rec). (a ++ b) ++ z) f ∙ append_assoc a b g ∙ ap (λ (z : List Rec). z ++ (b ++ g)) e

abbrev Within : List ℕ → List (List ℕ) → State → Type 0
Within n ns u = Opens u (lt (inside n ns)) (inside n ns)

mutual
  unfolding element_at content_at element_attributes content_attributes

  pub element-puts : {e : List ℕ} (h : Element e) → {s v : State} {pl : Place} {ns : List (List ℕ)} → Opens s v pl → Begins v ns → (x at : ℕ) →
      Puts s x at e (shut ns) (at + size e) (at + size e) (run_at x at ++ element_at at h) (element_attributes at h)
  element-puts (empty {n = n} {a = a} i h q) {s = s} {ns = ns} o b x at =
      let t : List Rec = tag_at kind.empty (at + 1) n (length (attributes_at (at + 1 + size n) h)) ∷ [] in
      subst (λ (z : List ℕ). Puts s x at z (shut ns) (at + size z) (at + size z) (run_at x at ++ t) (attributes_at (at + 1 + size n) h)) (sym q)
      (puts-end (puts_then (puts-text (omega arith) (opens-step o)) (empty-puts b i h (at + 1) (at + 1))))
  element-puts (pair {n = n} {a = a} {c = c} {w = w} i h j k q) {s = s} {ns = ns} o b x at =
      let to : ℕ = at + 1 + size n + size a + 1 in
      let p = content-puts j (utf8 n) ns to in
      let xs : List Rec = attributes_at (at + 1 + size n) h in
      let t : List Rec = tag_at kind.end (to + size c + 2) n 0 ∷ [] in
      let d : p.to ≡ at + 1 + size n + size a + 1 + size c = puts-long p.puts in
      let two : p.to + 1 + 1 ≡ at + 1 + size n + size a + 1 + size c + 2 = omega arith in
      let f : p.events ++ (run_at p.mark p.to ++ (tag_at kind.end (p.to + 1 + 1) n 0 ∷ [])) ≡ content_at to j ++ t =
      sym (append_assoc p.events (run_at p.mark p.to) (tag_at kind.end (p.to + 1 + 1) n 0 ∷ []))
      ∙ ap (λ (z : List Rec). z ++ (tag_at kind.end (p.to + 1 + 1) n 0 ∷ [])) p.all
      ∙ ap (λ (z : ℕ). content_at to j ++ (tag_at kind.end z n 0 ∷ [])) two in
      subst (λ (z : List ℕ). Puts s x at z (shut ns) (at + size z) (at + size z) (run_at x at ++ (tag_at kind.start (at + 1) n (length xs) ∷ (content_at to j ++ t))) (xs ++ content_attributes to j))
      (sym q)
      (puts-end
      (puts_then (puts-text (omega arith) (opens-step o))
      (start-puts b i h (at + 1) (at + 1)
      (puts_these f (append-nil (content_attributes to j))
      (puts_then p.puts (puts_then (puts-text (omega arith) (opens-step p.place)) (end-puts n (name-long b i) k ns (p.to + 1) (p.to + 1))))))))

  pub content-puts : {c : List ℕ} (h : Content c) (n : List ℕ) (ns : List (List ℕ)) (at : ℕ) → Stretch (text b0 whole n ns) at c (Within n ns) (content_at at h) (content_attributes at h)
  content-puts (last-data {s = s} (data_of h f)) n ns at =
      let p = text-reads h f n ns in
      record { state = text p.0 whole n ns; place = in-text; mark = at; to = at + size s; events = []; puts = puts-reads p.1; all = run-data h at (at + size s) refl }
  content-puts (child {d = d} {e = e} {c = c} (data_of h f) i j q) n ns at =
      let p = text-reads h f n ns in
      let r = content-puts j n ns (at + size d + size e) in
      let es : List Rec = (run_at at (at + size d) ++ element_at (at + size d) i) ++ r.events in
      let xs : List Rec = element_attributes (at + size d) i ++ content_attributes (at + size d + size e) j in
      record {
        state = r.state;
        place = r.place;
        mark = r.mark;
        to = r.to;
        events = es;
        puts = subst (λ (z : List ℕ). Puts (text b0 whole n ns) at at z r.state r.mark r.to es xs) (sym q)
            (puts_then (puts-reads p.1) (puts_then (element-puts i (in-text {k = p.0}) within at (at + size d)) r.puts));
        all = joined (element_at (at + size d) i) r.events (run_at r.mark r.to) (run-data h at (at + size d) refl) r.all;
      }
  content-puts (beside {d = d} {e = e} {c = c} (data_of h f) i j q) n ns at =
      let p = text-reads h f n ns in
      let r = content-puts j n ns (at + size d + size e) in
      let es : List Rec = (run_at at (at + size d) ++ (beside_at (at + size d) i ∷ [])) ++ r.events in
      record {
        state = r.state;
        place = r.place;
        mark = r.mark;
        to = r.to;
        events = es;
        puts = subst (λ (z : List ℕ). Puts (text b0 whole n ns) at at z r.state r.mark r.to es (content_attributes (at + size d + size e) j)) (sym q)
            (puts_then (puts-reads p.1) (puts_then (beside-puts i p.0 n ns at (at + size d)) r.puts));
        all = joined (beside_at (at + size d) i ∷ []) r.events (run_at r.mark r.to) (run-data h at (at + size d) refl) r.all;
      }
