-- Tags and what they tell. Assumes nothing.
use Prim.Native.Nat.{ℕ}
use mathlib.Core.Path.{◌≡◌, refl, ap, ◌∙◌}
use mathlib.Core.List.{List, [], ◌∷◌, ◌++◌, append_assoc}
use mathlib.Core.Bool.{true}
use native.Mathlib.Omega.{arith}
use borrow.Author.Tests.{eq-eqb}
use Rattle.xml_grammar.specs.of_table.Event as table
use Rattle.xml_grammar.specs.of_table.Event.{Attribute, Event, Tag}
use Rattle.xml_grammar.specs.of_xml_chars.Chars.{crosses, is_space}
use Rattle.xml_grammar.specs.of_xml_chars.Bytes.{utf8, whole}
use Rattle.xml_grammar.specs.Grammar.{no_char, a-char, Spaces, Name, Attributes}
use Rattle.xml_grammar.specs.Events.{attributes_of}
use Rattle.xml_machine.specs.State as state
use Rattle.xml_machine.specs.State.{State, text, lt, tag, ending, end_space, Act, Stay, Mark, NameStart, NameEnd, Start, Empty, End, inside, b0, InTag, gap, slash}
use Rattle.xml_machine.specs.Machine.{char, behind, in_tag, in_lt, shut, step}
use Rattle.xml_machine.specs.inside.Saying.{Said, marks, saying}
use Rattle.xml_machine.proofs.Stays.{Stays, there, stay}
use Rattle.xml_complete.proofs.Reading.{goes_none, goes_then, goes-reads, goes-here, goes-byte, Tells, tells-then, tells-reads, tells-byte, tells-mark}
use Rattle.xml_complete.proofs.Spaces.{space-ascii, spaces-read, end-space}
use Rattle.xml_complete.proofs.Names.{Begins, name-here}
use Rattle.xml_complete.proofs.Tags.{At, at_name, at_gap, at_value, leaves, left_at, left-events, attributes-goes}

-- ---- start tags
abbrev starts : {nm : List ℕ} {xs : List Attribute} {m : InTag} {d : Said} → At nm xs m d → Act
starts (at_name e) = NameStart
starts (at_gap e f) = Start
starts (at_value e f) = Start

to-text : {nm : List ℕ} {xs : List Attribute} {m : InTag} {d : Said} (a : At nm xs m d) (n : List ℕ) (ns : List (List ℕ)) →
    step (tag m whole n ns) 0x3E ≡ state.go (starts a) (text b0 whole n ns)
unfolding step in_tag behind char crosses
to-text (at_name e) n ns = refl
to-text (at_gap e f) n ns = refl
to-text (at_value e f) n ns = refl

started-mark : {nm : List ℕ} {xs : List Attribute} {m : InTag} {d : Said} (a : At nm xs m d) → (saying (starts a) 0x3E d).mark ≡ []
started-mark (at_name e) = refl
started-mark (at_gap e f) = refl
started-mark (at_value e f) = refl

started : {nm : List ℕ} {xs : List Attribute} {m : InTag} {d : Said} (a : At nm xs m d) → (saying (starts a) 0x3E d).events ≡ d.events ++ (Tag table.Start nm 0 xs ∷ [])
started {d = d} (at_name e) = ap (λ x. d.events ++ (Tag table.Start x 0 [] ∷ [])) e
started {d = d} (at_gap e f) = rw (e, f) refl
started {d = d} (at_value e f) = rw (e, f) refl

pub start-tells : {v : State} {ns : List (List ℕ)} → Begins v ns → {n a : List ℕ} → Name n → (h : Attributes a) → {m r k : List ℕ} {w : State} {es : List Event} →
    Tells (text b0 whole (utf8 n) ns) [] r w k es → Tells v m (n ++ (a ++ (0x3E ∷ r))) w k (Tag table.Start (utf8 n) 0 (attributes_of h) ∷ es)
start-tells {ns = ns} o {n = n} i h {es = es} f = record {
  ahead = λ d e.
      let u : Said = marks (utf8 n) d in
      let z = attributes-goes h (at_name {d = u} refl) (utf8 n) ns in
      let t : List Event = Tag table.Start (utf8 n) 0 (attributes_of h) ∷ [] in
      let q = f.ahead (saying (starts z.1.place) 0x3E z.1.said) (started-mark z.1.place) in
      record {
        said = q.said;
        marked = q.marked;
        added = q.added ∙ ap (λ x. x ++ es) (started z.1.place ∙ ap (λ x. x ++ t) z.1.kept) ∙ append_assoc d.events t es;
        reached =
            goes_then (goes-here {cs = n} (name-here o i) d)
            (goes_then z.1.reached (goes-byte (omega arith) (to-text z.1.place (utf8 n) ns) z.1.said q.reached));
      };
}

-- ---- empty-element tags
to-slash : {nm : List ℕ} {xs : List Attribute} {m : InTag} {d : Said} (a : At nm xs m d) (n : List ℕ) (ns : List (List ℕ)) →
    step (tag m whole n ns) 0x2F ≡ state.go (leaves a) (tag slash whole n ns)
unfolding step in_tag behind char crosses
to-slash (at_name e) n ns = refl
to-slash (at_gap e f) n ns = refl
to-slash (at_value e f) n ns = refl

pub to-shut : (n : List ℕ) (ns : List (List ℕ)) → step (tag slash whole n ns) 0x3E ≡ state.go Empty (shut ns)
unfolding step in_tag
to-shut n ns = refl

emptied : {nm : List ℕ} {xs : List Attribute} {d : Said} → At nm xs gap d → (saying Empty 0x3E d).events ≡ d.events ++ (Tag table.Empty nm 0 xs ∷ [])
emptied (at_gap e f) = rw (e, f) refl

pub empty-tells : {v : State} {ns : List (List ℕ)} → Begins v ns → {n a : List ℕ} → Name n → (h : Attributes a) → {m : List ℕ} →
    Tells v m (n ++ (a ++ (0x2F ∷ 0x3E ∷ []))) (shut ns) [] (Tag table.Empty (utf8 n) 0 (attributes_of h) ∷ [])
empty-tells {ns = ns} o {n = n} i h = record {
  ahead = λ d e.
      let u : Said = marks (utf8 n) d in
      let z = attributes-goes h (at_name {d = u} refl) (utf8 n) ns in
      let t : List Event = Tag table.Empty (utf8 n) 0 (attributes_of h) ∷ [] in
      let y : Said = saying (leaves z.1.place) 0x2F z.1.said in
      record {
        said = saying Empty 0x3E y;
        marked = refl;
        added = emptied (left_at z.1.place 0x2F) ∙ ap (λ x. x ++ t) (left-events z.1.place 0x2F ∙ z.1.kept);
        reached =
            goes_then (goes-here {cs = n} (name-here o i) d)
            (goes_then z.1.reached
            (goes-byte (omega arith) (to-slash z.1.place (utf8 n) ns) z.1.said (goes-byte (omega arith) (to-shut (utf8 n) ns) y goes_none)));
      };
}

-- ---- end tags
ending-step : (c : ℕ) (n : List ℕ) (ns : List (List ℕ)) → step (ending (c ∷ n) ns) c ≡ state.go Stay (ending n ns)
unfolding step
ending-step c n ns = rw (eq-eqb c c refl) refl

pub ending-stays : (n : List ℕ) (ns : List (List ℕ)) → Stays (ending n ns) n (ending [] ns)
ending-stays [] ns = there
ending-stays (c ∷ n) ns = stay (ending-step c n ns) (ending-stays n ns)

pub slash-ends : (n : List ℕ) (ns : List (List ℕ)) → step (lt (inside n ns)) 0x2F ≡ state.go Mark (ending n ns)
unfolding step in_lt char crosses
slash-ends n ns = refl

pub name-ends : (ns : List (List ℕ)) → step (ending [] ns) 0x3E ≡ state.go NameEnd (shut ns)
unfolding step
name-ends ns = refl

pub name-spaces : (ns : List (List ℕ)) (c : ℕ) → is_space c ≡ true → step (ending [] ns) c ≡ state.go state.Name (end_space ns)
unfolding step
name-spaces ns c e = rw e refl

pub space-ends : (ns : List (List ℕ)) → step (end_space ns) 0x3E ≡ state.go End (shut ns)
unfolding step
space-ends ns = refl

closing-tells : {w : List ℕ} → Spaces w → (nm : List ℕ) (ns : List (List ℕ)) → Tells (ending [] ns) nm (w ++ (0x3E ∷ [])) (shut ns) [] (Tag table.End nm 0 [] ∷ [])
closing-tells no_char nm ns = tells-byte (omega arith) (name-ends ns) (λ d i. (refl, ap (λ x. d.events ++ (Tag table.End x 0 [] ∷ [])) i))
closing-tells (a-char {c = c} {s = s} e h) nm ns = record {
  ahead = λ d i.
      let u : Said = saying state.Name c d in
      let x : Said = marks (u.mark ++ utf8 s) u in
      record {
        said = saying End 0x3E x;
        marked = refl;
        added = ap (λ x. d.events ++ (Tag table.End x 0 [] ∷ [])) i;
        reached =
            goes-byte (space-ascii c e) (name-spaces ns c e) d
            (goes_then (goes-reads (spaces-read (end-space ns) h) u) (goes-byte (omega arith) (space-ends ns) x goes_none));
      };
}

pub end-tells : (n : List ℕ) {w : List ℕ} → Spaces w → (ns : List (List ℕ)) → {m : List ℕ} →
    Tells (lt (inside (utf8 n) ns)) m (0x2F ∷ (n ++ (w ++ (0x3E ∷ [])))) (shut ns) [] (Tag table.End (utf8 n) 0 [] ∷ [])
end-tells n h ns =
    tells-then (tells-mark (omega arith) (slash-ends (utf8 n) ns))
    (tells-then {m = []} {a = n} (tells-reads (record { stays = ending-stays (utf8 n) ns })) (closing-tells h (utf8 n) ns))
