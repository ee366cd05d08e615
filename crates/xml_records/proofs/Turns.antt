-- One turn of the code, where its move agrees with the definition's step. Assumes nothing.
use Prim.Native.Nat.{ℕ, ◌+◌, ◌-◌}
use mathlib.Core.Path.{◌≡◌, refl, sym, ap, ◌∙◌, subst}
use mathlib.Core.List.{List, ◌∷◌}
use lib.ListN.{length, get_or}
use Rattle.xml_rep.specs.of_table.Kinds as kind
use Rattle.xml_rep.specs.of_xml_machine.State.{State, Act, Next, no, go}
use Rattle.xml_rep.specs.of_xml_machine.Tokens.{rec, unless0, over, Marks, marks_by, Due, nothing, event, attribute, text_due, due, Room, Kept, Out, keep, rooms, onward}
use Rattle.xml_rep.specs.of_xml_stack.Stack.{Range, range, Stacked}
use Rattle.xml_rep.proofs.of_xml_stack.Stack.{pop}
use Rattle.xml_rep.specs.of_xml_state.declared.Move.{Move}
use Rattle.xml_rep.specs.of_xml_state.declared.State.{State as Registers}
use Rattle.xml_rep.specs.of_xml_state.declared.Step.{Step}
use Rattle.xml_rep.specs.of_xml_state.declared.Step.TheVariants.{Go, Full, Bad}
use Rattle.xml_rep.specs.of_xml_state.inside.Registers.{in_mode, at_mark_of, with_name}
use Rattle.xml_rep.specs.of_xml_state.inside.Acts.{closing_of}
use Rattle.xml_rep.specs.of_xml_state.inside.Puts.{Turned, turned, fresh_of}
use Rattle.xml_rep.specs.inside.Rep.{Rep}
use Rattle.xml_rep.specs.inside.Agree.{turn_by, Agree, wrong, quietly, closing, texting, starting, emptying, closed, between, valuing}
use Rattle.xml_records.specs.inside.Holding.{Puts, Stands, Leads}
use Rattle.xml_records.proofs.Acts.{tag_record, none-puts, over-puts, text-puts, start-puts, empty-puts, end-puts, value-puts}

module _ {src : List ℕ} {at : ℕ} {st : Registers} {s : State} {m : Marks} {kept : Kept} {rs : List Range} {events attributes : List ℕ}
    (x : Stands src at st s m kept rs events attributes) (t : List ℕ) (f : State → Marks → Kept → Out) where
  abbrev many : ℕ
  many = length kept.attributes

  abbrev room : Room
  room = rooms (length events) (length attributes)

  abbrev after : Act → Marks
  after a = marks_by a at many m

  abbrev Led : Next → Turned → Type 0
  Led next p = Leads src at next (onward next s t at room m kept f) f p.step p.events p.attributes

  -- what the record that is due does, by what the areas hold behind it
  put-leads : (a : Act) (u : State) (d : Due) (ns : List Range) (y : Step) (ev at' : List ℕ) → due a at many m ≡ d →
      Puts (length src) room kept d ns (λ z n. Rep src (at + 1) z u (after a) n ns) y ev at' → Led (go a u) (turned y ev at')
  put-leads a u d ns (Go z) ev at' e p = (u, after a, p.0, ns, record { rep = p.3; holds = p.2 }, ap (λ (w : Due). keep room kept w (f u (after a))) e ∙ p.1 (f u (after a)))
  put-leads a u d ns Full ev at' e p = ap (λ (w : Due). keep room kept w (f u (after a))) e ∙ p (f u (after a))
  put-leads a u d ns Bad ev at' e p = absurd p

  abbrev Behind : Act → State → List Range → Registers → ℕ → Type 0
  Behind a u ns z n = Rep src (at + 1) z u (after a) n ns

  lead : (mv : Move) (a : Act) (u : State) (d : Due) (ns : List Range) (p : Turned) → turn_by st mv (get_or src at 0) at src events attributes ≡ p → due a at many m ≡ d →
      Puts (length src) room kept d ns (Behind a u ns) p.step p.events p.attributes → Led (go a u) (turn_by st mv (get_or src at 0) at src events attributes)
  lead mv a u d ns p e g h = subst (Led (go a u)) (sym e) (put-leads a u d ns p.step p.events p.attributes g h)

  -- the innermost open name, read from its record
  closing-is : (mode start long : ℕ) (ns : List Range) → rs ≡ range start long ∷ ns → closing_of st mode at events ≡ with_name start long (at_mark_of (at + 1) (in_mode mode st))
  unfolding closing_of
  closing-is mode start long ns e = let p = pop (subst (λ (z : List Range). Stacked (length src) kept.events z st.top events) e x.holds.stacked) in rw (p.start, p.long) refl

  -- ONE TURN
  pub turn-leads : (mv : Move) (next : Next) → Agree src at st m many rs mv next → Led next (turn_by st mv (get_or src at 0) at src events attributes)
  turn-leads mv no (wrong does) = subst (Led no) (sym (does events attributes)) refl
  turn-leads mv (go a u) (quietly q) = lead mv a u nothing rs _ (q.does events attributes) q.dues (none-puts x.holds (Behind a u rs) q.to q.count q.onward.kept q.top q.onward)
  turn-leads mv (go a u) (closing q) =
      lead mv a u nothing rs _ (q.does events attributes ∙ ap (λ (z : Registers). turned (Go z) events attributes) (closing-is mv.mode q.start q.long q.others q.open_is)) q.dues
      (none-puts x.holds (Behind a u rs) (with_name q.start q.long (at_mark_of (at + 1) (in_mode mv.mode st))) refl x.holds.many refl q.onward)
  turn-leads mv (go a u) (texting q) = lead mv a u (text_due st.mark at) rs _ (q.does events attributes) q.dues (text-puts x.holds (Behind a u rs) mv.mode at q.onward)
  turn-leads mv (go a u) (starting q) =
      lead mv a u (event (tag_record q.from kind.start)) (range q.from.name q.from.long ∷ rs) _ (q.does events attributes) q.dues
      (start-puts x.holds (Behind a u (range q.from.name q.from.long ∷ rs)) q.from at q.top q.count (q.onward 0 0).kept q.within q.onward)
  turn-leads mv (go a u) (emptying q) = lead mv a u (event (tag_record st kind.empty)) rs _ (q.does events attributes) q.dues (empty-puts x.holds (Behind a u rs) at q.onward)
  turn-leads mv (go a u) (closed q) =
      lead mv a u (event (rec kind.end st.mark st.long 0 0)) q.others _ (q.does events attributes) q.dues
      (end-puts x.holds (Behind a u q.others) at q.start q.long q.others q.open_is q.onward)
  turn-leads mv (go a u) (between q) =
      lead mv a u (event (over q.k st.mark q.end)) rs _ (q.does events attributes) q.dues
      (over-puts x.holds (Behind a u rs) (fresh_of st st.home at) q.k st.mark q.end refl refl refl (q.onward (st.count + 1)))
  turn-leads mv (go a u) (valuing q) =
      lead mv a u (attribute (rec 0 st.key st.wide (unless0 st.mark (at - st.mark)) (at - st.mark))) rs _ (q.does events attributes) q.dues
      (value-puts x.holds (Behind a u rs) mv.mode at q.onward)
