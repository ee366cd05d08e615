-- A refused byte, and what is behind the last. Assumes nothing.
use Prim.Native.Nat.{ℕ, ◌+◌, ◌-◌}
use mathlib.Core.Path.{◌≡◌, refl, ap, ◌∙◌, subst}
use mathlib.Core.List.{List, []}
use mathlib.Core.Bool.{Bool, true, false, cond, ◌&&◌, ◌||◌}
use native.Mathlib.Omega.{arith}
use borrow.Author.Tests.{eqb-true}
use lib.Dec.{leb, ltb, eqb}
use lib.ListN.{length, drop}
use Rattle.xml_rep.specs.of_names.Bytes.{bytes}
use Rattle.xml_rep.specs.of_refusal.Refusal.{nowhere}
use Rattle.xml_rep.specs.of_table.Kinds as kind
use Rattle.xml_rep.specs.of_xml_chars.Chars.{begins}
use Rattle.xml_rep.specs.of_xml_machine.Tokens.{rec, over, Due, nothing, event, text_due, Room, Kept, Out, read, refuse, keep, close, rooms, room_of, laid_out, Result, resulting}
use Rattle.xml_rep.specs.of_xml_stack.Stack.{Range, put_at}
use Rattle.xml_rep.proofs.of_xml_stack.Stack.{none_open, length-put}
use Rattle.xml_rep.specs.of_xml_state.Answer.{result}
use Rattle.xml_rep.specs.of_xml_state.declared.State.{State}
use Rattle.xml_rep.specs.of_xml_state.declared.Step.{Step}
use Rattle.xml_rep.specs.of_xml_state.declared.Step.TheVariants.{Go, Full, Bad}
use Rattle.xml_rep.specs.of_xml_state.declared.Tokenized.{Tokenized}
use Rattle.xml_rep.specs.of_xml_state.declared.Tokenized.TheVariants.{Table, Refused}
use Rattle.xml_rep.specs.of_xml_state.inside.Rows as row
use Rattle.xml_rep.specs.of_xml_state.inside.Registers.{with_count}
use Rattle.xml_rep.specs.of_xml_state.inside.Puts.{stepped, room_for, putting, put_over, fresh_of, act_text}
use Rattle.xml_rep.specs.of_xml_state.inside.Turns.{cleared, run_mode, broken_of, refused_of, Ended, ended, eof_by, eof_of, finish_by, finish_of}
use Rattle.xml_records.specs.inside.Holding.{Holds, Puts, Refuses}
use Rattle.xml_records.proofs.Rooms.{room-law}
use Rattle.xml_records.proofs.Acts.{over-puts, text-puts}

-- ---- refusals leave zeros
pub refused-result : {r : Tokenized} {o : Out} (events attributes : List ℕ) → Refuses r o → cleared r events attributes ≡ resulting o (length events) (length attributes)
unfolding resulting
refused-result events attributes x = rw (x.code, x.means) refl

-- the run of text that is open
abbrev pub run_due : State → ℕ → Due
run_due st at = cond (leb (run_mode st) row.text_shut2 && ltb st.mark at) (event (over kind.text st.mark at)) nothing

-- no run is open behind `<!`
bang-closed : (m then : ℕ) → (eqb m row.bang_out || eqb m row.bang_in) ≡ true → leb (cond (eqb m row.within) then m) row.text_shut2 ≡ false
bang-closed m then e = by (eqb m row.bang_out) (eqb m row.bang_in) refl refl e
  where
    by : (x y : Bool) → eqb m row.bang_out ≡ x → eqb m row.bang_in ≡ y → (x || y) ≡ true → leb (cond (eqb m row.within) then m) row.text_shut2 ≡ false
    by true y f g e = let z : m ≡ row.bang_out = eqb-true _ _ f in rw z refl
    by false true f g e = let z : m ≡ row.bang_in = eqb-true _ _ g in rw z refl
    by false false f g e = let z : ◌≡◌ {A = ℕ} 0 1 = cc in absurd (omega arith)

module _ {size : ℕ} {kept : Kept} {rs : List Range} {st : State} {events attributes : List ℕ} (h : Holds size kept rs st events attributes) (at : ℕ) where
  abbrev room : Room
  room = rooms (length events) (length attributes)

  same : ltb (length kept.events) (room_of (length events)) ≡ room_for st.count (length events)
  same = rw h.count (room-law (length kept.events) (length events))

  pub broken-refuses : Refuses (broken_of st at (length events)) (keep room kept (run_due st at) (λ _. refuse 18 at))
  unfolding broken_of keep
  broken-refuses = by (leb (run_mode st) row.text_shut2 && ltb st.mark at) (room_for st.count (length events)) refl refl
    where
      by : (z x : Bool) → (leb (run_mode st) row.text_shut2 && ltb st.mark at) ≡ z → room_for st.count (length events) ≡ x →
          Refuses (broken_of st at (length events)) (keep room kept (run_due st at) (λ _. refuse 18 at))
      by true true e g = record { number = 18; byte = at; code = simp (e, g); means = simp (e, same ∙ g) }
      by true false e g = record { number = 16; byte = nowhere; code = simp (e, g); means = simp (e, same ∙ g) }
      by false x e g = record { number = 18; byte = at; code = simp e; means = simp e }

  pub refused-refuses : (source : List ℕ) →
      Refuses (refused_of st at source (length events))
      (keep room kept (run_due st at) (λ _. cond ((eqb st.mode row.bang_out || eqb st.mode row.bang_in) && begins (bytes "DOCTYPE") (drop at source)) (refuse 19 (at - 2)) (refuse 18 at)))
  unfolding refused_of keep
  refused-refuses source = by (eqb st.mode row.bang_out || eqb st.mode row.bang_in) (begins (bytes "DOCTYPE") (drop at source)) refl
    where
      closed : leb (run_mode st) row.text_shut2 ≡ false → keep room kept (run_due st at) (λ _. refuse 19 (at - 2)) ≡ refuse 19 (at - 2)
      closed e = simp e

      by : (g d : Bool) → (eqb st.mode row.bang_out || eqb st.mode row.bang_in) ≡ g →
          Refuses (cond (g && d) (Refused 19 (at - 2)) (broken_of st at (length events))) (keep room kept (run_due st at) (λ _. cond (g && d) (refuse 19 (at - 2)) (refuse 18 at)))
      by true true f = record { number = 19; byte = at - 2; code = refl; means = closed (bang-closed st.mode st.then f) }
      by true false f = broken-refuses
      by false d f = broken-refuses

-- ---- Eof
read_result : {size : ℕ} {kept : Kept} {st : State} {events attributes : List ℕ} → Holds size kept [] st events attributes
    → cleared (Table st.count st.kept) events attributes ≡ resulting (read kept) (length events) (length attributes)
unfolding resulting
read_result {size} {kept} {st} {events} {attributes} h =
    rw (h.count, h.many) (ap (λ (e : List ℕ). result (Table (length kept.events) (length kept.attributes)) e attributes) (none_open h.stacked refl).1
    ∙ ap (λ (a : List ℕ). result (Table (length kept.events) (length kept.attributes)) (laid_out kept.events (length events)) a) h.laid)

length-putting : (x : State) (k s l f c : ℕ) (area : List ℕ) → length (putting x k s l f c area).events ≡ length area
unfolding putting
length-putting x k s l f c area = by (room_for x.count (length area))
  where
    by : (y : Bool) → length (cond y (stepped (Go (with_count (x.count + 1) x)) (put_at area x.count k s l f c)) (stepped Full area)).events ≡ length area
    by true = length-put area x.count k s l f c
    by false = refl

length-text : (st : State) (m at : ℕ) (area : List ℕ) → length (act_text st m at area).events ≡ length area
unfolding act_text
length-text st m at area = by (ltb st.mark at)
  where
    by : (y : Bool) → length (cond y (put_over (fresh_of st m at) kind.text st.mark at area) (stepped (Go (fresh_of st m at)) area)).events ≡ length area
    by true = length-putting (fresh_of st m at) kind.text _ _ 0 0 area
    by false = refl

abbrev cleared_by_of : Ended → List ℕ → Result
cleared_by_of e attributes = cleared e.answer e.events attributes

eof-result : {size : ℕ} {kept : Kept} {st : State} {events attributes : List ℕ} → Holds size kept [] st events attributes →
    cleared_by_of (eof_of st events) attributes ≡ resulting (keep (rooms (length events) (length attributes)) kept (event (rec kind.eof 0 0 0 0)) read) (length events) (length attributes)
unfolding eof_of resulting
eof-result {size} {kept} {st} {events} {attributes} h =
    by (put_over st kind.eof 0 0 events).step (put_over st kind.eof 0 0 events).events (length-putting st kind.eof 0 0 0 0 events) (over-puts h (λ z n. Unit {0}) st kind.eof 0 0 refl refl refl tt)
  where
    by : (y : Step) (ev : List ℕ) → length ev ≡ length events → Puts size (rooms (length events) (length attributes)) kept (event (rec kind.eof 0 0 0 0)) [] (λ z n. Unit {0}) y ev attributes →
        cleared_by_of (eof_by y ev) attributes ≡ resulting (keep (rooms (length events) (length attributes)) kept (event (rec kind.eof 0 0 0 0)) read) (length events) (length attributes)
    by (Go z) ev l p = read_result p.2 ∙ rw (l, p.1 read) refl
    by Full ev l p = rw (l, p read) refl
    by Bad ev l p = absurd p

-- the run behind the root
run-after : (st : State) (at : ℕ) → eqb st.mode row.text_after_of ≡ true → text_due st.mark at ≡ run_due st at
run-after st at e = let z : st.mode ≡ row.text_after_of = eqb-true _ _ e in rw z refl

-- THE END, where the state is accepted only with nothing open
module _ {size : ℕ} {kept : Kept} {rs : List Range} {st : State} {events attributes : List ℕ} (h : Holds size kept rs st events attributes) (at : ℕ) where
  after-result : rs ≡ [] → cleared_by_of (finish_by (act_text st st.mode at events).step (act_text st st.mode at events).events) attributes ≡
      resulting (keep (rooms (length events) (length attributes)) kept (text_due st.mark at) (close true at (rooms (length events) (length attributes)))) (length events) (length attributes)
  unfolding resulting
  after-result o =
      by (act_text st st.mode at events).step (act_text st st.mode at events).events (length-text st st.mode at events)
      (subst (λ (x : List Range). Puts size (rooms (length events) (length attributes)) kept (text_due st.mark at) x
      (λ z n. Unit {0}) (act_text st st.mode at events).step (act_text st st.mode at events).events attributes) o
      (text-puts h (λ z n. Unit {0}) st.mode at (λ n. tt)))
    where
      by : (y : Step) (ev : List ℕ) → length ev ≡ length events → Puts size (rooms (length events) (length attributes)) kept (text_due st.mark at) [] (λ z n. Unit {0}) y ev attributes →
          cleared_by_of (finish_by y ev) attributes ≡ resulting (keep (rooms (length events) (length attributes)) kept (text_due st.mark at) (close true at (rooms (length events) (length attributes))))
          (length events) (length attributes)
      by (Go z) ev l p = eof-result p.2 ∙ rw (l, p.1 (close true at (rooms (length events) (length attributes)))) refl
      by Full ev l p = rw (l, p (close true at (rooms (length events) (length attributes)))) refl
      by Bad ev l p = absurd p

  pub finish-result : (eqb st.mode row.text_after_of ≡ true → rs ≡ []) →
      cleared_by_of (finish_of st at events) attributes ≡ resulting (keep (rooms (length events) (length attributes)) kept (run_due st at)
      (close (eqb st.mode row.text_after_of) at (rooms (length events) (length attributes)))) (length events) (length attributes)
  unfolding finish_of
  finish-result o = by (eqb st.mode row.text_after_of) refl
    where
      by : (w : Bool) → eqb st.mode row.text_after_of ≡ w →
          cleared_by_of (cond w (finish_by (act_text st st.mode at events).step (act_text st st.mode at events).events) (ended (broken_of st at (length events)) events)) attributes ≡
          resulting (keep (rooms (length events) (length attributes)) kept (run_due st at) (close w at (rooms (length events) (length attributes)))) (length events) (length attributes)
      by true e = after-result (o e) ∙ ap (λ (d : Due).
          resulting (keep (rooms (length events) (length attributes)) kept d (close true at (rooms (length events) (length attributes)))) (length events) (length attributes)) (run-after st at e)
      by false e = refused-result events attributes (broken-refuses h at)
