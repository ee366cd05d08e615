-- The loop: its start, its turns, its ways out, and the call around it. Assumes nothing.
use Prim.Native.Nat.{ℕ, ◌+◌, ◌-◌, ◌≤◌, ◌<◌}
use mathlib.Core.Path.{◌≡◌, refl, sym, ap, ◌∙◌, subst}
use mathlib.Core.List.{List, [], ◌∷◌}
use mathlib.Core.Bool.{Bool, cond, ◌&&◌, ◌||◌}
use native.Mathlib.Omega.{arith}
use native.Mathlib.Numerals.{add-one}
use borrow.Author.Tests.{lt-ltb, le-ltb, eq-eqb, ne_eqb}
use lib.Dec.{eqb}
use lib.ListN.{length, get_or, drop, replicate}
use lib.Seq.{drop-cons, drop-length}
use Rattle.xml_rep.specs.of_names.Bytes.{bytes}
use Rattle.xml_rep.specs.of_refusal.Refusal.{nowhere}
use Rattle.xml_rep.specs.of_xml_chars.Chars.{begins}
use Rattle.xml_rep.specs.of_xml_machine.State.{State, fresh, Next, no}
use Rattle.xml_rep.specs.of_xml_machine.Machine.{step, done}
use Rattle.xml_rep.specs.of_xml_machine.Runs.{at_bang}
use Rattle.xml_rep.specs.of_xml_machine.Tokens.{Marks, no_marks, Due, open_run, Room, Kept, nothing_kept, Out, refuse, keep, close, onward, records, rooms, Result, resulting, laid_out, tokens}
use Rattle.xml_rep.specs.of_xml_stack.Stack.{Stacked}
use Rattle.xml_rep.proofs.of_xml_stack.Stack as stack
use Rattle.xml_rep.specs.of_xml_state.Answer.{result}
use Rattle.xml_rep.specs.of_xml_state.declared.Move.{Move}
use Rattle.xml_rep.specs.of_xml_state.declared.State.{State as Registers}
use Rattle.xml_rep.specs.of_xml_state.declared.Step.{Step}
use Rattle.xml_rep.specs.of_xml_state.declared.Step.TheVariants.{Go, Full, Bad}
use Rattle.xml_rep.specs.of_xml_state.declared.Tokenized.{Tokenized}
use Rattle.xml_rep.specs.of_xml_state.declared.Tokenized.TheVariants.{Table, Refused}
use Rattle.xml_rep.specs.of_xml_state.inside.Rows as row
use Rattle.xml_rep.specs.of_xml_state.inside.Registers.{in_mode, beginning}
use Rattle.xml_rep.specs.of_xml_state.inside.Puts.{Turned, turned, act_on}
use Rattle.xml_rep.specs.of_xml_state.inside.Turns.{cleared, refused_of, Ended, ended, finish_of}
use Rattle.xml_rep.specs.inside.Agree.{turn_by}
use Rattle.xml_rep.proofs.Laws.{at_first, mode-range, bang-law, run-law, done-law, done_none}
use Rattle.xml_records.specs.inside.Holding.{Leads, Refuses}
use Rattle.xml_records.specs.inside.Loop.{At, Moves}
use Rattle.xml_records.proofs.Rooms.{laid_none}
use Rattle.xml_records.proofs.Turns.{turn-leads}
use Rattle.xml_records.proofs.Ends.{run_due, refused-result, refused-refuses, finish-result}

abbrev run : List ℕ → ℕ → ℕ → Out
run src words wide = records src fresh 0 (rooms words wide) no_marks nothing_kept

pub at-start : (src events attributes : List ℕ) → length src ≤ 16777216 → events ≡ replicate (length events) 0 → attributes ≡ replicate (length attributes) 0 →
    At src (length events) (length attributes) 0 beginning events attributes
at-start src events attributes h e a = record {
  within = omega arith;
  short = h;
  long = refl;
  broad = refl;
  state = fresh;
  marks = no_marks;
  kept = nothing_kept;
  names = [];
  stands = record {
    rep = at_first src;
    holds = record {
      stacked = subst (Stacked (length src) [] [] 0) (sym e) (stack.nothing (length src) (length events));
      count = refl;
      fits = omega arith;
      laid = subst (λ (z : List ℕ). z ≡ laid_out [] (length z)) (sym a) (laid_none (length attributes));
      many = refl;
    };
  };
  same = refl;
}

-- the definition's run at its end, and at a byte
ends : (s : State) (m : Marks) (kept : Kept) (at : ℕ) (room : Room) (d : Due) (b : Bool) → open_run s m.mark at ≡ d → done s ≡ b → records [] s at room m kept ≡ keep room kept d (close b at room)
unfolding records
ends s m kept at room d b e f = rw (e, f) refl

first : (s : State) (m : Marks) (kept : Kept) (at : ℕ) (room : Room) (b : ℕ) (t : List ℕ)
    → records (b ∷ t) s at room m kept ≡ onward (step s b) s (b ∷ t) at room m kept (λ u n k. records t u (at + 1) room n k)
unfolding records
first s m kept at room b t = refl

blames : (s : State) (m : Marks) (kept : Kept) (at : ℕ) (room : Room) (f : State → Marks → Kept → Out) (t l : List ℕ) (d : Due) (g : Bool) → open_run s m.mark at ≡ d → at_bang s ≡ g → t ≡ l →
    onward no s t at room m kept f ≡ keep room kept d (λ _. cond (g && begins (bytes "DOCTYPE") l) (refuse 19 (at - 2)) (refuse 18 at))
blames s m kept at room f t l d g e h i = rw (e, h, i) refl

module _ {src : List ℕ} {words wide at : ℕ} {st : Registers} {events attributes : List ℕ} (a : At src words wide at st events attributes) where
  pub mode-here : (48 ≤ st.mode) × (st.mode < 122)
  mode-here = mode-range a.stands.rep

  -- the areas' own lengths
  same_here : run src words wide ≡ records (drop at src) a.state at (rooms (length events) (length attributes)) a.marks a.kept
  same_here = a.same ∙ rw (a.long, a.broad) refl

  abbrev own : Room
  own = rooms (length events) (length attributes)

  -- behind the last byte
  pub over : (r : Tokenized) (ev : List ℕ) → length src ≤ at → ended r ev ≡ finish_of st at events → cleared r ev attributes ≡ resulting (run src words wide) words wide
  over r ev h e =
      ap (λ (p : Ended). cleared p.answer p.events attributes) e
      ∙ finish-result a.stands.holds at (λ z. done_none a.stands.rep (sym (done-law a.stands.rep) ∙ z))
      ∙ ap (λ (o : Out). resulting o (length events) (length attributes)) (sym (same_here ∙ ap (λ (l : List ℕ). records l a.state at own a.marks a.kept) nil ∙ last))
      ∙ rw (a.long, a.broad) refl
    where
      nil : drop at src ≡ []
      nil = let z : at ≡ length src = omega (arith, a.within) in rw z (drop-length src)

      last : records [] a.state at own a.marks a.kept ≡ keep own a.kept (run_due st at) (close (eqb st.mode row.text_after_of) at own)
      last = ends a.state a.marks a.kept at own (run_due st at) (eqb st.mode row.text_after_of) (run-law a.stands.rep) (sym (done-law a.stands.rep))

  module _ (moves : Moves a) (here : at < length src) where
    next : drop at src ≡ get_or src at 0 ∷ drop (at + 1) src
    next = rw (add-one, drop-cons src at 0 here)

    abbrev behind : State → Marks → Kept → Out
    behind u m k = records (drop (at + 1) src) u (at + 1) own m k

    abbrev by_next : Next → Out
    by_next n = onward n a.state (get_or src at 0 ∷ drop (at + 1) src) at own a.marks a.kept behind

    -- the definition at this byte
    step-here : run src words wide ≡ by_next (step a.state (get_or src at 0))
    step-here = same_here ∙ ap (λ (l : List ℕ). records l a.state at own a.marks a.kept) next ∙ first a.state a.marks a.kept at own (get_or src at 0) (drop (at + 1) src)

    led : (mv : Move) → mv ≡ row.move_of st.mode (get_or src at 0) → (p : Turned) → p ≡ turn_by st mv (get_or src at 0) at src events attributes → (t : Step) → p.step ≡ t →
        Leads src at (step a.state (get_or src at 0)) (run src words wide) behind t p.events p.attributes
    led mv e p q t w =
        subst (λ (o : Out). Leads src at (step a.state (get_or src at 0)) o behind t p.events p.attributes) (sym step-here)
        (subst (λ (z : Step). Leads src at (step a.state (get_or src at 0)) (by_next (step a.state (get_or src at 0))) behind z p.events p.attributes) w
        (subst (λ (z : Turned). Leads src at (step a.state (get_or src at 0)) (by_next (step a.state (get_or src at 0))) behind z.step z.events z.attributes)
        (sym (q ∙ ap (λ (v : Move). turn_by st v (get_or src at 0) at src events attributes) e))
        (turn-leads a.stands (get_or src at 0 ∷ drop (at + 1) src) behind _ _ moves)))

    -- the next turn
    again : (s : Registers) (ev av : List ℕ) → length ev ≡ length events → length av ≡ length attributes →
        Leads src at (step a.state (get_or src at 0)) (run src words wide) behind (Go s) ev av → At src words wide (at + 1) s ev av
    again s ev av i j l = record {
      within = omega arith;
      short = a.short;
      long = i ∙ a.long;
      broad = j ∙ a.broad;
      state = l.0;
      marks = l.1;
      kept = l.2;
      names = l.3;
      stands = l.4;
      same = l.5 ∙ rw (a.long, a.broad) refl;
    }

    module _ (mv : Move) (e : mv ≡ row.move_of st.mode (get_or src at 0)) where
      -- the byte changes the mode alone
      pub stay-on : mv.act ≡ row.stay → At src words wide (at + 1) (in_mode mv.mode st) events attributes
      stay-on s = again _ events attributes refl refl (led mv e (turned (Go (in_mode mv.mode st)) events attributes) (simp (eq-eqb _ _ s) refl) _ refl)

      module _ (n : mv.act ≡ row.stay → ⊥) (t : Step) (ev av : List ℕ) (q : turned t ev av ≡ act_on st mv (get_or src at 0) at src events attributes) where
        acts : turned t ev av ≡ turn_by st mv (get_or src at 0) at src events attributes
        acts = q ∙ simp (ne_eqb _ _ n) refl

        module _ (i : length ev ≡ length events) (j : length av ≡ length attributes) where
          pub go_on : (s : Registers) → t ≡ Go s → At src words wide (at + 1) s ev av
          go_on s w = again s ev av i j (led mv e (turned t ev av) acts (Go s) w)

          pub full-out : t ≡ Full → cleared (Refused 16 nowhere) ev av ≡ resulting (run src words wide) words wide
          full-out w = refused-result ev av (record { number = 16; byte = nowhere; code = refl; means = led mv e (turned t ev av) acts Full w }) ∙ rw (i, j, a.long, a.broad) refl

          pub bad-out : t ≡ Bad → (r : Tokenized) → r ≡ refused_of st at src (length ev) → cleared r ev av ≡ resulting (run src words wide) words wide
          bad-out w r x = refused-result ev av (record { number = bad.number; byte = bad.byte; code = x ∙ ap (refused_of st at src) i ∙ bad.code; means = means ∙ bad.means })
              ∙ rw (i, j, a.long, a.broad) refl
            where
              bad : Refuses (refused_of st at src (length events)) (keep own a.kept (run_due st at)
                  (λ _. cond ((eqb st.mode row.bang_out || eqb st.mode row.bang_in) && begins (bytes "DOCTYPE") (drop at src)) (refuse 19 (at - 2)) (refuse 18 at)))
              bad = refused-refuses a.stands.holds at src

              means : run src words wide ≡ keep own a.kept (run_due st at)
                  (λ _. cond ((eqb st.mode row.bang_out || eqb st.mode row.bang_in) && begins (bytes "DOCTYPE") (drop at src)) (refuse 19 (at - 2)) (refuse 18 at))
              means =
                  step-here ∙ ap by_next (led mv e (turned t ev av) acts Bad w)
                  ∙ blames a.state a.marks a.kept at own behind _ (drop at src) (run_due st at) _ (run-law a.stands.rep) (sym (bang-law a.stands.rep)) (sym next)

-- ---- the call
pub whole : (src : List ℕ) (words wide : ℕ) (x : Result) → length src ≤ 16777216 → x ≡ resulting (run src words wide) words wide → x ≡ tokens src words wide
unfolding tokens
whole src words wide x h e = simp (le-ltb _ _ h) e

pub too_long : (src : List ℕ) (words wide : ℕ) → 16777216 < length src → result (Refused 11 nowhere) (replicate words 0) (replicate wide 0) ≡ tokens src words wide
unfolding tokens resulting
too_long src words wide h = simp (lt-ltb _ _ h)

module _ (src ev av : List ℕ) (words wide : ℕ) (r : Tokenized) (e : cleared r ev av ≡ tokens src words wide) where
  pub token-read : (n k : ℕ) → r ≡ Table n k → result r ev av ≡ tokens src words wide
  token-read n k q = rw q (rw q at e)

  pub token-refused : (k b : ℕ) → r ≡ Refused k b → result r (replicate (length ev) 0) (replicate (length av) 0) ≡ tokens src words wide
  token-refused k b q = rw q (rw q at e)
