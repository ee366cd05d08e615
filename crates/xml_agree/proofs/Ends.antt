-- End tags: the name is asked for byte by byte. Assumes nothing.
use Prim.Native.Nat.{ℕ, ◌+◌, ◌-◌, ◌≤◌, ◌<◌}
use mathlib.Core.Path.{◌≡◌, refl, sym, ap}
use mathlib.Core.List.{List, [], ◌∷◌}
use mathlib.Core.Bool.{Bool, true, false, cond}
use native.Mathlib.Omega.{arith}
use borrow.Author.Tests.{lt-ltb, le-ltb}
use lib.Dec.{ltb, eqb}
use lib.ListN.{length, get_or, take, drop}
use Rattle.xml_rep.specs.of_xml_machine.State.{State, ending, end_space, Stay, no, go}
use Rattle.xml_rep.specs.of_xml_machine.Machine.{step}
use Rattle.xml_rep.specs.of_xml_machine.Tokens.{Marks}
use Rattle.xml_rep.specs.of_xml_stack.Stack.{Range}
use Rattle.xml_rep.specs.of_xml_state.declared.State.{State as Registers}
use Rattle.xml_rep.specs.of_xml_state.declared.Step.{Step}
use Rattle.xml_rep.specs.of_xml_state.declared.Step.TheVariants.{Go, Bad}
use Rattle.xml_rep.specs.of_xml_state.inside.Rows as row
use Rattle.xml_rep.specs.of_xml_state.inside.Rows.{all_rows, move_of}
use Rattle.xml_rep.specs.of_xml_state.inside.Registers.{in_mode}
use Rattle.xml_rep.specs.of_xml_state.inside.Acts.{wanted_of, acted_of}
use Rattle.xml_rep.specs.of_xml_state.inside.Puts.{turned, act_on}
use Rattle.xml_rep.specs.inside.Modes.{end_mode}
use Rattle.xml_rep.specs.inside.Rep.{Placed, Rep}
use Rattle.xml_rep.specs.inside.Agree.{Agree, wrong, quietly}
use Rattle.xml_agree.proofs.Agreeing.{Level, at-mode, on, on_space, refused, stayed, stays}
use Rattle.xml_agree.proofs.Names.{none_left, some_left}
use Rattle.xml_agree.proofs.Records.{names-end, ends-later}

wanted-law : (st : Registers) (b at c : ℕ) (src : List ℕ) (x : Bool) → get_or src (st.name + (at - st.mark)) 0 ≡ c → ltb (at - st.mark + 1) st.long ≡ x →
    wanted_of st b at src ≡ cond (eqb b c) (cond x (Go st) (Go (in_mode row.end_tag st))) Bad
unfolding wanted_of
wanted-law st b at c src x e f = rw (e, f) refl

module _ (src : List ℕ) (at : ℕ) {st : Registers} {m : Marks} {n : ℕ} {rs : List Range} where
  wanted-stays : (x : Bool) (to : Registers) (u : State) → wanted_of st (get_or src at 0) at src ≡ cond x (Go to) Bad → to.top ≡ st.top → to.count ≡ st.count → Rep src (at + 1) to u m n rs →
      Agree src at st m n rs (row.to row.end_name row.wanted) (cond x (go Stay u) no)
  unfolding act_on acted_of
  wanted-stays true to u e t c r = stayed to u (λ events attributes. ap (λ (y : Step). turned y events attributes) e) t c r
  wanted-stays false to u e t c r = wrong (λ events attributes. ap (λ (y : Step). turned y events attributes) e)

  module _ (v : Level st m n) where
    -- the next byte of the name
    wanted-agrees : (c : ℕ) (o : List ℕ) (ns : List (List ℕ)) → st.mode ≡ row.end_name → Placed src at (ending (c ∷ o) ns) st m rs →
        Agree src at st m n rs (row.to row.end_name row.wanted) (cond (eqb (get_or src at 0) c) (go Stay (ending o ns)) no)
    wanted-agrees c o ns e p = by o l.2
      where
        w : st.name + st.long ≤ length src
        w = p.0.within

        l : (at - st.mark < st.long) × (get_or src (st.name + (at - st.mark)) 0 ≡ c) × (o ≡ drop (at - st.mark + 1) (take st.long (drop st.name src)))
        l = some_left src st.name st.long (at - st.mark) w c o p.3

        next : at + 1 - st.mark ≡ at - st.mark + 1
        next = omega (arith, p.1)

        behind : (o : List ℕ) → o ≡ drop (at - st.mark + 1) (take st.long (drop st.name src)) → Placed src (at + 1) (ending o ns) st m rs
        behind o d = (p.0, omega (arith, p.1), omega (arith, l.0), rw next d)

        by : (o : List ℕ) → o ≡ drop (at - st.mark + 1) (take st.long (drop st.name src)) →
            Agree src at st m n rs (row.to row.end_name row.wanted) (cond (eqb (get_or src at 0) c) (go Stay (ending o ns)) no)
        by [] d =
            wanted-stays (eqb (get_or src at 0) c) (in_mode row.end_tag st) (ending [] ns)
            (wanted-law st (get_or src at 0) at c src false l.1 (le-ltb _ _ (none_left src st.name st.long (at - st.mark + 1) w d))) refl refl
            (record { moded = refl; homed = tt; placed = behind [] d; mark = v.same; kept = v.kept })
        by (x ∷ o) d =
            wanted-stays (eqb (get_or src at 0) c) st (ending (x ∷ o) ns)
            (wanted-law st (get_or src at 0) at c src true l.1 (lt-ltb _ _ (some_left src st.name st.long (at - st.mark + 1) w x o d).0)) refl refl
            (record { moded = e; homed = tt; placed = behind (x ∷ o) d; mark = v.same; kept = v.kept })

    -- the name is complete
    ended-agrees : (ns : List (List ℕ)) → Placed src at (ending [] ns) st m rs → Agree src at st m n rs (row.end_tag_row (get_or src at 0)) (step (ending [] ns) (get_or src at 0))
    unfolding step
    ended-agrees ns p =
        on_space (quietly (record {
          to = in_mode row.end_tag st;
          does = λ events attributes. refl;
          dues = refl;
          top = refl;
          count = refl;
          onward = record { moded = refl; homed = tt; placed = (p.0, sym v.same, sym whole-name); mark = v.same; kept = v.kept };
        }))
        (on 0x3E (names-end v ns p.0 whole-name) refused)
      where
        whole-name : st.mark + st.long ≡ at
        whole-name = omega (arith, none_left src st.name st.long (at - st.mark) p.0.within p.3, p.1, p.2)

    pub ending-agrees : (o : List ℕ) (ns : List (List ℕ)) → st.mode ≡ end_mode o → Placed src at (ending o ns) st m rs → Agree src at st m n rs (move_of st.mode (get_or src at 0)) (step (ending o ns) (get_or src at 0))
    unfolding move_of all_rows step
    ending-agrees [] ns e p = at-mode e (ended-agrees ns p)
    ending-agrees (c ∷ o) ns e p = at-mode e (wanted-agrees c o ns e p)

    pub end-space-agrees : (ns : List (List ℕ)) → st.mode ≡ row.end_tag → Placed src at (end_space ns) st m rs → Agree src at st m n rs (move_of st.mode (get_or src at 0)) (step (end_space ns) (get_or src at 0))
    unfolding move_of all_rows step
    end-space-agrees ns e p = at-mode e (on_space (stays v row.end_tag (end_space ns) refl tt p) (on 0x3E (ends-later v ns p.0 p.1 p.2) refused))
