-- Fixed bytes: each letter that the code takes is the definition's. Assumes nothing.
use Prim.Native.Nat.{ℕ, ◌+◌, ◌<◌}
use mathlib.Core.Path.{◌≡◌, refl, ap}
use mathlib.Core.List.{List, [], ◌∷◌}
use mathlib.Core.Bool.{Bool, true, false, cond}
use native.Mathlib.Omega.{arith}
use borrow.Author.Tests.{lt-ltb, le-ltb}
use lib.Dec.{eqb}
use lib.ListN.{get_or}
use Rattle.xml_rep.specs.of_xml_chars.Chars.{lower, Quote}
use Rattle.xml_rep.specs.of_xml_machine.State.{State, decl, literal, letters, Stay, Mark, no, go, Goal, to_marked, to_section, to_equals, to_point, to_chosen}
use Rattle.xml_rep.specs.of_xml_machine.Machine.{in_literal, reached}
use Rattle.xml_rep.specs.of_xml_machine.Tokens.{Marks, marking}
use Rattle.xml_rep.specs.of_xml_stack.Stack.{Range}
use Rattle.xml_rep.specs.of_xml_state.declared.State.{State as Registers}
use Rattle.xml_rep.specs.of_xml_state.declared.Step.{Step}
use Rattle.xml_rep.specs.of_xml_state.declared.Step.TheVariants.{Go, Bad}
use Rattle.xml_rep.specs.of_xml_state.inside.Rows as row
use Rattle.xml_rep.specs.of_xml_state.inside.Registers.{in_mode, at_mark_of, at_word}
use Rattle.xml_rep.specs.of_xml_state.inside.Acts.{words, letter_of, spelled_of, spelling_of, acted_of}
use Rattle.xml_rep.specs.of_xml_state.inside.Puts.{turned, act_on}
use Rattle.xml_rep.specs.inside.Modes.{mode_of}
use Rattle.xml_rep.specs.inside.Rep.{Spells, Spelling, end_of, goal_home, goal_opened, DeclModed, Moded, Homed, Placed, Named, Rep}
use Rattle.xml_rep.specs.inside.Agree.{Does, Agree, wrong, quietly}
use Rattle.xml_agree.proofs.Agreeing.{Level, stayed}

-- ---- the words
pub cdata-spelled : Spells 1 67 (68 ∷ 65 ∷ 84 ∷ 65 ∷ 91 ∷ []) 9
unfolding words
cdata-spelled = (refl, refl, refl, (refl, refl, refl, (refl, refl, refl, (refl, refl, refl, (refl, refl, refl, (refl, refl))))))

pub version-spelled : Spells 8 101 (114 ∷ 115 ∷ 105 ∷ 111 ∷ 110 ∷ []) 10
unfolding words
version-spelled = (refl, refl, refl, (refl, refl, refl, (refl, refl, refl, (refl, refl, refl, (refl, refl, refl, (refl, refl))))))

pub encoding-spelled : Spells 15 110 (99 ∷ 111 ∷ 100 ∷ 105 ∷ 110 ∷ 103 ∷ []) 10
unfolding words
encoding-spelled = (refl, refl, refl, (refl, refl, refl, (refl, refl, refl, (refl, refl, refl, (refl, refl, refl, (refl, refl, refl, (refl, refl)))))))

pub standalone-spelled : Spells 23 116 (97 ∷ 110 ∷ 100 ∷ 97 ∷ 108 ∷ 111 ∷ 110 ∷ 101 ∷ []) 10
unfolding words
standalone-spelled = (refl, refl, refl, (refl, refl, refl, (refl, refl, refl, (refl, refl, refl, (refl, refl, refl, (refl, refl, refl, (refl, refl, refl, (refl, refl, refl, (refl, refl)))))))))

pub point-spelled : Spells 33 49 (46 ∷ []) 10
unfolding words
point-spelled = (refl, refl, refl, (refl, refl))

pub yes-spelled : Spells 36 101 (115 ∷ []) 10
unfolding words
yes-spelled = (refl, refl, refl, (refl, refl))

pub no-spelled : Spells 39 111 [] 10
unfolding words
no-spelled = (refl, refl)

pub order-spelled : Spells 41 0xBB (0xBF ∷ []) 9
unfolding words
order-spelled = (refl, refl, refl, (refl, refl))

pub utf8-spelled : Spells 44 117 (116 ∷ 102 ∷ 45 ∷ 56 ∷ []) 10
unfolding words
utf8-spelled = (refl, refl, refl, (refl, refl, refl, (refl, refl, refl, (refl, refl, refl, (refl, refl)))))

-- ---- a letter
spells-first : (w c : ℕ) (cs : List ℕ) (end : ℕ) → Spells w c cs end → get_or words w 0 ≡ c
spells-first w c [] end s = s.0
spells-first w c (d ∷ cs) end s = s.0

abbrev spelled_by : Registers → ℕ → ℕ → ℕ → ℕ → Step
spelled_by st x c d at =
    cond (eqb x c)
    (cond (eqb d 10) (Go (in_mode st.then st))
    (cond (eqb d 9) (Go (at_mark_of (at + 1) (in_mode st.then st))) (Go (at_word (st.word + 1) st))))
    Bad

spelled-law : (st : Registers) (b at x c d : ℕ) → st.word < 255 → letter_of st.word b ≡ x → get_or words st.word 0 ≡ c → get_or words (st.word + 1) 0 ≡ d → spelled_of st b at ≡ spelled_by st x c d at
unfolding spelled_of
spelled-law st b at x c d w e f g = rw (e, f, g, lt-ltb st.word 255 w) refl

module _ (src : List ℕ) (at : ℕ) {st : Registers} {m : Marks} {n : ℕ} {rs : List Range} where
  letter-stays : (x : Bool) (to : Registers) (u : State) → spelled_of st (get_or src at 0) at ≡ cond x (Go to) Bad → to.top ≡ st.top → to.count ≡ st.count → Rep src (at + 1) to u m n rs →
      Agree src at st m n rs (row.to row.spelled row.letter) (cond x (go Stay u) no)
  unfolding act_on acted_of
  letter-stays true to u e t c r = stayed to u (λ events attributes. ap (λ (y : Step). turned y events attributes) e) t c r
  letter-stays false to u e t c r = wrong (λ events attributes. ap (λ (y : Step). turned y events attributes) e)

  letter-marks : (x : Bool) (u : State) → spelled_of st (get_or src at 0) at ≡ cond x (Go (at_mark_of (at + 1) (in_mode st.then st))) Bad →
      Rep src (at + 1) (at_mark_of (at + 1) (in_mode st.then st)) u (marking (at + 1) m) n rs → Agree src at st m n rs (row.to row.spelled row.letter) (cond x (go Mark u) no)
  unfolding act_on acted_of
  letter-marks true u e r =
      quietly (record { to = at_mark_of (at + 1) (in_mode st.then st); does = λ events attributes. ap (λ (y : Step). turned y events attributes) e; dues = refl; top = refl; count = refl; onward = r })
  letter-marks false u e r = wrong (λ events attributes. ap (λ (y : Step). turned y events attributes) e)

  module _ (v : Level st m n) where
    -- where the fixed bytes end
    reached-agrees : (c : ℕ) (g : Goal) → Spelling (mode_of (reached g)) c [] (end_of g) st → st.word < 44 → st.home ≡ goal_home g → Named src rs (goal_opened g) →
        Agree src at st m n rs (row.to row.spelled row.letter) (in_literal c [] g (get_or src at 0))
    reached-agrees c g s w h p = by g s.1 h p (spelled-law st (get_or src at 0) at (get_or src at 0) c (end_of g) (omega arith) plain s.2.0 s.2.1)
      where
        plain : letter_of st.word (get_or src at 0) ≡ get_or src at 0
        plain = rw (lt-ltb st.word 44 w) refl

        by : (g : Goal) → st.then ≡ mode_of (reached g) → st.home ≡ goal_home g → Named src rs (goal_opened g) → spelled_of st (get_or src at 0) at ≡ spelled_by st (get_or src at 0) c (end_of g) at →
            Agree src at st m n rs (row.to row.spelled row.letter) (in_literal c [] g (get_or src at 0))
        by to_marked t h p e = letter-marks (eqb (get_or src at 0) c) (reached to_marked) e (record { moded = t; homed = h; placed = p; mark = refl; kept = v.kept })
        by (to_section o os) t h p e = letter-marks (eqb (get_or src at 0) c) (reached (to_section o os)) e (record { moded = t; homed = h; placed = p; mark = refl; kept = v.kept })
        by (to_equals i) t h p e = letter-stays (eqb (get_or src at 0) c) (in_mode st.then st) (reached (to_equals i)) e refl refl (record { moded = t; homed = h; placed = p; mark = v.same; kept = v.kept })
        by (to_point q) t h p e = letter-stays (eqb (get_or src at 0) c) (in_mode st.then st) (reached (to_point q)) e refl refl (record { moded = t; homed = h; placed = p; mark = v.same; kept = v.kept })
        by (to_chosen q) t h p e = letter-stays (eqb (get_or src at 0) c) (in_mode st.then st) (reached (to_chosen q)) e refl refl (record { moded = t; homed = h; placed = p; mark = v.same; kept = v.kept })

    pub literal-agrees : (c : ℕ) (cs : List ℕ) (g : Goal) → Moded (literal c cs g) st → st.home ≡ goal_home g → Named src rs (goal_opened g) →
        Agree src at st m n rs (row.to row.spelled row.letter) (in_literal c cs g (get_or src at 0))
    literal-agrees c [] g s h p = reached-agrees c g s.0 (omega (arith, s.1)) h p
    literal-agrees c (d ∷ cs) g s h p =
        let w : st.word < 44 = omega (arith, s.1) in
        let plain : letter_of st.word (get_or src at 0) ≡ get_or src at 0 = rw (lt-ltb st.word 44 w) refl in
        let t = s.0.2 in
        let e = spelled-law st (get_or src at 0) at (get_or src at 0) c d (omega arith) plain t.0 (spells-first (st.word + 1) d cs (end_of g) t.3) in
        letter-stays (eqb (get_or src at 0) c) (at_word (st.word + 1) st) (literal d cs g) (rw (t.1, t.2) at e) refl refl
        (record { moded = ((s.0.0, s.0.1, t.3), omega (arith, s.1)); homed = h; placed = p; mark = v.same; kept = v.kept })

    -- `utf-8` in any letter case
    pub letters-agrees : (q : Quote) (c : ℕ) (cs : List ℕ) → DeclModed (letters q (c ∷ cs)) st → st.home ≡ row.text_before → Named src rs [] →
        Agree src at st m n rs (row.to row.spelled row.letter) (cond (eqb (lower (get_or src at 0)) c) (go Stay (decl (letters q cs))) no)
    letters-agrees q c [] s h p =
        let plain : letter_of st.word (get_or src at 0) ≡ lower (get_or src at 0) = rw (le-ltb st.word 44 s.1) refl in
        let t = s.0.2 in
        let e = spelled-law st (get_or src at 0) at (lower (get_or src at 0)) c 10 (omega (arith, s.2)) plain t.0 t.1 in
        letter-stays (eqb (lower (get_or src at 0)) c) (in_mode st.then st) (decl (letters q [])) e refl refl (record { moded = s.0.1; homed = h; placed = p; mark = v.same; kept = v.kept })
    letters-agrees q c (d ∷ cs) s h p =
        let plain : letter_of st.word (get_or src at 0) ≡ lower (get_or src at 0) = rw (le-ltb st.word 44 s.1) refl in
        let t = s.0.2 in
        let e = spelled-law st (get_or src at 0) at (lower (get_or src at 0)) c d (omega (arith, s.2)) plain t.0 (spells-first (st.word + 1) d cs 10 t.3) in
        letter-stays (eqb (lower (get_or src at 0)) c) (at_word (st.word + 1) st) (decl (letters q (d ∷ cs))) (rw (t.1, t.2) at e) refl refl
        (record { moded = ((s.0.0, s.0.1, t.3), omega (arith, s.1), omega (arith, s.2)); homed = h; placed = p; mark = v.same; kept = v.kept })

    -- the first byte before fixed ones
    pub spells : (k a : ℕ) (u : State) → Does src at st m n rs (row.to k a) (λ events attributes. turned (Go (spelling_of st k a)) events attributes) → Moded u (spelling_of st k a) → Homed u st.home →
        Placed src (at + 1) u (spelling_of st k a) m rs → Agree src at st m n rs (row.to k a) (go Stay u)
    spells k a u d e h p = stayed (spelling_of st k a) u d refl refl (record { moded = e; homed = h; placed = p; mark = v.same; kept = v.kept })
