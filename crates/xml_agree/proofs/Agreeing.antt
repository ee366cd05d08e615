-- One law an act: what it takes for a move to agree with a step. Assumes nothing.
use Prim.Native.Nat.{ℕ, ◌+◌}
use mathlib.Core.Path.{◌≡◌, refl, sym, ap, subst}
use mathlib.Core.List.{List}
use mathlib.Core.Bool.{Bool, true, false, cond}
use lib.Dec.{eqb}
use lib.ListN.{get_or}
use Rattle.xml_rep.specs.of_xml_chars.Chars.{is_space, is_digit, is_hex, lower}
use Rattle.xml_rep.specs.of_xml_machine.State.{State, Stay, Mark, EndText, TextMark, Name, Key, Next, no, go}
use Rattle.xml_rep.specs.of_xml_machine.Tokens.{Marks, marking, naming, keying, text_due}
use Rattle.xml_rep.specs.of_xml_stack.Stack.{Range}
use Rattle.xml_rep.specs.of_xml_state.declared.Part.{Part as Open}
use Rattle.xml_rep.specs.of_xml_state.declared.Move.{Move}
use Rattle.xml_rep.specs.of_xml_state.declared.State.{State as Registers}
use Rattle.xml_rep.specs.of_xml_state.declared.Step.TheVariants.{Go}
use Rattle.xml_rep.specs.of_xml_state.inside.Rows as row
use Rattle.xml_rep.specs.of_xml_state.inside.Registers.{in_mode, at_mark_of, to_then, with_part, with_count}
use Rattle.xml_rep.specs.of_xml_state.inside.Acts.{named_of, keyed_of, quoted_of, acted_of}
use Rattle.xml_rep.specs.of_xml_state.inside.Puts.{turned, fresh_of, act_on}
use Rattle.xml_rep.specs.inside.Rep.{Moded, Homed, Placed, Rep}
use Rattle.xml_rep.specs.inside.Agree.{Does, Agree, wrong, quietly, texting}

-- the registers that a character of more than one byte uses
abbrev pub moved : ℕ → ℕ → Open → Registers → Registers
moved k t p s = with_part p (to_then t (in_mode k s))

-- the mark, and the number of attributes
pub record Level (st : Registers) (m : Marks) (n : ℕ) : Type 0 where
  pub same : st.mark ≡ m.mark
  pub kept : st.kept ≡ n

module _ {src : List ℕ} {at : ℕ} {st : Registers} {m : Marks} {n : ℕ} {rs : List Range} where
  pub at-mode : {k : ℕ} {nx : Next} → st.mode ≡ k → Agree src at st m n rs (row.move_of k (get_or src at 0)) nx → Agree src at st m n rs (row.move_of st.mode (get_or src at 0)) nx
  at-mode {nx = nx} e a = subst (λ (k : ℕ). Agree src at st m n rs (row.move_of k (get_or src at 0)) nx) (sym e) a

  pub either : (x : Bool) {mv mv' : Move} {nx nx' : Next} → Agree src at st m n rs mv nx → Agree src at st m n rs mv' nx' → Agree src at st m n rs (cond x mv mv') (cond x nx nx')
  either true p q = p
  either false p q = q

  -- where what follows depends on the test
  pub given : (x : Bool) {mv mv' : Move} {nx nx' : Next} → (x ≡ true → Agree src at st m n rs mv nx) → (x ≡ false → Agree src at st m n rs mv' nx') →
      Agree src at st m n rs (cond x mv mv') (cond x nx nx')
  given true p q = p refl
  given false p q = q refl

  -- the tests of the byte
  pub on : (c : ℕ) {mv mv' : Move} {nx nx' : Next} → Agree src at st m n rs mv nx → Agree src at st m n rs mv' nx' → Agree src at st m n rs (cond (eqb (get_or src at 0) c) mv mv') (cond (eqb (get_or src at 0) c) nx nx')
  on c p q = either (eqb (get_or src at 0) c) p q

  pub on-lower : (c : ℕ) {mv mv' : Move} {nx nx' : Next} → Agree src at st m n rs mv nx → Agree src at st m n rs mv' nx' → Agree src at st m n rs (cond (eqb (lower (get_or src at 0)) c) mv mv') (cond (eqb (lower (get_or src at 0)) c) nx nx')
  on-lower c p q = either (eqb (lower (get_or src at 0)) c) p q

  pub on_space : {mv mv' : Move} {nx nx' : Next} → Agree src at st m n rs mv nx → Agree src at st m n rs mv' nx' → Agree src at st m n rs (cond (is_space (get_or src at 0)) mv mv') (cond (is_space (get_or src at 0)) nx nx')
  on_space p q = either (is_space (get_or src at 0)) p q

  pub on-digit : {mv mv' : Move} {nx nx' : Next} → Agree src at st m n rs mv nx → Agree src at st m n rs mv' nx' → Agree src at st m n rs (cond (is_digit (get_or src at 0)) mv mv') (cond (is_digit (get_or src at 0)) nx nx')
  on-digit p q = either (is_digit (get_or src at 0)) p q

  pub on_hex : {mv mv' : Move} {nx nx' : Next} → Agree src at st m n rs mv nx → Agree src at st m n rs mv' nx' → Agree src at st m n rs (cond (is_hex (get_or src at 0)) mv mv') (cond (is_hex (get_or src at 0)) nx nx')
  on_hex p q = either (is_hex (get_or src at 0)) p q

  pub refused : Agree src at st m n rs row.bad no
  unfolding act_on acted_of
  refused = wrong (λ events attributes. refl)

  -- the registers alone change, and nothing is marked
  pub stayed : {mv : Move} (to : Registers) (u : State) → Does src at st m n rs mv (λ events attributes. turned (Go to) events attributes) → to.top ≡ st.top → to.count ≡ st.count →
      Rep src (at + 1) to u m n rs → Agree src at st m n rs mv (go Stay u)
  stayed to u d t c r = quietly (record { to = to; does = d; dues = refl; top = t; count = c; onward = r })

  module _ (v : Level st m n) where
    pub stays : (k : ℕ) (u : State) → Moded u (in_mode k st) → Homed u st.home → Placed src (at + 1) u (in_mode k st) m rs → Agree src at st m n rs (row.to k row.stay) (go Stay u)
    stays k u e h p = stayed (in_mode k st) u (λ events attributes. refl) refl refl (record { moded = e; homed = h; placed = p; mark = v.same; kept = v.kept })

    pub marks : (k : ℕ) (u : State) → Moded u (at_mark_of (at + 1) (in_mode k st)) → Homed u st.home → Placed src (at + 1) u (at_mark_of (at + 1) (in_mode k st)) (marking (at + 1) m) rs →
        Agree src at st m n rs (row.to k row.marked) (go Mark u)
    unfolding act_on acted_of
    marks k u e h p =
        quietly (record { to = at_mark_of (at + 1) (in_mode k st); does = λ events attributes. refl; dues = refl; top = refl; count = refl; onward = record { moded = e; homed = h; placed = p; mark = refl; kept = v.kept } })

    pub names : (k : ℕ) (u : State) → Moded u (named_of st k at) → Homed u st.home → Placed src (at + 1) u (named_of st k at) (naming at n m) rs →
        Agree src at st m n rs (row.to k row.name_end) (go Name u)
    unfolding act_on acted_of
    names k u e h p =
        quietly (record { to = named_of st k at; does = λ events attributes. refl; dues = refl; top = refl; count = refl; onward = record { moded = e; homed = h; placed = p; mark = v.same; kept = v.kept } })

    pub keys : (k : ℕ) (u : State) → Moded u (keyed_of st k at) → Homed u st.home → Placed src (at + 1) u (keyed_of st k at) (keying at m) rs →
        Agree src at st m n rs (row.to k row.key_end) (go Key u)
    unfolding act_on acted_of
    keys k u e h p =
        quietly (record { to = keyed_of st k at; does = λ events attributes. refl; dues = refl; top = refl; count = refl; onward = record { moded = e; homed = h; placed = p; mark = v.same; kept = v.kept } })

    pub quotes : (k : ℕ) (u : State) → Moded u (quoted_of st k at) → Homed u k → Placed src (at + 1) u (quoted_of st k at) (marking (at + 1) m) rs →
        Agree src at st m n rs (row.to k row.quoted) (go Mark u)
    unfolding act_on acted_of
    quotes k u e h p =
        quietly (record { to = quoted_of st k at; does = λ events attributes. refl; dues = refl; top = refl; count = refl; onward = record { moded = e; homed = h; placed = p; mark = refl; kept = v.kept } })

    pub ends-text : (k : ℕ) (u : State) → ((count : ℕ) → Moded u (with_count count (fresh_of st k at))) → Homed u st.home →
        ((count : ℕ) → Placed src (at + 1) u (with_count count (fresh_of st k at)) (marking (at + 1) m) rs) → Agree src at st m n rs (row.to k row.text_end) (go EndText u)
    unfolding act_on
    ends-text k u e h p =
        texting (record { does = λ events attributes. refl; dues = ap (λ (x : ℕ). text_due x at) (sym v.same); onward = λ count. record { moded = e count; homed = h; placed = p count; mark = refl; kept = v.kept } })

    pub marks-text : (k : ℕ) (u : State) → ((count : ℕ) → Moded u (with_count count (fresh_of st k at))) → Homed u st.home →
        ((count : ℕ) → Placed src (at + 1) u (with_count count (fresh_of st k at)) (marking (at + 1) m) rs) → Agree src at st m n rs (row.to k row.text_end) (go TextMark u)
    unfolding act_on
    marks-text k u e h p =
        texting (record { does = λ events attributes. refl; dues = ap (λ (x : ℕ). text_due x at) (sym v.same); onward = λ count. record { moded = e count; homed = h; placed = p count; mark = refl; kept = v.kept } })
