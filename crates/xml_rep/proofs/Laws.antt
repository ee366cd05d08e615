-- What the relation says of the mode: its range, and what a refusal and the end of the source ask of it. Assumes nothing.
use Prim.Native.Nat.{ℕ, zero, suc, ◌-◌, ◌≤◌, ◌<◌}
use mathlib.Core.Path.{◌≡◌, refl, sym, ap, ◌∙◌}
use mathlib.Core.List.{List, [], ◌∷◌}
use mathlib.Core.Bool.{Bool, true, false, cond, ◌&&◌, ◌||◌}
use native.Mathlib.Omega.{arith}
use lib.Dec.{leb, ltb, eqb}
use borrow.Author.Tests.{leb-true, ltb-true}
use Rattle.xml_state.specs.of_table.Kinds as kind
use Rattle.xml_state.specs.of_xml_chars.Chars.{single, double}
use Rattle.xml_state.specs.of_xml_chars.Bytes.{Part, whole, part}
use Rattle.xml_state.specs.of_xml_machine.State.{Brackets, b0, b1, b2, Letters, x0, x1, x2, x3, Place, before, after, inside}
use Rattle.xml_state.specs.of_xml_machine.State.{State, fresh, marked, lt_first, heading, decl, literal, prolog, epilog, text, lt, misc, section, ref, tag, ending, end_space}
use Rattle.xml_state.specs.of_xml_machine.State.{InMisc, bang, dash, remark0, remark1, remark2, target, named, pi_data, pi_query, pi_close, InRef, ampersand, ref_name, hash, digits, hash_x, hexes}
use Rattle.xml_state.specs.of_xml_machine.State.{version, encoding, standalone, InDecl, opening, equals, quoting, point, digit, letters, choice, chosen, valued, between}
use Rattle.xml_state.specs.of_xml_machine.State.{InTag, name, gap, slash, key, key_eq, quote, value, value_end}
use Rattle.xml_state.specs.of_xml_machine.Machine.{done}
use Rattle.xml_state.specs.of_xml_machine.Runs.{at_bang}
use Rattle.xml_state.specs.of_xml_machine.Tokens.{Marks, no_marks, Due, nothing, event, over, text_due, open_run}
use Rattle.xml_state.specs.of_xml_stack.Stack.{Range}
use Rattle.xml_state.specs.declared.State.{State as Registers}
use Rattle.xml_state.specs.inside.Rows as row
use Rattle.xml_state.specs.inside.Registers.{beginning}
use Rattle.xml_state.specs.inside.Turns.{run_mode}
use Rattle.xml_rep.specs.inside.Modes.{misc_mode, ref_mode, tag_mode, text_mode, section_mode, head_mode, lt_mode}
use Rattle.xml_rep.specs.inside.Rep.{Partly, DeclModed, Moded, Placed, no_name_of, Rep}

pub at_first : (src : List ℕ) → Rep src 0 beginning fresh no_marks 0 []
at_first src = record { moded = refl; homed = refl; placed = no_name_of; mark = refl; kept = refl }

-- the tests of a mode, and where it leads back to
abbrev tests : ℕ → ℕ → List Bool
tests k t =
    leb 48 k ∷ ltb k 122 ∷ (eqb k row.bang_out || eqb k row.bang_in) ∷ eqb k row.text_after_of ∷ leb (cond (eqb k row.within) t k) row.text_shut2 ∷ []

-- a run of text may be open
abbrev runs : State → Bool
runs fresh = false
runs marked = false
runs lt_first = false
runs (heading x) = false
runs (decl d) = false
runs (literal c cs g) = false
runs prolog = true
runs epilog = true
runs (text k p n ns) = true
runs (lt pl) = false
runs (misc m p pl) = false
runs (section k p n ns) = false
runs (ref m p h) = false
runs (tag m p n ns) = false
runs (ending n ns) = false
runs (end_space ns) = false

abbrev answers : State → List Bool
answers s = true ∷ true ∷ at_bang s ∷ done s ∷ runs s ∷ []

abbrev nowhere : List Bool
nowhere = true ∷ true ∷ false ∷ false ∷ false ∷ []

abbrev Right : Registers → List Bool → Type 0
Right st x = tests st.mode st.then ≡ x

told : (st : Registers) (k : ℕ) → st.mode ≡ k → (x : List Bool) → tests k st.then ≡ x → Right st x
told st k e x h = ap (λ (j : ℕ). tests j st.then) e ∙ h

back : (st : Registers) (k : ℕ) → st.mode ≡ row.within → st.then ≡ k → (x : List Bool) → tests row.within k ≡ x → Right st x
back st k e t x h = ap (λ (j : ℕ). tests j st.then) e ∙ ap (tests row.within) t ∙ h

decl-told : (d : InDecl) (st : Registers) → DeclModed d st → Right st nowhere
decl-told opening st e = told st _ e _ refl
decl-told (equals version) st e = told st _ e _ refl
decl-told (equals encoding) st e = told st _ e _ refl
decl-told (equals standalone) st e = told st _ e _ refl
decl-told (quoting version) st e = told st _ e _ refl
decl-told (quoting encoding) st e = told st _ e _ refl
decl-told (quoting standalone) st e = told st _ e _ refl
decl-told (point double) st e = told st _ e _ refl
decl-told (point single) st e = told st _ e _ refl
decl-told (digit double) st e = told st _ e _ refl
decl-told (digit single) st e = told st _ e _ refl
decl-told (letters double []) st e = told st _ e _ refl
decl-told (letters single []) st e = told st _ e _ refl
decl-told (letters q (c ∷ cs)) st e = told st _ e.0.0 _ refl
decl-told (choice double) st e = told st _ e _ refl
decl-told (choice single) st e = told st _ e _ refl
decl-told (chosen double) st e = told st _ e _ refl
decl-told (chosen single) st e = told st _ e _ refl
decl-told (valued version) st e = told st _ e _ refl
decl-told (valued encoding) st e = told st _ e _ refl
decl-told (valued standalone) st e = told st _ e _ refl
decl-told (between version) st e = told st _ e _ refl
decl-told (between encoding) st e = told st _ e _ refl
decl-told (between standalone) st e = told st _ e _ refl

heading-told : (x : Letters) (st : Registers) → st.mode ≡ head_mode x → Right st nowhere
heading-told x0 st e = told st _ e _ refl
heading-told x1 st e = told st _ e _ refl
heading-told x2 st e = told st _ e _ refl
heading-told x3 st e = told st _ e _ refl

lt-told : (pl : Place) (st : Registers) → st.mode ≡ lt_mode pl → Right st nowhere
lt-told before st e = told st _ e _ refl
lt-told after st e = told st _ e _ refl
lt-told (inside n ns) st e = told st _ e _ refl

-- a character may stand open; a mode where no run is, and no `<!`
partly-told : (p : Part) (k : ℕ) (st : Registers) → Partly p k st → tests k st.then ≡ nowhere → tests row.within k ≡ nowhere → Right st nowhere
partly-told whole k st e h g = told st k e _ h
partly-told (part cls low l least) k st e h g = back st k e.0 e.1 _ g

text-told : (k : Brackets) (p : Part) (st : Registers) → Partly p (text_mode k) st → Right st (true ∷ true ∷ false ∷ false ∷ true ∷ [])
text-told b0 whole st e = told st _ e _ refl
text-told b1 whole st e = told st _ e _ refl
text-told b2 whole st e = told st _ e _ refl
text-told b0 (part cls low l least) st e = back st _ e.0 e.1 _ refl
text-told b1 (part cls low l least) st e = back st _ e.0 e.1 _ refl
text-told b2 (part cls low l least) st e = back st _ e.0 e.1 _ refl

section-told : (k : Brackets) (p : Part) (st : Registers) → Partly p (section_mode k) st → Right st nowhere
section-told b0 p st e = partly-told p _ st e refl refl
section-told b1 p st e = partly-told p _ st e refl refl
section-told b2 p st e = partly-told p _ st e refl refl

ref-told : (m : InRef) (p : Part) (st : Registers) → Partly p (ref_mode m) st → Right st nowhere
ref-told ampersand p st e = partly-told p _ st e refl refl
ref-told ref_name p st e = partly-told p _ st e refl refl
ref-told hash p st e = partly-told p _ st e refl refl
ref-told digits p st e = partly-told p _ st e refl refl
ref-told hash_x p st e = partly-told p _ st e refl refl
ref-told hexes p st e = partly-told p _ st e refl refl

tag-told : (m : InTag) (p : Part) (st : Registers) → Partly p (tag_mode m) st → Right st nowhere
tag-told name p st e = partly-told p _ st e refl refl
tag-told gap p st e = partly-told p _ st e refl refl
tag-told slash p st e = partly-told p _ st e refl refl
tag-told key p st e = partly-told p _ st e refl refl
tag-told key_eq p st e = partly-told p _ st e refl refl
tag-told quote p st e = partly-told p _ st e refl refl
tag-told (value double) p st e = partly-told p _ st e refl refl
tag-told (value single) p st e = partly-told p _ st e refl refl
tag-told value_end p st e = partly-told p _ st e refl refl

misc-told : (m : InMisc) (p : Part) (pl : Place) (st : Registers) → Partly p (misc_mode m pl) st → Right st (answers (misc m p pl))
misc-told bang whole before st e = told st _ e _ refl
misc-told bang whole after st e = told st _ e _ refl
misc-told bang whole (inside n ns) st e = told st _ e _ refl
misc-told bang (part cls low l least) before st e = back st _ e.0 e.1 _ refl
misc-told bang (part cls low l least) after st e = back st _ e.0 e.1 _ refl
misc-told bang (part cls low l least) (inside n ns) st e = back st _ e.0 e.1 _ refl
misc-told dash p pl st e = partly-told p _ st e refl refl
misc-told remark0 p pl st e = partly-told p _ st e refl refl
misc-told remark1 p pl st e = partly-told p _ st e refl refl
misc-told remark2 p pl st e = partly-told p _ st e refl refl
misc-told (target x0) p pl st e = partly-told p _ st e refl refl
misc-told (target x1) p pl st e = partly-told p _ st e refl refl
misc-told (target x2) p pl st e = partly-told p _ st e refl refl
misc-told (target x3) p pl st e = partly-told p _ st e refl refl
misc-told named p pl st e = partly-told p _ st e refl refl
misc-told pi_data p pl st e = partly-told p _ st e refl refl
misc-told pi_query p pl st e = partly-told p _ st e refl refl
misc-told pi_close p pl st e = partly-told p _ st e refl refl

moded-told : (s : State) (st : Registers) → Moded s st → Right st (answers s)
moded-told fresh st e = told st _ e _ refl
moded-told marked st e = told st _ e _ refl
moded-told lt_first st e = told st _ e _ refl
moded-told (heading x) st e = heading-told x st e
moded-told (decl d) st e = decl-told d st e
moded-told (literal c cs g) st e = told st _ e.0.0 _ refl
moded-told prolog st e = told st _ e _ refl
moded-told epilog st e = told st _ e _ refl
moded-told (text k p n ns) st e = text-told k p st e
moded-told (lt pl) st e = lt-told pl st e
moded-told (misc m p pl) st e = misc-told m p pl st e
moded-told (section k p n ns) st e = section-told k p st e
moded-told (ref m p h) st e = ref-told m p st e
moded-told (tag m p n ns) st e = tag-told m p st e
moded-told (ending [] ns) st e = told st _ e _ refl
moded-told (ending (c ∷ n) ns) st e = told st _ e _ refl
moded-told (end_space ns) st e = told st _ e _ refl

abbrev nth : ℕ → List Bool → Bool
nth k [] = true
nth zero (x ∷ xs) = x
nth (suc k) (x ∷ xs) = nth k xs

open-run : (s : State) (mark at : ℕ) → open_run s mark at ≡ cond (runs s) (text_due mark at) nothing
open-run fresh mark at = refl
open-run marked mark at = refl
open-run lt_first mark at = refl
open-run (heading x) mark at = refl
open-run (decl d) mark at = refl
open-run (literal c cs g) mark at = refl
open-run prolog mark at = refl
open-run epilog mark at = refl
open-run (text k p n ns) mark at = refl
open-run (lt pl) mark at = refl
open-run (misc m p pl) mark at = refl
open-run (section k p n ns) mark at = refl
open-run (ref m p h) mark at = refl
open-run (tag m p n ns) mark at = refl
open-run (ending n ns) mark at = refl
open-run (end_space ns) mark at = refl

cond-and : (a c : Bool) (x y : Due) → cond a (cond c x y) y ≡ cond (a && c) x y
cond-and true c x y = refl
cond-and false c x y = refl

never : {A : Type 0} → false ≡ true → A
never e = let z : ◌≡◌ {A = ℕ} 0 1 = cc in absurd (omega arith)

done-named : (src : List ℕ) (at : ℕ) (s : State) (st : Registers) (m : Marks) (rs : List Range) → Placed src at s st m rs → done s ≡ true → rs ≡ []
done-named src at epilog st m rs no_name_of e = refl
done-named src at fresh st m rs p e = never e
done-named src at marked st m rs p e = never e
done-named src at lt_first st m rs p e = never e
done-named src at (heading x) st m rs p e = never e
done-named src at (decl d) st m rs p e = never e
done-named src at (literal c cs g) st m rs p e = never e
done-named src at prolog st m rs p e = never e
done-named src at (text k q n ns) st m rs p e = never e
done-named src at (lt pl) st m rs p e = never e
done-named src at (misc k q pl) st m rs p e = never e
done-named src at (section k q n ns) st m rs p e = never e
done-named src at (ref k q h) st m rs p e = never e
done-named src at (tag k q n ns) st m rs p e = never e
done-named src at (ending n ns) st m rs p e = never e
done-named src at (end_space ns) st m rs p e = never e

module _ {src : List ℕ} {at : ℕ} {st : Registers} {s : State} {m : Marks} {n : ℕ} {rs : List Range} (r : Rep src at st s m n rs) where
  answer : (k : ℕ) → nth k (tests st.mode st.then) ≡ nth k (answers s)
  answer k = ap (nth k) (moded-told s st r.moded)

  pub mode-range : (48 ≤ st.mode) × (st.mode < 122)
  mode-range = (leb-true 48 st.mode (answer 0), ltb-true st.mode 122 (answer 1))

  pub bang-law : (eqb st.mode row.bang_out || eqb st.mode row.bang_in) ≡ at_bang s
  bang-law = answer 2

  pub done-law : eqb st.mode row.text_after_of ≡ done s
  done-law = answer 3

  pub done_none : done s ≡ true → rs ≡ []
  done_none e = done-named src at s st m rs r.placed e

  pub run-law : open_run s m.mark at ≡ cond (leb (run_mode st) row.text_shut2 && ltb st.mark at) (event (over kind.text st.mark at)) nothing
  run-law =
      open-run s m.mark at ∙ ap (λ (k : ℕ). cond (runs s) (text_due k at) nothing) (sym r.mark) ∙ ap (λ (x : Bool). cond x (text_due st.mark at) nothing) (sym (answer 4))
      ∙ cond-and (leb (run_mode st) row.text_shut2) (ltb st.mark at) (event (over kind.text st.mark at)) nothing
