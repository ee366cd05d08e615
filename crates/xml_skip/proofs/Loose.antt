-- The modes in which any character beyond ASCII may stand. Assumes nothing.
use Prim.Native.Nat.{ℕ, ◌≤◌, ◌<◌}
use mathlib.Core.Path.{◌≡◌, refl, sym, ap, ◌∙◌}
use mathlib.Core.List.{List, [], ◌∷◌}
use mathlib.Core.Bool.{true, false, false≢true}
use native.Mathlib.Omega.{arith}
use borrow.Author.Tests.{ne_eqb}
use Rattle.xml_agree.specs.of_utf8.Characters.{encode}
use Rattle.xml_agree.specs.of_xml_chars.Chars.{is_in, any_char, Quote, single, double}
use Rattle.xml_agree.specs.of_xml_chars.Bytes.{whole, part}
use Rattle.xml_agree.proofs.of_xml_chars.CharLaws.{in-scalar}
use Rattle.xml_agree.specs.of_xml_machine.State as state
use Rattle.xml_agree.specs.of_xml_machine.State.{b0, b1, b2, Letters, x0, x1, x2, x3, Place, before, after, inside, Stay}
use Rattle.xml_agree.specs.of_xml_machine.State.{State, fresh, marked, lt_first, heading, decl, literal, prolog, epilog, text, lt, misc, section, ref, tag, ending, end_space}
use Rattle.xml_agree.specs.of_xml_machine.State.{InMisc, bang, dash, remark0, remark1, remark2, target, named, pi_data, pi_query, pi_close, InRef, ampersand, ref_name, hash, digits, hash_x, hexes}
use Rattle.xml_agree.specs.of_xml_machine.State.{version, encoding, standalone, InDecl, opening, equals, quoting, point, digit, letters, choice, chosen, valued, between}
use Rattle.xml_agree.specs.of_xml_machine.State.{name, gap, slash, key, key_eq, quote, value, value_end}
use Rattle.xml_agree.specs.of_xml_machine.Machine.{char, in_text, in_section, in_misc, in_tag, step}
use Rattle.xml_agree.specs.of_xml_machine.Tokens.{Marks}
use Rattle.xml_agree.proofs.of_xml_machine.Stays.{Stays, takes-stays}
use Rattle.xml_agree.proofs.of_xml_machine.Characters.{char-takes}
use Rattle.xml_agree.proofs.of_xml_machine.Carries.{text-carries, section-carries, misc-carries, tag-carries}
use Rattle.xml_agree.specs.of_xml_stack.Stack.{Range}
use Rattle.xml_checks.specs.of_xml_state.declared.State.{State as Registers}
use Rattle.xml_agree.specs.of_xml_rep.inside.Modes.{head_mode, lt_mode, misc_mode, ref_mode, end_mode}
use Rattle.xml_agree.specs.of_xml_rep.inside.Rep.{DeclModed, Moded, Placed}
use Rattle.xml_skip.specs.inside.Passes.{loose}

-- their states
pub data Loose : State → Type 0 where
  in-text : (n : List ℕ) (ns : List (List ℕ)) → Loose (text b0 whole n ns)
  in-value : (q : Quote) (n : List ℕ) (ns : List (List ℕ)) → Loose (tag (value q) whole n ns)
  in-section : (n : List ℕ) (ns : List (List ℕ)) → Loose (section b0 whole n ns)
  in_remark : (pl : Place) → Loose (misc remark0 whole pl)
  in_data : (pl : Place) → Loose (misc pi_data whole pl)

-- ---- no other state has such a mode
unless : {A : Type 0} {m k : ℕ} → m ≡ k → loose k ≡ false → loose m ≡ true → A
unless e f t = absurd (false≢true (sym f ∙ ap loose (sym e) ∙ t))

head-not : (x : Letters) → loose (head_mode x) ≡ false
head-not x0 = refl
head-not x1 = refl
head-not x2 = refl
head-not x3 = refl

lt_not : (pl : Place) → loose (lt_mode pl) ≡ false
lt_not before = refl
lt_not after = refl
lt_not (inside n ns) = refl

ref-not : (m : InRef) → loose (ref_mode m) ≡ false
ref-not ampersand = refl
ref-not ref_name = refl
ref-not hash = refl
ref-not digits = refl
ref-not hash_x = refl
ref-not hexes = refl

end-not : (n : List ℕ) → loose (end_mode n) ≡ false
end-not [] = refl
end-not (c ∷ n) = refl

decl-not : {A : Type 0} (d : InDecl) (st : Registers) → DeclModed d st → loose st.mode ≡ true → A
decl-not opening st e t = unless e refl t
decl-not (equals version) st e t = unless e refl t
decl-not (equals encoding) st e t = unless e refl t
decl-not (equals standalone) st e t = unless e refl t
decl-not (quoting version) st e t = unless e refl t
decl-not (quoting encoding) st e t = unless e refl t
decl-not (quoting standalone) st e t = unless e refl t
decl-not (point single) st e t = unless e refl t
decl-not (point double) st e t = unless e refl t
decl-not (digit single) st e t = unless e refl t
decl-not (digit double) st e t = unless e refl t
decl-not (letters single []) st e t = unless e refl t
decl-not (letters double []) st e t = unless e refl t
decl-not (letters q (c ∷ cs)) st e t = unless e.0.0 refl t
decl-not (choice single) st e t = unless e refl t
decl-not (choice double) st e t = unless e refl t
decl-not (chosen single) st e t = unless e refl t
decl-not (chosen double) st e t = unless e refl t
decl-not (valued version) st e t = unless e refl t
decl-not (valued encoding) st e t = unless e refl t
decl-not (valued standalone) st e t = unless e refl t
decl-not (between version) st e t = unless e refl t
decl-not (between encoding) st e t = unless e refl t
decl-not (between standalone) st e t = unless e refl t

misc-loose : (m : InMisc) (pl : Place) (st : Registers) → st.mode ≡ misc_mode m pl → loose st.mode ≡ true → Loose (misc m whole pl)
misc-loose bang before st e t = unless e refl t
misc-loose bang after st e t = unless e refl t
misc-loose bang (inside n ns) st e t = unless e refl t
misc-loose dash pl st e t = unless e refl t
misc-loose remark0 pl st e t = in_remark pl
misc-loose remark1 pl st e t = unless e refl t
misc-loose remark2 pl st e t = unless e refl t
misc-loose (target x0) pl st e t = unless e refl t
misc-loose (target x1) pl st e t = unless e refl t
misc-loose (target x2) pl st e t = unless e refl t
misc-loose (target x3) pl st e t = unless e refl t
misc-loose named pl st e t = unless e refl t
misc-loose pi_data pl st e t = in_data pl
misc-loose pi_query pl st e t = unless e refl t
misc-loose pi_close pl st e t = unless e refl t

pub is-loose : (s : State) (st : Registers) → Moded s st → loose st.mode ≡ true → Loose s
is-loose fresh st e t = unless e refl t
is-loose marked st e t = unless e refl t
is-loose lt_first st e t = unless e refl t
is-loose (heading x) st e t = unless e (head-not x) t
is-loose (decl d) st e t = decl-not d st e t
is-loose (literal c cs g) st e t = unless e.0.0 refl t
is-loose prolog st e t = unless e refl t
is-loose epilog st e t = unless e refl t
is-loose (text b0 whole n ns) st e t = in-text n ns
is-loose (text b1 whole n ns) st e t = unless e refl t
is-loose (text b2 whole n ns) st e t = unless e refl t
is-loose (text k (part cls low l least) n ns) st e t = unless e.0 refl t
is-loose (lt pl) st e t = unless e (lt_not pl) t
is-loose (misc m whole pl) st e t = misc-loose m pl st e t
is-loose (misc m (part cls low l least) pl) st e t = unless e.0 refl t
is-loose (section b0 whole n ns) st e t = in-section n ns
is-loose (section b1 whole n ns) st e t = unless e refl t
is-loose (section b2 whole n ns) st e t = unless e refl t
is-loose (section k (part cls low l least) n ns) st e t = unless e.0 refl t
is-loose (ref m whole h) st e t = unless e (ref-not m) t
is-loose (ref m (part cls low l least) h) st e t = unless e.0 refl t
is-loose (tag name whole n ns) st e t = unless e refl t
is-loose (tag gap whole n ns) st e t = unless e refl t
is-loose (tag slash whole n ns) st e t = unless e refl t
is-loose (tag key whole n ns) st e t = unless e refl t
is-loose (tag key_eq whole n ns) st e t = unless e refl t
is-loose (tag quote whole n ns) st e t = unless e refl t
is-loose (tag (value q) whole n ns) st e t = in-value q n ns
is-loose (tag value_end whole n ns) st e t = unless e refl t
is-loose (tag m (part cls low l least) n ns) st e t = unless e.0 refl t
is-loose (ending n ns) st e t = unless e (end-not n) t
is-loose (end_space ns) st e t = unless e refl t

-- ---- a character beyond ASCII leaves such a state as it is
text-high : (n : List ℕ) (ns : List (List ℕ)) (b : ℕ) → 0xC0 ≤ b → step (text b0 whole n ns) b ≡ char any_char b Stay (λ p. text b0 p n ns) state.no
unfolding step in_text
text-high n ns b h = simp (ne_eqb b 0x3C (omega arith), ne_eqb b 0x26 (omega arith), ne_eqb b 0x5D (omega arith), ne_eqb b 0x3E (omega arith))

section-high : (n : List ℕ) (ns : List (List ℕ)) (b : ℕ) → 0xC0 ≤ b → step (section b0 whole n ns) b ≡ char any_char b Stay (λ p. section b0 p n ns) state.no
unfolding step in_section
section-high n ns b h = simp (ne_eqb b 0x5D (omega arith), ne_eqb b 0x3E (omega arith))

remark-high : (pl : Place) (b : ℕ) → 0xC0 ≤ b → step (misc remark0 whole pl) b ≡ char any_char b Stay (λ p. misc remark0 p pl) state.no
unfolding step in_misc
remark-high pl b h = simp (ne_eqb b 0x2D (omega arith))

data-high : (pl : Place) (b : ℕ) → 0xC0 ≤ b → step (misc pi_data whole pl) b ≡ char any_char b Stay (λ p. misc pi_data p pl) state.no
unfolding step in_misc
data-high pl b h = simp (ne_eqb b 0x3F (omega arith))

value-high : (q : Quote) (n : List ℕ) (ns : List (List ℕ)) (b : ℕ) → 0xC0 ≤ b → step (tag (value q) whole n ns) b ≡ char any_char b Stay (λ p. tag (value q) p n ns) state.no
unfolding step in_tag
value-high single n ns b h = simp (ne_eqb b 0x27 (omega arith), ne_eqb b 0x26 (omega arith), ne_eqb b 0x3C (omega arith))
value-high double n ns b h = simp (ne_eqb b 0x22 (omega arith), ne_eqb b 0x26 (omega arith), ne_eqb b 0x3C (omega arith))

never : {A : Type 0} (c : ℕ) → 0x80 ≤ c → c < 0x80 → A
never c h k = let z : ⊥ = omega arith in absurd z

pub loose-stays : {s : State} → Loose s → (c : ℕ) → 0x80 ≤ c → is_in any_char c ≡ true → Stays s (encode c) s
loose-stays (in-text n ns) c h m =
    takes-stays (char-takes (text b0 whole n ns) (λ bs p. text b0 p n ns) (text-carries b0 n ns) any_char Stay (λ b. state.no) c (λ i. never c h i) (λ b i. text-high n ns b i) m (in-scalar c m))
loose-stays (in-value q n ns) c h m =
    takes-stays (char-takes (tag (value q) whole n ns) (λ bs p. tag (value q) p n ns) (tag-carries (value q) n ns)
    any_char Stay (λ b. state.no) c (λ i. never c h i) (λ b i. value-high q n ns b i) m (in-scalar c m))
loose-stays (in-section n ns) c h m =
    takes-stays (char-takes (section b0 whole n ns) (λ bs p. section b0 p n ns) (section-carries b0 n ns)
    any_char Stay (λ b. state.no) c (λ i. never c h i) (λ b i. section-high n ns b i) m (in-scalar c m))
loose-stays (in_remark pl) c h m =
    takes-stays (char-takes (misc remark0 whole pl) (λ bs p. misc remark0 p pl) (misc-carries remark0 pl)
    any_char Stay (λ b. state.no) c (λ i. never c h i) (λ b i. remark-high pl b i) m (in-scalar c m))
loose-stays (in_data pl) c h m =
    takes-stays (char-takes (misc pi_data whole pl) (λ bs p. misc pi_data p pl) (misc-carries pi_data pl) any_char Stay (λ b. state.no) c (λ i. never c h i) (λ b i. data-high pl b i) m (in-scalar c m))

-- what the registers say in such a state doesn't depend on the place
pub loose-placed : {s : State} (src : List ℕ) (at to : ℕ) (st : Registers) (m : Marks) (rs : List Range) → Loose s → Placed src at s st m rs → Placed src to s st m rs
loose-placed src at to st m rs (in-text n ns) p = p
loose-placed src at to st m rs (in-value q n ns) p = p
loose-placed src at to st m rs (in-section n ns) p = p
loose-placed src at to st m rs (in_remark pl) p = p
loose-placed src at to st m rs (in_data pl) p = p
