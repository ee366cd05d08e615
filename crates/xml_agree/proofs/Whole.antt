-- Every move agrees with the step. Assumes nothing.
use Prim.Native.Nat.{ℕ, ◌<◌}
use mathlib.Core.Path.{◌≡◌, refl}
use mathlib.Core.List.{List, [], ◌∷◌, ◌++◌}
use native.Mathlib.Omega.{arith}
use lib.ListN.{length, get_or}
use Rattle.xml_rep.specs.of_xml_chars.Chars.{Range as Class}
use Rattle.xml_rep.specs.of_xml_chars.Bytes.{Left, whole, part}
use Rattle.xml_rep.specs.of_xml_machine.State.{before, after, InTag, name, gap, slash, key, key_eq, quote, value, value_end}
use Rattle.xml_rep.specs.of_xml_machine.State.{State, fresh, marked, lt_first, heading, x0, decl, literal, prolog, epilog, text, lt, misc, section, ref, tag, ending, end_space, to_marked}
use Rattle.xml_rep.specs.of_xml_machine.Machine.{step, in_first, to_come}
use Rattle.xml_rep.specs.of_xml_machine.Tokens.{Marks}
use Rattle.xml_rep.specs.of_xml_stack.Stack.{Range}
use Rattle.xml_rep.specs.of_xml_state.declared.State.{State as Registers}
use Rattle.xml_rep.specs.of_xml_state.inside.Rows as row
use Rattle.xml_rep.specs.of_xml_state.inside.Rows.{all_rows, move_of}
use Rattle.xml_rep.specs.of_xml_state.inside.Acts.{acted_of, opened_of}
use Rattle.xml_rep.specs.of_xml_state.inside.Puts.{act_on}
use Rattle.xml_rep.specs.inside.Modes.{tag_mode}
use Rattle.xml_rep.specs.inside.Rep.{Partly, TagHome, TagPlaced, Moded, Homed, Placed, Named, Rep}
use Rattle.xml_rep.specs.inside.Agree.{Agree}
use Rattle.xml_agree.proofs.Agreeing.{Level, at-mode, on, on_space, refused, stays, marks, ends-text}
use Rattle.xml_agree.proofs.Further.{follow-agrees}
use Rattle.xml_agree.proofs.Words.{order-spelled, literal-agrees, spells}
use Rattle.xml_agree.proofs.Names.{grows}
use Rattle.xml_agree.proofs.Declaration.{decl-agrees}
use Rattle.xml_agree.proofs.Misc.{heading-agrees, misc-agrees, lt-before-agrees, lt-agrees}
use Rattle.xml_agree.proofs.Content.{text-agrees, section-agrees, host-placed, ref-agrees}
use Rattle.xml_agree.proofs.Tags.{tag-agrees}
use Rattle.xml_agree.proofs.Ends.{ending-agrees, end-space-agrees}

module _ (src : List ℕ) (at : ℕ) {st : Registers} {m : Marks} {n : ℕ} {rs : List Range} (v : Level st m n) (here : at < length src) where
  first-agrees : st.home ≡ row.text_before → Named src rs [] → Agree src at st m n rs (row.first_row (get_or src at 0)) (in_first (get_or src at 0))
  first-agrees h p = on 0x3C (ends-text v row.lt_first lt_first (λ c. refl) h (λ c. p)) (on_space (stays v row.text_before prolog refl h p) refused)

  -- a tag's further byte of a character
  part-agrees : (k : InTag) (cls : List Class) (low : ℕ) (l : Left) (least : ℕ) (o : List ℕ) (ns : List (List ℕ)) → Partly (part cls low l least) (tag_mode k) st → TagHome k st.home → Named src rs ns →
      TagPlaced src at k o st m → Agree src at st m n rs (move_of st.mode (get_or src at 0)) (step (tag k (part cls low l least) o ns) (get_or src at 0))
  unfolding move_of all_rows step
  part-agrees name cls low l least o ns e h p t = at-mode e.0 (follow-agrees src at v _ (λ x. tag name x (o ++ (get_or src at 0 ∷ [])) ns) (λ x to e. e) (λ x. h) (λ x i j u. (p, grows src o st.mark at here t)) cls low least l e)
  part-agrees gap cls low l least o ns e h p t = at-mode e.0 (follow-agrees src at v _ (λ x. tag gap x o ns) (λ x to e. e) (λ x. h) (λ x i j u. (p, t)) cls low least l e)
  part-agrees slash cls low l least o ns e h p t = at-mode e.0 (follow-agrees src at v _ (λ x. tag slash x o ns) (λ x to e. e) (λ x. h) (λ x i j u. (p, t)) cls low least l e)
  part-agrees key cls low l least o ns e h p t = at-mode e.0 (follow-agrees src at v _ (λ x. tag key x o ns) (λ x to e. e) (λ x. h) (λ x i j u. (p, t)) cls low least l e)
  part-agrees key_eq cls low l least o ns e h p t = at-mode e.0 (follow-agrees src at v _ (λ x. tag key_eq x o ns) (λ x to e. e) (λ x. h) (λ x i j u. (p, t)) cls low least l e)
  part-agrees quote cls low l least o ns e h p t = at-mode e.0 (follow-agrees src at v _ (λ x. tag quote x o ns) (λ x to e. e) (λ x. h) (λ x i j u. (p, t)) cls low least l e)
  part-agrees (value q) cls low l least o ns e h p t = at-mode e.0 (follow-agrees src at v _ (λ x. tag (value q) x o ns) (λ x to e. e) (λ x. h) (λ x i j u. (p, t)) cls low least l e)
  part-agrees value_end cls low l least o ns e h p t = at-mode e.0 (follow-agrees src at v _ (λ x. tag value_end x o ns) (λ x to e. e) (λ x. h) (λ x i j u. (p, t)) cls low least l e)

  agreeing : (s : State) → Moded s st → Homed s st.home → Placed src at s st m rs → Agree src at st m n rs (move_of st.mode (get_or src at 0)) (step s (get_or src at 0))
  unfolding move_of all_rows step act_on acted_of opened_of
  agreeing fresh e h p =
      at-mode e (on 0xEF (spells src at v row.first 0x37 (to_come (0xBB ∷ 0xBF ∷ []) to_marked) (λ events attributes. refl) ((refl, refl, order-spelled), omega arith) h p) (first-agrees h p))
  agreeing marked e h p = at-mode e (first-agrees h p)
  agreeing lt_first e h p = at-mode e (on 0x3F (marks v row.pi_first (heading x0) refl h p) (lt-before-agrees src at v here h p))
  agreeing (heading x) e h p = heading-agrees src at v x e h p
  agreeing (decl d) e h p = decl-agrees src at v h p d e
  agreeing (literal c cs g) e h p = at-mode e.0.0 (literal-agrees src at v c cs g e h p)
  agreeing prolog e h p = at-mode e (on 0x3C (ends-text v row.lt_before (lt before) (λ c. refl) h (λ c. p)) (on_space (stays v row.text_before prolog refl h p) refused))
  agreeing epilog e h p = at-mode e (on 0x3C (ends-text v row.lt_after (lt after) (λ c. refl) h (λ c. p)) (on_space (stays v row.text_after_of epilog refl h p) refused))
  agreeing (text k whole o ns) e h p = text-agrees src at v o ns h p k e
  agreeing (text k (part cls low l least) o ns) e h p = at-mode e.0 (follow-agrees src at v _ (λ q. text k q o ns) (λ q to e. e) (λ q. h) (λ q k t u. p) cls low least l e)
  agreeing (lt pl) e h p = lt-agrees src at v here pl e h p
  agreeing (misc k whole pl) e h p = misc-agrees src at v k pl e h p
  agreeing (misc k (part cls low l least) pl) e h p = at-mode e.0 (follow-agrees src at v _ (λ q. misc k q pl) (λ q to e. e) (λ q. h) (λ q k t u. p) cls low least l e)
  agreeing (section k whole o ns) e h p = section-agrees src at v o ns h p k e
  agreeing (section k (part cls low l least) o ns) e h p = at-mode e.0 (follow-agrees src at v _ (λ q. section k q o ns) (λ q to e. e) (λ q. h) (λ q k t u. p) cls low least l e)
  agreeing (ref k whole host) e h p = ref-agrees src at v k host e h p
  agreeing (ref k (part cls low l least) host) e h p =
      at-mode e.0 (follow-agrees src at v _ (λ q. ref k q host) (λ q to e. e) (λ q. h) (λ q. host-placed src st m rs host p) cls low least l e)
  agreeing (tag k whole o ns) e h p = tag-agrees src at v o ns p.0 k here e h p.1
  agreeing (tag k (part cls low l least) o ns) e h p = part-agrees k cls low l least o ns e h p.0 p.1
  agreeing (ending o ns) e h p = ending-agrees src at v o ns e p
  agreeing (end_space ns) e h p = end-space-agrees src at v ns e p

-- THE MOVES: behind `at` bytes of the source, the code's move is the definition's step
pub agrees : {src : List ℕ} {at : ℕ} {st : Registers} {s : State} {m : Marks} {n : ℕ} {rs : List Range} → at < length src → Rep src at st s m n rs →
    Agree src at st m n rs (move_of st.mode (get_or src at 0)) (step s (get_or src at 0))
agrees {src} {at} {s = s} here r = agreeing src at (record { same = r.mark; kept = r.kept }) here s r.moded r.homed r.placed
