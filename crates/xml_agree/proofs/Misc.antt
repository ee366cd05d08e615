-- Comments, instructions, and what `<` begins, state by state. Assumes nothing.
use Prim.Native.Nat.{ℕ, ◌<◌}
use mathlib.Core.Path.{◌≡◌, refl}
use mathlib.Core.List.{List, [], ◌∷◌}
use native.Mathlib.Omega.{arith}
use lib.ListN.{length, get_or}
use Rattle.xml_rep.specs.of_names.Bytes.{bytes}
use Rattle.xml_rep.specs.of_xml_chars.Bytes.{whole}
use Rattle.xml_rep.specs.of_xml_machine.State.{Letters, x0, x1, x2, x3, Place, before, after, inside, heading, decl, opening, misc, tag, name, to_section}
use Rattle.xml_rep.specs.of_xml_machine.State.{InMisc, bang, dash, remark0, remark1, remark2, target, named, pi_data, pi_query, pi_close}
use Rattle.xml_rep.specs.of_xml_machine.Machine.{in_target, target_end, in_heading, in_misc, opens_misc, in_lt, resume, to_come}
use Rattle.xml_rep.specs.of_xml_machine.Tokens.{Marks}
use Rattle.xml_rep.specs.of_xml_stack.Stack.{Range}
use Rattle.xml_rep.specs.of_xml_state.declared.State.{State as Registers}
use Rattle.xml_rep.specs.of_xml_state.inside.Rows as row
use Rattle.xml_rep.specs.of_xml_state.inside.Rows.{all_rows, move_of}
use Rattle.xml_rep.specs.of_xml_state.inside.Acts.{acted_of, opened_of}
use Rattle.xml_rep.specs.of_xml_state.inside.Puts.{act_on}
use Rattle.xml_rep.specs.inside.Modes.{mode_of, head_mode, lt_mode, bang_mode, misc_mode}
use Rattle.xml_rep.specs.inside.Rep.{Named, opened}
use Rattle.xml_rep.specs.inside.Agree.{Agree}
use Rattle.xml_agree.proofs.Agreeing.{Level, at-mode, on, on-lower, on_space, refused, stays, marks}
use Rattle.xml_agree.proofs.Characters.{any-agrees, start-agrees, name-agrees, here-agrees}
use Rattle.xml_agree.proofs.Words.{cdata-spelled, spells}
use Rattle.xml_agree.proofs.Names.{first_byte}
use Rattle.xml_agree.proofs.Records.{comments, instructs, closes}

module _ (src : List ℕ) (at : ℕ) {st : Registers} {m : Marks} {n : ℕ} {rs : List Range} (v : Level st m n) where
  module _ (pl : Place) (h : st.home ≡ mode_of (resume pl)) (p : Named src rs (opened pl)) where
    target-end : Agree src at st m n rs (row.target_end (get_or src at 0)) (target_end pl (get_or src at 0))
    target-end = on_space (stays v row.pi_data (misc pi_data whole pl) refl h p) (on 0x3F (stays v row.pi_close (misc pi_close whole pl) refl h p) refused)

    target_name : Agree src at st m n rs (row.target_row (get_or src at 0)) (in_misc named pl (get_or src at 0))
    unfolding in_misc
    target_name = name-agrees src at v row.pi_name (λ q. misc named q pl) (λ q to e. e) (λ q. h) (λ q k t o. p) _ _ target-end

    target0-agrees : Agree src at st m n rs (row.target0_row (get_or src at 0)) (in_target x0 pl (get_or src at 0))
    unfolding in_target
    target0-agrees =
        on-lower 0x78 (stays v row.pi_x (misc (target x1) whole pl) refl h p)
        (start-agrees src at v row.pi_name (λ q. misc named q pl) (λ q to e. e) (λ q. h) (λ q k t o. p) _ _ refused)

    target1-agrees : Agree src at st m n rs (row.target1_row (get_or src at 0)) (in_target x1 pl (get_or src at 0))
    unfolding in_target
    target1-agrees =
        on-lower 0x6D (stays v row.pi_xm (misc (target x2) whole pl) refl h p)
        (name-agrees src at v row.pi_name (λ q. misc named q pl) (λ q to e. e) (λ q. h) (λ q k t o. p) _ _ target-end)

    target2-agrees : Agree src at st m n rs (row.target2_row (get_or src at 0)) (in_target x2 pl (get_or src at 0))
    unfolding in_target
    target2-agrees =
        on-lower 0x6C (stays v row.pi_xml (misc (target x3) whole pl) refl h p)
        (name-agrees src at v row.pi_name (λ q. misc named q pl) (λ q to e. e) (λ q. h) (λ q k t o. p) _ _ target-end)

    target3-agrees : Agree src at st m n rs (row.target3_row (get_or src at 0)) (in_target x3 pl (get_or src at 0))
    unfolding in_target
    target3-agrees = name-agrees src at v row.pi_name (λ q. misc named q pl) (λ q to e. e) (λ q. h) (λ q k t o. p) _ _ refused

  -- `<?` at the very first position
  pub heading-agrees : (x : Letters) → st.mode ≡ head_mode x → st.home ≡ row.text_before → Named src rs [] → Agree src at st m n rs (move_of st.mode (get_or src at 0)) (in_heading x (get_or src at 0))
  unfolding move_of all_rows in_heading
  heading-agrees x0 e h p = at-mode e (on 0x78 (stays v row.pi_xFirst (heading x1) refl h p) (target0-agrees before h p))
  heading-agrees x1 e h p = at-mode e (on 0x6D (stays v row.pi_xm_first (heading x2) refl h p) (target1-agrees before h p))
  heading-agrees x2 e h p = at-mode e (on 0x6C (stays v row.pi_xml_first (heading x3) refl h p) (target2-agrees before h p))
  heading-agrees x3 e h p = at-mode e (on_space (stays v row.decl_space0 (decl opening) refl h p) (target3-agrees before h p))

  bang-agrees : (pl : Place) → st.mode ≡ bang_mode pl → st.home ≡ mode_of (resume pl) → Named src rs (opened pl) → Agree src at st m n rs (move_of st.mode (get_or src at 0)) (in_misc bang pl (get_or src at 0))
  unfolding move_of all_rows in_misc act_on acted_of opened_of
  bang-agrees before e h p = at-mode e (on 0x2D (stays v row.bang_dash (misc dash whole before) refl h p) refused)
  bang-agrees after e h p = at-mode e (on 0x2D (stays v row.bang_dash (misc dash whole after) refl h p) refused)
  bang-agrees (inside o ns) e h p =
      at-mode e (on 0x2D (stays v row.bang_dash (misc dash whole (inside o ns)) refl h p)
      (on 0x5B (spells src at v row.cdata 0x30 (to_come (bytes "CDATA[") (to_section o ns)) (λ events attributes. refl) ((refl, refl, cdata-spelled), omega arith) h p) refused))

  pub misc-agrees : (k : InMisc) (pl : Place) → st.mode ≡ misc_mode k pl → st.home ≡ mode_of (resume pl) → Named src rs (opened pl) →
      Agree src at st m n rs (move_of st.mode (get_or src at 0)) (in_misc k pl (get_or src at 0))
  unfolding move_of all_rows in_misc
  misc-agrees bang pl e h p = bang-agrees pl e h p
  misc-agrees dash pl e h p = at-mode e (on 0x2D (marks v row.comment (misc remark0 whole pl) refl h p) refused)
  misc-agrees remark0 pl e h p =
      at-mode e (on 0x2D (stays v row.comment1 (misc remark1 whole pl) refl h p) (any-agrees src at v row.comment (λ q. misc remark0 q pl) (λ q to e. e) (λ q. h) (λ q k t o. p)))
  misc-agrees remark1 pl e h p =
      at-mode e (on 0x2D (stays v row.comment2 (misc remark2 whole pl) refl h p) (any-agrees src at v row.comment (λ q. misc remark0 q pl) (λ q to e. e) (λ q. h) (λ q k t o. p)))
  misc-agrees remark2 pl e h p = at-mode e (on 0x3E (comments v pl h p) refused)
  misc-agrees (target x0) pl e h p = at-mode e (target0-agrees pl h p)
  misc-agrees (target x1) pl e h p = at-mode e (target1-agrees pl h p)
  misc-agrees (target x2) pl e h p = at-mode e (target2-agrees pl h p)
  misc-agrees (target x3) pl e h p = at-mode e (target3-agrees pl h p)
  misc-agrees named pl e h p = at-mode e (target_name pl h p)
  misc-agrees pi_data pl e h p =
      at-mode e (on 0x3F (stays v row.pi_query (misc pi_query whole pl) refl h p) (any-agrees src at v row.pi_data (λ q. misc pi_data q pl) (λ q to e. e) (λ q. h) (λ q k t o. p)))
  misc-agrees pi_query pl e h p =
      at-mode e (on 0x3F (stays v row.pi_query (misc pi_query whole pl) refl h p)
      (on 0x3E (instructs v pl h p) (any-agrees src at v row.pi_data (λ q. misc pi_data q pl) (λ q to e. e) (λ q. h) (λ q k t o. p))))
  misc-agrees pi_close pl e h p = at-mode e (on 0x3E (instructs v pl h p) refused)

  -- ---- `<`
  opens-agrees : (pl : Place) → st.home ≡ mode_of (resume pl) → Named src rs (opened pl) → Agree src at st m n rs (row.opens_row (bang_mode pl) (get_or src at 0)) (opens_misc pl (get_or src at 0))
  opens-agrees pl h p = on 0x3F (marks v row.pi_open (misc (target x0) whole pl) refl h p) (on 0x21 (stays v (bang_mode pl) (misc bang whole pl) refl h p) refused)

  module _ (here : at < length src) where
    pub lt-before-agrees : st.home ≡ row.text_before → Named src rs [] → Agree src at st m n rs (row.lt_before_row (get_or src at 0)) (in_lt before (get_or src at 0))
    unfolding in_lt
    lt-before-agrees h p =
        here-agrees src at v row.tag_name (λ q. tag name q (get_or src at 0 ∷ []) []) (λ q to e. e) (λ q. tt) (λ q k t o. (p, first_byte src at here)) _ _ (opens-agrees before h p)

    pub lt-agrees : (pl : Place) → st.mode ≡ lt_mode pl → st.home ≡ mode_of (resume pl) → Named src rs (opened pl) → Agree src at st m n rs (move_of st.mode (get_or src at 0)) (in_lt pl (get_or src at 0))
    unfolding move_of all_rows in_lt
    lt-agrees before e h p = at-mode e (lt-before-agrees h p)
    lt-agrees after e h p = at-mode e (opens-agrees after h p)
    lt-agrees (inside o ns) e h p =
        at-mode e (here-agrees src at v row.tag_name (λ q. tag name q (get_or src at 0 ∷ []) (o ∷ ns)) (λ q to e. e) (λ q. tt) (λ q k t u. (p, first_byte src at here)) _ _
        (on 0x2F (closes rs v o ns p) (opens-agrees (inside o ns) h p)))
