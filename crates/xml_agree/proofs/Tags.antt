-- Start tags, state by state. Assumes nothing.
use Prim.Native.Nat.{ℕ, ◌-◌, ◌<◌}
use mathlib.Core.Path.{◌≡◌, refl, sym, ap}
use mathlib.Core.List.{List, [], ◌∷◌, ◌++◌}
use native.Mathlib.Omega.{arith}
use lib.ListN.{length, get_or}
use Rattle.xml_rep.specs.of_xml_chars.Chars.{mark, Quote, single, double}
use Rattle.xml_rep.specs.of_xml_chars.Bytes.{whole}
use Rattle.xml_rep.specs.of_xml_machine.State.{tag, ref, ampersand, attribute, InTag, name, gap, slash, key, key_eq, quote, value, value_end, Name, NameStart, Stay, Start}
use Rattle.xml_rep.specs.of_xml_machine.Machine.{behind, in_tag}
use Rattle.xml_rep.specs.of_xml_machine.Tokens.{Marks, naming}
use Rattle.xml_rep.specs.of_xml_stack.Stack.{Range}
use Rattle.xml_rep.specs.of_xml_state.declared.State.{State as Registers}
use Rattle.xml_rep.specs.of_xml_state.inside.Rows as row
use Rattle.xml_rep.specs.of_xml_state.inside.Rows.{all_rows, move_of}
use Rattle.xml_rep.specs.of_xml_state.inside.Acts.{named_of}
use Rattle.xml_rep.specs.inside.Modes.{tag_mode, by_quote}
use Rattle.xml_rep.specs.inside.Rep.{Growing, Tagged, Keyed, TagHome, TagPlaced, Named}
use Rattle.xml_rep.specs.inside.Agree.{Agree}
use Rattle.xml_agree.proofs.Agreeing.{Level, at-mode, on, on_space, refused, stays, names, keys, quotes}
use Rattle.xml_agree.proofs.Characters.{any-agrees, name-agrees, here-agrees}
use Rattle.xml_agree.proofs.Names.{grows}
use Rattle.xml_agree.proofs.Records.{names-start, starts, empties, values}

-- a name that has ended is in the registers
name-tagged : (src o : List ℕ) (at k : ℕ) (st : Registers) (m : Marks) (n : ℕ) → Level st m n → Growing src o st.mark at → Tagged src o (named_of st k at) (naming at n m)
name-tagged src o at k st m n v g = (omega (arith, g.0), omega (arith, g.0, g.1), g.2, sym v.same, ap (λ (x : ℕ). at - x) (sym v.same), sym v.kept)

module _ (src : List ℕ) (at : ℕ) {st : Registers} {m : Marks} {n : ℕ} {rs : List Range} (v : Level st m n) (o : List ℕ) (ns : List (List ℕ)) (p : Named src rs ns) where
  behind-name : Growing src o st.mark at → Agree src at st m n rs (row.behind row.name_end row.name_start_end (get_or src at 0)) (behind Name NameStart o ns (get_or src at 0))
  unfolding behind
  behind-name g =
      on_space (names v row.in_tag (tag gap whole o ns) refl tt (p, name-tagged src o at row.in_tag st m n v g))
      (on 0x2F (names v row.tag_slash (tag slash whole o ns) refl tt (p, name-tagged src o at row.tag_slash st m n v g)) (on 0x3E (names-start v o ns p g) refused))

  behind-value : Tagged src o st m → Agree src at st m n rs (row.behind row.stay row.start_end (get_or src at 0)) (behind Stay Start o ns (get_or src at 0))
  unfolding behind
  behind-value t =
      on_space (stays v row.in_tag (tag gap whole o ns) refl tt (p, t)) (on 0x2F (stays v row.tag_slash (tag slash whole o ns) refl tt (p, t)) (on 0x3E (starts v o ns p t) refused))

  value_row : (q : Quote) → st.home ≡ by_quote q row.value_d row.value_s → Tagged src o st m → Keyed st m →
      Agree src at st m n rs (row.value_row_of q (by_quote q row.value_d row.value_s) (get_or src at 0)) (in_tag (value q) o ns (get_or src at 0))
  unfolding in_tag
  value_row q h t k =
      on (mark q) (values v o ns p t k)
      (on 0x26 (stays v row.ref_open (ref ampersand whole (attribute q o ns)) refl h (p, (t, k)))
      (on 0x3C refused (any-agrees src at v (by_quote q row.value_d row.value_s) (λ x. tag (value q) x o ns) (λ x to e. e) (λ x. h) (λ x j i u. (p, (t, k))))))

  pub tag-agrees : (k : InTag) → at < length src → st.mode ≡ tag_mode k → TagHome k st.home → TagPlaced src at k o st m → Agree src at st m n rs (move_of st.mode (get_or src at 0)) (in_tag k o ns (get_or src at 0))
  unfolding move_of all_rows in_tag
  tag-agrees name here e h g =
      at-mode e (name-agrees src at v row.tag_name (λ q. tag name q (o ++ (get_or src at 0 ∷ [])) ns) (λ q to e. e) (λ q. tt) (λ q k t u. (p, grows src o st.mark at here g)) _ _ (behind-name g))
  tag-agrees gap here e h t = at-mode e (here-agrees src at v row.key (λ q. tag key q o ns) (λ q to e. e) (λ q. tt) (λ q k j u. (p, t)) _ _ (behind-value t))
  tag-agrees slash here e h t = at-mode e (on 0x3E (empties v o ns p t) refused)
  tag-agrees key here e h t =
      at-mode e (name-agrees src at v row.key (λ q. tag key q o ns) (λ q to e. e) (λ q. tt) (λ q k j u. (p, t)) _ _
      (on_space (keys v row.key_eq (tag key_eq whole o ns) refl tt (p, (t, (sym v.same, ap (λ (x : ℕ). at - x) (sym v.same)))))
      (on 0x3D (keys v row.quote (tag quote whole o ns) refl tt (p, (t, (sym v.same, ap (λ (x : ℕ). at - x) (sym v.same))))) refused)))
  tag-agrees key_eq here e h t =
      at-mode e (on_space (stays v row.key_eq (tag key_eq whole o ns) refl tt (p, t)) (on 0x3D (stays v row.quote (tag quote whole o ns) refl tt (p, t)) refused))
  tag-agrees quote here e h t =
      at-mode e (on_space (stays v row.quote (tag quote whole o ns) refl tt (p, t))
      (on (mark double) (quotes v row.value_d (tag (value double) whole o ns) refl refl (p, t))
      (on (mark single) (quotes v row.value_s (tag (value single) whole o ns) refl refl (p, t)) refused)))
  tag-agrees (value double) here e h t = at-mode e (value_row double h t.0 t.1)
  tag-agrees (value single) here e h t = at-mode e (value_row single h t.0 t.1)
  tag-agrees value_end here e h t = at-mode e (behind-value t)
