-- Text, sections and references, state by state. Assumes nothing.
use Prim.Native.Nat.{ℕ}
use mathlib.Core.Path.{◌≡◌, refl}
use mathlib.Core.List.{List, ◌∷◌}
use lib.ListN.{get_or}
use Rattle.xml_rep.specs.of_xml_chars.Bytes.{whole}
use Rattle.xml_rep.specs.of_xml_machine.State.{Brackets, b0, b1, b2, text, section, lt, inside, ref, Host, content, attribute, InRef, ampersand, ref_name, hash, digits, hash_x, hexes}
use Rattle.xml_rep.specs.of_xml_machine.Machine.{more, angle, in_text, section_end, in_section, ref_end, in_ref}
use Rattle.xml_rep.specs.of_xml_machine.Tokens.{Marks}
use Rattle.xml_rep.specs.of_xml_stack.Stack.{Range}
use Rattle.xml_rep.specs.of_xml_state.declared.Part.{Part as Open}
use Rattle.xml_rep.specs.of_xml_state.declared.Move.{Move}
use Rattle.xml_rep.specs.of_xml_state.declared.State.{State as Registers}
use Rattle.xml_rep.specs.of_xml_state.inside.Rows as row
use Rattle.xml_rep.specs.of_xml_state.inside.Rows.{all_rows, move_of}
use Rattle.xml_rep.specs.inside.Modes.{text_mode, section_mode, ref_mode}
use Rattle.xml_rep.specs.inside.Rep.{Named, host_home, HostPlaced}
use Rattle.xml_rep.specs.inside.Agree.{Agree}
use Rattle.xml_agree.proofs.Agreeing.{moved, Level, at-mode, on, on-digit, on_hex, refused, stays, ends-text, marks-text}
use Rattle.xml_agree.proofs.Characters.{any-agrees, start-agrees, name-agrees}
use Rattle.xml_agree.proofs.Records.{refers, refers-value, sections}

-- the registers of a host aren't those of an open character
pub host-placed : (src : List ℕ) (st : Registers) (m : Marks) (rs : List Range) (host : Host) → HostPlaced src host st m rs → (k t : ℕ) (o : Open) → HostPlaced src host (moved k t o st) m rs
host-placed src st m rs (content o ns) p k t u = p
host-placed src st m rs (attribute q o ns) p k t u = p

module _ (src : List ℕ) (at : ℕ) {st : Registers} {m : Marks} {n : ℕ} {rs : List Range} (v : Level st m n) where
  module _ (o : List ℕ) (ns : List (List ℕ)) (h : st.home ≡ row.text_in_of) (p : Named src rs (o ∷ ns)) where
    text-row : (k : Brackets) (mv : Move) → Agree src at st m n rs mv (angle k o ns) → Agree src at st m n rs (row.text_row (text_mode (more k)) mv (get_or src at 0)) (in_text k o ns (get_or src at 0))
    unfolding in_text
    text-row k mv a =
        on 0x3C (ends-text v row.lt_in (lt (inside o ns)) (λ c. refl) h (λ c. p))
        (on 0x26 (marks-text v row.ref_open (ref ampersand whole (content o ns)) (λ c. refl) h (λ c. p))
        (on 0x5D (stays v (text_mode (more k)) (text (more k) whole o ns) refl h p)
        (on 0x3E a (any-agrees src at v row.text_in_of (λ q. text b0 q o ns) (λ q to e. e) (λ q. h) (λ q k t u. p)))))

    pub text-agrees : (k : Brackets) → st.mode ≡ text_mode k → Agree src at st m n rs (move_of st.mode (get_or src at 0)) (in_text k o ns (get_or src at 0))
    unfolding move_of all_rows
    text-agrees b0 e = at-mode e (text-row b0 _ (stays v row.text_in_of (text b0 whole o ns) refl h p))
    text-agrees b1 e = at-mode e (text-row b1 _ (stays v row.text_in_of (text b0 whole o ns) refl h p))
    text-agrees b2 e = at-mode e (text-row b2 _ refused)

    section-row : (k : Brackets) (mv : Move) → Agree src at st m n rs mv (section_end k o ns) → Agree src at st m n rs (row.section_row (section_mode (more k)) mv (get_or src at 0)) (in_section k o ns (get_or src at 0))
    unfolding in_section
    section-row k mv a =
        on 0x5D (stays v (section_mode (more k)) (section (more k) whole o ns) refl h p)
        (on 0x3E a (any-agrees src at v row.cdata (λ q. section b0 q o ns) (λ q to e. e) (λ q. h) (λ q k t u. p)))

    pub section-agrees : (k : Brackets) → st.mode ≡ section_mode k → Agree src at st m n rs (move_of st.mode (get_or src at 0)) (in_section k o ns (get_or src at 0))
    unfolding move_of all_rows
    section-agrees b0 e = at-mode e (section-row b0 _ (stays v row.cdata (section b0 whole o ns) refl h p))
    section-agrees b1 e = at-mode e (section-row b1 _ (stays v row.cdata (section b0 whole o ns) refl h p))
    section-agrees b2 e = at-mode e (section-row b2 _ (sections v o ns h p))

  -- ---- references
  ref-end : (host : Host) → st.home ≡ host_home host → HostPlaced src host st m rs → Agree src at st m n rs (row.to row.text_in_of row.ref_end) (ref_end host)
  ref-end (content o ns) h p = refers v o ns h p
  ref-end (attribute q o ns) h p = refers-value v q o ns h p.0 p.1.0 p.1.1

  pub ref-agrees : (k : InRef) (host : Host) → st.mode ≡ ref_mode k → st.home ≡ host_home host → HostPlaced src host st m rs →
      Agree src at st m n rs (move_of st.mode (get_or src at 0)) (in_ref k host (get_or src at 0))
  unfolding move_of all_rows in_ref
  ref-agrees ampersand host e h p =
      at-mode e (start-agrees src at v row.ref_name (λ q. ref ref_name q host) (λ q to e. e) (λ q. h) (λ q. host-placed src st m rs host p) _ _
      (on 0x23 (stays v row.ref_hash (ref hash whole host) refl h (host-placed src st m rs host p row.ref_hash st.then st.part)) refused))
  ref-agrees ref_name host e h p =
      at-mode e (name-agrees src at v row.ref_name (λ q. ref ref_name q host) (λ q to e. e) (λ q. h) (λ q. host-placed src st m rs host p) _ _ (on 0x3B (ref-end host h p) refused))
  ref-agrees hash host e h p =
      at-mode e (on-digit (stays v row.ref_digits (ref digits whole host) refl h (host-placed src st m rs host p row.ref_digits st.then st.part))
      (on 0x78 (stays v row.ref_x (ref hash_x whole host) refl h (host-placed src st m rs host p row.ref_x st.then st.part)) refused))
  ref-agrees digits host e h p =
      at-mode e (on-digit (stays v row.ref_digits (ref digits whole host) refl h (host-placed src st m rs host p row.ref_digits st.then st.part)) (on 0x3B (ref-end host h p) refused))
  ref-agrees hash_x host e h p = at-mode e (on_hex (stays v row.ref_hex (ref hexes whole host) refl h (host-placed src st m rs host p row.ref_hex st.then st.part)) refused)
  ref-agrees hexes host e h p =
      at-mode e (on_hex (stays v row.ref_hex (ref hexes whole host) refl h (host-placed src st m rs host p row.ref_hex st.then st.part)) (on 0x3B (ref-end host h p) refused))
