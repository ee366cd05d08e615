-- The declaration, state by state. Assumes nothing.
use Prim.Native.Nat.{ℕ}
use mathlib.Core.Path.{◌≡◌, refl}
use mathlib.Core.List.{List, [], ◌∷◌}
use native.Mathlib.Omega.{arith}
use lib.ListN.{get_or}
use Rattle.xml_rep.specs.of_names.Bytes.{bytes}
use Rattle.xml_rep.specs.of_xml_chars.Chars.{mark, single, double}
use Rattle.xml_rep.specs.of_xml_chars.Bytes.{whole}
use Rattle.xml_rep.specs.of_xml_machine.State.{decl, misc, pi_close, before, to_equals, to_point, to_chosen}
use Rattle.xml_rep.specs.of_xml_machine.State.{version, encoding, standalone, InDecl, opening, equals, quoting, point, digit, letters, choice, chosen, valued, between}
use Rattle.xml_rep.specs.of_xml_machine.Machine.{in_decl, decl_end, to_come}
use Rattle.xml_rep.specs.of_xml_machine.Tokens.{Marks}
use Rattle.xml_rep.specs.of_xml_stack.Stack.{Range}
use Rattle.xml_rep.specs.of_xml_state.declared.State.{State as Registers}
use Rattle.xml_rep.specs.of_xml_state.inside.Rows as row
use Rattle.xml_rep.specs.of_xml_state.inside.Rows.{all_rows, move_of}
use Rattle.xml_rep.specs.of_xml_state.inside.Acts.{acted_of, opened_of}
use Rattle.xml_rep.specs.of_xml_state.inside.Puts.{act_on}
use Rattle.xml_rep.specs.inside.Rep.{DeclModed, Named}
use Rattle.xml_rep.specs.inside.Agree.{Agree}
use Rattle.xml_agree.proofs.Agreeing.{Level, at-mode, on, on_space, on-digit, refused, stays}
use Rattle.xml_agree.proofs.Words.{version-spelled, encoding-spelled, standalone-spelled, point-spelled, yes-spelled, no-spelled, utf8-spelled, letters-agrees, spells}

module _ (src : List ℕ) (at : ℕ) {st : Registers} {m : Marks} {n : ℕ} {rs : List Range} (v : Level st m n) (h : st.home ≡ row.text_before) (p : Named src rs []) where
  decl-end : Agree src at st m n rs (row.decl_end (get_or src at 0)) (decl_end (get_or src at 0))
  decl-end = on 0x3F (stays v row.pi_close (misc pi_close whole before) refl h p) refused

  pub decl-agrees : (d : InDecl) → DeclModed d st → Agree src at st m n rs (move_of st.mode (get_or src at 0)) (in_decl d (get_or src at 0))
  unfolding move_of all_rows in_decl act_on acted_of opened_of
  decl-agrees opening e =
      at-mode e (on_space (stays v row.decl_space0 (decl opening) refl h p)
      (on 0x76 (spells src at v row.decl_eq0 0x31 (to_come (bytes "ersion") (to_equals version)) (λ events attributes. refl) ((refl, refl, version-spelled), omega arith) h p) refused))
  decl-agrees (equals version) e = at-mode e (on_space (stays v row.decl_eq0 (decl (equals version)) refl h p) (on 0x3D (stays v row.decl_quote0 (decl (quoting version)) refl h p) refused))
  decl-agrees (equals encoding) e = at-mode e (on_space (stays v row.decl_eq1 (decl (equals encoding)) refl h p) (on 0x3D (stays v row.decl_quote1 (decl (quoting encoding)) refl h p) refused))
  decl-agrees (equals standalone) e = at-mode e (on_space (stays v row.decl_eq2 (decl (equals standalone)) refl h p) (on 0x3D (stays v row.decl_quote2 (decl (quoting standalone)) refl h p) refused))
  decl-agrees (quoting version) e =
      at-mode e (on_space (stays v row.decl_quote0 (decl (quoting version)) refl h p)
      (on (mark double) (spells src at v row.version_d 0x34 (to_come (bytes "1.") (to_point double)) (λ events attributes. refl) ((refl, refl, point-spelled), omega arith) h p)
      (on (mark single) (spells src at v row.version_s 0x34 (to_come (bytes "1.") (to_point single)) (λ events attributes. refl) ((refl, refl, point-spelled), omega arith) h p) refused)))
  decl-agrees (quoting encoding) e =
      at-mode e (on_space (stays v row.decl_quote1 (decl (quoting encoding)) refl h p)
      (on (mark double) (spells src at v row.encoding_d 0x38 (decl (letters double (bytes "utf-8"))) (λ events attributes. refl) ((refl, refl, utf8-spelled), omega arith, omega arith) h p)
      (on (mark single) (spells src at v row.encoding_s 0x38 (decl (letters single (bytes "utf-8"))) (λ events attributes. refl) ((refl, refl, utf8-spelled), omega arith, omega arith) h p) refused)))
  decl-agrees (quoting standalone) e =
      at-mode e (on_space (stays v row.decl_quote2 (decl (quoting standalone)) refl h p)
      (on (mark double) (stays v row.standalone_d (decl (choice double)) refl h p)
      (on (mark single) (stays v row.standalone_s (decl (choice single)) refl h p) refused)))
  decl-agrees (point double) e = at-mode e (on-digit (stays v row.digits_d (decl (digit double)) refl h p) refused)
  decl-agrees (point single) e = at-mode e (on-digit (stays v row.digits_s (decl (digit single)) refl h p) refused)
  decl-agrees (digit double) e = at-mode e (on-digit (stays v row.digits_d (decl (digit double)) refl h p) (on (mark double) (stays v row.decl_after1 (decl (valued version)) refl h p) refused))
  decl-agrees (digit single) e = at-mode e (on-digit (stays v row.digits_s (decl (digit single)) refl h p) (on (mark single) (stays v row.decl_after1 (decl (valued version)) refl h p) refused))
  decl-agrees (letters double []) e = at-mode e (on (mark double) (stays v row.decl_after2 (decl (valued encoding)) refl h p) refused)
  decl-agrees (letters single []) e = at-mode e (on (mark single) (stays v row.decl_after2 (decl (valued encoding)) refl h p) refused)
  decl-agrees (letters q (c ∷ cs)) e = at-mode e.0.0 (letters-agrees src at v q c cs e h p)
  decl-agrees (choice double) e =
      at-mode e (on 0x79 (spells src at v row.answer_d 0x35 (to_come (bytes "es") (to_chosen double)) (λ events attributes. refl) ((refl, refl, yes-spelled), omega arith) h p)
      (on 0x6E (spells src at v row.answer_d 0x36 (to_come (bytes "o") (to_chosen double)) (λ events attributes. refl) ((refl, refl, no-spelled), omega arith) h p) refused))
  decl-agrees (choice single) e =
      at-mode e (on 0x79 (spells src at v row.answer_s 0x35 (to_come (bytes "es") (to_chosen single)) (λ events attributes. refl) ((refl, refl, yes-spelled), omega arith) h p)
      (on 0x6E (spells src at v row.answer_s 0x36 (to_come (bytes "o") (to_chosen single)) (λ events attributes. refl) ((refl, refl, no-spelled), omega arith) h p) refused))
  decl-agrees (chosen double) e = at-mode e (on (mark double) (stays v row.decl_after3 (decl (valued standalone)) refl h p) refused)
  decl-agrees (chosen single) e = at-mode e (on (mark single) (stays v row.decl_after3 (decl (valued standalone)) refl h p) refused)
  decl-agrees (valued version) e = at-mode e (on_space (stays v row.decl_space1 (decl (between version)) refl h p) decl-end)
  decl-agrees (valued encoding) e = at-mode e (on_space (stays v row.decl_space2 (decl (between encoding)) refl h p) decl-end)
  decl-agrees (valued standalone) e = at-mode e (on_space (stays v row.decl_space3 (decl (between standalone)) refl h p) decl-end)
  decl-agrees (between version) e =
      at-mode e (on_space (stays v row.decl_space1 (decl (between version)) refl h p)
      (on 0x65 (spells src at v row.decl_eq1 0x32 (to_come (bytes "ncoding") (to_equals encoding)) (λ events attributes. refl) ((refl, refl, encoding-spelled), omega arith) h p)
      (on 0x73 (spells src at v row.decl_eq2 0x33 (to_come (bytes "tandalone") (to_equals standalone)) (λ events attributes. refl) ((refl, refl, standalone-spelled), omega arith) h p) decl-end)))
  decl-agrees (between encoding) e =
      at-mode e (on_space (stays v row.decl_space2 (decl (between encoding)) refl h p)
      (on 0x73 (spells src at v row.decl_eq2 0x33 (to_come (bytes "tandalone") (to_equals standalone)) (λ events attributes. refl) ((refl, refl, standalone-spelled), omega arith) h p) decl-end))
  decl-agrees (between standalone) e = at-mode e (on_space (stays v row.decl_space3 (decl (between standalone)) refl h p) decl-end)
