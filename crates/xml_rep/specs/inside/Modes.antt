-- The code's mode for each state of the definition, where no character stands open. Definitions only.
use Rattle.std.specs.Prelude.{ℕ, List, [], ◌∷◌}
use Rattle.xml_state.specs.of_xml_chars.Chars.{Quote, single, double}
use Rattle.xml_state.specs.of_xml_machine.State.{Brackets, b0, b1, b2, Letters, x0, x1, x2, x3, Place, before, after, inside}
use Rattle.xml_state.specs.of_xml_machine.State.{State, fresh, marked, lt_first, heading, decl, literal, prolog, epilog, text, lt, misc, section, ref, tag, ending, end_space}
use Rattle.xml_state.specs.of_xml_machine.State.{InMisc, bang, dash, remark0, remark1, remark2, target, named, pi_data, pi_query, pi_close, InRef, ampersand, ref_name, hash, digits, hash_x, hexes}
use Rattle.xml_state.specs.of_xml_machine.State.{Item, version, encoding, standalone, InDecl, opening, equals, quoting, point, digit, letters, choice, chosen, valued, between}
use Rattle.xml_state.specs.of_xml_machine.State.{InTag, name, gap, slash, key, key_eq, quote, value, value_end}
use Rattle.xml_state.specs.inside.Rows as row

abbrev pub head_mode : Letters → ℕ
head_mode x0 = row.pi_first
head_mode x1 = row.pi_xFirst
head_mode x2 = row.pi_xm_first
head_mode x3 = row.pi_xml_first

abbrev pub equals_mode : Item → ℕ
equals_mode version = row.decl_eq0
equals_mode encoding = row.decl_eq1
equals_mode standalone = row.decl_eq2

abbrev pub quoting_mode : Item → ℕ
quoting_mode version = row.decl_quote0
quoting_mode encoding = row.decl_quote1
quoting_mode standalone = row.decl_quote2

abbrev pub valued_mode : Item → ℕ
valued_mode version = row.decl_after1
valued_mode encoding = row.decl_after2
valued_mode standalone = row.decl_after3

abbrev pub between_mode : Item → ℕ
between_mode version = row.decl_space1
between_mode encoding = row.decl_space2
between_mode standalone = row.decl_space3

-- of two modes, the one for the quote
abbrev pub by_quote : Quote → ℕ → ℕ → ℕ
by_quote double d s = d
by_quote single d s = s

abbrev pub decl_mode : InDecl → ℕ
decl_mode opening = row.decl_space0
decl_mode (equals i) = equals_mode i
decl_mode (quoting i) = quoting_mode i
decl_mode (point q) = by_quote q row.version_d row.version_s
decl_mode (digit q) = by_quote q row.digits_d row.digits_s
decl_mode (letters q []) = by_quote q row.encoding_d row.encoding_s
decl_mode (letters q (c ∷ cs)) = row.spelled
decl_mode (choice q) = by_quote q row.standalone_d row.standalone_s
decl_mode (chosen q) = by_quote q row.answer_d row.answer_s
decl_mode (valued i) = valued_mode i
decl_mode (between i) = between_mode i

abbrev pub text_mode : Brackets → ℕ
text_mode b0 = row.text_in_of
text_mode b1 = row.text_shut1
text_mode b2 = row.text_shut2

abbrev pub section_mode : Brackets → ℕ
section_mode b0 = row.cdata
section_mode b1 = row.cdata1
section_mode b2 = row.cdata2

abbrev pub lt_mode : Place → ℕ
lt_mode before = row.lt_before
lt_mode after = row.lt_after
lt_mode (inside n ns) = row.lt_in

abbrev pub bang_mode : Place → ℕ
bang_mode before = row.bang_out
bang_mode after = row.bang_out
bang_mode (inside n ns) = row.bang_in

abbrev pub target_mode : Letters → ℕ
target_mode x0 = row.pi_open
target_mode x1 = row.pi_x
target_mode x2 = row.pi_xm
target_mode x3 = row.pi_xml

abbrev pub misc_mode : InMisc → Place → ℕ
misc_mode bang pl = bang_mode pl
misc_mode dash pl = row.bang_dash
misc_mode remark0 pl = row.comment
misc_mode remark1 pl = row.comment1
misc_mode remark2 pl = row.comment2
misc_mode (target x) pl = target_mode x
misc_mode named pl = row.pi_name
misc_mode pi_data pl = row.pi_data
misc_mode pi_query pl = row.pi_query
misc_mode pi_close pl = row.pi_close

abbrev pub ref_mode : InRef → ℕ
ref_mode ampersand = row.ref_open
ref_mode ref_name = row.ref_name
ref_mode hash = row.ref_hash
ref_mode digits = row.ref_digits
ref_mode hash_x = row.ref_x
ref_mode hexes = row.ref_hex

abbrev pub tag_mode : InTag → ℕ
tag_mode name = row.tag_name
tag_mode gap = row.in_tag
tag_mode slash = row.tag_slash
tag_mode key = row.key
tag_mode key_eq = row.key_eq
tag_mode quote = row.quote
tag_mode (value q) = by_quote q row.value_d row.value_s
tag_mode value_end = row.value_end

abbrev pub end_mode : List ℕ → ℕ
end_mode [] = row.end_tag
end_mode (c ∷ n) = row.end_name

abbrev pub mode_of : State → ℕ
mode_of fresh = row.begin
mode_of marked = row.first
mode_of lt_first = row.lt_first
mode_of (heading x) = head_mode x
mode_of (decl d) = decl_mode d
mode_of (literal c cs g) = row.spelled
mode_of prolog = row.text_before
mode_of epilog = row.text_after_of
mode_of (text k p n ns) = text_mode k
mode_of (lt pl) = lt_mode pl
mode_of (misc m p pl) = misc_mode m pl
mode_of (section k p n ns) = section_mode k
mode_of (ref m p h) = ref_mode m
mode_of (tag k p n ns) = tag_mode k
mode_of (ending n ns) = end_mode n
mode_of (end_space ns) = row.end_tag
