-- The bytes that complete a document from each state. Definitions only.
use Prim.Native.Nat.{ℕ, ◌+◌, ◌-◌, max}
use mathlib.Core.List.{List, [], ◌∷◌, ◌++◌}
use Rattle.xml_machine.specs.of_names.Bytes.{bytes}
use Rattle.xml_machine.specs.of_xml_chars.Chars.{mark}
use Rattle.xml_machine.specs.of_xml_chars.Bytes.{Part, whole, part, span}
use Rattle.xml_machine.proofs.of_xml_chars.CharLaws.{pick}
use Rattle.xml_machine.proofs.of_xml_chars.Encoding.{tail}
use Rattle.xml_machine.specs.State.{State, fresh, marked, lt_first, heading, decl, literal, prolog, epilog, text, lt, misc, section, ref, tag, ending, end_space}
use Rattle.xml_machine.specs.State.{Letters, x0, x1, x2, x3, Place, before, after, inside, InMisc, bang, dash, remark0, remark1, remark2, target, named, pi_data, pi_query, pi_close}
use Rattle.xml_machine.specs.State.{InRef, ampersand, ref_name, hash, digits, hash_x, hexes, Host, content, attribute, Goal, to_marked, to_section, to_equals, to_point, to_chosen}
use Rattle.xml_machine.specs.State.{Item, version, encoding, standalone, InDecl, opening, equals, quoting, point, digit, letters, choice, chosen, valued, between}
use Rattle.xml_machine.specs.State.{InTag, name, gap, slash, key, key_eq, quote, value, value_end}

-- the rest of the character that stands open
abbrev pub closing : Part → List ℕ
closing whole = []
closing (part cls low l least) = tail l (pick cls (max low least) (low + (span l - 1)) - low)

-- end tags for the open names
abbrev pub close : List (List ℕ) → List ℕ
close [] = []
close (n ∷ ns) = 0x3C ∷ 0x2F ∷ (n ++ (0x3E ∷ close ns))

-- a root
abbrev pub root : List ℕ
root = bytes "<a/>"

abbrev pub leave_tag : InTag → List ℕ → List ℕ
leave_tag name t = bytes "/>" ++ t
leave_tag gap t = bytes "/>" ++ t
leave_tag slash t = bytes ">" ++ t
leave_tag key t = bytes "=''/>" ++ t
leave_tag key_eq t = bytes "=''/>" ++ t
leave_tag quote t = bytes "''/>" ++ t
leave_tag (value q) t = mark q ∷ (bytes "/>" ++ t)
leave_tag value_end t = bytes "/>" ++ t

-- behind a comment or an instruction
abbrev pub leave_place : Place → List ℕ
leave_place before = root
leave_place after = []
leave_place (inside n ns) = close (n ∷ ns)

-- a target that isn't `xml` yet, or is but may go on
abbrev pub leave_target : Letters → List ℕ → List ℕ
leave_target x0 t = bytes "a?>" ++ t
leave_target x1 t = bytes "?>" ++ t
leave_target x2 t = bytes "?>" ++ t
leave_target x3 t = bytes "a?>" ++ t

abbrev pub leave_misc : InMisc → List ℕ → List ℕ
leave_misc bang t = bytes "---->" ++ t
leave_misc dash t = bytes "--->" ++ t
leave_misc remark0 t = bytes "-->" ++ t
leave_misc remark1 t = bytes "->" ++ t
leave_misc remark2 t = bytes ">" ++ t
leave_misc (target x) t = leave_target x t
leave_misc named t = bytes "?>" ++ t
leave_misc pi_data t = bytes "?>" ++ t
leave_misc pi_query t = bytes ">" ++ t
leave_misc pi_close t = bytes ">" ++ t

abbrev pub leave_ref : InRef → List ℕ → List ℕ
leave_ref ampersand t = bytes "a;" ++ t
leave_ref ref_name t = bytes ";" ++ t
leave_ref hash t = bytes "0;" ++ t
leave_ref digits t = bytes ";" ++ t
leave_ref hash_x t = bytes "0;" ++ t
leave_ref hexes t = bytes ";" ++ t

-- behind a reference
abbrev pub leave_host : Host → List ℕ
leave_host (content n ns) = close (n ∷ ns)
leave_host (attribute q n ns) = leave_tag (value q) (close ns)

abbrev pub leave_section : List ℕ → List (List ℕ) → List ℕ
leave_section n ns = bytes "]]>" ++ close (n ∷ ns)

-- behind an item's value
abbrev pub leave_item : List ℕ
leave_item = bytes "?>" ++ root

-- an item's value in single quotes
abbrev pub item_value : Item → List ℕ
item_value version = bytes "'1.0'" ++ leave_item
item_value encoding = bytes "'utf-8'" ++ leave_item
item_value standalone = bytes "'no'" ++ leave_item

abbrev pub leave_decl : InDecl → List ℕ
leave_decl opening = bytes "version='1.0'" ++ leave_item
leave_decl (equals i) = 0x3D ∷ item_value i
leave_decl (quoting i) = item_value i
leave_decl (point q) = 0x30 ∷ mark q ∷ leave_item
leave_decl (digit q) = mark q ∷ leave_item
leave_decl (letters q cs) = cs ++ (mark q ∷ leave_item)
leave_decl (choice q) = bytes "no" ++ (mark q ∷ leave_item)
leave_decl (chosen q) = mark q ∷ leave_item
leave_decl (valued i) = leave_item
leave_decl (between i) = leave_item

-- behind fixed bytes
abbrev pub leave_goal : Goal → List ℕ
leave_goal to_marked = root
leave_goal (to_section n ns) = leave_section n ns
leave_goal (to_equals i) = leave_decl (equals i)
leave_goal (to_point q) = leave_decl (point q)
leave_goal (to_chosen q) = leave_decl (chosen q)

-- behind `<`
abbrev pub leave_lt : Place → List ℕ
leave_lt before = bytes "a/>"
leave_lt after = bytes "?a?>"
leave_lt (inside n ns) = 0x2F ∷ (n ++ (0x3E ∷ close ns))

unfoldable pub finish : State → List ℕ
finish fresh = root
finish marked = root
finish lt_first = bytes "a/>"
finish (heading x) = leave_target x root
finish (decl d) = leave_decl d
finish (literal c cs g) = c ∷ (cs ++ leave_goal g)
finish prolog = root
finish epilog = []
finish (text k p n ns) = closing p ++ close (n ∷ ns)
finish (lt pl) = leave_lt pl
finish (misc m p pl) = closing p ++ leave_misc m (leave_place pl)
finish (section k p n ns) = closing p ++ leave_section n ns
finish (ref m p h) = closing p ++ leave_ref m (leave_host h)
finish (tag m p n ns) = closing p ++ leave_tag m (close ns)
finish (ending n ns) = n ++ (0x3E ∷ close ns)
finish (end_space ns) = 0x3E ∷ close ns
