-- The control of the tokenizer, byte by byte. Definitions only.
use Rattle.std.specs.Prelude.{ℕ, ◌+◌, ◌-◌, ◌*◌, max, List, [], ◌∷◌, ◌++◌, Bool, true, false, cond, ◌&&◌, leb, ltb, eqb}
use Rattle.names.specs.Bytes.{bytes}
use Rattle.xml_chars.specs.Chars.{Range, meets, any_char, name_start, name_char, is_space, is_digit, is_hex, lower, Quote, single, double, mark}
use Rattle.xml_chars.specs.Bytes.{Left, one, two, three, Part, whole, part, fits}
use Rattle.xml_machine.specs.State.{Brackets, b0, b1, b2, Letters, x0, x1, x2, x3, Place, before, after, inside, Host, content, attribute, Act, Stay, Mark, Here, EndText, TextMark, Name, NameStart, NameEnd, Start, Empty, End, Key, Value, Ref, Comment, Pi, CData, Next, no, go}
use Rattle.xml_machine.specs.State.{State, fresh, marked, lt_first, heading, decl, literal, prolog, epilog, text, lt, misc, section, ref, tag, ending, end_space}
use Rattle.xml_machine.specs.State.{InMisc, bang, dash, remark0, remark1, remark2, target, named, pi_data, pi_query, pi_close, InRef, ampersand, ref_name, hash, digits, hash_x, hexes, Goal, to_marked, to_section, to_equals, to_point, to_chosen}
use Rattle.xml_machine.specs.State.{Item, version, encoding, standalone, InDecl, opening, equals, quoting, point, digit, letters, choice, chosen, valued, between}
use Rattle.xml_machine.specs.State.{InTag, name, gap, slash, key, key_eq, quote, value, value_end}

-- ---- characters
-- the first byte of a character that has more
unfoldable pub begun : List Range → ℕ → Left → ℕ → Act → (Part → State) → Next
begun cls low l least act f = cond (fits cls low l least) (go act (f (part cls low l least))) no

-- the first byte of a character of the class; another ASCII byte is left to `other`
unfoldable pub char : List Range → ℕ → Act → (Part → State) → Next → Next
char cls b act f other =
    cond (ltb b 0x80) (cond (meets cls b b) (go act (f whole)) other)
    (cond (ltb b 0xC0) no
    (cond (ltb b 0xE0) (begun cls ((b - 0xC0) * 64) one 0x80 act f)
    (cond (ltb b 0xF0) (begun cls ((b - 0xE0) * 4096) two 0x800 act f)
    (cond (ltb b 0xF8) (begun cls ((b - 0xF0) * 262144) three 0x10000 act f) no))))

-- a further byte of a character
unfoldable pub follow : List Range → ℕ → Left → ℕ → ℕ → (Part → State) → Next
follow cls low one least b f =
    cond (leb 0x80 b && ltb b 0xC0) (cond (meets cls (max (low + (b - 0x80)) least) (low + (b - 0x80))) (go Stay (f whole)) no) no
follow cls low two least b f = cond (leb 0x80 b && ltb b 0xC0) (begun cls (low + (b - 0x80) * 64) one least Stay f) no
follow cls low three least b f = cond (leb 0x80 b && ltb b 0xC0) (begun cls (low + (b - 0x80) * 4096) two least Stay f) no

-- one byte
abbrev pub only : ℕ → ℕ → Act → State → Next
only c b act s = cond (eqb b c) (go act s) no

-- white space leads to s
abbrev pub spaced : ℕ → Act → State → Next → Next
spaced b act s other = cond (is_space b) (go act s) other

-- a quote leads on by f
abbrev pub quoted : ℕ → Act → (Quote → State) → Next → Next
quoted b act f other = cond (eqb b (mark double)) (go act (f double)) (cond (eqb b (mark single)) (go act (f single)) other)

-- ---- places
-- behind a closed element
abbrev pub shut : List (List ℕ) → State
shut [] = epilog
shut (n ∷ ns) = text b0 whole n ns

-- behind a comment or an instruction
abbrev pub resume : Place → State
resume before = prolog
resume after = epilog
resume (inside n ns) = text b0 whole n ns

-- ---- fixed bytes
abbrev pub reached : Goal → State
reached to_marked = marked
reached (to_section n ns) = section b0 whole n ns
reached (to_equals i) = decl (equals i)
reached (to_point q) = decl (point q)
reached (to_chosen q) = decl (chosen q)

abbrev pub reached_by : Goal → Act
reached_by to_marked = Mark
reached_by (to_section n ns) = Mark
reached_by (to_equals i) = Stay
reached_by (to_point q) = Stay
reached_by (to_chosen q) = Stay

abbrev pub in_literal : ℕ → List ℕ → Goal → ℕ → Next
in_literal c [] g b = only c b (reached_by g) (reached g)
in_literal c (d ∷ cs) g b = only c b Stay (literal d cs g)

-- the fixed bytes behind their first
abbrev pub to_come : List ℕ → Goal → State
to_come [] g = reached g
to_come (c ∷ cs) g = literal c cs g

-- ---- text
abbrev pub more : Brackets → Brackets
more b0 = b1
more b1 = b2
more b2 = b2

-- `>` in text: not behind `]]`
abbrev pub angle : Brackets → List ℕ → List (List ℕ) → Next
angle b0 n ns = go Stay (text b0 whole n ns)
angle b1 n ns = go Stay (text b0 whole n ns)
angle b2 n ns = no

unfoldable pub in_text : Brackets → List ℕ → List (List ℕ) → ℕ → Next
in_text k n ns b =
    cond (eqb b 0x3C) (go EndText (lt (inside n ns)))
    (cond (eqb b 0x26) (go TextMark (ref ampersand whole (content n ns)))
    (cond (eqb b 0x5D) (go Stay (text (more k) whole n ns))
    (cond (eqb b 0x3E) (angle k n ns) (char any_char b Stay (λ p. text b0 p n ns) no))))

-- `>` in a section: its end behind `]]`
abbrev pub section_end : Brackets → List ℕ → List (List ℕ) → Next
section_end b0 n ns = go Stay (section b0 whole n ns)
section_end b1 n ns = go Stay (section b0 whole n ns)
section_end b2 n ns = go CData (text b0 whole n ns)

unfoldable pub in_section : Brackets → List ℕ → List (List ℕ) → ℕ → Next
in_section k n ns b =
    cond (eqb b 0x5D) (go Stay (section (more k) whole n ns))
    (cond (eqb b 0x3E) (section_end k n ns) (char any_char b Stay (λ p. section b0 p n ns) no))

-- ---- references
abbrev pub ref_end : Host → Next
ref_end (content n ns) = go Ref (text b0 whole n ns)
ref_end (attribute q n ns) = go Stay (tag (value q) whole n ns)

-- rule N5
unfoldable pub in_ref : InRef → Host → ℕ → Next
in_ref ampersand h b = char name_start b Stay (λ p. ref ref_name p h) (only 0x23 b Stay (ref hash whole h))
in_ref ref_name h b = char name_char b Stay (λ p. ref ref_name p h) (cond (eqb b 0x3B) (ref_end h) no)
in_ref hash h b = cond (is_digit b) (go Stay (ref digits whole h)) (only 0x78 b Stay (ref hash_x whole h))
in_ref digits h b = cond (is_digit b) (go Stay (ref digits whole h)) (cond (eqb b 0x3B) (ref_end h) no)
in_ref hash_x h b = cond (is_hex b) (go Stay (ref hexes whole h)) no
in_ref hexes h b = cond (is_hex b) (go Stay (ref hexes whole h)) (cond (eqb b 0x3B) (ref_end h) no)

-- ---- comments and instructions
-- `<![` stands only inside the root
abbrev pub section_at : Place → ℕ → Next
section_at before b = no
section_at after b = no
section_at (inside n ns) b = only 0x5B b Stay (to_come (bytes "CDATA[") (to_section n ns))

-- behind a target
abbrev pub target_end : Place → ℕ → Next
target_end pl b = spaced b Stay (misc pi_data whole pl) (only 0x3F b Stay (misc pi_close whole pl))

unfoldable pub in_target : Letters → Place → ℕ → Next
in_target x0 pl b = cond (eqb (lower b) 0x78) (go Stay (misc (target x1) whole pl)) (char name_start b Stay (λ p. misc named p pl) no)
in_target x1 pl b = cond (eqb (lower b) 0x6D) (go Stay (misc (target x2) whole pl)) (char name_char b Stay (λ p. misc named p pl) (target_end pl b))
in_target x2 pl b = cond (eqb (lower b) 0x6C) (go Stay (misc (target x3) whole pl)) (char name_char b Stay (λ p. misc named p pl) (target_end pl b))
in_target x3 pl b = char name_char b Stay (λ p. misc named p pl) no

unfoldable pub in_misc : InMisc → Place → ℕ → Next
in_misc bang pl b = cond (eqb b 0x2D) (go Stay (misc dash whole pl)) (section_at pl b)
in_misc dash pl b = only 0x2D b Mark (misc remark0 whole pl)
in_misc remark0 pl b = cond (eqb b 0x2D) (go Stay (misc remark1 whole pl)) (char any_char b Stay (λ p. misc remark0 p pl) no)
in_misc remark1 pl b = cond (eqb b 0x2D) (go Stay (misc remark2 whole pl)) (char any_char b Stay (λ p. misc remark0 p pl) no)
in_misc remark2 pl b = only 0x3E b Comment (resume pl)
in_misc (target x) pl b = in_target x pl b
in_misc named pl b = char name_char b Stay (λ p. misc named p pl) (target_end pl b)
in_misc pi_data pl b = cond (eqb b 0x3F) (go Stay (misc pi_query whole pl)) (char any_char b Stay (λ p. misc pi_data p pl) no)
in_misc pi_query pl b =
    cond (eqb b 0x3F) (go Stay (misc pi_query whole pl))
    (cond (eqb b 0x3E) (go Pi (resume pl)) (char any_char b Stay (λ p. misc pi_data p pl) no))
in_misc pi_close pl b = only 0x3E b Pi (resume pl)

-- ---- the declaration
-- `xml` in lower case leads to it, any other target to an instruction
unfoldable pub in_heading : Letters → ℕ → Next
in_heading x0 b = cond (eqb b 0x78) (go Stay (heading x1)) (in_target x0 before b)
in_heading x1 b = cond (eqb b 0x6D) (go Stay (heading x2)) (in_target x1 before b)
in_heading x2 b = cond (eqb b 0x6C) (go Stay (heading x3)) (in_target x2 before b)
in_heading x3 b = spaced b Stay (decl opening) (in_target x3 before b)

abbrev pub decl_end : ℕ → Next
decl_end b = only 0x3F b Stay (misc pi_close whole before)

-- the words that may come behind an item
abbrev pub item_after : Item → ℕ → Next
item_after version b = cond (eqb b 0x65) (go Stay (to_come (bytes "ncoding") (to_equals encoding))) (cond (eqb b 0x73) (go Stay (to_come (bytes "tandalone") (to_equals standalone))) (decl_end b))
item_after encoding b = cond (eqb b 0x73) (go Stay (to_come (bytes "tandalone") (to_equals standalone))) (decl_end b)
item_after standalone b = decl_end b

-- behind an item's quote
abbrev pub value_of : Item → Quote → State
value_of version q = to_come (bytes "1.") (to_point q)
value_of encoding q = decl (letters q (bytes "utf-8"))
value_of standalone q = decl (choice q)

unfoldable pub in_decl : InDecl → ℕ → Next
in_decl opening b = spaced b Stay (decl opening) (only 0x76 b Stay (to_come (bytes "ersion") (to_equals version)))
in_decl (equals i) b = spaced b Stay (decl (equals i)) (only 0x3D b Stay (decl (quoting i)))
in_decl (quoting i) b = spaced b Stay (decl (quoting i)) (quoted b Stay (value_of i) no)
in_decl (point q) b = cond (is_digit b) (go Stay (decl (digit q))) no
in_decl (digit q) b = cond (is_digit b) (go Stay (decl (digit q))) (only (mark q) b Stay (decl (valued version)))
in_decl (letters q []) b = only (mark q) b Stay (decl (valued encoding))
in_decl (letters q (c ∷ cs)) b = cond (eqb (lower b) c) (go Stay (decl (letters q cs))) no
in_decl (choice q) b =
    cond (eqb b 0x79) (go Stay (to_come (bytes "es") (to_chosen q))) (only 0x6E b Stay (to_come (bytes "o") (to_chosen q)))
in_decl (chosen q) b = only (mark q) b Stay (decl (valued standalone))
in_decl (valued i) b = spaced b Stay (decl (between i)) (decl_end b)
in_decl (between i) b = spaced b Stay (decl (between i)) (item_after i b)

-- ---- tags
-- behind a tag's name or a value
unfoldable pub behind : Act → Act → List ℕ → List (List ℕ) → ℕ → Next
behind act start n ns b =
    spaced b act (tag gap whole n ns)
    (cond (eqb b 0x2F) (go act (tag slash whole n ns)) (only 0x3E b start (text b0 whole n ns)))

unfoldable pub in_tag : InTag → List ℕ → List (List ℕ) → ℕ → Next
in_tag name n ns b = char name_char b Stay (λ p. tag name p (n ++ (b ∷ [])) ns) (behind Name NameStart n ns b)
in_tag gap n ns b = char name_start b Here (λ p. tag key p n ns) (behind Stay Start n ns b)
in_tag slash n ns b = only 0x3E b Empty (shut ns)
in_tag key n ns b = char name_char b Stay (λ p. tag key p n ns) (spaced b Key (tag key_eq whole n ns) (only 0x3D b Key (tag quote whole n ns)))
in_tag key_eq n ns b = spaced b Stay (tag key_eq whole n ns) (only 0x3D b Stay (tag quote whole n ns))
in_tag quote n ns b = spaced b Stay (tag quote whole n ns) (quoted b Mark (λ q. tag (value q) whole n ns) no)
in_tag (value q) n ns b =
    cond (eqb b (mark q)) (go Value (tag value_end whole n ns))
    (cond (eqb b 0x26) (go Stay (ref ampersand whole (attribute q n ns)))
    (cond (eqb b 0x3C) no (char any_char b Stay (λ p. tag (value q) p n ns) no)))
in_tag value_end n ns b = behind Stay Start n ns b

-- a tag's name with a further byte
abbrev pub grown : InTag → List ℕ → List ℕ → List ℕ
grown name n bs = n ++ bs
grown gap n bs = n
grown slash n bs = n
grown key n bs = n
grown key_eq n bs = n
grown quote n bs = n
grown (value q) n bs = n
grown value_end n bs = n

-- ---- `<`
abbrev pub opens_misc : Place → ℕ → Next
opens_misc pl b = cond (eqb b 0x3F) (go Mark (misc (target x0) whole pl)) (only 0x21 b Stay (misc bang whole pl))

unfoldable pub in_lt : Place → ℕ → Next
in_lt before b = char name_start b Here (λ p. tag name p (b ∷ []) []) (opens_misc before b)
in_lt after b = opens_misc after b
in_lt (inside n ns) b = char name_start b Here (λ p. tag name p (b ∷ []) (n ∷ ns)) (cond (eqb b 0x2F) (go Mark (ending n ns)) (opens_misc (inside n ns) b))

-- outside the root
abbrev pub in_space : State → Place → ℕ → Next
in_space s pl b = cond (eqb b 0x3C) (go EndText (lt pl)) (spaced b Stay s no)

-- where the document begins
abbrev pub in_first : ℕ → Next
in_first b = cond (eqb b 0x3C) (go EndText lt_first) (spaced b Stay prolog no)

-- ---- the step (rule N1)
unfoldable pub step : State → ℕ → Next
step fresh b = cond (eqb b 0xEF) (go Stay (to_come (0xBB ∷ 0xBF ∷ []) to_marked)) (in_first b)
step marked b = in_first b
step lt_first b = cond (eqb b 0x3F) (go Mark (heading x0)) (in_lt before b)
step (heading x) b = in_heading x b
step (decl d) b = in_decl d b
step (literal c cs g) b = in_literal c cs g b
step prolog b = in_space prolog before b
step epilog b = in_space epilog after b
step (text k whole n ns) b = in_text k n ns b
step (text k (part cls low l least) n ns) b = follow cls low l least b (λ p. text k p n ns)
step (lt pl) b = in_lt pl b
step (misc m whole pl) b = in_misc m pl b
step (misc m (part cls low l least) pl) b = follow cls low l least b (λ p. misc m p pl)
step (section k whole n ns) b = in_section k n ns b
step (section k (part cls low l least) n ns) b = follow cls low l least b (λ p. section k p n ns)
step (ref m whole h) b = in_ref m h b
step (ref m (part cls low l least) h) b = follow cls low l least b (λ p. ref m p h)
step (tag m whole n ns) b = in_tag m n ns b
step (tag m (part cls low l least) n ns) b = follow cls low l least b (λ p. tag m p (grown m n (b ∷ [])) ns)
step (ending [] ns) b = spaced b Name (end_space ns) (only 0x3E b NameEnd (shut ns))
step (ending (c ∷ n) ns) b = only c b Stay (ending n ns)
step (end_space ns) b = spaced b Stay (end_space ns) (only 0x3E b End (shut ns))

-- accepted here
abbrev pub done : State → Bool
done fresh = false
done marked = false
done lt_first = false
done (heading x) = false
done (decl d) = false
done (literal c cs g) = false
done prolog = false
done epilog = true
done (text k p n ns) = false
done (lt pl) = false
done (misc m p pl) = false
done (section k p n ns) = false
done (ref m p h) = false
done (tag m p n ns) = false
done (ending n ns) = false
done (end_space ns) = false
