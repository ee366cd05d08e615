-- Which records a tag's attributes belong to: a value ends only in an open tag, and a tag ends before the next begins. Assumes nothing.
use Prim.Native.Nat.{ℕ, ◌+◌, ◌-◌, ◌*◌, max}
use mathlib.Core.Path.{◌≡◌, refl}
use mathlib.Core.List.{List, [], ◌∷◌}
use mathlib.Core.Bool.{Bool, true, false, cond, ◌&&◌}
use lib.Dec.{leb, ltb, eqb}
use Rattle.xml_complete.specs.of_xml_chars.Chars.{Range, meets, any_char, name_start, name_char, is_space, is_digit, is_hex, lower, Quote, single, double, mark}
use Rattle.xml_complete.specs.of_xml_chars.Bytes.{Left, one, two, three, Part, whole, part, fits}
use Rattle.xml_complete.specs.of_xml_machine.State as state
use Rattle.xml_complete.specs.of_xml_machine.State.{State, fresh, marked, lt_first, heading, decl, literal, prolog, epilog, text, lt, misc, section, ref, tag, ending, end_space, Next, Brackets, b0, b1, b2}
use Rattle.xml_complete.specs.of_xml_machine.State.{Act, Stay, Mark, Here, EndText, TextMark, Name, NameStart, NameEnd, Start, Empty, End, Key, Value, Ref, Comment, Pi, CData}
use Rattle.xml_complete.specs.of_xml_machine.State.{Letters, x0, x1, x2, x3, Place, before, inside, InMisc, bang, dash, remark0, remark1, remark2, target, named, pi_data, pi_query, pi_close}
use Rattle.xml_complete.specs.of_xml_machine.State.{InRef, ampersand, ref_name, hash, digits, hash_x, hexes, Host, content, attribute, Goal, to_marked, to_section, to_equals, to_point, to_chosen}
use Rattle.xml_complete.specs.of_xml_machine.State.{Item, version, encoding, standalone, InDecl, opening, equals, quoting, point, digit, letters, choice, chosen, valued, between}
use Rattle.xml_complete.specs.of_xml_machine.State.{InTag, name, gap, slash, key, key_eq, quote, value, value_end}
use Rattle.xml_complete.specs.of_xml_machine.Machine.{begun, char, follow, only, spaced, quoted, shut, resume, reached, reached_by, in_literal, angle, in_text, section_end, in_section, ref_end, in_ref, section_at, target_end, in_target, in_misc, in_heading, decl_end, item_after, value_of, in_decl, behind, in_tag, opens_misc, in_lt, in_space, in_first, step}

-- behind a start tag's name, before its end
abbrev pub tag_open : InTag → Bool
tag_open name = false
tag_open gap = true
tag_open slash = true
tag_open key = true
tag_open key_eq = true
tag_open quote = true
tag_open (value q) = true
tag_open value_end = true

abbrev pub host_open : Host → Bool
host_open (content n ns) = false
host_open (attribute q n ns) = true

abbrev pub is_open : State → Bool
is_open fresh = false
is_open marked = false
is_open lt_first = false
is_open (heading x) = false
is_open (decl d) = false
is_open (literal c cs g) = false
is_open prolog = false
is_open epilog = false
is_open (text k p n ns) = false
is_open (lt pl) = false
is_open (misc m p pl) = false
is_open (section k p n ns) = false
is_open (ref m p h) = host_open h
is_open (tag m p n ns) = tag_open m
is_open (ending n ns) = false
is_open (end_space ns) = false

-- what an act asks: whether a tag is open before it and behind it
abbrev pub Lawful : Act → Bool → Bool → Type 0
Lawful Stay x y = x ≡ y
Lawful Mark x y = x ≡ y
Lawful Here x y = x ≡ y
Lawful EndText x y = x ≡ y
Lawful TextMark x y = x ≡ y
Lawful Name x y = x ≡ false
Lawful NameStart x y = x ≡ y
Lawful NameEnd x y = x ≡ y
Lawful Start x y = (x ≡ true) × (y ≡ false)
Lawful Empty x y = (x ≡ true) × (y ≡ false)
Lawful End x y = x ≡ y
Lawful Key x y = x ≡ y
Lawful Value x y = (x ≡ true) × (y ≡ true)
Lawful Ref x y = x ≡ y
Lawful Comment x y = x ≡ y
Lawful Pi x y = x ≡ y
Lawful CData x y = x ≡ y

pub data Does (x : Bool) : Next → Type 0 where
  does : {a : Act} {u : State} → Lawful a x (is_open u) → Does x (state.go a u)
  none : Does x state.no

pub does-go : {x : Bool} {a : Act} {u : State} → Does x (state.go a u) → Lawful a x (is_open u)
does-go (does h) = h

either : {x : Bool} (c : Bool) {n o : Next} → Does x n → Does x o → Does x (cond c n o)
either true h k = h
either false h k = k

-- ---- characters
begun-does : {x : Bool} (cls : List Range) (low : ℕ) (l : Left) (least : ℕ) (a : Act) (f : Part → State) → ((p : Part) → Lawful a x (is_open (f p))) → Does x (begun cls low l least a f)
unfolding begun
begun-does cls low l least a f h = either (fits cls low l least) (does (h (part cls low l least))) none

char-does : {x : Bool} (cls : List Range) (b : ℕ) (a : Act) (f : Part → State) (other : Next) → ((p : Part) → Lawful a x (is_open (f p))) → Does x other → Does x (char cls b a f other)
unfolding char
char-does cls b a f other h k =
    either (ltb b 0x80) (either (meets cls b b) (does (h whole)) k)
    (either (ltb b 0xC0) none
    (either (ltb b 0xE0) (begun-does cls ((b - 0xC0) * 64) one 0x80 a f h)
    (either (ltb b 0xF0) (begun-does cls ((b - 0xE0) * 4096) two 0x800 a f h)
    (either (ltb b 0xF8) (begun-does cls ((b - 0xF0) * 262144) three 0x10000 a f h) none))))

follow-does : {x : Bool} (cls : List Range) (low : ℕ) (l : Left) (least b : ℕ) (f : Part → State) → ((p : Part) → x ≡ is_open (f p)) → Does x (follow cls low l least b f)
unfolding follow
follow-does cls low one least b f h = either (leb 0x80 b && ltb b 0xC0) (either (meets cls (max (low + (b - 0x80)) least) (low + (b - 0x80))) (does (h whole)) none) none
follow-does cls low two least b f h = either (leb 0x80 b && ltb b 0xC0) (begun-does cls (low + (b - 0x80) * 64) one least Stay f h) none
follow-does cls low three least b f h = either (leb 0x80 b && ltb b 0xC0) (begun-does cls (low + (b - 0x80) * 4096) two least Stay f h) none

only-does : {x : Bool} (c b : ℕ) (a : Act) (u : State) → Lawful a x (is_open u) → Does x (only c b a u)
only-does c b a u h = either (eqb b c) (does h) none

spaced-does : {x : Bool} (b : ℕ) (a : Act) (u : State) (other : Next) → Lawful a x (is_open u) → Does x other → Does x (spaced b a u other)
spaced-does b a u other h k = either (is_space b) (does h) k

quoted-does : {x : Bool} (b : ℕ) (a : Act) (f : Quote → State) → ((q : Quote) → Lawful a x (is_open (f q))) → Does x (quoted b a f state.no)
quoted-does b a f h = either (eqb b (mark double)) (does (h double)) (either (eqb b (mark single)) (does (h single)) none)

-- ---- places
shut_open : (ns : List (List ℕ)) → false ≡ is_open (shut ns)
shut_open [] = refl
shut_open (n ∷ ns) = refl

shut-closed : (ns : List (List ℕ)) → is_open (shut ns) ≡ false
shut-closed [] = refl
shut-closed (n ∷ ns) = refl

resume-open : (pl : Place) → false ≡ is_open (resume pl)
resume-open before = refl
resume-open state.after = refl
resume-open (inside n ns) = refl

reached-does : (g : Goal) → Lawful (reached_by g) false (is_open (reached g))
reached-does to_marked = refl
reached-does (to_section n ns) = refl
reached-does (to_equals i) = refl
reached-does (to_point q) = refl
reached-does (to_chosen q) = refl

literal-does : (c : ℕ) (cs : List ℕ) (g : Goal) (b : ℕ) → Does false (in_literal c cs g b)
literal-does c [] g b = only-does c b (reached_by g) (reached g) (reached-does g)
literal-does c (d ∷ cs) g b = only-does c b Stay _ refl

-- ---- text, sections, references
angle-does : (k : Brackets) (n : List ℕ) (ns : List (List ℕ)) → Does false (angle k n ns)
angle-does b0 n ns = does refl
angle-does b1 n ns = does refl
angle-does b2 n ns = none

text-does : (k : Brackets) (n : List ℕ) (ns : List (List ℕ)) (b : ℕ) → Does false (in_text k n ns b)
unfolding in_text
text-does k n ns b =
    either (eqb b 0x3C) (does refl)
    (either (eqb b 0x26) (does refl)
    (either (eqb b 0x5D) (does refl)
    (either (eqb b 0x3E) (angle-does k n ns) (char-does any_char b Stay _ _ (λ p. refl) none))))

section-end-does : (k : Brackets) (n : List ℕ) (ns : List (List ℕ)) → Does false (section_end k n ns)
section-end-does b0 n ns = does refl
section-end-does b1 n ns = does refl
section-end-does b2 n ns = does refl

section-does : (k : Brackets) (n : List ℕ) (ns : List (List ℕ)) (b : ℕ) → Does false (in_section k n ns b)
unfolding in_section
section-does k n ns b = either (eqb b 0x5D) (does refl) (either (eqb b 0x3E) (section-end-does k n ns) (char-does any_char b Stay _ _ (λ p. refl) none))

ref-end-does : (h : Host) → Does (host_open h) (ref_end h)
ref-end-does (content n ns) = does refl
ref-end-does (attribute q n ns) = does refl

ref-does : (m : InRef) (h : Host) (b : ℕ) → Does (host_open h) (in_ref m h b)
unfolding in_ref
ref-does ampersand h b = char-does name_start b Stay _ _ (λ p. refl) (only-does 0x23 b Stay _ refl)
ref-does ref_name h b = char-does name_char b Stay _ _ (λ p. refl) (either (eqb b 0x3B) (ref-end-does h) none)
ref-does hash h b = either (is_digit b) (does refl) (only-does 0x78 b Stay _ refl)
ref-does digits h b = either (is_digit b) (does refl) (either (eqb b 0x3B) (ref-end-does h) none)
ref-does hash_x h b = either (is_hex b) (does refl) none
ref-does hexes h b = either (is_hex b) (does refl) (either (eqb b 0x3B) (ref-end-does h) none)

-- ---- comments and instructions
section-at-does : (pl : Place) (b : ℕ) → Does false (section_at pl b)
section-at-does before b = none
section-at-does state.after b = none
section-at-does (inside n ns) b = only-does 0x5B b Stay _ refl

target-end-does : (pl : Place) (b : ℕ) → Does false (target_end pl b)
target-end-does pl b = spaced-does b Stay _ _ refl (only-does 0x3F b Stay _ refl)

target-does : (x : Letters) (pl : Place) (b : ℕ) → Does false (in_target x pl b)
unfolding in_target
target-does x0 pl b = either (eqb (lower b) 0x78) (does refl) (char-does name_start b Stay _ _ (λ p. refl) none)
target-does x1 pl b = either (eqb (lower b) 0x6D) (does refl) (char-does name_char b Stay _ _ (λ p. refl) (target-end-does pl b))
target-does x2 pl b = either (eqb (lower b) 0x6C) (does refl) (char-does name_char b Stay _ _ (λ p. refl) (target-end-does pl b))
target-does x3 pl b = char-does name_char b Stay _ _ (λ p. refl) none

misc-does : (m : InMisc) (pl : Place) (b : ℕ) → Does false (in_misc m pl b)
unfolding in_misc
misc-does bang pl b = either (eqb b 0x2D) (does refl) (section-at-does pl b)
misc-does dash pl b = only-does 0x2D b Mark _ refl
misc-does remark0 pl b = either (eqb b 0x2D) (does refl) (char-does any_char b Stay _ _ (λ p. refl) none)
misc-does remark1 pl b = either (eqb b 0x2D) (does refl) (char-does any_char b Stay _ _ (λ p. refl) none)
misc-does remark2 pl b = only-does 0x3E b Comment _ (resume-open pl)
misc-does (target x) pl b = target-does x pl b
misc-does named pl b = char-does name_char b Stay _ _ (λ p. refl) (target-end-does pl b)
misc-does pi_data pl b = either (eqb b 0x3F) (does refl) (char-does any_char b Stay _ _ (λ p. refl) none)
misc-does pi_query pl b = either (eqb b 0x3F) (does refl) (either (eqb b 0x3E) (does (resume-open pl)) (char-does any_char b Stay _ _ (λ p. refl) none))
misc-does pi_close pl b = only-does 0x3E b Pi _ (resume-open pl)

-- ---- the declaration
heading-does : (x : Letters) (b : ℕ) → Does false (in_heading x b)
unfolding in_heading
heading-does x0 b = either (eqb b 0x78) (does refl) (target-does x0 before b)
heading-does x1 b = either (eqb b 0x6D) (does refl) (target-does x1 before b)
heading-does x2 b = either (eqb b 0x6C) (does refl) (target-does x2 before b)
heading-does x3 b = spaced-does b Stay _ _ refl (target-does x3 before b)

decl-end-does : (b : ℕ) → Does false (decl_end b)
decl-end-does b = only-does 0x3F b Stay _ refl

item_after-does : (i : Item) (b : ℕ) → Does false (item_after i b)
item_after-does version b = either (eqb b 0x65) (does refl) (either (eqb b 0x73) (does refl) (decl-end-does b))
item_after-does encoding b = either (eqb b 0x73) (does refl) (decl-end-does b)
item_after-does standalone b = decl-end-does b

value-open : (i : Item) (q : Quote) → false ≡ is_open (value_of i q)
value-open version q = refl
value-open encoding q = refl
value-open standalone q = refl

decl-does : (d : InDecl) (b : ℕ) → Does false (in_decl d b)
unfolding in_decl
decl-does opening b = spaced-does b Stay _ _ refl (only-does 0x76 b Stay _ refl)
decl-does (equals i) b = spaced-does b Stay _ _ refl (only-does 0x3D b Stay _ refl)
decl-does (quoting i) b = spaced-does b Stay _ _ refl (quoted-does b Stay (value_of i) (value-open i))
decl-does (point q) b = either (is_digit b) (does refl) none
decl-does (digit q) b = either (is_digit b) (does refl) (only-does (mark q) b Stay _ refl)
decl-does (letters q []) b = only-does (mark q) b Stay _ refl
decl-does (letters q (c ∷ cs)) b = either (eqb (lower b) c) (does refl) none
decl-does (choice q) b = either (eqb b 0x79) (does refl) (only-does 0x6E b Stay _ refl)
decl-does (chosen q) b = only-does (mark q) b Stay _ refl
decl-does (valued i) b = spaced-does b Stay _ _ refl (decl-end-does b)
decl-does (between i) b = spaced-does b Stay _ _ refl (item_after-does i b)

-- ---- tags
behind-does : {x : Bool} (a start : Act) (n : List ℕ) (ns : List (List ℕ)) (b : ℕ) → Lawful a x true → Lawful start x false → Does x (behind a start n ns b)
unfolding behind
behind-does a start n ns b h k = spaced-does b a _ _ h (either (eqb b 0x2F) (does h) (only-does 0x3E b start _ k))

tag-does : (m : InTag) (n : List ℕ) (ns : List (List ℕ)) (b : ℕ) → Does (tag_open m) (in_tag m n ns b)
unfolding in_tag
tag-does name n ns b = char-does name_char b Stay _ _ (λ p. refl) (behind-does Name NameStart n ns b refl refl)
tag-does gap n ns b = char-does name_start b Here _ _ (λ p. refl) (behind-does Stay Start n ns b refl (refl, refl))
tag-does slash n ns b = only-does 0x3E b Empty _ (refl, shut-closed ns)
tag-does key n ns b = char-does name_char b Stay _ _ (λ p. refl) (spaced-does b Key _ _ refl (only-does 0x3D b Key _ refl))
tag-does key_eq n ns b = spaced-does b Stay _ _ refl (only-does 0x3D b Stay _ refl)
tag-does quote n ns b = spaced-does b Stay _ _ refl (quoted-does b Mark (λ q. tag (value q) whole n ns) (λ q. refl))
tag-does (value q) n ns b = either (eqb b (mark q)) (does (refl, refl)) (either (eqb b 0x26) (does refl) (either (eqb b 0x3C) none (char-does any_char b Stay _ _ (λ p. refl) none)))
tag-does value_end n ns b = behind-does Stay Start n ns b refl (refl, refl)

-- ---- `<`
opens-misc-does : (pl : Place) (b : ℕ) → Does false (opens_misc pl b)
opens-misc-does pl b = either (eqb b 0x3F) (does refl) (only-does 0x21 b Stay _ refl)

lt-does : (pl : Place) (b : ℕ) → Does false (in_lt pl b)
unfolding in_lt
lt-does before b = char-does name_start b Here _ _ (λ p. refl) (opens-misc-does before b)
lt-does state.after b = opens-misc-does state.after b
lt-does (inside n ns) b = char-does name_start b Here _ _ (λ p. refl) (either (eqb b 0x2F) (does refl) (opens-misc-does (inside n ns) b))

space-does : (s : State) (pl : Place) (b : ℕ) → false ≡ is_open s → Does false (in_space s pl b)
space-does s pl b h = either (eqb b 0x3C) (does refl) (spaced-does b Stay _ _ h none)

first_does : (b : ℕ) → Does false (in_first b)
first_does b = either (eqb b 0x3C) (does refl) (spaced-does b Stay _ _ refl none)

pub step-does : (s : State) (b : ℕ) → Does (is_open s) (step s b)
unfolding step
step-does fresh b = either (eqb b 0xEF) (does refl) (first_does b)
step-does marked b = first_does b
step-does lt_first b = either (eqb b 0x3F) (does refl) (lt-does before b)
step-does (heading x) b = heading-does x b
step-does (decl d) b = decl-does d b
step-does (literal c cs g) b = literal-does c cs g b
step-does prolog b = space-does prolog before b refl
step-does epilog b = space-does epilog state.after b refl
step-does (text k whole n ns) b = text-does k n ns b
step-does (text k (part cls low l least) n ns) b = follow-does cls low l least b _ (λ p. refl)
step-does (lt pl) b = lt-does pl b
step-does (misc m whole pl) b = misc-does m pl b
step-does (misc m (part cls low l least) pl) b = follow-does cls low l least b _ (λ p. refl)
step-does (section k whole n ns) b = section-does k n ns b
step-does (section k (part cls low l least) n ns) b = follow-does cls low l least b _ (λ p. refl)
step-does (ref m whole h) b = ref-does m h b
step-does (ref m (part cls low l least) h) b = follow-does cls low l least b _ (λ p. refl)
step-does (tag m whole n ns) b = tag-does m n ns b
step-does (tag m (part cls low l least) n ns) b = follow-does cls low l least b _ (λ p. refl)
step-does (ending [] ns) b = spaced-does b Name _ _ refl (only-does 0x3E b NameEnd _ (shut_open ns))
step-does (ending (c ∷ n) ns) b = only-does c b Stay _ refl
step-does (end_space ns) b = spaced-does b Stay _ _ refl (only-does 0x3E b End _ (shut_open ns))
