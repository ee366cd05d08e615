-- A byte that isn't refused leads to a state that can be completed. Assumes nothing.
use Prim.Native.Nat.{ℕ, ◌+◌, ◌-◌, ◌*◌, max}
use mathlib.Core.Path.{refl}
use mathlib.Core.List.{List, [], ◌∷◌}
use mathlib.Core.Bool.{◌&&◌}
use lib.Dec.{leb, ltb, eqb}
use Rattle.xml_machine.specs.of_xml_chars.Chars.{Range, meets, any_char, name_start, name_char, is_space, is_digit, is_hex, lower, Quote, single, double, mark}
use Rattle.xml_machine.specs.of_xml_chars.Bytes.{Left, one, two, three, Part, whole, part, fits}
use Rattle.xml_machine.specs.State as state
use Rattle.xml_machine.specs.State.{State, fresh, marked, lt_first, heading, decl, literal, prolog, epilog, text, lt, misc, section, ref, tag, ending, end_space, Act, Next, Brackets, b0, b1, b2}
use Rattle.xml_machine.specs.State.{Letters, x0, x1, x2, x3, Place, before, inside, InMisc, bang, dash, remark0, remark1, remark2, target, named, pi_data, pi_query, pi_close}
use Rattle.xml_machine.specs.State.{InRef, ampersand, ref_name, hash, digits, hash_x, hexes, Host, content, attribute, Goal, to_marked, to_section, to_equals, to_point, to_chosen}
use Rattle.xml_machine.specs.State.{Item, version, encoding, standalone, InDecl, opening, equals, quoting, point, digit, letters, choice, chosen, valued, between}
use Rattle.xml_machine.specs.State.{InTag, name, gap, slash, key, key_eq, quote, value, value_end}
use Rattle.xml_machine.specs.Machine.{begun, char, follow, only, spaced, quoted, shut, resume, reached, in_literal, angle, in_text, section_end, in_section, ref_end, in_ref, section_at, target_end, in_target, in_misc, in_heading, decl_end, item_after, value_of, in_decl, behind, in_tag, opens_misc, in_lt, in_space, in_first, step}
use Rattle.xml_machine.proofs.Outcomes.{Ok, good, bad, cond-ok, when-ok}
use Rattle.xml_finish.proofs.Finished.{Fit, Viable}

-- ---- characters
abbrev Keeps : (Part → State) → Type 0
Keeps f = (p : Part) → Fit p → Viable (f p)

begun_ok : (cls : List Range) (low : ℕ) (l : Left) (least : ℕ) (act : Act) (f : Part → State) → Keeps f → Ok Viable (begun cls low l least act f)
unfolding begun
begun_ok cls low l least act f h = when-ok (fits cls low l least) (λ e. good (h (part cls low l least) e)) (λ e. bad)

char-ok : (cls : List Range) (b : ℕ) (act : Act) (f : Part → State) (other : Next) → Keeps f → Ok Viable other → Ok Viable (char cls b act f other)
unfolding char
char-ok cls b act f other h k =
    cond-ok (ltb b 0x80) (cond-ok (meets cls b b) (good (h whole tt)) k)
    (cond-ok (ltb b 0xC0) bad
    (cond-ok (ltb b 0xE0) (begun_ok cls ((b - 0xC0) * 64) one 0x80 act f h)
    (cond-ok (ltb b 0xF0) (begun_ok cls ((b - 0xE0) * 4096) two 0x800 act f h)
    (cond-ok (ltb b 0xF8) (begun_ok cls ((b - 0xF0) * 262144) three 0x10000 act f h) bad))))

follow-ok : (cls : List Range) (low : ℕ) (l : Left) (least b : ℕ) (f : Part → State) → Keeps f → Ok Viable (follow cls low l least b f)
unfolding follow
follow-ok cls low one least b f h = cond-ok (leb 0x80 b && ltb b 0xC0) (cond-ok (meets cls (max (low + (b - 0x80)) least) (low + (b - 0x80))) (good (h whole tt)) bad) bad
follow-ok cls low two least b f h = cond-ok (leb 0x80 b && ltb b 0xC0) (begun_ok cls (low + (b - 0x80) * 64) one least state.Stay f h) bad
follow-ok cls low three least b f h = cond-ok (leb 0x80 b && ltb b 0xC0) (begun_ok cls (low + (b - 0x80) * 4096) two least state.Stay f h) bad

only-ok : (c b : ℕ) (act : Act) (s : State) → Viable s → Ok Viable (only c b act s)
only-ok c b act s v = cond-ok (eqb b c) (good v) bad

spaced-ok : (b : ℕ) (act : Act) (s : State) (other : Next) → Viable s → Ok Viable other → Ok Viable (spaced b act s other)
spaced-ok b act s other v k = cond-ok (is_space b) (good v) k

quoted-ok : (b : ℕ) (act : Act) (f : Quote → State) → ((q : Quote) → Viable (f q)) → Ok Viable (quoted b act f state.no)
quoted-ok b act f v = cond-ok (eqb b (mark double)) (good (v double)) (cond-ok (eqb b (mark single)) (good (v single)) bad)

-- ---- places
shut-viable : (ns : List (List ℕ)) → Viable (shut ns)
shut-viable [] = tt
shut-viable (n ∷ ns) = tt

resume-viable : (pl : Place) → Viable (resume pl)
resume-viable before = tt
resume-viable state.after = tt
resume-viable (inside n ns) = tt

reached-viable : (g : Goal) → Viable (reached g)
reached-viable to_marked = tt
reached-viable (to_section n ns) = tt
reached-viable (to_equals i) = tt
reached-viable (to_point q) = tt
reached-viable (to_chosen q) = tt

literal-ok : (c : ℕ) (cs : List ℕ) (g : Goal) (b : ℕ) → Ok Viable (in_literal c cs g b)
literal-ok c [] g b = only-ok c b _ _ (reached-viable g)
literal-ok c (d ∷ cs) g b = only-ok c b _ _ tt

-- ---- text, sections, references
angle-ok : (k : Brackets) (n : List ℕ) (ns : List (List ℕ)) → Ok Viable (angle k n ns)
angle-ok b0 n ns = good tt
angle-ok b1 n ns = good tt
angle-ok b2 n ns = bad

text-ok : (k : Brackets) (n : List ℕ) (ns : List (List ℕ)) (b : ℕ) → Ok Viable (in_text k n ns b)
unfolding in_text
text-ok k n ns b =
    cond-ok (eqb b 0x3C) (good tt)
    (cond-ok (eqb b 0x26) (good tt)
    (cond-ok (eqb b 0x5D) (good tt)
    (cond-ok (eqb b 0x3E) (angle-ok k n ns) (char-ok any_char b _ _ _ (λ p h. h) bad))))

section-end-ok : (k : Brackets) (n : List ℕ) (ns : List (List ℕ)) → Ok Viable (section_end k n ns)
section-end-ok b0 n ns = good tt
section-end-ok b1 n ns = good tt
section-end-ok b2 n ns = good tt

section-ok : (k : Brackets) (n : List ℕ) (ns : List (List ℕ)) (b : ℕ) → Ok Viable (in_section k n ns b)
unfolding in_section
section-ok k n ns b = cond-ok (eqb b 0x5D) (good tt) (cond-ok (eqb b 0x3E) (section-end-ok k n ns) (char-ok any_char b _ _ _ (λ p h. h) bad))

ref-end-ok : (h : Host) → Ok Viable (ref_end h)
ref-end-ok (content n ns) = good tt
ref-end-ok (attribute q n ns) = good tt

ref-ok : (m : InRef) (h : Host) (b : ℕ) → Ok Viable (in_ref m h b)
unfolding in_ref
ref-ok ampersand h b = char-ok name_start b _ _ _ (λ p v. v) (only-ok 0x23 b _ _ tt)
ref-ok ref_name h b = char-ok name_char b _ _ _ (λ p v. v) (cond-ok (eqb b 0x3B) (ref-end-ok h) bad)
ref-ok hash h b = cond-ok (is_digit b) (good tt) (only-ok 0x78 b _ _ tt)
ref-ok digits h b = cond-ok (is_digit b) (good tt) (cond-ok (eqb b 0x3B) (ref-end-ok h) bad)
ref-ok hash_x h b = cond-ok (is_hex b) (good tt) bad
ref-ok hexes h b = cond-ok (is_hex b) (good tt) (cond-ok (eqb b 0x3B) (ref-end-ok h) bad)

-- ---- comments and instructions
section-at-ok : (pl : Place) (b : ℕ) → Ok Viable (section_at pl b)
section-at-ok before b = bad
section-at-ok state.after b = bad
section-at-ok (inside n ns) b = only-ok 0x5B b _ _ tt

target-end-ok : (pl : Place) (b : ℕ) → Ok Viable (target_end pl b)
target-end-ok pl b = spaced-ok b _ _ _ tt (only-ok 0x3F b _ _ tt)

target_ok : (x : Letters) (pl : Place) (b : ℕ) → Ok Viable (in_target x pl b)
unfolding in_target
target_ok x0 pl b = cond-ok (eqb (lower b) 0x78) (good tt) (char-ok name_start b _ _ _ (λ p v. v) bad)
target_ok x1 pl b = cond-ok (eqb (lower b) 0x6D) (good tt) (char-ok name_char b _ _ _ (λ p v. v) (target-end-ok pl b))
target_ok x2 pl b = cond-ok (eqb (lower b) 0x6C) (good tt) (char-ok name_char b _ _ _ (λ p v. v) (target-end-ok pl b))
target_ok x3 pl b = char-ok name_char b _ _ _ (λ p v. v) bad

misc-ok : (m : InMisc) (pl : Place) (b : ℕ) → Ok Viable (in_misc m pl b)
unfolding in_misc
misc-ok bang pl b = cond-ok (eqb b 0x2D) (good tt) (section-at-ok pl b)
misc-ok dash pl b = only-ok 0x2D b _ _ tt
misc-ok remark0 pl b = cond-ok (eqb b 0x2D) (good tt) (char-ok any_char b _ _ _ (λ p v. v) bad)
misc-ok remark1 pl b = cond-ok (eqb b 0x2D) (good tt) (char-ok any_char b _ _ _ (λ p v. v) bad)
misc-ok remark2 pl b = only-ok 0x3E b _ _ (resume-viable pl)
misc-ok (target x) pl b = target_ok x pl b
misc-ok named pl b = char-ok name_char b _ _ _ (λ p v. v) (target-end-ok pl b)
misc-ok pi_data pl b = cond-ok (eqb b 0x3F) (good tt) (char-ok any_char b _ _ _ (λ p v. v) bad)
misc-ok pi_query pl b = cond-ok (eqb b 0x3F) (good tt) (cond-ok (eqb b 0x3E) (good (resume-viable pl)) (char-ok any_char b _ _ _ (λ p v. v) bad))
misc-ok pi_close pl b = only-ok 0x3E b _ _ (resume-viable pl)

-- ---- the declaration
heading-ok : (x : Letters) (b : ℕ) → Ok Viable (in_heading x b)
unfolding in_heading
heading-ok x0 b = cond-ok (eqb b 0x78) (good tt) (target_ok x0 before b)
heading-ok x1 b = cond-ok (eqb b 0x6D) (good tt) (target_ok x1 before b)
heading-ok x2 b = cond-ok (eqb b 0x6C) (good tt) (target_ok x2 before b)
heading-ok x3 b = spaced-ok b _ _ _ tt (target_ok x3 before b)

decl-end-ok : (b : ℕ) → Ok Viable (decl_end b)
decl-end-ok b = only-ok 0x3F b _ _ tt

item_after-ok : (i : Item) (b : ℕ) → Ok Viable (item_after i b)
item_after-ok version b = cond-ok (eqb b 0x65) (good tt) (cond-ok (eqb b 0x73) (good tt) (decl-end-ok b))
item_after-ok encoding b = cond-ok (eqb b 0x73) (good tt) (decl-end-ok b)
item_after-ok standalone b = decl-end-ok b

value-viable : (i : Item) (q : Quote) → Viable (value_of i q)
unfolding lower
value-viable version q = tt
value-viable encoding q = (refl, (refl, (refl, (refl, (refl, tt)))))
value-viable standalone q = tt

decl-ok : (d : InDecl) (b : ℕ) → Viable (decl d) → Ok Viable (in_decl d b)
unfolding in_decl
decl-ok opening b v = spaced-ok b _ _ _ tt (only-ok 0x76 b _ _ tt)
decl-ok (equals i) b v = spaced-ok b _ _ _ tt (only-ok 0x3D b _ _ tt)
decl-ok (quoting i) b v = spaced-ok b _ _ _ tt (quoted-ok b _ (value_of i) (value-viable i))
decl-ok (point q) b v = cond-ok (is_digit b) (good tt) bad
decl-ok (digit q) b v = cond-ok (is_digit b) (good tt) (only-ok (mark q) b _ _ tt)
decl-ok (letters q []) b v = only-ok (mark q) b _ _ tt
decl-ok (letters q (c ∷ cs)) b v = cond-ok (eqb (lower b) c) (good v.1) bad
decl-ok (choice q) b v = cond-ok (eqb b 0x79) (good tt) (only-ok 0x6E b _ _ tt)
decl-ok (chosen q) b v = only-ok (mark q) b _ _ tt
decl-ok (valued i) b v = spaced-ok b _ _ _ tt (decl-end-ok b)
decl-ok (between i) b v = spaced-ok b _ _ _ tt (item_after-ok i b)

-- ---- tags
behind-ok : (act start : Act) (n : List ℕ) (ns : List (List ℕ)) (b : ℕ) → Ok Viable (behind act start n ns b)
unfolding behind
behind-ok act start n ns b = spaced-ok b _ _ _ tt (cond-ok (eqb b 0x2F) (good tt) (only-ok 0x3E b _ _ tt))

tag-ok : (m : InTag) (n : List ℕ) (ns : List (List ℕ)) (b : ℕ) → Ok Viable (in_tag m n ns b)
unfolding in_tag
tag-ok name n ns b = char-ok name_char b _ _ _ (λ p v. v) (behind-ok _ _ n ns b)
tag-ok gap n ns b = char-ok name_start b _ _ _ (λ p v. v) (behind-ok _ _ n ns b)
tag-ok slash n ns b = only-ok 0x3E b _ _ (shut-viable ns)
tag-ok key n ns b = char-ok name_char b _ _ _ (λ p v. v) (spaced-ok b _ _ _ tt (only-ok 0x3D b _ _ tt))
tag-ok key_eq n ns b = spaced-ok b _ _ _ tt (only-ok 0x3D b _ _ tt)
tag-ok quote n ns b = spaced-ok b _ _ _ tt (quoted-ok b _ (λ q. tag (value q) whole n ns) (λ q. tt))
tag-ok (value q) n ns b = cond-ok (eqb b (mark q)) (good tt) (cond-ok (eqb b 0x26) (good tt) (cond-ok (eqb b 0x3C) bad (char-ok any_char b _ _ _ (λ p v. v) bad)))
tag-ok value_end n ns b = behind-ok _ _ n ns b

-- ---- `<`
opens-misc-ok : (pl : Place) (b : ℕ) → Ok Viable (opens_misc pl b)
opens-misc-ok pl b = cond-ok (eqb b 0x3F) (good tt) (only-ok 0x21 b _ _ tt)

lt-ok : (pl : Place) (b : ℕ) → Ok Viable (in_lt pl b)
unfolding in_lt
lt-ok before b = char-ok name_start b _ _ _ (λ p v. v) (opens-misc-ok before b)
lt-ok state.after b = opens-misc-ok state.after b
lt-ok (inside n ns) b = char-ok name_start b _ _ _ (λ p v. v) (cond-ok (eqb b 0x2F) (good tt) (opens-misc-ok (inside n ns) b))

space-ok : (s : State) (pl : Place) (b : ℕ) → Viable s → Ok Viable (in_space s pl b)
space-ok s pl b v = cond-ok (eqb b 0x3C) (good tt) (spaced-ok b _ _ _ v bad)

first-ok : (b : ℕ) → Ok Viable (in_first b)
first-ok b = cond-ok (eqb b 0x3C) (good tt) (spaced-ok b _ _ _ tt bad)

pub step-viable : (s : State) (b : ℕ) → Viable s → Ok Viable (step s b)
unfolding step
step-viable fresh b v = cond-ok (eqb b 0xEF) (good tt) (first-ok b)
step-viable marked b v = first-ok b
step-viable lt_first b v = cond-ok (eqb b 0x3F) (good tt) (lt-ok before b)
step-viable (heading x) b v = heading-ok x b
step-viable (decl d) b v = decl-ok d b v
step-viable (literal c cs g) b v = literal-ok c cs g b
step-viable prolog b v = space-ok prolog before b tt
step-viable epilog b v = space-ok epilog state.after b tt
step-viable (text k whole n ns) b v = text-ok k n ns b
step-viable (text k (part cls low l least) n ns) b v = follow-ok cls low l least b _ (λ p w. w)
step-viable (lt pl) b v = lt-ok pl b
step-viable (misc m whole pl) b v = misc-ok m pl b
step-viable (misc m (part cls low l least) pl) b v = follow-ok cls low l least b _ (λ p w. w)
step-viable (section k whole n ns) b v = section-ok k n ns b
step-viable (section k (part cls low l least) n ns) b v = follow-ok cls low l least b _ (λ p w. w)
step-viable (ref m whole h) b v = ref-ok m h b
step-viable (ref m (part cls low l least) h) b v = follow-ok cls low l least b _ (λ p w. w)
step-viable (tag m whole n ns) b v = tag-ok m n ns b
step-viable (tag m (part cls low l least) n ns) b v = follow-ok cls low l least b _ (λ p w. w)
step-viable (ending [] ns) b v = spaced-ok b _ _ _ tt (only-ok 0x3E b _ _ (shut-viable ns))
step-viable (ending (c ∷ n) ns) b v = only-ok c b _ _ tt
step-viable (end_space ns) b v = spaced-ok b _ _ _ tt (only-ok 0x3E b _ _ (shut-viable ns))
