-- States whose open names and fixed bytes have no `<`, and bytes of characters that aren't `<`. Assumes nothing.
use Prim.Native.Nat.{ℕ, ◌+◌, ◌-◌, ◌*◌, max}
use mathlib.Core.Path.{◌≡◌, refl, sym, ap, ◌∙◌}
use mathlib.Core.List.{List, [], ◌∷◌, ◌++◌}
use mathlib.Core.Bool.{true, false, ◌&&◌, and-eq-true_iff, false≢true}
use native.Mathlib.Omega.{arith}
use borrow.Author.Tests.{ltb-false, leb-true}
use lib.Dec.{leb, ltb}
use Rattle.xml_finish.specs.of_xml_chars.Chars.{Range, crosses, meets, name_start, name_char}
use Rattle.xml_finish.specs.of_xml_chars.Bytes.{Left, one, two, three, Part, whole, part, fits}
use Rattle.xml_finish.specs.of_xml_machine.State as state
use Rattle.xml_finish.specs.of_xml_machine.State.{State, fresh, marked, lt_first, heading, decl, literal, prolog, epilog, text, lt, misc, section, ref, tag, ending, end_space, Act, Stay, Next}
use Rattle.xml_finish.specs.of_xml_machine.State.{Place, before, inside, InMisc, bang, dash, remark0, remark1, remark2, target, named, pi_data, pi_query, pi_close}
use Rattle.xml_finish.specs.of_xml_machine.State.{Host, content, attribute, Goal, to_marked, to_section, to_equals, to_point, to_chosen}
use Rattle.xml_finish.specs.of_xml_machine.State.{InDecl, opening, equals, quoting, point, digit, letters, choice, chosen, valued, between}
use Rattle.xml_finish.specs.of_xml_machine.Machine.{begun, char, follow}
use Rattle.xml_finish.proofs.of_xml_machine.Outcomes.{Ok, good, bad, cond-ok, when-ok}

-- ---- no `<`
abbrev pub NoLt : List ℕ → Type 0
NoLt [] = Unit {0}
NoLt (c ∷ s) = (¬ (c ≡ 0x3C)) × NoLt s

abbrev pub NoLts : List (List ℕ) → Type 0
NoLts [] = Unit {0}
NoLts (n ∷ ns) = NoLt n × NoLts ns

abbrev pub PlainPlace : Place → Type 0
PlainPlace before = Unit {0}
PlainPlace state.after = Unit {0}
PlainPlace (inside n ns) = NoLt n × NoLts ns

abbrev pub PlainHost : Host → Type 0
PlainHost (content n ns) = NoLt n × NoLts ns
PlainHost (attribute q n ns) = NoLt n × NoLts ns

abbrev pub PlainGoal : Goal → Type 0
PlainGoal to_marked = Unit {0}
PlainGoal (to_section n ns) = NoLt n × NoLts ns
PlainGoal (to_equals i) = Unit {0}
PlainGoal (to_point q) = Unit {0}
PlainGoal (to_chosen q) = Unit {0}

abbrev pub PlainDecl : InDecl → Type 0
PlainDecl opening = Unit {0}
PlainDecl (equals i) = Unit {0}
PlainDecl (quoting i) = Unit {0}
PlainDecl (point q) = Unit {0}
PlainDecl (digit q) = Unit {0}
PlainDecl (letters q cs) = NoLt cs
PlainDecl (choice q) = Unit {0}
PlainDecl (chosen q) = Unit {0}
PlainDecl (valued i) = Unit {0}
PlainDecl (between i) = Unit {0}

-- no character is open behind `<!`
abbrev pub Banged : InMisc → Part → Type 0
Banged bang whole = Unit {0}
Banged bang (part cls low l least) = ⊥
Banged dash p = Unit {0}
Banged remark0 p = Unit {0}
Banged remark1 p = Unit {0}
Banged remark2 p = Unit {0}
Banged (target x) p = Unit {0}
Banged named p = Unit {0}
Banged pi_data p = Unit {0}
Banged pi_query p = Unit {0}
Banged pi_close p = Unit {0}

abbrev pub Plain : State → Type 0
Plain fresh = Unit {0}
Plain marked = Unit {0}
Plain lt_first = Unit {0}
Plain (heading x) = Unit {0}
Plain (decl d) = PlainDecl d
Plain (literal c cs g) = NoLt (c ∷ cs) × PlainGoal g
Plain prolog = Unit {0}
Plain epilog = Unit {0}
Plain (text k p n ns) = NoLt n × NoLts ns
Plain (lt pl) = PlainPlace pl
Plain (misc m p pl) = Banged m p × PlainPlace pl
Plain (section k p n ns) = NoLt n × NoLts ns
Plain (ref m p h) = PlainHost h
Plain (tag m p n ns) = NoLt n × NoLts ns
Plain (ending n ns) = NoLt n × NoLts ns
Plain (end_space ns) = NoLts ns

pub no-lt_append : (s t : List ℕ) → NoLt s → NoLt t → NoLt (s ++ t)
no-lt_append [] t h k = k
no-lt_append (c ∷ s) t h k = (h.0, no-lt_append s t h.1 k)

-- a byte that begins a character of a class without `<`, or goes on with one
pub begun_ok : {Q : State → Type 0} (cls : List Range) (low : ℕ) (l : Left) (least : ℕ) (act : Act) (f : Part → State) → ((p : Part) → Q (f p)) → Ok Q (begun cls low l least act f)
unfolding begun
begun_ok cls low l least act f h = cond-ok (fits cls low l least) (good (h (part cls low l least))) bad

pub char-ok : {Q : State → Type 0} (cls : List Range) (b : ℕ) (act : Act) (f : Part → State) (other : Next) → ((p : Part) → Q (f p)) → Ok Q other → Ok Q (char cls b act f other)
unfolding char
char-ok cls b act f other h k =
    cond-ok (ltb b 0x80) (cond-ok (meets cls b b) (good (h whole)) k)
    (cond-ok (ltb b 0xC0) bad
    (cond-ok (ltb b 0xE0) (begun_ok cls ((b - 0xC0) * 64) one 0x80 act f h)
    (cond-ok (ltb b 0xF0) (begun_ok cls ((b - 0xE0) * 4096) two 0x800 act f h)
    (cond-ok (ltb b 0xF8) (begun_ok cls ((b - 0xF0) * 262144) three 0x10000 act f h) bad))))

pub name-ok : {Q : State → Type 0} (cls : List Range) → meets cls 0x3C 0x3C ≡ false → (b : ℕ) (act : Act) (f : Part → State) (other : Next) → (¬ (b ≡ 0x3C) → (p : Part) → Q (f p)) → Ok Q other → Ok Q (char cls b act f other)
unfolding char
name-ok cls miss b act f other h k =
    when-ok (ltb b 0x80) (λ e. when-ok (meets cls b b) (λ m. good (h (λ z. false≢true (sym miss ∙ sym (ap (λ (c : ℕ). meets cls c c) z) ∙ m)) whole)) (λ m. k))
    (λ e.
    let high = ltb-false b 0x80 e in
    let g : (p : Part) → _ = h (λ z. omega arith) in
    cond-ok (ltb b 0xC0) bad
    (cond-ok (ltb b 0xE0) (begun_ok cls ((b - 0xC0) * 64) one 0x80 act f g)
    (cond-ok (ltb b 0xF0) (begun_ok cls ((b - 0xE0) * 4096) two 0x800 act f g)
    (cond-ok (ltb b 0xF8) (begun_ok cls ((b - 0xF0) * 262144) three 0x10000 act f g) bad))))

tail-high : (b : ℕ) → (leb 0x80 b && ltb b 0xC0) ≡ true → ¬ (b ≡ 0x3C)
tail-high b e z = let l = leb-true 0x80 b ((and-eq-true_iff (leb 0x80 b) (ltb b 0xC0)).0 e).0 in omega arith

pub follow-ok : {Q : State → Type 0} (cls : List Range) (low : ℕ) (l : Left) (least b : ℕ) (f : Part → State) → (¬ (b ≡ 0x3C) → (p : Part) → Q (f p)) → Ok Q (follow cls low l least b f)
unfolding follow
follow-ok cls low one least b f h = when-ok (leb 0x80 b && ltb b 0xC0) (λ e. cond-ok (meets cls (max (low + (b - 0x80)) least) (low + (b - 0x80))) (good (h (tail-high b e) whole)) bad) (λ e. bad)
follow-ok cls low two least b f h = when-ok (leb 0x80 b && ltb b 0xC0) (λ e. begun_ok cls (low + (b - 0x80) * 64) one least Stay f (h (tail-high b e))) (λ e. bad)
follow-ok cls low three least b f h = when-ok (leb 0x80 b && ltb b 0xC0) (λ e. begun_ok cls (low + (b - 0x80) * 4096) two least Stay f (h (tail-high b e))) (λ e. bad)

pub start-lacks : meets name_start 0x3C 0x3C ≡ false
unfolding crosses
start-lacks = refl

pub name-lacks : meets name_char 0x3C 0x3C ≡ false
unfolding crosses
name-lacks = refl
