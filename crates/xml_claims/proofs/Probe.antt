-- Where markup may begin, by the state: the comment of OpensMarkup is read to its end, or refused. Computed state by state. Assumes nothing.
use Prim.Native.Nat.{ℕ, ◌+◌, ◌-◌}
use mathlib.Core.Path.{◌≡◌, refl, sym, ap}
use mathlib.Core.List.{List, [], ◌∷◌, ◌++◌}
use mathlib.Core.Bool.{Bool, true, false, cond, false≢true}
use mathlib.Core.Option.{none, some}
use native.Mathlib.Omega.{arith}
use borrow.Author.Tests.{ne_eqb}
use Rattle.xml_finish.specs.of_names.Bytes.{bytes}
use Rattle.xml_finish.specs.of_xml_chars.Chars.{Range, crosses, lower, single, double}
use Rattle.xml_finish.specs.of_xml_chars.Bytes.{Left, one, two, three, Part, whole, part}
use Rattle.xml_finish.specs.of_xml_machine.State.{State, fresh, marked, lt_first, heading, decl, literal, prolog, epilog, text, lt, misc, section, ref, tag, ending, end_space, Stay, no, go, Brackets, b0}
use Rattle.xml_finish.specs.of_xml_machine.State.{Letters, x0, x1, x2, x3, Place, before, after, inside, InMisc, bang, dash, remark0, remark1, remark2, target, named, pi_data, pi_query, pi_close}
use Rattle.xml_finish.specs.of_xml_machine.State.{InRef, ampersand, ref_name, hash, digits, hash_x, hexes, Host, Goal}
use Rattle.xml_finish.specs.of_xml_machine.State.{version, encoding, standalone, InDecl, opening, equals, quoting, point, digit, letters, choice, chosen, valued, between}
use Rattle.xml_finish.specs.of_xml_machine.State.{InTag, name, gap, slash, key, key_eq, quote, value, value_end}
use Rattle.xml_finish.specs.of_xml_machine.Machine.{char, follow, reached, reached_by, in_literal, resume, in_text, in_section, in_ref, in_target, in_misc, in_heading, in_decl, behind, in_tag, in_lt, step}
use Rattle.xml_finish.specs.of_xml_machine.Runs.{doctype, run, judge}
use Rattle.xml_finish.proofs.of_xml_machine.Runs.{run-no}
use Rattle.xml_claims.proofs.Plain.{NoLt, Plain}
use Rattle.xml_claims.proofs.Steps.{opens}

abbrev pub probe : List ℕ
probe = bytes "<!--?>]]>]]>-->"

-- ---- read to its end
text-reads : (k : Brackets) (n : List ℕ) (ns : List (List ℕ)) → run (text k whole n ns) probe ≡ some (text b0 whole n ns)
unfolding run step in_text in_lt in_misc char crosses
text-reads k n ns = refl

pub probe-reads : (s : State) → opens s ≡ true → (u : State) × (run s probe ≡ some u)
unfolding run step in_lt in_misc char crosses
probe-reads fresh o = (prolog, refl)
probe-reads marked o = (prolog, refl)
probe-reads lt_first o = absurd (false≢true o)
probe-reads (heading x) o = absurd (false≢true o)
probe-reads (decl d) o = absurd (false≢true o)
probe-reads (literal c cs g) o = absurd (false≢true o)
probe-reads prolog o = (prolog, refl)
probe-reads epilog o = (epilog, refl)
probe-reads (text k whole n ns) o = (text b0 whole n ns, text-reads k n ns)
probe-reads (text k (part cls low l least) n ns) o = absurd (false≢true o)
probe-reads (lt pl) o = absurd (false≢true o)
probe-reads (misc m p pl) o = absurd (false≢true o)
probe-reads (section k p n ns) o = absurd (false≢true o)
probe-reads (ref m p h) o = absurd (false≢true o)
probe-reads (tag m p n ns) o = absurd (false≢true o)
probe-reads (ending n ns) o = absurd (false≢true o)
probe-reads (end_space ns) o = absurd (false≢true o)

-- ---- refused
follow-no : (cls : List Range) (low : ℕ) (l : Left) (least : ℕ) (f : Part → State) → follow cls low l least 0x3C f ≡ no
unfolding follow
follow-no cls low one least f = refl
follow-no cls low two least f = refl
follow-no cls low three least f = refl

decl-no : (d : InDecl) → Plain (decl d) → in_decl d 0x3C ≡ no
unfolding in_decl lower
decl-no opening v = refl
decl-no (equals i) v = refl
decl-no (quoting i) v = refl
decl-no (point q) v = refl
decl-no (digit single) v = refl
decl-no (digit double) v = refl
decl-no (letters single []) v = refl
decl-no (letters double []) v = refl
decl-no (letters q (c ∷ cs)) v = ap (λ (x : Bool). cond x (go Stay (decl (letters q cs))) no) (ne_eqb 0x3C c (λ z. v.0 (sym z)))
decl-no (choice q) v = refl
decl-no (chosen single) v = refl
decl-no (chosen double) v = refl
decl-no (valued i) v = refl
decl-no (between version) v = refl
decl-no (between encoding) v = refl
decl-no (between standalone) v = refl

heading-no : (x : Letters) → in_heading x 0x3C ≡ no
unfolding in_heading in_target char crosses lower
heading-no x0 = refl
heading-no x1 = refl
heading-no x2 = refl
heading-no x3 = refl

lt_no : (pl : Place) → in_lt pl 0x3C ≡ no
unfolding in_lt char crosses
lt_no before = refl
lt_no after = refl
lt_no (inside n ns) = refl

ref-no : (m : InRef) (h : Host) → in_ref m h 0x3C ≡ no
unfolding in_ref char crosses
ref-no ampersand h = refl
ref-no ref_name h = refl
ref-no hash h = refl
ref-no digits h = refl
ref-no hash_x h = refl
ref-no hexes h = refl

tag-no : (m : InTag) (n : List ℕ) (ns : List (List ℕ)) → in_tag m n ns 0x3C ≡ no
unfolding in_tag behind char crosses
tag-no name n ns = refl
tag-no gap n ns = refl
tag-no slash n ns = refl
tag-no key n ns = refl
tag-no key_eq n ns = refl
tag-no quote n ns = refl
tag-no (value single) n ns = refl
tag-no (value double) n ns = refl
tag-no value_end n ns = refl

literal-no : (c : ℕ) (cs : List ℕ) (g : Goal) → NoLt (c ∷ cs) → in_literal c cs g 0x3C ≡ no
literal-no c [] g v = ap (λ (x : Bool). cond x (go (reached_by g) (reached g)) no) (ne_eqb 0x3C c (λ z. v.0 (sym z)))
literal-no c (d ∷ cs) g v = ap (λ (x : Bool). cond x (go Stay (literal d cs g)) no) (ne_eqb 0x3C c (λ z. v.0 (sym z)))

-- an instruction and a section are ended by what the comment holds, and that can't stand behind them
resume-none : (pl : Place) (t : List ℕ) → run (resume pl) (bytes "]]>]]>-->" ++ t) ≡ none
unfolding run step in_text
resume-none before t = refl
resume-none after t = refl
resume-none (inside n ns) t = refl

data-none : (pl : Place) (t : List ℕ) → run (misc pi_data whole pl) (probe ++ t) ≡ none
unfolding run step in_misc char crosses
data-none pl t = resume-none pl t

query-none : (pl : Place) (t : List ℕ) → run (misc pi_query whole pl) (probe ++ t) ≡ none
unfolding run step in_misc char crosses
query-none pl t = resume-none pl t

section-none : (k : Brackets) (n : List ℕ) (ns : List (List ℕ)) (t : List ℕ) → run (section k whole n ns) (probe ++ t) ≡ none
unfolding run step in_section in_text char crosses
section-none k n ns t = refl

misc-none : (m : InMisc) (pl : Place) (t : List ℕ) → run (misc m whole pl) (probe ++ t) ≡ none
unfolding run step in_misc in_target char crosses lower
misc-none bang before t = refl
misc-none bang after t = refl
misc-none bang (inside n ns) t = refl
misc-none dash pl t = refl
misc-none remark0 pl t = refl
misc-none remark1 pl t = refl
misc-none remark2 pl t = refl
misc-none (target x0) pl t = refl
misc-none (target x1) pl t = refl
misc-none (target x2) pl t = refl
misc-none (target x3) pl t = refl
misc-none named pl t = refl
misc-none pi_data pl t = data-none pl t
misc-none pi_query pl t = query-none pl t
misc-none pi_close pl t = refl

pub probe-none : (s : State) (t : List ℕ) → Plain s → opens s ≡ false → run s (probe ++ t) ≡ none
unfolding step
probe-none fresh t v o = absurd (false≢true (sym o))
probe-none marked t v o = absurd (false≢true (sym o))
probe-none lt_first t v o = run-no lt_first _ _ (lt_no before)
probe-none (heading x) t v o = run-no (heading x) _ _ (heading-no x)
probe-none (decl d) t v o = run-no (decl d) _ _ (decl-no d v)
probe-none (literal c cs g) t v o = run-no (literal c cs g) _ _ (literal-no c cs g v.0)
probe-none prolog t v o = absurd (false≢true (sym o))
probe-none epilog t v o = absurd (false≢true (sym o))
probe-none (text k whole n ns) t v o = absurd (false≢true (sym o))
probe-none (text k (part cls low l least) n ns) t v o = run-no (text k (part cls low l least) n ns) _ _ (follow-no cls low l least _)
probe-none (lt pl) t v o = run-no (lt pl) _ _ (lt_no pl)
probe-none (misc m whole pl) t v o = misc-none m pl t
probe-none (misc m (part cls low l least) pl) t v o = run-no (misc m (part cls low l least) pl) _ _ (follow-no cls low l least _)
probe-none (section k whole n ns) t v o = section-none k n ns t
probe-none (section k (part cls low l least) n ns) t v o = run-no (section k (part cls low l least) n ns) _ _ (follow-no cls low l least _)
probe-none (ref m whole h) t v o = run-no (ref m whole h) _ _ (ref-no m h)
probe-none (ref m (part cls low l least) h) t v o = run-no (ref m (part cls low l least) h) _ _ (follow-no cls low l least _)
probe-none (tag m whole n ns) t v o = run-no (tag m whole n ns) _ _ (tag-no m n ns)
probe-none (tag m (part cls low l least) n ns) t v o = run-no (tag m (part cls low l least) n ns) _ _ (follow-no cls low l least _)
probe-none (ending [] ns) t v o = run-no (ending [] ns) _ _ refl
probe-none (ending (c ∷ n) ns) t v o = run-no (ending (c ∷ n) ns) _ _ (ap (λ (x : Bool). cond x (go Stay (ending n ns)) no) (ne_eqb 0x3C c (λ z. v.0.0 (sym z))))
probe-none (end_space ns) t v o = run-no (end_space ns) _ _ refl

-- ---- `<!DOCTYPE` there
back-two : (q : ℕ) → doctype (q + 1 + 1 - 2) ≡ doctype q
back-two q = let z : q + 1 + 1 - 2 ≡ q = omega arith in ap doctype z

pub doctype-judged : (s : State) (t : List ℕ) (q : ℕ) → opens s ≡ true → judge (bytes "<!DOCTYPE" ++ t) s q ≡ doctype q
unfolding judge step in_text in_lt in_misc char crosses
doctype-judged fresh t q o = back-two q
doctype-judged marked t q o = back-two q
doctype-judged lt_first t q o = absurd (false≢true o)
doctype-judged (heading x) t q o = absurd (false≢true o)
doctype-judged (decl d) t q o = absurd (false≢true o)
doctype-judged (literal c cs g) t q o = absurd (false≢true o)
doctype-judged prolog t q o = back-two q
doctype-judged epilog t q o = back-two q
doctype-judged (text k whole n ns) t q o = back-two q
doctype-judged (text k (part cls low l least) n ns) t q o = absurd (false≢true o)
doctype-judged (lt pl) t q o = absurd (false≢true o)
doctype-judged (misc m p pl) t q o = absurd (false≢true o)
doctype-judged (section k p n ns) t q o = absurd (false≢true o)
doctype-judged (ref m p h) t q o = absurd (false≢true o)
doctype-judged (tag m p n ns) t q o = absurd (false≢true o)
doctype-judged (ending n ns) t q o = absurd (false≢true o)
doctype-judged (end_space ns) t q o = absurd (false≢true o)
