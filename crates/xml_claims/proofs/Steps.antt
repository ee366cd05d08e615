-- Each step keeps `<` out of names and fixed bytes, and enters `<` and `<!` only by these bytes. Assumes nothing.
use Prim.Native.Nat.{ℕ}
use mathlib.Core.Path.{◌≡◌, refl}
use mathlib.Core.List.{List, [], ◌∷◌}
use mathlib.Core.Bool.{Bool, true, false, cond, false≢true}
use borrow.Author.Tests.{eqb-true, eqb-false}
use lib.Dec.{eqb}
use Rattle.xml_finish.specs.of_names.Bytes.{bytes}
use Rattle.xml_finish.specs.of_names.Bytes.{bytes}
use Rattle.xml_finish.specs.of_xml_chars.Chars.{Range, any_char, name_start, name_char, is_space, is_digit, is_hex, lower, Quote, single, double, mark}
use Rattle.xml_finish.specs.of_xml_chars.Bytes.{Left, Part, whole, part}
use Rattle.xml_finish.specs.of_xml_machine.State as state
use Rattle.xml_finish.specs.of_xml_machine.State.{State, fresh, marked, lt_first, heading, decl, literal, prolog, epilog, text, lt, misc, section, ref, tag, ending, end_space, Act, Next, Brackets, b0, b1, b2}
use Rattle.xml_finish.specs.of_xml_machine.State.{Letters, x0, x1, x2, x3, Place, before, inside, InMisc, bang, dash, remark0, remark1, remark2, target, named, pi_data, pi_query, pi_close}
use Rattle.xml_finish.specs.of_xml_machine.State.{InRef, ampersand, ref_name, hash, digits, hash_x, hexes, Host, content, attribute, Goal, to_marked, to_section, to_equals, to_point, to_chosen}
use Rattle.xml_finish.specs.of_xml_machine.State.{Item, version, encoding, standalone, InDecl, opening, equals, quoting, point, digit, letters, choice, chosen, valued, between}
use Rattle.xml_finish.specs.of_xml_machine.State.{InTag, name, gap, slash, key, key_eq, quote, value, value_end}
use Rattle.xml_finish.specs.of_xml_machine.Machine.{only, spaced, quoted, shut, resume, reached, angle, in_text, section_end, in_section, ref_end, in_ref, section_at, target_end, in_target, in_misc, in_heading, decl_end, item_after, value_of, in_decl, behind, in_tag, grown, opens_misc, in_lt, in_space, in_first, step}
use Rattle.xml_finish.proofs.of_xml_machine.Outcomes.{Ok, good, bad, cond-ok, when-ok}
use Rattle.xml_claims.proofs.Plain.{NoLt, NoLts, PlainPlace, PlainHost, PlainGoal, Banged, Plain, no-lt_append, char-ok, name-ok, follow-ok, start-lacks, name-lacks}

-- markup may begin here
abbrev pub opens : State → Bool
opens fresh = true
opens marked = true
opens lt_first = false
opens (heading x) = false
opens (decl d) = false
opens (literal c cs g) = false
opens prolog = true
opens epilog = true
opens (text k whole n ns) = true
opens (text k (part cls low l least) n ns) = false
opens (lt pl) = false
opens (misc m p pl) = false
opens (section k p n ns) = false
opens (ref m p h) = false
opens (tag m p n ns) = false
opens (ending n ns) = false
opens (end_space ns) = false

-- behind `<`
abbrev pub at_lt : State → Bool
at_lt fresh = false
at_lt marked = false
at_lt lt_first = true
at_lt (heading x) = false
at_lt (decl d) = false
at_lt (literal c cs g) = false
at_lt prolog = false
at_lt epilog = false
at_lt (text k p n ns) = false
at_lt (lt pl) = true
at_lt (misc m p pl) = false
at_lt (section k p n ns) = false
at_lt (ref m p h) = false
at_lt (tag m p n ns) = false
at_lt (ending n ns) = false
at_lt (end_space ns) = false

-- before the last byte of the byte-order mark
abbrev pub mark_next : Goal → Bool
mark_next to_marked = true
mark_next (to_section n ns) = false
mark_next (to_equals i) = false
mark_next (to_point q) = false
mark_next (to_chosen q) = false

abbrev pub at_mark_of : State → Bool
at_mark_of fresh = false
at_mark_of marked = false
at_mark_of lt_first = false
at_mark_of (heading x) = false
at_mark_of (decl d) = false
at_mark_of (literal c [] g) = mark_next g
at_mark_of (literal c (d ∷ cs) g) = false
at_mark_of prolog = false
at_mark_of epilog = false
at_mark_of (text k p n ns) = false
at_mark_of (lt pl) = false
at_mark_of (misc m p pl) = false
at_mark_of (section k p n ns) = false
at_mark_of (ref m p h) = false
at_mark_of (tag m p n ns) = false
at_mark_of (ending n ns) = false
at_mark_of (end_space ns) = false

-- how a byte leads from s to `<` and `<!`, and behind the byte-order mark
abbrev pub EntersMisc : InMisc → State → ℕ → Type 0
EntersMisc bang s b = (at_lt s ≡ true) × (b ≡ 0x21)
EntersMisc dash s b = Unit {0}
EntersMisc remark0 s b = Unit {0}
EntersMisc remark1 s b = Unit {0}
EntersMisc remark2 s b = Unit {0}
EntersMisc (target x) s b = Unit {0}
EntersMisc named s b = Unit {0}
EntersMisc pi_data s b = Unit {0}
EntersMisc pi_query s b = Unit {0}
EntersMisc pi_close s b = Unit {0}

abbrev pub Enters : State → ℕ → State → Type 0
Enters s b fresh = ⊥
Enters s b marked = at_mark_of s ≡ true
Enters s b lt_first = (opens s ≡ true) × (b ≡ 0x3C)
Enters s b (heading x) = Unit {0}
Enters s b (decl d) = Unit {0}
Enters s b (literal c cs g) = Unit {0}
Enters s b prolog = Unit {0}
Enters s b epilog = Unit {0}
Enters s b (text k p n ns) = Unit {0}
Enters s b (lt pl) = (opens s ≡ true) × (b ≡ 0x3C)
Enters s b (misc m p pl) = EntersMisc m s b
Enters s b (section k p n ns) = Unit {0}
Enters s b (ref m p h) = Unit {0}
Enters s b (tag m p n ns) = Unit {0}
Enters s b (ending n ns) = Unit {0}
Enters s b (end_space ns) = Unit {0}

abbrev pub After : State → ℕ → State → Type 0
After s b u = Plain u × Enters s b u

-- fixed bytes, of which none is `<`
abbrev clean : List ℕ → Bool
clean [] = true
clean (c ∷ cs) = cond (eqb c 0x3C) false (clean cs)

clean-plain : (cs : List ℕ) → clean cs ≡ true → NoLt cs
clean-plain [] e = tt
clean-plain (c ∷ cs) e = by (eqb c 0x3C) refl e (clean-plain cs)
  where
    by : (x : Bool) → eqb c 0x3C ≡ x → cond x false (clean cs) ≡ true → (clean cs ≡ true → NoLt cs) → NoLt (c ∷ cs)
    by true f g ih = absurd (false≢true g)
    by false f g ih = (eqb-false c 0x3C f, ih g)

-- a character that stands open behind anything but `<!`
past-bang : (m : InMisc) (cls : List Range) (low : ℕ) (l : Left) (least : ℕ) (s : State) (b : ℕ) → Banged m (part cls low l least) → (p : Part) → Banged m p × EntersMisc m s b
past-bang bang cls low l least s b h p = absurd h
past-bang dash cls low l least s b h p = (tt, tt)
past-bang remark0 cls low l least s b h p = (tt, tt)
past-bang remark1 cls low l least s b h p = (tt, tt)
past-bang remark2 cls low l least s b h p = (tt, tt)
past-bang (target x) cls low l least s b h p = (tt, tt)
past-bang named cls low l least s b h p = (tt, tt)
past-bang pi_data cls low l least s b h p = (tt, tt)
past-bang pi_query cls low l least s b h p = (tt, tt)
past-bang pi_close cls low l least s b h p = (tt, tt)

grown-plain : (m : InTag) (n : List ℕ) (b : ℕ) → ¬ (b ≡ 0x3C) → NoLt n → NoLt (grown m n (b ∷ []))
grown-plain name n b h k = no-lt_append n (b ∷ []) k (h, tt)
grown-plain gap n b h k = k
grown-plain slash n b h k = k
grown-plain key n b h k = k
grown-plain key_eq n b h k = k
grown-plain quote n b h k = k
grown-plain (value q) n b h k = k
grown-plain value_end n b h k = k

module _ (s : State) (b : ℕ) where
  only-ok : (c : ℕ) (act : Act) (u : State) → After s b u → Ok (After s b) (only c b act u)
  only-ok c act u h = cond-ok (eqb b c) (good h) bad

  spaced-ok : (act : Act) (u : State) (other : Next) → After s b u → Ok (After s b) other → Ok (After s b) (spaced b act u other)
  spaced-ok act u other h k = cond-ok (is_space b) (good h) k

  quoted-ok : (act : Act) (f : Quote → State) → ((q : Quote) → After s b (f q)) → Ok (After s b) (quoted b act f state.no)
  quoted-ok act f h = cond-ok (eqb b (mark double)) (good (h double)) (cond-ok (eqb b (mark single)) (good (h single)) bad)

  -- ---- places
  shut-after : (ns : List (List ℕ)) → NoLts ns → After s b (shut ns)
  shut-after [] v = (tt, tt)
  shut-after (n ∷ ns) v = (v, tt)

  resume-after : (pl : Place) → PlainPlace pl → After s b (resume pl)
  resume-after before v = (tt, tt)
  resume-after state.after v = (tt, tt)
  resume-after (inside n ns) v = (v, tt)

  reached-after : (g : Goal) → PlainGoal g → at_mark_of s ≡ mark_next g → After s b (reached g)
  reached-after to_marked v o = (tt, o)
  reached-after (to_section n ns) v o = (v, tt)
  reached-after (to_equals i) v o = (tt, tt)
  reached-after (to_point q) v o = (tt, tt)
  reached-after (to_chosen q) v o = (tt, tt)

  -- ---- text, sections, references
  module _ (n : List ℕ) (ns : List (List ℕ)) (v : NoLt n × NoLts ns) where
    angle-ok : (k : Brackets) → Ok (After s b) (angle k n ns)
    angle-ok b0 = good (v, tt)
    angle-ok b1 = good (v, tt)
    angle-ok b2 = bad

    text-ok : (k : Brackets) → opens s ≡ true → Ok (After s b) (in_text k n ns b)
    unfolding in_text
    text-ok k o =
        when-ok (eqb b 0x3C) (λ e. good (v, (o, eqb-true b 0x3C e)))
        (λ e. cond-ok (eqb b 0x26) (good (v, tt))
        (cond-ok (eqb b 0x5D) (good (v, tt))
        (cond-ok (eqb b 0x3E) (angle-ok k) (char-ok any_char b _ _ _ (λ p. (v, tt)) bad))))

    section-end-ok : (k : Brackets) → Ok (After s b) (section_end k n ns)
    section-end-ok b0 = good (v, tt)
    section-end-ok b1 = good (v, tt)
    section-end-ok b2 = good (v, tt)

    section-ok : (k : Brackets) → Ok (After s b) (in_section k n ns b)
    unfolding in_section
    section-ok k = cond-ok (eqb b 0x5D) (good (v, tt)) (cond-ok (eqb b 0x3E) (section-end-ok k) (char-ok any_char b _ _ _ (λ p. (v, tt)) bad))

  ref-end-ok : (h : Host) → PlainHost h → Ok (After s b) (ref_end h)
  ref-end-ok (content n ns) v = good (v, tt)
  ref-end-ok (attribute q n ns) v = good (v, tt)

  ref-ok : (m : InRef) (h : Host) → PlainHost h → Ok (After s b) (in_ref m h b)
  unfolding in_ref
  ref-ok ampersand h v = char-ok name_start b _ _ _ (λ p. (v, tt)) (only-ok 0x23 _ _ (v, tt))
  ref-ok ref_name h v = char-ok name_char b _ _ _ (λ p. (v, tt)) (cond-ok (eqb b 0x3B) (ref-end-ok h v) bad)
  ref-ok hash h v = cond-ok (is_digit b) (good (v, tt)) (only-ok 0x78 _ _ (v, tt))
  ref-ok digits h v = cond-ok (is_digit b) (good (v, tt)) (cond-ok (eqb b 0x3B) (ref-end-ok h v) bad)
  ref-ok hash_x h v = cond-ok (is_hex b) (good (v, tt)) bad
  ref-ok hexes h v = cond-ok (is_hex b) (good (v, tt)) (cond-ok (eqb b 0x3B) (ref-end-ok h v) bad)

  -- ---- comments and instructions
  section-at-ok : (pl : Place) → PlainPlace pl → Ok (After s b) (section_at pl b)
  section-at-ok before v = bad
  section-at-ok state.after v = bad
  section-at-ok (inside n ns) v = only-ok 0x5B _ _ ((clean-plain (bytes "CDATA[") refl, v), tt)

  target-end-ok : (pl : Place) → PlainPlace pl → Ok (After s b) (target_end pl b)
  target-end-ok pl v = spaced-ok _ _ _ ((tt, v), tt) (only-ok 0x3F _ _ ((tt, v), tt))

  target_ok : (x : Letters) (pl : Place) → PlainPlace pl → Ok (After s b) (in_target x pl b)
  unfolding in_target
  target_ok x0 pl v = cond-ok (eqb (lower b) 0x78) (good ((tt, v), tt)) (char-ok name_start b _ _ _ (λ p. ((tt, v), tt)) bad)
  target_ok x1 pl v = cond-ok (eqb (lower b) 0x6D) (good ((tt, v), tt)) (char-ok name_char b _ _ _ (λ p. ((tt, v), tt)) (target-end-ok pl v))
  target_ok x2 pl v = cond-ok (eqb (lower b) 0x6C) (good ((tt, v), tt)) (char-ok name_char b _ _ _ (λ p. ((tt, v), tt)) (target-end-ok pl v))
  target_ok x3 pl v = char-ok name_char b _ _ _ (λ p. ((tt, v), tt)) bad

  misc-ok : (m : InMisc) (pl : Place) → PlainPlace pl → Ok (After s b) (in_misc m pl b)
  unfolding in_misc
  misc-ok bang pl v = cond-ok (eqb b 0x2D) (good ((tt, v), tt)) (section-at-ok pl v)
  misc-ok dash pl v = only-ok 0x2D _ _ ((tt, v), tt)
  misc-ok remark0 pl v = cond-ok (eqb b 0x2D) (good ((tt, v), tt)) (char-ok any_char b _ _ _ (λ p. ((tt, v), tt)) bad)
  misc-ok remark1 pl v = cond-ok (eqb b 0x2D) (good ((tt, v), tt)) (char-ok any_char b _ _ _ (λ p. ((tt, v), tt)) bad)
  misc-ok remark2 pl v = only-ok 0x3E _ _ (resume-after pl v)
  misc-ok (target x) pl v = target_ok x pl v
  misc-ok named pl v = char-ok name_char b _ _ _ (λ p. ((tt, v), tt)) (target-end-ok pl v)
  misc-ok pi_data pl v = cond-ok (eqb b 0x3F) (good ((tt, v), tt)) (char-ok any_char b _ _ _ (λ p. ((tt, v), tt)) bad)
  misc-ok pi_query pl v = cond-ok (eqb b 0x3F) (good ((tt, v), tt)) (cond-ok (eqb b 0x3E) (good (resume-after pl v)) (char-ok any_char b _ _ _ (λ p. ((tt, v), tt)) bad))
  misc-ok pi_close pl v = only-ok 0x3E _ _ (resume-after pl v)

  -- ---- the declaration
  heading-ok : (x : Letters) → Ok (After s b) (in_heading x b)
  unfolding in_heading
  heading-ok x0 = cond-ok (eqb b 0x78) (good (tt, tt)) (target_ok x0 before tt)
  heading-ok x1 = cond-ok (eqb b 0x6D) (good (tt, tt)) (target_ok x1 before tt)
  heading-ok x2 = cond-ok (eqb b 0x6C) (good (tt, tt)) (target_ok x2 before tt)
  heading-ok x3 = spaced-ok _ _ _ (tt, tt) (target_ok x3 before tt)

  decl-end-ok : Ok (After s b) (decl_end b)
  decl-end-ok = only-ok 0x3F _ _ ((tt, tt), tt)

  item_after-ok : (i : Item) → Ok (After s b) (item_after i b)
  item_after-ok version =
      cond-ok (eqb b 0x65) (good ((clean-plain (bytes "ncoding") refl, tt), tt)) (cond-ok (eqb b 0x73) (good ((clean-plain (bytes "tandalone") refl, tt), tt)) decl-end-ok)
  item_after-ok encoding = cond-ok (eqb b 0x73) (good ((clean-plain (bytes "tandalone") refl, tt), tt)) decl-end-ok
  item_after-ok standalone = decl-end-ok

  value_after : (i : Item) (q : Quote) → After s b (value_of i q)
  value_after version q = ((clean-plain (bytes "1.") refl, tt), tt)
  value_after encoding q = (clean-plain (bytes "utf-8") refl, tt)
  value_after standalone q = (tt, tt)

  decl-ok : (d : InDecl) → Plain (decl d) → Ok (After s b) (in_decl d b)
  unfolding in_decl
  decl-ok opening v = spaced-ok _ _ _ (tt, tt) (only-ok 0x76 _ _ ((clean-plain (bytes "ersion") refl, tt), tt))
  decl-ok (equals i) v = spaced-ok _ _ _ (tt, tt) (only-ok 0x3D _ _ (tt, tt))
  decl-ok (quoting i) v = spaced-ok _ _ _ (tt, tt) (quoted-ok _ (value_of i) (value_after i))
  decl-ok (point q) v = cond-ok (is_digit b) (good (tt, tt)) bad
  decl-ok (digit q) v = cond-ok (is_digit b) (good (tt, tt)) (only-ok (mark q) _ _ (tt, tt))
  decl-ok (letters q []) v = only-ok (mark q) _ _ (tt, tt)
  decl-ok (letters q (c ∷ cs)) v = cond-ok (eqb (lower b) c) (good (v.1, tt)) bad
  decl-ok (choice q) v = cond-ok (eqb b 0x79) (good ((clean-plain (bytes "es") refl, tt), tt)) (only-ok 0x6E _ _ ((clean-plain (bytes "o") refl, tt), tt))
  decl-ok (chosen q) v = only-ok (mark q) _ _ (tt, tt)
  decl-ok (valued i) v = spaced-ok _ _ _ (tt, tt) decl-end-ok
  decl-ok (between i) v = spaced-ok _ _ _ (tt, tt) (item_after-ok i)

  -- ---- tags
  behind-ok : (act start : Act) (n : List ℕ) (ns : List (List ℕ)) → NoLt n × NoLts ns → Ok (After s b) (behind act start n ns b)
  unfolding behind
  behind-ok act start n ns v = spaced-ok _ _ _ (v, tt) (cond-ok (eqb b 0x2F) (good (v, tt)) (only-ok 0x3E _ _ (v, tt)))

  tag-ok : (m : InTag) (n : List ℕ) (ns : List (List ℕ)) → NoLt n × NoLts ns → Ok (After s b) (in_tag m n ns b)
  unfolding in_tag
  tag-ok name n ns v = name-ok name_char name-lacks b _ _ _ (λ h p. ((no-lt_append n (b ∷ []) v.0 (h, tt), v.1), tt)) (behind-ok _ _ n ns v)
  tag-ok gap n ns v = char-ok name_start b _ _ _ (λ p. (v, tt)) (behind-ok _ _ n ns v)
  tag-ok slash n ns v = only-ok 0x3E _ _ (shut-after ns v.1)
  tag-ok key n ns v = char-ok name_char b _ _ _ (λ p. (v, tt)) (spaced-ok _ _ _ (v, tt) (only-ok 0x3D _ _ (v, tt)))
  tag-ok key_eq n ns v = spaced-ok _ _ _ (v, tt) (only-ok 0x3D _ _ (v, tt))
  tag-ok quote n ns v = spaced-ok _ _ _ (v, tt) (quoted-ok _ (λ q. tag (value q) whole n ns) (λ q. (v, tt)))
  tag-ok (value q) n ns v = cond-ok (eqb b (mark q)) (good (v, tt)) (cond-ok (eqb b 0x26) (good (v, tt)) (cond-ok (eqb b 0x3C) bad (char-ok any_char b _ _ _ (λ p. (v, tt)) bad)))
  tag-ok value_end n ns v = behind-ok _ _ n ns v

  -- ---- `<`
  opens-misc-ok : (pl : Place) → PlainPlace pl → at_lt s ≡ true → Ok (After s b) (opens_misc pl b)
  opens-misc-ok pl v o = cond-ok (eqb b 0x3F) (good ((tt, v), tt)) (when-ok (eqb b 0x21) (λ e. good ((tt, v), (o, eqb-true b 0x21 e))) (λ e. bad))

  lt-ok : (pl : Place) → PlainPlace pl → at_lt s ≡ true → Ok (After s b) (in_lt pl b)
  unfolding in_lt
  lt-ok before v o = name-ok name_start start-lacks b _ _ _ (λ h p. (((h, tt), tt), tt)) (opens-misc-ok before v o)
  lt-ok state.after v o = opens-misc-ok state.after v o
  lt-ok (inside n ns) v o = name-ok name_start start-lacks b _ _ _ (λ h p. (((h, tt), v), tt)) (cond-ok (eqb b 0x2F) (good (v, tt)) (opens-misc-ok (inside n ns) v o))

  space-ok : (u : State) (pl : Place) → PlainPlace pl → opens s ≡ true → After s b u → Ok (After s b) (in_space u pl b)
  space-ok u pl v o h = when-ok (eqb b 0x3C) (λ e. good (v, (o, eqb-true b 0x3C e))) (λ e. spaced-ok _ _ _ h bad)

  first-ok : opens s ≡ true → Ok (After s b) (in_first b)
  first-ok o = when-ok (eqb b 0x3C) (λ e. good (tt, (o, eqb-true b 0x3C e))) (λ e. spaced-ok _ _ _ (tt, tt) bad)

pub step_after : (s : State) (b : ℕ) → Plain s → Ok (After s b) (step s b)
unfolding step
step_after fresh b v = cond-ok (eqb b 0xEF) (good ((clean-plain (0xBB ∷ 0xBF ∷ []) refl, tt), tt)) (first-ok fresh b refl)
step_after marked b v = first-ok marked b refl
step_after lt_first b v = cond-ok (eqb b 0x3F) (good (tt, tt)) (lt-ok lt_first b before tt refl)
step_after (heading x) b v = heading-ok (heading x) b x
step_after (decl d) b v = decl-ok (decl d) b d v
step_after (literal c [] g) b v = only-ok (literal c [] g) b c _ _ (reached-after (literal c [] g) b g v.1 refl)
step_after (literal c (d ∷ cs) g) b v = only-ok (literal c (d ∷ cs) g) b c _ _ ((v.0.1, v.1), tt)
step_after prolog b v = space-ok prolog b prolog before tt refl (tt, tt)
step_after epilog b v = space-ok epilog b epilog state.after tt refl (tt, tt)
step_after (text k whole n ns) b v = text-ok (text k whole n ns) b n ns v k refl
step_after (text k (part cls low l least) n ns) b v = follow-ok cls low l least b _ (λ h p. (v, tt))
step_after (lt pl) b v = lt-ok (lt pl) b pl v refl
step_after (misc m whole pl) b v = misc-ok (misc m whole pl) b m pl v.1
step_after (misc m (part cls low l least) pl) b v =
    follow-ok cls low l least b _ (λ h p. let w = past-bang m cls low l least (misc m (part cls low l least) pl) b v.0 p in ((w.0, v.1), w.1))
step_after (section k whole n ns) b v = section-ok (section k whole n ns) b n ns v k
step_after (section k (part cls low l least) n ns) b v = follow-ok cls low l least b _ (λ h p. (v, tt))
step_after (ref m whole h) b v = ref-ok (ref m whole h) b m h v
step_after (ref m (part cls low l least) h) b v = follow-ok cls low l least b _ (λ k p. (v, tt))
step_after (tag m whole n ns) b v = tag-ok (tag m whole n ns) b m n ns v
step_after (tag m (part cls low l least) n ns) b v = follow-ok cls low l least b _ (λ h p. ((grown-plain m n b h v.0, v.1), tt))
step_after (ending [] ns) b v = spaced-ok (ending [] ns) b _ _ _ (v.1, tt) (only-ok (ending [] ns) b 0x3E _ _ (shut-after (ending [] ns) b ns v.1))
step_after (ending (c ∷ n) ns) b v = only-ok (ending (c ∷ n) ns) b c _ _ ((v.0.1, v.1), tt)
step_after (end_space ns) b v = spaced-ok (end_space ns) b _ _ _ (v, tt) (only-ok (end_space ns) b 0x3E _ _ (shut-after (end_space ns) b ns v))
