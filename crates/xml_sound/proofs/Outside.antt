-- Outside the root, behind `<`, and where the document begins. Assumes nothing.
use Prim.Native.Nat.{ℕ}
use mathlib.Core.Path.{◌≡◌, refl, ap}
use mathlib.Core.List.{List, [], ◌∷◌, ◌++◌}
use mathlib.Core.Bool.{true}
use Rattle.xml_grammar.specs.of_xml_chars.Chars.{is_space, lower}
use Rattle.xml_grammar.specs.Grammar.{no_char, a-char, Miscs, last-space, undeclared}
use Rattle.xml_grammar.specs.Grammar as grammar
use Rattle.xml_grammar.specs.Documents as documents
use Rattle.xml_machine.specs.State.{marked, prolog, epilog, Letters, x0, x1, x2, x3, Place, before, after, inside, end_space}
use Rattle.xml_machine.specs.State as state
use Rattle.xml_machine.specs.Machine.{only, spaced, shut, in_space, in_first, in_lt, opens_misc, in_target, in_heading}
use Rattle.xml_sound.proofs.Then.{Then, take-byte, take-mark, last-mark, none_yet, each, both}
use Rattle.xml_sound.proofs.Parts.{Closed, closed, TargetRest, HeadingRest}
use Rattle.xml_sound.proofs.Rests.{AtEpilog, AtRoot, AtProlog, AtFirst, AtStart, at-start, Spelt, spelt, EndRest, Shut, AtLt, beside-it, the-root, a-child, an-end, AtFirstLt, first-prolog, first-root}
use Rattle.xml_sound.proofs.Opening.{open-back}
use Rattle.xml_sound.proofs.Miscs.{markup, target-back}
use Rattle.xml_sound.proofs.Tags.{rest-shut}
use Rattle.xml_sound.proofs.Declared.{declared-prolog}
use Rattle.xml_sound.proofs.Leading.{Leads, good, bad, weaker, byte, space}

miscs-space : {c : ℕ} {s : List ℕ} → is_space c ≡ true → Miscs s → Miscs (c ∷ s)
miscs-space e (last-space h) = last-space (a-char e h)
miscs-space e (grammar.misc h m r) = grammar.misc (a-char e h) m r

-- ---- `<`
markup_open : (pl : Place) (b : ℕ) → Leads (AtLt pl) b (opens_misc pl b)
markup_open pl b =
    byte b 0x3F (good (λ t r. beside-it (take-mark 0x3F refl (each (λ s. markup pl) r))))
    (λ i. byte b 0x21 (good (λ t r. beside-it (take-mark 0x21 refl r))) (λ j. bad))

pub lt_back : (pl : Place) (b : ℕ) → Leads (AtLt pl) b (in_lt pl b)
unfolding in_lt
lt_back before b = open-back (AtLt before) [] (λ t r. the-root r) b (opens_misc before b) (λ h. markup_open before b)
lt_back after b = markup_open after b
lt_back (inside n ns) b =
    open-back (AtLt (inside n ns)) (n ∷ ns) (λ t r. a-child r) b _
    (λ h. byte b 0x2F (good (λ t r. an-end (spelt t refl r))) (λ i. markup_open (inside n ns) b))

-- ---- between markup
misc-first : {a b : List ℕ} → grammar.Misc a → Miscs b → Miscs (a ++ b)
misc-first e m = grammar.misc no_char e m

prolog-lt : {t : List ℕ} → AtLt before t → AtProlog (0x3C ∷ t)
prolog-lt (beside-it r) = take-mark 0x3C refl (both (λ a b. misc-first) r)
prolog-lt (the-root r) = none_yet (last-space no_char) (take-mark 0x3C refl r)

epilog-lt : {t : List ℕ} → AtLt after t → AtEpilog (0x3C ∷ t)
epilog-lt (beside-it r) = take-mark 0x3C refl (both (λ a b. misc-first) r)

pub prolog-back : (b : ℕ) → Leads AtProlog b (in_space prolog before b)
prolog-back b = byte b 0x3C (good (λ t r. prolog-lt r)) (λ i. space b (λ e h. good (λ t r. take-byte b h (each (λ s. miscs-space e) r))) bad)

pub epilog-back : (b : ℕ) → Leads AtEpilog b (in_space epilog after b)
epilog-back b = byte b 0x3C (good (λ t r. epilog-lt r)) (λ i. space b (λ e h. good (λ t r. take-byte b h (each (λ s. miscs-space e) r))) bad)

-- ---- end tags
end-space : {c : ℕ} {s : List ℕ} → is_space c ≡ true → Closed grammar.Spaces (0x3E ∷ []) s → Closed grammar.Spaces (0x3E ∷ []) (c ∷ s)
end-space e (closed h) = closed (a-char e h)

pub end_back : (ns : List (List ℕ)) (b : ℕ) (act close : state.Act) → Leads (EndRest (Shut ns)) b (spaced b act (end_space ns) (only 0x3E b close (shut ns)))
end_back ns b act close =
    space b (λ e h. good (λ t r. take-byte b h (each (λ s. end-space e) r)))
    (byte b 0x3E (good (λ t r. last-mark 0x3E refl (closed no_char) (rest-shut ns t r))) (λ j. bad))

-- ---- the beginning
first-lt : {t : List ℕ} → AtFirstLt t → AtFirst (0x3C ∷ t)
first-lt (first-prolog r) = take-mark 0x3C refl r
first-lt (first-root r) = none_yet (undeclared (last-space no_char)) (take-mark 0x3C refl r)

pub first_back : (b : ℕ) → Leads AtFirst b (in_first b)
first_back b =
    byte b 0x3C (good (λ t r. first-lt r))
    (λ i. space b (λ e h. good (λ t r. take-byte b h (each (λ s m. undeclared (miscs-space e m)) r))) bad)

pub unmarked : (t : List ℕ) → AtFirst t → AtStart t
unmarked t r = at-start [] t documents.unmarked refl r

pub with-mark : {t : List ℕ} → Spelt (0xBB ∷ 0xBF ∷ []) AtFirst t → AtStart (0xEF ∷ t)
with-mark (spelt u e r) = at-start (0xEF ∷ 0xBB ∷ 0xBF ∷ []) u documents.marked (ap (λ z. 0xEF ∷ z) e) r

pub lt-first : (t : List ℕ) → AtLt before t → AtFirstLt t
lt-first t (beside-it r) = first-prolog (both (λ a b e m. undeclared (misc-first e m)) r)
lt-first t (the-root r) = first-root r

target-heading : (x : Letters) (t : List ℕ) → Then (TargetRest x) AtProlog t → Then (HeadingRest x) AtRoot t
unfolding lower
target-heading x0 t r = both (λ a b e m. undeclared (misc-first e m)) r
target-heading x1 t r = both (λ a b e m. undeclared (misc-first (e 0x78 refl) m)) r
target-heading x2 t r = both (λ a b e m. undeclared (misc-first (e 0x78 0x6D refl refl) m)) r
target-heading x3 t r = both (λ a b e m. undeclared (misc-first (e 0x78 0x6D 0x6C refl refl refl) m)) r

other-target : (x : Letters) (b : ℕ) → Leads (Then (HeadingRest x) AtRoot) b (in_target x before b)
other-target x b = weaker (target-heading x) (target-back x before b)

pub heading-back : (x : Letters) (b : ℕ) → Leads (Then (HeadingRest x) AtRoot) b (in_heading x b)
unfolding in_heading
heading-back x0 b = byte b 0x78 (good (λ t r. take-mark 0x78 refl r)) (λ i. other-target x0 b)
heading-back x1 b = byte b 0x6D (good (λ t r. take-mark 0x6D refl r)) (λ i. other-target x1 b)
heading-back x2 b = byte b 0x6C (good (λ t r. take-mark 0x6C refl r)) (λ i. other-target x2 b)
heading-back x3 b = space b (λ e h. good (λ t r. take-byte b h (both (λ a c f m. declared-prolog (f b e) m) r))) (other-target x3 b)
