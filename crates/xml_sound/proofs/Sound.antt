-- THEOREM: what the machine accepts is a document of the grammar. Assumes nothing.
use Prim.Native.Nat.{ℕ}
use mathlib.Core.Path.{◌≡◌, refl, ap, ◌∙◌}
use mathlib.Core.List.{List, [], ◌∷◌, ◌++◌, append-nil}
use mathlib.Core.Bool.{true, false≢true}
use Rattle.xml_grammar.specs.of_xml_chars.Bytes.{utf8, whole, part}
use Rattle.xml_grammar.specs.Grammar.{Miscs, no_char, last-space, Element, Prolog, Document, document}
use Rattle.xml_grammar.specs.Documents.{Mark, WellFormed}
use Rattle.xml_machine.specs.State as state
use Rattle.xml_machine.specs.State.{State, fresh, marked, lt_first, heading, decl, literal, prolog, epilog, text, lt, misc, section, ref, tag, ending, end_space, Name, NameEnd, End, Stay, Next, before, Goal, to_marked, to_section, to_equals, to_point, to_chosen}
use Rattle.xml_machine.specs.Machine.{step, done, reached, in_literal}
use Rattle.xml_machine.specs.Runs as runs
use Rattle.xml_machine.specs.Runs.{run, is_done, accepts}
use Rattle.xml_sound.proofs.Then.{Then, upto, take-mark, none_yet, both, onward}
use Rattle.xml_sound.proofs.Parts.{SectionRest, RefRest, MiscRest}
use Rattle.xml_sound.proofs.Rests.{AtEnd, AtStart, at-start, AtFirst, first-prolog, Spelt, spelt, InText, Shut, Follow, HostRest, GoalRest, Rest}
use Rattle.xml_sound.proofs.Spelling.{spelt-more}
use Rattle.xml_sound.proofs.Leading.{Leads, good, bad, weaker, byte, held_back}
use Rattle.xml_sound.proofs.Refs.{ref_back}
use Rattle.xml_sound.proofs.Sections.{section-back}
use Rattle.xml_sound.proofs.Miscs.{misc-back}
use Rattle.xml_sound.proofs.Texts.{text-back}
use Rattle.xml_sound.proofs.Tags.{tag_back, tag-follow}
use Rattle.xml_sound.proofs.Declared.{decl-back}
use Rattle.xml_sound.proofs.Outside.{lt_back, prolog-back, epilog-back, end_back, first_back, unmarked, with-mark, lt-first, heading-back}

-- ---- fixed bytes
rest-reached : (g : Goal) (t : List ℕ) → Rest (reached g) t → GoalRest g t
rest-reached to_marked t r = r
rest-reached (to_section n ns) t r = r
rest-reached (to_equals i) t r = r
rest-reached (to_point q) t r = r
rest-reached (to_chosen q) t r = r

literal-back : (c : ℕ) (cs : List ℕ) (g : Goal) (b : ℕ) → Leads (Spelt (c ∷ cs) (GoalRest g)) b (in_literal c cs g b)
literal-back c [] g b = byte b c (good (λ t r. spelt t refl (rest-reached g t r))) (λ i. bad)
literal-back c (d ∷ cs) g b = byte b c (good (λ t r. spelt-more c r)) (λ i. bad)

-- ---- every state
pub step_back : (s : State) (b : ℕ) → Leads (Rest s) b (step s b)
unfolding step
step_back fresh b = byte b 0xEF (good (λ t r. with-mark r)) (λ i. weaker unmarked (first_back b))
step_back marked b = first_back b
step_back lt_first b = byte b 0x3F (good (λ t r. first-prolog (take-mark 0x3F refl r))) (λ i. weaker lt-first (lt_back before b))
step_back (heading x) b = heading-back x b
step_back (decl d) b = decl-back d b
step_back (literal c cs g) b = literal-back c cs g b
step_back prolog b = prolog-back b
step_back epilog b = epilog-back b
step_back (text k whole n ns) b = text-back k n ns b
step_back (text k (part cls low l least) n ns) b = held_back cls low l least b (λ p. text k p n ns) (InText k n (Shut ns)) (λ p t r. r)
step_back (lt pl) b = lt_back pl b
step_back (misc m whole pl) b = misc-back m pl b
step_back (misc m (part cls low l least) pl) b = held_back cls low l least b (λ p. misc m p pl) (Then (MiscRest m pl) (Follow pl)) (λ p t r. r)
step_back (section k whole n ns) b = section-back k n ns b
step_back (section k (part cls low l least) n ns) b = held_back cls low l least b (λ p. section k p n ns) (Then (SectionRest k) (Shut (n ∷ ns))) (λ p t r. r)
step_back (ref m whole h) b = ref_back m h b
step_back (ref m (part cls low l least) h) b = held_back cls low l least b (λ p. ref m p h) (Then (RefRest m) (HostRest h)) (λ p t r. r)
step_back (tag m whole n ns) b = tag_back m n ns b
step_back (tag m (part cls low l least) n ns) b = tag-follow m cls low l least n ns b
step_back (ending [] ns) b = weaker (λ t r. spelt t refl r) (end_back ns b Name NameEnd)
step_back (ending (c ∷ n) ns) b = byte b c (good (λ t r. spelt-more c r)) (λ i. bad)
step_back (end_space ns) b = end_back ns b Stay End

at-end : (s : State) → done s ≡ true → Rest s []
at-end fresh e = absurd (false≢true e)
at-end marked e = absurd (false≢true e)
at-end lt_first e = absurd (false≢true e)
at-end (heading x) e = absurd (false≢true e)
at-end (decl d) e = absurd (false≢true e)
at-end (literal c cs g) e = absurd (false≢true e)
at-end prolog e = absurd (false≢true e)
at-end epilog e = none_yet (last-space no_char) refl
at-end (text k p n ns) e = absurd (false≢true e)
at-end (lt pl) e = absurd (false≢true e)
at-end (misc m p pl) e = absurd (false≢true e)
at-end (section k p n ns) e = absurd (false≢true e)
at-end (ref m p h) e = absurd (false≢true e)
at-end (tag m p n ns) e = absurd (false≢true e)
at-end (ending n ns) e = absurd (false≢true e)
at-end (end_space ns) e = absurd (false≢true e)

pub rest_of : (t : List ℕ) (s : State) → is_done (run s t) ≡ true → Rest s t
unfolding run
rest_of [] s e = at-end s e
rest_of (b ∷ t) s e = back (step s b) (step_back s b) (λ u. rest_of t u) e
  where
    back : (o : Next) → Leads (Rest s) b o → ((u : State) → is_done (run u t) ≡ true → Rest u t) → is_done (runs.after o (λ u. run u t)) ≡ true → Rest s (b ∷ t)
    back state.no h ih e = absurd (false≢true e)
    back (state.go act u) (good h) ih e = h t (ih u e)

-- ---- the whole
data RootOf : List ℕ → Type 0 where
  root-of : {e m : List ℕ} → Element e → Miscs m → RootOf (e ++ m)

whole_of : {p s : List ℕ} → Prolog p → RootOf s → Document (p ++ s)
whole_of p (root-of e m) = document p e m

first-document : {t : List ℕ} → AtFirst t → Then Document AtEnd t
first-document r = both (λ a b. whole_of) (onward (λ u. both (λ a b. root-of)) r)

ended : {s : List ℕ} (front : List ℕ) {u : List ℕ} → Mark front → s ≡ front ++ u → Then Document AtEnd u → WellFormed s
ended front m h (upto d v i f g) =
    record { front = front; chars = d; skipped = m; spelt = h ∙ ap (λ z. front ++ z) (f ∙ ap (λ z. utf8 d ++ z) g ∙ append-nil (utf8 d)); derived = i }

started : {s : List ℕ} → AtStart s → WellFormed s
started (at-start front u m h r) = ended front m h (first-document r)

pub sound : (s : List ℕ) → accepts s ≡ true → WellFormed s
unfolding accepts
sound s e = started (rest_of s fresh e)
