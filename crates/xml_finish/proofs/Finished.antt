-- From each state whose open character can be completed, `finish` leads to the end of a document. Assumes nothing.
use Prim.Native.Nat.{ℕ, ◌+◌, ◌-◌, ◌≤◌, max}
use mathlib.Core.Path.{◌≡◌, refl, ◌∙◌}
use mathlib.Core.List.{List, [], ◌∷◌, ◌++◌}
use mathlib.Core.Bool.{true}
use mathlib.Core.Option.{some}
use native.Mathlib.Omega.{arith}
use Rattle.xml_machine.specs.of_xml_chars.Chars.{Range, crosses}
use Rattle.xml_machine.specs.of_xml_chars.Bytes.{Left, one, two, three, span, Part, whole, part, fits}
use Rattle.xml_machine.proofs.of_xml_chars.CharLaws.{pick, pick-in}
use Rattle.xml_machine.proofs.of_xml_chars.Encoding.{Inside}
use Rattle.xml_machine.specs.State.{State, fresh, marked, lt_first, heading, decl, literal, prolog, epilog, text, lt, misc, section, ref, tag, ending, end_space}
use Rattle.xml_machine.specs.Machine.{char, behind, in_tag, in_lt, grown, step}
use Rattle.xml_machine.specs.Runs.{run}
use Rattle.xml_machine.proofs.Stays.{run-stays}
use Rattle.xml_machine.proofs.Characters.{Carries, tail-stays}
use Rattle.xml_machine.proofs.Carries.{text-carries, section-carries, misc-carries, ref-carries, tag-tail}
use Rattle.xml_finish.proofs.Finish.{finish, closing, close, leave_tag, leave_place, leave_misc, leave_ref, leave_host, leave_section}
use Rattle.xml_finish.proofs.Closing.{ending-done, close-done, text-done, lt-done, tag-done, prolog-done, misc-done, ref-done, section-done}
use Rattle.xml_finish.proofs.Declared.{heading-done, marked-done, DeclViable, decl-done, literal-done}

-- the character that stands open can be completed
abbrev pub Fit : Part → Type 0
Fit whole = Unit {0}
Fit (part cls low l least) = fits cls low l least ≡ true

abbrev pub Viable : State → Type 0
Viable fresh = Unit {0}
Viable marked = Unit {0}
Viable lt_first = Unit {0}
Viable (heading x) = Unit {0}
Viable (decl d) = DeclViable d
Viable (literal c cs g) = Unit {0}
Viable prolog = Unit {0}
Viable epilog = Unit {0}
Viable (text k p n ns) = Fit p
Viable (lt pl) = Unit {0}
Viable (misc m p pl) = Fit p
Viable (section k p n ns) = Fit p
Viable (ref m p h) = Fit p
Viable (tag m p n ns) = Fit p
Viable (ending n ns) = Unit {0}
Viable (end_space ns) = Unit {0}

span_pos : (l : Left) → 1 ≤ span l
span_pos one = omega arith
span_pos two = omega arith
span_pos three = omega arith

closing-inside : (cls : List Range) (low : ℕ) (l : Left) (least : ℕ) → fits cls low l least ≡ true → Inside cls low l least (pick cls (max low least) (low + (span l - 1)) - low)
unfolding fits
closing-inside cls low l least e =
    let c : ℕ = pick cls (max low least) (low + (span l - 1)) in
    let p = pick-in cls (max low least) (low + (span l - 1)) e in
    let back : low + (c - low) ≡ c = omega arith in
    (omega (arith, span_pos l), omega arith, rw back p.2)

-- a state that holds a character, and stays the same when it is completed
part-done : (g : Part → State) → Carries (λ bs p. g p) → (t : List ℕ) → run (g whole) t ≡ some epilog → (p : Part) → Fit p → run (g p) (closing p ++ t) ≡ some epilog
part-done g carries t h whole v = h
part-done g carries t h (part cls low l least) v =
    run-stays (tail-stays (λ bs p. g p) carries cls least l [] low _ (closing-inside cls low l least v)) t ∙ h

pub finish-done : (s : State) → Viable s → run s (finish s) ≡ some epilog
unfolding finish run step in_lt in_tag behind char crosses
finish-done fresh v = refl
finish-done marked v = marked-done
finish-done lt_first v = refl
finish-done (heading x) v = heading-done x
finish-done (decl d) v = decl-done d v
finish-done (literal c cs g) v = literal-done c cs g
finish-done prolog v = prolog-done
finish-done epilog v = refl
finish-done (text k p n ns) v = part-done (λ p. text k p n ns) (text-carries k n ns) (close (n ∷ ns)) (text-done k n ns) p v
finish-done (lt pl) v = lt-done pl
finish-done (misc m p pl) v = part-done (λ p. misc m p pl) (misc-carries m pl) (leave_misc m (leave_place pl)) (misc-done m pl) p v
finish-done (section k p n ns) v = part-done (λ p. section k p n ns) (section-carries k n ns) (leave_section n ns) (section-done k n ns) p v
finish-done (ref m p h) v = part-done (λ p. ref m p h) (ref-carries m h) (leave_ref m (leave_host h)) (ref-done m h) p v
finish-done (tag m whole n ns) v = tag-done m n ns
finish-done (tag m (part cls low l least) n ns) v =
    run-stays (tag-tail m n ns cls low l least _ (closing-inside cls low l least v)) (leave_tag m (close ns)) ∙ tag-done m (grown m n _) ns
finish-done (ending n ns) v = ending-done n ns (close-done ns)
finish-done (end_space ns) v = close-done ns
