-- Markup, references and sections that stand open are completed, and then the open elements. Assumes nothing.
use Prim.Native.Nat.{ℕ}
use mathlib.Core.Path.{◌≡◌, refl, ◌∙◌}
use mathlib.Core.List.{List, [], ◌∷◌, ◌++◌}
use mathlib.Core.Option.{some}
use borrow.Author.Tests.{eq-eqb}
use Rattle.xml_machine.specs.of_xml_chars.Chars.{crosses, lower, single, double}
use Rattle.xml_machine.specs.of_xml_chars.Bytes.{whole}
use Rattle.xml_machine.specs.State as state
use Rattle.xml_machine.specs.State.{prolog, epilog, text, lt, misc, section, ref, tag, ending, EndText, Mark, Brackets, b0, b1, b2}
use Rattle.xml_machine.specs.State.{Letters, x0, x1, x2, x3, Place, before, inside, InMisc, bang, dash, remark0, remark1, remark2, target, named, pi_data, pi_query, pi_close}
use Rattle.xml_machine.specs.State.{InRef, ampersand, ref_name, hash, digits, hash_x, hexes, Host, content, attribute}
use Rattle.xml_machine.specs.State.{InTag, name, gap, slash, key, key_eq, quote, value, value_end}
use Rattle.xml_machine.specs.Machine.{char, in_text, in_section, in_ref, in_target, in_misc, behind, in_tag, in_lt, shut, resume, ref_end, step}
use Rattle.xml_machine.specs.Runs.{after, run}
use Rattle.xml_machine.proofs.Runs.{run_step}
use Rattle.xml_finish.proofs.Finish.{close, root, leave_tag, leave_place, leave_target, leave_misc, leave_ref, leave_host, leave_section, leave_lt}

pub ending-done : (n : List ℕ) (ns : List (List ℕ)) → run (shut ns) (close ns) ≡ some epilog → run (ending n ns) (n ++ (0x3E ∷ close ns)) ≡ some epilog
unfolding run step
ending-done [] ns h = h
ending-done (c ∷ n) ns h = rw (eq-eqb c c refl) (ending-done n ns h)

slash-ends : (n : List ℕ) (ns : List (List ℕ)) → step (lt (inside n ns)) 0x2F ≡ state.go Mark (ending n ns)
unfolding step in_lt char crosses
slash-ends n ns = refl

inside-done : (n : List ℕ) (ns : List (List ℕ)) → run (shut ns) (close ns) ≡ some epilog → run (lt (inside n ns)) (leave_lt (inside n ns)) ≡ some epilog
inside-done n ns h = run_step (lt (inside n ns)) (ending n ns) Mark 0x2F (n ++ (0x3E ∷ close ns)) (slash-ends n ns) ∙ ending-done n ns h

angle-opens : (k : Brackets) (n : List ℕ) (ns : List (List ℕ)) → step (text k whole n ns) 0x3C ≡ state.go EndText (lt (inside n ns))
unfolding step in_text
angle-opens k n ns = refl

content-done : (k : Brackets) (n : List ℕ) (ns : List (List ℕ)) → run (shut ns) (close ns) ≡ some epilog → run (text k whole n ns) (close (n ∷ ns)) ≡ some epilog
content-done k n ns h = run_step (text k whole n ns) (lt (inside n ns)) EndText 0x3C (leave_lt (inside n ns)) (angle-opens k n ns) ∙ inside-done n ns h

pub close-done : (ns : List (List ℕ)) → run (shut ns) (close ns) ≡ some epilog
unfolding run
close-done [] = refl
close-done (n ∷ ns) = content-done b0 n ns (close-done ns)

pub text-done : (k : Brackets) (n : List ℕ) (ns : List (List ℕ)) → run (text k whole n ns) (close (n ∷ ns)) ≡ some epilog
text-done k n ns = content-done k n ns (close-done ns)

pub lt-done : (pl : Place) → run (lt pl) (leave_lt pl) ≡ some epilog
unfolding run step in_lt in_tag behind in_misc in_target char crosses lower
lt-done before = refl
lt-done state.after = refl
lt-done (inside n ns) = inside-done n ns (close-done ns)

pub tag-done : (m : InTag) (n : List ℕ) (ns : List (List ℕ)) → run (tag m whole n ns) (leave_tag m (close ns)) ≡ some epilog
unfolding run step in_tag behind char crosses
tag-done name n ns = close-done ns
tag-done gap n ns = close-done ns
tag-done slash n ns = close-done ns
tag-done key n ns = close-done ns
tag-done key_eq n ns = close-done ns
tag-done quote n ns = close-done ns
tag-done (value single) n ns = close-done ns
tag-done (value double) n ns = close-done ns
tag-done value_end n ns = close-done ns

pub prolog-done : run prolog root ≡ some epilog
unfolding run step in_lt in_tag behind char crosses
prolog-done = refl

pub place-done : (pl : Place) → run (resume pl) (leave_place pl) ≡ some epilog
unfolding run
place-done before = prolog-done
place-done state.after = refl
place-done (inside n ns) = text-done b0 n ns

pub target-done : (x : Letters) (pl : Place) → run (misc (target x) whole pl) (leave_target x (leave_place pl)) ≡ some epilog
unfolding run step in_misc in_target char crosses lower
target-done x0 pl = place-done pl
target-done x1 pl = place-done pl
target-done x2 pl = place-done pl
target-done x3 pl = place-done pl

pub misc-done : (m : InMisc) (pl : Place) → run (misc m whole pl) (leave_misc m (leave_place pl)) ≡ some epilog
unfolding run step in_misc char crosses
misc-done bang pl = place-done pl
misc-done dash pl = place-done pl
misc-done remark0 pl = place-done pl
misc-done remark1 pl = place-done pl
misc-done remark2 pl = place-done pl
misc-done (target x) pl = target-done x pl
misc-done named pl = place-done pl
misc-done pi_data pl = place-done pl
misc-done pi_query pl = place-done pl
misc-done pi_close pl = place-done pl

host-done : (h : Host) → after (ref_end h) (λ u. run u (leave_host h)) ≡ some epilog
host-done (content n ns) = text-done b0 n ns
host-done (attribute q n ns) = tag-done (value q) n ns

pub ref-done : (m : InRef) (h : Host) → run (ref m whole h) (leave_ref m (leave_host h)) ≡ some epilog
unfolding run step in_ref char crosses
ref-done ampersand h = host-done h
ref-done ref_name h = host-done h
ref-done hash h = host-done h
ref-done digits h = host-done h
ref-done hash_x h = host-done h
ref-done hexes h = host-done h

pub section-done : (k : Brackets) (n : List ℕ) (ns : List (List ℕ)) → run (section k whole n ns) (leave_section n ns) ≡ some epilog
unfolding run step in_section
section-done b0 n ns = text-done b0 n ns
section-done b1 n ns = text-done b0 n ns
section-done b2 n ns = text-done b0 n ns
