-- Comments, and where markup may begin. Assumes nothing.
use Prim.Native.Nat.{ℕ}
use mathlib.Core.Path.{◌≡◌, refl}
use mathlib.Core.List.{List, [], ◌∷◌, ◌++◌}
use mathlib.Core.Bool.{true, not, and-eq-true_iff}
use native.Mathlib.Omega.{arith}
use borrow.Author.Tests.{ne_eqb, eqb-false}
use lib.Dec.{eqb}
use Rattle.xml_grammar.specs.of_utf8.Characters.{encode}
use Rattle.xml_grammar.specs.of_table.Event.{Piece, Other}
use Rattle.xml_grammar.specs.of_xml_chars.Chars.{crosses, is_in, any_char}
use Rattle.xml_grammar.specs.of_xml_chars.Bytes.{utf8, whole}
use Rattle.xml_grammar.proofs.of_xml_chars.CharLaws.{in-scalar}
use Rattle.xml_grammar.specs.Grammar.{in_remark_of, Remark, no-remark, plain, dashed}
use Rattle.xml_machine.specs.State as state
use Rattle.xml_machine.specs.State.{State, fresh, marked, lt_first, prolog, epilog, text, lt, misc, Stay, Mark, EndText, Comment, Brackets, Place, before, inside, InMisc, bang, dash, remark0, remark1, remark2}
use Rattle.xml_machine.specs.Machine.{char, resume, in_text, in_misc, in_lt, step}
use Rattle.xml_machine.specs.inside.Saying.{text_said}
use Rattle.xml_machine.proofs.Stays.{Stays, takes-stays}
use Rattle.xml_machine.proofs.Characters.{char-takes}
use Rattle.xml_machine.proofs.Carries.{misc-carries}
use Rattle.xml_complete.proofs.Booleans.{not-true}
use Rattle.xml_complete.proofs.Reading.{Reads, reads_none, reads-char, reads_byte, Tells, tells-then, tells-reads, tells-mark, tells-text}
use Rattle.xml_complete.proofs.Pieces.{tells-stay, tells-comment}

-- ---- where markup may begin: the state behind its `<`, and the place
pub data Opens : State → State → Place → Type 0 where
  at-fresh : Opens fresh lt_first before
  at-marked : Opens marked lt_first before
  at-prolog : Opens prolog (lt before) before
  at-epilog : Opens epilog (lt state.after) state.after
  in-text : {k : Brackets} {n : List ℕ} {ns : List (List ℕ)} → Opens (text k whole n ns) (lt (inside n ns)) (inside n ns)

pub opens-step : {s v : State} {pl : Place} → Opens s v pl → step s 0x3C ≡ state.go EndText v
unfolding step in_text
opens-step at-fresh = refl
opens-step at-marked = refl
opens-step at-prolog = refl
opens-step at-epilog = refl
opens-step in-text = refl

pub opens-bang : {s v : State} {pl : Place} → Opens s v pl → step v 0x21 ≡ state.go Stay (misc bang whole pl)
unfolding step in_lt char crosses
opens-bang at-fresh = refl
opens-bang at-marked = refl
opens-bang at-prolog = refl
opens-bang at-epilog = refl
opens-bang in-text = refl

-- ---- comments
pub bang-dash : (pl : Place) → step (misc bang whole pl) 0x2D ≡ state.go Stay (misc dash whole pl)
unfolding step in_misc
bang-dash pl = refl

pub dash-opens : (pl : Place) → step (misc dash whole pl) 0x2D ≡ state.go Mark (misc remark0 whole pl)
unfolding step in_misc
dash-opens pl = refl

pub first-dash : (pl : Place) → step (misc remark0 whole pl) 0x2D ≡ state.go Stay (misc remark1 whole pl)
unfolding step in_misc
first-dash pl = refl

pub second-dash : (pl : Place) → step (misc remark1 whole pl) 0x2D ≡ state.go Stay (misc remark2 whole pl)
unfolding step in_misc
second-dash pl = refl

pub dash-ends : (pl : Place) → step (misc remark2 whole pl) 0x3E ≡ state.go Comment (resume pl)
unfolding step in_misc
dash-ends pl = refl

-- within a comment, not behind two dashes
data Remarks : InMisc → Type 0 where
  after-char : Remarks remark0
  after-dash : Remarks remark1

remark-takes : {m : InMisc} → Remarks m → (pl : Place) (b : ℕ) → ¬ (b ≡ 0x2D) → step (misc m whole pl) b ≡ char any_char b Stay (λ p. misc remark0 p pl) state.no
unfolding step in_misc
remark-takes after-char pl b h = simp (ne_eqb b 0x2D h)
remark-takes after-dash pl b h = simp (ne_eqb b 0x2D h)

remark-char : {m : InMisc} → Remarks m → (pl : Place) (c : ℕ) → in_remark_of c ≡ true → Stays (misc m whole pl) (encode c) (misc remark0 whole pl)
remark-char {m = m} r pl c e =
    let p = (and-eq-true_iff (is_in any_char c) (not (eqb c 0x2D))).0 e in
    takes-stays
    (char-takes (misc m whole pl) (λ bs p. misc remark0 p pl) (misc-carries remark0 pl) any_char Stay (λ b. state.no) c
    (λ h. remark-takes r pl c (eqb-false c 0x2D (not-true _ p.1))) (λ b h. remark-takes r pl b (omega arith)) p.0 (in-scalar c p.0))

pub remark-reads : {s : List ℕ} → Remark s → (pl : Place) → Reads (misc remark0 whole pl) s (misc remark0 whole pl)
remark-reads no-remark pl = reads_none
remark-reads (plain {c = c} e h) pl = reads-char (remark-char after-char pl c e) (remark-reads h pl)
remark-reads (dashed {c = c} e h) pl = reads_byte (omega arith) (first-dash pl) (reads-char (remark-char after-dash pl c e) (remark-reads h pl))

pub comment-tells : {s v : State} {pl : Place} → Opens s v pl → {r : List ℕ} → Remark r → {m : List ℕ} →
    Tells s m (0x3C ∷ 0x21 ∷ 0x2D ∷ 0x2D ∷ (r ++ (0x2D ∷ 0x2D ∷ 0x3E ∷ []))) (resume pl) [] (text_said m ++ (Piece Other (utf8 r) ∷ []))
comment-tells {pl = pl} o {r = r} h =
    tells-then (tells-text (omega arith) (opens-step o))
    (tells-then (tells-stay (omega arith) (opens-bang o))
    (tells-then (tells-stay (omega arith) (bang-dash pl))
    (tells-then (tells-mark (omega arith) (dash-opens pl))
    (tells-then {m = []} (tells-reads (remark-reads h pl))
    (tells-then (tells-stay (omega arith) (first-dash pl))
    (tells-then (tells-stay (omega arith) (second-dash pl)) (tells-comment (utf8 r) 0x2D 0x2D (omega arith) (dash-ends pl))))))))
