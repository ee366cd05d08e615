-- What stands outside the root, and whole documents. Assumes nothing.
use Prim.Native.Nat.{ℕ}
use mathlib.Core.Path.{◌≡◌, refl, ap, ◌∙◌, subst}
use mathlib.Core.List.{List, [], ◌∷◌, ◌++◌, append_assoc}
use mathlib.Core.Bool.{true}
use native.Mathlib.Omega.{arith}
use Rattle.xml_grammar.specs.of_table.Event.{Event, Piece, Other, Eof}
use Rattle.xml_grammar.specs.of_xml_chars.Chars.{is_space}
use Rattle.xml_grammar.specs.of_xml_chars.Bytes.{utf8}
use Rattle.xml_grammar.proofs.of_xml_chars.CharLaws.{low_scalar}
use Rattle.xml_grammar.specs.Grammar as grammar
use Rattle.xml_grammar.specs.Grammar.{no_char, a-char, Spaces, Miscs, last-space, Prolog, undeclared, declared, Document, document}
use Rattle.xml_grammar.specs.Events.{text_of, misc_of, miscs_of, element_of, prolog_of, document_of}
use Rattle.xml_machine.specs.State as state
use Rattle.xml_machine.specs.State.{State, fresh, marked, lt_first, prolog, epilog, lt, Stay, Place, before}
use Rattle.xml_machine.specs.Machine.{resume, step}
use Rattle.xml_machine.specs.inside.Saying.{text_said}
use Rattle.xml_complete.proofs.Reading.{Reads, reads_none, reads_byte, Tells, tells-then, tells-reads}
use Rattle.xml_complete.proofs.Spaces.{space-cases, space-ascii, spaces-read, prolog-space, epilog-space}
use Rattle.xml_complete.proofs.Names.{Begins, at_first, at-root}
use Rattle.xml_complete.proofs.Pieces.{text-said}
use Rattle.xml_complete.proofs.Comments.{Opens, at-fresh, at-marked, at-prolog, at-epilog}
use Rattle.xml_complete.proofs.Instructions.{query-tells, misc-tells}
use Rattle.xml_complete.proofs.Elements.{Stretch, joined, element-tells}
use Rattle.xml_complete.proofs.Declarations.{declaration-reads}

-- ---- outside the root, by the state behind `<`
pub data Outside : State → State → Place → Type 0 where
  is-fresh : Outside fresh lt_first before
  is-marked : Outside marked lt_first before
  is-prolog : Outside prolog (lt before) before
  is-epilog : Outside epilog (lt state.after) state.after

pub outside-opens : {s v : State} {pl : Place} → Outside s v pl → Opens s v pl
outside-opens is-fresh = at-fresh
outside-opens is-marked = at-marked
outside-opens is-prolog = at-prolog
outside-opens is-epilog = at-epilog

pub resumed : {s v : State} {pl : Place} → Outside s v pl → Outside (resume pl) (lt pl) pl
resumed is-fresh = is-prolog
resumed is-marked = is-prolog
resumed is-prolog = is-prolog
resumed is-epilog = is-epilog

outside_space : {s v : State} {pl : Place} → Outside s v pl → (c : ℕ) → is_space c ≡ true → step s c ≡ state.go Stay (resume pl)
unfolding step
outside_space is-fresh c e = space-cases (λ c. step fresh c ≡ state.go Stay prolog) refl refl refl refl c e
outside_space is-marked c e = space-cases (λ c. step marked c ≡ state.go Stay prolog) refl refl refl refl c e
outside_space is-prolog c e = prolog-space c e
outside_space is-epilog c e = epilog-space c e

abbrev pub Out : Place → State → Type 0
Out pl u = (v : State) × Outside u v pl

pub spaces-out : {s v : State} {pl : Place} → Outside s v pl → {w : List ℕ} → Spaces w → (u : State) × Out pl u × Reads s w u
spaces-out {s = s} {v = v} o no_char = (s, (v, o), reads_none)
spaces-out {pl = pl} o (a-char {c = c} e h) = (
  resume pl,
  (lt pl, resumed o),
  reads_byte (space-ascii c e) (outside_space o c e) (spaces-read (outside_space (resumed o)) h),
)

space-said : {w : List ℕ} → Spaces w → text_said (utf8 w) ≡ text_of w
space-said h = text-said (λ c e. let p = space-ascii c e in low_scalar c (omega arith)) h

miscs-tell : {s v : State} {pl : Place} → Outside s v pl → {ms : List ℕ} (h : Miscs ms) → Stretch s ms (Out pl) (miscs_of h)
miscs-tell o (last-space {w = w} h) =
    let p = spaces-out o h in
    record { state = p.0; place = p.1; mark = utf8 w; events = []; tells = tells-reads p.2; all = space-said h }
miscs-tell o (grammar.misc {w = w} h e m) =
    let p = spaces-out o h in
    let r = miscs-tell (resumed o) m in
    record {
      state = r.state;
      place = r.place;
      mark = r.mark;
      events = (text_said (utf8 w) ++ (misc_of e ∷ [])) ++ r.events;
      tells = tells-then {m = []} (tells-reads p.2) (tells-then (misc-tells (outside-opens p.1.1) e) r.tells);
      all = joined (misc_of e ∷ []) r.events (text_said r.mark) (space-said h) r.all;
    }

-- ---- the prolog
-- where a document begins
pub data First : State → Type 0 where
  first-fresh : First fresh
  first-marked : First marked

pub first-outside : {s : State} → First s → Outside s lt_first before
first-outside first-fresh = is-fresh
first-outside first-marked = is-marked

declared-tells : {s : State} → First s → {d : List ℕ} → grammar.Declaration d → Tells s [] (0x3C ∷ 0x3F ∷ (d ++ (0x3F ∷ 0x3E ∷ []))) prolog [] (Piece Other (utf8 d) ∷ [])
declared-tells first-fresh h = let p = declaration-reads h in query-tells at-fresh p.1 p.2
declared-tells first-marked h = let p = declaration-reads h in query-tells at-marked p.1 p.2

prolog-tells : {s : State} → First s → {cs : List ℕ} (h : Prolog cs) → Stretch s cs (Out before) (prolog_of h)
prolog-tells f (undeclared m) = miscs-tell (first-outside f) m
prolog-tells {s = s} f (declared {d = d} {m = ms} h m) =
    let r = miscs-tell is-prolog m in
    record {
      state = r.state;
      place = r.place;
      mark = r.mark;
      events = Piece Other (utf8 d) ∷ r.events;
      tells = subst (λ z. Tells s [] (0x3C ∷ 0x3F ∷ z) r.state r.mark (Piece Other (utf8 d) ∷ r.events)) (append_assoc d (0x3F ∷ 0x3E ∷ []) ms)
          (tells-then (declared-tells f h) r.tells);
      all = ap (λ z. Piece Other (utf8 d) ∷ z) r.all;
    }

-- ---- documents
pub before-begins : {u v : State} → Outside u v before → Begins v []
before-begins is-fresh = at_first
before-begins is-marked = at_first
before-begins is-prolog = at-root

pub after-ends : {u v : State} → Outside u v state.after → u ≡ epilog
after-ends is-epilog = refl

all-events : (qs qt es rs rt l : List Event) {ps ms : List Event} → qs ++ qt ≡ ps → rs ++ rt ≡ ms → (qs ++ ((qt ++ es) ++ rs)) ++ (rt ++ l) ≡ ps ++ (es ++ (ms ++ l))
all-events qs qt es rs rt l {ps = ps} i j =
    let k : (qs ++ ((qt ++ es) ++ rs)) ++ (rt ++ l) ≡ (qs ++ qt) ++ (es ++ ((rs ++ rt) ++ l)) = simp append_assoc in
    k ∙ ap (λ z. z ++ (es ++ ((rs ++ rt) ++ l))) i ∙ ap (λ z. ps ++ (es ++ (z ++ l))) j

pub document-tells : {s : State} → First s → {cs : List ℕ} (h : Document cs) →
    (x : List ℕ) × (es : List Event) × Tells s [] cs epilog x es × (es ++ (text_said x ++ (Eof ∷ [])) ≡ document_of h)
document-tells {s = s} f (document {p = a} {e = b} {m = c} p e m) =
    let q = prolog-tells f p in
    let r = miscs-tell is-epilog m in
    let t : List Event = text_said q.mark ++ element_of e in
    let i = tells-then q.tells (tells-then (element-tells e (outside-opens q.place.1) (before-begins q.place.1)) r.tells) in (
      r.mark,
      q.events ++ (t ++ r.events),
      subst (λ u. Tells s [] (a ++ (b ++ c)) u r.mark (q.events ++ (t ++ r.events))) (after-ends r.place.1) i,
      all-events q.events (text_said q.mark) (element_of e) r.events (text_said r.mark) (Eof ∷ []) q.all r.all,
    )
