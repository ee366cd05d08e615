-- What is due in the first bytes of a source stays due, and a run of text that is broken off goes on. Assumes nothing.
use state.{go}
use state.{Value}
use state.{Start}
use state.{Ref}
use state.{Pi}
use state.{NameStart}
use state.{NameEnd}
use state.{Name}
use state.{Mark}
use state.{Key}
use state.{Here}
use state.{End}
use state.{Empty}
use state.{Comment}
use state.{CData}
use Prim.Native.Nat.{ℕ, ◌+◌, ◌-◌, ◌*◌, ◌≤◌, ◌<◌, max}
use mathlib.Core.Path.{◌≡◌, refl, sym, ap, ◌∙◌, subst}
use mathlib.Core.List.{List, [], ◌∷◌, ◌++◌}
use mathlib.Core.Bool.{Bool, true, false, cond, ◌&&◌}
use mathlib.Core.Option.{some}
use native.Mathlib.Omega.{arith}
use borrow.Author.Tests.{lt-ltb, ltb-true}
use lib.Dec.{leb, ltb, eqb}
use Rattle.xml_tokens.specs.of_table.Kinds as kind
use Rattle.xml_tokens.specs.of_xml_chars.Chars.{Range, meets, any_char, is_space}
use Rattle.xml_tokens.specs.of_xml_chars.Bytes.{Left, one, two, three, Part, whole, part, fits}
use Rattle.xml_tokens.specs.of_xml_machine.State as state
use Rattle.xml_tokens.specs.of_xml_machine.State.{State, fresh, marked, lt_first, heading, decl, literal, prolog, epilog, text, lt, misc, section}
use Rattle.xml_tokens.specs.of_xml_machine.State.{ref, tag, ending, end_space, Place, Stay, EndText, TextMark, Next, Brackets, b0, b1, b2}
use Rattle.xml_tokens.specs.of_xml_machine.Machine.{begun, char, follow, angle, in_text, in_space, step}
use Rattle.xml_tokens.specs.of_xml_machine.Runs.{after, run}
use Rattle.xml_tokens.specs.of_xml_machine.Tokens.{Rec, rec, unless0, over, Marks, marking, marks_by, Due, nothing, event, attribute, text_due, due, open_run}
use Rattle.xml_tokens.specs.Due.{counted, due_by, due_from, events_due, attributes_due}
use Rattle.xml_places.specs.Begun.{GoesOn}
use Rattle.xml_places.proofs.Tags.{unless-some}

-- ---- a run of text ends only as a whole
data Running : State → Type 0 where
  at-prolog : Running prolog
  at-epilog : Running epilog
  in-text : {k : Brackets} {p : Part} {n : List ℕ} {ns : List (List ℕ)} → Running (text k p n ns)

data Runs : Next → Type 0 where
  stays : {u : State} → Running u → Runs (state.go Stay u)
  ends : {u : State} → Runs (state.go EndText u)
  ends-mark : {u : State} → Runs (state.go TextMark u)
  stops : Runs state.no

either : (c : Bool) {n o : Next} → Runs n → Runs o → Runs (cond c n o)
either true h k = h
either false h k = k

begun-runs : (cls : List Range) (low : ℕ) (l : Left) (least : ℕ) (f : Part → State) → ((p : Part) → Running (f p)) → Runs (begun cls low l least Stay f)
unfolding begun
begun-runs cls low l least f h = either (fits cls low l least) (stays (h (part cls low l least))) stops

char-runs : (cls : List Range) (b : ℕ) (f : Part → State) → ((p : Part) → Running (f p)) → Runs (char cls b Stay f state.no)
unfolding char
char-runs cls b f h =
    either (ltb b 0x80) (either (meets cls b b) (stays (h whole)) stops)
    (either (ltb b 0xC0) stops
    (either (ltb b 0xE0) (begun-runs cls ((b - 0xC0) * 64) one 0x80 f h)
    (either (ltb b 0xF0) (begun-runs cls ((b - 0xE0) * 4096) two 0x800 f h)
    (either (ltb b 0xF8) (begun-runs cls ((b - 0xF0) * 262144) three 0x10000 f h) stops))))

follow-runs : (cls : List Range) (low : ℕ) (l : Left) (least b : ℕ) (f : Part → State) → ((p : Part) → Running (f p)) → Runs (follow cls low l least b f)
unfolding follow
follow-runs cls low one least b f h = either (leb 0x80 b && ltb b 0xC0) (either (meets cls (max (low + (b - 0x80)) least) (low + (b - 0x80))) (stays (h whole)) stops) stops
follow-runs cls low two least b f h = either (leb 0x80 b && ltb b 0xC0) (begun-runs cls (low + (b - 0x80) * 64) one least f h) stops
follow-runs cls low three least b f h = either (leb 0x80 b && ltb b 0xC0) (begun-runs cls (low + (b - 0x80) * 4096) two least f h) stops

angle-runs : (k : Brackets) (n : List ℕ) (ns : List (List ℕ)) → Runs (angle k n ns)
angle-runs b0 n ns = stays in-text
angle-runs b1 n ns = stays in-text
angle-runs b2 n ns = stops

space-runs : {s : State} → Running s → (pl : Place) (b : ℕ) → Runs (in_space s pl b)
space-runs h pl b = either (eqb b 0x3C) ends (either (is_space b) (stays h) stops)

step-runs : {s : State} → Running s → (b : ℕ) → Runs (step s b)
unfolding step in_text
step-runs at-prolog b = space-runs at-prolog state.before b
step-runs at-epilog b = space-runs at-epilog state.after b
step-runs (in-text {k = k} {p = whole} {n = n} {ns = ns}) b =
    either (eqb b 0x3C) ends (either (eqb b 0x26) ends-mark (either (eqb b 0x5D) (stays in-text) (either (eqb b 0x3E) (angle-runs k n ns) (char-runs any_char b _ (λ p. in-text)))))
step-runs (in-text {p = part cls low l least}) b = follow-runs cls low l least b _ (λ p. in-text)

-- ---- the next event
-- events that go on with a text from x up to the byte `at` or behind it
abbrev NextText : ℕ → ℕ → List Rec → Type 0
NextText x at es = (to : ℕ) × (rest : List Rec) × (at ≤ to) × (es ≡ over kind.text x to ∷ rest)

text-here : (x at : ℕ) (ds : List Due) → x < at → NextText x at (events_due (text_due x at ∷ ds))
text-here x at ds l = (at, events_due ds, omega arith, ap (λ (z : Bool). events_due (cond z (event (over kind.text x at)) nothing ∷ ds)) (lt-ltb x at l))

open-run : {s : State} → Running s → (x at : ℕ) → open_run s x at ≡ text_due x at
open-run at-prolog x at = refl
open-run at-epilog x at = refl
open-run in-text x at = refl

open-here : {s : State} → Running s → (x at : ℕ) → x < at → NextText x at (events_due (open_run s x at ∷ []))
open-here r x at l = subst (λ (d : Due). NextText x at (events_due (d ∷ []))) (sym (open-run r x at)) (text-here x at [] l)

next-text : (t : List ℕ) {s : State} → Running s → (at count : ℕ) (m : Marks) → m.mark < at → NextText m.mark at (events_due (due_from t s at count m))
unfolding due_from
next-text [] r at count m l = open-here r m.mark at l
next-text (b ∷ t) {s = s} r at count m l = by (step s b) (step-runs r b) (λ u q. next-text t q (at + 1) count m (omega arith))
  where
    by : (o : Next) → Runs o → ((u : State) → Running u → NextText m.mark (at + 1) (events_due (due_from t u (at + 1) count m))) →
        NextText m.mark at (events_due (due_by o s at count m (λ u n k. due_from t u (at + 1) n k)))
    by (go Mark u) x6 ih = elim x6 [ ]
    by (go Here u) x7 ih = elim x7 [ ]
    by (go Name u) x8 ih = elim x8 [ ]
    by (go NameStart u) x9 ih = elim x9 [ ]
    by (go NameEnd u) x10 ih = elim x10 [ ]
    by (go Start u) x11 ih = elim x11 [ ]
    by (go Empty u) x12 ih = elim x12 [ ]
    by (go End u) x13 ih = elim x13 [ ]
    by (go Key u) x14 ih = elim x14 [ ]
    by (go Value u) x15 ih = elim x15 [ ]
    by (go Ref u) x16 ih = elim x16 [ ]
    by (go Comment u) x17 ih = elim x17 [ ]
    by (go Pi u) x18 ih = elim x18 [ ]
    by (go CData u) x19 ih = elim x19 [ ]
    by (state.go Stay u) (stays q) ih = let z = ih u q in let g = z.2 in (z.0, z.1, omega arith, z.3)
    by (state.go EndText u) ends ih = text-here m.mark at (due_from t u (at + 1) (counted count (text_due m.mark at)) (marking (at + 1) m)) l
    by (state.go TextMark u) ends-mark ih = text-here m.mark at (due_from t u (at + 1) (counted count (text_due m.mark at)) (marking (at + 1) m)) l
    by state.no stops ih = open-here r m.mark at l

text-on : (x at : ℕ) (es : List Rec) → x < at → NextText x at es → GoesOn (event (over kind.text x at)) es
text-on x at es l (to, rest, g, e) =
    let a = unless-some x (at - x) (omega arith) in
    let b = unless-some x (to - x) (omega arith) in
    let n : to - x ≡ at - x + (to - at) = omega arith in
    (to - at, rest, e ∙ ap (λ (y : ℕ). rec kind.text y (to - x) 0 0 ∷ rest) (b ∙ sym a) ∙ ap (λ (y : ℕ). rec kind.text (unless0 x (at - x)) y 0 0 ∷ rest) n)

run_on : {s : State} → Running s → (t : List ℕ) (at count : ℕ) (m : Marks) → GoesOn (open_run s m.mark at) (events_due (due_from t s at count m))
run_on {s = s} r t at count m =
    subst (λ (d : Due). GoesOn d (events_due (due_from t s at count m))) (sym (open-run r m.mark at)) (by (ltb m.mark at) refl)
  where
    by : (z : Bool) → ltb m.mark at ≡ z → GoesOn (cond z (event (over kind.text m.mark at)) nothing) (events_due (due_from t s at count m))
    by true e = let l = ltb-true m.mark at e in text-on m.mark at (events_due (due_from t s at count m)) l (next-text t r at count m l)
    by false e = tt

pub open_on : (s : State) (t : List ℕ) (at count : ℕ) (m : Marks) → GoesOn (open_run s m.mark at) (events_due (due_from t s at count m))
open_on fresh t at count m = tt
open_on marked t at count m = tt
open_on lt_first t at count m = tt
open_on (heading x) t at count m = tt
open_on (decl d) t at count m = tt
open_on (literal c cs g) t at count m = tt
open_on prolog t at count m = run_on at-prolog t at count m
open_on epilog t at count m = run_on at-epilog t at count m
open_on (text k p n ns) t at count m = run_on in-text t at count m
open_on (lt pl) t at count m = tt
open_on (misc i p pl) t at count m = tt
open_on (section k p n ns) t at count m = tt
open_on (ref i p h) t at count m = tt
open_on (tag i p n ns) t at count m = tt
open_on (ending n ns) t at count m = tt
open_on (end_space ns) t at count m = tt

-- ---- what is due in the first bytes, and in those behind them
pub record Split (p t : List ℕ) (s u : State) (at count : ℕ) (m : Marks) : Type 0 where
  pub ended : List Due
  pub to : ℕ
  pub number : ℕ
  pub marks : Marks
  pub here : due_from p s at count m ≡ ended ++ (open_run u marks.mark to ∷ [])
  pub on : due_from (p ++ t) s at count m ≡ ended ++ due_from t u to number marks

pub split : (p t : List ℕ) (s u : State) (at count : ℕ) (m : Marks) → run s p ≡ some u → Split p t s u at count m
unfolding due_from run
split [] t s u at count m e =
    let z : s ≡ u = cc in
    record { ended = []; to = at; number = count; marks = m; here = ap (λ (w : State). open_run w m.mark at ∷ []) z; on = ap (λ (w : State). due_from t w at count m) z }
split (b ∷ p) t s u at count m e = by (step s b) refl e (λ w n k f. split p t w u (at + 1) n k f)
  where
    by : (o : Next) → step s b ≡ o → after o (λ w. run w p) ≡ some u → ((w : State) (n : ℕ) (k : Marks) → run w p ≡ some u → Split p t w u (at + 1) n k) → Split (b ∷ p) t s u at count m
    by state.no i f ih = let z : ◌≡◌ {A = ℕ} 0 1 = cc in absurd (omega arith)
    by (state.go a w) i f ih =
        let d : Due = due a at count m in
        let r = ih w (counted count d) (marks_by a at count m) f in
        record {
          ended = d ∷ r.ended;
          to = r.to;
          number = r.number;
          marks = r.marks;
          here = ap (λ (o : Next). due_by o s at count m (λ v n k. due_from p v (at + 1) n k)) i ∙ ap (λ (ds : List Due). d ∷ ds) r.here;
          on = ap (λ (o : Next). due_by o s at count m (λ v n k. due_from (p ++ t) v (at + 1) n k)) i ∙ ap (λ (ds : List Due). d ∷ ds) r.on;
        }

-- ---- what is due, joined
pub events-append : (ds es : List Due) → events_due (ds ++ es) ≡ events_due ds ++ events_due es
events-append [] es = refl
events-append (nothing ∷ ds) es = events-append ds es
events-append (event r ∷ ds) es = ap (λ (l : List Rec). r ∷ l) (events-append ds es)
events-append (attribute r ∷ ds) es = events-append ds es

pub attributes-append : (ds es : List Due) → attributes_due (ds ++ es) ≡ attributes_due ds ++ attributes_due es
attributes-append [] es = refl
attributes-append (nothing ∷ ds) es = attributes-append ds es
attributes-append (event r ∷ ds) es = attributes-append ds es
attributes-append (attribute r ∷ ds) es = ap (λ (l : List Rec). r ∷ l) (attributes-append ds es)

-- a run of text is no attribute
pub run_none : (d : Due) (rest : List Rec) → GoesOn d rest → attributes_due (d ∷ []) ≡ []
run_none nothing rest g = refl
run_none (event r) rest g = refl
run_none (attribute r) rest g = absurd g
