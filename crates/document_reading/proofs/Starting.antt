-- Behind a Start that isn't read inside an output nothing is gathered yet, and an output's next End of its name ends it. Assumes nothing.
use Prim.Native.Nat.{ℕ, zero, suc}
use mathlib.Core.Bool.{Bool, true, false, cond, ◌&&◌, ◌||◌, false≢true, or-true}
use mathlib.Core.List.{List, [], ◌∷◌}
use mathlib.Core.Path.{◌≡◌, refl, sym, ap, ◌∙◌}
use lib.Dec.{eqb}
use Rattle.xml_grammar.specs.of_names.Names.{same_bytes}
use Rattle.xml_grammar.specs.of_names.Tags.{tag_of, testsuites, testsuite, testcase, properties, property, stack_trace, system-out, system-err}
use Rattle.xml_grammar.specs.of_table.Event.{Attribute, TagKind, Start, Empty, End, PieceKind, Text, Event, Tag, Piece}
use Rattle.read_spelling.specs.of_read_element.Outcome.{Place, Rooms}
use Rattle.read_spelling.proofs.of_read_element.TreeOutcome.{Holds, accept, bind}
use Rattle.read_spelling.specs.of_read_state.Control.{Level, top, suite, case, status, Output, trace, out, err, Mode, at, gathering, listing, skipping, finished, Control, turn, is_status, or_skip}
use Rattle.read_spelling.specs.of_read_state.Control.{Act, pass, open_report, open_suite, open_case, open_status, close_suite, close_case, close_status, open_text, close_text, open_list, read_property, stop, missing}
use Rattle.read_spelling.specs.of_read_rules.Rules.{outputs, emptied, child, at_top, at_suite, at_case, at_status, tag_of_output, in_text, in_list_of, shallower, in_skip, plan_at}
use Rattle.read_spelling.specs.of_read_report.Deserialize.{Draft, perform, Reader, act, step}
use Rattle.read_spelling.proofs.Bare.{any}
use Rattle.read_spelling.proofs.ValueBare.{Bare, BareReader}
use Rattle.document_reading.specs.inside.Calm.{is_output, opens_output, Calm, an-event, an-output}
use Rattle.document_reading.proofs.Pieces.{Vacant}

-- no text of an output is gathered, also not behind a skip
abbrev pub still : Mode → Bool
still (at l) = true
still (gathering l o) = false
still (listing l) = true
still (skipping m name depth) = still m
still finished = true

-- and no description
abbrev rests : Mode → Bool
rests (at top) = true
rests (at suite) = true
rests (at case) = true
rests (at status) = false
rests (gathering l o) = false
rests (listing l) = true
rests (skipping m name depth) = still m
rests finished = true

-- ---- what a Start does
data Starts (name : List ℕ) : Mode → Act → Type 0 where
  passes : {m n : Mode} → rests n ≡ true → Starts name m (pass n)
  a-report : {m : Mode} → Starts name m (open_report false)
  a-suite : {m : Mode} → Starts name m (open_suite false)
  a_case : {m : Mode} → Starts name m (open_case false)
  a-status : {k : ℕ} → Starts name (at case) (open_status k false)
  a-text : {l : Level} {o : Output} → eqb (tag_of name) (tag_of_output o) ≡ true → Starts name (at l) (open_text l o)
  a-list : {m : Mode} {l : Level} → Starts name m (open_list l false)
  a-property : {m : Mode} {l : Level} {n : List ℕ} → Starts name m (read_property l false n)

either : (P : Act → Type 0) (b : Bool) {x y : Act} → (b ≡ true → P x) → P y → P (cond b x y)
either P true h k = h refl
either P false h k = k

outputs-start : (name : List ℕ) (l : Level) → Starts name (at l) (outputs l name)
unfolding outputs or_skip
outputs-start name l =
    either (Starts name (at l)) (eqb (tag_of name) system-out) (λ e. a-text e)
    (either (Starts name (at l)) (eqb (tag_of name) system-err) (λ e. a-text e) (passes refl))

starts : (m : Mode) (seen : Bool) (name : List ℕ) → still m ≡ true → Starts name m (plan_at m seen Start name)
unfolding plan_at at_top at_suite at_case at_status child in_list_of in_skip
starts (at top) seen name h =
    either (Starts name (at top)) (eqb (tag_of name) testsuites) (λ e. a-report)
    (either (Starts name (at top)) (eqb (tag_of name) testsuite && seen) (λ e. a-suite) (passes refl))
starts (at suite) seen name h =
    either (Starts name (at suite)) (eqb (tag_of name) testcase) (λ e. a_case)
    (either (Starts name (at suite)) (eqb (tag_of name) properties) (λ e. a-list) (outputs-start name suite))
starts (at case) seen name h =
    either (Starts name (at case)) (is_status (tag_of name)) (λ e. a-status)
    (either (Starts name (at case)) (eqb (tag_of name) properties) (λ e. a-list) (outputs-start name case))
starts (at status) seen name h = either (Starts name (at status)) (eqb (tag_of name) stack_trace) (λ e. a-text e) (outputs-start name status)
starts (gathering l o) seen name h = absurd (false≢true h)
starts (listing l) seen name h = either (Starts name (listing l)) (eqb (tag_of name) property) (λ e. a-property) (passes refl)
starts (skipping m over depth) seen name h = passes h
starts finished seen name h = passes refl

rests_vacant : (m : Mode) (d : Draft) → rests m ≡ true → Vacant m d
rests_vacant (at top) d h = tt
rests_vacant (at suite) d h = tt
rests_vacant (at case) d h = tt
rests_vacant (at status) d h = absurd (false≢true h)
rests_vacant (gathering l o) d h = absurd (false≢true h)
rests_vacant (listing l) d h = tt
rests_vacant (skipping m name depth) d h = tt
rests_vacant finished d h = tt

no_text : (l : Level) (d : Draft) → Bare (at l) d → d.text ≡ []
no_text top d b = b.1
no_text suite d b = b.1
no_text case d b = b.1
no_text status d b = b

module _ (rooms : Rooms) (p : Place) (j : ℕ) (xs : List Attribute) (c : Control) where
  performed : {name : List ℕ} {m : Mode} {a : Act} (d : Draft) → Starts name m a → Bare m d → Holds (Vacant (turn a c).mode) (perform rooms p a j xs c d)
  unfolding perform turn
  performed d (passes {n = n} h) b = accept (rests_vacant n d h)
  performed d a-report b = bind (any _) λ t u. accept tt
  performed d a-suite b = bind (any _) λ t u. accept tt
  performed d a_case b = bind (any _) λ t u. accept tt
  performed d a-status b = bind (any _) λ t u. accept b.0
  performed d (a-text {l = l} e) b = accept (no_text l d b)
  performed d a-list b = accept tt
  performed d a-property b = bind (any _) λ t u. accept tt

pub start-vacant : (rooms : Rooms) (name : List ℕ) (j : ℕ) (xs : List Attribute) (s : Reader) → still s.control.mode ≡ true → BareReader s
    → Holds (λ t. Vacant t.control.mode t.draft) (step rooms (Tag Start name j xs) s)
unfolding step act
start-vacant rooms name j xs s h b = bind (performed rooms _ j xs s.control s.draft (starts s.control.mode s.control.seen name h) b) λ d v. accept v

-- ---- where reading stands behind a tag
-- the events that are to come, by what is open
pub data Rest (m : Mode) : List Event → Type 0 where
  outside : {es : List Event} → still m ≡ true → Calm es → Rest m es
  at-text : {l : Level} {o : Output} {name s : List ℕ} {j : ℕ} {xs : List Attribute} {es : List Event}
      → m ≡ gathering l o → eqb (tag_of name) (tag_of_output o) ≡ true → Calm es → Rest m (Piece Text s ∷ Tag End name j xs ∷ es)
  at-end : {l : Level} {o : Output} {name : List ℕ} {j : ℕ} {xs : List Attribute} {es : List Event}
      → m ≡ gathering l o → eqb (tag_of name) (tag_of_output o) ≡ true → Calm es → Rest m (Tag End name j xs ∷ es)

data Enters (name : List ℕ) : Mode → Type 0 where
  remains : {m : Mode} → still m ≡ true → Enters name m
  gathers-own : {l : Level} {o : Output} → eqb (tag_of name) (tag_of_output o) ≡ true → Enters name (gathering l o)

rests_still : (m : Mode) → rests m ≡ true → still m ≡ true
rests_still (at top) h = refl
rests_still (at suite) h = refl
rests_still (at case) h = refl
rests_still (at status) h = refl
rests_still (gathering l o) h = h
rests_still (listing l) h = refl
rests_still (skipping m name depth) h = h
rests_still finished h = refl

entered : {name : List ℕ} {m : Mode} {a : Act} (c : Control) → Starts name m a → Enters name (turn a c).mode
unfolding turn
entered c (passes {n = n} h) = remains (rests_still n h)
entered c a-report = remains refl
entered c a-suite = remains refl
entered c a_case = remains refl
entered c a-status = remains refl
entered c (a-text e) = gathers-own e
entered c a-list = remains refl
entered c a-property = remains refl

-- an Empty or End opens no text
data Leaves : Act → Type 0 where
  leads : {n : Mode} → still n ≡ true → Leaves (pass n)
  opens-report : {e : Bool} → Leaves (open_report e)
  opens-suite : {e : Bool} → Leaves (open_suite e)
  opens-case : {e : Bool} → Leaves (open_case e)
  opens-status : {k : ℕ} {e : Bool} → Leaves (open_status k e)
  ends-suite : Leaves close_suite
  ends-case : Leaves close_case
  ends-status : Leaves close_status
  ends-text : {l : Level} {o : Output} → Leaves (close_text l o)
  opens-list : {l : Level} {e : Bool} → Leaves (open_list l e)
  reads-property : {l : Level} {e : Bool} {name : List ℕ} → Leaves (read_property l e name)
  stops : Leaves stop
  misses : Leaves missing

left : {a : Act} (c : Control) → still c.mode ≡ true → Leaves a → still (turn a c).mode ≡ true
unfolding turn
left c h (leads e) = e
left c h opens-report = refl
left c h opens-suite = refl
left c h opens-case = refl
left c h opens-status = refl
left c h ends-suite = refl
left c h ends-case = refl
left c h ends-status = refl
left c h ends-text = refl
left c h (opens-list {e = true}) = refl
left c h (opens-list {e = false}) = refl
left c h (reads-property {e = true}) = h
left c h (reads-property {e = false}) = refl
left c h stops = refl
left c h misses = h

abbrev whether : (b : Bool) {x y : Act} → Leaves x → Leaves y → Leaves (cond b x y)
whether b h k = either Leaves b (λ _. h) k

emptied-leaves : (l : Level) (name : List ℕ) → Leaves (emptied l name)
unfolding emptied
emptied-leaves l name = whether (eqb (tag_of name) system-out) ends-text (whether (eqb (tag_of name) system-err) ends-text (leads refl))

empty-leaves : (m : Mode) (seen : Bool) (name : List ℕ) → still m ≡ true → Leaves (plan_at m seen Empty name)
unfolding plan_at at_top at_suite at_case at_status in_list_of in_skip
empty-leaves (at top) seen name h = whether (eqb (tag_of name) testsuites) opens-report (whether (eqb (tag_of name) testsuite && seen) opens-suite (leads refl))
empty-leaves (at suite) seen name h = whether (eqb (tag_of name) testcase) opens-case (whether (eqb (tag_of name) properties) opens-list (emptied-leaves suite name))
empty-leaves (at case) seen name h = whether (is_status (tag_of name)) opens-status (whether (eqb (tag_of name) properties) opens-list (emptied-leaves case name))
empty-leaves (at status) seen name h = whether (eqb (tag_of name) stack_trace) ends-text (emptied-leaves status name)
empty-leaves (gathering l o) seen name h = absurd (false≢true h)
empty-leaves (listing l) seen name h = whether (eqb (tag_of name) property) reads-property (leads refl)
empty-leaves (skipping m over depth) seen name h = leads h
empty-leaves finished seen name h = leads refl

shallower-still : (m : Mode) (over : List ℕ) (depth : ℕ) → still m ≡ true → still (shallower m over depth) ≡ true
shallower-still m over zero h = h
shallower-still m over (suc depth) h = h

skip-still : (b : Bool) (m n : Mode) → still m ≡ true → still n ≡ true → still (cond b m n) ≡ true
skip-still true m n h k = h
skip-still false m n h k = k

end_leaves : (m : Mode) (seen : Bool) (name : List ℕ) → still m ≡ true → Leaves (plan_at m seen End name)
unfolding plan_at at_top at_suite at_case at_status in_list_of in_skip
end_leaves (at top) seen name h = whether (eqb (tag_of name) testsuites) (whether seen stops misses) (leads refl)
end_leaves (at suite) seen name h = whether (eqb (tag_of name) testsuite) ends-suite (leads refl)
end_leaves (at case) seen name h = whether (eqb (tag_of name) testcase) ends-case (leads refl)
end_leaves (at status) seen name h = whether (is_status (tag_of name)) ends-status (leads refl)
end_leaves (gathering l o) seen name h = absurd (false≢true h)
end_leaves (listing l) seen name h = whether (eqb (tag_of name) properties) (leads refl) (leads refl)
end_leaves (skipping m over depth) seen name h = leads (skip-still (same_bytes name over) (shallower m over depth) (skipping m over depth) (shallower-still m over depth h) h)
end_leaves finished seen name h = leads refl

own-end : (l : Level) (o : Output) (seen : Bool) (name : List ℕ) → eqb (tag_of name) (tag_of_output o) ≡ true → plan_at (gathering l o) seen End name ≡ close_text l o
unfolding plan_at in_text
own-end l o seen name e = rw e refl

-- the text of an output is none of the other tags'
not-output : {A : Type 0} (o : Output) (t : ℕ) → eqb t (tag_of_output o) ≡ true → is_output t ≡ false → A
not-output trace t e f = absurd (false≢true (sym f ∙ ap (λ (b : Bool). b || (eqb t system-out || eqb t system-err)) e))
not-output out t e f = absurd (false≢true (sym f ∙ ap (λ (b : Bool). eqb t stack_trace || (b || eqb t system-err)) e ∙ or-true (eqb t stack_trace)))
not-output err t e f =
    absurd (false≢true (sym f ∙ ap (λ (b : Bool). eqb t stack_trace || (eqb t system-out || b)) e
    ∙ ap (λ (b : Bool). eqb t stack_trace || b) (or-true (eqb t system-out)) ∙ or-true (eqb t stack_trace)))

-- behind each tag
abbrev after : Control → TagKind → List ℕ → Mode
after c k name = (turn (plan_at c.mode c.seen k name) c).mode

start-rest : {name : List ℕ} {j : ℕ} {xs : List Attribute} {es : List Event} {m : Mode} → Enters name m → Calm (Tag Start name j xs ∷ es) → Rest m es
start-rest (remains h) (an-event f c) = outside h c
start-rest (remains h) (an-output c) = outside h (an-event refl (an-event refl c))
start-rest {name} (gathers-own {o = o} e) (an-event f c) = not-output o (tag_of name) e f
start-rest (gathers-own e) (an-output c) = at-text refl e c

calm-rest : {e : Event} {es : List Event} → opens_output e ≡ false → Calm (e ∷ es) → Calm es
calm-rest h (an-event f c) = c
calm-rest h (an-output c) = an-event refl (an-event refl c)

pub tag-rest : (c : Control) (k : TagKind) (name : List ℕ) (j : ℕ) (xs : List Attribute) (es : List Event) → Rest c.mode (Tag k name j xs ∷ es) → Rest (after c k name) es
tag-rest c Start name j xs es (outside h a) = start-rest (entered c (starts c.mode c.seen name h)) a
tag-rest c Empty name j xs es (outside h a) = outside (left c h (empty-leaves c.mode c.seen name h)) (calm-rest refl a)
tag-rest c End name j xs es (outside h a) = outside (left c h (end_leaves c.mode c.seen name h)) (calm-rest refl a)
tag-rest c End name j xs es (at-end {l = l} {o = o} e f a) =
    outside (ap (λ (m : Mode). still (turn (plan_at m c.seen End name) c).mode) e ∙ ap (λ (x : Act). still (turn x c).mode) (own-end l o c.seen name f) ∙ unfold turn in refl) a

pub piece-rest : {m : Mode} {k : PieceKind} {s : List ℕ} {es : List Event} → Rest m (Piece k s ∷ es) → Rest m es
piece-rest (outside h (an-event f c)) = outside h c
piece-rest (at-text e f c) = at-end e f c

pub start-still : {m : Mode} {name : List ℕ} {j : ℕ} {xs : List Attribute} {es : List Event} → Rest m (Tag Start name j xs ∷ es) → still m ≡ true
start-still (outside h c) = h
