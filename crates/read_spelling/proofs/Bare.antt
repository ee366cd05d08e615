-- Outside of status elements nothing is gathered but in an output. Assumes nothing.
use Prim.Native.Nat.{ℕ}
use mathlib.Core.Bool.{Bool, true, false, cond}
use mathlib.Core.List.{List, []}
use mathlib.Core.Path.{◌≡◌, refl, subst, ◌∙◌}
use Rattle.read_report.specs.of_trim.Trim.{trimmed}
use Rattle.read_report.specs.of_refusal.Refusal.{Outcome, accepted, refused}
use Rattle.read_report.specs.of_refusal.declared.Cause.TheVariants as cause
use Rattle.read_report.specs.of_table.Event.{Attribute, Event, Tag, Piece, Eof, Fault}
use Rattle.read_report.specs.of_tree_status.declared.Tally.{Tally}
use Rattle.read_report.specs.of_tree_status.Status.{ruled}
use Rattle.read_report.specs.of_read_element.Outcome.{◌>>=◌, Place, Rooms}
use Rattle.read_report.proofs.of_read_element.TreeOutcome.{Holds, accept, refuse, bind, needed, either}
use Rattle.read_report.specs.of_read_state.Control.{Level, top, suite, case, status, Output, Mode, at, gathering, listing, skipping, finished, control, Act, gathers, turn}
use Rattle.read_report.specs.of_read_place.Marks.{Marks}
use Rattle.read_report.specs.of_read_content.Content.{Content, join_piece, gather, adding, keeping, is_empty, describing, outputting, perform}
use Rattle.read_report.specs.of_read_machine.Machine.{Machine, act, step}
use Rattle.read_report.proofs.of_read_machine.TreePlans.{Planned, stays, skips, skips_on, returns, listed, reports, suites, stops, misses, breaks, cases, suite-ends, suite-list}
use Rattle.read_report.proofs.of_read_machine.TreePlans.{statuses, case-ends, case-list, status-ends, texts, texts-empty, text-ends, properties-read, tag-plan, eof-plan, fault-plan}

abbrev Nothing : Content → Type 0
Nothing c = (c.description ≡ []) × (c.gathered ≡ [])

abbrev Inside : Level → Content → Type 0
Inside top c = Nothing c
Inside suite c = Nothing c
Inside case c = Nothing c
Inside status c = c.gathered ≡ []

-- while a text is gathered
abbrev Gathering : Level → Content → Type 0
Gathering top c = c.description ≡ []
Gathering suite c = c.description ≡ []
Gathering case c = c.description ≡ []
Gathering status c = Unit {0}

abbrev pub Bare : Mode → Content → Type 0
Bare (at l) c = Inside l c
Bare (gathering l o) c = Gathering l c
Bare (listing l) c = Nothing c
Bare (skipping m name depth) c = Bare m c
Bare finished c = Unit {0}

inside : (l : Level) (c : Content) → Nothing c → Inside l c
inside top c n = n
inside suite c n = n
inside case c n = n
inside status c n = n.1

opened : (l : Level) (c : Content) → Inside l c → Gathering l c
opened top c n = n.0
opened suite c n = n.0
opened case c n = n.0
opened status c n = tt

closed : (l : Level) (c d : Content) → d.description ≡ c.description → d.gathered ≡ [] → Gathering l c → Inside l d
closed top c d a b g = (a ∙ g, b)
closed suite c d a b g = (a ∙ g, b)
closed case c d a b g = (a ∙ g, b)
closed status c d a b g = b

-- ---- what actions leave
abbrev pub Any : {A : Type 0} → A → Type 0
Any a = Unit {0}

pub any : {A : Type 0} (m : Outcome A) → Holds Any m
any (accepted a) = accept tt
any (refused r) = refuse

abbrev Kept : Content → Content → Type 0
Kept c d = (d.description ≡ c.description) × (d.gathered ≡ c.gathered)

kept : (c d : Content) → Kept c d → Nothing c → Nothing d
kept c d k n = (k.0 ∙ n.0, k.1 ∙ n.1)

abbrev machine : Mode → Bool → Bool → Tally → Marks → Content → Machine
machine m seen closed t k c = record { control = control m seen closed t; content = c; marks = k }

abbrev pub BareMachine : Machine → Type 0
BareMachine s = Bare s.control.mode s.content

-- ---- pieces
false-true : ◌≡◌ {A = Bool} false true → ⊥
false-true e = subst (λ (b : Bool). cond b ⊥ (Unit {0})) e tt

joins : (m : Mode) (v : List ℕ) (c : Content) → gathers m ≡ true → Bare m c → Bare m (join_piece m v c)
unfolding gathers
joins (at top) v c g b = absurd (false-true g)
joins (at suite) v c g b = absurd (false-true g)
joins (at case) v c g b = absurd (false-true g)
joins (at status) v c g b = b
joins (gathering top o) v c g b = b
joins (gathering suite o) v c g b = b
joins (gathering case o) v c g b = b
joins (gathering status o) v c g b = tt
joins (listing l) v c g b = b
joins (skipping m name depth) v c g b = b
joins finished v c g b = b

module _ (rooms : Rooms) where
  adding-keeps : (p : Place) (kind j : ℕ) (xs : List Attribute) (c : Content) → Holds (Kept c) (adding rooms p kind j xs c)
  unfolding adding
  adding-keeps p kind j xs c = bind (any _) λ g u. accept (refl, refl)

  keeping-keeps : (p : Place) (b : Bool) (i o k : ℕ) (v : List ℕ) (c : Content) → Holds (λ (d : Content). d.description ≡ c.description) (keeping rooms p b i o k v c)
  unfolding keeping
  keeping-keeps p b i o k v c = needed _ p cause.TextFull λ z. accept refl

  outputting-ends : (p : Place) (l : Level) (o : Output) (m : Marks) (c : Content) → Holds (λ (d : Content). (d.description ≡ c.description) × (d.gathered ≡ [])) (outputting rooms p l o m c)
  unfolding outputting
  outputting-ends p l o m c = bind (keeping-keeps p _ _ _ _ _ c) λ d e. accept (e, refl)

  describing-ends : (p : Place) (m : Marks) (c : Content) → Holds Nothing (describing rooms p m c)
  unfolding describing
  describing-ends p m c = either (is_empty (trimmed c.description)) (λ e. accept (refl, refl)) (λ e. bind (any _) λ d u. accept (refl, refl))

  acted : {m : Mode} {seen : Bool} {a : Act} (closed : Bool) (t : Tally) (k : Marks) (c : Content) (j : ℕ) (xs : List Attribute)
      → Planned seen m a → Bare m c → Holds BareMachine (act rooms a j xs (machine m seen closed t k c))
  unfolding act perform turn ◌>>=◌
  acted over t k c j xs stays b = accept b
  acted over t k c j xs skips b = accept b
  acted over t k c j xs skips_on b = accept b
  acted over t k c j xs returns b = accept b
  acted over t k c j xs (listed {l = l}) b = accept (inside l c b)
  acted over t k c j xs reports b = bind (adding-keeps _ _ j xs _) λ d q. accept (kept c d q b)
  acted over t k c j xs (suites {e = true} z) b = bind (adding-keeps _ _ j xs _) λ d q. accept (kept c d q b)
  acted over t k c j xs (suites {e = false} z) b = bind (adding-keeps _ _ j xs _) λ d q. accept (kept c d q b)
  acted over t k c j xs (stops z) b = accept tt
  acted over t k c j xs misses b = refuse
  acted over t k c j xs breaks b = refuse
  acted over t k c j xs (cases {e = true}) b = bind (adding-keeps _ _ j xs _) λ d q. accept (kept c d q b)
  acted over t k c j xs (cases {e = false}) b = bind (adding-keeps _ _ j xs _) λ d q. accept (kept c d q b)
  acted over t k c j xs suite-ends b = accept b
  acted over t k c j xs (suite-list {e = true}) b = accept b
  acted over t k c j xs (suite-list {e = false}) b = accept b
  acted over t k c j xs (statuses {e = true} z) b = bind (adding-keeps _ _ j xs _) λ d q. accept (kept c d q b)
  acted over t k c j xs (statuses {e = false} z) b = bind (adding-keeps _ _ j xs _) λ d q. accept (kept c d q b).1
  acted over t k c j xs case-ends b = bind {Q = Nothing} (needed (ruled t) _ cause.StatusRule λ z. accept b) λ d q. accept q
  acted over t k c j xs (case-list {e = true}) b = accept b
  acted over t k c j xs (case-list {e = false}) b = accept b
  acted over t k c j xs status-ends b = bind (describing-ends _ k c) λ d q. accept q
  acted over t k c j xs (texts {l = l} g) b = accept (opened l c b)
  acted over t k c j xs (texts-empty {l = l} {o = o} g) b = bind (outputting-ends _ l o k c) λ d q. accept (closed l c d q.0 q.1 (opened l c b))
  acted over t k c j xs (text-ends {l = l} {o = o}) b = bind (outputting-ends _ l o k c) λ d q. accept (closed l c d q.0 q.1 b)
  acted over t k c j xs (properties-read {e = true}) b = bind (adding-keeps _ _ j xs _) λ d q. accept (kept c d q b)
  acted over t k c j xs (properties-read {e = false}) b = bind (adding-keeps _ _ j xs _) λ d q. accept (kept c d q b)

  -- ---- steps
  pub stepped : (e : Event) (s : Machine) → BareMachine s → Holds BareMachine (step rooms e s)
  unfolding step gather
  stepped (Tag k tag j xs) s b =
      acted s.control.closed s.control.tally s.marks s.content j xs (tag-plan s.control.mode s.control.seen k tag) b
  stepped (Piece k bytes) s b =
      bind {Q = Bare s.control.mode}
      (either (gathers s.control.mode) (λ g. bind (any _) λ v u. needed _ _ cause.ScratchFull λ z. accept (joins s.control.mode v s.content g b)) (λ z. accept b))
      λ c q. accept q
  stepped Eof s b = acted s.control.closed s.control.tally s.marks s.content 0 [] (eof-plan s.control.mode s.control.seen s.control.closed) b
  stepped Fault s b = acted s.control.closed s.control.tally s.marks s.content 0 [] (fault-plan s.control.mode) b
