-- On values: outside of status elements nothing is gathered but in an output. Assumes nothing.
use Prim.Native.Nat.{ℕ}
use mathlib.Core.Bool.{Bool, true, false, cond}
use mathlib.Core.List.{List, []}
use mathlib.Core.Path.{◌≡◌, refl, subst, ◌∙◌}
use Rattle.read_report.specs.of_trim.Trim.{trimmed}
use Rattle.read_report.specs.of_refusal.Refusal.{accepted}
use Rattle.read_report.specs.of_refusal.declared.Cause.TheVariants as cause
use Rattle.read_report.specs.of_table.Event.{Attribute, Event, Tag, Piece, Eof, Fault}
use Rattle.read_report.specs.of_tree_status.declared.Tally.{Tally}
use Rattle.read_report.specs.of_tree_status.Status.{ruled}
use Rattle.read_report.specs.of_read_element.Outcome.{◌>>=◌, Place, Rooms}
use Rattle.read_report.proofs.of_read_element.TreeOutcome.{Holds, accept, refuse, bind, needed, either}
use Rattle.read_report.specs.of_read_state.Control.{Level, top, suite, case, status, Output, Mode, at, gathering, listing, skipping, finished, control, Act, gathers, turn}
use Rattle.read_report.specs.of_read_place.Marks.{Marks}
use Rattle.read_report.specs.of_read_content.Content.{cleaned, is_empty}
use Rattle.read_report.specs.Deserialize.{storing, Draft, with_texts, put, join_piece, describing, perform, gather, Reader, act, step}
use Rattle.read_report.proofs.of_read_machine.TreePlans.{Planned, stays, skips, skips_on, returns, listed, reports, suites, stops, misses, breaks, cases, suite-ends, suite-list}
use Rattle.read_spelling.proofs.Bare.{any}
use Rattle.read_report.proofs.of_read_machine.TreePlans.{statuses, case-ends, case-list, status-ends, texts, texts-empty, text-ends, properties-read, tag-plan, eof-plan, fault-plan}

abbrev Nothing : Draft → Type 0
Nothing c = (c.description ≡ []) × (c.text ≡ [])

abbrev Inside : Level → Draft → Type 0
Inside top c = Nothing c
Inside suite c = Nothing c
Inside case c = Nothing c
Inside status c = c.text ≡ []

-- while a text is gathered
abbrev Gathering : Level → Draft → Type 0
Gathering top c = c.description ≡ []
Gathering suite c = c.description ≡ []
Gathering case c = c.description ≡ []
Gathering status c = Unit {0}

abbrev pub Bare : Mode → Draft → Type 0
Bare (at l) c = Inside l c
Bare (gathering l o) c = Gathering l c
Bare (listing l) c = Nothing c
Bare (skipping m name depth) c = Bare m c
Bare finished c = Unit {0}

inside : (l : Level) (c : Draft) → Nothing c → Inside l c
inside top c n = n
inside suite c n = n
inside case c n = n
inside status c n = n.1

opened : (l : Level) (c : Draft) → Inside l c → Gathering l c
opened top c n = n.0
opened suite c n = n.0
opened case c n = n.0
opened status c n = tt

closed : (l : Level) (c d : Draft) → d.description ≡ c.description → d.text ≡ [] → Gathering l c → Inside l d
closed top c d a b g = (a ∙ g, b)
closed suite c d a b g = (a ∙ g, b)
closed case c d a b g = (a ∙ g, b)
closed status c d a b g = b

-- ---- what actions leave
abbrev reader : Mode → Bool → Bool → Tally → Marks → Draft → Reader
reader m seen closed t k c = record { control = control m seen closed t; draft = c; marks = k }

abbrev pub BareReader : Reader → Type 0
BareReader s = Bare s.control.mode s.draft

-- ---- pieces
false-true : ◌≡◌ {A = Bool} false true → ⊥
false-true e = subst (λ (b : Bool). cond b ⊥ (Unit {0})) e tt

joins : (m : Mode) (v : List ℕ) (c : Draft) → gathers m ≡ true → Bare m c → Bare m (join_piece m v c)
unfolding gathers
joins (at top) v c g b = absurd (false-true g)
joins (at suite) v c g b = absurd (false-true g)
joins (at case) v c g b = absurd (false-true g)
joins (at status) v c g b = b
joins (gathering top o) v c g b = b
joins (gathering suite o) v c g b = b
joins (gathering case o) v c g b = b
joins (gathering status o) v c g b = tt
joins (listing l) v c g b = b
joins (skipping m name depth) v c g b = b
joins finished v c g b = b

module _ (rooms : Rooms) where
  describing-ends : (p : Place) (c : Draft) → Holds Nothing (describing rooms p c)
  describing-ends p c = either (is_empty (trimmed c.description)) (λ e. accept (refl, refl)) (λ e. bind (any _) λ d u. accept (refl, refl))

  text-ends-bare : (p : Place) (l : Level) (o : Output) (c : Draft) → Gathering l c
      → Holds (Inside l) (storing rooms p (cleaned c.text) c.used >>= λ u. accepted (with_texts (put l o (cleaned c.text) c u) c.description []))
  text-ends-bare p l o c b = bind (any _) λ u w. accept (closed l c (with_texts (put l o (cleaned c.text) c u) c.description []) refl refl b)

  performed : {m : Mode} {seen : Bool} {a : Act} (p : Place) (over : Bool) (t : Tally) (c : Draft) (j : ℕ) (xs : List Attribute)
      → Planned seen m a → Bare m c → Holds (Bare (turn a (control m seen over t)).mode) (perform rooms p a j xs (control m seen over t) c)
  unfolding perform turn
  performed p over t c j xs stays b = accept b
  performed p over t c j xs skips b = accept b
  performed p over t c j xs skips_on b = accept b
  performed p over t c j xs returns b = accept b
  performed p over t c j xs (listed {l = l}) b = accept (inside l c b)
  performed p over t c j xs reports b = bind (any _) λ x u. accept b
  performed p over t c j xs (suites {e = true} z) b = bind (any _) λ x u. accept b
  performed p over t c j xs (suites {e = false} z) b = bind (any _) λ x u. accept b
  performed p over t c j xs (stops z) b = accept tt
  performed p over t c j xs misses b = refuse
  performed p over t c j xs breaks b = refuse
  performed p over t c j xs (cases {e = true}) b = bind (any _) λ x u. accept b
  performed p over t c j xs (cases {e = false}) b = bind (any _) λ x u. accept b
  performed p over t c j xs suite-ends b = accept b
  performed p over t c j xs (suite-list {e = true}) b = accept b
  performed p over t c j xs (suite-list {e = false}) b = accept b
  performed p over t c j xs (statuses {e = true} z) b = bind (any _) λ x u. accept b
  performed p over t c j xs (statuses {e = false} z) b = bind (any _) λ x u. accept b.1
  performed p over t c j xs case-ends b = needed (ruled t) p cause.StatusRule λ z. accept b
  performed p over t c j xs (case-list {e = true}) b = accept b
  performed p over t c j xs (case-list {e = false}) b = accept b
  performed p over t c j xs status-ends b = describing-ends p c
  performed p over t c j xs (texts {l = l} g) b = accept (opened l c b)
  performed p over t c j xs (texts-empty {l = l} {o = o} g) b = text-ends-bare p l o c (opened l c b)
  performed p over t c j xs (text-ends {l = l} {o = o}) b = text-ends-bare p l o c b
  performed p over t c j xs (properties-read {e = true}) b = bind (any _) λ x u. accept b
  performed p over t c j xs (properties-read {e = false}) b = bind (any _) λ x u. accept b

  acted : {m : Mode} {seen : Bool} {a : Act} (over : Bool) (t : Tally) (k : Marks) (c : Draft) (j : ℕ) (xs : List Attribute)
      → Planned seen m a → Bare m c → Holds BareReader (act rooms a j xs (reader m seen over t k c))
  unfolding act
  acted over t k c j xs q b = bind (performed _ over t c j xs q b) λ d h. accept h

  -- ---- steps
  pub stepped : (e : Event) (s : Reader) → BareReader s → Holds BareReader (step rooms e s)
  unfolding step gather
  stepped (Tag k tag j xs) s b =
      acted s.control.closed s.control.tally s.marks s.draft j xs (tag-plan s.control.mode s.control.seen k tag) b
  stepped (Piece k bytes) s b =
      bind {Q = Bare s.control.mode}
      (either (gathers s.control.mode) (λ g. bind (any _) λ v u. needed _ _ cause.ScratchFull λ z. accept (joins s.control.mode v s.draft g b)) (λ z. accept b))
      λ c q. accept q
  stepped Eof s b = acted s.control.closed s.control.tally s.marks s.draft 0 [] (eof-plan s.control.mode s.control.seen s.control.closed) b
  stepped Fault s b = acted s.control.closed s.control.tally s.marks s.draft 0 [] (fault-plan s.control.mode) b
