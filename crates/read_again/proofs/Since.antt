-- A step keeps what is known of an open description: from its first piece on, what is told is what it has and what is to come. Assumes nothing.
use Prim.Native.Nat.{ℕ, ◌+◌, ◌-◌, ◌<◌}
use mathlib.Core.Path.{◌≡◌, refl, sym, ap, subst, ◌∙◌}
use mathlib.Core.List.{List, [], ◌∷◌, ◌++◌, append-nil}
use mathlib.Core.Bool.{Bool, true, false, cond}
use mathlib.Core.Logic.{◌⊎◌, inl, inr}
use native.Mathlib.Omega.{arith}
use Rattle.read_pieces.specs.of_refusal.Refusal.{Outcome, accepted}
use Rattle.read_pieces.specs.of_refusal.declared.Cause.TheVariants as cause
use Rattle.read_pieces.specs.of_table.Table.{count_of}
use Rattle.read_pieces.specs.of_table.Event.{Attribute, TagKind, PieceKind, Event, Tag, Piece, Eof, Fault, event_at}
use Rattle.read_pieces.proofs.of_table.Resolving.{resolve-next}
use Rattle.read_pieces.specs.of_read_element.Outcome.{◌>>=◌, Rooms, Place}
use Rattle.read_pieces.specs.of_read_element.Attributes.{read_element, Grown}
use Rattle.read_pieces.proofs.of_read_element.TreeOutcome.{Holds, accept, refuse, held, bind, weaken, needed, answered, either}
use Rattle.read_pieces.specs.of_read_state.Control.{top, suite, case, status, Mode, at, gathering, listing, skipping, finished, gathers}
use Rattle.read_pieces.specs.of_read_state.Control.{Act, pass, open_report, open_suite, open_case, open_status, close_suite, close_case, close_status, open_text, close_text, open_list, read_property, stop, missing, broken}
use Rattle.read_pieces.specs.of_read_rules.Rules.{plan_at, plan_eof, plan_fault}
use Rattle.read_pieces.specs.of_read_place.Marks.{Marks}
use Rattle.read_pieces.specs.of_trim.Trim.{trimmed}
use Rattle.read_machine.specs.of_table_events.Skip.{next, skip_of}
use Rattle.read_machine.specs.of_read_content.Content.{Content, is_empty, with_texts, piece_of, join_piece, gather, keeping, describing, adding, perform}
use Rattle.read_machine.specs.Machine.{Machine, act, step}
use Rattle.read_again.specs.Told.{told}
use Rattle.read_again.specs.inside.Turns.{rest}
use Rattle.read_again.specs.inside.Since.{inside, Since}
use Rattle.read_again.proofs.Turning.{skip-told, behind}
use Rattle.read_again.proofs.Telling.{Tells, plan-unseen, piece-tells, tag-tells, outputs-keep, close-tells}

never : false ≡ true → ⊥
never e = let z : ◌≡◌ {A = ℕ} 0 1 = cc in omega arith

-- ---- no act begins a description, and a status element's End ends it
module _ (rooms : Rooms) where
  abbrev Same : Content → Content → Type 0
  Same c d = d.description ≡ c.description

  adds : (p : Place) (k j : ℕ) (xs : List Attribute) (c : Content) → Holds (Same c) (adding rooms p k j xs c)
  unfolding adding ◌>>=◌
  adds p k j xs c = go (read_element rooms p k j xs c.records c.texts)
    where
      go : (o : Outcome Grown) → Holds (Same c) (o >>= λ g. accepted (record { records = g.records; texts = g.texts; description = c.description; gathered = c.gathered }))
      go (accepted g) = accept refl
      go (Rattle.read_pieces.specs.of_refusal.Refusal.refused r) = refuse

  ends : (p : Place) (m : Marks) (c : Content) → Holds (λ (d : Content). d.description ≡ []) (describing rooms p m c)
  unfolding describing ◌>>=◌
  ends p m c = go (is_empty (trimmed c.description)) (keeping rooms p true m.status_at_of 20 6 c.description c)
    where
      go : (b : Bool) (o : Outcome Content) → Holds (λ (d : Content). d.description ≡ []) (cond b (accepted (with_texts c [] [])) (o >>= λ d. accepted (with_texts d [] [])))
      go true o = accept refl
      go false (accepted d) = accept refl
      go false (Rattle.read_pieces.specs.of_refusal.Refusal.refused r) = refuse

  pub act-empty : (a : Act) (j : ℕ) (xs : List Attribute) (s : Machine) → s.content.description ≡ [] → Holds (λ (t : Machine). t.content.description ≡ []) (act rooms a j xs s)
  unfolding act perform ◌>>=◌
  act-empty (pass m) j xs s h = accept h
  act-empty (open_report e) j xs s h = bind (adds _ 1 j xs _) λ c q. accept (q ∙ h)
  act-empty (open_suite e) j xs s h = bind (adds _ 2 j xs _) λ c q. accept (q ∙ h)
  act-empty (open_case e) j xs s h = bind (adds _ 3 j xs _) λ c q. accept (q ∙ h)
  act-empty (open_status k e) j xs s h = bind (adds _ k j xs _) λ c q. accept (q ∙ h)
  act-empty close_suite j xs s h = accept h
  act-empty close_case j xs s h = bind {Q = λ c. c.description ≡ []} (needed _ _ cause.StatusRule λ z. accept h) λ c q. accept q
  act-empty close_status j xs s h = bind (ends _ s.marks s.content) λ c q. accept q
  act-empty (open_text l o) j xs s h = accept h
  act-empty (close_text l o) j xs s h = bind (outputs-keep rooms [] _ l o s.marks s.content) λ c q. accept (q ∙ h)
  act-empty (open_list l e) j xs s h = accept h
  act-empty (read_property l e name) j xs s h = bind (adds _ _ j xs _) λ c q. accept (q ∙ h)
  act-empty stop j xs s h = accept h
  act-empty missing j xs s h = refuse
  act-empty (broken why) j xs s h = refuse

  pub act-ends : (j : ℕ) (xs : List Attribute) (s : Machine) → Holds (λ (t : Machine). t.content.description ≡ []) (act rooms close_status j xs s)
  unfolding act perform ◌>>=◌
  act-ends j xs s = bind (ends _ s.marks s.content) λ c q. accept q

  -- ---- one step, where nothing is described yet
  joins : (m : Mode) (v : List ℕ) (c : Content) → gathers m ≡ true → (m ≡ at status → ⊥) → (join_piece m v c).description ≡ c.description
  unfolding gathers
  joins (at top) v c g n = absurd (never g)
  joins (at suite) v c g n = absurd (never g)
  joins (at case) v c g n = absurd (never g)
  joins (at status) v c g n = absurd (n refl)
  joins (gathering l o) v c g n = refl
  joins (listing l) v c g n = refl
  joins (skipping m name depth) v c g n = refl
  joins finished v c g n = refl

  piece_keeps : (k : PieceKind) (b : List ℕ) (s : Machine) → (s.control.mode ≡ at status → ⊥) → Holds (λ (t : Machine). t.content.description ≡ s.content.description) (step rooms (Piece k b) s)
  unfolding step gather
  piece_keeps k b s n =
      bind {Q = λ c. c.description ≡ s.content.description} (either (gathers s.control.mode)
      (λ g. bind (answered _ (piece_of k b)) λ v e. needed _ _ cause.ScratchFull λ z. accept {a = join_piece s.control.mode v s.content} (joins s.control.mode v s.content g n))
      (λ g. accept {a = s.content} refl)) λ c q. accept q

  -- behind an event that begins with no description
  abbrev Begins : Event → List Event → Machine → Type 0
  Begins e es t = (t.content.description ≡ []) ⊎ ((inside t.control.mode ≡ true) × (told (at status) (e ∷ es) ≡ t.content.description ++ told t.control.mode es))

  begin-piece : (k : PieceKind) (b : List ℕ) (es : List Event) (s : Machine) → s.content.description ≡ []
      → (m : Mode) → s.control.mode ≡ m → Holds (Begins (Piece k b) es) (step rooms (Piece k b) s)
  begin-piece k b es s h (at status) q =
      weaken (piece-tells rooms es k b s (ap inside q)) λ t x.
      inr (x.stands, ap (λ (m : Mode). told m (Piece k b ∷ es)) (sym q) ∙ ap (λ (d : List ℕ). d ++ told s.control.mode (Piece k b ∷ es)) (sym h) ∙ x.same)
  begin-piece k b es s h (at top) q = weaken (piece_keeps k b s (λ z. never (ap inside (sym q ∙ z)))) λ t x. inl (x ∙ h)
  begin-piece k b es s h (at suite) q = weaken (piece_keeps k b s (λ z. never (ap inside (sym q ∙ z)))) λ t x. inl (x ∙ h)
  begin-piece k b es s h (at case) q = weaken (piece_keeps k b s (λ z. never (ap inside (sym q ∙ z)))) λ t x. inl (x ∙ h)
  begin-piece k b es s h (gathering l o) q = weaken (piece_keeps k b s (λ z. let y : ◌≡◌ {A = ℕ} 0 1 = cc in omega arith)) λ t x. inl (x ∙ h)
  begin-piece k b es s h (listing l) q = weaken (piece_keeps k b s (λ z. let y : ◌≡◌ {A = ℕ} 0 1 = cc in omega arith)) λ t x. inl (x ∙ h)
  begin-piece k b es s h (skipping m name depth) q = weaken (piece_keeps k b s (λ z. let y : ◌≡◌ {A = ℕ} 0 1 = cc in omega arith)) λ t x. inl (x ∙ h)
  begin-piece k b es s h finished q = weaken (piece_keeps k b s (λ z. let y : ◌≡◌ {A = ℕ} 0 1 = cc in omega arith)) λ t x. inl (x ∙ h)

  pub step-begins : (e : Event) (es : List Event) (s : Machine) → s.content.description ≡ [] → Holds (Begins e es) (step rooms e s)
  unfolding step
  step-begins (Piece k b) es s h = begin-piece k b es s h s.control.mode refl
  step-begins (Tag k name j xs) es s h = weaken (act-empty (plan_at s.control.mode s.control.seen k name) j xs s h) λ t x. inl x
  step-begins Eof es s h = weaken (act-empty (plan_eof s.control.mode s.control.seen s.control.closed) 0 [] s h) λ t x. inl x
  step-begins Fault es s h = weaken (act-empty (plan_fault s.control.mode) 0 [] s h) λ t x. inl x

  -- ---- one step inside a status element
  abbrev Goes : Event → List Event → Machine → Machine → Type 0
  Goes e es s t =
      (t.content.description ≡ [])
      ⊎ ((inside t.control.mode ≡ true) × (s.content.description ++ told s.control.mode (e ∷ es) ≡ t.content.description ++ told t.control.mode es))

  eof-broken : (m : Mode) (seen closed : Bool) (s : Machine) {Q : Machine → Type 0} → inside m ≡ true → Holds Q (act rooms (plan_eof m seen closed) 0 [] s)
  unfolding act perform plan_eof ◌>>=◌
  eof-broken (at top) seen closed s h = absurd (never h)
  eof-broken (at suite) seen closed s h = absurd (never h)
  eof-broken (at case) seen closed s h = absurd (never h)
  eof-broken (at status) seen closed s h = refuse
  eof-broken (gathering l o) seen closed s h = refuse
  eof-broken (listing l) seen closed s h = absurd (never h)
  eof-broken (skipping m name depth) seen closed s h = refuse
  eof-broken finished seen closed s h = absurd (never h)

  fault-broken : (m : Mode) (s : Machine) {Q : Machine → Type 0} → inside m ≡ true → Holds Q (act rooms (plan_fault m) 0 [] s)
  unfolding act perform plan_fault ◌>>=◌
  fault-broken (at l) s h = refuse
  fault-broken (gathering l o) s h = refuse
  fault-broken (listing l) s h = absurd (never h)
  fault-broken (skipping m name depth) s h = refuse
  fault-broken finished s h = absurd (never h)

  pub step-goes : (e : Event) (es : List Event) (s : Machine) → inside s.control.mode ≡ true → Holds (Goes e es s) (step rooms e s)
  unfolding step
  step-goes (Piece k b) es s h = weaken (piece-tells rooms es k b s h) λ t x. inr (x.stands, x.same)
  step-goes (Tag k name j xs) es s h = go (tag-tells rooms es k name j xs s h)
    where
      go : (plan_at s.control.mode true k name ≡ close_status)
          ⊎ Holds (Tells rooms es s (told s.control.mode (Tag k name j xs ∷ es))) (act rooms (plan_at s.control.mode s.control.seen k name) j xs s)
          → Holds (Goes (Tag k name j xs) es s) (act rooms (plan_at s.control.mode s.control.seen k name) j xs s)
      go (inl q) =
          subst (λ (a : Act). Holds (Goes (Tag k name j xs) es s) (act rooms a j xs s)) (sym (plan-unseen s.control.mode s.control.seen k name h ∙ q))
          (weaken (act-ends j xs s) λ t x. inl x)
      go (inr x) = weaken x λ t y. inr (y.stands, y.same)
  step-goes Eof es s h = eof-broken s.control.mode s.control.seen s.control.closed s h
  step-goes Fault es s h = fault-broken s.control.mode s h

-- ---- the events of a table: `first` is the number of the event at hand as long as nothing is described
module _ (events attributes source : List ℕ) (s : Machine) (first : ℕ) (h : s.marks.event < count_of events) where
  abbrev e : Event
  e = event_at events attributes source s.marks.event

  abbrev es : List Event
  es = rest events attributes source (s.marks.event + 1)

  next-is : rest events attributes source s.marks.event ≡ event_at events attributes source s.marks.event ∷ rest events attributes source (s.marks.event + 1)
  next-is = resolve-next events attributes source (count_of events) s.marks.event h

  -- one event
  pub since-steps : (rooms : Rooms) (t : Machine) → step rooms (event_at events attributes source s.marks.event) s ≡ accepted t → t.marks.event ≡ s.marks.event + 1
      → Since events attributes source first s → Since events attributes source (cond (is_empty s.content.description) s.marks.event first) t
  since-steps rooms t q n = go s.content.description refl
    where
      there : told t.control.mode (rest events attributes source (s.marks.event + 1)) ≡ told t.control.mode (rest events attributes source t.marks.event)
      there = ap (λ (i : ℕ). told t.control.mode (rest events attributes source i)) (sym n)

      begun : Begins rooms e es t → Since events attributes source s.marks.event t
      begun (inl x) = inl x
      begun (inr (i, w)) = inr (i, ap (told (at status)) next-is ∙ w ∙ ap (λ (l : List ℕ). t.content.description ++ l) there)

      gone : told (at status) (rest events attributes source first) ≡ s.content.description ++ told s.control.mode (rest events attributes source s.marks.event)
          → Goes rooms e es s t → Since events attributes source first t
      gone w (inl x) = inl x
      gone w (inr (i, y)) =
          inr (i, w ∙ ap (λ (l : List Event). s.content.description ++ told s.control.mode l) next-is ∙ y ∙ ap (λ (l : List ℕ). t.content.description ++ l) there)

      go : (d : List ℕ) → s.content.description ≡ d → Since events attributes source first s → Since events attributes source (cond (is_empty d) s.marks.event first) t
      go [] z x = begun (held (subst (Holds (Begins rooms e es)) q (step-begins rooms e es s z)))
      go (b ∷ d) z (inl x) = absurd (let y : ◌≡◌ {A = ℕ} 0 1 = cc in omega arith)
      go (b ∷ d) z (inr (i, w)) = gone w (held (subst (Holds (Goes rooms e es s)) q (step-goes rooms e es s i)))

  module _ (k : TagKind) (name : List ℕ) (j : ℕ) (xs : List Attribute) (tag : event_at events attributes source s.marks.event ≡ Tag k name j xs) where
    told_is : told s.control.mode (rest events attributes source s.marks.event) ≡ told s.control.mode (Tag k name j xs ∷ rest events attributes source (s.marks.event + 1))
    told_is = ap (told s.control.mode) (next-is ∙ ap (λ (x : Event). x ∷ rest events attributes source (s.marks.event + 1)) tag)

    -- the End of a status element: what is told from the first piece on is the description
    pub since-closes : plan_at s.control.mode true k name ≡ close_status → Since events attributes source first s
        → (s.content.description ≡ []) ⊎ (told (at status) (rest events attributes source first) ≡ s.content.description)
    since-closes p (inl x) = inl x
    since-closes p (inr (i, w)) =
        inr (w ∙ ap (λ (l : List ℕ). s.content.description ++ l) (told_is ∙ close-tells s.control.mode k name j xs (rest events attributes source (s.marks.event + 1)) p)
        ∙ append-nil s.content.description)

-- an element that is passed over, up to event n
pub since-skipped : (events attributes source : List ℕ) (first : ℕ) (m : Mode) (name : List ℕ) (start n : ℕ) (s t : Machine) → start < count_of events
    → s.control.mode ≡ skipping m name 0 → s.marks.event ≡ start + 1 → skip_of name 0 (start + 1) (rest events attributes source (start + 1)) ≡ next n
    → t.content ≡ s.content → t.control.mode ≡ m → t.marks.event ≡ n → Since events attributes source first s → Since events attributes source first t
since-skipped events attributes source first m name start n s t h sm se q c tm te (inl x) = inl (ap (λ (d : Content). d.description) c ∙ x)
since-skipped events attributes source first m name start n s t h sm se q c tm te (inr (i, w)) =
    inr (
      ap inside tm ∙ sym (ap inside sm) ∙ i,
      w ∙ ap (λ (y : Mode). s.content.description ++ told y (rest events attributes source s.marks.event)) sm
          ∙ ap (λ (x : ℕ). s.content.description ++ told (skipping m name 0) (rest events attributes source x)) se
          ∙ ap (λ (l : List ℕ). s.content.description ++ l)
          (skip-told events attributes source m name (count_of events) (count_of events - (start + 1)) (start + 1) 0 (omega arith)
          ∙ ap (behind events attributes source m name (count_of events)) q)
          ∙ ap (λ (d : Content). d.description ++ told m (rest events attributes source n)) (sym c)
          ∙ ap (λ (y : Mode). t.content.description ++ told y (rest events attributes source n)) (sym tm)
          ∙ ap (λ (x : ℕ). t.content.description ++ told t.control.mode (rest events attributes source x)) (sym te),
    )
