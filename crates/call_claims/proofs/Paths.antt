-- Reading refuses with a path of at most six elements. Assumes nothing.
use Prim.Native.Nat.{ℕ, ◌≤◌}
use mathlib.Core.Path.{◌≡◌, refl, sym, ap, ◌∙◌}
use mathlib.Core.List.{List, [], ◌∷◌}
use mathlib.Core.Bool.{Bool, true, false, true≢false}
use native.Mathlib.Omega.{arith}
use lib.ListN.{length}
use Rattle.explain_text.specs.of_refusal.Refusal.{nowhere, Refused, Outcome, accepted, refused}
use Rattle.explain_text.specs.of_refusal.declared.Cause.TheVariants as cause
use Rattle.explain_text.specs.of_table.Event.{Attribute, PieceKind, Event, Tag, Piece, Eof, Fault}
use Rattle.xml_listing.specs.of_read_element.Outcome.{◌>>=◌, Place, Rooms}
use Rattle.xml_listing.specs.of_read_state.Control.{Level, top, suite, case, status, Output, Mode, at, gathering, listing, skipping, finished, Control}
use Rattle.xml_listing.specs.of_read_state.Control.{Act, pass, open_report, open_suite, open_case, open_status, close_suite, close_case, close_status, open_text, close_text, open_list, read_property, stop, missing, broken}
use Rattle.xml_listing.specs.of_read_state.Control.{gathers, turn}
use Rattle.xml_listing.specs.of_read_rules.Rules.{plan_at, plan_eof, plan_fault}
use Rattle.xml_listing.specs.of_read_place.Marks.{Marks, marks_after, onward}
use Rattle.xml_listing.specs.of_read_path.Paths.{mode_path, act_place}
use Rattle.xml_listing.specs.of_read_path.inside.Coded.{has_room}
use Rattle.xml_listing.proofs.of_read_path.Lengths.{mode-short, path-short, planned-room, eof-room, fault-room}
use Rattle.xml_listing.specs.of_read_content.Content.{Content, kill_all, property_kind, piece_of, gather, adding, with_records, keeping, is_empty, describing, outputting, perform}
use Rattle.xml_listing.specs.of_trim.Trim.{trimmed}
use Rattle.xml_listing.specs.of_read_machine.Machine.{Machine, act, step, run}
use Rattle.xml_listing.proofs.of_read_machine.TreePlans.{Planned, stays, skips, skips_on, returns, listed, reports, suites, stops, misses, breaks, cases, suite-ends, suite-list}
use Rattle.xml_listing.proofs.of_read_machine.TreePlans.{statuses, case-ends, case-list, status-ends, texts, texts-empty, text-ends, properties-read, tag-plan, eof-plan, fault-plan}
use Rattle.call_claims.proofs.PathsElement.{Told, fine, told, told-bind, told-need, told-there, told-cond, told-element}

-- ---- actions
over : (p : Place) → length p.path ≤ 5 → length p.path ≤ 6
over p l = omega (arith, l)

module _ (rooms : Rooms) where
  told-gather : (p : Place) (mode : Mode) (k : PieceKind) (s : List ℕ) (c : Content) → length p.path ≤ 5 → Told (gather rooms p mode k s c)
  unfolding gather
  told-gather p mode k s c l = told-bind (told-there p (piece_of k s) (over p l)) λ v. told-need _ p cause.ScratchFull (over p l) fine

  told-adding : (p : Place) (kind j : ℕ) (xs : List Attribute) (c : Content) → length p.path ≤ 5 → Told (adding rooms p kind j xs c)
  unfolding adding
  told-adding p kind j xs c l = told-bind (told-element rooms p kind j xs c.records c.texts l) λ g. fine

  told-keeping : (p : Place) (taken : Bool) (i o k : ℕ) (v : List ℕ) (c : Content) → length p.path ≤ 5 → Told (keeping rooms p taken i o k v c)
  unfolding keeping
  told-keeping p taken i o k v c l = told-need _ p cause.TextFull (over p l) fine

  told-describing : (p : Place) (m : Marks) (c : Content) → length p.path ≤ 5 → Told (describing rooms p m c)
  unfolding describing
  told-describing p m c l = told-cond (is_empty (trimmed c.description)) fine (told-bind (told-keeping p true m.status_at_of 20 6 c.description c l) λ d. fine)

  told-outputting : (p : Place) (level : Level) (o : Output) (m : Marks) (c : Content) → length p.path ≤ 5 → Told (outputting rooms p level o m c)
  unfolding outputting
  told-outputting p level o m c l = told-bind (told-keeping p _ _ _ _ c.gathered c l) λ d. fine

  told-perform : (p : Place) (a : Act) (j : ℕ) (xs : List Attribute) (k : Control) (m : Marks) (c : Content) → length p.path ≤ 5
      → Told (perform rooms p a j xs k m c)
  unfolding perform
  told-perform p (pass n) j xs k m c l = fine
  told-perform p (open_report e) j xs k m c l = told-adding p 1 j xs (with_records c (kill_all c.records)) l
  told-perform p (open_suite e) j xs k m c l = told-adding p 2 j xs c l
  told-perform p (open_case e) j xs k m c l = told-adding p 3 j xs c l
  told-perform p (open_status s e) j xs k m c l = told-adding p s j xs c l
  told-perform p close_suite j xs k m c l = fine
  told-perform p close_case j xs k m c l = told-need _ p cause.StatusRule (over p l) fine
  told-perform p close_status j xs k m c l = told-describing p m c l
  told-perform p (open_text level o) j xs k m c l = fine
  told-perform p (close_text level o) j xs k m c l = told-outputting p level o m c l
  told-perform p (open_list level e) j xs k m c l = fine
  told-perform p (read_property level e name) j xs k m c l = told-adding p (property_kind level) j xs c l
  told-perform p stop j xs k m c l = fine
  told-perform p missing j xs k m c l = told (over p l)
  told-perform p (broken why) j xs k m c l = told (over p l)

-- ---- where reading stands: never in a status element's properties, whose paths would have seven elements
abbrev free : Mode → Bool
free (at level) = true
free (gathering level o) = true
free (listing top) = true
free (listing suite) = true
free (listing case) = true
free (listing status) = false
free (skipping m name depth) = free m
free finished = true

not_there : {m : Mode} → free m ≡ true → m ≡ listing status → ⊥
not_there h e = true≢false (sym h ∙ ap free e)

stays-free : {seen : Bool} {m : Mode} {a : Act} (c : Control) → Planned seen m a → c.mode ≡ m → free m ≡ true → free (turn a c).mode ≡ true
unfolding turn
stays-free c stays e h = h
stays-free c skips e h = refl
stays-free c skips_on e h = h
stays-free c returns e h = h
stays-free c listed e h = refl
stays-free c reports e h = refl
stays-free c (suites s) e h = refl
stays-free c (stops s) e h = refl
stays-free c misses e h = ap free e ∙ h
stays-free c breaks e h = ap free e ∙ h
stays-free c cases e h = refl
stays-free c suite-ends e h = refl
stays-free c (suite-list {e = true}) e h = refl
stays-free c (suite-list {e = false}) e h = refl
stays-free c (statuses s) e h = refl
stays-free c case-ends e h = refl
stays-free c (case-list {e = true}) e h = refl
stays-free c (case-list {e = false}) e h = refl
stays-free c status-ends e h = refl
stays-free c (texts g) e h = refl
stays-free c (texts-empty g) e h = refl
stays-free c text-ends e h = refl
stays-free c (properties-read {e = true}) e h = ap free e ∙ h
stays-free c (properties-read {e = false}) e h = h

-- ---- steps
data Goes : Outcome Machine → Type 0 where
  goes : {s : Machine} → free s.control.mode ≡ true → Goes (accepted s)
  halts : {r : Refused} → length r.path ≤ 6 → Goes (refused r)

goes_then : {m : Outcome Content} (f : Content → Machine) → Told m → ((c : Content) → free (f c).control.mode ≡ true) → Goes (m >>= λ c. accepted (f c))
unfolding ◌>>=◌
goes_then f (fine {a = c}) k = goes (k c)
goes_then f (told h) k = halts h

told-then : {m : Outcome Machine} {f : Machine → Outcome Machine} → Goes m → ((s : Machine) → free s.control.mode ≡ true → Told (f s)) → Told (m >>= f)
unfolding ◌>>=◌
told-then (goes {s = s} h) k = k s h
told-then (halts h) k = told h

told-last : {m : Outcome Machine} → Goes m → Told m
told-last (goes h) = fine
told-last (halts h) = told h

module _ (rooms : Rooms) where
  goes-act : {seen : Bool} (a : Act) (j : ℕ) (xs : List Attribute) (s : Machine) → has_room a ≡ true → Planned seen s.control.mode a → free s.control.mode ≡ true
      → Goes (act rooms a j xs s)
  unfolding act
  goes-act a j xs s r p h =
      goes_then (λ (c : Content). record { control = turn a s.control; content = c; marks = onward (marks_after a (length s.content.records) s.marks) })
      (told-perform rooms (act_place a s.control.mode s.marks) a j xs s.control s.marks s.content (path-short a s.control.mode s.marks r))
      λ c. stays-free s.control p refl h

  goes_step : (e : Event) (s : Machine) → free s.control.mode ≡ true → Goes (step rooms e s)
  unfolding step
  goes_step (Tag k name j xs) s h =
      goes-act (plan_at s.control.mode s.control.seen k name) j xs s (planned-room s.control.mode s.control.seen k name (not_there h))
      (tag-plan s.control.mode s.control.seen k name) h
  goes_step (Piece k bytes) s h =
      goes_then (λ (c : Content). record { control = s.control; content = c; marks = onward s.marks })
      (told-cond (gathers s.control.mode)
      (told-gather rooms (record { path = mode_path s.control.mode s.marks; event = s.marks.event; attribute = nowhere })
      s.control.mode k bytes s.content (mode-short s.control.mode s.marks))
      fine)
      λ c. h
  goes_step Eof s h =
      goes-act (plan_eof s.control.mode s.control.seen s.control.closed) 0 [] s (eof-room s.control.mode s.control.seen s.control.closed)
      (eof-plan s.control.mode s.control.seen s.control.closed) h
  goes_step Fault s h = goes-act {seen = true} (plan_fault s.control.mode) 0 [] s (fault-room s.control.mode) (fault-plan s.control.mode) h

  pub told-run : (es : List Event) (s : Machine) → free s.control.mode ≡ true → Told (run rooms es s)
  unfolding run
  told-run [] s h = told-last (goes_step Eof s h)
  told-run (e ∷ es) s h = told-then (goes_step e s h) λ t k. told-run es t k
