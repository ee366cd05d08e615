-- A skip over the events of a table, and the events behind the end. Assumes nothing.
use Prim.Native.Nat.{ℕ, zero, suc, ◌+◌, ◌-◌}
use mathlib.Core.Path.{◌≡◌, refl, sym, ap, subst, ◌∙◌}
use mathlib.Core.List.{List, [], ◌∷◌, ◌++◌}
use mathlib.Core.Bool.{Bool, true, false, cond}
use native.Mathlib.Omega.{arith}
use lib.ListN.{length}
use Rattle.table_events.specs.of_names.Names.{same_bytes}
use Rattle.text_pieces.specs.of_refusal.Refusal.{nowhere, Outcome, accepted, refused}
use Rattle.table_events.specs.of_table.Event.{Attribute, TagKind, Start, Empty, End, Event, Tag, Piece, Eof, Fault, event_at, resolve_from}
use Rattle.table_events.specs.Skip.{Skip, next, broken_at, up_from, skip_of}
use Rattle.table_events.proofs.Turns.{Far, skip-far}
use Rattle.read_path.specs.of_read_element.Outcome.{◌>>=◌, element, Rooms}
use Rattle.read_path.specs.of_read_state.Control.{Level, top, suite, case, status, Mode, at, gathering, listing, skipping, finished, control, Act, pass, read_property, stop, broken, gathers, turn}
use Rattle.read_path.specs.of_read_rules.Rules.{shallower, in_skip, plan_at, plan_eof, plan_fault}
use Rattle.read_path.specs.of_read_place.Marks.{marks, marks_after, onward}
use Rattle.read_path.specs.Paths.{level_path, output_element, mode_path, act_place}
use Rattle.read_content.specs.Content.{Content, property_kind, adding, perform}
use Rattle.read_machine.specs.Machine.{Machine, act, step, run}
use Rattle.text_pieces.specs.of_refusal.declared.Cause.TheVariants as cause
use Rattle.text_pieces.specs.of_refusal.declared.Cause.{Cause}

-- the machine in another mode, at another event
abbrev pub moved : Mode → ℕ → Machine → Machine
moved m i s =
    record {
      control = control m s.control.seen s.control.closed s.control.tally;
      content = s.content;
      marks = marks i s.marks.suite_index_of s.marks.suite_start_of s.marks.case_index_of s.marks.case_start_of
          s.marks.status_kind_of s.marks.property_index_of s.marks.suite_at_of s.marks.case_at_of s.marks.status_at_of;
    }

-- a machine in that mode at that event
pub moved-there : {m : Mode} {i : ℕ} (s : Machine) → s.control.mode ≡ m → s.marks.event ≡ i → s ≡ moved m i s
moved-there {m} {i} s p q = ap (λ (n : Mode). moved n s.marks.event s) p ∙ ap (λ (j : ℕ). moved m j s) q

-- ---- one action
module _ (rooms : Rooms) (j : ℕ) (xs : List Attribute) (s : Machine) where
  pub act-passes : (m : Mode) → act rooms (pass m) j xs s ≡ accepted (moved m (s.marks.event + 1) s)
  unfolding act perform turn marks_after ◌>>=◌
  act-passes m = refl

  -- the act at the end of the report: reading is finished, one event further, and the content is as it was
  pub act-stops : act rooms stop j xs s ≡ accepted (moved finished (s.marks.event + 1) s)
  unfolding act perform turn marks_after ◌>>=◌
  act-stops = refl

  abbrev behind : Level → List ℕ → Bool → Content → Machine
  behind l name e c = record { control = turn (read_property l e name) s.control; content = c; marks = onward (marks_after (read_property l e name) (length s.content.records) s.marks) }

  -- a Start `property` is read as an Empty one, and then its content is skipped
  pub property-acts : (l : Level) (name : List ℕ)
      → act rooms (read_property l false name) j xs s ≡ (act rooms (read_property l true name) j xs s >>= λ t. accepted (moved (skipping (listing l) name 0) t.marks.event t))
  unfolding act perform turn marks_after ◌>>=◌
  property-acts l name = go (adding rooms (act_place (read_property l true name) s.control.mode s.marks) (property_kind l) j xs s.content)
    where
      go : (o : Outcome Content)
          → (o >>= λ c. accepted (behind l name false c)) ≡ ((o >>= λ c. accepted (behind l name true c)) >>= λ t. accepted (moved (skipping (listing l) name 0) t.marks.event t))
      go (accepted c) = refl
      go (refused r) = refl

-- ---- a skip
-- the path doesn't name the event
level-moved : (l : Level) (m : Mode) (i : ℕ) (s : Machine) → level_path l (moved m i s).marks ≡ level_path l s.marks
level-moved top m i s = refl
level-moved suite m i s = refl
level-moved case m i s = refl
level-moved status m i s = refl

path-moved : (outer m : Mode) (i : ℕ) (s : Machine) → mode_path outer (moved m i s).marks ≡ mode_path outer s.marks
path-moved (at l) m i s = level-moved l m i s
path-moved (gathering l o) m i s = ap (λ p. p ++ (output_element o ∷ [])) (level-moved l m i s)
path-moved (listing l) m i s = ap (λ p. p ++ (element 4 nowhere nowhere ∷ [])) (level-moved l m i s)
path-moved (skipping n name depth) m i s = path-moved n m i s
path-moved finished m i s = refl

-- behind a skip reading stands in the mode in which it began
module _ (rooms : Rooms) (outer : Mode) (name : List ℕ) (s : Machine) where
  abbrev skip_refused : Cause → ℕ → Outcome Machine
  skip_refused why i = refused (record { cause = why; path = mode_path outer s.marks; event = i; attribute = nowhere })

  broken-here : (why : Cause) (depth i : ℕ) → act rooms (broken why) 0 [] (moved (skipping outer name depth) i s) ≡ skip_refused why i
  unfolding act perform ◌>>=◌
  broken-here why depth i = ap (λ p. refused (record { cause = why; path = p; event = i; attribute = nowhere })) (path-moved outer (skipping outer name depth) i s)

  end-breaks : (depth i : ℕ) → run rooms [] (moved (skipping outer name depth) i s) ≡ skip_refused cause.EofInSkip i
  unfolding run step plan_eof
  end-breaks depth i = broken-here cause.EofInSkip depth i

  -- what the run comes to behind one event; f says it of a skip's answer
  module _ (f : Skip → Outcome Machine) (refuses : (why : Cause) (i : ℕ) → skip_refused why i ≡ f (broken_at why i)) (es : List Event) (i : ℕ)
      (on : (depth : ℕ) → run rooms es (moved (skipping outer name depth) (i + 1) s) ≡ f (skip_of name depth (i + 1) es))
      (out : run rooms es (moved outer (i + 1) s) ≡ f (next (i + 1))) where
    turns : (e : Event) (depth : ℕ) → run rooms (e ∷ es) (moved (skipping outer name depth) i s) ≡ f (skip_of name depth i (e ∷ es))
    unfolding run step plan_at in_skip plan_eof plan_fault gathers skip_of act perform turn marks_after ◌>>=◌
    turns (Tag Start tag j xs) depth = on (cond (same_bytes tag name) (suc depth) depth)
    turns (Tag Empty tag j xs) depth = on depth
    turns (Tag End tag j xs) depth = go (same_bytes tag name) depth
      where
        go : (t : Bool) (d : ℕ)
            → run rooms es (moved (cond t (shallower outer name d) (skipping outer name d)) (i + 1) s) ≡ f (cond t (up_from d (next (i + 1)) λ d. skip_of name d (i + 1) es) (skip_of name d (i + 1) es))
        go true zero = out
        go true (suc d) = on d
        go false d = on d
    turns (Piece k bytes) depth = on depth
    turns Eof depth = broken-here cause.EofInSkip depth i ∙ refuses cause.EofInSkip i
    turns Fault depth = broken-here cause.XmlFault depth i ∙ refuses cause.XmlFault i

-- what a run over a table of `count` events comes to, by the answer of a skip
abbrev pub after_skip : Rooms → (events attributes source : List ℕ) → ℕ → Mode → Machine → Skip → Outcome Machine
after_skip rooms events attributes source count outer s (next i) = run rooms (resolve_from events attributes source (count - i) i) (moved outer i s)
after_skip rooms events attributes source count outer s (broken_at why i) = refused (record { cause = why; path = mode_path outer s.marks; event = i; attribute = nowhere })

module _ (rooms : Rooms) (events attributes source : List ℕ) where
  abbrev from : ℕ → ℕ → List Event
  from n i = resolve_from events attributes source n i

  -- in a skip, at event i, with n events left
  pub skips : (outer : Mode) (name : List ℕ) (s : Machine) (count n i depth : ℕ) → n + i ≡ count →
      run rooms (from n i) (moved (skipping outer name depth) i s) ≡ after_skip rooms events attributes source count outer s (skip_of name depth i (from n i))
  unfolding resolve_from skip_of
  skips outer name s count zero i depth e = end-breaks rooms outer name s depth i
  skips outer name s count (suc n) i depth e =
      let z : n ≡ count - (i + 1) = omega arith in
      turns rooms outer name s (after_skip rooms events attributes source count outer s) (λ why k. refl) (from n (i + 1)) i
      (λ d. skips outer name s count n (i + 1) d (omega arith))
      (ap (λ (m : ℕ). run rooms (from m (i + 1)) (moved outer (i + 1) s)) z)
      (event_at events attributes source i) depth

  length_from : (n i : ℕ) → length (from n i) ≡ n
  unfolding resolve_from
  length_from zero i = refl
  length_from (suc n) i = ap suc (length_from n (i + 1))

  -- a skip's answer lies behind its first event, and not behind the table's end
  pub skip-within : (name : List ℕ) (depth n i : ℕ) → Far i (i + n) (skip_of name depth i (from n i))
  skip-within name depth n i = subst (λ (m : ℕ). Far i (i + m) (skip_of name depth i (from n i))) (length_from n i) (skip-far name depth i (from n i))

-- ---- the end
-- a run that is accepted with the content that it had
pub record Keeps (s : Machine) (o : Outcome Machine) : Type 0 where
  pub left : Machine
  pub ends : o ≡ accepted left
  pub same : left.content ≡ s.content

module _ (rooms : Rooms) (s : Machine) where
  over : (es : List Event) (i : ℕ) → Keeps s (run rooms es (moved finished i s))
  unfolding run step plan_at plan_eof plan_fault gathers act perform turn marks_after ◌>>=◌
  over [] i = record { left = moved finished (i + 1) s; ends = refl; same = refl }
  over (Tag k tag j xs ∷ es) i = over es (i + 1)
  over (Piece k bytes ∷ es) i = over es (i + 1)
  over (Eof ∷ es) i = over es (i + 1)
  over (Fault ∷ es) i = over es (i + 1)

  -- behind the end all events are passed over
  pub finished-runs : (es : List Event) → s.control.mode ≡ finished → Keeps s (run rooms es s)
  finished-runs es p = subst (λ (t : Machine). Keeps s (run rooms es t)) (sym (moved-there s p refl)) (over es s.marks.event)

  -- an End that stops reading, or Eof, or the table's end
  pub stop-runs : (es : List Event) (k : TagKind) (tag : List ℕ) (j : ℕ) (xs : List Attribute)
      → plan_at s.control.mode s.control.seen k tag ≡ stop → Keeps s (run rooms (Tag k tag j xs ∷ es) s)
  unfolding run step ◌>>=◌
  stop-runs es k tag j xs p = subst (λ (a : Act). Keeps s (act rooms a j xs s >>= λ t. run rooms es t)) (sym p) (stopped es j xs)
    where
      stopped : (es : List Event) (j : ℕ) (xs : List Attribute) → Keeps s (act rooms stop j xs s >>= λ t. run rooms es t)
      stopped es j xs = subst (λ (o : Outcome Machine). Keeps s (o >>= λ t. run rooms es t)) (sym (act-stops rooms j xs s)) (over es (s.marks.event + 1))

  pub eof-runs : (es : List Event) → plan_eof s.control.mode s.control.seen s.control.closed ≡ stop → Keeps s (run rooms (Eof ∷ es) s)
  unfolding run step ◌>>=◌
  eof-runs es p =
      subst (λ (a : Act). Keeps s (act rooms a 0 [] s >>= λ t. run rooms es t)) (sym p)
      (subst (λ (o : Outcome Machine). Keeps s (o >>= λ t. run rooms es t)) (sym (act-stops rooms 0 [] s)) (over es (s.marks.event + 1)))

  pub end-runs : plan_eof s.control.mode s.control.seen s.control.closed ≡ stop → Keeps s (run rooms [] s)
  unfolding run step
  end-runs p = record { left = moved finished (s.marks.event + 1) s; ends = ap (λ (a : Act). act rooms a 0 [] s) p ∙ act-stops rooms 0 [] s; same = refl }
