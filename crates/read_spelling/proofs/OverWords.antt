-- The law of spelling over words: the same records and texts, in areas of any lengths. Assumes nothing.
use Prim.Native.Nat.{ℕ}
use mathlib.Core.Bool.{Bool, true, false, cond}
use mathlib.Core.List.{List, [], ◌∷◌}
use mathlib.Core.Path.{◌≡◌, refl, sym, ap, subst, ◌∙◌}
use Rattle.read_report.specs.of_area.Area.{zeros, laid}
use Rattle.read_report.specs.of_utf8.Characters.{joined}
use Rattle.read_report.specs.of_refusal.Refusal.{Outcome, accepted, refused}
use Rattle.read_report.specs.of_table.Event.{Attribute, Start, Empty, End, Event, Tag, Piece, Eof, Fault, resolve}
use Rattle.read_report.specs.of_table.Table.{table_of}
use Rattle.read_report.specs.of_tree_report.ReportOf.{report_from, only}
use Rattle.read_report.specs.of_tree_report.Fields.{live}
use Rattle.read_report.specs.of_read_element.Outcome.{◌>>=◌, Rooms, rooms_of}
use Rattle.read_report.proofs.of_read_element.TreeOutcome.{Holds, accept, refuse, bind}
use Rattle.read_report.specs.of_read_state.Control.{Control}
use Rattle.read_report.specs.of_read_content.Content.{Content}
use Rattle.read_report.specs.of_read_machine.Machine.{Machine, act, step, run, begin}
use Rattle.read_report.specs.of_read_machine.Reading.{Read, read_as, reading}
use Rattle.read_spelling.specs.Spelling.{control_after, is_spelled, spelled_from, spelled, SameAnswer}
use Rattle.read_spelling.proofs.Numbers.{elsewhere, Shifted, goes, stops, step-shifts, Alike}
use Rattle.read_spelling.proofs.Bare.{any, BareMachine, stepped}
use Rattle.read_spelling.proofs.Pairs.{pair, turns}
use Rattle.read_spelling.proofs.Children.{same_after, across, empty-spelled}

-- ---- spelled out twice
-- its Start and End leave the control that the Empty leaves
after : (k : Control) (name : List ℕ) (j : ℕ) (xs : List Attribute) → is_spelled k.mode name ≡ true
    → control_after (Tag End name 0 []) (control_after (Tag Start name j xs) k) ≡ control_after (Tag Empty name j xs) k
after k name j xs h = turns k.closed k.tally (pair k.seen name k.mode h)

empty-twice : (k : Control) (name : List ℕ) (j : ℕ) (xs : List Attribute) (t : Bool) → is_spelled k.mode name ≡ t
    → (rest : List Event) → spelled_from (control_after (Tag Empty name j xs) k) rest ≡ rest
    → spelled_from k (cond t (Tag Start name j xs ∷ Tag End name 0 [] ∷ rest) (Tag Empty name j xs ∷ rest)) ≡ cond t (Tag Start name j xs ∷ Tag End name 0 [] ∷ rest) (Tag Empty name j xs ∷ rest)
unfolding spelled_from
empty-twice k name j xs true h rest e =
    ap (λ (l : List Event). Tag Start name j xs ∷ Tag End name 0 [] ∷ l) (ap (λ (c : Control). spelled_from c rest) (after k name j xs h) ∙ e)
empty-twice k name j xs false h rest e = rw h (ap (λ (l : List Event). Tag Empty name j xs ∷ l) e)

pub spelled-twice : (es : List Event) (k : Control) → spelled_from k (spelled_from k es) ≡ spelled_from k es
unfolding spelled_from
spelled-twice [] k = refl
spelled-twice (Tag Start name j xs ∷ es) k = ap (λ (l : List Event). Tag Start name j xs ∷ l) (spelled-twice es (control_after (Tag Start name j xs) k))
spelled-twice (Tag Empty name j xs ∷ es) k =
    empty-twice k name j xs (is_spelled k.mode name) refl (spelled_from (control_after (Tag Empty name j xs) k) es)
    (spelled-twice es (control_after (Tag Empty name j xs) k))
spelled-twice (Tag End name j xs ∷ es) k = ap (λ (l : List Event). Tag End name j xs ∷ l) (spelled-twice es (control_after (Tag End name j xs) k))
spelled-twice (Piece kind bytes ∷ es) k = ap (λ (l : List Event). Piece kind bytes ∷ l) (spelled-twice es k)
spelled-twice (Eof ∷ es) k = ap (λ (l : List Event). Eof ∷ l) (spelled-twice es (control_after Eof k))
spelled-twice (Fault ∷ es) k = ap (λ (l : List Event). Fault ∷ l) (spelled-twice es (control_after Fault k))

module _ (rooms : Rooms) where
  -- ---- behind an event
  abbrev Controlled : Event → Control → Machine → Type 0
  Controlled ev k t = t.control ≡ control_after ev k

  controls : (ev : Event) (s : Machine) → Holds (Controlled ev s.control) (step rooms ev s)
  unfolding step act
  controls (Tag kind name j xs) s = bind (any _) λ c u. accept refl
  controls (Piece kind bytes) s = bind (any _) λ c u. accept refl
  controls Eof s = bind (any _) λ c u. accept refl
  controls Fault s = bind (any _) λ c u. accept refl

  -- both outcomes, and what is known behind the first
  module _ (ev : Event) (k : Control) (es fs : List Event)
      (on : (t : Machine) (e ss cs : ℕ) → BareMachine t → t.control ≡ control_after ev k → Alike (run rooms es t) (run rooms fs (elsewhere e ss cs t))) where
    go : {o u : Outcome Machine} → Shifted o u → Holds BareMachine o → Holds (Controlled ev k) o → Alike (o >>= λ t. run rooms es t) (u >>= λ t. run rooms fs t)
    unfolding ◌>>=◌
    go (goes {t = t} e ss cs) (accept b) (accept q) = on t e ss cs b q
    go (stops h) refuse refuse = h

  ends : {o u : Outcome Machine} → Shifted o u → Alike o u
  ends (goes e ss cs) = refl
  ends (stops h) = h

  assoc : (o : Outcome Machine) (f g : Machine → Outcome Machine) → ((o >>= f) >>= g) ≡ (o >>= λ t. (f t >>= g))
  unfolding ◌>>=◌
  assoc (accepted t) f g = refl
  assoc (refused r) f g = refl

  -- ---- one event, then the rest
  module _ (es : List Event) (on : (k : Control) (t : Machine) (e ss cs : ℕ) → t.control ≡ k → BareMachine t → Alike (run rooms es t) (run rooms (spelled_from k es) (elsewhere e ss cs t))) where
    keeps : (ev : Event) (s : Machine) (e ss cs : ℕ) → BareMachine s → Alike (run rooms (ev ∷ es) s) (run rooms (ev ∷ spelled_from (control_after ev s.control) es) (elsewhere e ss cs s))
    unfolding run
    keeps ev s e ss cs b =
        go ev s.control es (spelled_from (control_after ev s.control) es) (λ t e ss cs b q. on (control_after ev s.control) t e ss cs q b)
        (step-shifts rooms e ss cs s ev) (stepped rooms ev s b) (controls ev s)

    writes : (name : List ℕ) (j : ℕ) (xs : List Attribute) (s : Machine) (e ss cs : ℕ) → BareMachine s → is_spelled s.control.mode name ≡ true
        → Alike (run rooms (Tag Empty name j xs ∷ es) s)
        (run rooms (Tag Start name j xs ∷ Tag End name 0 [] ∷ spelled_from (control_after (Tag Empty name j xs) s.control) es) (elsewhere e ss cs s))
    unfolding run
    writes name j xs s e ss cs b h =
        let ev = Tag Empty name j xs in
        let rest = spelled_from (control_after ev s.control) es in
        subst (λ (o : Outcome Machine). Alike (step rooms ev s >>= λ t. run rooms es t) o)
        (assoc (step rooms (Tag Start name j xs) (elsewhere e ss cs s)) (λ t. step rooms (Tag End name 0 []) t) (λ t. run rooms rest t))
        (go ev s.control es rest (λ t e ss cs b q. on (control_after ev s.control) t e ss cs q b)
        (across (step-shifts rooms e ss cs s ev) (empty-spelled rooms (elsewhere e ss cs s) name j xs h b)) (stepped rooms ev s b) (controls ev s))

    either : (name : List ℕ) (j : ℕ) (xs : List Attribute) (s : Machine) (e ss cs : ℕ) → BareMachine s → (t : Bool) → is_spelled s.control.mode name ≡ t
        → Alike (run rooms (Tag Empty name j xs ∷ es) s) (run rooms (cond t (Tag Start name j xs ∷ Tag End name 0 [] ∷ spelled_from (control_after (Tag Empty name j xs) s.control) es)
        (Tag Empty name j xs ∷ spelled_from (control_after (Tag Empty name j xs) s.control) es)) (elsewhere e ss cs s))
    either name j xs s e ss cs b true h = writes name j xs s e ss cs b h
    either name j xs s e ss cs b false h = keeps (Tag Empty name j xs) s e ss cs b

  -- ---- the whole
  from : (es : List Event) (k : Control) (s : Machine) (e ss cs : ℕ) → s.control ≡ k → BareMachine s → Alike (run rooms es s) (run rooms (spelled_from k es) (elsewhere e ss cs s))
  unfolding spelled_from
  from [] k s e ss cs q b = unfold run in ends (step-shifts rooms e ss cs s Eof)
  from (Tag Start name j xs ∷ es) k s e ss cs q b = rw (sym q) (keeps es (λ k t e ss cs q b. from es k t e ss cs q b) (Tag Start name j xs) s e ss cs b)
  from (Tag End name j xs ∷ es) k s e ss cs q b = rw (sym q) (keeps es (λ k t e ss cs q b. from es k t e ss cs q b) (Tag End name j xs) s e ss cs b)
  from (Tag Empty name j xs ∷ es) k s e ss cs q b = rw (sym q) (either es (λ k t e ss cs q b. from es k t e ss cs q b) name j xs s e ss cs b (is_spelled s.control.mode name) refl)
  from (Piece kind bytes ∷ es) k s e ss cs q b = rw (sym q) (keeps es (λ k t e ss cs q b. from es k t e ss cs q b) (Piece kind bytes) s e ss cs b)
  from (Eof ∷ es) k s e ss cs q b = rw (sym q) (keeps es (λ k t e ss cs q b. from es k t e ss cs q b) Eof s e ss cs b)
  from (Fault ∷ es) k s e ss cs q b = rw (sym q) (keeps es (λ k t e ss cs q b. from es k t e ss cs q b) Fault s e ss cs b)

  pub spelled-run : (es : List Event) → Alike (run rooms es begin) (run rooms (spelled es) begin)
  spelled-run es = from es begin.control begin 0 0 0 refl (refl, refl)

-- ---- two spellings
alike-back : (o u : Outcome Machine) → Alike o u → Alike u o
alike-back (accepted s) (accepted t) h = sym h
alike-back (accepted s) (refused q) h = absurd h
alike-back (refused r) (accepted t) h = absurd h
alike-back (refused r) (refused q) h = record { cause = sym h.cause; path = sym h.path; attribute = sym h.attribute }

alike-after : (o u v : Outcome Machine) → Alike o u → Alike u v → Alike o v
alike-after (accepted s) (accepted t) (accepted w) h g = h ∙ g
alike-after (accepted s) (accepted t) (refused p) h g = absurd g
alike-after (accepted s) (refused q) v h g = absurd h
alike-after (refused r) (accepted t) v h g = absurd h
alike-after (refused r) (refused q) (accepted w) h g = absurd g
alike-after (refused r) (refused q) (refused p) h g = same_after h g

pub runs-alike : (rooms : Rooms) (es fs : List Event) → spelled es ≡ spelled fs → Alike (run rooms es begin) (run rooms fs begin)
runs-alike rooms es fs e =
    alike-after (run rooms es begin) (run rooms (spelled es) begin) (run rooms fs begin) (spelled-run rooms es)
    (alike-back (run rooms fs begin) (run rooms (spelled es) begin) (rw e (spelled-run rooms fs)))

-- ---- without areas
pub reported : (o u : Outcome Machine) → Alike o u
    → SameAnswer (o >>= λ s. accepted (report_from s.content.texts (only live s.content.records))) (u >>= λ s. accepted (report_from s.content.texts (only live s.content.records)))
unfolding ◌>>=◌
reported (accepted s) (accepted t) h = ap (λ (c : Content). report_from c.texts (only live c.records)) h
reported (accepted s) (refused q) h = absurd h
reported (refused r) (accepted t) h = absurd h
reported (refused r) (refused q) h = h

-- ---- with areas
-- the same answer, and the same areas afterwards
pub record SameReading (r q : Read) : Type 0 where
  pub outcome : SameAnswer r.outcome q.outcome
  pub words : r.words ≡ q.words
  pub text : r.text ≡ q.text
  pub scratch : r.scratch ≡ q.scratch

same-reading : (words text scratch : ℕ) (o u : Outcome Machine) → Alike o u → SameReading (read_as words text scratch o) (read_as words text scratch u)
unfolding read_as
same-reading words text scratch (accepted s) (accepted t) h =
    record {
      outcome = refl;
      words = ap (λ (c : Content). laid (zeros words) (joined c.records)) h;
      text = ap (λ (c : Content). laid (zeros text) c.texts) h;
      scratch = refl;
    }
same-reading words text scratch (accepted s) (refused q) h = absurd h
same-reading words text scratch (refused r) (accepted t) h = absurd h
same-reading words text scratch (refused r) (refused q) h = record { outcome = h; words = refl; text = refl; scratch = refl }

-- where 11 lets the table pass
read_is : (events attributes source : List ℕ) (words text scratch : ℕ) → table_of events attributes source ≡ accepted tt
    → reading events attributes source words text scratch ≡ read_as words text scratch (run (rooms_of words text scratch) (resolve events attributes source) begin)
unfolding reading ◌>>=◌
read_is events attributes source words text scratch p =
    ap (λ (o : Outcome (Unit {0})). read_as words text scratch (o >>= λ _. run (rooms_of words text scratch) (resolve events attributes source) begin)) p

-- the areas of the call are the same afterwards, word by word
pub in-areas : (events attributes source events₂ attributes₂ source₂ : List ℕ) (words text scratch : ℕ)
    → table_of events attributes source ≡ accepted tt → table_of events₂ attributes₂ source₂ ≡ accepted tt
    → spelled (resolve events attributes source) ≡ spelled (resolve events₂ attributes₂ source₂)
    → SameReading (reading events attributes source words text scratch) (reading events₂ attributes₂ source₂ words text scratch)
in-areas events attributes source events₂ attributes₂ source₂ words text scratch p q e =
    let es = resolve events attributes source in
    let fs = resolve events₂ attributes₂ source₂ in
    let rooms = rooms_of words text scratch in
    subst (λ (r : Read). SameReading r (reading events₂ attributes₂ source₂ words text scratch)) (sym (read_is events attributes source words text scratch p))
    (subst (λ (r : Read). SameReading (read_as words text scratch (run rooms es begin)) r) (sym (read_is events₂ attributes₂ source₂ words text scratch q))
    (same-reading words text scratch (run rooms es begin) (run rooms fs begin) (runs-alike rooms es fs e)))
