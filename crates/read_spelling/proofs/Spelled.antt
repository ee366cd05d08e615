-- The law of spelling. Assumes nothing.
use Prim.Native.Nat.{ℕ}
use mathlib.Core.Bool.{Bool, true, false, cond}
use mathlib.Core.List.{List, [], ◌∷◌}
use mathlib.Core.Path.{◌≡◌, refl, sym, subst, ◌∙◌}
use Rattle.read_report.specs.of_refusal.Refusal.{Outcome, accepted, refused}
use Rattle.read_report.specs.of_table.Event.{Attribute, Start, Empty, End, Event, Tag, Piece, Eof, Fault}
use Rattle.read_report.specs.of_read_element.Outcome.{◌>>=◌, Rooms, unlimited}
use Rattle.read_report.proofs.of_read_element.TreeOutcome.{Holds, accept, refuse, bind}
use Rattle.read_report.specs.of_read_state.Control.{Control}
use Rattle.read_report.specs.Deserialize.{Reader, act, step, steps, begin, deserialize_in, deserialize}
use Rattle.read_spelling.specs.Spelling.{control_after, is_spelled, spelled_from, spelled, SameAnswer, Spelling}
use Rattle.read_spelling.proofs.Bare.{any}
use Rattle.read_spelling.proofs.Children.{same_after}
use Rattle.read_spelling.proofs.ValueNumbers.{elsewhere, Shifted, goes, stops, step-shifts, Alike}
use Rattle.read_spelling.proofs.ValueBare.{BareReader, stepped}
use Rattle.read_spelling.proofs.ValueChildren.{across, empty-spelled}
use Rattle.read_spelling.proofs.OverWords.{spelled-twice}

module _ (rooms : Rooms) where
  -- ---- behind an event
  abbrev Controlled : Event → Control → Reader → Type 0
  Controlled ev k t = t.control ≡ control_after ev k

  controls : (ev : Event) (s : Reader) → Holds (Controlled ev s.control) (step rooms ev s)
  unfolding step act
  controls (Tag kind name j xs) s = bind (any _) λ c u. accept refl
  controls (Piece kind bytes) s = bind (any _) λ c u. accept refl
  controls Eof s = bind (any _) λ c u. accept refl
  controls Fault s = bind (any _) λ c u. accept refl

  -- both outcomes, and what is known behind the first
  module _ (ev : Event) (k : Control) (es fs : List Event)
      (on : (t : Reader) (e ss cs : ℕ) → BareReader t → t.control ≡ control_after ev k → Alike (steps rooms es t) (steps rooms fs (elsewhere e ss cs t))) where
    go : {o u : Outcome Reader} → Shifted o u → Holds BareReader o → Holds (Controlled ev k) o → Alike (o >>= λ t. steps rooms es t) (u >>= λ t. steps rooms fs t)
    unfolding ◌>>=◌
    go (goes {t = t} e ss cs) (accept b) (accept q) = on t e ss cs b q
    go (stops h) refuse refuse = h

  ends : {o u : Outcome Reader} → Shifted o u → Alike o u
  ends (goes e ss cs) = refl
  ends (stops h) = h

  assoc : (o : Outcome Reader) (f g : Reader → Outcome Reader) → ((o >>= f) >>= g) ≡ (o >>= λ t. (f t >>= g))
  unfolding ◌>>=◌
  assoc (accepted t) f g = refl
  assoc (refused r) f g = refl

  -- ---- one event, then the rest
  module _ (es : List Event) (on : (k : Control) (t : Reader) (e ss cs : ℕ) → t.control ≡ k → BareReader t → Alike (steps rooms es t) (steps rooms (spelled_from k es) (elsewhere e ss cs t))) where
    keeps : (ev : Event) (s : Reader) (e ss cs : ℕ) → BareReader s → Alike (steps rooms (ev ∷ es) s) (steps rooms (ev ∷ spelled_from (control_after ev s.control) es) (elsewhere e ss cs s))
    unfolding steps
    keeps ev s e ss cs b =
        go ev s.control es (spelled_from (control_after ev s.control) es) (λ t e ss cs b q. on (control_after ev s.control) t e ss cs q b)
        (step-shifts rooms e ss cs s ev) (stepped rooms ev s b) (controls ev s)

    writes : (name : List ℕ) (j : ℕ) (xs : List Attribute) (s : Reader) (e ss cs : ℕ) → BareReader s → is_spelled s.control.mode name ≡ true
        → Alike (steps rooms (Tag Empty name j xs ∷ es) s)
        (steps rooms (Tag Start name j xs ∷ Tag End name 0 [] ∷ spelled_from (control_after (Tag Empty name j xs) s.control) es) (elsewhere e ss cs s))
    unfolding steps
    writes name j xs s e ss cs b h =
        let ev = Tag Empty name j xs in
        let rest = spelled_from (control_after ev s.control) es in
        subst (λ (o : Outcome Reader). Alike (step rooms ev s >>= λ t. steps rooms es t) o)
        (assoc (step rooms (Tag Start name j xs) (elsewhere e ss cs s)) (λ t. step rooms (Tag End name 0 []) t) (λ t. steps rooms rest t))
        (go ev s.control es rest (λ t e ss cs b q. on (control_after ev s.control) t e ss cs q b)
        (across (step-shifts rooms e ss cs s ev) (empty-spelled rooms (elsewhere e ss cs s) name j xs h b)) (stepped rooms ev s b) (controls ev s))

    either : (name : List ℕ) (j : ℕ) (xs : List Attribute) (s : Reader) (e ss cs : ℕ) → BareReader s → (t : Bool) → is_spelled s.control.mode name ≡ t
        → Alike (steps rooms (Tag Empty name j xs ∷ es) s) (steps rooms (cond t (Tag Start name j xs ∷ Tag End name 0 [] ∷ spelled_from (control_after (Tag Empty name j xs) s.control) es)
        (Tag Empty name j xs ∷ spelled_from (control_after (Tag Empty name j xs) s.control) es)) (elsewhere e ss cs s))
    either name j xs s e ss cs b true h = writes name j xs s e ss cs b h
    either name j xs s e ss cs b false h = keeps (Tag Empty name j xs) s e ss cs b

  -- ---- the whole
  from : (es : List Event) (k : Control) (s : Reader) (e ss cs : ℕ) → s.control ≡ k → BareReader s → Alike (steps rooms es s) (steps rooms (spelled_from k es) (elsewhere e ss cs s))
  unfolding spelled_from
  from [] k s e ss cs q b = unfold steps in ends (step-shifts rooms e ss cs s Eof)
  from (Tag Start name j xs ∷ es) k s e ss cs q b = rw (sym q) (keeps es (λ k t e ss cs q b. from es k t e ss cs q b) (Tag Start name j xs) s e ss cs b)
  from (Tag End name j xs ∷ es) k s e ss cs q b = rw (sym q) (keeps es (λ k t e ss cs q b. from es k t e ss cs q b) (Tag End name j xs) s e ss cs b)
  from (Tag Empty name j xs ∷ es) k s e ss cs q b = rw (sym q) (either es (λ k t e ss cs q b. from es k t e ss cs q b) name j xs s e ss cs b (is_spelled s.control.mode name) refl)
  from (Piece kind bytes ∷ es) k s e ss cs q b = rw (sym q) (keeps es (λ k t e ss cs q b. from es k t e ss cs q b) (Piece kind bytes) s e ss cs b)
  from (Eof ∷ es) k s e ss cs q b = rw (sym q) (keeps es (λ k t e ss cs q b. from es k t e ss cs q b) Eof s e ss cs b)
  from (Fault ∷ es) k s e ss cs q b = rw (sym q) (keeps es (λ k t e ss cs q b. from es k t e ss cs q b) Fault s e ss cs b)

  spelled-run : (es : List Event) → Alike (steps rooms es begin) (steps rooms (spelled es) begin)
  spelled-run es = from es begin.control begin 0 0 0 refl (refl, refl)

-- ---- two spellings
alike-back : (o u : Outcome Reader) → Alike o u → Alike u o
alike-back (accepted s) (accepted t) h = sym h
alike-back (accepted s) (refused q) h = absurd h
alike-back (refused r) (accepted t) h = absurd h
alike-back (refused r) (refused q) h = record { cause = sym h.cause; path = sym h.path; attribute = sym h.attribute }

alike-after : (o u v : Outcome Reader) → Alike o u → Alike u v → Alike o v
alike-after (accepted s) (accepted t) (accepted w) h g = h ∙ g
alike-after (accepted s) (accepted t) (refused p) h g = absurd g
alike-after (accepted s) (refused q) v h g = absurd h
alike-after (refused r) (accepted t) v h g = absurd h
alike-after (refused r) (refused q) (accepted w) h g = absurd g
alike-after (refused r) (refused q) (refused p) h g = same_after h g

runs-alike : (rooms : Rooms) (es fs : List Event) → spelled es ≡ spelled fs → Alike (steps rooms es begin) (steps rooms fs begin)
runs-alike rooms es fs e =
    alike-after (steps rooms es begin) (steps rooms (spelled es) begin) (steps rooms fs begin) (spelled-run rooms es)
    (alike-back (steps rooms fs begin) (steps rooms (spelled es) begin) (rw e (spelled-run rooms fs)))

-- ---- the report
reported : (o u : Outcome Reader) → Alike o u → SameAnswer (o >>= λ s. accepted s.draft.report) (u >>= λ s. accepted s.draft.report)
unfolding ◌>>=◌
reported (accepted s) (accepted t) h = h
reported (accepted s) (refused q) h = absurd h
reported (refused r) (accepted t) h = absurd h
reported (refused r) (refused q) h = h

spelled-read : (rooms : Rooms) (es : List Event) → SameAnswer (deserialize_in rooms es) (deserialize_in rooms (spelled es))
unfolding deserialize_in
spelled-read rooms es = reported (steps rooms es begin) (steps rooms (spelled es) begin) (spelled-run rooms es)

both_read : (rooms : Rooms) (es fs : List Event) → spelled es ≡ spelled fs → SameAnswer (deserialize_in rooms es) (deserialize_in rooms fs)
unfolding deserialize_in
both_read rooms es fs e = reported (steps rooms es begin) (steps rooms fs begin) (runs-alike rooms es fs e)

free : (es fs : List Event) → spelled es ≡ spelled fs → SameAnswer (deserialize es) (deserialize fs)
unfolding deserialize
free es fs e = both_read unlimited es fs e

free-spelled : (es : List Event) → SameAnswer (deserialize es) (deserialize (spelled es))
unfolding deserialize
free-spelled es = spelled-read unlimited es

pub spelling : Spelling
spelling =
    record {
      spelled_out = free-spelled;
      twice = λ es. spelled-twice es begin.control;
      alike = free;
      in_areas = both_read;
    }
