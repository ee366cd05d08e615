-- The run with rooms by what is due: the control's verdict, or 16 if what is due doesn't fit. Assumes nothing.
use Prim.Native.Nat.{ℕ, ◌+◌, ◌-◌, ◌<◌}
use mathlib.Core.Path.{◌≡◌, refl, sym, ap, ◌∙◌}
use mathlib.Core.List.{List, [], ◌∷◌, ◌++◌, append_assoc, append-nil}
use mathlib.Core.Bool.{Bool, true, false, cond, ◌&&◌, and-eq-true_iff}
use native.Mathlib.Omega.{arith}
use borrow.Author.Tests.{ltb-true, ltb-false, le-leb, lt-leb}
use lib.Dec.{leb, ltb}
use lib.ListN.{length, length-append}
use Rattle.xml_complete.specs.of_refusal.Refusal.{nowhere}
use Rattle.xml_complete.specs.of_table.Kinds as kind
use Rattle.xml_complete.specs.of_xml_machine.State as state
use Rattle.xml_complete.specs.of_xml_machine.State.{State, fresh, Next}
use Rattle.xml_complete.specs.of_xml_machine.Machine.{step, done}
use Rattle.xml_complete.specs.of_xml_machine.Runs.{Verdict, accepted, bad, doctype, is_doctype, blame, ahead, judge, verdict}
use Rattle.xml_complete.specs.of_xml_machine.Tokens.{rec, Marks, no_marks, marks_by, Due, nothing, event, attribute, due, open_run, Room, Kept, nothing_kept, Out, read, refuse, keep, close, blamed, onward, records}
use Rattle.xml_tokens.specs.Due.{counted, due_by, due_from, due_in_of, events_due, attributes_due}

-- Eof ends the table of a document alone
abbrev pub last_due : Verdict → List Due
last_due accepted = event (rec kind.eof 0 0 0 0) ∷ []
last_due (bad q) = []
last_due (doctype q) = []

-- what is due in all, with the verdict
abbrev pub all_due : List ℕ → List Due
all_due s = due_in_of s ++ last_due (verdict s)

-- what is kept, with what is due
abbrev pub put : Kept → Due → Kept
put k nothing = k
put k (event r) = record { events = k.events ++ (r ∷ []); attributes = k.attributes }
put k (attribute r) = record { events = k.events; attributes = k.attributes ++ (r ∷ []) }

abbrev pub put_all : Kept → List Due → Kept
put_all k ds = record { events = k.events ++ events_due ds; attributes = k.attributes ++ attributes_due ds }

pub put_then : (k : Kept) (d : Due) (ds : List Due) → put_all (put k d) ds ≡ put_all k (d ∷ ds)
put_then k nothing ds = refl
put_then k (event r) ds = λ i. record { events = append_assoc k.events (r ∷ []) (events_due ds) i; attributes = k.attributes ++ attributes_due ds }
put_then k (attribute r) ds = λ i. record { events = k.events ++ events_due ds; attributes = append_assoc k.attributes (r ∷ []) (attributes_due ds) i }

pub put-none : (k : Kept) → put_all k [] ≡ k
put-none k = λ i. record { events = append-nil k.events i; attributes = append-nil k.attributes i }

pub put_count : (k : Kept) (d : Due) → length (put k d).attributes ≡ counted (length k.attributes) d
put_count k nothing = refl
put_count k (event r) = refl
put_count k (attribute r) = length-append k.attributes (r ∷ [])

abbrev pub fits : Room → Kept → Bool
fits room k = leb (length k.events) room.events && leb (length k.attributes) room.attributes

abbrev pub ended : Verdict → Kept → Out
ended accepted k = read k
ended (bad q) k = refuse 18 q
ended (doctype q) k = refuse 19 q

abbrev pub fitted : Room → Verdict → Kept → Out
fitted room v k = cond (fits room k) (ended v k) (refuse 16 nowhere)

-- the same where what is kept fits
fitted-here : (room : Room) (v : Verdict) (k : Kept) → fits room k ≡ true → ended v k ≡ fitted room v (put_all k [])
fitted-here room v k f = sym (ap (λ (x : Bool). cond x (ended v k) (refuse 16 nowhere)) f) ∙ ap (fitted room v) (sym (put-none k))

-- what doesn't fit stays too long
events-short : (room : Room) (v : Verdict) (k : Kept) → room.events < length k.events → fitted room v k ≡ refuse 16 nowhere
events-short room v k h = rw (lt-leb (length k.events) room.events h) refl

attributes-short : (room : Room) (v : Verdict) (k : Kept) → room.attributes < length k.attributes → fitted room v k ≡ refuse 16 nowhere
attributes-short room v k h = by (leb (length k.events) room.events)
  where
    by : (x : Bool) → cond (x && leb (length k.attributes) room.attributes) (ended v k) (refuse 16 nowhere) ≡ refuse 16 nowhere
    by true = rw (lt-leb (length k.attributes) room.attributes h) refl
    by false = refl

-- one record more, if it fits
keep-fitted : (room : Room) (k : Kept) (d : Due) (ds : List Due) (f : Kept → Out) (v : Verdict) → fits room k ≡ true →
    (fits room (put k d) ≡ true → f (put k d) ≡ fitted room v (put_all (put k d) ds)) → keep room k d f ≡ fitted room v (put_all k (d ∷ ds))
unfolding keep
keep-fitted room k nothing ds f v g h = h g
keep-fitted room k (event r) ds f v g h = by (ltb (length k.events) room.events) refl
  where
    by : (x : Bool) → ltb (length k.events) room.events ≡ x → cond x (f (put k (event r))) (refuse 16 nowhere) ≡ fitted room v (put_all k (event r ∷ ds))
    by true e =
        let l = ltb-true (length k.events) room.events e in
        let n = length-append k.events (r ∷ []) in
        let w : fits room (put k (event r)) ≡ true =
        (and-eq-true_iff _ _).1 (le-leb (length (k.events ++ (r ∷ []))) room.events (omega arith), ((and-eq-true_iff (leb (length k.events) room.events) (leb (length k.attributes) room.attributes)).0 g).1) in
        h w ∙ ap (fitted room v) (put_then k (event r) ds)
    by false e =
        let l = ltb-false (length k.events) room.events e in
        let n = length-append k.events (r ∷ events_due ds) in
        sym (events-short room v (put_all k (event r ∷ ds)) (omega arith))
keep-fitted room k (attribute r) ds f v g h = by (ltb (length k.attributes) room.attributes) refl
  where
    by : (x : Bool) → ltb (length k.attributes) room.attributes ≡ x → cond x (f (put k (attribute r))) (refuse 16 nowhere) ≡ fitted room v (put_all k (attribute r ∷ ds))
    by true e =
        let l = ltb-true (length k.attributes) room.attributes e in
        let n = length-append k.attributes (r ∷ []) in
        let w : fits room (put k (attribute r)) ≡ true =
        (and-eq-true_iff _ _).1 (((and-eq-true_iff (leb (length k.events) room.events) (leb (length k.attributes) room.attributes)).0 g).0, le-leb (length (k.attributes ++ (r ∷ []))) room.attributes (omega arith)) in
        h w ∙ ap (fitted room v) (put_then k (attribute r) ds)
    by false e =
        let l = ltb-false (length k.attributes) room.attributes e in
        let n = length-append k.attributes (r ∷ attributes_due ds) in
        sym (attributes-short room v (put_all k (attribute r ∷ ds)) (omega arith))

-- behind the last byte
close-fitted : (x : Bool) (at : ℕ) (room : Room) (k : Kept) → fits room k ≡ true → close x at room k ≡ fitted room (cond x accepted (bad at)) (put_all k (last_due (cond x accepted (bad at))))
close-fitted true at room k g = keep-fitted room k (event (rec kind.eof 0 0 0 0)) [] read accepted g (λ w. fitted-here room accepted (put k (event (rec kind.eof 0 0 0 0))) w)
close-fitted false at room k g = fitted-here room (bad at) k g

-- at a refused byte
blamed-fitted : (x : Bool) (at : ℕ) (room : Room) (k : Kept) → fits room k ≡ true →
    cond x (refuse 19 (at - 2)) (refuse 18 at) ≡ fitted room (cond x (doctype (at - 2)) (bad at)) (put_all k (last_due (cond x (doctype (at - 2)) (bad at))))
blamed-fitted true at room k g = fitted-here room (doctype (at - 2)) k g
blamed-fitted false at room k g = fitted-here room (bad at) k g

pub records-fitted : (t : List ℕ) (s : State) (at : ℕ) (room : Room) (m : Marks) (k : Kept) → fits room k ≡ true →
    records t s at room m k ≡ fitted room (judge t s at) (put_all k (due_from t s at (length k.attributes) m ++ last_due (judge t s at)))
unfolding records judge due_from
records-fitted [] s at room m k g =
    keep-fitted room k (open_run s m.mark at) (last_due (cond (done s) accepted (bad at))) (close (done s) at room) (cond (done s) accepted (bad at)) g
    (λ w. close-fitted (done s) at room (put k (open_run s m.mark at)) w)
records-fitted (b ∷ t) s at room m k g = by (step s b) (λ u n j w. records-fitted t u (at + 1) room n j w)
  where
    by : (o : Next) →
        ((u : State) (n : Marks) (j : Kept) → fits room j ≡ true → records t u (at + 1) room n j ≡ fitted room (judge t u (at + 1)) (put_all j (due_from t u (at + 1) (length j.attributes) n ++ last_due (judge t u (at + 1))))) →
        onward o s (b ∷ t) at room m k (λ u n j. records t u (at + 1) room n j)
        ≡ fitted room (ahead o (blame s (b ∷ t) at) (λ u. judge t u (at + 1)))
        (put_all k (due_by o s at (length k.attributes) m (λ u n j. due_from t u (at + 1) n j) ++ last_due (ahead o (blame s (b ∷ t) at) (λ u. judge t u (at + 1)))))
    by state.no ih =
        keep-fitted room k (open_run s m.mark at) (last_due (blame s (b ∷ t) at)) (λ _. blamed s (b ∷ t) at) (blame s (b ∷ t) at) g
        (λ w. blamed-fitted (is_doctype s (b ∷ t)) at room (put k (open_run s m.mark at)) w)
    by (state.go a u) ih =
        let d : Due = due a at (length k.attributes) m in
        let n : Marks = marks_by a at (length k.attributes) m in
        keep-fitted room k d (due_from t u (at + 1) (counted (length k.attributes) d) n ++ last_due (judge t u (at + 1))) (λ j. records t u (at + 1) room n j) (judge t u (at + 1)) g
        (λ w. ih u n (put k d) w ∙ ap (λ (c : ℕ). fitted room (judge t u (at + 1)) (put_all (put k d) (due_from t u (at + 1) c n ++ last_due (judge t u (at + 1))))) (put_count k d))

-- THEOREM: the records of a source in any rooms are its verdict with all that is due, or 16 if that doesn't fit
abbrev pub kept_of : List ℕ → Kept
kept_of s = record { events = events_due (all_due s); attributes = attributes_due (all_due s) }

pub run-fitted : (s : List ℕ) (room : Room) → records s fresh 0 room no_marks nothing_kept ≡ fitted room (verdict s) (kept_of s)
unfolding verdict
run-fitted s room = records-fitted s fresh 0 room no_marks nothing_kept ((and-eq-true_iff _ _).1 (le-leb 0 room.events (omega arith), le-leb 0 room.attributes (omega arith)))
