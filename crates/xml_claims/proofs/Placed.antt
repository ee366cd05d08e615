-- The words of an accepted document's table are those of its derivation, and what is due in the first bytes of a document begins its records.
-- Assumes nothing.
use Prim.Native.Nat.{ℕ, ◌+◌, ◌*◌, ◌≤◌}
use mathlib.Core.Path.{◌≡◌, sym, ap, ◌∙◌}
use mathlib.Core.List.{List, [], ◌∷◌, ◌++◌, append_assoc, append-nil}
use native.Mathlib.Omega.{arith}
use lib.ListN.{length, take, length-append}
use Rattle.xml_finish.specs.of_table.Kinds as kind
use Rattle.xml_sound.specs.of_xml_grammar.Documents.{WellFormed, events_of}
use Rattle.xml_finish.specs.of_xml_machine.State.{State, fresh}
use Rattle.xml_finish.specs.of_xml_machine.Runs.{Verdict}
use Rattle.xml_finish.specs.of_xml_machine.Tokens.{Rec, rec, no_marks, Due, nothing, event, attribute, open_run, done-with, resulting, flat, tokens}
use Rattle.xml_places.specs.of_xml_tokens.Due.{due_from, due_in_of, events_due, attributes_due, attributes_in}
use Rattle.xml_places.proofs.of_xml_tokens.Rooms.{last_due, all_due}
use Rattle.xml_places.proofs.of_xml_tokens.Flat.{laid-front}
use Rattle.xml_places.proofs.of_xml_tokens.Tables.{is-accepted, due-events, due-attributes}
use Rattle.xml_places.specs.Places.{events_placed, attributes_placed, event_words, attribute_words}
use Rattle.xml_places.specs.Begun.{GoesOn, Begun}
use Rattle.xml_places.proofs.Placed.{due-placed}
use Rattle.xml_places.proofs.Broken.{events-append, attributes-append, run_none, open_on, Split, split}
use Rattle.xml_claims.proofs.Exact.{reaches}
use Rattle.xml_claims.proofs.Verdicts.{document-told}

-- ---- the table
abbrev eof : Due
eof = event (rec kind.eof 0 0 0 0)

events-placed : {s : List ℕ} (w : WellFormed s) → events_due (all_due s) ≡ events_placed w
events-placed {s} w =
    ap (λ (v : Verdict). events_due (due_in_of s ++ last_due v)) (document-told s w) ∙ events-append (due_in_of s) (eof ∷ []) ∙ (due-placed w).0

attributes-placed : {s : List ℕ} (w : WellFormed s) → attributes_due (all_due s) ≡ attributes_placed w
attributes-placed {s} w =
    ap (λ (v : Verdict). attributes_due (due_in_of s ++ last_due v)) (document-told s w) ∙ attributes-append (due_in_of s) (eof ∷ []) ∙ append-nil (attributes_due (due_in_of s)) ∙ (due-placed w).1

-- THEOREM: the words of the table are those of any derivation
pub table-placed : (s : List ℕ) (e a n m : ℕ) → (tokens s e a).answer ≡ done-with n m → (w : WellFormed s) →
    (take (n * 5) (tokens s e a).events ≡ event_words w) × (take (m * 5) (tokens s e a).attributes ≡ attribute_words w)
unfolding resulting
table-placed s e a n m h w =
    let g = is-accepted s e a n m h in (
      (λ i. take (g.events i * 5) (g.result i).events) ∙ laid-front (events_due (all_due s)) e ∙ ap flat (events-placed w),
      (λ i. take (g.attributes i * 5) (g.result i).attributes) ∙ laid-front (attributes_due (all_due s)) a ∙ ap flat (attributes-placed w),
    )

-- ---- the first bytes
module _ (p t : List ℕ) (w : WellFormed (p ++ t)) where
  begins-by : (u : State) → Split p t fresh u 0 0 no_marks → Begun (due_in_of p) (events_placed w) (attributes_placed w)
  begins-by u r =
      let last : List Due = due_from t u r.to r.number r.marks in
      let end : List Rec = rec kind.eof 0 0 0 0 ∷ [] in
      let on = open_on u t r.to r.number r.marks in (
        r.ended,
        open_run u r.marks.mark r.to,
        r.here,
        (
          events_due last ++ end,
          sym (due-placed w).0 ∙ ap (λ (ds : List Due). events_due ds ++ end) r.on ∙ ap (λ (l : List Rec). l ++ end) (events-append r.ended last)
              ∙ append_assoc (events_due r.ended) (events_due last) end,
          longer (open_run u r.marks.mark r.to) (events_due last) end on,
        ),
        (attributes_due last, sym (due-placed w).1 ∙ ap attributes_due r.on ∙ attributes-append r.ended last),
      )
    where
      longer : (d : Due) (es fs : List Rec) → GoesOn d es → GoesOn d (es ++ fs)
      longer nothing es fs g = tt
      longer (event (rec k at n first count)) es fs (more, rest, e) = (more, rest ++ fs, ap (λ (l : List Rec). l ++ fs) e)
      longer (attribute r) es fs g = g

  -- THEOREM: what is due in the first bytes of a document begins its records
  pub records-begin : Begun (due_in_of p) (events_placed w) (attributes_placed w)
  records-begin = let u = reaches p t w in begins-by u.0 (split p t fresh u.0 0 0 no_marks u.1)

  run-few : (d : Due) (rest : List Rec) → GoesOn d rest → length (events_due (d ∷ [])) ≤ length rest
  run-few nothing rest g = omega arith
  run-few (event (rec k at n first count)) rest (more, r, e) = let z = ap length e in omega arith
  run-few (attribute r) rest g = absurd g

  fewer : Begun (due_in_of p) (events_placed w) (attributes_placed w) →
      (length (events_due (due_in_of p)) ≤ length (events_placed w)) × (length (attributes_due (due_in_of p)) ≤ length (attributes_placed w))
  fewer (ended, run, e, (rest, f, g), (more, h)) =
      let a = ap length (ap events_due e ∙ events-append ended (run ∷ [])) in
      let b = length-append (events_due ended) (events_due (run ∷ [])) in
      let c = ap length f ∙ length-append (events_due ended) rest in
      let i = ap length (ap attributes_due e ∙ attributes-append ended (run ∷ [])) in
      let j = length-append (attributes_due ended) (attributes_due (run ∷ [])) in
      let k = ap length h ∙ length-append (attributes_due ended) more in
      let l = run-few run rest g in
      let n = ap length (run_none run rest g) in
      (omega arith, omega arith)

  -- THEOREM: no document that begins so has fewer records
  pub fewest : (length (events_due (due_in_of p)) ≤ length (events_of w)) × (length (attributes_due (due_in_of p)) ≤ attributes_in (events_of w))
  fewest =
      let f = fewer records-begin in
      let a = ap length (events-placed w) in
      let b = due-events w in
      let c = ap length (attributes-placed w) in
      let d = due-attributes w in
      (omega arith, omega arith)
