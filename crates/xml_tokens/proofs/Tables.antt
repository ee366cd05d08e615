-- The table of an accepted document: it passes refusal 11, and resolves to the events of every derivation. Assumes nothing.
use Prim.Native.Nat.{ℕ, ◌*◌, ◌/◌, ◌≤◌, ◌<◌}
use mathlib.Core.Path.{◌≡◌, refl, sym, ap, ◌∙◌}
use mathlib.Core.List.{List, [], ◌∷◌, ◌++◌, map}
use mathlib.Core.Bool.{Bool, true, false, cond}
use mathlib.Core.Logic.{inl, inr}
use native.Mathlib.Omega.{arith}
use borrow.Author.Tests.{ltb-true, ltb-false}
use lib.Dec.{ltb}
use lib.ListN.{length, take, length-map}
use Rattle.xml_complete.specs.of_area.Limits.{most_entries, most_bytes}
use Rattle.xml_complete.specs.of_table.Event.{Eof, resolve}
use Rattle.xml_complete.specs.of_table.Table.{check_of}
use Rattle.std.specs.Prelude.{Ok}
use Rattle.xml_complete.specs.of_xml_grammar.Events.{numbered, document_of}
use Rattle.xml_complete.specs.of_xml_grammar.Documents.{WellFormed, events_of}
use Rattle.xml_complete.specs.of_xml_machine.State.{epilog}
use Rattle.xml_complete.specs.of_xml_machine.Runs.{Verdict, accepted, bad, doctype, verdict}
use Rattle.xml_complete.specs.of_xml_machine.Tokens.{Rec, read, done-with, Result, resulting, room_of, flat, tokens}
use Rattle.xml_complete.specs.of_xml_machine.inside.Saying.{text_said}
use Rattle.xml_complete.proofs.Complete.{complete}
use Rattle.xml_tokens.specs.Due.{events_due, attributes_due, attributes_in}
use Rattle.xml_tokens.proofs.Rooms.{all_due, ended, kept_of}
use Rattle.xml_tokens.proofs.Answers as answers
use Rattle.xml_tokens.proofs.Answers.{Short, Answered, answered}
use Rattle.xml_tokens.proofs.Flat.{event_from, laid-front, flat-resolved, flat_good}
use Rattle.xml_tokens.proofs.Ranges.{due-good}
use Rattle.xml_tokens.proofs.Numbering.{numbered-attributes, attributes-append}
use Rattle.xml_tokens.proofs.Telling.{told-against}

pub not-below : (a b : ℕ) → ¬ (a < b) → b ≤ a
not-below a b h = by (ltb a b) refl
  where
    by : (x : Bool) → ltb a b ≡ x → b ≤ a
    by true e = absurd (h (ltb-true a b e))
    by false e = ltb-false a b e

text-bare : (s : List ℕ) → attributes_in (text_said s) ≡ 0
text-bare [] = refl
text-bare (c ∷ s) = refl

pub room_most : (words : ℕ) → room_of words ≤ most_entries
unfolding room_of
room_most words = by (ltb (words / 5) most_entries) refl
  where
    by : (x : Bool) → ltb (words / 5) most_entries ≡ x → cond x (words / 5) most_entries ≤ most_entries
    by true e = let z = ltb-true (words / 5) most_entries e in omega arith
    by false e = omega arith

module _ (s : List ℕ) where
  abbrev pub event_records : List Rec
  event_records = events_due (all_due s)

  abbrev pub attribute_records : List Rec
  attribute_records = attributes_due (all_due s)

  -- ---- an accepted document
  module _ (e a n m : ℕ) where
    pub record Accepted : Type 0 where
      pub within : length s ≤ most_bytes
      pub roomy : ¬ Short s e a
      pub judged : verdict s ≡ accepted
      pub result : tokens s e a ≡ resulting (read (kept_of s)) e a
      pub events : n ≡ length event_records
      pub attributes : m ≡ length attribute_records

    pub is-accepted : (tokens s e a).answer ≡ done-with n m → Accepted
    unfolding resulting
    is-accepted h = by (answered s e a)
      where
        judging : (v : Verdict) → verdict s ≡ v → length s ≤ most_bytes → ¬ Short s e a → tokens s e a ≡ resulting (ended v (kept_of s)) e a → Accepted
        judging accepted q l x t = let w = ap (λ (r : Result). r.answer) t in record { within = l; roomy = x; judged = q; result = t; events = cc; attributes = cc }
        judging (bad p) q l x t = let w = ap (λ (r : Result). r.answer) t in let z : ◌≡◌ {A = ℕ} 0 1 = cc in absurd (omega arith)
        judging (doctype p) q l x t = let w = ap (λ (r : Result). r.answer) t in let z : ◌≡◌ {A = ℕ} 0 1 = cc in absurd (omega arith)

        by : Answered s e a → Accepted
        by (answers.over l t) = let w = ap (λ (r : Result). r.answer) t in let z : ◌≡◌ {A = ℕ} 0 1 = cc in absurd (omega arith)
        by (answers.short l x t) = let w = ap (λ (r : Result). r.answer) t in let z : ◌≡◌ {A = ℕ} 0 1 = cc in absurd (omega arith)
        by (answers.told l x t) = judging (verdict s) refl l x t

    module _ (g : Accepted) where
      events-flat : take (n * 5) (tokens s e a).events ≡ flat event_records
      unfolding resulting
      events-flat = (λ i. take (g.events i * 5) (g.result i).events) ∙ laid-front event_records e

      attributes-flat : take (m * 5) (tokens s e a).attributes ≡ flat attribute_records
      unfolding resulting
      attributes-flat = (λ i. take (g.attributes i * 5) (g.result i).attributes) ∙ laid-front attribute_records a

      few-events : length event_records ≤ most_entries
      few-events = let r = room_most e in let l = not-below (room_of e) (length event_records) (λ h. g.roomy (inl h)) in omega arith

      few-attributes : length attribute_records ≤ most_entries
      few-attributes = let r = room_most a in let l = not-below (room_of a) (length attribute_records) (λ h. g.roomy (inr h)) in omega arith

      good_of : check_of (take (n * 5) (tokens s e a).events) (take (m * 5) (tokens s e a).attributes) s ≡ Ok tt
      good_of =
          (λ i. check_of (events-flat i) (attributes-flat i) s)
          ∙ flat_good event_records attribute_records s (due-good s).0 (due-good s).1 few-events few-attributes g.within

      resolved_of : resolve (take (n * 5) (tokens s e a).events) (take (m * 5) (tokens s e a).attributes) s ≡ map (event_from s attribute_records) event_records
      resolved_of = (λ i. resolve (events-flat i) (attributes-flat i) s) ∙ flat-resolved event_records attribute_records s (due-good s).0

-- THEOREM: the table passes refusal 11
pub table-good : (s : List ℕ) (e a n m : ℕ) → (tokens s e a).answer ≡ done-with n m →
    check_of (take (n * 5) (tokens s e a).events) (take (m * 5) (tokens s e a).attributes) s ≡ Ok tt
table-good s e a n m h = good_of s e a n m (is-accepted s e a n m h)

-- THEOREM: all that is due of a document, resolved, is the events of any derivation
pub due-right : {s : List ℕ} (w : WellFormed s) → map (event_from s (attribute_records s)) (event_records s) ≡ events_of w
due-right {s} w = let c = complete w in (told-against s epilog c.0 c.1 refl).tells.events ∙ ap (numbered 0) c.2

pub due-events : {s : List ℕ} (w : WellFormed s) → length (event_records s) ≡ length (events_of w)
due-events {s} w = sym (length-map (event_records s) (event_from s (attribute_records s))) ∙ ap length (due-right w)

pub due-attributes : {s : List ℕ} (w : WellFormed s) → length (attribute_records s) ≡ attributes_in (events_of w)
due-attributes {s} w =
    let c = complete w in
    let p = attributes-append c.0.events (text_said c.0.mark ++ (Eof ∷ [])) in
    let q = attributes-append (text_said c.0.mark) (Eof ∷ []) in
    let o = text-bare c.0.mark in
    let z = (told-against s epilog c.0 c.1 refl).counts in
    let y : attributes_in c.0.events ≡ attributes_in (c.0.events ++ (text_said c.0.mark ++ (Eof ∷ []))) = omega arith in
    z ∙ y ∙ ap attributes_in c.2 ∙ sym (numbered-attributes 0 (document_of w.derived))

-- THEOREM: the table resolves to the events of any derivation
pub table-right : (s : List ℕ) (e a n m : ℕ) → (tokens s e a).answer ≡ done-with n m → (w : WellFormed s) →
    resolve (take (n * 5) (tokens s e a).events) (take (m * 5) (tokens s e a).attributes) s ≡ events_of w
table-right s e a n m h w = resolved_of s e a n m (is-accepted s e a n m h) ∙ due-right w
