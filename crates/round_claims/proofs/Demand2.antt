-- Demand 2, whole: each of its claims holds. Assumes nothing.
use Prim.Native.Nat.{ℕ, ◌+◌, ◌/◌, min, ◌≤◌}
use mathlib.Core.Path.{◌≡◌, refl, sym, ap, ◌∙◌}
use mathlib.Core.List.{List}
use mathlib.Core.Bool.{Bool, true, cond}
use mathlib.Core.Option.{some}
use mathlib.Core.Logic.{◌⊎◌, inl, inr}
use native.Mathlib.Omega.{arith}
use borrow.Author.Tests.{le-leb}
use lib.ListN.{length}
use Rattle.public_claims.specs.of_area.Limits.{most_records, most_bytes}
use Rattle.public_claims.specs.of_area.Answer.{Answer}
use Rattle.public_claims.specs.of_refusal.Refusal.{number, OfRules, Refused, Outcome, accepted, refused, late}
use Rattle.public_claims.specs.of_refusal.declared.Cause.TheVariants.{BadTable, OutputFull}
use Rattle.public_claims.specs.of_tree_report.Report.{Report}
use Rattle.public_claims.specs.of_tree_report.Encode.{rows_of, words_of, text_of, fits as fitsAreas}
use Rattle.public_claims.proofs.of_tree_report.Encode.{encode-layout, encode-report}
use Rattle.public_claims.specs.of_read_element.Outcome.{◌>>=◌, Rooms, rooms_of, unlimited}
use Rattle.public_claims.proofs.of_read_element.Rooms.{short-refusal}
use Rattle.public_claims.specs.of_read_machine.Machine.{Machine, run, begin}
use Rattle.public_claims.specs.of_read_machine.Reading.{Read, read_as, reading}
use Rattle.public_claims.specs.of_read_machine.Reading as present
use Rattle.public_claims.proofs.of_read_machine.RoomsNumbers.{run-number, rules-not-short}
use Rattle.public_claims.proofs.of_read_machine.RoomsReading.{report_in, table-refuses, reading-refuses, deserialize-refuses, areas-suffice}
use Rattle.public_claims.specs.of_read_report.Deserialize.{Reader, steps, deserialize, deserialize_in}
use Rattle.public_claims.specs.of_read_report.Deserialize as new
use Rattle.public_claims.specs.of_read_report.Answer.{Table, Areas, events_of, checked, answer_to, Holds}
use Rattle.public_claims.specs.of_read_report.Called.{called}
use Rattle.public_claims.proofs.of_read_report.Tables.{report-on-values, refused-on-values, refused-over-words, refusal_on-values, refusal_over-words}
use Rattle.public_claims.proofs.of_read_report.Tables.{accepted-over-words, accepted-on-values, accepts-only, run-behind, refused-there, same_in}
use Rattle.round_sound.specs.of_write_report.Written.{written}
use Rattle.round_sound.specs.of_write_table.Laid.{laid_out, fits}
use Rattle.round_trip.specs.of_write_answer.Answer.{Sizes, outcome_of}
use Rattle.round_trip.proofs.of_write_resolved.Resolved.{resolve-written, table-written}
use Rattle.public_claims.specs.of_list_text.Listing.{render}
use Rattle.public_claims.specs.Demand3.{listed_in, printed, listing, IsReport, RefusesTable, RefusesEvents, LacksRoom}
use Rattle.round_sound.specs.of_round_elements.Plain.{plain, sound}
use Rattle.round_sound.proofs.Sound.{layout-sound, layout-rows, layout-room}
use Rattle.round_trip.specs.of_round_rooms.inside.Sums.{pieces}
use Rattle.round_trip.proofs.of_round_rooms.Sufficing.{run-suffices}
use Rattle.round_trip.proofs.of_round_rooms.Sparing.{run-spared}
use Rattle.scratch_claims.specs.Scratch.{longest}
use Rattle.scratch_claims.proofs.Scratch.{enough}
use Rattle.round_trip.proofs.of_round_report.PlainParts.{conditions}
use Rattle.round_trip.proofs.of_round_report.Reports.{read_back}
use Rattle.round_trip.proofs.OwnTable.{own-bytes, Roomy, own-accepted}
use Rattle.round_trip.proofs.Areas.{sizes_of, write-accepts, events-used, attributes-used, bytes-used}
use Rattle.round_claims.specs.Demand2.{Passes, Short, Suffice, Ample, Longer, Lent, answer_of, in_use, own_table, Wrote, lent_limits, limits, Back, Placed, Demand2}
use Rattle.round_claims.proofs.Layouts.{words-length, text-length, words-lent, text-lent}

-- ---- either answer
either : {A : Type 0} (o : Outcome A) → ((a : A) × (o ≡ accepted a)) ⊎ ((why : Refused) × (o ≡ refused why))
either (accepted a) = inl (a, refl)
either (refused why) = inr (why, refl)

both-answers : {A B : Type 0} {o : Outcome A} {a : A} {why : Refused} → o ≡ accepted a → o ≡ refused why → B
both-answers p q = let z : ◌≡◌ {A = ℕ} 0 1 = cc in absurd (omega arith)

same-refusal : {A : Type 0} {o : Outcome A} {p q : Refused} → o ≡ refused p → o ≡ refused q → p ≡ q
same-refusal x y = cc

same-report : {o : Outcome Report} {r q : Report} → o ≡ accepted r → o ≡ accepted q → r ≡ q
same-report x y = cc

-- 12, 13 and 14
short-number : (why : Refused) → LacksRoom why → 12 ≤ number why.cause
short-number why (inl e) = let z : number why.cause ≡ 12 = ap number e in omega arith
short-number why (inr (inl e)) = let z : number why.cause ≡ 13 = ap number e in omega arith
short-number why (inr (inr e)) = let z : number why.cause ≡ 14 = ap number e in omega arith

-- what the rules of reading refuse has one of their numbers
events-number : (t : Table) (why : Refused) → RefusesEvents t why → OfRules (number why.cause)
unfolding present.deserialize
events-number t why e = run-number (events_of t) begin why (refused-there report_in (run unlimited (events_of t) begin) why (refused-over-words t why e))

module _ (t : Table) (a : Areas) where
  refuses-table : (why : Refused) → RefusesTable t why → answer_to t a ≡ refused why
  unfolding answer_to ◌>>=◌
  refuses-table why e = ap (λ (o : Outcome (Unit {0})). o >>= λ _. deserialize_in (rooms_of a.words a.text a.scratch) (events_of t)) e

  -- what the call accepts it answers with the report that the rules give
  answers_with : (r : Report) → (called t a).outcome ≡ accepted tt → IsReport t r → answer_to t a ≡ accepted r
  answers_with r e d =
      let h = accepted-on-values t a e in
      h.1 ∙ ap accepted (same-report (accepts-only t a h.0 h.1).1 d)

  -- ---- A
  abbrev Refuses : Refused → Type 0
  Refuses why = (RefusesTable t why × (why.cause ≡ BadTable)) ⊎ (LacksRoom why ⊎ (RefusesEvents t why × OfRules (number why.cause)))

  refuses-for : (why : Refused) → answer_to t a ≡ refused why → Refuses why
  refuses-for why e = go (reading-refuses t.events t.attributes t.source a.words a.text a.scratch why (refusal_over-words t a why e))
    where
      go : (RefusesTable t why × (why.cause ≡ BadTable)) ⊎ (LacksRoom why ⊎ ((present.deserialize (events_of t) ≡ refused why) × OfRules (number why.cause))) → Refuses why
      go (inl h) = inl h
      go (inr (inl h)) = inr (inl h)
      go (inr (inr h)) = inr (inr (refused-on-values t why h.0, h.1))

  accepts-all : (r : Report) → Passes t → IsReport t r → (answer_to t a ≡ accepted r) ⊎ Short t a
  accepts-all r p d = go (either (answer_to t a))
    where
      short : (why : Refused) → answer_to t a ≡ refused why → Refuses why → Short t a
      short why e (inl h) = both-answers p h.0
      short why e (inr (inl h)) = record { why = why; refuses = e; lacks = h }
      short why e (inr (inr h)) = both-answers d h.0

      go : ((q : Report) × (answer_to t a ≡ accepted q)) ⊎ ((why : Refused) × (answer_to t a ≡ refused why)) → (answer_to t a ≡ accepted r) ⊎ Short t a
      go (inl h) = inl (h.1 ∙ ap accepted (same-report (accepts-only t a h.0 h.1).1 d))
      go (inr h) = inr (short h.0 h.1 (refuses-for h.0 h.1))

  -- ---- B
  refuses-only : (why : Refused) → answer_to t a ≡ refused why → (RefusesTable t why × (number why.cause ≡ 11)) ⊎ ((RefusesEvents t why × OfRules (number why.cause)) ⊎ LacksRoom why)
  refuses-only why e = go (refuses-for why e)
    where
      go : Refuses why → (RefusesTable t why × (number why.cause ≡ 11)) ⊎ ((RefusesEvents t why × OfRules (number why.cause)) ⊎ LacksRoom why)
      go (inl h) = inl (h.0, ap number h.1)
      go (inr (inl h)) = inr (inr h)
      go (inr (inr h)) = inr (inl h)

  refuses-all : (why : Refused) → Passes t → RefusesEvents t why → (answer_to t a ≡ refused why) ⊎ Short t a
  refuses-all why p d =
      let h = deserialize-refuses t.events t.attributes t.source a.words a.text a.scratch why (refused-over-words t why d) in
      go h.0 (refusal_on-values t a h.0 h.1) h.2
    where
      go : (q : Refused) → answer_to t a ≡ refused q → (q ≡ why) ⊎ (LacksRoom q ⊎ RefusesTable t q) → (answer_to t a ≡ refused why) ⊎ Short t a
      go q e (inl h) = inl (e ∙ ap refused h)
      go q e (inr (inl h)) = inr (record { why = q; refuses = e; lacks = h })
      go q e (inr (inr h)) = both-answers p h

  -- ---- C
  ends_with : (y : Reader) → steps unlimited (events_of t) new.begin ≡ accepted y → IsReport t y.draft.report
  unfolding deserialize deserialize_in ◌>>=◌
  ends_with y e = ap (λ (o : Outcome Reader). o >>= λ s. accepted s.draft.report) e

  -- scratch that holds the longest text is as good as more: what more scratch doesn't cut off, this one doesn't
  abbrev roomy : ℕ → Rooms
  roomy k = record { records = some (min (a.words / 32) most_records); text = some (min a.text most_bytes); scratch = some k }

  free_of : (k : ℕ) → longest (events_of t) ≤ min a.scratch most_bytes → min a.scratch most_bytes ≤ k
      → run (roomy k) (events_of t) begin ≡ run unlimited (events_of t) begin → answer_to t a ≡ checked t >>= λ _. deserialize (events_of t)
  unfolding answer_to deserialize
  free_of k l m e =
      let here = enough (roomy k) (min a.scratch most_bytes) (events_of t) l in
      let there = enough (roomy k) k (events_of t) (omega (arith, l, m)) in
      ap (λ (o : Outcome Report). checked t >>= λ _. o) (here ∙ sym there ∙ same_in t (roomy k) unlimited e)

  areas-enough : Passes t → (s : Suffice t a) → answer_to t a ≡ accepted s.last.draft.report
  unfolding ◌>>=◌
  areas-enough p h =
      let b = run-behind t h.last h.ends in
      let x : length b.machine.content.records ≤ min (a.words / 32) most_records = let e = b.final.records in let l = h.records in omega (arith, e, l) in
      let y : length b.machine.content.texts ≤ min a.text most_bytes = let e = b.final.text in let l = h.texts in omega (arith, e, l) in
      let k : ℕ = min a.scratch most_bytes + pieces (events_of t) in
      free_of k h.scratch (omega arith)
      (run-suffices (events_of t) b.machine (min (a.words / 32) most_records) (min a.text most_bytes) k b.ran x y (omega arith) ∙ sym b.ran)
      ∙ ap (λ (o : Outcome (Unit {0})). o >>= λ _. deserialize (events_of t)) p
      ∙ ends_with h.last h.ends

  never-short : Ample t a → ¬ Short t a
  unfolding ◌>>=◌
  never-short h s = go (either (checked t))
    where
      free : answer_to t a ≡ checked t >>= λ _. deserialize (events_of t)
      free =
          let k : ℕ = min a.scratch most_bytes + pieces (events_of t) in
          free_of k h.scratch (omega arith) (run-spared (min (a.words / 32) most_records) (min a.text most_bytes) k (events_of t) h.records h.texts (omega arith))

      go : ((u : Unit {0}) × (checked t ≡ accepted u)) ⊎ ((why : Refused) × RefusesTable t why) → ⊥
      go (inl p) =
          let e : deserialize (events_of t) ≡ refused s.why = sym (ap (λ (o : Outcome (Unit {0})). o >>= λ _. deserialize (events_of t)) p.1) ∙ sym free ∙ s.refuses in
          rules-not-short s.why.cause (events-number t s.why e) s.lacks
      go (inr q) =
          let z : q.0 ≡ s.why = same-refusal (refuses-table q.0 q.1) s.refuses in
          let e : number s.why.cause ≡ 11 = ap (λ (w : Refused). number w.cause) (sym z) ∙ ap number (table-refuses t.events t.attributes t.source q.0 q.1) in
          omega (arith, e, short-number s.why s.lacks)

  -- the answer doesn't depend on what is left
  same_answer : (n m k : ℕ) (o : Outcome Machine) → (read_as n m k o).outcome ≡ (read_as a.words a.text a.scratch o).outcome
  unfolding read_as
  same_answer n m k (accepted s) = refl
  same_answer n m k (refused why) = refl

  called-alike : (b : Areas) → Longer a b → ¬ Short t a → (called t b).outcome ≡ (called t a).outcome
  unfolding reading
  called-alike b l h =
      ap (λ (r : Read). r.outcome)
      (areas-suffice t.events t.attributes t.source a.words a.text a.scratch b.words b.text b.scratch
      l.words l.text l.scratch (λ s. h (let q = short-refusal s in record { why = q.0; refuses = refusal_on-values t a q.0 q.1; lacks = q.2 })))
      ∙ same_answer b.words b.text b.scratch (checked t >>= λ _. run (rooms_of a.words a.text a.scratch) (events_of t) begin)

longer-alike : (t : Table) (a b : Areas) → Longer a b → ¬ Short t a → answer_to t b ≡ answer_to t a
longer-alike t a b l h = go (either (answer_to t a))
  where
    go : ((q : Report) × (answer_to t a ≡ accepted q)) ⊎ ((why : Refused) × (answer_to t a ≡ refused why)) → answer_to t b ≡ answer_to t a
    go (inl q) = answers_with t b q.0 (called-alike t a b l h ∙ accepted-over-words t a q.0 q.1) (accepts-only t a q.0 q.1).1 ∙ sym q.1
    go (inr q) = refusal_on-values t b q.0 (called-alike t a b l h ∙ refusal_over-words t a q.0 q.1) ∙ sym q.1

-- ---- D
module _ (words text : List ℕ) (r : Report) (a : Lent) (h : Holds r words text) (f : fits (laid_out (written r)) a.events a.attributes a.bytes ≡ true) where
  whole-table : in_use words text a (sizes_of r) ≡ own_table r
  whole-table =
      let p = events-used words text r h.whole h.report a.events a.attributes a.bytes f in
      let q = attributes-used words text r h.whole h.report a.events a.attributes a.bytes f in
      let s = bytes-used words text r h.whole h.report a.events a.attributes a.bytes f in
      λ i. record { events = p i; attributes = q i; source = s i }

  writes-so : answer_of words text a ≡ accepted (sizes_of r)
  writes-so = ap (λ (x : Answer Sizes). outcome_of x) (write-accepts words text r h.whole h.report a.events a.attributes a.bytes f)

  writes-whole : Wrote words text r a
  writes-whole =
      record {
        numbers = sizes_of r;
        writes = writes-so;
        whole = whole-table;
        passes = ap checked whole-table ∙ table-written r a.events a.attributes a.bytes f;
        events = ap events_of whole-table ∙ resolve-written r;
      }

-- ---- E
own-given : (r : Report) → sound r ≡ true → plain r ≡ true → IsReport (own_table r) r
own-given r s p = report-on-values (own_table r) r (ap present.deserialize (resolve-written r) ∙ read_back r s p)

on-lists : (r : Report) → sound r ≡ true → plain r ≡ true → deserialize (written r) ≡ accepted r
on-lists r s p = ap deserialize (sym (resolve-written r)) ∙ own-given r s p

module _ (r : Report) (p : plain r ≡ true) (s : sound r ≡ true) (n : length (rows_of r) ≤ most_records) where
  limits-room : (output : ℕ) → Roomy r (limits output).words (limits output).text (limits output).scratch
  limits-room output = let l = own-bytes r p in record { records = omega arith; texts = omega arith; pieces = omega arith }

  pub own-answer : (output : ℕ) → answer_to (own_table r) (limits output) ≡ accepted r
  own-answer output = answers_with (own_table r) (limits output) r (own-accepted r s p (limits-room output)) (own-given r s p)

  back : (words text : List ℕ) → Holds r words text → Back words text r
  back words text h =
      let f = (conditions r p).fits in
      let e = whole-table words text r lent_limits h f in
      record {
        numbers = sizes_of r;
        writes = writes-so words text r lent_limits h f;
        reads = λ o. ap (λ (t : Table). answer_to t (limits o)) e ∙ own-answer o;
      }

  -- ---- F
  pub own-listing : (output : ℕ) → length (render r) ≤ output → listing (own_table r) (limits output) ≡ render r
  own-listing output h =
      ap (λ (o : Outcome Report). printed (listed_in output o)) (own-answer output)
      ∙ ap (λ (b : Bool). printed (cond b (accepted (render r)) (refused (late OutputFull)))) (le-leb (length (render r)) output h)

-- ---- G
lays-out : (r : Report) (n m : ℕ) → fitsAreas r n m ≡ true → Placed r n m
lays-out r n m f =
    record {
      words = words_of r n;
      text = text_of r m;
      words_length = words-length r n;
      text_length = text-length r m;
      words_lent = words-lent r n m f;
      text_lent = text-lent r n m f;
      holds = record { whole = encode-layout r n m f; report = encode-report r n m f };
    }

rows-room : (words text : List ℕ) (r : Report) → Holds r words text → length (rows_of r) ≤ min (length words / 32) most_records
rows-room words text r h =
    let a = layout-rows words text r h.whole h.report in
    let b = layout-room words text r h.whole h.report in
    omega arith

pub demand_2 : Demand2
demand_2 =
    record {
      accepts_only = accepts-only;
      accepts_all = accepts-all;
      refuses_only = refuses-only;
      refuses_table = refuses-table;
      refuses_all = refuses-all;
      suffices = areas-enough;
      never_short = never-short;
      longer = longer-alike;
      writes = writes-whole;
      on_lists = on-lists;
      on_areas = λ words text r w h p. back r p (layout-sound words text r w h.whole h.report) (layout-rows words text r h.whole h.report) words text h;
      own_listing = λ words text r output w h p. own-listing r p (layout-sound words text r w h.whole h.report) (layout-rows words text r h.whole h.report) output;
      lays_out = lays-out;
      holds_fitting = λ words text r w h. (layout-sound words text r w h.whole h.report, rows-room words text r h);
    }
