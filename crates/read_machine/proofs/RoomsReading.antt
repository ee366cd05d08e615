-- Reading with areas and without: the same report, the same refusal, or 12, 13 or 14. Assumes nothing.
use Prim.Native.Nat.{ℕ, ◌≤◌}
use mathlib.Core.Path.{◌≡◌, refl, sym, ap, ◌∙◌}
use mathlib.Core.List.{List, []}
use mathlib.Core.Option.{Option}
use mathlib.Core.Logic.{◌⊎◌, inl, inr}
use native.Mathlib.Omega.{arith}
use Rattle.text_pieces.specs.of_refusal.Refusal.{number, OfRules, Refused, Outcome, accepted, refused}
use Rattle.table_events.specs.of_table.Event.{Event, resolve}
use Rattle.table_events.specs.of_table.Table.{check_of, checked_answer, table_of, Checked}
use Rattle.std.specs.Prelude.{Ok, Err}
use Rattle.read_path.specs.of_tree_report.Report.{Report}
use Rattle.read_path.specs.of_tree_report.ReportOf.{report_from, only}
use Rattle.read_path.specs.of_tree_report.Fields.{live}
use Rattle.read_path.specs.of_read_element.Outcome.{◌>>=◌, rooms_of, unlimited}
use Rattle.read_path.proofs.of_read_element.Rooms.{IsShort, Short, lacking, short-refusal, Agrees, accepts, refuses-so, refuses-too, suffices, wider-unlimited, wider-areas}
use Rattle.read_machine.specs.Machine.{Machine, run, begin}
use Rattle.read_machine.specs.Reading.{reading, read_as, deserialize}
use Rattle.read_machine.proofs.Rooms.{run-agrees, rooms-suffice}
use Rattle.read_machine.proofs.RoomsNumbers.{run-number}
use Rattle.text_pieces.specs.of_refusal.declared.Cause.TheVariants as cause

-- the report in what reading left
abbrev pub report_in : Machine → Option Report
report_in s = report_from s.content.texts (only live s.content.records)

deserialize-of : (es : List Event) (m : Outcome Machine) → run unlimited es begin ≡ m → deserialize es ≡ (m >>= λ s. accepted (report_in s))
unfolding deserialize
deserialize-of es m e = ap (λ (n : Outcome Machine). n >>= λ s. accepted (report_in s)) e

run-refuses : (m : Outcome Machine) (r : Refused) → (m >>= λ s. accepted (report_in s)) ≡ refused r → m ≡ refused r
unfolding ◌>>=◌
run-refuses (accepted s) r e = let z : ◌≡◌ {A = ℕ} 0 1 = cc in absurd (omega arith)
run-refuses (refused q) r e = let z : q ≡ r = cc in ap refused z

-- the answer that a table's check and a run come to
abbrev both : ℕ → ℕ → ℕ → Outcome (Unit {0}) → Outcome Machine → Outcome (Unit {0})
both words text scratch t m = (read_as words text scratch (t >>= λ _. m)).outcome

both_accept : (words text scratch : ℕ) (t : Outcome (Unit {0})) (m : Outcome Machine) → both words text scratch t m ≡ accepted tt →
    (s : Machine) × (m ≡ accepted s) × (read_as words text scratch (t >>= λ _. m) ≡ read_as words text scratch (accepted s))
unfolding read_as ◌>>=◌
both_accept words text scratch (accepted u) (accepted s) e = (s, refl, refl)
both_accept words text scratch (accepted u) (refused q) e = let z : ◌≡◌ {A = ℕ} 0 1 = cc in absurd (omega arith)
both_accept words text scratch (refused q) m e = let z : ◌≡◌ {A = ℕ} 0 1 = cc in absurd (omega arith)

both-refuse : (words text scratch : ℕ) (t : Outcome (Unit {0})) (m : Outcome Machine) (r : Refused) → both words text scratch t m ≡ refused r → (t ≡ refused r) ⊎ (m ≡ refused r)
unfolding read_as ◌>>=◌
both-refuse words text scratch (accepted u) (accepted s) r e = let z : ◌≡◌ {A = ℕ} 0 1 = cc in absurd (omega arith)
both-refuse words text scratch (accepted u) (refused q) r e = let z : q ≡ r = cc in inr (ap refused z)
both-refuse words text scratch (refused q) m r e = let z : q ≡ r = cc in inl (ap refused z)

-- a run that refuses is refused, unless its table is
one-refuses : (words text scratch : ℕ) (t : Outcome (Unit {0})) (m : Outcome Machine) (r : Refused) → m ≡ refused r →
    (both words text scratch t m ≡ refused r) ⊎ ((q : Refused) × (both words text scratch t m ≡ refused q) × (t ≡ refused q))
unfolding read_as ◌>>=◌
one-refuses words text scratch (accepted u) m r e = inl (ap (λ (n : Outcome Machine). (read_as words text scratch n).outcome) e)
one-refuses words text scratch (refused q) m r e = inr (q, refl, refl)

run_short : (words text scratch : ℕ) {m : Outcome Machine} → Short m → Short (read_as words text scratch m).outcome
unfolding read_as
run_short words text scratch (lacking h) = lacking h

both_suffice : (words text scratch : ℕ) (t : Outcome (Unit {0})) (m n : Outcome Machine) → ¬ Short (both words text scratch t m) → (¬ Short m → n ≡ m) → (t >>= λ _. n) ≡ (t >>= λ _. m)
unfolding ◌>>=◌
both_suffice words text scratch (accepted u) m n h e = e λ s. h (run_short words text scratch s)
both_suffice words text scratch (refused q) m n h e = refl

-- a table's refusal has its own cause
pub table-refuses : (events attributes source : List ℕ) (r : Refused) → table_of events attributes source ≡ refused r → r.cause ≡ cause.BadTable
table-refuses events attributes source r e = go (check_of events attributes source) e
  where
    go : (c : Checked) → checked_answer c ≡ refused r → r.cause ≡ cause.BadTable
    go (Ok u) q = let z : ◌≡◌ {A = ℕ} 0 1 = cc in absurd (omega arith)
    go (Err (i, j)) q = let z : record { cause = cause.BadTable; path = []; event = i; attribute = j } ≡ r = cc in sym (ap (λ (x : Refused). x.cause) z)

module _ (events attributes source : List ℕ) (words text scratch : ℕ) where
  abbrev table : Outcome (Unit {0})
  table = table_of events attributes source

  abbrev es : List Event
  es = resolve events attributes source

  abbrev lent : Outcome Machine
  lent = run (rooms_of words text scratch) es begin

  abbrev answer : Outcome (Unit {0})
  answer = (reading events attributes source words text scratch).outcome

  agree : Agrees lent (run unlimited es begin)
  agree = run-agrees (rooms_of words text scratch) unlimited (wider-unlimited (rooms_of words text scratch)) es begin

  -- if reading accepts, the report in the records and texts that it left is the one that deserializing gives
  pub reading-accepts : answer ≡ accepted tt →
      (s : Machine) × (lent ≡ accepted s) × (reading events attributes source words text scratch ≡ read_as words text scratch (accepted s)) × (deserialize es ≡ accepted (report_in s))
  unfolding reading ◌>>=◌
  reading-accepts e =
      let h = both_accept words text scratch table lent e in
      (h.0, h.1, h.2, deserialize-of es (accepted h.0) (accepts h.0 agree h.1))

  -- if reading refuses, the table is refused, or room is lacking, or deserializing refuses alike; the cause tells which
  pub reading-refuses : (r : Refused) → answer ≡ refused r →
      ((table ≡ refused r) × (r.cause ≡ cause.BadTable)) ⊎ (IsShort r.cause ⊎ ((deserialize es ≡ refused r) × OfRules (number r.cause)))
  unfolding reading ◌>>=◌
  reading-refuses r e = go (both-refuse words text scratch table lent r e)
    where
      free : IsShort r.cause ⊎ (run unlimited es begin ≡ refused r) → IsShort r.cause ⊎ ((deserialize es ≡ refused r) × OfRules (number r.cause))
      free (inl h) = inl h
      free (inr q) = inr (deserialize-of es (refused r) q, run-number es begin r q)

      go : (table ≡ refused r) ⊎ (lent ≡ refused r) → ((table ≡ refused r) × (r.cause ≡ cause.BadTable)) ⊎ (IsShort r.cause ⊎ ((deserialize es ≡ refused r) × OfRules (number r.cause)))
      go (inl q) = inl (q, table-refuses events attributes source r q)
      go (inr q) = inr (free (refuses-so r agree q))

  pub reading-refuses_so : (r : Refused) → answer ≡ refused r → ¬ (r.cause ≡ cause.BadTable) → ¬ IsShort r.cause → deserialize es ≡ refused r
  reading-refuses_so r e n k = go (reading-refuses r e)
    where
      go : ((table ≡ refused r) × (r.cause ≡ cause.BadTable)) ⊎ (IsShort r.cause ⊎ ((deserialize es ≡ refused r) × OfRules (number r.cause))) → deserialize es ≡ refused r
      go (inl q) = absurd (n q.1)
      go (inr (inl h)) = absurd (k h)
      go (inr (inr q)) = q.0

  -- if deserializing refuses, so does reading: alike, or for lack of room, or for the table
  pub deserialize-refuses : (r : Refused) → deserialize es ≡ refused r →
      (q : Refused) × (answer ≡ refused q) × ((q ≡ r) ⊎ (IsShort q.cause ⊎ (table ≡ refused q)))
  unfolding reading
  deserialize-refuses r e = told (refuses-too r agree (run-refuses (run unlimited es begin) r (sym (deserialize-of es (run unlimited es begin) refl) ∙ e)))
    where
      go : (q : Refused) → (q ≡ r) ⊎ IsShort q.cause →
          (answer ≡ refused q) ⊎ ((p : Refused) × (answer ≡ refused p) × (table ≡ refused p)) →
          (q : Refused) × (answer ≡ refused q) × ((q ≡ r) ⊎ (IsShort q.cause ⊎ (table ≡ refused q)))
      go q (inl k) (inl a) = (q, a, inl k)
      go q (inr k) (inl a) = (q, a, inr (inl k))
      go q (inl k) (inr p) = (p.0, p.1, inr (inr p.2))
      go q (inr k) (inr p) = (p.0, p.1, inr (inr p.2))

      told : (lent ≡ refused r) ⊎ Short lent → (q : Refused) × (answer ≡ refused q) × ((q ≡ r) ⊎ (IsShort q.cause ⊎ (table ≡ refused q)))
      told (inl k) = go r (inl refl) (one-refuses words text scratch table lent r k)
      told (inr k) = let s = short-refusal k in go s.0 (inr s.2) (one-refuses words text scratch table lent s.0 s.1)

  -- where the areas suffice, reading is the run without areas
  pub reading-suffices : ¬ Short answer → reading events attributes source words text scratch ≡ read_as words text scratch (table >>= λ _. run unlimited es begin)
  unfolding reading
  reading-suffices h = ap (read_as words text scratch) (sym (both_suffice words text scratch table lent (run unlimited es begin) h (suffices agree)))

  -- where the areas suffice, longer ones get the same answer, records and texts
  pub areas-suffice : (words' text' scratch' : ℕ) → words ≤ words' → text ≤ text' → scratch ≤ scratch' → ¬ Short answer →
      reading events attributes source words' text' scratch' ≡ read_as words' text' scratch' (table >>= λ _. lent)
  unfolding reading
  areas-suffice words' text' scratch' a b c h =
      ap (read_as words' text' scratch')
      (both_suffice words text scratch table lent (run (rooms_of words' text' scratch') es begin) h
      (rooms-suffice (rooms_of words text scratch) (rooms_of words' text' scratch') (wider-areas words words' text text' scratch scratch' a b c) es begin))
