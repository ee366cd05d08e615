-- What reading refuses: its number, its path, its areas. Assumes nothing.
use Prim.Native.Nat.{ℕ, ◌≤◌}
use mathlib.Core.Path.{◌≡◌, refl, sym, ap, ◌∙◌}
use mathlib.Core.List.{[]}
use mathlib.Core.Bool.{true}
use mathlib.Core.Logic.{◌⊎◌, inl, inr}
use native.Mathlib.Omega.{arith}
use lib.Dec.{lit≤}
use lib.ListN.{length}
use Rattle.explain_text.specs.of_area.Area.{zeros}
use Rattle.explain_text.specs.of_refusal.Refusal.{number, OfRules, Refused, Outcome, accepted, refused}
use Rattle.explain_text.specs.of_refusal.declared.Cause.{Cause}
use Rattle.explain_text.specs.of_refusal.declared.Cause.TheVariants as cause
use Rattle.explain_text.specs.of_table.Event.{resolve}
use Rattle.explain_text.specs.of_table.Table.{check_of, checked_answer, table_of, Checked}
use Rattle.std.specs.Prelude.{Ok, Err}
use Rattle.xml_listing.specs.of_read_element.Outcome.{◌>>=◌, rooms_of}
use Rattle.xml_listing.proofs.of_read_element.Rooms.{IsShort}
use Rattle.xml_listing.specs.of_read_machine.Machine.{Machine, run, begin}
use Rattle.xml_listing.specs.of_read_machine.Reading.{read_as, reading, deserialize}
use Rattle.xml_listing.proofs.of_read_machine.RoomsReading.{reading-refuses}
use Rattle.xml_listing.specs.of_read_report.Answer.{Table, Areas}
use Rattle.call_claims.specs.Demand1.{all_numbers, read_numbers, is_one_of, Placed, answer_to, ReadZero}
use Rattle.call_claims.proofs.PathsElement.{Told, fine, told, told-path, told-bind}
use Rattle.call_claims.proofs.Paths.{told-run}

-- ---- numbers
-- those that reading doesn't give: 15 to 17, and from 22 on
abbrev IsLate : ℕ → Type 0
IsLate n = ((15 ≤ n) × (n ≤ 17)) ⊎ (22 ≤ n)

-- each cause has a number, which reading gives or doesn't
abbrev Sorted : Cause → Type 0
Sorted c = (is_one_of (number c) all_numbers ≡ true) × ((is_one_of (number c) read_numbers ≡ true) ⊎ IsLate (number c))

sorted : (c : Cause) → Sorted c
sorted cause.XmlFault = (refl, inl refl)
sorted cause.EofInSkip = (refl, inl refl)
sorted cause.NotUtf8 = (refl, inl refl)
sorted cause.BadInteger = (refl, inl refl)
sorted cause.BadTimestamp = (refl, inl refl)
sorted cause.BadTime = (refl, inl refl)
sorted cause.BadUuid = (refl, inl refl)
sorted cause.MissingAttribute = (refl, inl refl)
sorted cause.MissingReport = (refl, inl refl)
sorted cause.EofInElement = (refl, inl refl)
sorted cause.StatusRule = (refl, inl refl)
sorted cause.UnknownEntity = (refl, inl refl)
sorted cause.FaultyAttribute = (refl, inl refl)
sorted cause.RepeatedKey = (refl, inl refl)
sorted cause.BadReference = (refl, inl refl)
sorted cause.BadTable = (refl, inl refl)
sorted cause.RecordsSpent = (refl, inl refl)
sorted cause.TextFull = (refl, inl refl)
sorted cause.ScratchFull = (refl, inl refl)
sorted cause.NotLayout = (refl, inr (inl (lit≤ tt, lit≤ tt)))
sorted cause.OutputFull = (refl, inr (inl (lit≤ tt, lit≤ tt)))
sorted cause.CountLimit = (refl, inr (inl (lit≤ tt, lit≤ tt)))
sorted cause.TooManyCases = (refl, inr (inr (lit≤ tt)))
sorted cause.NoSuchReport = (refl, inr (inr (lit≤ tt)))
sorted cause.TooManyReports = (refl, inl refl)
sorted cause.TimeLimit = (refl, inr (inr (lit≤ tt)))

pub numbered : (c : Cause) → is_one_of (number c) all_numbers ≡ true
numbered c = (sorted c).0

of-rules : (c : Cause) → OfRules (number c) → is_one_of (number c) read_numbers ≡ true
of-rules c r = go (sorted c).1 r
  where
    go : (is_one_of (number c) read_numbers ≡ true) ⊎ IsLate (number c) → OfRules (number c) → is_one_of (number c) read_numbers ≡ true
    go (inl h) r = h
    go (inr (inl l)) (inl h) = let a = l.0 in absurd (omega (arith, a, h))
    go (inr (inl l)) (inr (inl e)) = let b = l.1 in absurd (omega (arith, b, e))
    go (inr (inl l)) (inr (inr e)) = let b = l.1 in absurd (omega (arith, b, e))
    go (inr (inr l)) (inl h) = absurd (omega (arith, l, h))
    go (inr (inr l)) (inr (inl e)) = absurd (omega (arith, l, e))
    go (inr (inr l)) (inr (inr e)) = absurd (omega (arith, l, e))

of-cause : {c d : Cause} → c ≡ d → is_one_of (number d) read_numbers ≡ true → is_one_of (number c) read_numbers ≡ true
of-cause e h = ap (λ (x : Cause). is_one_of (number x) read_numbers) e ∙ h

of_room : (c : Cause) → IsShort c → is_one_of (number c) read_numbers ≡ true
of_room c (inl e) = of-cause e refl
of_room c (inr (inl e)) = of-cause e refl
of_room c (inr (inr e)) = of-cause e refl

pub not_table : {A : Type 0} (c : Cause) → IsShort c ⊎ OfRules (number c) → number c ≡ 11 → A
not_table c (inl (inl h)) e = let z : number c ≡ 12 = ap number h in absurd (omega arith)
not_table c (inl (inr (inl h))) e = let z : number c ≡ 13 = ap number h in absurd (omega arith)
not_table c (inl (inr (inr h))) e = let z : number c ≡ 14 = ap number h in absurd (omega arith)
not_table c (inr (inl h)) e = absurd (omega arith)
not_table c (inr (inr (inl h))) e = absurd (omega arith)
not_table c (inr (inr (inr h))) e = absurd (omega arith)

-- ---- reading
told-table : (c : Checked) → Told (checked_answer c)
told-table (Ok u) = fine
told-table (Err (i, j)) = told (lit≤ tt)

pathless-table : (c : Checked) (why : Refused) → checked_answer c ≡ refused why → why.path ≡ []
pathless-table (Ok u) why e = let z : ◌≡◌ {A = ℕ} 0 1 = cc in absurd (omega arith)
pathless-table (Err (i, j)) why e = let z : record { cause = cause.BadTable; path = []; event = i; attribute = j } ≡ why = cc in sym (ap (λ (x : Refused). x.path) z)

told-as : (n m k : ℕ) {o : Outcome Machine} → Told o → Told (read_as n m k o).outcome
unfolding read_as
told-as n m k fine = fine
told-as n m k (told h) = told h

cleared : (n m k : ℕ) (o : Outcome Machine) (why : Refused) → (read_as n m k o).outcome ≡ refused why
    → ((read_as n m k o).words ≡ zeros n) × ((read_as n m k o).text ≡ zeros m) × ((read_as n m k o).scratch ≡ zeros k)
unfolding read_as
cleared n m k (accepted s) why e = let z : ◌≡◌ {A = ℕ} 0 1 = cc in absurd (omega arith)
cleared n m k (refused q) why e = (refl, refl, refl)

module _ (t : Table) (a : Areas) where
  abbrev table : Outcome (Unit {0})
  table = table_of t.events t.attributes t.source

  abbrev whole : Outcome Machine
  whole = table >>= λ _. run (rooms_of a.words a.text a.scratch) (resolve t.events t.attributes t.source) begin

  pub read-zero : (why : Refused) → answer_to t a ≡ refused why → ReadZero t a
  unfolding reading
  read-zero why e = let h = cleared a.words a.text a.scratch whole why e in record { words = h.0; text = h.1; scratch = h.2 }

  read_short : (why : Refused) → answer_to t a ≡ refused why → length why.path ≤ 6
  unfolding reading
  read_short why e =
      told-path why
      (told-as a.words a.text a.scratch
      (told-bind (told-table (check_of t.events t.attributes t.source)) λ _.
      told-run (rooms_of a.words a.text a.scratch) (resolve t.events t.attributes t.source) begin refl)) e

  pub read-placed : (why : Refused) → answer_to t a ≡ refused why → Placed read_numbers why
  read-placed why e = go (reading-refuses t.events t.attributes t.source a.words a.text a.scratch why e)
    where
      go : ((table ≡ refused why) × (why.cause ≡ cause.BadTable))
          ⊎ (IsShort why.cause ⊎ ((deserialize (resolve t.events t.attributes t.source) ≡ refused why) × OfRules (number why.cause))) → Placed read_numbers why
      go (inl h) =
          record { known = of-cause h.1 refl; short = read_short why e; of_table = λ _. pathless-table (check_of t.events t.attributes t.source) why h.0 }
      go (inr (inl h)) = record { known = of_room why.cause h; short = read_short why e; of_table = not_table why.cause (inl h) }
      go (inr (inr h)) = record { known = of-rules why.cause h.1; short = read_short why e; of_table = not_table why.cause (inr h.1) }
