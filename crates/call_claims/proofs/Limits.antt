-- Behind the words of 12 to 14 and of tokenizing's 16 for areas of the limits' size: no area, however long, helps there (rules E6 and N15).
-- Assumes nothing.
use Prim.Native.Nat.{ℕ, ◌/◌, min, ◌≤◌}
use mathlib.Core.Path.{◌≡◌, refl, sym, ap, ◌∙◌}
use mathlib.Core.List.{List}
use mathlib.Core.Bool.{Bool, true, false, cond}
use mathlib.Core.Option.{some}
use mathlib.Core.Logic.{inl, inr}
use native.Mathlib.Omega.{arith}
use borrow.Author.Tests.{ltb-true, leb-true}
use lib.Dec.{ltb}
use lib.ListN.{length}
use Rattle.explain_text.specs.of_area.Limits.{most_entries, most_records, most_words, most_bytes}
use Rattle.explain_text.specs.of_refusal.Refusal.{nowhere, Refused, Outcome, accepted, refused}
use Rattle.explain_text.specs.of_table.Event.{resolve}
use Rattle.explain_text.specs.of_table.Table.{table_of}
use Rattle.xml_listing.specs.of_read_element.Outcome.{◌>>=◌, Rooms, rooms_of}
use Rattle.xml_listing.proofs.of_read_element.Rooms.{Short, lacking}
use Rattle.xml_listing.specs.of_read_machine.Machine.{Machine, run, begin}
use Rattle.xml_listing.specs.of_read_machine.Reading.{Read, read_as, reading}
use Rattle.xml_listing.proofs.of_read_machine.RoomsReading.{areas-suffice}
use Rattle.xml_listing.specs.of_read_report.Answer.{Table, Areas}
use Rattle.xml_tokens.specs.of_xml_machine.Runs as verdict
use Rattle.xml_tokens.specs.of_xml_machine.Tokens.{Kept, resulting, room_of, tokens}
use Rattle.xml_tokens.specs.of_xml_machine.Tokens as token
use Rattle.xml_tokens.proofs.Rooms.{ended, kept_of}
use Rattle.xml_tokens.proofs.Tables.{room_most}
use Rattle.xml_tokens.proofs.Answers.{Answered, over, short, told, answered}
use Rattle.xml_tokens.proofs.Answers as due
use Rattle.explain_xml.specs.XmlExplanation.{holds_most}
use Rattle.call_claims.specs.Demand1.{answer_to}

-- ---- reading: an area beyond the limits is worth one of the limits' size
abbrev cut : Areas → Areas
cut a = record { words = min a.words most_words; text = min a.text most_bytes; scratch = min a.scratch most_bytes; output = a.output }

abbrev roomed : ℕ → ℕ → ℕ → Rooms
roomed n m k = record { records = some n; text = some m; scratch = some k }

rooms-cut : (words text scratch : ℕ) → rooms_of words text scratch ≡ rooms_of (min words most_words) (min text most_bytes) (min scratch most_bytes)
rooms-cut words text scratch =
    let a : min (words / 32) 65536 ≡ min (min words 2097152 / 32) 65536 = omega arith in
    let b : min text 16777216 ≡ min (min text 16777216) 16777216 = omega arith in
    let c : min scratch 16777216 ≡ min (min scratch 16777216) 16777216 = omega arith in
    ap (λ (n : ℕ). roomed n (min text most_bytes) (min scratch most_bytes)) a
    ∙ ap (λ (n : ℕ). roomed (min (min words most_words / 32) most_records) n (min scratch most_bytes)) b
    ∙ ap (roomed (min (min words most_words / 32) most_records) (min (min text most_bytes) most_bytes)) c

outcome-as : (n m k n' m' k' : ℕ) (o : Outcome Machine) → (read_as n m k o).outcome ≡ (read_as n' m' k' o).outcome
unfolding read_as
outcome-as n m k n' m' k' (accepted s) = refl
outcome-as n m k n' m' k' (refused r) = refl

-- the areas that b has room in, up to the limits, are no longer than those of a
pub record Covers (a b : Areas) : Type 0 where
  pub words : min b.words most_words ≤ a.words
  pub text : min b.text most_bytes ≤ a.text
  pub scratch : min b.scratch most_bytes ≤ a.scratch

not_short : (o : Outcome (Unit {0})) → o ≡ accepted tt → ¬ Short o
not_short o e (lacking h) = let z : ◌≡◌ {A = ℕ} 0 1 = cc in absurd (omega arith)

module _ (t : Table) where
  abbrev ran : Areas → Outcome Machine
  ran a = run (rooms_of a.words a.text a.scratch) (resolve t.events t.attributes t.source) begin

  abbrev through : Outcome Machine → Outcome Machine
  through o = table_of t.events t.attributes t.source >>= λ _. o

  cut-alike : (a : Areas) → answer_to t a ≡ answer_to t (cut a)
  unfolding reading
  cut-alike a =
      outcome-as a.words a.text a.scratch (cut a).words (cut a).text (cut a).scratch (through (ran a))
      ∙ ap (λ (r : Rooms). (read_as (cut a).words (cut a).text (cut a).scratch (through (run r (resolve t.events t.attributes t.source) begin))).outcome)
      (rooms-cut a.words a.text a.scratch)

  -- where reading refuses in a, it doesn't accept in b
  pub no-area_helps : (a b : Areas) (why : Refused) → Covers a b → answer_to t a ≡ refused why → answer_to t b ≡ accepted tt → ⊥
  unfolding reading
  no-area_helps a b why w e q = go (sym (wider ∙ narrow) ∙ e)
    where
      fits : answer_to t (cut b) ≡ accepted tt
      fits = sym (cut-alike b) ∙ q

      wider : answer_to t a ≡ (read_as a.words a.text a.scratch (through (ran (cut b)))).outcome
      wider =
          ap (λ (r : Read). r.outcome)
          (areas-suffice t.events t.attributes t.source (cut b).words (cut b).text (cut b).scratch a.words a.text a.scratch
          w.words w.text w.scratch (not_short (answer_to t (cut b)) fits))

      narrow : (read_as a.words a.text a.scratch (through (ran (cut b)))).outcome ≡ accepted tt
      narrow = outcome-as a.words a.text a.scratch (cut b).words (cut b).text (cut b).scratch (through (ran (cut b))) ∙ fits

      go : ◌≡◌ {A = Outcome (Unit {0})} (accepted tt) (refused why) → ⊥
      go z = let x : ◌≡◌ {A = ℕ} 0 1 = cc in absurd (omega arith)

-- ---- tokenizing
room-all : (words : ℕ) → holds_most words ≡ true → room_of words ≡ most_entries
unfolding room_of
room-all words h = go (ltb (words / 5) most_entries) refl
  where
    go : (x : Bool) → ltb (words / 5) most_entries ≡ x → cond x (words / 5) most_entries ≡ most_entries
    go true e = let y = ltb-true (words / 5) most_entries e in let z = leb-true most_entries (words / 5) h in absurd (omega arith)
    go false e = refl

module _ (s : List ℕ) (e a : ℕ) (full : holds_most e ≡ true) (wide : holds_most a ≡ true) where
  too_many : due.Short s e a → (f b : ℕ) → due.Short s f b
  too_many (inl h) f b = let x = room-all e full in let y = room_most f in inl (omega arith)
  too_many (inr h) f b = let x = room-all a wide in let y = room_most b in inr (omega arith)

  -- 16 in areas of the limits' size comes in areas of every length
  pub no-table_helps : (q : ℕ) → (tokens s e a).answer ≡ token.refused 16 q → (f b : ℕ) → (tokens s f b).answer ≡ token.refused 16 nowhere
  unfolding resulting
  no-table_helps q x f b = first (answered s e a)
    where
      second : length s ≤ most_bytes → due.Short s e a → Answered s f b → (tokens s f b).answer ≡ token.refused 16 nowhere
      second l h (over m y) = absurd (omega arith)
      second l h (short m k y) = ap (λ (r : token.Result). r.answer) y
      second l h (told m k y) = absurd (k (too_many h f b))

      verdict-so : (v : verdict.Verdict) (k : Kept) → (resulting (ended v k) e a).answer ≡ token.refused 16 q → ⊥
      verdict-so verdict.accepted k z = let u : ◌≡◌ {A = ℕ} 0 1 = cc in absurd (omega arith)
      verdict-so (verdict.bad p) k z = let u : ◌≡◌ {A = ℕ} 18 16 = cc in absurd (omega arith)
      verdict-so (verdict.doctype p) k z = let u : ◌≡◌ {A = ℕ} 19 16 = cc in absurd (omega arith)

      first : Answered s e a → (tokens s f b).answer ≡ token.refused 16 nowhere
      first (over l y) =
          let z : token.refused 11 nowhere ≡ token.refused 16 q = sym (ap (λ (r : token.Result). r.answer) y) ∙ x in
          let u : ◌≡◌ {A = ℕ} 11 16 = cc in
          absurd (omega arith)
      first (short l h y) = second l h (answered s f b)
      first (told l h y) = absurd (verdict-so (verdict.verdict s) (kept_of s) (sym (ap (λ (r : token.Result). r.answer) y) ∙ x))
