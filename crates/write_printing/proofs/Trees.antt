-- What is printed of a tree, by what writing answered. Assumes nothing.
use Prim.Native.Nat.{ℕ, ◌*◌, ◌/◌, ◌-◌, ◌≤◌, min}
use mathlib.Core.Path.{◌≡◌, refl, sym, ap, ◌∙◌}
use mathlib.Core.List.{List}
use mathlib.Core.Bool.{Bool, true, false, cond, ◌&&◌}
use native.Mathlib.Omega.{arith}
use borrow.Author.Tests.{leb-true}
use lib.Dec.{leb}
use lib.ListN.{length, take}
use lib.Seq.{take_at}
use Rattle.writer.specs.of_area.Answer.{Answer, gives, refuses}
use Rattle.writer.specs.of_area.Area.{zeros, laid}
use Rattle.writer.specs.of_area.Limits.{most_entries, most_bytes}
use Rattle.writer.proofs.of_area.Laying.{laid-zeros}
use Rattle.writer.specs.of_refusal.declared.Verdict.TheVariants.{Accepted, Refused as IsRefused}
use Rattle.writer.specs.of_tree_report.Layout.{layout}
use Rattle.write_words.specs.of_write_table.Laid.{Table, fits}
use Rattle.write_words.proofs.of_write_table.Rooms.{both}
use Rattle.write_words.proofs.of_write_table.Laying.{words-five, attributes-five}
use Rattle.writer.specs.of_write_answer.Answer.{Sizes, events_of, table_of, writing_answer, outcome_of, wrote, left_for, events_left, attributes_left, bytes_left}
use Rattle.writer.specs.declared.Writing.{Writing}
use Rattle.writer.specs.Answer.{writing_from}
use Rattle.list_printing.specs.of_public_claims.PublicListing.{refused_text}
use Rattle.write_words.specs.Bytes.{table_bytes}
use Rattle.write_printing.specs.Printed.{answer_bytes, tree_printed}
use Rattle.writer.specs.of_refusal.declared.Cause.TheVariants as cause

-- what stands at the front of a cleared area
front : (k n : ℕ) (f : List ℕ) → length f ≤ k → n ≡ length f → take n (laid (zeros k) f) ≡ f
front k n f h e = ap (take n) (laid-zeros k f h) ∙ take_at f (zeros (k - length f)) n (sym e)

-- both tests passed where writing accepts
accepted-by : (l f : Bool) (s : Sizes) (x : Writing) → x ≡ writing_from (outcome_of (cond l (cond f (gives s) (refuses cause.OutputFull)) (refuses cause.NotLayout)))
    → x.verdict ≡ Accepted → (l ≡ true) × (f ≡ true)
accepted-by true true s x q v = (refl, refl)
accepted-by true false s x q v = let w : x.verdict ≡ IsRefused = ap (λ (y : Writing). y.verdict) q in let z : ◌≡◌ {A = ℕ} 0 1 = cc in absurd (omega arith)
accepted-by false f s x q v = let w : x.verdict ≡ IsRefused = ap (λ (y : Writing). y.verdict) q in let z : ◌≡◌ {A = ℕ} 0 1 = cc in absurd (omega arith)

module _ (words text : List ℕ) where
  abbrev t : Table
  t = table_of words text

  five-events : length t.events / 5 * 5 ≡ length t.events
  unfolding table_of
  five-events = words-five (events_of words text)

  five-attributes : length t.attributes / 5 * 5 ≡ length t.attributes
  unfolding table_of
  five-attributes = attributes-five (events_of words text)

  abbrev sizes : Sizes
  sizes = record { events = length t.events / 5; attributes = length t.attributes / 5; bytes = length t.bytes }

  -- the areas lent to writing, of the program's sizes, and what it answered
  module _ (e a b : ℕ) (pe : e ≡ 16384) (pa : a ≡ 16384) (pb : b ≡ 65536) (x : Writing) (q : x ≡ writing_from (wrote words text e a b)) where
    as-printed : answer_bytes (writing_answer words text e a b) t ≡ tree_printed words text
    unfolding tree_printed
    as-printed = rw (pe, pa, pb) refl

    module _ (v : x.verdict ≡ Accepted) where
      passed : (layout words text ≡ true) × (fits t e a b ≡ true)
      unfolding writing_answer
      passed = accepted-by (layout words text) (fits t e a b) sizes x q v

      given : writing_answer words text e a b ≡ gives sizes
      unfolding writing_answer
      given = rw (passed.0, passed.1) refl

      -- the table's sizes, within the areas
      fitting : (length t.events ≤ e) × (length t.attributes ≤ a) × (length t.bytes ≤ b)
      fitting =
          let p = both (leb (length t.events) (min e (most_entries * 5))) (leb (length t.attributes) (min a (most_entries * 5)) && leb (length t.bytes) (min b most_bytes)) passed.1 in
          let r = both (leb (length t.attributes) (min a (most_entries * 5))) (leb (length t.bytes) (min b most_bytes)) p.1 in
          let i = leb-true (length t.events) (min e (most_entries * 5)) p.0 in
          let j = leb-true (length t.attributes) (min a (most_entries * 5)) r.0 in
          let k = leb-true (length t.bytes) (min b most_bytes) r.1 in
          (omega arith, omega arith, omega arith)

      -- the answer's numbers are the table's
      whole : x ≡ writing_from (outcome_of (gives sizes))
      whole = q ∙ ap (λ (o : Answer Sizes). writing_from (outcome_of o)) given

      events-are : x.events * 5 ≡ length t.events
      events-are = ap (λ (y : Writing). y.events * 5) whole ∙ five-events

      attributes-are : x.attributes * 5 ≡ length t.attributes
      attributes-are = ap (λ (y : Writing). y.attributes * 5) whole ∙ five-attributes

      bytes-are : x.bytes ≡ length t.bytes
      bytes-are = ap (λ (y : Writing). y.bytes) whole

      pub within : (x.events * 5 ≤ 16384) × (x.attributes * 5 ≤ 16384) × (x.bytes ≤ 65536)
      within = let h = fitting in (omega (arith, events-are, h.0, pe), omega (arith, attributes-are, h.1, pa), omega (arith, bytes-are, h.2, pb))

      -- the areas as writing left them
      module _ (ev at by : List ℕ) (le : ev ≡ events_left words text e a b) (la : at ≡ attributes_left words text e a b) (lb : by ≡ bytes_left words text e a b) where
        events-front : take (x.events * 5) ev ≡ t.events
        unfolding events_left
        events-front = ap (take (x.events * 5)) (le ∙ ap (λ (o : Answer Sizes). left_for o e t.events) given) ∙ front e (x.events * 5) t.events fitting.0 events-are

        attributes-front : take (x.attributes * 5) at ≡ t.attributes
        unfolding attributes_left
        attributes-front = ap (take (x.attributes * 5)) (la ∙ ap (λ (o : Answer Sizes). left_for o a t.attributes) given) ∙ front a (x.attributes * 5) t.attributes fitting.1 attributes-are

        bytes-front : take x.bytes by ≡ t.bytes
        unfolding bytes_left
        bytes-front = ap (take x.bytes) (lb ∙ ap (λ (o : Answer Sizes). left_for o b t.bytes) given) ∙ front b x.bytes t.bytes fitting.2 bytes-are

        pub tree-written : table_bytes (record { events = take (x.events * 5) ev; attributes = take (x.attributes * 5) at; bytes = take x.bytes by }) ≡ tree_printed words text
        tree-written = rw (events-front, attributes-front, bytes-front) (ap (λ (o : Answer Sizes). answer_bytes o t) (sym given) ∙ as-printed)

    pub tree-refused : x.verdict ≡ IsRefused → refused_text ≡ tree_printed words text
    tree-refused v = go (writing_answer words text e a b) refl ∙ as-printed
      where
        go : (o : Answer Sizes) → writing_answer words text e a b ≡ o → refused_text ≡ answer_bytes (writing_answer words text e a b) t
        go (refuses c) p = sym (ap (λ (o : Answer Sizes). answer_bytes o t) p)
        go (gives s) p =
            let w : x.verdict ≡ Accepted = ap (λ (y : Writing). y.verdict) q ∙ ap (λ (o : Answer Sizes). (writing_from (outcome_of o)).verdict) p in
            let z : ◌≡◌ {A = ℕ} 0 1 = cc in absurd (omega arith)
