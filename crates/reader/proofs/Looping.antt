-- The loop over events, and what it leaves. Assumes nothing.
use Rattle.std.specs.Prelude.{Some, None, Ok, Err}
use Prim.Native.Nat.{ℕ, ◌-◌, ◌≤◌, ◌<◌}
use mathlib.Core.Path.{◌≡◌, refl, sym, ap, subst, ◌∙◌}
use mathlib.Core.List.{List, [], ◌∷◌}
use mathlib.Core.Bool.{Bool, true, false, cond}
use mathlib.Core.Logic.{inl, inr}
use native.Mathlib.Omega.{arith}
use borrow.Author.Tests.{ne_eqb}
use lib.ListN.{length}
use lib.Dec.{eqb}
use Rattle.clearing.specs.of_area.Area.{zeros}
use Rattle.read_step.specs.of_table.Table.{count_of}
use Rattle.read_step.specs.of_table.Event.{resolve}
use Rattle.read_step.specs.of_read_element.Outcome.{Rooms, rooms_of}
use Rattle.read_step.specs.of_read_content.Content.{Content, is_empty}
use Rattle.read_step.specs.of_read_content.inside.Holds.{Sized}
use Rattle.read_step.specs.of_read_machine.Machine.{Machine, run, begin}
use Rattle.read_step.specs.of_read_again.inside.Since.{Since, first_of}
use Rattle.read_step.specs.inside.Standing.{Step, machine_of, run_on_of, Stands, Lent, Refuses, Went, Ended, Stepped, beginning, nothing}
use Rattle.read_step.specs.inside.Promises.{given, lent, StandingSince}
use Rattle.read_step.specs.declared.State.{State}
use Rattle.read_step.specs.declared.Halt.{Halt}
use Rattle.read_step.proofs.Running.{run-start}
use Rattle.read_step.proofs.Beginning.{begin-stands}
use Rattle.reader.proofs.Areas.{lent-sized}

-- the run from the start is the run from here; the open description is told from event `first` on
pub record Looping (events attributes source words₀ text₀ scratch₀ words text scratch : List ℕ) (st : State) (first : ℕ) : Type 0 where
  pub content : Content
  pub stands : Stands attributes source words text scratch st.content (machine_of st content)
  pub since : Since events attributes source first (machine_of st content)
  pub same : run (rooms_of (length words₀) (length text₀) (length scratch₀)) (resolve events attributes source) begin
      ≡ run_on_of (rooms_of (length words₀) (length text₀) (length scratch₀)) events attributes source (machine_of st content)
  pub within : st.marks.event ≤ count_of events
  pub began : first ≤ count_of events
  pub of_words : length words ≡ length words₀
  pub of-text : length text ≡ length text₀
  pub of-scratch : length scratch ≡ length scratch₀

pub loop-begins : (events attributes source words text scratch : List ℕ) (st : State) → st ≡ beginning → words ≡ zeros (length words)
    → text ≡ zeros (length text) → Looping events attributes source words text scratch words text scratch st 0
loop-begins events attributes source words text scratch st e w t =
    subst (λ (x : State). Looping events attributes source words text scratch words text scratch x 0) (sym e)
    (record {
      content = nothing;
      stands =
          subst (λ (x : List ℕ). Stands attributes source x text scratch beginning.content (machine_of beginning nothing)) (sym w)
          (subst (λ (x : List ℕ). Stands attributes source (zeros (length words)) x scratch beginning.content (machine_of beginning nothing)) (sym t)
          (begin-stands attributes source scratch (length words) (length text)));
      since = inl refl;
      same = run-start (rooms_of (length words) (length text) (length scratch)) events attributes source;
      within = omega arith;
      began = omega arith;
      of_words = refl;
      of-text = refl;
      of-scratch = refl;
    })

-- ---- the event of a description's first piece
empty-length : (l : List ℕ) (n : ℕ) → n ≡ length l → is_empty l ≡ eqb n 0
empty-length [] n e = sym (ap (λ (k : ℕ). eqb k 0) e)
empty-length (x ∷ l) n e = sym (ne_eqb n 0 (λ z. absurd (omega arith)))

since-first : (events attributes source : List ℕ) (first : ℕ) (s : Machine) → Since events attributes source first s → Since events attributes source (first_of first s) s
since-first events attributes source first s (inl e) = inl e
since-first events attributes source first s (inr w) = go s.content.description refl
  where
    go : (l : List ℕ) → s.content.description ≡ l → Since events attributes source (first_of first s) s
    go [] e = inl e
    go (x ∷ l) e = subst (λ (n : ℕ). Since events attributes source n s) (sym (ap (λ (d : List ℕ). cond (is_empty d) s.marks.event first) e)) (inr w)

module _ {events attributes source words₀ text₀ scratch₀ words text scratch : List ℕ} {st : State} {begun : ℕ}
    (loop : Looping events attributes source words₀ text₀ scratch₀ words text scratch st begun)
    {first : ℕ} (is : first ≡ cond (eqb st.content.description 0) st.marks.event begun) where
  abbrev here : Machine
  here = machine_of st loop.content

  first-is : first ≡ first_of begun here
  first-is = is ∙ ap (λ (b : Bool). cond b st.marks.event begun) (sym (empty-length loop.content.description st.content.description loop.stands.holds.description))

  pub loop-first : first ≤ count_of events
  loop-first = go (eqb st.content.description 0) is
    where
      go : (b : Bool) → first ≡ cond b st.marks.event begun → first ≤ count_of events
      go true e = let w = loop.within in omega arith
      go false e = let w = loop.began in omega arith

  pub loop-since : Since events attributes source first here
  loop-since = subst (λ (n : ℕ). Since events attributes source n here) (sym first-is) (since-first events attributes source begun here loop.since)

  pub loop-stands : count_of events ≤ 65536 → StandingSince (given events attributes source) (lent words text scratch) first st
  loop-stands h = record { content = loop.content; stands = loop.stands; since = loop-since; event = (let w = loop.within in omega arith) }

  pub loop-lent : Lent (length words₀) (length text₀) (length scratch₀) → Lent (length words) (length text) (length scratch)
  loop-lent h =
      subst (λ (n : ℕ). Lent n (length text) (length scratch)) (sym loop.of_words)
      (subst (λ (n : ℕ). Lent (length words₀) n (length scratch)) (sym loop.of-text)
      (subst (λ (n : ℕ). Lent (length words₀) (length text₀) n) (sym loop.of-scratch) h))

  abbrev rooms : Rooms
  rooms = rooms_of (length words₀) (length text₀) (length scratch₀)

  pub loop-sized : Lent (length words₀) (length text₀) (length scratch₀) → Sized rooms (length words) (length text) (length scratch)
  loop-sized h =
      subst (λ (n : ℕ). Sized rooms n (length text) (length scratch)) (sym loop.of_words)
      (subst (λ (n : ℕ). Sized rooms (length words₀) n (length scratch)) (sym loop.of-text)
      (subst (λ (n : ℕ). Sized rooms (length words₀) (length text₀) n) (sym loop.of-scratch) (lent-sized (length words₀) (length text₀) (length scratch₀) h)))

  module _ (words' text' scratch' : List ℕ) (r : Step)
      (stepped : Stepped rooms events attributes source words' text' scratch' st here (run_on_of rooms events attributes source here) r) where
    pub loop-went : (t : State) → r ≡ Ok (Some t) → Went rooms events attributes source words' text' scratch' st.marks.event here (run_on_of rooms events attributes source here) t
    loop-went t e = subst (Stepped rooms events attributes source words' text' scratch' st here (run_on_of rooms events attributes source here)) e stepped

    pub loop-goes : (t : State) → r ≡ Ok (Some t) → length words' ≡ length words → length text' ≡ length text
        → length scratch' ≡ length scratch → Looping events attributes source words₀ text₀ scratch₀ words' text' scratch' t first
    loop-goes t e a b d =
        let w = loop-went t e in
        record {
          content = w.content;
          stands = w.stands;
          since = subst (λ (n : ℕ). Since events attributes source n (machine_of t w.content)) (sym first-is) (w.since begun loop.since);
          same = loop.same ∙ w.same;
          within = w.within;
          began = loop-first;
          of_words = a ∙ loop.of_words;
          of-text = b ∙ loop.of-text;
          of-scratch = d ∙ loop.of-scratch;
        }

    pub loop-less : (t : State) → r ≡ Ok (Some t) → count_of events - t.marks.event < count_of events - st.marks.event
    loop-less t e = let w = loop-went t e in let a = w.later in let b = w.within in omega arith

    pub loop-ends : r ≡ Ok None → Ended words' text' (run rooms (resolve events attributes source) begin)
    loop-ends e =
        let w : Ended words' text' (run_on_of rooms events attributes source here) =
        subst (Stepped rooms events attributes source words' text' scratch' st here (run_on_of rooms events attributes source here)) e stepped in
        record { machine = w.machine; same = loop.same ∙ w.same; room = w.room; left = w.left; records = w.records; texts = w.texts }

    pub loop_halts : (h : Halt) → r ≡ Err h → Refuses st h (run rooms (resolve events attributes source) begin)
    loop_halts h e =
        let w : Refuses st h (run_on_of rooms events attributes source here) =
        subst (Stepped rooms events attributes source words' text' scratch' st here (run_on_of rooms events attributes source here)) e stepped in
        record { placed = w.placed; same = loop.same ∙ w.same }
