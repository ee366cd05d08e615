-- The whole call: the table, the run within the areas, and what is left in them. Assumes nothing.
use Rattle.std.specs.Prelude.{Ok, Err}
use Prim.Native.Nat.{ℕ, ◌+◌, ◌-◌, ◌*◌, ◌/◌, ◌≤◌, min}
use mathlib.Core.Path.{◌≡◌, sym, ap, subst, ◌∙◌}
use mathlib.Core.List.{List, [], ◌++◌}
use lib.ListN.{length, take, drop}
use lib.Seq.{length-take-le}
use native.Mathlib.Omega.{arith}
use Rattle.clearing.specs.of_area.Area.{zeros}
use Rattle.read_step.specs.of_utf8.Characters.{joined}
use Rattle.clearing.specs.of_refusal.Refusal.{empty_path, Refused, Outcome, accepted, refused}
use Rattle.clearing.specs.of_refusal.declared.Cause.{Cause}
use Rattle.clearing.specs.of_refusal.declared.Cause.TheVariants.{BadTable}
use Rattle.clearing.specs.of_refusal.declared.Path.{Path}
use Rattle.clearing.specs.of_refusal.declared.Verdict.TheVariants.{Refused as IsRefused}
use Rattle.read_step.specs.of_table.Table.{table_of}
use Rattle.read_step.specs.of_table.Event.{Event, resolve}
use Rattle.read_step.specs.of_read_element.Outcome.{◌>>=◌, Rooms, rooms_of}
use Rattle.read_step.specs.of_read_state.inside.Coded.{mode_of, act_of}
use Rattle.read_step.specs.of_read_path.Paths.{path_of}
use Rattle.read_step.specs.of_read_place.inside.Coded.{marks_of}
use Rattle.read_step.specs.of_read_fault.inside.Faults.{with_attribute}
use Rattle.read_step.specs.of_read_path.inside.Coded.{Leads}
use Rattle.read_step.proofs.of_read_path.Leading.{leads-within}
use Rattle.read_step.specs.of_read_machine.Machine.{Machine, run, begin}
use Rattle.read_step.specs.of_read_machine.Reading.{Read, read_as, reading}
use Rattle.read_step.specs.inside.Standing.{refusal_at, Placed, Lent, Refuses, Ended}
use Rattle.read_step.specs.declared.State.{State}
use Rattle.read_step.specs.declared.Halt.{Halt}
use Rattle.reader.specs.declared.Reading.{Reading}
use Rattle.reader.specs.Answer.{answer_of, Leaves}
use Rattle.reader.specs.inside.Ran.{Run, Ran}
use Rattle.reader.proofs.Areas.{rooms-cut, lent_cut, part-back, laid-behind}

-- ---- the path of a refusal
abbrev pub refusing : Cause → ℕ → ℕ → Path → Reading
refusing why event attribute path = record { verdict = IsRefused; refusal = record { cause = why; path = path; event = event; attribute = attribute } }

pub halted-there : (st : State) (h : Halt) (placed : Placed st h) (p q : Path) → Leads p (path_of (act_of st.control placed.name h.act) (mode_of st.control) (marks_of st.marks))
    → q ≡ with_attribute p h.fault.key → refusing h.fault.cause h.event h.fault.attribute q ≡ answer_of (refused (refusal_at st h placed.name))
halted-there st h placed p q l e = ap (refusing h.fault.cause h.event h.fault.attribute) (e ∙ (leads-within h.fault.key l placed.room).whole)

-- 11 has an empty path
abbrev pub bad_table : ℕ → ℕ → Refused
bad_table event attribute = record { cause = BadTable; path = []; event = event; attribute = attribute }

pub bad-there : (event attribute : ℕ) (p : Path) → p ≡ empty_path → refusing BadTable event attribute p ≡ answer_of (refused (bad_table event attribute))
bad-there event attribute p e = ap (refusing BadTable event attribute) e

-- ---- the way out of the run
module _ (words text : List ℕ) (o : Outcome Machine) (r : Run) (e : Ran words text o r) where
  pub ran-done : r ≡ Ok tt → Ended words text o
  ran-done q = subst (Ran words text o) q e

  pub ran-halted : (st : State) (h : Halt) → r ≡ Err (st, h) → Refuses st h o
  ran-halted st h q = subst (Ran words text o) q e

-- ---- the parts of longer areas
pub ran-whole : (words text : List ℕ) → words ≡ zeros (length words) → text ≡ zeros (length text) → (k n : ℕ) → k ≤ length words → n ≤ length text
    → (words' text' : List ℕ) (o : Outcome Machine) (r : Run) → Ran words' text' o r → Ran (words' ++ drop k words) (text' ++ drop n text) o r
ran-whole words text w t k n a b words' text' o (Ok t₀) e =
    record {
      machine = e.machine;
      same = e.same;
      room = e.room + (length words - k);
      left = e.left + (length text - n);
      records = part-back words w k a (joined e.machine.content.records) words' e.room e.records;
      texts = part-back text t n b e.machine.content.texts text' e.left e.texts;
    }
ran-whole words text w t k n a b words' text' o (Err x) e = e

-- of longer areas only so much is used (rule M1)
module _ (words text scratch : List ℕ) (k n m : ℕ) (kq : k ≡ min (length words / 32) 65536) (nq : n ≡ min (length text) 16777216) (mq : m ≡ min (length scratch) 16777216) where
  pub cut-words : k * 32 ≤ length words
  cut-words = omega arith

  pub cut-text : n ≤ length text
  cut-text = omega arith

  pub cut-scratch : m ≤ length scratch
  cut-scratch = omega arith

  of_words : length (take (k * 32) words) ≡ min (length words / 32) 65536 * 32
  of_words = length-take-le (k * 32) words cut-words ∙ ap (λ (x : ℕ). x * 32) kq

  of-text : length (take n text) ≡ min (length text) 16777216
  of-text = length-take-le n text cut-text ∙ nq

  of-scratch : length (take m scratch) ≡ min (length scratch) 16777216
  of-scratch = length-take-le m scratch cut-scratch ∙ mq

  pub cut-lent : Lent (length (take (k * 32) words)) (length (take n text)) (length (take m scratch))
  cut-lent = rw (of_words, of-text, of-scratch) (lent_cut (length words) (length text) (length scratch))

  pub cut-rooms : rooms_of (length (take (k * 32) words)) (length (take n text)) (length (take m scratch)) ≡ rooms_of (length words) (length text) (length scratch)
  cut-rooms = rw (of_words, of-text, of-scratch) (rooms-cut (length words) (length text) (length scratch))

  pub cut-ran : words ≡ zeros (length words) → text ≡ zeros (length text) → (es : List Event) (words' text' : List ℕ) (r : Run)
      → Ran words' text' (run (rooms_of (length (take (k * 32) words)) (length (take n text)) (length (take m scratch))) es begin) r
      → Ran (words' ++ drop (k * 32) words) (text' ++ drop n text) (run (rooms_of (length words) (length text) (length scratch)) es begin) r
  cut-ran w t es words' text' r e =
      ran-whole words text w t (k * 32) n cut-words cut-text words' text' (run (rooms_of (length words) (length text) (length scratch)) es begin) r
      (subst (λ (rooms : Rooms). Ran words' text' (run rooms es begin) r) cut-rooms e)

-- ---- the answer
-- an answer and areas
abbrev gives : Outcome (Unit {0}) → List ℕ → List ℕ → List ℕ → Read
gives o words text scratch = record { outcome = o; words = words; text = text; scratch = scratch }

same_read : {o p : Outcome (Unit {0})} {a b c d e f : List ℕ} → o ≡ p → a ≡ b → c ≡ d → e ≡ f → gives o a c e ≡ gives p b d f
same_read {o} {p} {a} {b} {c} {d} {e} {f} i j k l =
    ap (λ (x : Outcome (Unit {0})). gives x a c e) i ∙ ap (λ (x : List ℕ). gives p x c e) j ∙ ap (λ (x : List ℕ). gives p b x e) k ∙ ap (λ (x : List ℕ). gives p b d x) l

module _ (events attributes source : List ℕ) (words text scratch : ℕ) where
  abbrev lent : Outcome Machine
  lent = run (rooms_of words text scratch) (resolve events attributes source) begin

  abbrev whole : Read
  whole = reading events attributes source words text scratch

  told : (t : Outcome (Unit {0})) → table_of events attributes source ≡ t → whole ≡ read_as words text scratch (t >>= λ _. lent)
  unfolding reading
  told t e = ap (λ (x : Outcome (Unit {0})). read_as words text scratch (x >>= λ _. lent)) e

  module _ (o : Outcome (Unit {0})) (w t c : List ℕ) (cq : c ≡ zeros scratch) where
    -- 11 comes first (rule T6)
    pub read-bad : (r : Refused) → table_of events attributes source ≡ refused r → o ≡ refused r → w ≡ zeros words → t ≡ zeros text → gives o w t c ≡ whole
    unfolding read_as ◌>>=◌
    read-bad r e q wq tq = same_read q wq tq cq ∙ sym (told (refused r) e)

    module _ (good : table_of events attributes source ≡ accepted tt) where
      pub read-refused : (r : Refused) → lent ≡ refused r → o ≡ refused r → w ≡ zeros words → t ≡ zeros text → gives o w t c ≡ whole
      unfolding read_as ◌>>=◌
      read-refused r e q wq tq = same_read q wq tq cq ∙ sym (told (accepted tt) good ∙ ap (read_as words text scratch) e)

      pub read-ended : o ≡ accepted tt → length w ≡ words → length t ≡ text → Ended w t lent → gives o w t c ≡ whole
      unfolding read_as ◌>>=◌
      read-ended q wl tl d =
          same_read q (laid-behind words (joined d.machine.content.records) w d.room wl d.records) (laid-behind text d.machine.content.texts t d.left tl d.texts) cq
          ∙ sym (told (accepted tt) good ∙ ap (read_as words text scratch) d.same)

-- the same for areas of these lengths
pub read-lengths : (events attributes source words text scratch words₀ text₀ scratch₀ : List ℕ) → length words ≡ length words₀ → length text ≡ length text₀ → length scratch ≡ length scratch₀
    → (P : Read → Type 0) → P (reading events attributes source (length words) (length text) (length scratch)) → P (reading events attributes source (length words₀) (length text₀) (length scratch₀))
read-lengths events attributes source words text scratch words₀ text₀ scratch₀ a b c P e = rw (← a, ← b, ← c) e

-- an answer for an outcome, with an equation of reads
pub answers : {r : Reading} {o : Outcome (Unit {0})} {w t c : List ℕ} {x : Read} → r ≡ answer_of o → gives o w t c ≡ x → Leaves r w t c x
answers q e = (q ∙ ap (λ (z : Read). answer_of z.outcome) e, (ap (λ (z : Read). z.words) e, (ap (λ (z : Read). z.text) e, ap (λ (z : Read). z.scratch) e)))
