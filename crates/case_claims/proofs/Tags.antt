-- Each case of a report comes from a `testcase` tag. Assumes nothing.
use Prim.Native.Nat.{ℕ, ◌+◌, ◌-◌, ◌≤◌}
use mathlib.Core.Path.{◌≡◌, refl, sym, ap, subst, ◌∙◌}
use mathlib.Core.List.{List, [], ◌∷◌}
use mathlib.Core.Bool.{Bool, true, false, cond}
use native.Mathlib.Omega.{arith}
use Rattle.case_tags.specs.of_refusal.Refusal.{nowhere, Outcome, accepted, refused}
use Rattle.case_tags.specs.of_table.Event.{Attribute, TagKind, Start, Empty, End, PieceKind, Event, Tag, Piece, Eof, Fault}
use Rattle.read_report.specs.of_tree_report.Report.{Report}
use Rattle.read_report.specs.of_read_element.Outcome.{◌>>=◌, Place, Rooms, rooms_of}
use Rattle.read_report.specs.of_read_state.Control.{Act, gathers, turn}
use Rattle.read_report.specs.of_read_rules.Rules.{plan_at, plan_eof, plan_fault}
use Rattle.read_report.specs.of_read_place.Marks.{marks_after, onward}
use Rattle.read_report.specs.of_read_path.Paths.{mode_path, act_place}
use Rattle.read_report.specs.Deserialize.{Draft, perform, gather, Reader, act, step, steps, begin, deserialize_in}
use Rattle.read_report.specs.Answer.{Table, Areas, events_of, checked, answer_to}
use Rattle.case_tags.specs.Tags.{case_tag, case_tags}
use Rattle.case_claims.specs.PassedOver.{cases_of, passed_over_of, CasesFromTags}
use Rattle.case_claims.proofs.Planned.{opened, opened-tag, opened-eof, opened-fault}
use Rattle.case_claims.proofs.Growing.{Upto, within, stopped, upto_bind, upto-behind, draft_cases, performs, gathered}

abbrev reader_cases : Reader → ℕ
reader_cases s = cases_of s.draft.report

acts : (rooms : Rooms) (a : Act) (j : ℕ) (xs : List Attribute) (s : Reader) (n : ℕ) → opened a ≤ n → Upto reader_cases (reader_cases s + n) (act rooms a j xs s)
unfolding act
acts rooms a j xs s n h = upto_bind (performs rooms (act_place a s.control.mode s.marks) a j xs s.control s.draft) λ d l.
    within {a = record { control = turn a s.control; draft = d; marks = onward (marks_after a 0 s.marks) }} (omega arith)

abbrev here : Reader → Place
here s = record { path = mode_path s.control.mode s.marks; event = s.marks.event; attribute = nowhere }

keeps : (s : Reader) (d : Draft) → draft_cases d ≤ reader_cases s + 0 → Upto reader_cases (reader_cases s + 0) (accepted (record { control = s.control; draft = d; marks = onward s.marks }))
keeps s d h = within {a = record { control = s.control; draft = d; marks = onward s.marks }} h

stepped : (rooms : Rooms) (e : Event) (s : Reader) → Upto reader_cases (reader_cases s + case_tag e) (step rooms e s)
unfolding step case_tag
stepped rooms (Tag k name j xs) s =
    acts rooms (plan_at s.control.mode s.control.seen k name) j xs s (case_tag (Tag k name j xs)) (opened-tag name j xs s.control.mode s.control.seen k)
stepped rooms (Piece k bytes) s = go (gathers s.control.mode)
  where
    go : (t : Bool) → Upto reader_cases (reader_cases s + 0) (cond t (gather rooms (here s) s.control.mode k bytes s.draft) (accepted s.draft) >>= λ d.
        accepted (record { control = s.control; draft = d; marks = onward s.marks }))
    go true = upto_bind (gathered rooms (here s) s.control.mode k bytes s.draft) λ d l. keeps s d (omega arith)
    go false = upto_bind {f = draft_cases} {k = draft_cases s.draft} (within {a = s.draft} (omega arith)) λ d l. keeps s d (omega arith)
stepped rooms Eof s =
    let e = opened-eof s.control.mode s.control.seen s.control.closed in
    acts rooms (plan_eof s.control.mode s.control.seen s.control.closed) 0 [] s 0 (omega arith)
stepped rooms Fault s = acts rooms (plan_fault s.control.mode) 0 [] s 0 (let z = opened-fault s.control.mode in omega arith)

wider : {A : Type 0} {f : A → ℕ} {n k : ℕ} {m : Outcome A} → Upto f n m → n ≤ k → Upto f k m
wider (within {a = a} l) h = within {a = a} (omega arith)
wider stopped h = stopped

all-steps : (rooms : Rooms) (es : List Event) (s : Reader) → Upto reader_cases (reader_cases s + case_tags es) (steps rooms es s)
unfolding steps case_tags case_tag
all-steps rooms [] s = stepped rooms Eof s
all-steps rooms (e ∷ es) s = upto_bind (stepped rooms e s) λ t l. wider (all-steps rooms es t) (omega arith)

cases-of : (rooms : Rooms) (es : List Event) → Upto cases_of (case_tags es) (deserialize_in rooms es)
unfolding deserialize_in
cases-of rooms es = upto_bind (all-steps rooms es begin) λ s l. within {a = s.draft.report} (omega arith)

at_most : {n : ℕ} {r : Report} → Upto cases_of n (accepted r) → cases_of r ≤ n
at_most (within l) = l

exactly : (es : List Event) (r : Report) → cases_of r ≤ case_tags es → passed_over_of es r + cases_of r ≡ case_tags es
exactly es r h = omega arith

from-events : (rooms : Rooms) (es : List Event) (r : Report) → deserialize_in rooms es ≡ accepted r → passed_over_of es r + cases_of r ≡ case_tags es
from-events rooms es r e = exactly es r (at_most (subst (Upto cases_of (case_tags es)) e (cases-of rooms es)))

answered : (t : Table) (a : Areas) → Upto cases_of (case_tags (events_of t)) (answer_to t a)
unfolding answer_to
answered t a = upto-behind (checked t) λ _. cases-of (rooms_of a.words a.text a.scratch) (events_of t)

from-table : (t : Table) (a : Areas) (r : Report) → answer_to t a ≡ accepted r → passed_over_of (events_of t) r + cases_of r ≡ case_tags (events_of t)
from-table t a r e = exactly (events_of t) r (at_most (subst (Upto cases_of (case_tags (events_of t))) e (answered t a)))

pub cases-from-tags : CasesFromTags
cases-from-tags = record { events = from-events; tables = from-table }
