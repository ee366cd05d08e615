-- All that is due of a document is the records of its derivation. Assumes nothing.
use Prim.Native.Nat.{ℕ, ◌+◌}
use mathlib.Core.Path.{◌≡◌, refl, sym, ap, ◌∙◌}
use mathlib.Core.List.{List, [], ◌∷◌, ◌++◌, append_assoc, append-nil}
use lib.ListN.{length}
use Rattle.xml_tokens.specs.of_table.Kinds as kind
use Rattle.xml_tokens.specs.of_xml_chars.Bytes.{utf8}
use Rattle.xml_tokens.specs.of_xml_grammar.Grammar.{Document}
use Rattle.xml_tokens.specs.of_xml_grammar.Documents as documents
use Rattle.xml_tokens.specs.of_xml_grammar.Documents.{unmarked, WellFormed}
use Rattle.xml_tokens.specs.of_xml_machine.State as state
use Rattle.xml_tokens.specs.of_xml_machine.State.{State, epilog}
use Rattle.xml_tokens.specs.of_xml_machine.Machine.{step}
use Rattle.xml_tokens.specs.of_xml_machine.Tokens.{Rec, rec, Marks, no_marks, marking, Due, nothing}
use Rattle.xml_tokens.proofs.of_xml_complete.Documents.{First, first-fresh, first-marked}
use Rattle.xml_tokens.specs.Due.{due_from, due_in_of, events_due, attributes_due}
use Rattle.xml_places.specs.Places.{numbered, document_at, document_attributes, events_placed, attributes_placed}
use Rattle.xml_places.proofs.Putting.{counts, numbered-append, run-numbered, run-bare, run_at}
use Rattle.xml_places.proofs.Documents.{document-puts}

abbrev eof : List Rec
eof = rec kind.eof 0 0 0 0 ∷ []

-- these records are due, Eof behind them
abbrev pub Places : List Due → List Rec → List Rec → Type 0
Places ds es xs = (events_due ds ++ (rec kind.eof 0 0 0 0 ∷ []) ≡ es) × (attributes_due ds ≡ xs)

-- behind the last byte the run that is open counts
last-run : (to count : ℕ) (m : Marks) → Places (due_from [] epilog to count m) (run_at m.mark to ++ eof) []
unfolding due_from
last-run to count m = (refl, run-bare m.mark to)

numbered-end : (es : List Rec) (x to : ℕ) → numbered 0 (es ++ (run_at x to ++ eof)) ≡ numbered 0 es ++ (run_at x to ++ eof)
numbered-end es x to =
    numbered-append 0 es (run_at x to ++ eof)
    ∙ ap (λ (l : List Rec). numbered 0 es ++ l) (numbered-append (0 + counts es) (run_at x to) eof ∙ ap (λ (l : List Rec). l ++ eof) (run-numbered _ x to))

from_first : {s : State} → First s → {cs : List ℕ} (h : Document cs) (at : ℕ) (m : Marks) → m.mark ≡ at →
    Places (due_from (utf8 cs) s at 0 m) (numbered 0 (document_at at h)) (document_attributes at h)
from_first {s = s} f {cs = cs} h at m e =
    let p = document-puts f h at in
    let q = p.puts.ahead 0 m e in
    let b : utf8 cs ++ [] ≡ utf8 cs = append-nil (utf8 cs) in
    let l = last-run p.to (0 + length (document_attributes at h)) q.marks in
    let es : List Rec = numbered 0 p.events in (
      ap (λ (z : List ℕ). events_due (due_from z s at 0 m) ++ eof) (sym b)
          ∙ ap (λ (z : List Rec). z ++ eof) (q.goes.events [])
          ∙ append_assoc es _ eof
          ∙ ap (λ (z : List Rec). es ++ z) l.0
          ∙ ap (λ (z : ℕ). es ++ (run_at z p.to ++ eof)) q.marked
          ∙ sym (numbered-end p.events p.mark p.to)
          ∙ ap (numbered 0) p.all,
      ap (λ (z : List ℕ). attributes_due (due_from z s at 0 m)) (sym b)
          ∙ q.goes.attributes []
          ∙ ap (λ (z : List Rec). document_attributes at h ++ z) l.1
          ∙ append-nil (document_attributes at h),
    )

-- the byte-order mark puts nothing
mark-due : (t : List ℕ) → due_in_of (0xEF ∷ 0xBB ∷ 0xBF ∷ t) ≡ nothing ∷ nothing ∷ nothing ∷ due_from t state.marked 3 0 (marking 3 no_marks)
unfolding due_from step
mark-due t = refl

behind-mark : {front : List ℕ} → documents.Mark front → {cs : List ℕ} (h : Document cs) →
    Places (due_in_of (front ++ utf8 cs)) (numbered 0 (document_at (length front) h)) (document_attributes (length front) h)
behind-mark unmarked h = from_first first-fresh h 0 no_marks refl
behind-mark documents.marked {cs = cs} h =
    let p = from_first first-marked h 3 (marking 3 no_marks) refl in
    let d = mark-due (utf8 cs) in
    (ap (λ (ds : List Due). events_due ds ++ eof) d ∙ p.0, ap attributes_due d ∙ p.1)

-- THEOREM: all that is due of a document, with Eof, is the records of any derivation
pub due-placed : {s : List ℕ} (w : WellFormed s) → Places (due_in_of s) (events_placed w) (attributes_placed w)
due-placed {s} w =
    let p = behind-mark w.skipped w.derived in
    (ap (λ (z : List ℕ). events_due (due_in_of z) ++ eof) w.spelt ∙ p.0, ap (λ (z : List ℕ). attributes_due (due_in_of z)) w.spelt ∙ p.1)
