-- The texts that are open grow by no more than a piece's bytes, so that the longest is no longer than all pieces. Assumes nothing.
use Prim.Native.Nat.{ℕ, ◌+◌, max, ◌≤◌}
use mathlib.Core.List.{List, [], ◌∷◌}
use native.Mathlib.Omega.{arith}
use lib.ListN.{length, length-append}
use Rattle.read_spelling.specs.of_trim.Trim.{trimmed}
use Rattle.read_spelling.specs.of_refusal.Refusal.{Outcome}
use Rattle.read_spelling.specs.of_refusal.declared.Cause.TheVariants as cause
use Rattle.xml_grammar.specs.of_table.Event.{Attribute, Event, Tag, Piece, Eof, Fault}
use Rattle.read_spelling.specs.of_tree_status.Status.{ruled}
use Rattle.read_spelling.specs.of_tree_report.Report.{Text}
use Rattle.read_spelling.specs.of_read_element.Outcome.{Place, Rooms, unlimited}
use Rattle.read_spelling.proofs.of_read_element.TreeOutcome.{Holds, accept, refuse, bind, needed, answered, either}
use Rattle.read_spelling.specs.of_read_state.Control.{Mode, at, gathering, listing, skipping, finished, Control, gathers}
use Rattle.read_spelling.specs.of_read_state.Control.{Act, pass, open_report, open_suite, open_case, open_status, close_suite, close_case, close_status, open_text, close_text, open_list, read_property, stop, missing, broken}
use Rattle.document_events.specs.of_read_content.Content.{piece_of, is_empty}
use Rattle.read_spelling.specs.of_read_report.Deserialize.{Draft, join_piece, describing, perform, gather, Reader, act, step, begin}
use Rattle.read_spelling.proofs.Bare.{any}
use Rattle.round_report.specs.of_round_rooms.Pieces.{piece_size, event_size}
use Rattle.round_report.specs.of_round_rooms.inside.Sums.{pieces}
use Rattle.round_report.proofs.of_round_rooms.Scratch.{piece-size}
use Rattle.scratch_claims.specs.Scratch.{unbound, open_length, behind_step, longest_from, longest}

-- the bytes of the open description and of the open text
abbrev pub gathered : Draft → ℕ
gathered d = length d.description + length d.text

joined-size : (m : Mode) (v : Text) (d : Draft) (n : ℕ) → length v ≤ n → gathered (join_piece m v d) ≤ gathered d + n
joined-size (at l) v d n h = omega (arith, length-append d.description v)
joined-size (gathering l o) v d n h = omega (arith, length-append d.text v)
joined-size (listing l) v d n h = omega arith
joined-size (skipping m name depth) v d n h = omega arith
joined-size finished v d n h = omega arith

kept : (n : ℕ) → n ≤ n
kept n = omega arith

shorter : (n m : ℕ) → n + 0 ≤ n + m
shorter n m = omega arith

module _ (rooms : Rooms) where
  describing-gathers : (p : Place) (d : Draft) → Holds (λ e. gathered e ≤ gathered d) (describing rooms p d)
  describing-gathers p d = either (is_empty (trimmed d.description)) (λ e. accept (omega arith)) (λ e. bind (any _) λ u w. accept (omega arith))

  performed : (p : Place) (a : Act) (j : ℕ) (xs : List Attribute) (k : Control) (d : Draft) → Holds (λ e. gathered e ≤ gathered d) (perform rooms p a j xs k d)
  unfolding perform
  performed p (pass n) j xs k d = accept (kept (gathered d))
  performed p (open_report x) j xs k d = bind (any _) λ t u. accept (kept (gathered d))
  performed p (open_suite x) j xs k d = bind (any _) λ t u. accept (kept (gathered d))
  performed p (open_case x) j xs k d = bind (any _) λ t u. accept (kept (gathered d))
  performed p (open_status n x) j xs k d = bind (any _) λ t u. accept (kept (gathered d))
  performed p close_suite j xs k d = accept (kept (gathered d))
  performed p close_case j xs k d = needed (ruled k.tally) p cause.StatusRule λ z. accept (kept (gathered d))
  performed p close_status j xs k d = describing-gathers p d
  performed p (open_text l o) j xs k d = accept (kept (gathered d))
  performed p (close_text l o) j xs k d = bind (any _) λ u w. accept (shorter (length d.description) (length d.text))
  performed p (open_list l x) j xs k d = accept (kept (gathered d))
  performed p (read_property l x name) j xs k d = bind (any _) λ t u. accept (kept (gathered d))
  performed p stop j xs k d = accept (kept (gathered d))
  performed p missing j xs k d = refuse
  performed p (broken why) j xs k d = refuse

  acted : (a : Act) (j : ℕ) (xs : List Attribute) (s : Reader) → Holds (λ t. gathered t.draft ≤ gathered s.draft + 0) (act rooms a j xs s)
  unfolding act
  acted a j xs s = bind (performed _ a j xs s.control s.draft) λ d h. accept (omega arith)

  pub step-gathers : (e : Event) (s : Reader) → Holds (λ t. gathered t.draft ≤ gathered s.draft + event_size e) (step rooms e s)
  unfolding step gather
  step-gathers (Tag k name j xs) s = acted _ j xs s
  step-gathers (Piece k bytes) s =
      bind {Q = λ d. gathered d ≤ gathered s.draft + piece_size k bytes}
      (either (gathers s.control.mode)
      (λ g. bind (answered _ (piece_of k bytes)) λ v e. needed _ _ cause.ScratchFull λ z. accept (joined-size s.control.mode v s.draft (piece_size k bytes) (piece-size k bytes v e)))
      (λ z. accept (omega arith)))
      λ d h. accept h
  step-gathers Eof s = acted _ 0 [] s
  step-gathers Fault s = acted _ 0 [] s

-- ---- along the events
module _ (rooms : Rooms) where
  longest-behind : (es : List Event) (n : ℕ) → ((t : Reader) → longest_from rooms es t ≤ gathered t.draft + pieces es) → {o : Outcome Reader}
      → Holds (λ t. gathered t.draft ≤ n) o → behind_step 0 o (λ t. max (open_length t) (longest_from rooms es t)) ≤ n + pieces es
  longest-behind es n ih (accept {a = t} h) = omega (arith, ih t)
  longest-behind es n ih refuse = omega arith

  longest-within : (es : List Event) (s : Reader) → longest_from rooms es s ≤ gathered s.draft + pieces es
  unfolding longest_from pieces
  longest-within [] s = omega arith
  longest-within (e ∷ es) s =
      let h = longest-behind es (gathered s.draft + event_size e) (longest-within es) (step-gathers (unbound rooms) e s) in
      omega arith

pub longest-pieces : (es : List Event) → longest es ≤ pieces es
longest-pieces es = let h = longest-within unlimited es begin in omega arith
