-- Where what a step leaves fits, the step never lacked room. Assumes nothing.
use Prim.Native.Nat.{ℕ, ◌+◌, ◌≤◌}
use mathlib.Core.Path.{◌≡◌}
use mathlib.Core.List.{List, []}
use mathlib.Core.Bool.{Bool, true}
use native.Mathlib.Omega.{arith}
use lib.ListN.{length}
use Rattle.write_report.specs.of_table.Event.{Attribute, PieceKind, Event, Tag, Piece, Eof, Fault}
use Rattle.read_machine.specs.of_trim.Trim.{trimmed}
use Rattle.read_machine.specs.of_tree_put.Put.{put_text}
use Rattle.read_machine.specs.of_tree_status.Status.{ruled}
use Rattle.read_machine.specs.of_read_element.Outcome.{Place, unlimited}
use Rattle.read_machine.proofs.of_read_element.TreeOutcome.{answered}
use Rattle.read_machine.proofs.of_read_element.TreeElement.{length-changed}
use Rattle.read_machine.specs.of_read_state.Control.{Level, Output, Mode, at, gathering, listing, skipping, finished, Control, gathers}
use Rattle.read_machine.specs.of_read_state.Control.{Act, pass, open_report, open_suite, open_case, open_status, close_suite, close_case, close_status, open_text, close_text, open_list, read_property, stop, missing, broken}
use Rattle.read_machine.specs.of_read_rules.Rules.{plan_at, plan_eof, plan_fault}
use Rattle.read_machine.specs.of_read_place.Marks.{Marks}
use Rattle.read_machine.specs.of_read_path.Paths.{act_place}
use Rattle.read_machine.specs.of_read_content.Content.{Content, kill_all, kill_kind, property_kind, record_of_it, word_of, bit_of, takes, kept, piece_of, join_piece}
use Rattle.read_machine.specs.of_read_content.Content.{own, gather, adding, with_records, cleaned, keeping, is_empty, describing, outputting, perform}
use Rattle.read_machine.specs.Machine.{Machine, act, step}
use Rattle.read_machine.proofs.TreeKept.{length-all, length-kind}
use Rattle.round_rooms.specs.Pieces.{piece_size, event_size}
use Rattle.round_rooms.proofs.Suiting.{Suits, stops, comes, leaf, starts, bind, bind_held, needing, choosing, fitting}
use Rattle.round_rooms.proofs.Elements.{Fit, rooms, stored, element-suits}
use Rattle.round_rooms.proofs.Scratch.{own-size, piece-size, taken}
use Rattle.read_machine.specs.of_refusal.declared.Cause.TheVariants as cause

module _ (n m k : ℕ) where
  abbrev pub ContentFits : Content → Type 0
  ContentFits c = Fit n m (length c.records) (length c.texts)

  join-fits : (mode : Mode) (v : List ℕ) (c : Content) → ContentFits (join_piece mode v c) → ContentFits c
  join-fits (at l) v c f = f
  join-fits (gathering l o) v c f = f
  join-fits (listing l) v c f = f
  join-fits (skipping m name depth) v c f = f
  join-fits finished v c f = f

  gather-suits : (p : Place) (mode : Mode) (b : PieceKind) (s : List ℕ) (c : Content) → taken c + piece_size b s ≤ k
      → Suits (ContentFits c) ContentFits (gather (rooms n m k) p mode b s c) (gather unlimited p mode b s c)
  unfolding gather
  gather-suits p mode b s c l =
      bind_held (leaf _) (answered p (piece_of b s)) λ v e.
      fitting k (length (own mode c) + length v) p cause.ScratchFull (λ f. (f, omega (arith, piece-size b s v e, own-size mode c))) (comes (join-fits mode v c))

  adding-suits : (p : Place) (kind j : ℕ) (xs : List Attribute) (c : Content) → Suits (ContentFits c) ContentFits (adding (rooms n m k) p kind j xs c) (adding unlimited p kind j xs c)
  unfolding adding
  adding-suits p kind j xs c = bind (element-suits n m k p kind j xs c.records c.texts) λ g. comes λ f. f

  -- records of the same number
  same-fits : (rs : List (List ℕ)) (c : Content) → length rs ≡ length c.records → ContentFits (with_records c rs) → ContentFits c
  same-fits rs c e f = record { records = omega (arith, f.records); texts = f.texts }

  keeping-suits : (p : Place) (b : Bool) (i o t : ℕ) (v : List ℕ) (c : Content) → Suits (ContentFits c) ContentFits (keeping (rooms n m k) p b i o t v c) (keeping unlimited p b i o t v c)
  unfolding keeping
  keeping-suits p b i o t v c =
      stored n m k (length c.records) p c.texts (cleaned v)
      (comes λ f. record { records = omega (arith, length-changed i (kept b (put_text o t (length c.texts) (length (cleaned v)))) c.records, f.records); texts = f.texts })

  describing-suits : (p : Place) (s : Marks) (c : Content) → Suits (ContentFits c) ContentFits (describing (rooms n m k) p s c) (describing unlimited p s c)
  unfolding describing
  describing-suits p s c = choosing (is_empty (trimmed c.description)) (comes λ f. f) (bind (keeping-suits p true s.status_at_of 20 6 c.description c) λ d. comes λ f. f)

  outputting-suits : (p : Place) (l : Level) (o : Output) (s : Marks) (c : Content) → Suits (ContentFits c) ContentFits (outputting (rooms n m k) p l o s c) (outputting unlimited p l o s c)
  unfolding outputting
  outputting-suits p l o s c = bind (keeping-suits p (takes l s) (record_of_it l s) (word_of o) (bit_of o) c.gathered c) λ d. comes λ f. f

  perform-suits : (p : Place) (a : Act) (j : ℕ) (xs : List Attribute) (t : Control) (s : Marks) (c : Content)
      → Suits (ContentFits c) ContentFits (perform (rooms n m k) p a j xs t s c) (perform unlimited p a j xs t s c)
  unfolding perform
  perform-suits p (pass b) j xs t s c = comes λ f. f
  perform-suits p (open_report e) j xs t s c = starts (same-fits (kill_all c.records) c (length-all c.records)) (adding-suits p 1 j xs (with_records c (kill_all c.records)))
  perform-suits p (open_suite e) j xs t s c = adding-suits p 2 j xs c
  perform-suits p (open_case e) j xs t s c = adding-suits p 3 j xs c
  perform-suits p (open_status b e) j xs t s c = adding-suits p b j xs c
  perform-suits p close_suite j xs t s c = comes λ f. f
  perform-suits p close_case j xs t s c = needing (ruled t.tally) p cause.StatusRule (comes λ f. f)
  perform-suits p close_status j xs t s c = describing-suits p s c
  perform-suits p (open_text l o) j xs t s c = comes λ f. f
  perform-suits p (close_text l o) j xs t s c = outputting-suits p l o s c
  perform-suits p (open_list l e) j xs t s c = comes (same-fits (kill_kind (property_kind l) (record_of_it l s) c.records) c (length-kind (property_kind l) (record_of_it l s) c.records))
  perform-suits p (read_property l e name) j xs t s c = adding-suits p (property_kind l) j xs c
  perform-suits p stop j xs t s c = comes λ f. f
  perform-suits p missing j xs t s c = stops
  perform-suits p (broken why) j xs t s c = stops

  -- ---- steps
  abbrev pub MachineFits : Machine → Type 0
  MachineFits s = ContentFits s.content

  act-suits : (a : Act) (j : ℕ) (xs : List Attribute) (s : Machine) → Suits (MachineFits s) MachineFits (act (rooms n m k) a j xs s) (act unlimited a j xs s)
  unfolding act
  act-suits a j xs s = bind (perform-suits (act_place a s.control.mode s.marks) a j xs s.control s.marks s.content) λ c. comes λ f. f

  pub step-suits : (e : Event) (s : Machine) → taken s.content + event_size e ≤ k → Suits (MachineFits s) MachineFits (step (rooms n m k) e s) (step unlimited e s)
  unfolding step
  step-suits (Tag b name j xs) s l = act-suits (plan_at s.control.mode s.control.seen b name) j xs s
  step-suits (Piece b bytes) s l =
      bind (choosing (gathers s.control.mode) (gather-suits _ s.control.mode b bytes s.content l) (comes λ f. f)) λ c. comes λ f. f
  step-suits Eof s l = act-suits (plan_eof s.control.mode s.control.seen s.control.closed) 0 [] s
  step-suits Fault s l = act-suits (plan_fault s.control.mode) 0 [] s
