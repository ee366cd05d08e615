-- A step for whose event there is room comes to the same with rooms as without. Assumes nothing.
use Prim.Native.Nat.{ℕ, ◌+◌, ◌≤◌}
use mathlib.Core.Path.{◌≡◌, refl, ap}
use mathlib.Core.List.{List, []}
use mathlib.Core.Bool.{Bool, true, false, cond}
use native.Mathlib.Omega.{arith}
use lib.ListN.{length, length-append}
use lib.Dec.{eqb}
use Rattle.read_machine.specs.of_names.Tags.{tag_of, testsuites, testsuite, testcase, properties}
use Rattle.write_report.specs.of_table.Event.{Attribute, TagKind, Start, Empty, End, PieceKind, Event, Tag, Piece, Eof, Fault}
use Rattle.read_machine.proofs.of_text_filter.Filtering.{length-filtered}
use Rattle.read_machine.specs.of_trim.Trim.{trimmed}
use Rattle.read_machine.proofs.of_trim.Ends.{trimmed-length}
use Rattle.read_machine.specs.of_tree_put.Put.{put_text}
use Rattle.read_machine.specs.of_tree_status.Status.{ruled}
use Rattle.read_machine.specs.of_read_element.Outcome.{Place, unlimited}
use Rattle.read_machine.proofs.of_read_element.TreeOutcome.{answered}
use Rattle.read_machine.proofs.of_read_element.TreeElement.{length-changed}
use Rattle.read_machine.specs.of_read_state.Control.{Level, top, suite, case, status, Output, Mode, at, gathering, listing, skipping, finished, Control, gathers, is_status}
use Rattle.read_machine.specs.of_read_state.Control.{Act, pass, open_report, open_suite, open_case, open_status, close_suite, close_case, close_status, open_text, close_text, open_list, read_property, stop, missing, broken}
use Rattle.read_machine.specs.of_read_rules.Rules.{at_top, at_suite, at_case, at_status, in_text, in_list_of, in_skip, tag_of_output, plan_at, plan_eof, plan_fault}
use Rattle.read_machine.specs.of_read_place.Marks.{Marks}
use Rattle.read_machine.specs.of_read_path.Paths.{act_place}
use Rattle.read_machine.specs.of_read_content.Content.{Content, kill_all, kill_kind, property_kind, record_of_it, word_of, bit_of, takes, kept, piece_of, join_piece}
use Rattle.read_machine.specs.of_read_content.Content.{own, gather, adding, with_records, cleaned, keeping, is_empty, describing, outputting, perform}
use Rattle.read_machine.specs.Machine.{Machine, act, step}
use Rattle.read_machine.proofs.TreeKept.{length-all, length-kind}
use Rattle.round_rooms.specs.Pieces.{piece_size, event_size}
use Rattle.round_rooms.specs.Needs.{event_records, attribute_bytes, event_bytes}
use Rattle.round_rooms.proofs.Elements.{rooms}
use Rattle.round_rooms.proofs.Scratch.{own-size, piece-size, taken, join-size}
use Rattle.round_rooms.proofs.Alike.{Alike, halts, gives, whole, weaken, bind, needing, choosing, fitting}
use Rattle.round_rooms.proofs.AlikeElements.{element-alike}
use Rattle.read_machine.specs.of_refusal.declared.Cause.TheVariants as cause

-- the bytes that are stored, and those that are open
abbrev pub weight : Content → ℕ
weight c = length c.texts + taken c

-- at most r records, w bytes stored or open, and t open
pub record Within (r w t : ℕ) (c : Content) : Type 0 where
  pub records : length c.records ≤ r
  pub bytes : weight c ≤ w
  pub opens : taken c ≤ t

-- the records that an action takes, with n attributes
abbrev spends : Act → ℕ → ℕ
spends (pass mode) n = 0
spends (open_report e) n = 1 + n
spends (open_suite e) n = 1 + n
spends (open_case e) n = 1 + n
spends (open_status s e) n = 1 + n
spends close_suite n = 0
spends close_case n = 0
spends close_status n = 0
spends (open_text l o) n = 0
spends (close_text l o) n = 0
spends (open_list l e) n = 0
spends (read_property l e name) n = 1 + n
spends stop n = 0
spends missing n = 0
spends (broken why) n = 0

unchanged : (r x : ℕ) (c : Content) → Within (length c.records + r) (weight c + x) (taken c) c
unchanged r x c = record { records = omega arith; bytes = omega arith; opens = omega arith }

join-records : (mode : Mode) (v : List ℕ) (c : Content) → (join_piece mode v c).records ≡ c.records
join-records (at l) v c = refl
join-records (gathering l o) v c = refl
join-records (listing l) v c = refl
join-records (skipping m name depth) v c = refl
join-records finished v c = refl

join-texts : (mode : Mode) (v : List ℕ) (c : Content) → (join_piece mode v c).texts ≡ c.texts
join-texts (at l) v c = refl
join-texts (gathering l o) v c = refl
join-texts (listing l) v c = refl
join-texts (skipping m name depth) v c = refl
join-texts finished v c = refl

cleaned-size : (v : List ℕ) → length (cleaned v) ≤ length v
cleaned-size v = omega (arith, length-filtered (trimmed v), trimmed-length v)

-- a text v was kept
record Kept (c : Content) (v : List ℕ) (d : Content) : Type 0 where
  records : length d.records ≡ length c.records
  texts : length d.texts ≤ length c.texts + length v
  description : length d.description ≡ length c.description

module _ (n m k : ℕ) where
  gather-alike : (p : Place) (mode : Mode) (b : PieceKind) (s : List ℕ) (c : Content) → taken c + piece_size b s ≤ k
      → Alike (Within (length c.records + 0) (weight c + piece_size b s) (taken c + piece_size b s)) (gather (rooms n m k) p mode b s c) (gather unlimited p mode b s c)
  unfolding gather
  gather-alike p mode b s c l =
      bind (whole (answered p (piece_of b s))) λ v e.
      (let z = piece-size b s v e in
      let j = join-size mode v c in
      let x = ap (λ (rs : List (List ℕ)). length rs) (join-records mode v c) in
      let y = ap (λ (t : List ℕ). length t) (join-texts mode v c) in
      fitting k (length (own mode c) + length v) p cause.ScratchFull (omega (arith, l, z, own-size mode c))
      (gives (record { records = omega (arith, x); bytes = omega (arith, y, z, j); opens = omega (arith, z, j) })))

  adding-alike : (p : Place) (kind j : ℕ) (xs : List Attribute) (c : Content) → length c.records + (1 + length xs) ≤ n → weight c + attribute_bytes xs ≤ m
      → Alike (Within (length c.records + (1 + length xs)) (weight c + attribute_bytes xs) (taken c)) (adding (rooms n m k) p kind j xs c) (adding unlimited p kind j xs c)
  unfolding adding
  adding-alike p kind j xs c h l =
      bind (element-alike n m k p kind j xs c.records c.texts h (omega (arith, l))) λ g u.
      gives (record { records = u.records; bytes = omega (arith, u.texts); opens = omega arith })

  keeping-alike : (p : Place) (b : Bool) (i o t : ℕ) (v : List ℕ) (c : Content) → length c.texts + length v ≤ m
      → Alike (Kept c v) (keeping (rooms n m k) p b i o t v c) (keeping unlimited p b i o t v c)
  unfolding keeping
  keeping-alike p b i o t v c l =
      let z = cleaned-size v in
      fitting m (length c.texts + length (cleaned v)) p cause.TextFull (omega (arith, l, z))
      (gives (record {
        records = length-changed i (kept b (put_text o t (length c.texts) (length (cleaned v)))) c.records;
        texts = omega (arith, z, length-append c.texts (cleaned v));
        description = refl;
      }))

  describing-alike : (p : Place) (s : Marks) (c : Content) → weight c ≤ m
      → Alike (Within (length c.records + 0) (weight c + 0) (taken c)) (describing (rooms n m k) p s c) (describing unlimited p s c)
  unfolding describing
  describing-alike p s c l =
      choosing (is_empty (trimmed c.description)) (gives (record { records = omega arith; bytes = omega arith; opens = omega arith }))
      (bind (keeping-alike p true s.status_at_of 20 6 c.description c (omega (arith, l))) λ d u.
      gives (record { records = omega (arith, u.records); bytes = omega (arith, u.texts); opens = omega arith }))

  outputting-alike : (p : Place) (v : Level) (o : Output) (s : Marks) (c : Content) → weight c ≤ m
      → Alike (Within (length c.records + 0) (weight c + 0) (taken c)) (outputting (rooms n m k) p v o s c) (outputting unlimited p v o s c)
  unfolding outputting
  outputting-alike p v o s c l =
      bind (keeping-alike p (takes v s) (record_of_it v s) (word_of o) (bit_of o) c.gathered c (omega (arith, l))) λ d u.
      gives (record { records = omega (arith, u.records); bytes = omega (arith, u.texts, u.description); opens = omega (arith, u.description) })

  -- the same with attributes that aren't read
  read-less : {x y : _} (c : Content) (xs : List Attribute) → Alike (Within (length c.records + 0) (weight c + 0) (taken c)) x y
      → Alike (Within (length c.records + 0) (weight c + attribute_bytes xs) (taken c)) x y
  read-less c xs h = weaken h (λ d w. record { records = w.records; bytes = omega (arith, w.bytes); opens = w.opens })

  perform-alike : (p : Place) (a : Act) (j : ℕ) (xs : List Attribute) (t : Control) (s : Marks) (c : Content) → length c.records + spends a (length xs) ≤ n → weight c + attribute_bytes xs ≤ m
      → Alike (Within (length c.records + spends a (length xs)) (weight c + attribute_bytes xs) (taken c)) (perform (rooms n m k) p a j xs t s c) (perform unlimited p a j xs t s c)
  unfolding perform
  perform-alike p (pass b) j xs t s c h l = gives (unchanged 0 (attribute_bytes xs) c)
  perform-alike p (open_report e) j xs t s c h l =
      let z = length-all c.records in
      weaken (adding-alike p 1 j xs (with_records c (kill_all c.records)) (omega (arith, z, h)) l) (λ d w. record { records = omega (arith, z, w.records); bytes = w.bytes; opens = w.opens })
  perform-alike p (open_suite e) j xs t s c h l = adding-alike p 2 j xs c h l
  perform-alike p (open_case e) j xs t s c h l = adding-alike p 3 j xs c h l
  perform-alike p (open_status b e) j xs t s c h l = adding-alike p b j xs c h l
  perform-alike p close_suite j xs t s c h l = gives (unchanged 0 (attribute_bytes xs) c)
  perform-alike p close_case j xs t s c h l = needing (ruled t.tally) p cause.StatusRule (gives (unchanged 0 (attribute_bytes xs) c))
  perform-alike p close_status j xs t s c h l = read-less c xs (describing-alike p s c (omega (arith, l)))
  perform-alike p (open_text v o) j xs t s c h l = gives (unchanged 0 (attribute_bytes xs) c)
  perform-alike p (close_text v o) j xs t s c h l = read-less c xs (outputting-alike p v o s c (omega (arith, l)))
  perform-alike p (open_list v e) j xs t s c h l =
      let z = length-kind (property_kind v) (record_of_it v s) c.records in
      gives {a = with_records c (kill_kind (property_kind v) (record_of_it v s) c.records)} (record { records = omega (arith, z); bytes = omega arith; opens = omega arith })
  perform-alike p (read_property v e name) j xs t s c h l = adding-alike p (property_kind v) j xs c h l
  perform-alike p stop j xs t s c h l = gives (unchanged 0 (attribute_bytes xs) c)
  perform-alike p missing j xs t s c h l = halts
  perform-alike p (broken why) j xs t s c h l = halts

-- ---- which actions take records
module _ (n : ℕ) where
  at_most : (a : Act) → spends a n ≤ 1 + n
  at_most (pass mode) = omega arith
  at_most (open_report e) = omega arith
  at_most (open_suite e) = omega arith
  at_most (open_case e) = omega arith
  at_most (open_status s e) = omega arith
  at_most close_suite = omega arith
  at_most close_case = omega arith
  at_most close_status = omega arith
  at_most (open_text l o) = omega arith
  at_most (close_text l o) = omega arith
  at_most (open_list l e) = omega arith
  at_most (read_property l e name) = omega arith
  at_most stop = omega arith
  at_most missing = omega arith
  at_most (broken why) = omega arith

  -- those that take none
  data Quiet : Act → Type 0 where
    quiet : {a : Act} → spends a n ≡ 0 → Quiet a

  none : {a : Act} → Quiet a → spends a n ≡ 0
  none (quiet h) = h

  both : (b : Bool) {x y : Act} → Quiet x → Quiet y → Quiet (cond b x y)
  both true h l = h
  both false h l = l

  ends : (mode : Mode) (seen : Bool) (name : List ℕ) → Quiet (plan_at mode seen End name)
  unfolding plan_at at_top at_suite at_case at_status in_text in_list_of in_skip
  ends (at top) seen name = both (eqb (tag_of name) testsuites) (both seen (quiet refl) (quiet refl)) (quiet refl)
  ends (at suite) seen name = both (eqb (tag_of name) testsuite) (quiet refl) (quiet refl)
  ends (at case) seen name = both (eqb (tag_of name) testcase) (quiet refl) (quiet refl)
  ends (at status) seen name = both (is_status (tag_of name)) (quiet refl) (quiet refl)
  ends (gathering l o) seen name = both (eqb (tag_of name) (tag_of_output o)) (quiet refl) (quiet refl)
  ends (listing l) seen name = both (eqb (tag_of name) properties) (quiet refl) (quiet refl)
  ends (skipping m skipped depth) seen name = quiet refl
  ends finished seen name = quiet refl

  at-end : (mode : Mode) (seen closed : Bool) → Quiet (plan_eof mode seen closed)
  unfolding plan_eof
  at-end (at top) seen closed = both seen (both closed (quiet refl) (quiet refl)) (quiet refl)
  at-end (at suite) seen closed = quiet refl
  at-end (at case) seen closed = quiet refl
  at-end (at status) seen closed = quiet refl
  at-end (gathering l o) seen closed = quiet refl
  at-end (listing l) seen closed = quiet refl
  at-end (skipping m skipped depth) seen closed = quiet refl
  at-end finished seen closed = quiet refl

  at-fault : (mode : Mode) → Quiet (plan_fault mode)
  unfolding plan_fault
  at-fault (at l) = quiet refl
  at-fault (gathering l o) = quiet refl
  at-fault (listing l) = quiet refl
  at-fault (skipping m skipped depth) = quiet refl
  at-fault finished = quiet refl

tag-spends : (k : TagKind) (mode : Mode) (seen : Bool) (name : List ℕ) (j : ℕ) (xs : List Attribute) → spends (plan_at mode seen k name) (length xs) ≤ event_records (Tag k name j xs)
tag-spends Start mode seen name j xs = at_most (length xs) (plan_at mode seen Start name)
tag-spends Empty mode seen name j xs = at_most (length xs) (plan_at mode seen Empty name)
tag-spends End mode seen name j xs = omega (arith, none (length xs) (ends (length xs) mode seen name))

-- ---- steps
module _ (n m k : ℕ) where
  act-alike : (a : Act) (j : ℕ) (xs : List Attribute) (s : Machine) (r : ℕ) → spends a (length xs) ≤ r → length s.content.records + r ≤ n → weight s.content + attribute_bytes xs ≤ m
      → Alike (λ (t : Machine). Within (length s.content.records + r) (weight s.content + attribute_bytes xs) (taken s.content + 0) t.content)
      (act (rooms n m k) a j xs s) (act unlimited a j xs s)
  unfolding act
  act-alike a j xs s r z h l =
      bind (perform-alike n m k (act_place a s.control.mode s.marks) a j xs s.control s.marks s.content (omega (arith, z, h)) l) λ c w.
      gives (record { records = omega (arith, z, w.records); bytes = w.bytes; opens = omega (arith, w.opens) })

  pub step-alike : (e : Event) (s : Machine) → length s.content.records + event_records e ≤ n → weight s.content + event_bytes e ≤ m → taken s.content + event_size e ≤ k
      → Alike (λ (t : Machine). Within (length s.content.records + event_records e) (weight s.content + event_bytes e) (taken s.content + event_size e) t.content)
      (step (rooms n m k) e s) (step unlimited e s)
  unfolding step
  step-alike (Tag b name j xs) s h l o =
      act-alike (plan_at s.control.mode s.control.seen b name) j xs s (event_records (Tag b name j xs)) (tag-spends b s.control.mode s.control.seen name j xs) h l
  step-alike (Piece b bytes) s h l o =
      bind (choosing (gathers s.control.mode) (gather-alike n m k _ s.control.mode b bytes s.content o)
      (gives {a = s.content} (record { records = omega arith; bytes = omega arith; opens = omega arith }))) λ c w. gives w
  step-alike Eof s h l o =
      act-alike (plan_eof s.control.mode s.control.seen s.control.closed) 0 [] s 0 (omega (arith, none 0 (at-end 0 s.control.mode s.control.seen s.control.closed))) h l
  step-alike Fault s h l o = act-alike (plan_fault s.control.mode) 0 [] s 0 (omega (arith, none 0 (at-fault 0 s.control.mode))) h l
