-- The plan fits the mode, and a run of the machine goes with a run of the public machine. Assumes nothing.
use Prim.Native.Nat.{ℕ, zero, suc, ◌+◌, ◌≤◌}
use mathlib.Core.Path.{◌≡◌, refl, sym, ap, ◌∙◌, subst}
use mathlib.Core.List.{List, [], ◌∷◌, ◌++◌, map}
use mathlib.Core.Bool.{Bool, true, false, cond, not, ◌&&◌}
use lib.Dec.{eqb}
use Rattle.read_report.specs.of_names.Names.{same_bytes}
use Rattle.read_report.specs.of_names.Tags.{tag_of, testsuites, testsuite, testcase, properties, property, stack_trace, system-out, system-err}
use Rattle.read_report.specs.of_refusal.Refusal.{accepted}
use Rattle.read_report.specs.of_table.Event.{Attribute, TagKind, Start, Empty, End, PieceKind, Event, Tag, Piece, Eof, Fault}
use Rattle.read_report.specs.of_read_element.Outcome.{◌>>=◌, Place, Rooms}
use Rattle.read_report.specs.of_read_state.Control.{Level, top, suite, case, status, Output, Mode, at, gathering, listing, skipping, finished, Control}
use Rattle.read_report.specs.of_read_state.Control.{Act, pass, open_report, open_suite, open_case, open_status, close_suite, close_case, close_status, open_text, close_text, open_list, read_property, stop, missing, broken}
use Rattle.read_report.specs.of_read_state.Control.{is_status, or_skip, gathers, turn}
use Rattle.read_report.specs.of_read_rules.Rules.{outputs, emptied, at_top, at_suite, at_case, child, at_status, in_text, in_list_of, in_skip, shallower, plan_at, plan_eof, plan_fault, tag_of_output}
use Rattle.read_report.specs.of_read_place.Marks.{Marks, onward}
use Rattle.read_report.specs.of_read_path.Paths.{act_place}
use Rattle.read_report.specs.of_read_content.Content.{Content, join_piece, gather, perform}
use Rattle.read_report.specs.of_read_machine.Machine.{Machine, act, step, run, begin}
use Rattle.public_claims.specs.Agree.{blanked, public}
use Rattle.public_claims.specs.inside.PublicMachine.{Node, PublicState, acting, ending, public_step, public_run, public_begin, nodes_read}
use Rattle.public_claims.proofs.Holding.{Holds, accept, refusing, held, bind, weaken, needing, choosing, anything}
use Rattle.list_text.specs.of_tree_report.Fields.{kind_of}
use lib.ListN.{get_or}
use Rattle.public_claims.proofs.View.{looks}
use Rattle.public_claims.proofs.Said.{Solid}
use Rattle.public_claims.proofs.Acts.{impossible, at_status_level, in_status, traced, sound, is_finished, heads, Inv, Fits, perform-goes}

-- ---- the plan
choose : (P : Act → Type 0) (b : Bool) {x y : Act} → P x → P y → P (cond b x y)
choose P true h j = h
choose P false h j = j

test : (P : Act → Type 0) (b : Bool) {x y : Act} → (b ≡ true → P x) → P y → P (cond b x y)
test P true h j = h refl
test P false h j = j

module _ (seen : Bool) where
  -- passing on in an element, or skipping in it
  stays : (l : Level) → Fits (at l) seen (pass (at l))
  stays l = (λ e. e, refl, impossible)

  skips : (l : Level) (name : List ℕ) → Fits (at l) seen (or_skip l name)
  unfolding or_skip
  skips l name = (λ e. e, refl, impossible)

  outputs-fit : (l : Level) (name : List ℕ) → Fits (at l) seen (outputs l name)
  unfolding outputs
  outputs-fit l name =
      choose (Fits (at l) seen) (eqb (tag_of name) system-out) (λ e. e, refl) (choose (Fits (at l) seen) (eqb (tag_of name) system-err) (λ e. e, refl) (skips l name))

  emptied-fits : (l : Level) (name : List ℕ) → Fits (at l) seen (emptied l name)
  unfolding emptied
  emptied-fits l name =
      choose (Fits (at l) seen) (eqb (tag_of name) system-out) (λ e. e, refl) (choose (Fits (at l) seen) (eqb (tag_of name) system-err) (λ e. e, refl) (stays l))

  top-fits : (k : TagKind) (t : ℕ) → Fits (at top) seen (at_top seen k t)
  unfolding at_top
  top-fits Start t = choose (Fits (at top) seen) (eqb t testsuites) tt (choose (Fits (at top) seen) (eqb t testsuite && seen) tt (stays top))
  top-fits Empty t = choose (Fits (at top) seen) (eqb t testsuites) tt (choose (Fits (at top) seen) (eqb t testsuite && seen) tt (stays top))
  top-fits End t = choose (Fits (at top) seen) (eqb t testsuites) (test (Fits (at top) seen) seen (λ e. e) tt) (stays top)

  suite-fits : (k : TagKind) (name : List ℕ) → Fits (at suite) seen (at_suite k name)
  unfolding at_suite
  suite-fits Start name =
      choose (Fits (at suite) seen) (eqb (tag_of name) testcase) tt (choose (Fits (at suite) seen) (eqb (tag_of name) properties) refl (outputs-fit suite name))
  suite-fits Empty name =
      choose (Fits (at suite) seen) (eqb (tag_of name) testcase) tt (choose (Fits (at suite) seen) (eqb (tag_of name) properties) refl (emptied-fits suite name))
  suite-fits End name = choose (Fits (at suite) seen) (eqb (tag_of name) testsuite) tt (stays suite)

  case-fits : (k : TagKind) (name : List ℕ) → Fits (at case) seen (at_case k name)
  unfolding at_case
  case-fits Start name =
      test (Fits (at case) seen) (is_status (tag_of name)) (λ e. e) (choose (Fits (at case) seen) (eqb (tag_of name) properties) refl (outputs-fit case name))
  case-fits Empty name =
      test (Fits (at case) seen) (is_status (tag_of name)) (λ e. e) (choose (Fits (at case) seen) (eqb (tag_of name) properties) refl (emptied-fits case name))
  case-fits End name = choose (Fits (at case) seen) (eqb (tag_of name) testcase) tt (stays case)

  child_fits : (name : List ℕ) → Fits (at status) seen (child name)
  unfolding child
  child_fits name = choose (Fits (at status) seen) (eqb (tag_of name) stack_trace) (λ e. e, refl) (outputs-fit status name)

  status-fits : (k : TagKind) (name : List ℕ) → Fits (at status) seen (at_status k name)
  unfolding at_status
  status-fits Start name = child_fits name
  status-fits Empty name = choose (Fits (at status) seen) (eqb (tag_of name) stack_trace) (λ e. e, refl) (emptied-fits status name)
  status-fits End name = choose (Fits (at status) seen) (is_status (tag_of name)) refl (stays status)

  text-fits : (l : Level) (o : Output) (k : TagKind) (t : ℕ) → traced l o ≡ true → Fits (gathering l o) seen (in_text l o k t)
  unfolding in_text
  text-fits l o Start t h = (λ e. e, h, impossible)
  text-fits l o Empty t h = (λ e. e, h, impossible)
  text-fits l o End t h = choose (Fits (gathering l o) seen) (eqb t (tag_of_output o)) (λ e. e, h) (λ e. e, h, impossible)

  not_so : (b : Bool) → not b ≡ true → b ≡ false
  not_so true e = impossible e
  not_so false e = refl

  list-fits : (l : Level) (k : TagKind) (name : List ℕ) → not (at_status_level l) ≡ true → Fits (listing l) seen (in_list_of l k name)
  unfolding in_list_of
  list-fits l Start name h =
      choose (Fits (listing l) seen) (eqb (tag_of name) property) (not_so (at_status_level l) h, not_so (at_status_level l) h) (λ e. e, h, impossible)
  list-fits l Empty name h =
      choose (Fits (listing l) seen) (eqb (tag_of name) property) (not_so (at_status_level l) h, not_so (at_status_level l) h) (λ e. e, h, impossible)
  list-fits l End name h = choose (Fits (listing l) seen) (eqb (tag_of name) properties) (λ e. e, refl, impossible) (λ e. e, h, impossible)

  passing : (m : Mode) (b : Bool) (x y : Mode) → Fits m seen (pass x) → Fits m seen (pass y) → Fits m seen (pass (cond b x y))
  passing m true x y h j = h
  passing m false x y h j = j

  module _ (m : Mode) (h : sound m ≡ true) (f : is_finished m ≡ true → seen ≡ true) (skipped : List ℕ) where
    shallower-fits : (d depth : ℕ) → Fits (skipping m skipped d) seen (pass (shallower m skipped depth))
    shallower-fits d zero = (λ e. e, h, f)
    shallower-fits d (suc depth) = (λ e. e, h, f)

    skip-fits : (depth : ℕ) (k : TagKind) (name : List ℕ) → Fits (skipping m skipped depth) seen (in_skip m skipped depth k name)
    unfolding in_skip
    skip-fits depth Start name = (λ e. e, h, f)
    skip-fits depth Empty name = (λ e. e, h, f)
    skip-fits depth End name =
        passing (skipping m skipped depth) (same_bytes name skipped) (shallower m skipped depth) (skipping m skipped depth) (shallower-fits depth depth) (λ e. e, h, f)

  plan-fits : (m : Mode) (k : TagKind) (name : List ℕ) → sound m ≡ true → (is_finished m ≡ true → seen ≡ true) → Fits m seen (plan_at m seen k name)
  unfolding plan_at
  plan-fits (at top) k name h f = top-fits k (tag_of name)
  plan-fits (at suite) k name h f = suite-fits k name
  plan-fits (at case) k name h f = case-fits k name
  plan-fits (at status) k name h f = status-fits k name
  plan-fits (gathering l o) k name h f = text-fits l o k (tag_of name) h
  plan-fits (listing l) k name h f = list-fits l k name h
  plan-fits (skipping m skipped depth) k name h f = skip-fits m h f skipped depth k name
  plan-fits finished k name h f = (λ e. e, refl, f)

  eof-fits : (m : Mode) (closed : Bool) → (is_finished m ≡ true → seen ≡ true) → Fits m seen (plan_eof m seen closed)
  unfolding plan_eof
  eof-fits (at top) closed f = test (Fits (at top) seen) seen (λ e. choose (Fits (at top) seen) closed e tt) tt
  eof-fits (at suite) closed f = tt
  eof-fits (at case) closed f = tt
  eof-fits (at status) closed f = tt
  eof-fits (gathering l o) closed f = tt
  eof-fits (listing l) closed f = tt
  eof-fits (skipping m skipped depth) closed f = tt
  eof-fits finished closed f = (λ e. e, refl, f)

  fault-fits : (m : Mode) → (is_finished m ≡ true → seen ≡ true) → Fits m seen (plan_fault m)
  unfolding plan_fault
  fault-fits (at l) f = tt
  fault-fits (gathering l o) f = tt
  fault-fits (listing l) f = tt
  fault-fits (skipping m skipped depth) f = tt
  fault-fits finished f = (λ e. e, refl, f)

-- Eof stops or refuses
abbrev Ends : Act → Type 0
Ends (pass n) = is_finished n ≡ true
Ends (open_report e) = ⊥
Ends (open_suite e) = ⊥
Ends (open_case e) = ⊥
Ends (open_status k e) = ⊥
Ends close_suite = ⊥
Ends close_case = ⊥
Ends close_status = ⊥
Ends (open_text l o) = ⊥
Ends (close_text l o) = ⊥
Ends (open_list l e) = ⊥
Ends (read_property l e name) = ⊥
Ends stop = Unit {0}
Ends missing = Unit {0}
Ends (broken n) = Unit {0}

eof-ends : (m : Mode) (seen closed : Bool) → Ends (plan_eof m seen closed)
unfolding plan_eof
eof-ends (at top) seen closed = choose Ends seen (choose Ends closed tt tt) tt
eof-ends (at suite) seen closed = tt
eof-ends (at case) seen closed = tt
eof-ends (at status) seen closed = tt
eof-ends (gathering l o) seen closed = tt
eof-ends (listing l) seen closed = tt
eof-ends (skipping m skipped depth) seen closed = tt
eof-ends finished seen closed = refl

-- ---- steps and runs
abbrev pub InvOf : Machine → List Node → Type 0
InvOf s ns = Inv s.control s.content s.marks ns

-- the machine t shows what the public state p has
pub record Sim (p : PublicState) (t : Machine) : Type 0 where
  pub inv : InvOf t p.nodes
  pub same : t.control ≡ p.control

module _ (rooms : Rooms) where
  act-sim : (a : Act) (j : ℕ) (xs : List Attribute) (s : Machine) (ns : List Node) → InvOf s ns → Fits s.control.mode s.control.seen a →
      Holds (Sim (acting a (map blanked xs) (record { control = s.control; nodes = ns }))) (act rooms a j xs s)
  unfolding act acting
  act-sim a j xs s ns i f =
      bind (perform-goes rooms s.control s.marks s.content ns i (act_place a s.control.mode s.marks) a j xs f)
      λ c g. accept (record { inv = g; same = refl })

  join-same : (m : Mode) (v : List ℕ) (c : Content) → ((join_piece m v c).records ≡ c.records) × ((join_piece m v c).texts ≡ c.texts)
  join-same (at l) v c = (refl, refl)
  join-same (gathering l o) v c = (refl, refl)
  join-same (listing l) v c = (refl, refl)
  join-same (skipping m name depth) v c = (refl, refl)
  join-same finished v c = (refl, refl)

  gather-same : (p : Place) (m : Mode) (k : PieceKind) (b : List ℕ) (c : Content) → Holds (λ (d : Content). (d.records ≡ c.records) × (d.texts ≡ c.texts)) (gather rooms p m k b c)
  unfolding gather
  gather-same p m k b c = bind (anything _) λ v _. needing _ _ _ (accept (join-same m v c))

  same-inv : (k : Control) (m n : Marks) (c d : Content) (ns : List Node) → d.records ≡ c.records → d.texts ≡ c.texts → n.status_at_of ≡ m.status_at_of → Inv k c m ns → Inv k d n ns
  same-inv k m n c d ns e f g i =
      record {
        shows = λ u. ap (looks (d.texts ++ u)) e ∙ ap (λ (t : List ℕ). looks (t ++ u) c.records) f ∙ i.shows u;
        solid = subst Solid (sym e) i.solid;
        headed = λ h. ap heads e ∙ i.headed h;
        here = λ h. subst (λ (rs : List (List ℕ)). 6 ≤ kind_of (get_or rs n.status_at_of [])) (sym e) (subst (λ (x : ℕ). 6 ≤ kind_of (get_or c.records x [])) (sym g) (i.here h));
        sane = i.sane;
        ended = i.ended;
      }

  piece_sim : (k : PieceKind) (b : List ℕ) (s : Machine) (ns : List Node) → InvOf s ns → Holds (Sim (record { control = s.control; nodes = ns })) (step rooms (Piece k b) s)
  unfolding step
  piece_sim k b s ns i =
      bind
      (choosing {Q = λ (d : Content). (d.records ≡ s.content.records) × (d.texts ≡ s.content.texts)} (gathers s.control.mode)
      (gather-same _ s.control.mode k b s.content) (accept (refl, refl)))
      λ c g. accept (record { inv = same-inv s.control s.marks (onward s.marks) s.content c ns g.0 g.1 refl i; same = refl })

  tag_fits : (s : Machine) (ns : List Node) (k : TagKind) (name : List ℕ) → InvOf s ns → Fits s.control.mode s.control.seen (plan_at s.control.mode s.control.seen k name)
  tag_fits s ns k name i = plan-fits s.control.seen s.control.mode k name i.sane i.ended

  -- at the end the report is there
  pub record Ended (p : PublicState) (t : Machine) : Type 0 where
    pub sim : Sim p t
    pub over : is_finished t.control.mode ≡ true

  end-sim : (a : Act) (s : Machine) (ns : List Node) → InvOf s ns → Fits s.control.mode s.control.seen a → Ends a →
      Holds (Ended (acting a [] (record { control = s.control; nodes = ns }))) (act rooms a 0 [] s)
  unfolding act perform acting turn ◌>>=◌
  end-sim (pass n) s ns i f e = weaken (act-sim (pass n) 0 [] s ns i f) λ t g. record { sim = g; over = ap (λ (c : Control). is_finished c.mode) g.same ∙ e }
  end-sim stop s ns i f e = weaken (act-sim stop 0 [] s ns i f) λ t g. record { sim = g; over = ap (λ (c : Control). is_finished c.mode) g.same }
  end-sim missing s ns i f e = refusing
  end-sim (broken n) s ns i f e = refusing
  end-sim (open_report b) s ns i f e = absurd e
  end-sim (open_suite b) s ns i f e = absurd e
  end-sim (open_case b) s ns i f e = absurd e
  end-sim (open_status k b) s ns i f e = absurd e
  end-sim close_suite s ns i f e = absurd e
  end-sim close_case s ns i f e = absurd e
  end-sim close_status s ns i f e = absurd e
  end-sim (open_text l o) s ns i f e = absurd e
  end-sim (close_text l o) s ns i f e = absurd e
  end-sim (open_list l b) s ns i f e = absurd e
  end-sim (read_property l b name) s ns i f e = absurd e

  -- from one public state on
  goes_on : (es : List Event) (p : PublicState) (t : Machine) → Sim p t →
      ((ns : List Node) → InvOf t ns → Holds (Ended (public_run (public es) (record { control = t.control; nodes = ns }))) (run rooms es t)) → Holds (Ended (public_run (public es) p)) (run rooms es t)
  goes_on es p t g h = subst (λ (c : Control). Holds (Ended (public_run (public es) (record { control = c; nodes = p.nodes }))) (run rooms es t)) g.same (h p.nodes g.inv)

  pub run_sim : (es : List Event) (s : Machine) (ns : List Node) → InvOf s ns → Holds (Ended (public_run (public es) (record { control = s.control; nodes = ns }))) (run rooms es s)
  unfolding run step public_run public_step ending
  run_sim [] s ns i =
      end-sim (plan_eof s.control.mode s.control.seen s.control.closed) s ns i
      (eof-fits s.control.seen s.control.mode s.control.closed i.ended) (eof-ends s.control.mode s.control.seen s.control.closed)
  run_sim (Tag k name j xs ∷ es) s ns i =
      bind (act-sim (plan_at s.control.mode s.control.seen k name) j xs s ns i (tag_fits s ns k name i))
      λ t g. goes_on es _ t g (λ ms m. run_sim es t ms m)
  run_sim (Piece k b ∷ es) s ns i = bind (piece_sim k b s ns i) λ t g. goes_on es _ t g (λ ms m. run_sim es t ms m)
  run_sim (Eof ∷ es) s ns i =
      bind (act-sim (plan_eof s.control.mode s.control.seen s.control.closed) 0 [] s ns i (eof-fits s.control.seen s.control.mode s.control.closed i.ended))
      λ t g. goes_on es _ t g (λ ms m. run_sim es t ms m)
  run_sim (Fault ∷ es) s ns i =
      bind (act-sim (plan_fault s.control.mode) 0 [] s ns i (fault-fits s.control.seen s.control.mode i.ended))
      λ t g. goes_on es _ t g (λ ms m. run_sim es t ms m)

begin-inv : InvOf begin []
begin-inv = record { shows = λ u. refl; solid = tt; headed = impossible; here = impossible; sane = refl; ended = impossible }

-- what an accepted run leaves shows what the public machine has read, behind one live report
pub run-shows : (rooms : Rooms) (es : List Event) (s : Machine) → run rooms es begin ≡ accepted s →
    ((u : List ℕ) → looks (s.content.texts ++ u) s.content.records ≡ nodes_read (public es)) × (heads s.content.records ≡ 1) × Solid s.content.records
unfolding nodes_read
run-shows rooms es s e =
    let r : Ended rooms (public_run (public es) public_begin) s = held (rw e at (run_sim rooms es begin [] begin-inv)) in
    (r.sim.inv.shows, r.sim.inv.headed (r.sim.inv.ended r.over), r.sim.inv.solid)
