-- What holds of the machine at each event: its records and texts are such as a layout may have, in the order that its mode says. Assumes nothing.
use Prim.Native.Nat.{ℕ, ◌+◌, ◌≤◌}
use mathlib.Core.Bool.{Bool, true, false}
use mathlib.Core.List.{List, [], ◌∷◌, ◌++◌}
use mathlib.Core.Path.{◌≡◌, refl, sym, ap, subst, ◌∙◌}
use native.Mathlib.Omega.{arith}
use lib.Dec.{lit≤}
use lib.ListN.{length}
use Rattle.table_events.specs.of_table.Event.{Attribute, Event, Tag, Piece, Eof, Fault}
use Rattle.read_path.specs.of_tree_status.declared.Tally.{Tally}
use Rattle.read_path.specs.of_tree_status.Status.{no_status, tallied, ruled}
use Rattle.read_path.proofs.of_tree_report.EncodeLists.{Each, done, more}
use Rattle.read_path.specs.of_read_element.Outcome.{◌>>=◌, Rooms}
use Rattle.read_path.proofs.of_read_element.TreeOutcome.{Holds, accept, refuse, bind, needed, either}
use Rattle.read_path.proofs.of_read_element.TreeRoles
use Rattle.read_path.specs.of_read_state.Control.{Level, top, suite, case, status, Output, Mode, at, gathering, listing, skipping, finished, control, Act, gathers, turn}
use Rattle.read_path.specs.of_read_rules.Rules.{plan_eof}
use Rattle.read_path.specs.of_read_place.Marks.{Marks, marks_after}
use Rattle.read_content.specs.Content.{Content, perform}
use Rattle.read_machine.specs.Machine.{Machine, act, step, run}
use Rattle.read_machine.proofs.TreeOrder.{kinds, kinds-length, kinds-killed, killed-all, There, there-new}
use Rattle.read_machine.proofs.TreeLevels.{Walk, walk_same, Ready, InSuite, InCase, report-opens, suite-opens, suite-closes, suite-lists, suite-wide}
use Rattle.read_machine.proofs.TreeLevels.{suite-properties, case-opens, case-closes, case-lists, case-wide, case-properties, status-opens}
use Rattle.read_machine.proofs.TreeKept.{Status, status-of, status-bounds, status-class}
use Rattle.read_machine.proofs.TreePlans.{Gathered, suite-out, suite-err, case-out, case-err, status-trace, status-out, status-err, Planned, stays, skips}
use Rattle.read_machine.proofs.TreePlans.{skips_on, returns, listed, reports, suites, stops, misses, breaks, cases, suite-ends, suite-list, statuses}
use Rattle.read_machine.proofs.TreePlans.{case-ends, case-list, status-ends, texts, texts-empty, text-ends, properties-read, tag-plan, eof-plan, fault-plan}
use Rattle.read_machine.proofs.TreeContent.{Sound, sound-some, sound-all, sound-kind, More, adds, Same, describes, Holder, puts-out, Fair, gathers-piece}
use Rattle.text_pieces.specs.of_refusal.declared.Cause.TheVariants as cause

-- ---- by the level that is open; s, c and e are the records of the open suite, case and status element, κ the last one's kind
abbrev pub Standing : Level → Bool → Tally → (s c e κ : ℕ) → List ℕ → Type 0
Standing top seen t s c e κ ks = seen ≡ true → Walk Ready ks
Standing suite seen t s c e κ ks = InSuite s 2 ks
Standing case seen t s c e κ ks = InCase s c t 2 ks
Standing status seen t s c e κ ks = InCase s c t 2 ks × Status κ × There e κ ks

-- while properties are read
abbrev pub Listing : Level → Bool → Tally → (s c e κ : ℕ) → List ℕ → Type 0
Listing top seen t s c e κ ks = ⊥
Listing suite seen t s c e κ ks = InSuite s 1 ks
Listing case seen t s c e κ ks = InCase s c t 1 ks
Listing status seen t s c e κ ks = ⊥

abbrev pub Moded : Mode → Bool → Tally → (s c e κ : ℕ) → List ℕ → Type 0
Moded (at l) seen t s c e κ ks = Standing l seen t s c e κ ks
Moded (gathering l o) seen t s c e κ ks = Gathered l o × Standing l seen t s c e κ ks
Moded (listing l) seen t s c e κ ks = Listing l seen t s c e κ ks
Moded (skipping m name depth) seen t s c e κ ks = Moded m seen t s c e κ ks
Moded finished seen t s c e κ ks = Walk Ready ks

pub record Good (rooms : Rooms) (s : Machine) : Type 0 where
  pub sound : Sound rooms s.content
  pub order : Moded s.control.mode s.control.seen s.control.tally s.marks.suite_at_of s.marks.case_at_of s.marks.status_at_of s.marks.status_kind_of (kinds s.content.records)

listed_at : (seen : Bool) (t : Tally) (s c e κ : ℕ) (ks : List ℕ) (l : Level) → Listing l seen t s c e κ ks → Standing l seen t s c e κ ks
listed_at seen t s c e κ ks top h = absurd h
listed_at seen t s c e κ ks suite h = suite-wide (lit≤ tt) h
listed_at seen t s c e κ ks case h = case-wide (lit≤ tt) h
listed_at seen t s c e κ ks status h = absurd h

holder : {o : Output} {l : Level} (seen : Bool) (t : Tally) (ks : List ℕ) (m : Marks) → Gathered l o → Standing l seen t m.suite_at_of m.case_at_of m.status_at_of m.status_kind_of ks → Holder l m ks
holder seen t ks m suite-out w = w.there
holder seen t ks m suite-err w = w.there
holder seen t ks m case-out w = w.there
holder seen t ks m case-err w = w.there
holder seen t ks m status-trace w = (w.1, w.2)
holder seen t ks m status-out w = (w.1, w.2)
holder seen t ks m status-err w = (w.1, w.2)

-- the machine by its parts
abbrev machine : Mode → Bool → Bool → Tally → Marks → Content → Machine
machine m seen closed t k c = record { control = control m seen closed t; content = c; marks = k }

-- a record without extras stands behind the others
alone : {κ : ℕ} {c d : Content} → More κ c d → ((2 ≤ κ) × (κ ≤ 3) → ⊥) → kinds c.records ++ (κ ∷ []) ≡ kinds d.records
alone {κ} {c} m h = sym (m.whole ∙ ap (λ (es : List ℕ). kinds c.records ++ (κ ∷ es)) (m.few h))

empty-ruled : ruled no_status ≡ true
unfolding ruled
empty-ruled = refl

-- ---- what each action leaves
acted : {rooms : Rooms} {m : Mode} {seen : Bool} {a : Act} (closed : Bool) (t : Tally) (k : Marks) (c : Content) (j : ℕ) (xs : List Attribute) → Planned seen m a → Sound rooms c
    → Moded m seen t k.suite_at_of k.case_at_of k.status_at_of k.status_kind_of (kinds c.records) → Holds (Good rooms) (act rooms a j xs (machine m seen closed t k c))
unfolding act perform turn marks_after ◌>>=◌
acted closed t k c j xs stays s w = accept (record { sound = s; order = w })
acted closed t k c j xs skips s w = accept (record { sound = s; order = w })
acted closed t k c j xs skips_on s w = accept (record { sound = s; order = w })
acted closed t k c j xs returns s w = accept (record { sound = s; order = w })
acted {seen = seen} closed t k c j xs (listed {l = l}) s w =
    accept (record { sound = s; order = listed_at seen t k.suite_at_of k.case_at_of k.status_at_of k.status_kind_of (kinds c.records) l w })
acted closed t k c j xs reports s w =
    bind (adds _ j xs TreeRoles.report (sound-all s)) λ d q.
    accept (record { sound = q.0; order = λ z. walk_same (alone q.1 (λ b. let l = b.0 in omega arith)) (report-opens (killed-all (sound-some s))) })
acted closed t k c j xs (suites {e = true} q) s w =
    bind (adds _ j xs TreeRoles.suite s) λ d g.
    accept (record { sound = g.0; order = λ z. walk_same (sym g.1.whole) (suite-closes (suite-opens g.1.each (w q))) })
acted closed t k c j xs (suites {e = false} q) s w =
    bind (adds _ j xs TreeRoles.suite s) λ d g.
    accept (record {
      sound = g.0;
      order = subst (λ (n : ℕ). InSuite n 2 (kinds d.records)) (kinds-length c.records) (subst (InSuite (length (kinds c.records)) 2) (sym g.1.whole) (suite-opens g.1.each (w q)));
    })
acted closed t k c j xs (stops q) s w = accept (record { sound = s; order = w q })
acted closed t k c j xs misses s w = refuse
acted closed t k c j xs breaks s w = refuse
acted closed t k c j xs (cases {e = true}) s w =
    bind (adds _ j xs TreeRoles.case s) λ d g.
    accept (record { sound = g.0; order = subst (InSuite k.suite_at_of 2) (sym g.1.whole) (case-closes empty-ruled (case-opens g.1.each w)) })
acted closed t k c j xs (cases {e = false}) s w =
    bind (adds _ j xs TreeRoles.case s) λ d g.
    accept (record {
      sound = g.0;
      order = subst (λ (n : ℕ). InCase k.suite_at_of n no_status 2 (kinds d.records)) (kinds-length c.records)
          (subst (InCase k.suite_at_of (length (kinds c.records)) no_status 2) (sym g.1.whole) (case-opens g.1.each w));
    })
acted {seen = seen} closed t k c j xs suite-ends s w =
    let q : seen ≡ true → Walk Ready (kinds c.records) = λ z. suite-closes w in accept (record { sound = s; order = q })
acted closed t k c j xs (suite-list {e = true}) s w =
    accept (record { sound = sound-kind 4 k.suite_at_of s; order = subst (InSuite k.suite_at_of 2) (sym (kinds-killed 4 k.suite_at_of (sound-some s))) (suite-wide (lit≤ tt) (suite-lists w)) })
acted closed t k c j xs (suite-list {e = false}) s w =
    accept (record { sound = sound-kind 4 k.suite_at_of s; order = subst (InSuite k.suite_at_of 1) (sym (kinds-killed 4 k.suite_at_of (sound-some s))) (suite-lists w) })
acted closed t k c j xs (statuses {κ = κ} {e = true} q) s w =
    (let st = status-of κ q in
    let b = status-bounds st in
    bind (adds _ j xs (status-class st) s) λ d g.
    accept (record {
      sound = g.0;
      order = subst (InCase k.suite_at_of k.case_at_of (tallied t κ) 2) (alone g.1 (λ z. let l = z.1 in let h = b.0 in omega arith)) (status-opens κ b.0 b.1 w);
    }))
acted closed t k c j xs (statuses {κ = κ} {e = false} q) s w =
    (let st = status-of κ q in
    let b = status-bounds st in
    bind (adds _ j xs (status-class st) s) λ d g.
    (let e : kinds c.records ++ (κ ∷ []) ≡ kinds d.records = alone g.1 (λ z. let l = z.1 in let h = b.0 in omega arith) in
    accept (record {
      sound = g.0;
      order = (
        subst (InCase k.suite_at_of k.case_at_of (tallied t κ) 2) e (status-opens κ b.0 b.1 w),
        st,
        subst (λ (n : ℕ). There n κ (kinds d.records)) (kinds-length c.records) (subst (There (length (kinds c.records)) κ) e (there-new κ (kinds c.records) [])),
      );
    })))
acted {rooms} closed t k c j xs case-ends s w =
    bind {Q = λ d. Sound rooms d × InSuite k.suite_at_of 2 (kinds d.records)} (needed (ruled t) _ cause.StatusRule λ e. accept (s, case-closes e w)) λ d g.
    accept (record { sound = g.0; order = g.1 })
acted closed t k c j xs (case-list {e = true}) s w =
    accept (record { sound = sound-kind 5 k.case_at_of s; order = subst (InCase k.suite_at_of k.case_at_of t 2) (sym (kinds-killed 5 k.case_at_of (sound-some s))) (case-wide (lit≤ tt) (case-lists w)) })
acted closed t k c j xs (case-list {e = false}) s w =
    accept (record { sound = sound-kind 5 k.case_at_of s; order = subst (InCase k.suite_at_of k.case_at_of t 1) (sym (kinds-killed 5 k.case_at_of (sound-some s))) (case-lists w) })
acted closed t k c j xs status-ends s w =
    bind (describes k _ w.1 w.2 s) λ d g. accept (record { sound = g.0; order = subst (InCase k.suite_at_of k.case_at_of t 2) (sym g.1) w.0 })
acted {seen = seen} closed t k c j xs (texts {l = l} {o = o} g) s w =
    let q : Gathered l o × Standing l seen t k.suite_at_of k.case_at_of k.status_at_of k.status_kind_of (kinds c.records) = (g, w) in accept (record { sound = s; order = q })
acted {seen = seen} closed t k c j xs (texts-empty {l = l} g) s w =
    bind (puts-out k _ g (holder seen t (kinds c.records) k g w) s) λ d q.
    accept (record { sound = q.0; order = subst (Standing l seen t k.suite_at_of k.case_at_of k.status_at_of k.status_kind_of) (sym q.1) w })
acted {seen = seen} closed t k c j xs (text-ends {l = l}) s w =
    bind (puts-out k _ w.0 (holder seen t (kinds c.records) k w.0 w.1) s) λ d g.
    accept (record { sound = g.0; order = subst (Standing l seen t k.suite_at_of k.case_at_of k.status_at_of k.status_kind_of) (sym g.1) w.1 })
acted closed t k c j xs (properties-read {l = top}) s w = absurd w
acted closed t k c j xs (properties-read {l = suite} {e = true}) s w =
    bind (adds _ j xs TreeRoles.suite_property s) λ d g.
    accept (record { sound = g.0; order = subst (InSuite k.suite_at_of 1) (alone g.1 (λ b. let l = b.1 in omega arith)) (suite-properties w) })
acted closed t k c j xs (properties-read {l = suite} {e = false}) s w =
    bind (adds _ j xs TreeRoles.suite_property s) λ d g.
    accept (record { sound = g.0; order = subst (InSuite k.suite_at_of 1) (alone g.1 (λ b. let l = b.1 in omega arith)) (suite-properties w) })
acted closed t k c j xs (properties-read {l = case} {e = true}) s w =
    bind (adds _ j xs TreeRoles.case_property s) λ d g.
    accept (record { sound = g.0; order = subst (InCase k.suite_at_of k.case_at_of t 1) (alone g.1 (λ b. let l = b.1 in omega arith)) (case-properties w) })
acted closed t k c j xs (properties-read {l = case} {e = false}) s w =
    bind (adds _ j xs TreeRoles.case_property s) λ d g.
    accept (record { sound = g.0; order = subst (InCase k.suite_at_of k.case_at_of t 1) (alone g.1 (λ b. let l = b.1 in omega arith)) (case-properties w) })
acted closed t k c j xs (properties-read {l = status}) s w = absurd w

-- ---- steps
-- an Indent's bytes are UTF-8; all others are checked
abbrev pub FairEvent : Event → Type 0
FairEvent (Tag k name j xs) = Unit {0}
FairEvent (Piece k bytes) = Fair k bytes
FairEvent Eof = Unit {0}
FairEvent Fault = Unit {0}

pub stepped : {rooms : Rooms} (e : Event) (s : Machine) → FairEvent e → Good rooms s → Holds (Good rooms) (step rooms e s)
unfolding step
stepped (Tag k tag j xs) s f g =
    acted s.control.closed s.control.tally s.marks s.content j xs (tag-plan s.control.mode s.control.seen k tag) g.sound g.order
stepped {rooms} (Piece k bytes) s f g =
    let m : Mode = s.control.mode in
    bind {Q = Same rooms s.content}
    (either (gathers m) (λ z. gathers-piece _ m k bytes f g.sound) (λ z. accept (g.sound, refl)))
    λ c q.
    accept (record {
      sound = q.0;
      order = subst (Moded m s.control.seen s.control.tally s.marks.suite_at_of s.marks.case_at_of s.marks.status_at_of s.marks.status_kind_of) (sym q.1) g.order;
    })
stepped Eof s f g =
    acted s.control.closed s.control.tally s.marks s.content 0 [] (eof-plan s.control.mode s.control.seen s.control.closed) g.sound g.order
stepped Fault s f g =
    acted s.control.closed s.control.tally s.marks s.content 0 [] (fault-plan s.control.mode) g.sound g.order

-- ---- the end
pub record Ended (rooms : Rooms) (s : Machine) : Type 0 where
  pub sound : Sound rooms s.content
  pub order : Walk Ready (kinds s.content.records)

ended : {rooms : Rooms} (m : Mode) (seen closed : Bool) (t : Tally) (k : Marks) (c : Content) → Sound rooms c
    → Moded m seen t k.suite_at_of k.case_at_of k.status_at_of k.status_kind_of (kinds c.records) → Holds (Ended rooms) (step rooms Eof (machine m seen closed t k c))
unfolding step act perform turn marks_after plan_eof ◌>>=◌
ended (at top) true true t k c s w = accept (record { sound = s; order = w refl })
ended (at top) true false t k c s w = refuse
ended (at top) false closed t k c s w = refuse
ended (at suite) seen closed t k c s w = refuse
ended (at case) seen closed t k c s w = refuse
ended (at status) seen closed t k c s w = refuse
ended (gathering l o) seen closed t k c s w = refuse
ended (listing l) seen closed t k c s w = refuse
ended (skipping m skipped depth) seen closed t k c s w = refuse
ended finished seen closed t k c s w = accept (record { sound = s; order = w })

-- a run from a good state: where it is accepted, its records and texts are such as a layout has
pub ran : {rooms : Rooms} {es : List Event} (s : Machine) → Each FairEvent es → Good rooms s → Holds (Ended rooms) (run rooms es s)
unfolding run
ran s done g = ended s.control.mode s.control.seen s.control.closed s.control.tally s.marks s.content g.sound g.order
ran s (more {x = e} f fs) g = bind (stepped e s f g) λ t h. ran t fs h
