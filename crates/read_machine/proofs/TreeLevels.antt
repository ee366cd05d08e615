-- Where the order of records stands inside the report, a suite and a case, as they are and with properties marked dead. Assumes nothing.
use Prim.Native.Nat.{ℕ, zero, suc, ◌+◌, ◌≤◌}
use mathlib.Core.Bool.{Bool, true, false, cond}
use mathlib.Core.List.{List, [], ◌∷◌, ◌++◌}
use mathlib.Core.Path.{◌≡◌, refl, sym, ap, ap₂, subst, ◌∙◌}
use native.Mathlib.Omega.{arith}
use borrow.Author.Tests.{lt-ltb, le-leb, eq-eqb, ne_eqb, eqb-true}
use lib.Dec.{ltb, eqb, lit≤}
use lib.ListN.{length}
use Rattle.read_path.specs.of_tree_report.Layout.{Open, nothing, over, may_end, may_follow, following, opened}
use Rattle.read_path.specs.of_tree_status.declared.Tally.{Tally}
use Rattle.read_path.specs.of_tree_status.Status.{no_status, tallied, ruled}
use Rattle.read_path.proofs.of_tree_report.EncodeLists.{both, Each, done, more, each_on}
use Rattle.read_machine.proofs.TreeOrder.{kill_from, length-kill, kill-append, kill-end, kill-free, kill-twice, There, there-append}
use Rattle.read_machine.proofs.TreeOrder.{there-new, there-kept, only-kind, Path, end, past, next, path-append, path-dead}

-- ---- records that lead from o to where Q is open
pub record From (o : Open) (Q : Open → Type 0) (ks : List ℕ) : Type 0 where
  pub to : Open
  pub path : Path o ks to
  pub holds : Q to

abbrev pub Walk : (Open → Type 0) → List ℕ → Type 0
Walk Q ks = From nothing Q ks

pub walk-on : {Q R : Open → Type 0} {ks js : List ℕ} → Walk Q ks → ((o : Open) → Q o → From o R js) → Walk R (ks ++ js)
walk-on w f = let g = f w.to w.holds in record { to = g.to; path = path-append w.path g.path; holds = g.holds }

pub walk-as : {Q R : Open → Type 0} {ks : List ℕ} → Walk Q ks → ((o : Open) → Q o → R o) → Walk R ks
walk-as w f = record { to = w.to; path = w.path; holds = f w.to w.holds }

pub walk_same : {Q : Open → Type 0} {ks js : List ℕ} → ks ≡ js → Walk Q ks → Walk Q js
walk_same {Q} e w = subst (λ (l : List ℕ). Walk Q l) e w

-- ---- what is open
-- a suite may follow
pub record Ready (o : Open) : Type 0 where
  pub level : 1 ≤ o.level
  pub ends : may_end o ≡ true

-- a case may follow; the suite's list is 0 to come, 1 at hand, 2 over
pub record SuiteOpen (u : ℕ) (o : Open) : Type 0 where
  pub level : 2 ≤ o.level
  pub ends : may_end o ≡ true
  pub list : o.suite_list_of ≤ u

pub record CaseOpen (t : Tally) (u v : ℕ) (o : Open) : Type 0 where
  pub level : o.level ≡ 3
  pub tally : o.tally ≡ t
  pub plain : o.flagged ≡ false
  pub suite : o.suite_list_of ≤ u
  pub list : o.case_list ≤ v

pub suite-ready : {u : ℕ} (o : Open) → SuiteOpen u o → Ready o
suite-ready o s = record { level = let l = s.level in omega arith; ends = s.ends }

pub suite-wider : {u : ℕ} (w : ℕ) → u ≤ w → (o : Open) → SuiteOpen u o → SuiteOpen w o
suite-wider w h o s = record { level = s.level; ends = s.ends; list = let l = s.list in omega arith }

pub case-wider : {t : Tally} {u v : ℕ} (x y : ℕ) → u ≤ x → v ≤ y → (o : Open) → CaseOpen t u v o → CaseOpen t x y o
case-wider x y h k o c = record { level = c.level; tally = c.tally; plain = c.plain; suite = (let l = c.suite in omega arith); list = (let l = c.list in omega arith) }

-- the case ends
pub case-ends : {t : Tally} {u v : ℕ} → ruled t ≡ true → (o : Open) → CaseOpen t u v o → SuiteOpen u o
unfolding may_end
case-ends {t} e o c = record {
  level = (let l = c.level in omega arith);
  ends = both (ap ruled c.tally ∙ e) (rw c.plain refl);
  list = c.suite;
}

over-keeps : (n u : ℕ) → n ≤ u → (u ≡ 1 → 2 ≤ u) → over n ≤ u
over-keeps n u h k = go (eqb n 1) refl
  where
    least : (u : ℕ) → 1 ≤ u → (u ≡ 1 → 2 ≤ u) → 2 ≤ u
    least zero h k = absurd (omega arith)
    least (suc zero) h k = k refl
    least (suc (suc u)) h k = omega arith

    go : (t : Bool) → eqb n 1 ≡ t → cond t 2 n ≤ u
    go true q = least u (let e = eqb-true n 1 q in omega arith) k
    go false q = h

-- ---- one record
report-next : (o : Open) → o ≡ nothing → From o Ready (1 ∷ [])
unfolding may_follow following may_end ruled
report-next o e = subst (λ (p : Open). From p Ready (1 ∷ [])) (sym e) (record { to = opened 1 0; path = next refl refl end; holds = record { level = lit≤ tt; ends = refl } })

suite-extras : {es : List ℕ} → Each (λ k. k ≡ 13) es → Path (opened 2 0) es (opened 2 0)
unfolding may_follow following
suite-extras done = end
suite-extras (more {xs = xs} e es) = subst (λ (k : ℕ). Path (opened 2 0) (k ∷ xs) (opened 2 0)) (sym e) (next refl refl (suite-extras es))

case-extras : {es : List ℕ} (n : ℕ) → Each (λ k. k ≡ 14) es → Path (opened 3 n) es (opened 3 n)
unfolding may_follow following
case-extras n done = end
case-extras n (more {xs = xs} e es) = subst (λ (k : ℕ). Path (opened 3 n) (k ∷ xs) (opened 3 n)) (sym e) (next refl refl (case-extras n es))

suite-next : {es : List ℕ} → Each (λ k. k ≡ 13) es → (o : Open) → Ready o → From o (SuiteOpen 0) (2 ∷ es)
unfolding may_follow following may_end ruled
suite-next es o r = record {
  to = opened 2 0;
  path = next refl (both (le-leb 1 o.level r.level) r.ends) (suite-extras es);
  holds = record { level = lit≤ tt; ends = refl; list = lit≤ tt };
}

case-next : {es : List ℕ} (u : ℕ) → (u ≡ 1 → 2 ≤ u) → Each (λ k. k ≡ 14) es → (o : Open) → SuiteOpen u o → From o (CaseOpen no_status u 0) (3 ∷ es)
unfolding may_follow following
case-next u g es o s = record {
  to = opened 3 (over o.suite_list_of);
  path = next refl (both (le-leb 2 o.level s.level) s.ends) (case-extras (over o.suite_list_of) es);
  holds = record { level = refl; tally = refl; plain = refl; suite = over-keeps o.suite_list_of u s.list g; list = lit≤ tt };
}

suite-property : (o : Open) → SuiteOpen 1 o → From o (SuiteOpen 1) (4 ∷ [])
unfolding may_follow following may_end ruled
suite-property o s = record {
  to = record { level = 2; extras = false; suite_list_of = 1; case_list = 0; tally = no_status; flagged = false };
  path = next refl (both (le-leb 2 o.level s.level) (both s.ends (le-leb o.suite_list_of 1 s.list))) end;
  holds = record { level = lit≤ tt; ends = refl; list = lit≤ tt };
}

case-property : {t : Tally} {u : ℕ} (o : Open) → CaseOpen t u 1 o → From o (CaseOpen t u 1) (5 ∷ [])
unfolding may_follow following
case-property o c = record {
  to = record { level = 3; extras = false; suite_list_of = o.suite_list_of; case_list = 1; tally = o.tally; flagged = o.flagged };
  path = next refl (both (eq-eqb o.level 3 c.level) (le-leb o.case_list 1 c.list)) end;
  holds = record { level = refl; tally = c.tally; plain = c.plain; suite = c.suite; list = lit≤ tt };
}

status-next : {t : Tally} {u v : ℕ} (κ : ℕ) → 6 ≤ κ → κ ≤ 12 → (v ≡ 1 → 2 ≤ v) → (o : Open) → CaseOpen t u v o → From o (CaseOpen (tallied t κ) u v) (κ ∷ [])
unfolding may_follow following
status-next {t} {u} {v} κ l h g o c =
    let not1 : eqb κ 1 ≡ false = ne_eqb κ 1 (λ z. omega arith) in
    let not2 : eqb κ 2 ≡ false = ne_eqb κ 2 (λ z. omega arith) in
    let not3 : eqb κ 3 ≡ false = ne_eqb κ 3 (λ z. omega arith) in
    let not4 : eqb κ 4 ≡ false = ne_eqb κ 4 (λ z. omega arith) in
    let not5 : eqb κ 5 ≡ false = ne_eqb κ 5 (λ z. omega arith) in
    let not13 : eqb κ 13 ≡ false = ne_eqb κ 13 (λ z. omega arith) in
    let not14 : eqb κ 14 ≡ false = ne_eqb κ 14 (λ z. omega arith) in
    record {
      to = following o (only-kind κ);
      path = next {o = o} {κ = κ} (lt-ltb κ 16 (omega arith)) (rw (not1, not2, not3, not13, not14, not4, not5) (eq-eqb o.level 3 c.level)) end;
      holds =
          rw (not1, not2, not3, not13, not14, not4, not5)
          (record {
            level = refl;
            tally = ap (λ (s : Tally). tallied s κ) c.tally;
            plain = rw c.plain refl;
            suite = c.suite;
            list = over-keeps o.case_list v c.list g;
          });
    }

-- a dead record
dead-next : {Q : Open → Type 0} (κ : ℕ) → ltb κ 16 ≡ false → (o : Open) → Q o → From o Q (κ ∷ [])
dead-next κ e o q = record { to = o; path = past e end; holds = q }

-- ---- a suite whose record is number s; the list u is at most at hand while properties are read
pub record InSuite (s u : ℕ) (ks : List ℕ) : Type 0 where
  pub there : There s 2 ks
  pub walk : Walk (SuiteOpen u) ks
  pub without : Walk (SuiteOpen 0) (kill_from 4 s ks)

-- a case whose record is number c, with its suite's
pub record InCase (s c : ℕ) (t : Tally) (v : ℕ) (ks : List ℕ) : Type 0 where
  pub suite : There s 2 ks
  pub there : There c 3 ks
  pub walk : Walk (CaseOpen t 2 v) ks
  pub no-suite : Walk (CaseOpen t 0 v) (kill_from 4 s ks)
  pub no-case : Walk (CaseOpen t 2 0) (kill_from 5 c ks)
  pub no_both : Walk (CaseOpen t 0 0) (kill_from 4 s (kill_from 5 c ks))

not-four : {es : List ℕ} (n κ : ℕ) → eqb n κ ≡ false → Each (λ k. k ≡ n) es → Each (λ k. eqb k κ ≡ false) es
not-four n κ e es = each_on (λ k q. ap (λ (j : ℕ). eqb j κ) q ∙ e) es

below : {i κ : ℕ} {ks : List ℕ} → There i κ ks → i ≤ length ks
below t = let h = t.inside in omega arith

pub report-opens : {ks : List ℕ} → Each (λ k. ltb k 16 ≡ false) ks → Walk Ready (ks ++ (1 ∷ []))
report-opens {ks} h = let w : Walk (λ o. o ≡ nothing) ks = record { to = nothing; path = path-dead h nothing; holds = refl } in walk-on w report-next

pub suite-opens : {ks es : List ℕ} → Each (λ k. k ≡ 13) es → Walk Ready ks → InSuite (length ks) 2 (ks ++ (2 ∷ es))
suite-opens {ks} {es} h w =
    let r : Walk (SuiteOpen 0) (ks ++ (2 ∷ es)) = walk-on w (suite-next h) in
    let e : kill_from 4 (length ks) (ks ++ (2 ∷ es)) ≡ ks ++ (2 ∷ es) =
    kill-append 4 (length ks) ks (2 ∷ es) (omega arith) ∙ ap₂ (λ (a b : List ℕ). a ++ b) (kill-end 4 ks) (kill-free 4 (more refl (not-four 13 4 refl h))) in
    record { there = there-new 2 ks es; walk = walk-as r (suite-wider 2 (lit≤ tt)); without = walk_same (sym e) r }

pub suite-closes : {s u : ℕ} {ks : List ℕ} → InSuite s u ks → Walk Ready ks
suite-closes i = walk-as i.walk suite-ready

-- a later list replaces the one before (rule R17)
pub suite-lists : {s u : ℕ} {ks : List ℕ} → InSuite s u ks → InSuite s 1 (kill_from 4 s ks)
suite-lists {s} {u} {ks} i = record {
  there = there-kept 4 s refl i.there;
  walk = walk-as i.without (suite-wider 1 (lit≤ tt));
  without = walk_same (sym (kill-twice 4 s ks (lit≤ tt))) i.without;
}

pub suite-wide : {s u : ℕ} {ks : List ℕ} → u ≤ 2 → InSuite s u ks → InSuite s 2 ks
suite-wide h i = record { there = i.there; walk = walk-as i.walk (suite-wider 2 h); without = i.without }

pub suite-properties : {s : ℕ} {ks : List ℕ} → InSuite s 1 ks → InSuite s 1 (ks ++ (4 ∷ []))
suite-properties {s} {ks} i = record {
  there = there-append (4 ∷ []) i.there;
  walk = walk-on i.walk suite-property;
  without = walk_same (sym (kill-append 4 s ks (4 ∷ []) (below i.there))) (walk-on i.without (dead-next 20 refl));
}

pub case-opens : {s : ℕ} {ks es : List ℕ} → Each (λ k. k ≡ 14) es → InSuite s 2 ks → InCase s (length ks) no_status 2 (ks ++ (3 ∷ es))
case-opens {s} {ks} {es} h i =
    let js : List ℕ = 3 ∷ es in
    let free4 : kill_from 4 0 js ≡ js = kill-free 4 (more refl (not-four 14 4 refl h)) in
    let free5 : kill_from 5 0 js ≡ js = kill-free 5 (more refl (not-four 14 5 refl h)) in
    let w : Walk (CaseOpen no_status 2 0) (ks ++ js) = walk-on i.walk (case-next 2 (λ z. lit≤ tt) h) in
    let n : Walk (CaseOpen no_status 0 0) (kill_from 4 s ks ++ js) = walk-on i.without (case-next 0 (λ z. absurd (omega arith)) h) in
    let e4 : kill_from 4 s (ks ++ js) ≡ kill_from 4 s ks ++ js = kill-append 4 s ks js (below i.there) ∙ ap (λ (l : List ℕ). kill_from 4 s ks ++ l) free4 in
    let e5 : kill_from 5 (length ks) (ks ++ js) ≡ ks ++ js = kill-append 5 (length ks) ks js (omega arith) ∙ ap₂ (λ (a b : List ℕ). a ++ b) (kill-end 5 ks) free5 in
    let m : Walk (CaseOpen no_status 0 0) (kill_from 4 s (ks ++ js)) = walk_same (sym e4) n in
    record {
      suite = there-append js i.there;
      there = there-new 3 ks es;
      walk = walk-as w (case-wider 2 2 (lit≤ tt) (lit≤ tt));
      no-suite = walk-as m (case-wider 0 2 (lit≤ tt) (lit≤ tt));
      no-case = walk_same (sym e5) w;
      no_both = walk_same (ap (kill_from 4 s) (sym e5)) m;
    }

pub case-closes : {s c v : ℕ} {t : Tally} {ks : List ℕ} → ruled t ≡ true → InCase s c t v ks → InSuite s 2 ks
case-closes e i = record { there = i.suite; walk = walk-as i.walk (case-ends e); without = walk-as i.no-suite (case-ends e) }

pub case-lists : {s c v : ℕ} {t : Tally} {ks : List ℕ} → InCase s c t v ks → InCase s c t 1 (kill_from 5 c ks)
case-lists {s} {c} {v} {t} {ks} i =
    let e : kill_from 5 c ks ≡ kill_from 5 c (kill_from 5 c ks) = sym (kill-twice 5 c ks (lit≤ tt)) in
    record {
      suite = there-kept 5 c refl i.suite;
      there = there-kept 5 c refl i.there;
      walk = walk-as i.no-case (case-wider 2 1 (lit≤ tt) (lit≤ tt));
      no-suite = walk-as i.no_both (case-wider 0 1 (lit≤ tt) (lit≤ tt));
      no-case = walk_same e i.no-case;
      no_both = walk_same (ap (kill_from 4 s) e) i.no_both;
    }

pub case-wide : {s c v : ℕ} {t : Tally} {ks : List ℕ} → v ≤ 2 → InCase s c t v ks → InCase s c t 2 ks
case-wide h i = record {
  suite = i.suite;
  there = i.there;
  walk = walk-as i.walk (case-wider 2 2 (lit≤ tt) h);
  no-suite = walk-as i.no-suite (case-wider 0 2 (lit≤ tt) h);
  no-case = i.no-case;
  no_both = i.no_both;
}

module _ {s c : ℕ} {t : Tally} {v : ℕ} {ks : List ℕ} (js : List ℕ) (i : InCase s c t v ks) where
  kill-both : kill_from 4 s (kill_from 5 c (ks ++ js)) ≡ kill_from 4 s (kill_from 5 c ks) ++ kill_from 4 0 (kill_from 5 0 js)
  kill-both =
      let l : length (kill_from 5 c ks) ≡ length ks = length-kill 5 c ks in
      let h = i.suite.inside in
      ap (kill_from 4 s) (kill-append 5 c ks js (below i.there)) ∙ kill-append 4 s (kill_from 5 c ks) (kill_from 5 0 js) (omega arith)

pub case-properties : {s c : ℕ} {t : Tally} {ks : List ℕ} → InCase s c t 1 ks → InCase s c t 1 (ks ++ (5 ∷ []))
case-properties {s} {c} {t} {ks} i = record {
  suite = there-append (5 ∷ []) i.suite;
  there = there-append (5 ∷ []) i.there;
  walk = walk-on i.walk case-property;
  no-suite = walk_same (sym (kill-append 4 s ks (5 ∷ []) (below i.suite))) (walk-on i.no-suite case-property);
  no-case = walk_same (sym (kill-append 5 c ks (5 ∷ []) (below i.there))) (walk-on i.no-case (dead-next 21 refl));
  no_both = walk_same (sym (kill-both (5 ∷ []) i)) (walk-on i.no_both (dead-next 21 refl));
}

pub status-opens : {s c : ℕ} {t : Tally} {ks : List ℕ} (κ : ℕ) → 6 ≤ κ → κ ≤ 12 → InCase s c t 2 ks → InCase s c (tallied t κ) 2 (ks ++ (κ ∷ []))
status-opens {s} {c} {t} {ks} κ l h i =
    let js : List ℕ = κ ∷ [] in
    let free4 : kill_from 4 0 js ≡ js = kill-free 4 (more (ne_eqb κ 4 (λ z. omega arith)) done) in
    let free5 : kill_from 5 0 js ≡ js = kill-free 5 (more (ne_eqb κ 5 (λ z. omega arith)) done) in
    record {
      suite = there-append js i.suite;
      there = there-append js i.there;
      walk = walk-on i.walk (status-next κ l h (λ z. lit≤ tt));
      no-suite = walk_same (sym (kill-append 4 s ks js (below i.suite) ∙ ap (λ (x : List ℕ). kill_from 4 s ks ++ x) free4)) (walk-on i.no-suite (status-next κ l h (λ z. lit≤ tt)));
      no-case = walk_same (sym (kill-append 5 c ks js (below i.there) ∙ ap (λ (x : List ℕ). kill_from 5 c ks ++ x) free5)) (walk-on i.no-case (status-next κ l h (λ z. absurd (omega arith))));
      no_both =
          walk_same (sym (kill-both js i ∙ ap (λ (x : List ℕ). kill_from 4 s (kill_from 5 c ks) ++ x) (ap (kill_from 4 0) free5 ∙ free4)))
          (walk-on i.no_both (status-next κ l h (λ z. absurd (omega arith))));
    }
