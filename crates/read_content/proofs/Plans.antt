-- The acts that tags and Eof give are apt in their mode. Assumes nothing.
use Prim.Native.Nat.{ℕ}
use mathlib.Core.Path.{◌≡◌, refl, sym, ap, ◌∙◌}
use mathlib.Core.Bool.{Bool, true, false, cond, ◌&&◌, ◌||◌}
use mathlib.Core.List.{List}
use native.Mathlib.Omega.{arith}
use lib.Dec.{eqb}
use Rattle.read_rules.specs.of_names.Tags.{tag_of, testsuites, testsuite, testcase, properties, property, stack_trace, system-out, system-err}
use Rattle.read_rules.specs.of_table.Event.{TagKind, Start, Empty, End}
use Rattle.read_place.specs.of_read_state.Control.{Level, top, suite, case, status, Output, Mode, at, gathering, listing, skipping, finished, Act, pass, open_report, open_suite, open_case}
use Rattle.read_place.specs.of_read_state.Control.{open_status, close_suite, close_case, close_status, open_text, close_text, open_list, read_property, stop, missing, broken, is_status, or_skip}
use Rattle.read_rules.specs.Rules.{outputs, emptied, at_top, at_suite, at_case, child, at_status, tag_of_output, in_text, in_list_of, plan_at, plan_eof}
use Rattle.read_place.specs.of_read_state.inside.Coded.{mode_at, opening, closing, act_in}
use Rattle.read_place.specs.of_read_state.declared.Mode.{Mode as CodedMode}
use Rattle.read_place.specs.of_read_state.declared.Mode.TheVariants as mode
use Rattle.read_place.specs.of_read_state.declared.Act.{Act as CodedAct}
use Rattle.read_place.specs.of_read_state.declared.Act.TheVariants as act
use Rattle.read_content.specs.inside.Holds.{apt}

no : {A : Type 0} → ◌≡◌ {A = Bool} false true → A
no e = absurd (let z : ◌≡◌ {A = ℕ} 0 1 = ap (λ (b : Bool). cond b 1 0) e in omega arith)

abbrev is_top : Level → Bool
is_top top = true
is_top suite = false
is_top case = false
is_top status = false

abbrev is_suite : Level → Bool
is_suite top = false
is_suite suite = true
is_suite case = false
is_suite status = false

abbrev is_case : Level → Bool
is_case top = false
is_case suite = false
is_case case = true
is_case status = false

abbrev goes_on_of : Mode → Bool
goes_on_of (at l) = false
goes_on_of (gathering l o) = true
goes_on_of (listing l) = true
goes_on_of (skipping m name depth) = true
goes_on_of finished = true

-- an act of the definitions that fits a mode
abbrev fit : CodedMode → Level → Act → Bool
fit mode.At l (pass n) = true
fit mode.At l (open_report e) = is_top l
fit mode.At l (open_suite e) = is_top l
fit mode.At l (open_case e) = is_suite l
fit mode.At l (open_status n e) = is_case l && is_status n
fit mode.At l close_suite = true
fit mode.At l close_case = true
fit mode.At l close_status = true
fit mode.At l (open_text x o) = true
fit mode.At l (close_text x o) = true
fit mode.At l (open_list x e) = is_suite l || is_case l
fit mode.At l (read_property x e name) = false
fit mode.At l stop = true
fit mode.At l missing = true
fit mode.At l (broken n) = true
fit mode.Text l (pass n) = goes_on_of n
fit mode.Text l (open_report e) = false
fit mode.Text l (open_suite e) = false
fit mode.Text l (open_case e) = false
fit mode.Text l (open_status n e) = false
fit mode.Text l close_suite = false
fit mode.Text l close_case = false
fit mode.Text l close_status = false
fit mode.Text l (open_text x o) = false
fit mode.Text l (close_text x o) = true
fit mode.Text l (open_list x e) = false
fit mode.Text l (read_property x e name) = false
fit mode.Text l stop = true
fit mode.Text l missing = true
fit mode.Text l (broken n) = true
fit mode.List l (pass n) = true
fit mode.List l (open_report e) = false
fit mode.List l (open_suite e) = false
fit mode.List l (open_case e) = false
fit mode.List l (open_status n e) = false
fit mode.List l close_suite = false
fit mode.List l close_case = false
fit mode.List l close_status = false
fit mode.List l (open_text x o) = false
fit mode.List l (close_text x o) = false
fit mode.List l (open_list x e) = false
fit mode.List l (read_property x e name) = true
fit mode.List l stop = true
fit mode.List l missing = true
fit mode.List l (broken n) = true

-- ---- what is planned fits
data Fit (k : CodedMode) (l : Level) : Act → Type 0 where
  fits : {x : Act} → fit k l x ≡ true → Fit k l x

fitted : {k : CodedMode} {l : Level} {x : Act} → Fit k l x → fit k l x ≡ true
fitted (fits h) = h

pick : {k : CodedMode} {l : Level} (b : Bool) {x y : Act} → (b ≡ true → Fit k l x) → Fit k l y → Fit k l (cond b x y)
pick true f g = f refl
pick false f g = g

outputs-fit : (l x : Level) (name : List ℕ) → Fit mode.At l (outputs x name)
unfolding outputs or_skip
outputs-fit l x name = pick (eqb (tag_of name) system-out) (λ _. fits refl) (pick (eqb (tag_of name) system-err) (λ _. fits refl) (fits refl))

emptied-fit : (l x : Level) (name : List ℕ) → Fit mode.At l (emptied x name)
unfolding emptied
emptied-fit l x name = pick (eqb (tag_of name) system-out) (λ _. fits refl) (pick (eqb (tag_of name) system-err) (λ _. fits refl) (fits refl))

child-fit : (name : List ℕ) → Fit mode.At status (child name)
unfolding child
child-fit name = pick (eqb (tag_of name) stack_trace) (λ _. fits refl) (outputs-fit status status name)

plan-fit : (m : CodedMode) (l : Level) (o : Output) (seen : Bool) (k : TagKind) (name : List ℕ) → Fit m l (plan_at (mode_at m l o) seen k name)
unfolding plan_at at_top at_suite at_case at_status in_text in_list_of
plan-fit mode.At top o seen Start name = pick (eqb (tag_of name) testsuites) (λ _. fits refl) (pick (eqb (tag_of name) testsuite && seen) (λ _. fits refl) (fits refl))
plan-fit mode.At top o seen Empty name = pick (eqb (tag_of name) testsuites) (λ _. fits refl) (pick (eqb (tag_of name) testsuite && seen) (λ _. fits refl) (fits refl))
plan-fit mode.At top o seen End name = pick (eqb (tag_of name) testsuites) (λ _. pick seen (λ _. fits refl) (fits refl)) (fits refl)
plan-fit mode.At suite o seen Start name =
    pick (eqb (tag_of name) testcase) (λ _. fits refl) (pick (eqb (tag_of name) properties) (λ _. fits refl) (outputs-fit suite suite name))
plan-fit mode.At suite o seen Empty name =
    pick (eqb (tag_of name) testcase) (λ _. fits refl) (pick (eqb (tag_of name) properties) (λ _. fits refl) (emptied-fit suite suite name))
plan-fit mode.At suite o seen End name = pick (eqb (tag_of name) testsuite) (λ _. fits refl) (fits refl)
plan-fit mode.At case o seen Start name =
    pick (is_status (tag_of name)) (λ e. fits e) (pick (eqb (tag_of name) properties) (λ _. fits refl) (outputs-fit case case name))
plan-fit mode.At case o seen Empty name =
    pick (is_status (tag_of name)) (λ e. fits e) (pick (eqb (tag_of name) properties) (λ _. fits refl) (emptied-fit case case name))
plan-fit mode.At case o seen End name = pick (eqb (tag_of name) testcase) (λ _. fits refl) (fits refl)
plan-fit mode.At status o seen Start name = child-fit name
plan-fit mode.At status o seen Empty name = pick (eqb (tag_of name) stack_trace) (λ _. fits refl) (emptied-fit status status name)
plan-fit mode.At status o seen End name = pick (is_status (tag_of name)) (λ _. fits refl) (fits refl)
plan-fit mode.Text l o seen Start name = fits refl
plan-fit mode.Text l o seen Empty name = fits refl
plan-fit mode.Text l o seen End name = pick (eqb (tag_of name) (tag_of_output o)) (λ _. fits refl) (fits refl)
plan-fit mode.List l o seen Start name = pick (eqb (tag_of name) property) (λ _. fits refl) (fits refl)
plan-fit mode.List l o seen Empty name = pick (eqb (tag_of name) property) (λ _. fits refl) (fits refl)
plan-fit mode.List l o seen End name = pick (eqb (tag_of name) properties) (λ _. fits refl) (fits refl)

eof-fit : (m : CodedMode) (l : Level) (o : Output) (seen closed : Bool) → Fit m l (plan_eof (mode_at m l o) seen closed)
unfolding plan_eof
eof-fit mode.At top o seen closed = pick seen (λ _. pick closed (λ _. fits refl) (fits refl)) (fits refl)
eof-fit mode.At suite o seen closed = fits refl
eof-fit mode.At case o seen closed = fits refl
eof-fit mode.At status o seen closed = fits refl
eof-fit mode.Text l o seen closed = fits refl
eof-fit mode.List l o seen closed = fits refl

-- ---- what fits is apt
-- an element is opened where its kind belongs
opening-fit : (n : ℕ) (e : Bool) (m : CodedMode) (l : Level) (o : Output) → fit m l (opening n e) ≡ true → apt (act.Open n e) (mode_at m l o) ≡ true
opening-fit n e mode.At top o h = go (eqb n 1) (eqb n 2) (eqb n 3) h
  where
    go : (a b c : Bool) → fit mode.At top (cond a (open_report e) (cond b (open_suite e) (cond c (open_case e) (open_status n e)))) ≡ true → (a || b) ≡ true
    go true b c h = refl
    go false true c h = refl
    go false false true h = no h
    go false false false h = no h
opening-fit n e mode.At suite o h = go (eqb n 1) (eqb n 2) (eqb n 3) h
  where
    go : (a b c : Bool) → fit mode.At suite (cond a (open_report e) (cond b (open_suite e) (cond c (open_case e) (open_status n e)))) ≡ true → c ≡ true
    go true b c h = no h
    go false true c h = no h
    go false false true h = refl
    go false false false h = no h
opening-fit n e mode.At case o h = go (eqb n 1) (eqb n 2) (eqb n 3) h
  where
    go : (a b c : Bool) → fit mode.At case (cond a (open_report e) (cond b (open_suite e) (cond c (open_case e) (open_status n e)))) ≡ true → is_status n ≡ true
    go true b c h = no h
    go false true c h = no h
    go false false true h = no h
    go false false false h = h
opening-fit n e mode.At status o h = go (eqb n 1) (eqb n 2) (eqb n 3) h
  where
    go : (a b c : Bool) → fit mode.At status (cond a (open_report e) (cond b (open_suite e) (cond c (open_case e) (open_status n e)))) ≡ true → false ≡ true
    go true b c h = no h
    go false true c h = no h
    go false false true h = no h
    go false false false h = no h
opening-fit n e mode.Text l o h = go (eqb n 1) (eqb n 2) (eqb n 3) h
  where
    go : (a b c : Bool) → fit mode.Text l (cond a (open_report e) (cond b (open_suite e) (cond c (open_case e) (open_status n e)))) ≡ true → false ≡ true
    go true b c h = no h
    go false true c h = no h
    go false false true h = no h
    go false false false h = no h
opening-fit n e mode.List l o h = go (eqb n 1) (eqb n 2) (eqb n 3) h
  where
    go : (a b c : Bool) → fit mode.List l (cond a (open_report e) (cond b (open_suite e) (cond c (open_case e) (open_status n e)))) ≡ true → false ≡ true
    go true b c h = no h
    go false true c h = no h
    go false false true h = no h
    go false false false h = no h

closing-not : (l x : Level) → fit mode.Text l (closing x) ≡ false
closing-not l top = refl
closing-not l suite = refl
closing-not l case = refl
closing-not l status = refl

closing-none : (l x : Level) → fit mode.List l (closing x) ≡ false
closing-none l top = refl
closing-none l suite = refl
closing-none l case = refl
closing-none l status = refl

list-fit : (e : Bool) (l : Level) (o : Output) → (is_suite l || is_case l) ≡ true → apt (act.OpenList e) (mode_at mode.At l o) ≡ true
list-fit e top o h = no h
list-fit e suite o h = refl
list-fit e case o h = refl
list-fit e status o h = no h

fit-apt : (m : CodedMode) (l : Level) (o : Output) (name : List ℕ) (a : CodedAct) → fit m l (act_in (mode_at m l o) name a) ≡ true → apt a (mode_at m l o) ≡ true
fit-apt m l o name act.Pass h = refl
fit-apt m l o name act.Skip h = refl
fit-apt m l o name (act.Open n e) h = opening-fit n e m l o h
fit-apt mode.At l o name act.Close h = refl
fit-apt mode.Text l o name act.Close h = no (sym (closing-not l l) ∙ h)
fit-apt mode.List l o name act.Close h = no (sym (closing-none l l) ∙ h)
fit-apt mode.At l o name (act.OpenText x) h = refl
fit-apt mode.Text l o name (act.OpenText x) h = no h
fit-apt mode.List l o name (act.OpenText x) h = no h
fit-apt mode.At l o name (act.CloseText x) h = refl
fit-apt mode.Text l o name (act.CloseText x) h = refl
fit-apt mode.List l o name (act.CloseText x) h = no h
fit-apt mode.At l o name (act.OpenList e) h = list-fit e l o h
fit-apt mode.Text l o name (act.OpenList e) h = no h
fit-apt mode.List l o name (act.OpenList e) h = no h
fit-apt mode.At l o name act.CloseList h = refl
fit-apt mode.Text l o name act.CloseList h = no h
fit-apt mode.List l o name act.CloseList h = refl
fit-apt mode.At l o name (act.ReadProperty e) h = no h
fit-apt mode.Text l o name (act.ReadProperty e) h = no h
fit-apt mode.List l o name (act.ReadProperty e) h = refl
fit-apt m l o name act.Stop h = refl
fit-apt m l o name act.Missing h = refl
fit-apt m l o name (act.Broken why) h = refl

-- the act that a tag gives is one of its mode, so that the other arms of the code can't be reached
pub plan-apt : (m : CodedMode) (l : Level) (o : Output) (seen : Bool) (k : TagKind) (name : List ℕ) (a : CodedAct)
    → act_in (mode_at m l o) name a ≡ plan_at (mode_at m l o) seen k name → apt a (mode_at m l o) ≡ true
plan-apt m l o seen k name a e = fit-apt m l o name a (ap (fit m l) e ∙ fitted (plan-fit m l o seen k name))

-- the act that Eof gives is one of its mode, so that the other arms of the code can't be reached
pub eof-apt : (m : CodedMode) (l : Level) (o : Output) (seen closed : Bool) (name : List ℕ) (a : CodedAct)
    → act_in (mode_at m l o) name a ≡ plan_eof (mode_at m l o) seen closed → apt a (mode_at m l o) ≡ true
eof-apt m l o seen closed name a e = fit-apt m l o name a (ap (fit m l) e ∙ fitted (eof-fit m l o seen closed))
