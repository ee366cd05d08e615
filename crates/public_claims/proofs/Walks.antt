-- The plan of the reader, and the walk that knows nothing of it, go the same way. Assumes nothing.
use Prim.Native.Nat.{ℕ, zero, suc}
use mathlib.Core.Path.{◌≡◌, refl, sym, subst}
use mathlib.Core.List.{List, [], ◌∷◌}
use mathlib.Core.Bool.{Bool, true, false, cond, ◌&&◌}
use borrow.Author.Tests.{eqb-true}
use lib.Dec.{eqb}
use Rattle.read_report.specs.of_names.Names.{same_bytes}
use Rattle.read_report.specs.of_names.Tags.{tag_of, properties, stack_trace}
use Rattle.read_report.specs.of_table.Event.{TagKind, Start, Empty, End}
use Rattle.read_report.specs.of_read_state.Control.{Level, top, suite, case, status, Output, trace, out, err, Mode, at, gathering, listing, skipping, finished, Control}
use Rattle.read_report.specs.of_read_state.Control.{Act, pass, open_report, open_suite, open_case, open_status, close_suite, close_case, close_status, open_text, close_text, open_list, read_property, stop, missing, broken}
use Rattle.read_report.specs.of_read_state.Control.{is_status, or_skip, turn}
use Rattle.read_report.specs.of_read_rules.Rules.{outputs, emptied, at_top, at_suite, at_case, child, at_status, in_text, in_list_of, in_skip, shallower, plan_at, tag_of_output}
use Rattle.public_claims.specs.Agree.{PublicEvent}
use Rattle.public_claims.specs.OwnStatus.{Spot, at_report, in_suite, in_case, in_status, over, up_to, among_properties, past}
use Rattle.public_claims.specs.OwnStatus.{held, held_by_status, leave_skip, move, own_at, own_from, begins_report, case_at_of}
use Rattle.public_claims.proofs.Acts.{impossible}

-- ---- where the walk stands in a mode
abbrev pub spot_at : Level → Spot
spot_at top = at_report
spot_at suite = in_suite
spot_at case = in_case
spot_at status = in_status

abbrev pub spot_of : Mode → Spot
spot_of (at l) = spot_at l
spot_of (gathering l o) = up_to (tag_of_output o) (spot_at l)
spot_of (listing l) = among_properties (spot_at l)
spot_of (skipping m name depth) = past name depth (spot_of m)
spot_of finished = over

-- ---- whether a report level, a suite or a case is open
pub data Zone : Type 0 where
  outer suited cased : Zone

abbrev pub zone_at : Level → Zone
zone_at top = outer
zone_at suite = suited
zone_at case = cased
zone_at status = cased

abbrev pub zone : Mode → Zone
zone (at l) = zone_at l
zone (gathering l o) = zone_at l
zone (listing l) = zone_at l
zone (skipping m name depth) = zone m
zone finished = outer

-- ---- what an action means to the walk
abbrev pub mode_after : Act → Mode → Mode
mode_after (pass n) m = n
mode_after (open_report e) m = at top
mode_after (open_suite e) m = at (cond e top suite)
mode_after (open_case e) m = at (cond e suite case)
mode_after (open_status k e) m = at (cond e case status)
mode_after close_suite m = at top
mode_after close_case m = at suite
mode_after close_status m = at case
mode_after (open_text l o) m = gathering l o
mode_after (close_text l o) m = at l
mode_after (open_list l e) m = cond e (at l) (listing l)
mode_after (read_property l e name) m = cond e m (skipping (listing l) name 0)
mode_after stop m = finished
mode_after missing m = m
mode_after (broken n) m = m

pub turn-mode : (a : Act) (c : Control) → (turn a c).mode ≡ mode_after a c.mode
unfolding turn
turn-mode (pass n) c = refl
turn-mode (open_report e) c = refl
turn-mode (open_suite e) c = refl
turn-mode (open_case e) c = refl
turn-mode (open_status k e) c = refl
turn-mode close_suite c = refl
turn-mode close_case c = refl
turn-mode close_status c = refl
turn-mode (open_text l o) c = refl
turn-mode (close_text l o) c = refl
turn-mode (open_list l e) c = refl
turn-mode (read_property l true name) c = refl
turn-mode (read_property l false name) c = refl
turn-mode stop c = refl
turn-mode missing c = refl
turn-mode (broken n) c = refl

abbrev pub begins : Act → Bool
begins (open_report e) = true
begins (pass n) = false
begins (open_suite e) = false
begins (open_case e) = false
begins (open_status k e) = false
begins close_suite = false
begins close_case = false
begins close_status = false
begins (open_text l o) = false
begins (close_text l o) = false
begins (open_list l e) = false
begins (read_property l e name) = false
begins stop = false
begins missing = false
begins (broken n) = false

abbrev pub new_case : Act → List PublicEvent → List (List ℕ)
new_case (open_case true) es = [] ∷ []
new_case (open_case false) es = own_from in_case es ∷ []
new_case (open_report e) es = []
new_case (pass n) es = []
new_case (open_suite e) es = []
new_case (open_status k e) es = []
new_case close_suite es = []
new_case close_case es = []
new_case close_status es = []
new_case (open_text l o) es = []
new_case (close_text l o) es = []
new_case (open_list l e) es = []
new_case (read_property l e name) es = []
new_case stop es = []
new_case missing es = []
new_case (broken n) es = []

abbrev pub owned : Act → List ℕ
owned (open_status k e) = k ∷ []
owned (open_report e) = []
owned (pass n) = []
owned (open_suite e) = []
owned (open_case e) = []
owned close_suite = []
owned close_case = []
owned close_status = []
owned (open_text l o) = []
owned (close_text l o) = []
owned (open_list l e) = []
owned (read_property l e name) = []
owned stop = []
owned missing = []
owned (broken n) = []

-- what is planned in which zone
abbrev pub Zoned : Mode → Bool → Act → Type 0
Zoned m seen (pass n) = zone n ≡ zone m
Zoned m seen (open_report e) = zone m ≡ outer
Zoned m seen (open_suite e) = (zone m ≡ outer) × (seen ≡ true)
Zoned m seen (open_case e) = zone m ≡ suited
Zoned m seen (open_status k e) = (zone m ≡ cased) × (is_status k ≡ true)
Zoned m seen close_suite = zone m ≡ suited
Zoned m seen close_case = zone m ≡ cased
Zoned m seen close_status = zone m ≡ cased
Zoned m seen (open_text l o) = zone_at l ≡ zone m
Zoned m seen (close_text l o) = zone_at l ≡ zone m
Zoned m seen (open_list l e) = zone_at l ≡ zone m
Zoned m seen (read_property l e name) = zone_at l ≡ zone m
Zoned m seen stop = zone m ≡ outer
Zoned m seen missing = Unit {0}
Zoned m seen (broken n) = Unit {0}

-- an action that isn't refused for its own sake
abbrev pub Goes : Act → Type 0
Goes missing = ⊥
Goes (broken n) = ⊥
Goes (pass n) = Unit {0}
Goes (open_report e) = Unit {0}
Goes (open_suite e) = Unit {0}
Goes (open_case e) = Unit {0}
Goes (open_status k e) = Unit {0}
Goes close_suite = Unit {0}
Goes close_case = Unit {0}
Goes close_status = Unit {0}
Goes (open_text l o) = Unit {0}
Goes (close_text l o) = Unit {0}
Goes (open_list l e) = Unit {0}
Goes (read_property l e name) = Unit {0}
Goes stop = Unit {0}

-- the action a at a tag in the mode m means what the walk makes of the tag: s is its spot, b, c and o what it finds there
pub record Means (m : Mode) (seen : Bool) (a : Act) (s : Spot) (b : Bool) (c : List PublicEvent → List (List ℕ)) (o : List ℕ) : Type 0 where
  pub moved : spot_of (mode_after a m) ≡ s
  pub begun : begins a ≡ b
  pub found : (es : List PublicEvent) → new_case a es ≡ c es
  pub own : owned a ≡ o
  pub zoned : Zoned m seen a

abbrev none_found : List PublicEvent → List (List ℕ)
none_found es = []

-- an action that only moves
module _ (m : Mode) (seen : Bool) where
  passes : (n : Mode) → zone n ≡ zone m → Means m seen (pass n) (spot_of n) false none_found []
  passes n z = record { moved = refl; begun = refl; found = λ es. refl; own = refl; zoned = z }

  opens-text : (l : Level) (o : Output) → zone_at l ≡ zone m → Means m seen (open_text l o) (up_to (tag_of_output o) (spot_at l)) false none_found []
  opens-text l o z = record { moved = refl; begun = refl; found = λ es. refl; own = refl; zoned = z }

  opens-list : (l : Level) → zone_at l ≡ zone m → Means m seen (open_list l false) (among_properties (spot_at l)) false none_found []
  opens-list l z = record { moved = refl; begun = refl; found = λ es. refl; own = refl; zoned = z }

  empties-list : (l : Level) → zone_at l ≡ zone m → Means m seen (open_list l true) (spot_at l) false none_found []
  empties-list l z = record { moved = refl; begun = refl; found = λ es. refl; own = refl; zoned = z }

  -- both choose by one test
  chooses : (x : Bool) {a₁ a₂ : Act} {s₁ s₂ : Spot} → Means m seen a₁ s₁ false none_found [] → Means m seen a₂ s₂ false none_found [] →
      Means m seen (cond x a₁ a₂) (cond x s₁ s₂) false none_found []
  chooses true h j = h
  chooses false h j = j

  -- whatever is chosen, the walk goes to one spot
  either : (x : Bool) {a₁ a₂ : Act} {s : Spot} → Means m seen a₁ s false none_found [] → Means m seen a₂ s false none_found [] → Means m seen (cond x a₁ a₂) s false none_found []
  either true h j = h
  either false h j = j

  closes-text : (l : Level) (o : Output) → zone_at l ≡ zone m → Means m seen (close_text l o) (spot_at l) false none_found []
  closes-text l o z = record { moved = refl; begun = refl; found = λ es. refl; own = refl; zoned = z }

abbrev Meant : Mode → Bool → TagKind → List ℕ → Act → Type 0
Meant m seen k name a =
    Means m seen a (move seen (spot_of m) k name) (begins_report (spot_of m) k name) (case_at_of (spot_of m) k name) (cond (own_at (spot_of m) k name) (tag_of name ∷ []) [])

module _ (seen : Bool) where
  -- ---- an Empty output or unknown child
  empties : (l : Level) (name : List ℕ) → Means (at l) seen (emptied l name) (spot_at l) false none_found []
  unfolding emptied
  empties l name =
      either (at l) seen (eqb (tag_of name) 14) (closes-text (at l) seen l out refl)
      (either (at l) seen (eqb (tag_of name) 15) (closes-text (at l) seen l err refl) (passes (at l) seen (at l) refl))

  -- and an Empty properties list
  empties-all : (l : Level) (name : List ℕ) → Means (at l) seen (cond (eqb (tag_of name) properties) (open_list l true) (emptied l name)) (spot_at l) false none_found []
  empties-all l name = either (at l) seen (eqb (tag_of name) 4) (empties-list (at l) seen l refl) (empties l name)

  -- ---- report level
  top-opens : (e : Bool) (x y : Bool) (s : Spot) → spot_of (at (cond e top suite)) ≡ s → (x ≡ true → y ≡ false) → (y ≡ true → seen ≡ true) →
      Means (at top) seen (cond x (open_report e) (cond y (open_suite e) (pass (at top)))) (cond y s at_report) x none_found []
  top-opens e true true s q h j = impossible (sym (h refl))
  top-opens e true false s q h j = record { moved = refl; begun = refl; found = λ es. refl; own = refl; zoned = refl }
  top-opens e false true s q h j = record { moved = q; begun = refl; found = λ es. refl; own = refl; zoned = (refl, j refl) }
  top-opens e false false s q h j = passes (at top) seen (at top) refl

  apart-names : (t : ℕ) → eqb t 1 ≡ true → (eqb t 2 && seen) ≡ false
  apart-names t e = subst (λ (x : ℕ). (eqb x 2 && seen) ≡ false) (sym (eqb-true t 1 e)) refl

  and_right : (x : Bool) → (x && seen) ≡ true → seen ≡ true
  and_right true e = e
  and_right false e = impossible e

  same_spot : (x : Bool) {a : Act} {b : Bool} → Means (at top) seen a (cond x at_report at_report) b none_found [] → Means (at top) seen a at_report b none_found []
  same_spot true h = h
  same_spot false h = h

  top-ends : (x : Bool) → Goes (cond x (cond seen stop missing) (pass (at top))) → Means (at top) seen (cond x (cond seen stop missing) (pass (at top))) (cond x over at_report) false none_found []
  top-ends false g = passes (at top) seen (at top) refl
  top-ends true g = go seen g
    where
      go : (y : Bool) → Goes (cond y stop missing) → Means (at top) seen (cond y stop missing) over false none_found []
      go true g = record { moved = refl; begun = refl; found = λ es. refl; own = refl; zoned = refl }
      go false g = absurd g

  -- ---- suite
  suite-held : (name : List ℕ) → Means (at suite) seen (cond (eqb (tag_of name) properties) (open_list suite false) (outputs suite name)) (held name in_suite) false none_found []
  unfolding outputs or_skip
  suite-held name =
      chooses (at suite) seen (eqb (tag_of name) 4) (opens-list (at suite) seen suite refl)
      (chooses (at suite) seen (eqb (tag_of name) 14) (opens-text (at suite) seen suite out refl)
      (chooses (at suite) seen (eqb (tag_of name) 15) (opens-text (at suite) seen suite err refl) (passes (at suite) seen (skipping (at suite) name 0) refl)))

  suite-starts : (x : Bool) {a : Act} {s : Spot} → Means (at suite) seen a s false none_found [] →
      Means (at suite) seen (cond x (open_case false) a) (cond x in_case s) false (λ es. cond x (own_from in_case es ∷ []) []) []
  suite-starts true h = record { moved = refl; begun = refl; found = λ es. refl; own = refl; zoned = refl }
  suite-starts false h = h

  suite-empties : (x : Bool) {a : Act} → Means (at suite) seen a in_suite false none_found [] →
      Means (at suite) seen (cond x (open_case true) a) in_suite false (λ es. cond x ([] ∷ []) []) []
  suite-empties true h = record { moved = refl; begun = refl; found = λ es. refl; own = refl; zoned = refl }
  suite-empties false h = h

  suite-ends : (x : Bool) → Means (at suite) seen (cond x close_suite (pass (at suite))) (cond x at_report in_suite) false none_found []
  suite-ends true = record { moved = refl; begun = refl; found = λ es. refl; own = refl; zoned = refl }
  suite-ends false = passes (at suite) seen (at suite) refl

  -- ---- case
  case-held : (name : List ℕ) → Means (at case) seen (cond (eqb (tag_of name) properties) (open_list case false) (outputs case name)) (held name in_case) false none_found []
  unfolding outputs or_skip
  case-held name =
      chooses (at case) seen (eqb (tag_of name) 4) (opens-list (at case) seen case refl)
      (chooses (at case) seen (eqb (tag_of name) 14) (opens-text (at case) seen case out refl)
      (chooses (at case) seen (eqb (tag_of name) 15) (opens-text (at case) seen case err refl) (passes (at case) seen (skipping (at case) name 0) refl)))

  case-starts : (k : ℕ) (x : Bool) → is_status k ≡ x → {a : Act} {s : Spot} → Means (at case) seen a s false none_found [] →
      Means (at case) seen (cond x (open_status k false) a) (cond x in_status s) false none_found (cond x (k ∷ []) [])
  case-starts k true e h = record { moved = refl; begun = refl; found = λ es. refl; own = refl; zoned = (refl, e) }
  case-starts k false e h = h

  case-empties : (k : ℕ) (x : Bool) → is_status k ≡ x → {a : Act} → Means (at case) seen a in_case false none_found [] →
      Means (at case) seen (cond x (open_status k true) a) in_case false none_found (cond x (k ∷ []) [])
  case-empties k true e h = record { moved = refl; begun = refl; found = λ es. refl; own = refl; zoned = (refl, e) }
  case-empties k false e h = h

  case-ends : (x : Bool) → Means (at case) seen (cond x close_case (pass (at case))) (cond x in_suite in_case) false none_found []
  case-ends true = record { moved = refl; begun = refl; found = λ es. refl; own = refl; zoned = refl }
  case-ends false = passes (at case) seen (at case) refl

  -- ---- status element
  status-held : (name : List ℕ) → Means (at status) seen (child name) (held_by_status name) false none_found []
  unfolding child outputs or_skip
  status-held name =
      chooses (at status) seen (eqb (tag_of name) 13) (opens-text (at status) seen status trace refl)
      (chooses (at status) seen (eqb (tag_of name) 14) (opens-text (at status) seen status out refl)
      (chooses (at status) seen (eqb (tag_of name) 15) (opens-text (at status) seen status err refl) (passes (at status) seen (skipping (at status) name 0) refl)))

  status-empties : (name : List ℕ) → Means (at status) seen (cond (eqb (tag_of name) stack_trace) (close_text status trace) (emptied status name)) in_status false none_found []
  status-empties name = either (at status) seen (eqb (tag_of name) 13) (closes-text (at status) seen status trace refl) (empties status name)

  status-ends : (x : Bool) → Means (at status) seen (cond x close_status (pass (at status))) (cond x in_case in_status) false none_found []
  status-ends true = record { moved = refl; begun = refl; found = λ es. refl; own = refl; zoned = refl }
  status-ends false = passes (at status) seen (at status) refl

  -- ---- text, properties, skip
  property-starts : (l : Level) (name : List ℕ) → Means (listing l) seen (read_property l false name) (past name 0 (among_properties (spot_at l))) false none_found []
  property-starts l name = record { moved = refl; begun = refl; found = λ es. refl; own = refl; zoned = refl }

  property-empties : (l : Level) (name : List ℕ) → Means (listing l) seen (read_property l true name) (among_properties (spot_at l)) false none_found []
  property-empties l name = record { moved = refl; begun = refl; found = λ es. refl; own = refl; zoned = refl }

  skip-ends : (m : Mode) (skipped : List ℕ) (depth : ℕ) (x : Bool) →
      Means (skipping m skipped depth) seen (pass (cond x (shallower m skipped depth) (skipping m skipped depth)))
      (cond x (leave_skip depth skipped (spot_of m)) (past skipped depth (spot_of m))) false none_found []
  skip-ends m skipped zero true = passes (skipping m skipped zero) seen m refl
  skip-ends m skipped (suc depth) true = passes (skipping m skipped (suc depth)) seen (skipping m skipped depth) refl
  skip-ends m skipped depth false = passes (skipping m skipped depth) seen (skipping m skipped depth) refl

  pub plan-means : (m : Mode) (k : TagKind) (name : List ℕ) → Goes (plan_at m seen k name) → Meant m seen k name (plan_at m seen k name)
  unfolding plan_at at_top at_suite at_case at_status in_text in_list_of in_skip move
  plan-means (at top) Start name g = top-opens false (eqb (tag_of name) 1) (eqb (tag_of name) 2 && seen) in_suite refl (apart-names (tag_of name)) (and_right (eqb (tag_of name) 2))
  plan-means (at top) Empty name g =
      same_spot (eqb (tag_of name) 2 && seen) (top-opens true (eqb (tag_of name) 1) (eqb (tag_of name) 2 && seen) at_report refl (apart-names (tag_of name)) (and_right (eqb (tag_of name) 2)))
  plan-means (at top) End name g = top-ends (eqb (tag_of name) 1) g
  plan-means (at suite) Start name g = suite-starts (eqb (tag_of name) 3) (suite-held name)
  plan-means (at suite) Empty name g = suite-empties (eqb (tag_of name) 3) (empties-all suite name)
  plan-means (at suite) End name g = suite-ends (eqb (tag_of name) 2)
  plan-means (at case) Start name g = case-starts (tag_of name) (is_status (tag_of name)) refl (case-held name)
  plan-means (at case) Empty name g = case-empties (tag_of name) (is_status (tag_of name)) refl (empties-all case name)
  plan-means (at case) End name g = case-ends (eqb (tag_of name) 3)
  plan-means (at status) Start name g = status-held name
  plan-means (at status) Empty name g = status-empties name
  plan-means (at status) End name g = status-ends (is_status (tag_of name))
  plan-means (gathering l o) Start name g = passes (gathering l o) seen (gathering l o) refl
  plan-means (gathering l o) Empty name g = passes (gathering l o) seen (gathering l o) refl
  plan-means (gathering l o) End name g =
      chooses (gathering l o) seen (eqb (tag_of name) (tag_of_output o)) (closes-text (gathering l o) seen l o refl) (passes (gathering l o) seen (gathering l o) refl)
  plan-means (listing l) Start name g = chooses (listing l) seen (eqb (tag_of name) 5) (property-starts l name) (passes (listing l) seen (listing l) refl)
  plan-means (listing l) Empty name g = either (listing l) seen (eqb (tag_of name) 5) (property-empties l name) (passes (listing l) seen (listing l) refl)
  plan-means (listing l) End name g = chooses (listing l) seen (eqb (tag_of name) 4) (passes (listing l) seen (at l) refl) (passes (listing l) seen (listing l) refl)
  plan-means (skipping m skipped depth) Start name g = passes (skipping m skipped depth) seen (skipping m skipped (cond (same_bytes name skipped) (suc depth) depth)) refl
  plan-means (skipping m skipped depth) Empty name g = passes (skipping m skipped depth) seen (skipping m skipped depth) refl
  plan-means (skipping m skipped depth) End name g = skip-ends m skipped depth (same_bytes name skipped)
  plan-means finished k name g = passes finished seen finished refl
