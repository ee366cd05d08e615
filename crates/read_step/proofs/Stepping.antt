-- One step of the code is one step of the machine. Assumes nothing.
use Rattle.std.specs.Prelude.{Ok, Err}
use Prim.Native.Nat.{ℕ, ◌+◌, ◌≤◌}
use mathlib.Core.Path.{◌≡◌, refl, sym, ap, subst, ◌∙◌}
use mathlib.Core.List.{List, []}
use mathlib.Core.Bool.{Bool, true, false, cond}
use native.Mathlib.Omega.{arith}
use lib.ListN.{length}
use Rattle.read_actions.specs.of_refusal.Refusal.{nowhere, Refused, Outcome, accepted, refused}
use Rattle.read_actions.specs.of_refusal.declared.Cause.{Cause}
use Rattle.read_actions.specs.of_table.Event.{Attribute, PieceKind, Piece}
use Rattle.read_actions.specs.of_read_element.Outcome.{◌>>=◌, Place, Rooms}
use Rattle.read_actions.specs.of_read_attribute.inside.Steps.{fault_at}
use Rattle.read_actions.specs.of_read_fault.declared.Fault.{Fault}
use Rattle.read_actions.proofs.of_tree_status.Tallies.{few-more}
use Rattle.read_actions.specs.of_read_state.Control.{Control, Act, gathers, turn}
use Rattle.read_actions.specs.of_read_state.inside.Coded.{mode_of, control_of, act_of, is_step, turned}
use Rattle.read_actions.specs.of_read_state.declared.Act.{Act as CodedAct}
use Rattle.read_actions.specs.of_read_state.declared.Act.TheVariants.{Broken}
use Rattle.read_actions.specs.of_read_state.declared.Control.{Control as CodedControl}
use Rattle.read_actions.proofs.of_read_state.Turning.{few-turn}
use Rattle.read_actions.specs.of_read_place.Marks.{Marks, marks_after, onward}
use Rattle.read_again.specs.of_read_path.Paths.{mode_path, act_place}
use Rattle.read_actions.specs.of_read_place.inside.Coded.{marks_of, go_to}
use Rattle.read_again.specs.of_read_path.inside.Coded.{has_room}
use Rattle.read_actions.specs.of_read_place.declared.Marks.{Marks as CodedMarks}
use Rattle.read_actions.proofs.of_read_place.Lasting.{event-kept, goes-onward, low-weak, low-going, low-onward}
use Rattle.read_again.proofs.of_read_path.Lengths.{mode-short, path-short}
use Rattle.read_actions.specs.of_read_content.Content.{Content, gather, perform}
use Rattle.read_actions.specs.of_read_element.inside.Refines.{went, stopped}
use Rattle.read_actions.specs.of_read_content.inside.Holds.{Performed, Holds, Lists, Comes}
use Rattle.read_actions.specs.of_read_content.declared.Content.{Content as CodedContent}
use Rattle.read_again.specs.of_read_machine.Machine.{Machine, act, step}
use Rattle.read_step.specs.inside.Standing.{machine_of, Stands, Refuses, Moved, after}
use Rattle.read_step.specs.declared.State.{State}
use Rattle.read_step.proofs.Acting.{behind, act-goes, act-refuses}
use Rattle.read_actions.proofs.of_read_content.Listing.{lists_at}

-- ---- what an answer says of the outcome
module _ {Q : CodedContent → Content → Type 0} {p : Place} {words text scratch attributes source : List ℕ} where
  pub comes-to : {o : Outcome Content} {r : Performed} (k : CodedContent) → Comes Q p words text scratch attributes source o r
      → r ≡ Ok k → (c : Content) × (o ≡ accepted c) × Holds words text scratch attributes source k c × Q k c
  comes-to k (went {s = s} {c = d} (h, q)) e =
      let z : d ≡ k = cc in
      (s, refl, subst (λ (x : CodedContent). Holds words text scratch attributes source x s) z h, subst (λ (x : CodedContent). Q x s) z q)
  comes-to k stopped e = let z : ◌≡◌ {A = ℕ} 0 1 = cc in absurd (omega arith)

  pub comes-not : {o : Outcome Content} {r : Performed} (f : Fault) → Comes Q p words text scratch attributes source o r → r ≡ Err f → o ≡ refused (fault_at p f)
  comes-not f (went h) e = let z : ◌≡◌ {A = ℕ} 0 1 = cc in absurd (omega arith)
  comes-not f (stopped {f = g}) e = let z : g ≡ f = cc in ap (λ (x : Fault). refused (fault_at p x)) z

-- ---- an event that leaves the control
-- areas and marks before it, and behind it
module _ (attributes source words text scratch words₀ text₀ scratch₀ : List ℕ) (st : State) (m' : CodedMarks) (k' : CodedContent) (c c' : Content)
    (e : ℕ) (q : marks_of m' ≡ go_to e (marks_of st.marks)) (t : Stands attributes source words₀ text₀ scratch₀ st.content (machine_of st c))
    (holds : Holds words text scratch attributes source k' c') (lists : Lists (mode_of st.control) (marks_of st.marks) k' c') where
  abbrev st' : State
  st' = record { control = st.control; marks = m'; content = k' }

  goes : record { control = control_of st.control; content = c'; marks = go_to e (marks_of st.marks) } ≡ machine_of st' c'
  goes = ap (λ (m : Marks). record { control = control_of st.control; content = c'; marks = m }) (sym q)

  pub going : st.marks.event ≤ e → Stands attributes source words text scratch k' (machine_of st' c')
  going h =
      subst (λ (s : Machine). Stands attributes source words text scratch k' s) goes
      (record {
        holds = holds;
        lists = lists_at (mode_of st.control) e (marks_of st.marks) k' c' lists;
        low = low-going h t.low;
        few = few-more t.few h;
      })

  pub going-same : {o : Outcome Machine} → o ≡ accepted (record { control = control_of st.control; content = c'; marks = go_to e (marks_of st.marks) }) → o ≡ accepted (machine_of st' c')
  going-same g = g ∙ ap accepted goes

pub piece-moved : (attributes source words text scratch words₀ text₀ scratch₀ : List ℕ) (st : State) (m' : CodedMarks) (k' : CodedContent) (c c' : Content) → marks_of m'
    ≡ go_to (st.marks.event + 1) (marks_of st.marks) → Stands attributes source words₀ text₀ scratch₀ st.content (machine_of st c) → Holds words text scratch attributes source k' c' →
    Lists (mode_of st.control) (marks_of st.marks) k' c' → {o : Outcome Machine} → o ≡ accepted (record { control = control_of st.control; content = c'; marks = onward (marks_of st.marks) })
    → Moved attributes source words text scratch st.marks.event o (record { control = st.control; marks = m'; content = k' })
piece-moved attributes source words text scratch words₀ text₀ scratch₀ st m' k' c c' q t holds lists g =
    record {
      content = c';
      same = going-same attributes source words text scratch words₀ text₀ scratch₀ st m' k' c c' (st.marks.event + 1) q t holds lists g;
      stands = going attributes source words text scratch words₀ text₀ scratch₀ st m' k' c c' (st.marks.event + 1) q t holds lists (omega arith);
      next = ap (λ (m : Marks). m.event) q;
    }

-- ---- pieces
module _ (rooms : Rooms) (k : PieceKind) (bytes : List ℕ) (s : Machine) where
  abbrev place : Place
  place = record { path = mode_path s.control.mode s.marks; event = s.marks.event; attribute = nowhere }

  abbrev joined : Content → Machine
  joined c = record { control = s.control; content = c; marks = onward s.marks }

  pub piece-passed : gathers s.control.mode ≡ false → step rooms (Piece k bytes) s ≡ accepted (joined s.content)
  unfolding step ◌>>=◌
  piece-passed e = ap (λ (b : Bool). cond b (gather rooms place s.control.mode k bytes s.content) (accepted s.content) >>= λ c. accepted (joined c)) e

  gathered : (o : Outcome Content) → gathers s.control.mode ≡ true → gather rooms place s.control.mode k bytes s.content ≡ o
      → step rooms (Piece k bytes) s ≡ (o >>= λ c. accepted (joined c))
  unfolding step
  gathered o e g =
      ap (λ (b : Bool). cond b (gather rooms place s.control.mode k bytes s.content) (accepted s.content) >>= λ c. accepted (joined c)) e
      ∙ ap (λ (x : Outcome Content). x >>= λ c. accepted (joined c)) g

  pub piece-joined : (c : Content) → gathers s.control.mode ≡ true → gather rooms place s.control.mode k bytes s.content ≡ accepted c → step rooms (Piece k bytes) s ≡ accepted (joined c)
  unfolding ◌>>=◌
  piece-joined c e g = gathered (accepted c) e g

  pub piece-refused : (r : Refused) → gathers s.control.mode ≡ true → gather rooms place s.control.mode k bytes s.content ≡ refused r → step rooms (Piece k bytes) s ≡ refused r
  unfolding ◌>>=◌
  piece-refused r e g = gathered (refused r) e g

-- a refusal where reading stands
pub halts-here : (st : State) (o : Outcome Machine) (why : Cause) (f : Fault) (i : ℕ) → i ≤ 65536 → o
    ≡ refused (fault_at (record { path = mode_path (mode_of st.control) (marks_of st.marks); event = i; attribute = nowhere }) f) → Refuses st (record { act = Broken why; event = i; fault = f }) o
halts-here st o why f i h e = record { placed = record { name = []; room = mode-short (mode_of st.control) (marks_of st.marks); event = h }; same = e }

-- where reading stands
abbrev pub here : State → Place
here st = record { path = mode_path (mode_of st.control) (marks_of st.marks); event = st.marks.event; attribute = nowhere }

-- a piece that is gathered
module _ (attributes source words text scratch scratch₀ : List ℕ) (rooms : Rooms) (k : PieceKind) (bytes : List ℕ) (st : State) (c : Content) (r : Performed) (g : gathers (mode_of st.control)
    ≡ true) (comes : Comes (Lists (mode_of st.control) (marks_of st.marks)) (here st) words text scratch attributes source (gather rooms (here st) (mode_of st.control) k bytes c) r) where
  pub piece_goes : (m' : CodedMarks) (k' : CodedContent) → r ≡ Ok k' → marks_of m' ≡ go_to (st.marks.event + 1) (marks_of st.marks) → Stands attributes source words text scratch₀ st.content
      (machine_of st c) → Moved attributes source words text scratch st.marks.event (step rooms (Piece k bytes) (machine_of st c)) (record { control = st.control; marks = m'; content = k' })
  piece_goes m' k' e q t =
      let x = comes-to k' comes e in
      piece-moved attributes source words text scratch words text scratch₀ st m' k' c x.0 q t x.2 x.3 (piece-joined rooms k bytes (machine_of st c) x.0 g x.1)

  pub piece_halts : (why : Cause) (f : Fault) → r ≡ Err f → st.marks.event ≤ 65536
      → Refuses st (record { act = Broken why; event = st.marks.event; fault = f }) (step rooms (Piece k bytes) (machine_of st c))
  piece_halts why f e h =
      halts-here st (step rooms (Piece k bytes) (machine_of st c)) why f st.marks.event h (piece-refused rooms k bytes (machine_of st c) (fault_at (here st) f) g (comes-not f comes e))

-- ---- actions
module _ (attributes source words text scratch words₀ text₀ : List ℕ) (a : CodedAct) (name : List ℕ) (st : State) (c c' : Content) (k : CodedContent)
    (h : is_step a ≡ true) (t : Stands attributes source words₀ text₀ scratch st.content (machine_of st c)) (holds : Holds words text scratch attributes source k c')
    (lists : Lists (turned a name st.control).mode (marks_after (act_of st.control name a) (length c.records) (marks_of st.marks)) k c') where
  abbrev acting : Act
  acting = act_of st.control name a

  abbrev marked : Marks
  marked = marks_after acting (length c.records) (marks_of st.marks)

  stands-behind : Stands attributes source words text scratch k (behind acting (machine_of st c) c')
  stands-behind =
      let z : marked.event ≡ st.marks.event = event-kept acting (length c.records) (marks_of st.marks) in
      record {
        holds = holds;
        lists =
            lists_at (turn acting (control_of st.control)).mode (marked.event + 1) marked k c'
            (subst (λ (b : Bool). Lists (cond b (turn acting (control_of st.control)) (control_of st.control)).mode marked k c') h lists);
        low = low-weak (omega arith) (low-onward acting (length c.records) (marks_of st.marks) t.low);
        few = few-more (few-turn acting (control_of st.control) t.few) (omega arith);
      }

  pub act-moved : (rooms : Rooms) (j : ℕ) (xs : List Attribute) (st' : State) → ((n : List ℕ) (d : Content) → machine_of st' d ≡ after (act_of st.control n a) st.content.used (machine_of st d))
      → st'.content ≡ k → perform rooms (act_place acting (mode_of st.control) (marks_of st.marks)) acting j xs (control_of st.control) (marks_of st.marks) c ≡ accepted c'
      → Moved attributes source words text scratch st.marks.event (act rooms acting j xs (machine_of st c)) st'
  act-moved rooms j xs st' q p e =
      let same : machine_of st' c' ≡ behind acting (machine_of st c) c' = q name c' ∙ ap (λ (n : ℕ). after acting n (machine_of st c')) t.holds.used in
      record {
        content = c';
        same = act-goes rooms acting j xs (machine_of st c) c' e ∙ ap accepted (sym same);
        stands =
            subst (λ (s : Machine). Stands attributes source words text scratch st'.content s) (sym same)
            (subst (λ (x : CodedContent). Stands attributes source words text scratch x (behind acting (machine_of st c) c')) (sym p) stands-behind);
        next = ap (λ (s : Machine). s.marks.event) same ∙ ap (λ (n : ℕ). n + 1) (event-kept acting (length c.records) (marks_of st.marks));
      }

module _ (rooms : Rooms) (a : CodedAct) (name : List ℕ) (j : ℕ) (xs : List Attribute) (st : State) (c : Content) where
  abbrev done : Act
  done = act_of st.control name a

  pub act-halts : (f : Fault) → has_room done ≡ true → st.marks.event ≤ 65536
      → perform rooms (act_place done (mode_of st.control) (marks_of st.marks)) done j xs (control_of st.control) (marks_of st.marks) c
      ≡ refused (fault_at (act_place done (mode_of st.control) (marks_of st.marks)) f) → Refuses st (record { act = a; event = st.marks.event; fault = f }) (act rooms done j xs (machine_of st c))
  act-halts f r h e =
      record {
        placed = record { name = name; room = path-short done (mode_of st.control) (marks_of st.marks) r; event = h };
        same = act-refuses rooms done j xs (machine_of st c) (fault_at (act_place done (mode_of st.control) (marks_of st.marks)) f) e;
      }

-- ---- the state behind an action
pub is-behind : (a : CodedAct) (name : List ℕ) (st : State) (c : Content) (used : ℕ) (k : CodedControl) (m n : CodedMarks) → is_step a ≡ true
    → control_of k ≡ turned a name st.control → marks_of m ≡ marks_after (act_of st.control name a) used (marks_of st.marks) → marks_of n ≡ go_to (st.marks.event + 1) (marks_of m)
    → record { control = control_of k; content = c; marks = marks_of n } ≡ after (act_of st.control name a) used (machine_of st c)
is-behind a name st c used k m n h p q r =
    ap (λ (x : Control). record { control = x; content = c; marks = marks_of n })
    (p ∙ ap (λ (b : Bool). cond b (turn (act_of st.control name a) (control_of st.control)) (control_of st.control)) h)
    ∙ ap (λ (x : Marks). record { control = turn (act_of st.control name a) (control_of st.control); content = c; marks = x })
    (r ∙ ap (go_to (st.marks.event + 1)) q ∙ goes-onward (act_of st.control name a) used (marks_of st.marks))
