-- Refusal 14 comes exactly at the piece that passes scratch's end. Assumes nothing.
use Prim.Native.Nat.{ℕ, ◌+◌, max, min, ◌≤◌, ◌<◌}
use mathlib.Core.Path.{◌≡◌, refl, sym, ap, subst, ◌∙◌}
use mathlib.Core.List.{List, [], ◌∷◌, ◌++◌}
use mathlib.Core.Bool.{Bool, true, false, cond}
use mathlib.Core.Option.{Option, none, some}
use native.Mathlib.Omega.{arith}
use borrow.Author.Tests.{leb-true, leb-false, le-leb, lt-leb}
use lib.ListN.{length, length-append}
use lib.Dec.{leb}
use Rattle.read_report.specs.of_area.Answer.{Answer, gives, refuses}
use Rattle.read_report.specs.of_area.Limits.{most_bytes}
use Rattle.read_report.specs.of_refusal.Refusal.{nowhere, Refused, Outcome, accepted, refused}
use Rattle.read_report.specs.of_refusal.declared.Cause.{Cause}
use Rattle.read_report.specs.of_refusal.declared.Cause.TheVariants as cause
use Rattle.read_report.specs.of_trim.Trim.{trimmed}
use Rattle.read_report.specs.of_table.Event.{Attribute, PieceKind, Event, Tag, Piece, Eof, Fault}
use Rattle.read_report.specs.of_tree_report.Report.{Report}
use Rattle.read_report.specs.of_tree_status.Status.{ruled}
use Rattle.read_report.specs.of_read_element.Outcome.{◌>>=◌, Place, there, need, Rooms, fits, rooms_of, unlimited}
use Rattle.read_report.proofs.of_read_element.TreeOutcome.{Holds, accept, refuse, bind, needed, either}
use Rattle.read_report.specs.of_read_state.Control.{Level, Mode, at, gathering, listing, skipping, finished, Control, gathers}
use Rattle.read_report.specs.of_read_state.Control as plan
use Rattle.read_report.specs.of_read_state.Control.{Act, pass, open_report, open_suite, open_case, open_status, close_suite, close_case, close_status, open_text, close_text, open_list, read_property, stop, missing, broken}
use Rattle.read_report.specs.of_read_rules.Rules.{plan_at, plan_eof, plan_fault}
use Rattle.read_report.specs.of_read_place.Marks.{onward}
use Rattle.read_report.specs.of_read_path.Paths.{mode_path, act_place}
use Rattle.read_report.specs.of_read_content.Content.{piece_of, is_empty}
use Rattle.read_report.specs.Deserialize.{on_properties, Draft, draft, Reader, own, join_piece, gather, perform, act, step, steps, begin, deserialize_in}
use Rattle.read_report.specs.Answer.{Table, Areas, events_of, checked, answer_to}
use Rattle.scratch_claims.specs.Scratch.{bound, unbound, open_length, behind_step, longest_from, longest, full_at, passing, or_else, Scratch}
use Rattle.scratch_claims.proofs.Related.{performs}

-- ---- what scratch doesn't enter
abbrev Same : (A : Type 0) → Outcome A → Outcome A → Type 0
Same A m n = m ≡ n

same-behind : (A B : Type 0) (m n : Outcome A) (f g : A → Outcome B) → Same A m n → ((a : A) → Same B (f a) (g a)) → Same B (m >>= f) (n >>= g)
unfolding ◌>>=◌
same-behind A B (accepted a) n f g e h = h a ∙ ap (λ (x : Outcome A). x >>= g) e
same-behind A B (refused r) n f g e h = ap (λ (x : Outcome A). x >>= g) e

act-same : (rooms : Rooms) (k : ℕ) (a : Act) (j : ℕ) (xs : List Attribute) (s : Reader) → act (bound k rooms) a j xs s ≡ act (unbound rooms) a j xs s
unfolding act
act-same rooms k a j xs s =
    ap (λ (o : Outcome Draft). o >>= λ d. accepted (record { control = plan.turn a s.control; draft = d; marks = onward (Rattle.read_report.specs.of_read_place.Marks.marks_after a 0 s.marks) }))
    (performs Same (λ A m. refl) same-behind (bound k rooms) (unbound rooms) (λ A x p m. refl) (λ A x p m. refl) (act_place a s.control.mode s.marks) a j xs s.control s.draft)

-- ---- actions never lengthen what is open
abbrev open_of : Draft → ℕ
open_of d = max (length d.description) (length d.text)

abbrev Opens : ℕ → Draft → Type 0
Opens n d = open_of d ≤ n

abbrev Any : {A : Type 0} → A → Type 0
Any a = Unit {0}

any : {A : Type 0} (m : Outcome A) → Holds Any m
any (accepted a) = accept tt
any (refused r) = refuse

unchanged : (d : Draft) → Holds (Opens (open_of d)) (accepted d)
unchanged d = accept {a = d} (omega arith)

perform-opens : (rooms : Rooms) (p : Place) (a : Act) (j : ℕ) (xs : List Attribute) (k : Control) (d : Draft) → Holds (Opens (open_of d)) (perform rooms p a j xs k d)
unfolding perform
perform-opens rooms p (pass n) j xs k d = unchanged d
perform-opens rooms p (open_report e) j xs k d = bind (any _) λ t u. accept (omega arith)
perform-opens rooms p (open_suite e) j xs k d = bind (any _) λ t u. accept (omega arith)
perform-opens rooms p (open_case e) j xs k d = bind (any _) λ t u. accept (omega arith)
perform-opens rooms p (open_status s e) j xs k d = bind (any _) λ t u. accept (omega arith)
perform-opens rooms p close_suite j xs k d = unchanged d
perform-opens rooms p close_case j xs k d = needed (ruled k.tally) p cause.StatusRule λ z. accept (omega arith)
perform-opens rooms p close_status j xs k d = either (is_empty (trimmed d.description)) (λ e. accept (omega arith)) (λ e. bind (any _) λ t u. accept (omega arith))
perform-opens rooms p (open_text l o) j xs k d = unchanged d
perform-opens rooms p (close_text l o) j xs k d = bind (any _) λ t u. accept (omega arith)
perform-opens rooms p (open_list l e) j xs k d = accept {a = draft d (on_properties l (λ _. []) d.report) d.statuses d.used} (omega arith)
perform-opens rooms p (read_property l e name) j xs k d = bind (any _) λ t u. accept (omega arith)
perform-opens rooms p stop j xs k d = unchanged d
perform-opens rooms p missing j xs k d = refuse
perform-opens rooms p (broken why) j xs k d = refuse

abbrev Reaches : ℕ → Reader → Type 0
Reaches n s = open_length s ≤ n

act-reaches : (rooms : Rooms) (a : Act) (j : ℕ) (xs : List Attribute) (s : Reader) → Holds (Reaches (open_length s)) (act rooms a j xs s)
unfolding act
act-reaches rooms a j xs s = bind (perform-opens rooms (act_place a s.control.mode s.marks) a j xs s.control s.draft) λ d h. accept h

-- ---- one step: 14 where what is open passes k
abbrev cut : ℕ → Reader → Outcome Reader → Outcome Reader
cut k s (accepted t) = cond (leb (open_length t) k) (accepted t) (refused (full_at s))
cut k s (refused r) = refused r

within-cut : (k : ℕ) (s : Reader) {o : Outcome Reader} → open_length s ≤ k → Holds (Reaches (open_length s)) o → o ≡ cut k s o
within-cut k s h (accept {a = t} l) = sym (ap (λ (b : Bool). cond b (accepted t) (refused (full_at s))) (le-leb (open_length t) k (omega arith)))
within-cut k s h refuse = refl

same_test : (a b c d : ℕ) → (a ≤ b → c ≤ d) → (c ≤ d → a ≤ b) → leb a b ≡ leb c d
same_test a b c d f g = go (leb a b) refl
  where
    go : (t : Bool) → leb a b ≡ t → leb a b ≡ leb c d
    go true e = e ∙ sym (le-leb c d (f (leb-true a b e)))
    go false e = e ∙ sym (other (leb c d) refl)
      where
        other : (t : Bool) → leb c d ≡ t → leb c d ≡ false
        other true q = let x = g (leb-true c d q) in let y = leb-false a b e in absurd (omega arith)
        other false q = q

never : false ≡ true → ⊥
never e = let z : ◌≡◌ {A = ℕ} 0 1 = ap (λ (b : Bool). cond b 1 0) e in omega arith

joined-test : (k : ℕ) (mode : Mode) (v : List ℕ) (d : Draft) → open_of d ≤ k → gathers mode ≡ true → leb (length (own mode d) + length v) k ≡ leb (open_of (join_piece mode v d)) k
unfolding gathers
joined-test k (at l) v d h g = let n = length-append d.description v in same_test _ k _ k (λ x. omega arith) (λ x. omega arith)
joined-test k (gathering l o) v d h g = let n = length-append d.text v in same_test _ k _ k (λ x. omega arith) (λ x. omega arith)
joined-test k (listing l) v d h g = absurd (never g)
joined-test k (skipping m name depth) v d h g = absurd (never g)
joined-test k finished v d h g = absurd (never g)

-- where a reader stands behind a piece
abbrev behind : Reader → Draft → Reader
behind s d = record { control = s.control; draft = d; marks = onward s.marks }

abbrev here : Reader → Place
here s = record { path = mode_path s.control.mode s.marks; event = s.marks.event; attribute = nowhere }

gather-cut : (rooms : Rooms) (k : ℕ) (κ : PieceKind) (bytes : List ℕ) (s : Reader) → open_length s ≤ k → gathers s.control.mode ≡ true
    → gather (bound k rooms) (here s) s.control.mode κ bytes s.draft >>= (λ d. accepted (behind s d))
    ≡ cut k s (gather (unbound rooms) (here s) s.control.mode κ bytes s.draft >>= λ d. accepted (behind s d))
unfolding gather there need fits ◌>>=◌
gather-cut rooms k κ bytes s h g = go (piece_of κ bytes)
  where
    put : (v : List ℕ) (b : Bool) → leb (length (own s.control.mode s.draft) + length v) k ≡ b
        → (need b (here s) cause.ScratchFull (accepted (join_piece s.control.mode v s.draft)) >>= λ d. accepted (behind s d))
        ≡ cond b (accepted (behind s (join_piece s.control.mode v s.draft))) (refused (full_at s))
    put v true e = refl
    put v false e = refl

    go : (a : Answer (List ℕ))
        → (there (here s) a >>= λ v. need (leb (length (own s.control.mode s.draft) + length v) k) (here s) cause.ScratchFull (accepted (join_piece s.control.mode v s.draft)))
        >>= (λ d. accepted (behind s d))
        ≡ cut k s ((there (here s) a >>= λ v. need true (here s) cause.ScratchFull (accepted (join_piece s.control.mode v s.draft))) >>= λ d. accepted (behind s d))
    go (gives v) =
        put v (leb (length (own s.control.mode s.draft) + length v) k) refl
        ∙ ap (λ (b : Bool). cond b (accepted (behind s (join_piece s.control.mode v s.draft))) (refused (full_at s))) (joined-test k s.control.mode v s.draft h g)
    go (refuses why) = refl

piece_cut : (rooms : Rooms) (k : ℕ) (κ : PieceKind) (bytes : List ℕ) (s : Reader) → open_length s ≤ k → step (bound k rooms) (Piece κ bytes) s ≡ cut k s (step (unbound rooms) (Piece κ bytes) s)
unfolding step ◌>>=◌
piece_cut rooms k κ bytes s h = go (gathers s.control.mode) refl
  where
    go : (b : Bool) → gathers s.control.mode ≡ b
        → cond (gathers s.control.mode) (gather (bound k rooms) (here s) s.control.mode κ bytes s.draft) (accepted s.draft) >>= (λ d. accepted (behind s d))
        ≡ cut k s (cond (gathers s.control.mode) (gather (unbound rooms) (here s) s.control.mode κ bytes s.draft) (accepted s.draft) >>= λ d. accepted (behind s d))
    go true e =
        ap (λ (b : Bool). cond b (gather (bound k rooms) (here s) s.control.mode κ bytes s.draft) (accepted s.draft) >>= (λ d. accepted (behind s d))) e
        ∙ gather-cut rooms k κ bytes s h e
        ∙ ap (λ (b : Bool). cut k s (cond b (gather (unbound rooms) (here s) s.control.mode κ bytes s.draft) (accepted s.draft) >>= λ d. accepted (behind s d))) (sym e)
    go false e =
        ap (λ (b : Bool). cond b (gather (bound k rooms) (here s) s.control.mode κ bytes s.draft) (accepted s.draft) >>= (λ d. accepted (behind s d))) e
        ∙ within-cut k s h (accept {a = behind s s.draft} (omega arith))
        ∙ ap (λ (b : Bool). cut k s (cond b (gather (unbound rooms) (here s) s.control.mode κ bytes s.draft) (accepted s.draft) >>= λ d. accepted (behind s d))) (sym e)

step_cut : (rooms : Rooms) (k : ℕ) (e : Event) (s : Reader) → open_length s ≤ k → step (bound k rooms) e s ≡ cut k s (step (unbound rooms) e s)
unfolding step
step_cut rooms k (Tag κ name j xs) s h =
    act-same rooms k (plan_at s.control.mode s.control.seen κ name) j xs s ∙ within-cut k s h (act-reaches (unbound rooms) (plan_at s.control.mode s.control.seen κ name) j xs s)
step_cut rooms k (Piece κ bytes) s h = piece_cut rooms k κ bytes s h
step_cut rooms k Eof s h =
    act-same rooms k (plan_eof s.control.mode s.control.seen s.control.closed) 0 [] s
    ∙ within-cut k s h (act-reaches (unbound rooms) (plan_eof s.control.mode s.control.seen s.control.closed) 0 [] s)
step_cut rooms k Fault s h = act-same rooms k (plan_fault s.control.mode) 0 [] s ∙ within-cut k s h (act-reaches (unbound rooms) (plan_fault s.control.mode) 0 [] s)

-- ---- event by event
last-same : (rooms : Rooms) (k : ℕ) (s : Reader) → step (bound k rooms) Eof s ≡ step (unbound rooms) Eof s
unfolding step
last-same rooms k s = act-same rooms k (plan_eof s.control.mode s.control.seen s.control.closed) 0 [] s

module _ (rooms : Rooms) (k : ℕ) where
  abbrev Exact : List Event → Type 0
  Exact es = (t : Reader) → open_length t ≤ k → steps (bound k rooms) es t ≡ or_else (passing rooms k es t) (steps (unbound rooms) es t)

  exact-behind : (es : List Event) (s : Reader) → Exact es → (o : Outcome Reader)
      → cut k s o >>= (λ t. steps (bound k rooms) es t)
      ≡ or_else (behind_step none o λ t. cond (leb (open_length t) k) (passing rooms k es t) (some (full_at s))) (o >>= λ t. steps (unbound rooms) es t)
  unfolding ◌>>=◌
  exact-behind es s ih (refused r) = refl
  exact-behind es s ih (accepted t) = go (leb (open_length t) k) refl
    where
      go : (b : Bool) → leb (open_length t) k ≡ b
          → cond (leb (open_length t) k) (accepted t) (refused (full_at s)) >>= (λ t. steps (bound k rooms) es t)
          ≡ or_else (cond (leb (open_length t) k) (passing rooms k es t) (some (full_at s))) (steps (unbound rooms) es t)
      go true e =
          ap (λ (b : Bool). cond b (accepted t) (refused (full_at s)) >>= (λ t. steps (bound k rooms) es t)) e
          ∙ ih t (leb-true (open_length t) k e)
          ∙ ap (λ (b : Bool). or_else (cond b (passing rooms k es t) (some (full_at s))) (steps (unbound rooms) es t)) (sym e)
      go false e =
          ap (λ (b : Bool). cond b (accepted t) (refused (full_at s)) >>= (λ t. steps (bound k rooms) es t)) e
          ∙ ap (λ (b : Bool). or_else (cond b (passing rooms k es t) (some (full_at s))) (steps (unbound rooms) es t)) (sym e)

  exact-from : (es : List Event) → Exact es
  unfolding steps passing
  exact-from [] s h = last-same rooms k s
  exact-from (e ∷ es) s h =
      ap (λ (o : Outcome Reader). o >>= λ t. steps (bound k rooms) es t) (step_cut rooms k e s h) ∙ exact-behind es s (λ t l. exact-from es t l) (step (unbound rooms) e s)

  or_else-then : (p : Option Refused) (o : Outcome Reader) → or_else p o >>= (λ s. accepted s.draft.report) ≡ or_else p (o >>= λ s. accepted s.draft.report)
  unfolding ◌>>=◌
  or_else-then none o = refl
  or_else-then (some r) o = refl

  pub exact : (es : List Event) → deserialize_in (bound k rooms) es ≡ or_else (passing rooms k es begin) (deserialize_in (unbound rooms) es)
  unfolding deserialize_in
  exact es =
      ap (λ (o : Outcome Reader). o >>= λ s. accepted s.draft.report) (exact-from es begin (omega arith))
      ∙ or_else-then (passing rooms k es begin) (steps (unbound rooms) es begin)

  -- ---- where no text is longer
  none-behind : (es : List Event) (s : Reader) → ((t : Reader) → longest_from rooms es t ≤ k → passing rooms k es t ≡ none) → (o : Outcome Reader)
      → behind_step 0 o (λ t. max (open_length t) (longest_from rooms es t)) ≤ k
      → behind_step none o (λ t. cond (leb (open_length t) k) (passing rooms k es t) (some (full_at s))) ≡ none
  none-behind es s ih (refused r) h = refl
  none-behind es s ih (accepted t) h =
      ap (λ (b : Bool). cond b (passing rooms k es t) (some (full_at s))) (le-leb (open_length t) k (omega arith)) ∙ ih t (omega arith)

  none_passes : (es : List Event) (s : Reader) → longest_from rooms es s ≤ k → passing rooms k es s ≡ none
  unfolding longest_from passing
  none_passes [] s h = refl
  none_passes (e ∷ es) s h = none-behind es s (λ t l. none_passes es t l) (step (unbound rooms) e s) h

-- ---- what is accepted in areas is accepted with no limit
abbrev Grants : (A : Type 0) → Outcome A → Outcome A → Type 0
Grants A m n = (a : A) → m ≡ accepted a → n ≡ accepted a

no-grant : {A B : Type 0} {r : Refused} {a : A} → refused r ≡ accepted a → B
no-grant e = let z : ◌≡◌ {A = ℕ} 0 1 = cc in absurd (omega arith)

grants-behind : (A B : Type 0) (m n : Outcome A) (f g : A → Outcome B) → Grants A m n → ((a : A) → Grants B (f a) (g a)) → Grants B (m >>= f) (n >>= g)
unfolding ◌>>=◌
grants-behind A B (accepted a) n f g h k b e = ap (λ (x : Outcome A). x >>= g) (h a refl) ∙ k a b e
grants-behind A B (refused r) n f g h k b e = no-grant e

grants-need : (A : Type 0) (room : Option ℕ) (x : ℕ) (p : Place) (why : Cause) (m : Outcome A) → Grants A (need (fits room x) p why m) (need (fits none x) p why m)
unfolding need fits
grants-need A room x p why m a e = go (fits room x) e
  where
    go : (b : Bool) → need b p why m ≡ accepted a → m ≡ accepted a
    go true q = q
    go false q = no-grant q

module _ (rooms : Rooms) where
  act-grants : (a : Act) (j : ℕ) (xs : List Attribute) (s : Reader) → Grants Reader (act (unbound rooms) a j xs s) (act unlimited a j xs s)
  unfolding act
  act-grants a j xs s =
      grants-behind Draft Reader (perform (unbound rooms) (act_place a s.control.mode s.marks) a j xs s.control s.draft)
      (perform unlimited (act_place a s.control.mode s.marks) a j xs s.control s.draft) _ _
      (performs Grants (λ A m a e. e) grants-behind (unbound rooms) unlimited (λ A x p m. grants-need A rooms.records x p cause.RecordsSpent m)
      (λ A x p m. grants-need A rooms.text x p cause.TextFull m) (act_place a s.control.mode s.marks) a j xs s.control s.draft)
      (λ d t e. e)

  step-grants : (e : Event) (s : Reader) → Grants Reader (step (unbound rooms) e s) (step unlimited e s)
  unfolding step gather
  step-grants (Tag κ name j xs) s = act-grants (plan_at s.control.mode s.control.seen κ name) j xs s
  step-grants (Piece κ bytes) s = λ t e. e
  step-grants Eof s = act-grants (plan_eof s.control.mode s.control.seen s.control.closed) 0 [] s
  step-grants Fault s = act-grants (plan_fault s.control.mode) 0 [] s

  least-behind : (es : List Event) → ((t : Reader) → longest_from rooms es t ≤ longest_from unlimited es t) → (m n : Outcome Reader) → Grants Reader m n
      → behind_step 0 m (λ t. max (open_length t) (longest_from rooms es t)) ≤ behind_step 0 n (λ t. max (open_length t) (longest_from unlimited es t))
  least-behind es ih (refused r) n h = omega arith
  least-behind es ih (accepted t) n h =
      subst (λ (o : Outcome Reader). max (open_length t) (longest_from rooms es t) ≤ behind_step 0 o (λ t. max (open_length t) (longest_from unlimited es t))) (sym (h t refl)) (let i = ih t in omega arith)

  least : (es : List Event) (s : Reader) → longest_from rooms es s ≤ longest_from unlimited es s
  unfolding longest_from
  least [] s = omega arith
  least (e ∷ es) s = least-behind es (λ t. least es t) (step (unbound rooms) e s) (step unlimited e s) (step-grants e s)

suffices-so : (rooms : Rooms) (k : ℕ) (es : List Event) → longest_from rooms es begin ≤ k → deserialize_in (bound k rooms) es ≡ deserialize_in (unbound rooms) es
suffices-so rooms k es h = exact rooms k es ∙ ap (λ (p : Option Refused). or_else p (deserialize_in (unbound rooms) es)) (none_passes rooms k es begin h)

pub enough : (rooms : Rooms) (k : ℕ) (es : List Event) → longest es ≤ k → deserialize_in (bound k rooms) es ≡ deserialize_in (unbound rooms) es
enough rooms k es h = suffices-so rooms k es (let l = least rooms es begin in omega arith)

answers-so : (t : Table) (a : Areas) → answer_to t a
    ≡ checked t >>= λ _. or_else (passing (rooms_of a.words a.text a.scratch) (min a.scratch most_bytes) (events_of t) begin)
    (deserialize_in (unbound (rooms_of a.words a.text a.scratch)) (events_of t))
unfolding answer_to
answers-so t a =
    ap (λ (o : Outcome Report). checked t >>= λ _. o) (exact (rooms_of a.words a.text a.scratch) (min a.scratch most_bytes) (events_of t))

pub scratch : Scratch
scratch = record { exactly = exact; suffices = suffices-so; no_longer = λ rooms es. least rooms es begin; answers = answers-so }
