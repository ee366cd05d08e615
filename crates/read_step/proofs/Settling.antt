-- The code's act at an End that closes an element is the definition's. Assumes nothing.
use Rattle.std.specs.Prelude.{Some, None, Ok, Err}
use Prim.Native.Nat.{ℕ, ◌+◌, ◌≤◌, ◌<◌}
use mathlib.Core.Path.{◌≡◌, refl, sym, ap, subst, ◌∙◌}
use mathlib.Core.Bool.{Bool, true, false, cond, not, ◌&&◌}
use mathlib.Core.List.{List, [], ◌∷◌, ◌++◌, append-nil}
use mathlib.Core.Logic.{◌⊎◌, inl, inr}
use native.Mathlib.Omega.{arith}
use borrow.Author.Tests.{leb-false, ne_eqb, eqb-true}
use lib.Dec.{leb, eqb}
use Rattle.read_actions.specs.of_table.Table.{word, count_of}
use Rattle.read_actions.specs.of_table.Event.{Event, tag_kind, kind_at, bytes_at, attributes_from}
use Rattle.read_actions.proofs.of_table.Resolving.{event-of-kind, resolve-next}
use Rattle.read_actions.specs.of_read_state.Control.{Level, top, suite, case, status, Mode, at, gathering, listing, skipping, finished}
use Rattle.read_actions.specs.of_read_state.Control.{Act, pass, open_report, open_suite, open_case, open_status, close_suite, close_case, close_status, open_text, close_text, open_list, read_property, stop, missing, broken}
use Rattle.read_actions.specs.of_read_rules.Rules.{plan_at, plan_eof, plan_fault}
use Rattle.read_again.specs.of_read_machine.Machine.{Machine}
use Rattle.read_again.specs.Told.{along, told}
use Rattle.read_again.specs.inside.Turns.{rest, Known}
use Rattle.read_again.specs.inside.Since.{inside, Since, found, Restores}
use Rattle.read_again.proofs.Telling.{stays, plan-stays, plan-unseen}
use Rattle.read_again.proofs.Turning.{tag-told}
use Rattle.read_actions.specs.of_read_state.inside.Coded.{level_in_of, closing, mode_of, control_of, act_of}
use Rattle.read_actions.specs.of_read_state.declared.Act.{Act as CodedAct}
use Rattle.read_actions.specs.of_read_state.declared.Act.TheVariants.{Pass, Skip, Open, Close, OpenText, CloseText, OpenList, CloseList, ReadProperty, Stop, Missing, Broken}
use Rattle.read_actions.specs.of_read_state.declared.Control.{Control as CodedControl}
use Rattle.read_again.specs.of_table_events.inside.Pieces.{is_piece}
use Rattle.read_step.specs.inside.Planned.{is_close, closes, planned}
use Rattle.read_step.specs.inside.Standing.{Step, machine_of, Stands, Acted}
use Rattle.read_step.specs.inside.Promises.{Again}
use Rattle.read_step.specs.declared.State.{State}
use Rattle.read_actions.specs.of_refusal.Refusal.{Outcome}
use Rattle.read_actions.specs.of_read_element.inside.Refines.{Table}
use Rattle.read_actions.specs.of_read_place.Marks.{Marks}
use Rattle.read_actions.specs.of_read_place.inside.Coded.{marks_of}
use Rattle.read_actions.specs.of_read_content.Content.{Content}
use Rattle.read_actions.specs.of_read_content.declared.Content.{Content as CodedContent}
use Rattle.read_actions.specs.of_read_content.inside.Holds.{is_at, apt, Lists}

closing-closes : (l : Level) → closes (closing l) ≡ true
closing-closes top = refl
closing-closes suite = refl
closing-closes case = refl
closing-closes status = refl

pub close-planned : (k : CodedControl) (name : List ℕ) (a : CodedAct) (kind kind' : ℕ) (bytes bytes' : List ℕ) → act_of k name a ≡ planned (control_of k) kind bytes
    → kind ≡ kind' → bytes ≡ bytes' → a ≡ Close → closes (planned (control_of k) kind' bytes') ≡ true
close-planned k name a kind kind' bytes bytes' q p r e =
    ap (λ (n : ℕ). closes (planned (control_of k) n bytes')) (sym p)
    ∙ ap (λ (b : List ℕ). closes (planned (control_of k) kind b)) (sym r)
    ∙ ap closes (sym q)
    ∙ ap (λ (x : CodedAct). closes (act_of k name x)) e
    ∙ closing-closes (level_in_of (mode_of k))

-- ---- an End that closes an element, inside a status element, is its own
never : false ≡ true → ⊥
never e = let z : ◌≡◌ {A = ℕ} 0 1 = cc in omega arith

not-both : (a : Act) → closes a ≡ true → stays a ≡ true → ⊥
not-both (pass m) c s = never c
not-both (open_report e) c s = never c
not-both (open_suite e) c s = never c
not-both (open_case e) c s = never c
not-both (open_status k e) c s = never c
not-both close_suite c s = never s
not-both close_case c s = never s
not-both close_status c s = never s
not-both (open_text l o) c s = never c
not-both (close_text l o) c s = never c
not-both (open_list l e) c s = never c
not-both (read_property l e name) c s = never c
not-both stop c s = never c
not-both missing c s = never c
not-both (broken why) c s = never c

eof-closes : (m : Mode) (seen closed : Bool) → inside m ≡ true → closes (plan_eof m seen closed) ≡ true → ⊥
unfolding plan_eof
eof-closes (at top) seen closed h c = never h
eof-closes (at suite) seen closed h c = never h
eof-closes (at case) seen closed h c = never h
eof-closes (at status) seen closed h c = never c
eof-closes (gathering l o) seen closed h c = never c
eof-closes (listing l) seen closed h c = never h
eof-closes (skipping m name depth) seen closed h c = never c
eof-closes finished seen closed h c = never h

fault-closes : (m : Mode) → inside m ≡ true → closes (plan_fault m) ≡ true → ⊥
unfolding plan_fault
fault-closes (at l) h c = never c
fault-closes (gathering l o) h c = never c
fault-closes (listing l) h c = never h
fault-closes (skipping m name depth) h c = never c
fault-closes finished h c = never h

module _ (events attributes source : List ℕ) (s : Machine) (kind : ℕ) (bytes : List ℕ)
    (kq : kind ≡ cond (leb (count_of events) s.marks.event) 7 (kind_at events s.marks.event))
    (bq : bytes ≡ cond (leb (count_of events) s.marks.event) [] (bytes_at events source s.marks.event))
    (known : (i : ℕ) → i < count_of events → kind_at events i ≤ 9) (p : is_piece kind ≡ false) (c : closes (planned s.control kind bytes) ≡ true) where
  abbrev i : ℕ
  i = s.marks.event

  module _ (h : inside s.control.mode ≡ true) where
    no-eof : kind ≡ 7 → ⊥
    no-eof e = eof-closes s.control.mode s.control.seen s.control.closed h (sym (ap (λ (k : ℕ). closes (planned s.control k bytes)) e) ∙ c)

    no-fault : kind ≡ 8 → ⊥
    no-fault e = fault-closes s.control.mode h (sym (ap (λ (k : ℕ). closes (planned s.control k bytes)) e) ∙ c)

    within : leb (count_of events) i ≡ false
    within = go (leb (count_of events) i) refl
      where
        go : (b : Bool) → leb (count_of events) i ≡ b → leb (count_of events) i ≡ false
        go true e = absurd (no-eof (kq ∙ ap (λ (b : Bool). cond b 7 (kind_at events i)) e))
        go false e = e

    kind-here : kind ≡ kind_at events i
    kind-here = kq ∙ ap (λ (b : Bool). cond b 7 (kind_at events i)) within

    bytes-here : bytes ≡ bytes_at events source i
    bytes-here = bq ∙ ap (λ (b : Bool). cond b [] (bytes_at events source i)) within

    tag-closes : closes (plan_at s.control.mode s.control.seen (tag_kind kind) bytes) ≡ true
    tag-closes =
        sym (ap (λ (b : Bool). closes (cond b (plan_eof s.control.mode s.control.seen s.control.closed)
        (cond (eqb kind 8) (plan_fault s.control.mode) (plan_at s.control.mode s.control.seen (tag_kind kind) bytes)))) (ne_eqb kind 7 no-eof)
        ∙ ap (λ (b : Bool). closes (cond b (plan_fault s.control.mode) (plan_at s.control.mode s.control.seen (tag_kind kind) bytes))) (ne_eqb kind 8 no-fault))
        ∙ c

    own-end : plan_at s.control.mode true (tag_kind kind) bytes ≡ close_status
    own-end = sym (plan-unseen s.control.mode s.control.seen (tag_kind kind) bytes h) ∙ go (plan-stays s.control.mode s.control.seen (tag_kind kind) bytes h)
      where
        go : (plan_at s.control.mode s.control.seen (tag_kind kind) bytes ≡ close_status) ⊎ (stays (plan_at s.control.mode s.control.seen (tag_kind kind) bytes) ≡ true)
            → plan_at s.control.mode s.control.seen (tag_kind kind) bytes ≡ close_status
        go (inl e) = e
        go (inr e) = absurd (not-both (plan_at s.control.mode s.control.seen (tag_kind kind) bytes) tag-closes e)

    nothing-comes : told s.control.mode (rest events attributes source i) ≡ []
    nothing-comes =
        let l : i < count_of events = leb-false (count_of events) i within in
        let k : kind ≤ 9 = subst (λ (n : ℕ). n ≤ 9) (sym kind-here) (known i l) in
        ap (told s.control.mode) (resolve-next events attributes source (count_of events) i l)
        ∙ ap (λ (x : Event). told s.control.mode (x ∷ rest events attributes source (i + 1))) (event-of-kind events attributes source i kind (sym kind-here))
        ∙ tag-told s.control.mode (rest events attributes source (i + 1)) (bytes_at events source i) (word events i 3)
        (attributes_from attributes source (word events i 4) (word events i 3)) kind p no-eof no-fault k
        ∙ ap (λ (b : List ℕ). along (plan_at s.control.mode true (tag_kind kind) b) λ n. told n (rest events attributes source (i + 1))) (sym bytes-here)
        ∙ ap (λ (a : Act). along a λ n. told n (rest events attributes source (i + 1))) own-end

  -- what `restored` asks at an End that closes an element
  pub closed-since : (first : ℕ) → Since events attributes source first s → (s.content.description ≡ []) ⊎ (told (at status) (rest events attributes source first) ≡ s.content.description)
  closed-since first (inl x) = inl x
  closed-since first (inr (h, w)) = inr (w ∙ ap (λ (l : List ℕ). s.content.description ++ l) (nothing-comes h) ∙ append-nil s.content.description)

-- ---- the description in scratch again, where an act closes the element
pub close-act : (a : CodedAct) → is_close a ≡ true → a ≡ Close
close-act Close e = refl
close-act Pass e = absurd (never e)
close-act Skip e = absurd (never e)
close-act (Open k x) e = absurd (never e)
close-act (OpenText o) e = absurd (never e)
close-act (CloseText o) e = absurd (never e)
close-act (OpenList x) e = absurd (never e)
close-act CloseList e = absurd (never e)
close-act (ReadProperty x) e = absurd (never e)
close-act Stop e = absurd (never e)
close-act Missing e = absurd (never e)
close-act (Broken why) e = absurd (never e)

child-none : (mode : Mode) (m : Marks) (k : CodedContent) (s : Content) → is_at mode ≡ true → Lists mode m k s → s.gathered ≡ []
child-none (at l) m k s h li = li.1
child-none (gathering l o) m k s h li = absurd (never h)
child-none (listing l) m k s h li = absurd (never h)
child-none (skipping n name depth) m k s h li = absurd (never h)
child-none finished m k s h li = absurd (never h)

lists-found : (mode : Mode) (m : Marks) (k : CodedContent) (s : Content) → is_at mode ≡ true → Lists mode m k s → Lists mode m (found k) s
lists-found (at top) m k s h li = li
lists-found (at suite) m k s h li = li
lists-found (at case) m k s h li = li
lists-found (at status) m k s h li = li
lists-found (gathering l o) m k s h li = absurd (never h)
lists-found (listing l) m k s h li = absurd (never h)
lists-found (skipping n name depth) m k s h li = absurd (never h)
lists-found finished m k s h li = absurd (never h)

-- what is known before an act that is planned
pub again-here : (t : Table) (first : ℕ) (st : State) (c : Content) (a : CodedAct) (words text scratch name : List ℕ) (kind : ℕ) (bytes : List ℕ)
    → kind ≡ cond (leb (count_of t.events) st.marks.event) 7 (kind_at t.events st.marks.event)
    → bytes ≡ cond (leb (count_of t.events) st.marks.event) [] (bytes_at t.events t.source st.marks.event)
    → Known t.events → is_piece kind ≡ false → act_of st.control name a ≡ planned (control_of st.control) kind bytes → apt a (mode_of st.control) ≡ true
    → Since t.events t.attributes t.source first (machine_of st c) → Stands t.attributes t.source words text scratch st.content (machine_of st c) → Again a t first c
again-here t first st c a words text scratch name kind bytes kq bq known p q h since x e = (
  child-none (mode_of st.control) (marks_of st.marks) st.content c (sym (ap (λ (y : CodedAct). apt y (mode_of st.control)) e) ∙ h) x.lists,
  closed-since t.events t.attributes t.source (machine_of st c) kind bytes kq bq known p (close-planned st.control name a kind kind bytes bytes q refl refl e) first since,
)

-- the content with the description in scratch
pub again-stands : (events source attributes : List ℕ) (first : ℕ) (s : Machine) (k₀ k : CodedContent) (words text before after : List ℕ) → is_at s.control.mode ≡ true → k ≡ found k₀
    → Restores events source first k₀ before after
    → (s.content.gathered ≡ []) × ((s.content.description ≡ []) ⊎ (told (at status) (rest events attributes source first) ≡ s.content.description))
    → Stands attributes source words text before k₀ s → Stands attributes source words text after k s
again-stands events source attributes first s k₀ k words text before after h e restores g x =
    subst (λ (y : CodedContent). Stands attributes source words text after y s) (sym e)
    (record {
      holds = restores words text attributes s.content x.holds g.0 g.1;
      lists = lists-found s.control.mode s.marks k₀ s.content h x.lists;
      low = x.low;
      few = x.few;
    })

-- a step from there is one from here
pub acted-here : (attributes source words text scratch : List ℕ) (st : State) (k : CodedContent) (o : Outcome Machine) (r : Step)
    → Acted attributes source words text scratch (record { control = st.control; marks = st.marks; content = k }) o r → Acted attributes source words text scratch st o r
acted-here attributes source words text scratch st k o (Ok (Some t)) x = x
acted-here attributes source words text scratch st k o (Ok None) x = x
acted-here attributes source words text scratch st k o (Err h) x =
    record { placed = record { name = x.placed.name; room = x.placed.room; event = x.placed.event }; same = x.same }

pub not-lost : (a : CodedAct) (k : CodedContent) {b l : Bool} → b ≡ is_close a → l ≡ not (eqb k.child k.description) → (b && l) ≡ false → a ≡ Close → k.child ≡ k.description
not-lost a k {b} {l} p q e c = eqb-true k.child k.description (turned (eqb k.child k.description) (sym q ∙ go b l (p ∙ ap is_close c) e))
  where
    turned : (x : Bool) → not x ≡ false → x ≡ true
    turned true y = refl
    turned false y = absurd (never (sym y))

    go : (b l : Bool) → b ≡ true → (b && l) ≡ false → l ≡ false
    go true l x y = y
    go false l x y = absurd (never x)

pub is_lost : (a : CodedAct) {b : Bool} (l : Bool) → b ≡ is_close a → (b && l) ≡ true → a ≡ Close
is_lost a {b} l p e = close-act a (sym p ∙ go b l e)
  where
    go : (b l : Bool) → (b && l) ≡ true → b ≡ true
    go true l x = refl
    go false l x = absurd (never x)
