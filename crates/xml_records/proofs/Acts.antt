-- What each act does to the areas, against the record that is due. Assumes nothing.
use Prim.Native.Nat.{ℕ, ◌+◌, ◌-◌, ◌≤◌}
use mathlib.Core.Path.{◌≡◌, refl, sym, ap, ◌∙◌, subst}
use mathlib.Core.List.{List, [], ◌∷◌}
use mathlib.Core.Bool.{Bool, true, false, cond}
use native.Mathlib.Omega.{arith}
use borrow.Author.Tests.{ne_eqb}
use lib.Dec.{ltb}
use lib.ListN.{length, get_or, set, length-set}
use Rattle.xml_rep.specs.of_table.Kinds as kind
use Rattle.xml_rep.specs.of_xml_machine.Tokens.{Rec, rec, unless0, over, nothing, event, attribute, text_due, Kept, keep}
use Rattle.xml_rep.specs.of_xml_stack.Stack.{Range, range, Stacked}
use Rattle.xml_rep.proofs.of_xml_stack.Stack.{append, push, Popped, pop, none_open}
use Rattle.xml_rep.specs.of_xml_state.declared.State.{State}
use Rattle.xml_rep.specs.of_xml_state.declared.Step.TheVariants.{Go}
use Rattle.xml_rep.specs.of_xml_state.inside.Rows as row
use Rattle.xml_rep.specs.of_xml_state.inside.Registers.{in_mode, with_kept, with_count}
use Rattle.xml_rep.specs.of_xml_state.inside.Acts.{record_at}
use Rattle.xml_rep.specs.of_xml_state.inside.Puts.{stepped, put_over, fresh_of, settled_of, shut_mode, act_text, act_start, act_empty, act_end, act_value}
use Rattle.xml_rep.specs.inside.Agree.{shut_in}
use Rattle.xml_records.specs.inside.Holding.{Holds}
use Rattle.xml_records.proofs.Putting.{Does, Adds, put-event, put-attribute}

-- the mode behind a closed element
shut-law : {size : ℕ} {rs : List Rec} {top : ℕ} {area : List ℕ} (ns : List Range) → Stacked size rs ns top area → shut_mode top ≡ shut_in ns
shut-law [] s = ap shut_mode (none_open s refl).0
shut-law {top = top} (range a l ∷ ns) s = simp (ne_eqb top 0 (λ e. omega (arith, (pop s).positive)))

-- the registers of a tag as a record
abbrev pub tag_record : State → ℕ → Rec
tag_record st k = rec k st.name st.long (unless0 st.first (st.kept - st.first)) (st.kept - st.first)

module _ {size : ℕ} {kept : Kept} {rs : List Range} {st : State} {events attributes : List ℕ} (h : Holds size kept rs st events attributes) (Q : State → ℕ → Type 0) where
  abbrev many : ℕ
  many = length kept.attributes

  -- no record is due
  pub none-puts : (x : State) → x.count ≡ st.count → x.kept ≡ many → x.top ≡ st.top → Q x many → Does h Q nothing rs (stepped (Go x) events)
  unfolding keep
  none-puts x c a t q = (kept, (λ f. refl), record { stacked = rw t h.stacked; count = c ∙ h.count; fits = h.fits; laid = h.laid; many = a }, q)

  pub over-puts : (x : State) (k from to : ℕ) → x.count ≡ st.count → x.kept ≡ st.kept → x.top ≡ st.top
      → Q (with_count (x.count + 1) x) many → Does h Q (event (over k from to)) rs (put_over x k from to events)
  over-puts x k from to c a t q =
      put-event h Q x events rs k (unless0 from (to - from)) (to - from) 0 0 (over k from to) refl (c ∙ h.count) (a ∙ h.many)
      (λ g. rw t (append h.stacked k (unless0 from (to - from)) (to - from) 0 0 g)) q

  pub text-puts : (m at : ℕ) → ((n : ℕ) → Q (with_count n (fresh_of st m at)) many) → Does h Q (text_due st.mark at) rs (act_text st m at events)
  unfolding act_text
  text-puts m at q = by (ltb st.mark at)
    where
      by : (y : Bool) → Does h Q (cond y (event (over kind.text st.mark at)) nothing) rs (cond y (put_over (fresh_of st m at) kind.text st.mark at events) (stepped (Go (fresh_of st m at)) events))
      by true = over-puts (fresh_of st m at) kind.text st.mark at refl refl refl (q _)
      by false = none-puts (fresh_of st m at) refl h.many refl (q st.count)

  -- `from` has the tag's name
  pub start-puts : (from : State) (at : ℕ) → from.top ≡ st.top → from.count ≡ st.count → from.kept ≡ many
      → from.name + from.long ≤ size → ((t c : ℕ) → Q (with_count c (settled_of from row.text_in_of at t)) many) →
      Does h Q (event (tag_record from kind.start)) (range from.name from.long ∷ rs) (act_start from at events)
  unfolding act_start
  start-puts from at t c a w q =
      put-event h Q (settled_of from row.text_in_of at (from.count + 1)) events (range from.name from.long ∷ rs) from.top from.name
      from.long (unless0 from.first (from.kept - from.first)) (from.kept - from.first) (tag_record from kind.start) refl (c ∙ h.count) a
      (λ g. rw (t, c, h.count) (push h.stacked from.name from.long (unless0 from.first (from.kept - from.first)) (from.kept - from.first) g w)) (q _ _)

  pub empty-puts : (at : ℕ) → ((t c : ℕ) → Q (with_count c (settled_of st (shut_in rs) at t)) many) → Does h Q (event (tag_record st kind.empty)) rs (act_empty st at events)
  unfolding act_empty
  empty-puts at q =
      put-event h Q (settled_of st (shut_mode st.top) at st.top) events rs kind.empty st.name st.long
      (unless0 st.first (st.kept - st.first)) (st.kept - st.first) (tag_record st kind.empty) refl h.count h.many
      (λ g. append h.stacked kind.empty st.name st.long (unless0 st.first (st.kept - st.first)) (st.kept - st.first) g)
      (subst (λ (m : ℕ). Q (with_count (st.count + 1) (settled_of st m at st.top)) many) (sym (shut-law rs h.stacked)) (q _ _))

  -- an end tag: its name lies at the mark
  pub end-puts : (at a l : ℕ) (ms : List Range) → rs ≡ range a l ∷ ms → ((t c : ℕ) → Q (with_count c (settled_of st (shut_in ms) at t)) many) →
      Does h Q (event (rec kind.end st.mark st.long 0 0)) ms (act_end st at events)
  unfolding act_end
  end-puts at a l ms e q =
      put-event h Q (settled_of st (shut_mode (get_or events (record_at st.top) 0)) at (get_or events (record_at st.top) 0))
      (set events (record_at st.top) 0) ms kind.end st.mark st.long 0 0 (rec kind.end st.mark st.long 0 0)
      (length-set events (record_at st.top) 0) h.count h.many
      (λ r. append popped.rest kind.end st.mark st.long 0 0 r)
      (subst (λ (m : ℕ). Q (with_count (st.count + 1) (settled_of st m at (get_or events (record_at st.top) 0))) many) (sym (shut-law ms popped.rest)) (q _ _))
    where
      popped : Popped size kept.events a l ms st.top events
      popped = pop (subst (λ (x : List Range). Stacked size kept.events x st.top events) e h.stacked)

  pub value-puts : (mode at : ℕ) → Q (with_kept (st.kept + 1) (in_mode mode st)) (many + 1) →
      Adds h Q (attribute (rec 0 st.key st.wide (unless0 st.mark (at - st.mark)) (at - st.mark))) (act_value st mode at attributes)
  unfolding act_value
  value-puts mode at q = put-attribute h Q (in_mode mode st) 0 st.key st.wide (unless0 st.mark (at - st.mark)) (at - st.mark) refl refl q
