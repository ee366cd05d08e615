-- A report to order, proved. Assumes nothing.
use Prim.Native.Nat.{ℕ, ◌-◌, ◌*◌, min, ◌≤◌, ◌<◌}
use mathlib.Core.Path.{◌≡◌, refl, sym, ap, ◌∙◌}
use mathlib.Core.List.{List, ◌++◌}
use mathlib.Core.Bool.{Bool, true, false, cond, ◌&&◌}
use mathlib.Core.Logic.{◌⊎◌, inl, inr, ◌↔◌}
use native.Mathlib.Omega.{arith}
use native.Mathlib.Decide.{dec_le}
use borrow.Author.Tests.{lt-ltb, le-ltb, ltb-true, ltb-false, leb-true}
use lib.Dec.{ltb, leb}
use lib.ListN.{length, take}
use lib.Seq.{take_at}
use Rattle.order_report.specs.of_area.Limits.{most_entries, most_bytes}
use Rattle.order_report.specs.of_area.Answer.{Answer, gives, refuses}
use Rattle.order_report.specs.of_area.Area.{zeros}
use Rattle.order_report.proofs.of_area.Laying.{laid-zeros}
use Rattle.order_report.specs.of_refusal.Refusal.{number, Refused, Outcome, accepted, refused, late}
use Rattle.order_report.specs.of_refusal.declared.Cause.TheVariants as cause
use Rattle.order_report.specs.of_tree_report.Report.{Report}
use Rattle.order_report.proofs.of_tree_report.EncodeLists.{and_left, and_right}
use Rattle.round_claims.specs.of_read_report.Answer.{Table, Areas, events_of, answer_to}
use Rattle.order_report.specs.of_write_report.Written.{written}
use Rattle.order_report.specs.of_write_table.Laid.{laid_out, fits}
use Rattle.order_report.proofs.of_write_table.Laying.{words-five, attributes-five}
use Rattle.order_report.specs.of_write_answer.Answer.{Sizes, outcome_of, left_for}
use Rattle.round_claims.specs.of_list_text.Listing.{render}
use Rattle.round_claims.specs.of_public_claims.Agree.{public}
use Rattle.round_claims.specs.of_public_claims.OwnStatus.{own_statuses, Ruled}
use Rattle.round_claims.specs.of_public_claims.PublicListing.{is_accepted}
use Rattle.round_claims.specs.of_public_claims.Demand3.{listing, IsReport}
use Rattle.round_claims.specs.of_public_claims.Demand3 as shown
use Rattle.round_claims.proofs.of_public_claims.Demand3.{demand_3}
use Rattle.round_claims.specs.Demand2.{Lent, own_table, limits}
use Rattle.round_claims.proofs.Demand2.{own-answer, own-listing, demand_2}
use Rattle.order_report.specs.declared.Order.{Order}
use Rattle.order_report.specs.Rehearsal.{stated, rehearsal}
use Rattle.order_report.specs.Answer.{most_cases, ordered_table, sizes_of, order_answer, events_ordered, attributes_ordered, bytes_ordered}
use Rattle.order_claims.specs.Ordering.{Numbers, answer_of, event_area, attribute_area, byte_area, in_use, Holds, Zero, Counted, Ordering}
use Rattle.order_claims.proofs.Counting.{own-numbers, own-rest, numbers-within}
use Rattle.order_claims.proofs.Sizes.{order-fits}
use Rattle.order_claims.proofs.Plain.{order-plain, order-sound, order-rows}

-- ---- the answer by its three tests
abbrev chosen : Bool → Bool → Bool → Sizes → Answer Sizes
chosen many more room n = cond many (refuses cause.TooManyCases) (cond more (refuses cause.NoSuchReport) (cond room (gives n) (refuses cause.OutputFull)))

-- 0 for an order that isn't refused
abbrev code : Outcome Sizes → ℕ
code (accepted n) = 0
code (refused why) = number why.cause

by-23 : (b c d : Bool) (n : Sizes) → outcome_of (chosen b c d n) ≡ refused (late cause.TooManyCases) → b ≡ true
by-23 true c d n e = refl
by-23 false true d n e = let z = ap code e in absurd (omega arith)
by-23 false false true n e = let z = ap code e in absurd (omega arith)
by-23 false false false n e = let z = ap code e in absurd (omega arith)

by-24 : (b c d : Bool) (n : Sizes) → outcome_of (chosen b c d n) ≡ refused (late cause.NoSuchReport) → (b ≡ false) × (c ≡ true)
by-24 true c d n e = let z = ap code e in absurd (omega arith)
by-24 false true d n e = (refl, refl)
by-24 false false true n e = let z = ap code e in absurd (omega arith)
by-24 false false false n e = let z = ap code e in absurd (omega arith)

by-16 : (b c d : Bool) (n : Sizes) → outcome_of (chosen b c d n) ≡ refused (late cause.OutputFull) → (b ≡ false) × (c ≡ false) × (d ≡ false)
by-16 true c d n e = let z = ap code e in absurd (omega arith)
by-16 false true d n e = let z = ap code e in absurd (omega arith)
by-16 false false true n e = let z = ap code e in absurd (omega arith)
by-16 false false false n e = (refl, refl, refl)

by-given : (b c d : Bool) (n m : Sizes) → outcome_of (chosen b c d n) ≡ accepted m → (b ≡ false) × (c ≡ false) × (d ≡ true) × (n ≡ m)
by-given true c d n m e = let z : ◌≡◌ {A = ℕ} 0 1 = cc in absurd (omega arith)
by-given false true d n m e = let z : ◌≡◌ {A = ℕ} 0 1 = cc in absurd (omega arith)
by-given false false true n m e = (refl, refl, refl, cc)
by-given false false false n m e = let z : ◌≡◌ {A = ℕ} 0 1 = cc in absurd (omega arith)

by-refused : (b c d : Bool) (n : Sizes) (why : Refused) → outcome_of (chosen b c d n) ≡ refused why
    → ((why ≡ late cause.TooManyCases) ⊎ ((why ≡ late cause.NoSuchReport) ⊎ (why ≡ late cause.OutputFull))) × ((k : ℕ) (f : List ℕ) → left_for (chosen b c d n) k f ≡ zeros k)
by-refused true c d n why e = (inl cc, λ k f. refl)
by-refused false true d n why e = (inr (inl cc), λ k f. refl)
by-refused false false true n why e = let z : ◌≡◌ {A = ℕ} 0 1 = cc in absurd (omega arith)
by-refused false false false n why e = (inr (inr cc), λ k f. refl)

-- the part of an area that is in use, and what is behind it
used : (x : Answer Sizes) (m : Sizes) (n : ℕ) (f : List ℕ) (k : ℕ) → x ≡ gives m → length f ≤ n → k ≡ length f → (take k (left_for x n f) ≡ f) × (left_for x n f ≡ f ++ zeros (n - k))
used x m n f k e h l =
    let p : left_for x n f ≡ f ++ zeros (n - length f) = ap (λ (y : Answer Sizes). left_for y n f) e ∙ laid-zeros n f h in
    (ap (take k) p ∙ take_at f (zeros (n - length f)) k (sym l), p ∙ ap (λ (j : ℕ). f ++ zeros (n - j)) (sym l))

module _ (o : Order) (a : Lent) where
  abbrev many : Bool
  many = ltb most_cases o.cases

  abbrev more : Bool
  more = ltb o.cases (stated o)

  abbrev room : Bool
  room = fits (ordered_table o) a.events a.attributes a.bytes

  abbrev sizes : Sizes
  sizes = sizes_of (ordered_table o)

  answer-is : order_answer o a.events a.attributes a.bytes ≡ chosen many more room sizes
  unfolding order_answer
  answer-is = refl

  outcome-is : answer_of o a ≡ outcome_of (chosen many more room sizes)
  outcome-is = ap outcome_of answer-is

  same-room : room ≡ fits (laid_out (written (rehearsal o))) a.events a.attributes a.bytes
  unfolding ordered_table
  same-room = refl

  -- ---- A
  exactly-23 : (answer_of o a ≡ refused (late cause.TooManyCases)) ↔ (most_cases < o.cases)
  exactly-23 = (
    λ e. ltb-true most_cases o.cases (by-23 many more room sizes (sym outcome-is ∙ e)),
    λ h. outcome-is ∙ ap (λ (b : Bool). outcome_of (chosen b more room sizes)) (lt-ltb most_cases o.cases h),
  )

  exactly-24 : (answer_of o a ≡ refused (late cause.NoSuchReport)) ↔ ((o.cases ≤ most_cases) × (o.cases < stated o))
  exactly-24 = (
    λ e. let h = by-24 many more room sizes (sym outcome-is ∙ e) in (ltb-false most_cases o.cases h.0, ltb-true o.cases (stated o) h.1),
    λ h. outcome-is ∙ ap (λ (b : Bool). outcome_of (chosen b more room sizes)) (le-ltb most_cases o.cases h.0)
        ∙ ap (λ (b : Bool). outcome_of (chosen false b room sizes)) (lt-ltb o.cases (stated o) h.1),
  )

  exactly-16 : (answer_of o a ≡ refused (late cause.OutputFull))
      ↔ ((o.cases ≤ most_cases) × (stated o ≤ o.cases) × (fits (laid_out (written (rehearsal o))) a.events a.attributes a.bytes ≡ false))
  exactly-16 = (
    λ e. let h = by-16 many more room sizes (sym outcome-is ∙ e) in (ltb-false most_cases o.cases h.0, ltb-false o.cases (stated o) h.1, sym same-room ∙ h.2),
    λ h. outcome-is ∙ ap (λ (b : Bool). outcome_of (chosen b more room sizes)) (le-ltb most_cases o.cases h.0)
        ∙ ap (λ (b : Bool). outcome_of (chosen false b room sizes)) (le-ltb o.cases (stated o) h.1)
        ∙ ap (λ (b : Bool). outcome_of (chosen false false b sizes)) (same-room ∙ h.2),
  )

  refuses-only : (why : Refused) → answer_of o a ≡ refused why
      → ((why ≡ late cause.TooManyCases) ⊎ ((why ≡ late cause.NoSuchReport) ⊎ (why ≡ late cause.OutputFull))) × Zero o a
  unfolding events_ordered attributes_ordered bytes_ordered
  refuses-only why e =
      let h = by-refused many more room sizes why (sym outcome-is ∙ e) in
      let zero : (k : ℕ) (f : List ℕ) → left_for (order_answer o a.events a.attributes a.bytes) k f ≡ zeros k = λ k f. ap (λ (x : Answer Sizes). left_for x k f) answer-is ∙ h.1 k f in (
        h.0,
        record {
          events = zero a.events (ordered_table o).events;
          attributes = zero a.attributes (ordered_table o).attributes;
          bytes = zero a.bytes (ordered_table o).bytes;
        },
      )

  -- ---- B
  module _ (n : Sizes) (e : answer_of o a ≡ accepted n) where
    tests : (many ≡ false) × (more ≡ false) × (room ≡ true) × (sizes ≡ n)
    tests = by-given many more room sizes n (sym outcome-is ∙ e)

    few : o.cases ≤ most_cases
    few = ltb-false most_cases o.cases tests.0

    within : stated o ≤ o.cases
    within = ltb-false o.cases (stated o) tests.1

    abbrev t : Table
    t = own_table (rehearsal o)

    fitting : fits (laid_out (written (rehearsal o))) a.events a.attributes a.bytes ≡ true
    fitting = sym same-room ∙ tests.2

    abbrev events_fit : Bool
    events_fit = leb (length t.events) (min a.events (most_entries * 5))

    abbrev attributes_fit : Bool
    attributes_fit = leb (length t.attributes) (min a.attributes (most_entries * 5))

    abbrev bytes_fit : Bool
    bytes_fit = leb (length t.source) (min a.bytes most_bytes)

    given : order_answer o a.events a.attributes a.bytes ≡ gives n
    given =
        answer-is
        ∙ ap (λ (b : Bool). chosen b more room sizes) tests.0
        ∙ ap (λ (b : Bool). chosen false b room sizes) tests.1
        ∙ ap (λ (b : Bool). chosen false false b sizes) tests.2
        ∙ ap gives tests.3

    events-five : n.events * 5 ≡ length t.events
    unfolding ordered_table
    events-five = ap (λ (s : Sizes). s.events * 5) (sym tests.3) ∙ words-five (written (rehearsal o))

    attributes-in_fives : n.attributes * 5 ≡ length t.attributes
    unfolding ordered_table
    attributes-in_fives = ap (λ (s : Sizes). s.attributes * 5) (sym tests.3) ∙ attributes-five (written (rehearsal o))

    bytes-all : n.bytes ≡ length t.source
    unfolding ordered_table
    bytes-all = ap (λ (s : Sizes). s.bytes) (sym tests.3)

    events-used : (take (n.events * 5) (event_area o a) ≡ t.events) × (event_area o a ≡ t.events ++ zeros (a.events - n.events * 5))
    unfolding events_ordered ordered_table
    events-used =
        let h = leb-true (length t.events) (min a.events (most_entries * 5)) (and_left events_fit (attributes_fit && bytes_fit) fitting) in
        used (order_answer o a.events a.attributes a.bytes) n a.events t.events (n.events * 5) given (omega arith) events-five

    attributes-used : (take (n.attributes * 5) (attribute_area o a) ≡ t.attributes) × (attribute_area o a ≡ t.attributes ++ zeros (a.attributes - n.attributes * 5))
    unfolding attributes_ordered ordered_table
    attributes-used =
        let h = leb-true (length t.attributes) (min a.attributes (most_entries * 5)) (and_left attributes_fit bytes_fit (and_right events_fit (attributes_fit && bytes_fit) fitting)) in
        used (order_answer o a.events a.attributes a.bytes) n a.attributes t.attributes (n.attributes * 5) given (omega arith) attributes-in_fives

    bytes-used : (take n.bytes (byte_area o a) ≡ t.source) × (byte_area o a ≡ t.source ++ zeros (a.bytes - n.bytes))
    unfolding bytes_ordered ordered_table
    bytes-used =
        let h = leb-true (length t.source) (min a.bytes most_bytes) (and_right attributes_fit bytes_fit (and_right events_fit (attributes_fit && bytes_fit) fitting)) in
        used (order_answer o a.events a.attributes a.bytes) n a.bytes t.source n.bytes given (omega arith) bytes-all

    own-table : in_use o a n ≡ t
    own-table =
        let p = events-used.0 in
        let q = attributes-used.0 in
        let r = bytes-used.0 in
        λ i. record { events = p i; attributes = q i; source = r i }

    holds-own : Holds o a n
    holds-own =
        record {
          table = own-table;
          events = events-used.1 ∙ ap (λ (l : List ℕ). l ++ zeros (a.events - n.events * 5)) (sym events-used.0);
          attributes = attributes-used.1 ∙ ap (λ (l : List ℕ). l ++ zeros (a.attributes - n.attributes * 5)) (sym attributes-used.0);
          bytes = bytes-used.1 ∙ ap (λ (l : List ℕ). l ++ zeros (a.bytes - n.bytes)) (sym bytes-used.0);
        }

    -- ---- C
    reads-own : (output : ℕ) → answer_to t (limits output) ≡ accepted (rehearsal o)
    reads-own output = own-answer (rehearsal o) (order-plain o few within) (order-sound o few within) (order-rows o few within) output

    on-areas : (output : ℕ) → answer_to (in_use o a n) (limits output) ≡ accepted (rehearsal o)
    on-areas output = ap (λ (u : Table). answer_to u (limits output)) own-table ∙ reads-own output

    -- ---- D
    module _ (b : Areas) (r : Report) (d : answer_to (in_use o a n) b ≡ accepted r) where
      is-report : (q : Report) (c : Areas) → answer_to (in_use o a n) c ≡ accepted q → IsReport (in_use o a n) q
      is-report q c x = (demand_2.accepts_only (in_use o a n) c q x).1

      same-report : (q : Report) → IsReport (in_use o a n) q → q ≡ r
      same-report q x = let y = is-report r b d in cc

      ruled : Ruled (shown.cases_of r) (own_statuses (public (events_of (in_use o a n))))
      ruled =
          let l = demand_3.listed (in_use o a n) b (ap is_accepted d) in
          rw (sym (same-report l.report l.read)) l.ruled

      counted-so : Counted o (in_use o a n) r
      counted-so =
          let e = same-report (rehearsal o) (is-report (rehearsal o) (limits 0) (on-areas 0)) in
          record { numbers = rw (sym e) (own-numbers o within); rest = rw (sym e) (own-rest o within); ruled = ruled }

    -- ---- E
    listed-so : (output : ℕ) → length (render (rehearsal o)) ≤ output → listing (in_use o a n) (limits output) ≡ render (rehearsal o)
    listed-so output h =
        ap (λ (u : Table). listing u (limits output)) own-table
        ∙ own-listing (rehearsal o) (order-plain o few within) (order-sound o few within) (order-rows o few within) output h

no-report : (o : Order) → (o.cases < stated o) ↔ (¬ ((r : Report) × Numbers o r))
no-report o = (λ h x. let y = numbers-within o x.0 x.1 in omega arith, λ f. go f (dec_le (stated o) o.cases))
  where
    go : ¬ ((r : Report) × Numbers o r) → Dec (stated o ≤ o.cases) → o.cases < stated o
    go f (yes h) = absurd (f (rehearsal o, own-numbers o h))
    go f (no h) = omega arith

pub ordering : Ordering
ordering =
    record {
      twenty_three = exactly-23;
      twenty_four = exactly-24;
      no_report = no-report;
      sixteen = exactly-16;
      enough = order-fits;
      refuses_only = refuses-only;
      own = holds-own;
      on_lists = λ o m h. demand_2.on_lists (rehearsal o) (order-sound o m h) (order-plain o m h);
      on_areas = λ o a n output e. on-areas o a n e output;
      counted = λ o a n b r e d. counted-so o a n e b r d;
      listed = λ o a n output e. listed-so o a n e output;
    }
