-- The answer to an order and the areas that it leaves. Assumes nothing.
use Prim.Native.Nat.{ℕ}
use mathlib.Core.Path.{◌≡◌, refl, sym, ap, ◌∙◌}
use mathlib.Core.List.{List}
use mathlib.Core.Bool.{Bool, true, false}
use lib.Dec.{eqb, ltb}
use Rattle.std.specs.Prelude.{Option, Some, None}
use Rattle.writer.specs.of_refusal.Refusal.{refused, late, no_refusal}
use Rattle.writer.specs.of_refusal.declared.Cause.TheVariants as cause
use Rattle.writer.specs.of_refusal.declared.Refusal.{Refusal}
use Rattle.writer.specs.of_refusal.declared.Verdict.TheVariants.{Accepted}
use Rattle.writer.specs.of_area.Answer.{Answer, gives, refuses}
use Rattle.writer.specs.of_area.Area.{zeros}
use Rattle.writer.specs.of_table.Event.{Event}
use Rattle.writer.specs.of_write_report.Written.{written}
use Rattle.writer.specs.of_write_table.Laid.{items_of, fits}
use Rattle.writer.specs.of_write_table.inside.Putting.{Held, Spelling, Kept, none, some, Areas, held_by_of, held, fresh, Wrote, put_all}
use Rattle.writer.proofs.of_write_table.Rooms.{never-xml}
use Rattle.writer.proofs.of_write_table.Laying.{holding, put_some, none-fits}
use Rattle.writer.specs.of_write_marks.inside.Kept.{empty, kept}
use Rattle.writer.specs.of_write_answer.Answer.{Sizes, outcome_of, left_for}
use Rattle.writer.specs.declared.Writing.{Writing}
use Rattle.writer.specs.Answer.{writing_from}
use Rattle.order_suite.specs.of_order_report.declared.Order.{Order}
use Rattle.order_suite.specs.of_order_report.Rehearsal.{stated, rehearsal}
use Rattle.order_suite.specs.of_order_report.Answer.{most_cases, ordered_table, order_answer, ordered, events_ordered, attributes_ordered, bytes_ordered}

-- the numbers of what is held
abbrev sizes : Held → Sizes
sizes h = record { events = h.events; attributes = h.attributes; bytes = h.bytes }

module _ (o : Order) (e a b : ℕ) where
  abbrev pub Whole : Writing → List ℕ → List ℕ → List ℕ → Type 0
  Whole r ev at by =
      (r ≡ writing_from (ordered o e a b)) × ((ev ≡ events_ordered o e a b) × ((at ≡ attributes_ordered o e a b) × (by ≡ bytes_ordered o e a b)))

  -- answer and areas together
  whole_from : {r : Writing} {x : Answer Sizes} {ev at by : List ℕ} → r ≡ writing_from (outcome_of x) → x ≡ order_answer o e a b
      → ev ≡ left_for x e (ordered_table o).events → at ≡ left_for x a (ordered_table o).attributes → by ≡ left_for x b (ordered_table o).bytes → Whole r ev at by
  unfolding events_ordered attributes_ordered bytes_ordered
  whole_from q p u v w = (
    q ∙ ap (λ (y : Answer Sizes). writing_from (outcome_of y)) p,
    (
      u ∙ ap (λ (y : Answer Sizes). left_for y e (ordered_table o).events) p,
      (v ∙ ap (λ (y : Answer Sizes). left_for y a (ordered_table o).attributes) p, w ∙ ap (λ (y : Answer Sizes). left_for y b (ordered_table o).bytes) p),
    ),
  )

  -- 23
  pub too_many : {r : Writing} {ev at by : List ℕ} → ltb most_cases o.cases ≡ true → r ≡ writing_from (refused (late cause.TooManyCases)) → ev ≡ zeros e → at ≡ zeros a → by ≡ zeros b
      → Whole r ev at by
  unfolding order_answer
  too_many t q u v w = whole_from {x = refuses cause.TooManyCases} q (rw t refl) u v w

  module _ (m : ltb most_cases o.cases ≡ false) where
    -- 24
    pub no-report : {r : Writing} {ev at by : List ℕ} → ltb o.cases (stated o) ≡ true → r ≡ writing_from (refused (late cause.NoSuchReport)) → ev ≡ zeros e → at ≡ zeros a → by ≡ zeros b
        → Whole r ev at by
    unfolding order_answer
    no-report t q u v w = whole_from {x = refuses cause.NoSuchReport} q (rw (m, t) refl) u v w

    module _ (l : ltb o.cases (stated o) ≡ false) where
      fitting : fits (ordered_table o) e a b ≡ true → gives (sizes (holding (ordered_table o) e a b)) ≡ order_answer o e a b
      unfolding order_answer
      fitting f = rw (m, l, f) refl

      short : fits (ordered_table o) e a b ≡ false → refuses cause.OutputFull ≡ order_answer o e a b
      unfolding order_answer
      short f = rw (m, l, f) refl

      module _ {ev at by : List ℕ} (x : ev ≡ zeros e) (y : at ≡ zeros a) (z : by ≡ zeros b) where
        start : held (kept empty ev at by) ≡ some (fresh e a b)
        start = rw (x, y, z) refl

        abbrev es : List Event
        es = written (rehearsal o)

        module _ {s : Areas} (p : Wrote (kept empty ev at by) (items_of es) s) where
          all-put : held s ≡ put_all (some (fresh e a b)) (items_of es)
          all-put = p.same ∙ ap (λ (k : Kept). put_all k (items_of es)) start

          -- the table was put
          pub whole-put : {f : Refusal} (n : ℕ) → f ≡ no_refusal → s.mark ≡ Some n
              → Whole (record { verdict = Accepted; events = s.events; attributes = s.attributes; bytes = n; refusal = f }) s.event_area s.attribute_area s.byte_area
          unfolding ordered_table
          whole-put {f} n r q = go (eqb s.form 0) refl
            where
              table : Held
              table = record { events = s.events; attributes = s.attributes; bytes = n; event_area = s.event_area; attribute_area = s.attribute_area; byte_area = s.byte_area }

              text : Spelling
              text = record { form = s.form; level = s.level; bytes = n; byte_area = s.byte_area }

              held_by : held s ≡ held_by_of (Some n) s
              held_by = ap (λ (m : Option ℕ). held_by_of m s) q

              whole : (h : Held) → held s ≡ some h
                  → Whole (record { verdict = Accepted; events = h.events; attributes = h.attributes; bytes = h.bytes; refusal = f }) h.event_area h.attribute_area h.byte_area
              whole h q =
                  let g = put_some es e a b h (sym all-put ∙ q) in
                  rw (g.1, r) (whole_from refl (fitting g.0) refl refl refl)

              go : (x : Bool) → eqb s.form 0 ≡ x
                  → Whole (record { verdict = Accepted; events = s.events; attributes = s.attributes; bytes = n; refusal = f }) s.event_area s.attribute_area s.byte_area
              go true y = whole table (held_by ∙ rw y refl)
              go false y = absurd (never-xml (fresh e a b) (items_of es) text (sym all-put ∙ held_by ∙ rw y refl))

          -- 16
          pub short-put : {r : Writing} {ev' at' by' : List ℕ} → s.mark ≡ None → r ≡ writing_from (refused (late cause.OutputFull)) → ev' ≡ zeros e → at' ≡ zeros a → by' ≡ zeros b
              → Whole r ev' at' by'
          unfolding ordered_table
          short-put q t u v w =
              let n : held s ≡ none = ap (λ (m : Option ℕ). held_by_of m s) q in
              whole_from t (short (none-fits es e a b (sym all-put ∙ n))) u v w
