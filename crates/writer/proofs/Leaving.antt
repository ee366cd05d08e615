-- The answer of writing and the areas that it leaves. Assumes nothing.
use Prim.Native.Nat.{ℕ}
use mathlib.Core.Path.{◌≡◌, refl, sym, ap, ◌∙◌}
use mathlib.Core.List.{List}
use mathlib.Core.Bool.{Bool, true, false}
use lib.Dec.{eqb}
use Rattle.std.specs.Prelude.{Option, Some, None}
use Rattle.refusal.specs.declared.Cause.TheVariants as cause
use Rattle.area.specs.Answer.{Answer, gives, refuses}
use Rattle.area.specs.Area.{zeros}
use Rattle.tree_layout.specs.of_tree_report.Layout.{layout}
use Rattle.write_answer.specs.of_write_table.Laid.{Table, items_of, fits}
use Rattle.write_answer.specs.of_write_table.inside.Putting.{Held, Spelling, Kept, none, some, Areas, held_by_of, held, fresh, Wrote, put_all}
use Rattle.write_answer.proofs.of_write_table.Rooms.{never-xml}
use Rattle.write_answer.proofs.of_write_table.Laying.{holding, put_some, none-fits}
use Rattle.write_marks.specs.inside.Kept.{empty, kept}
use Rattle.write_answer.specs.Answer.{Sizes, events_of, table_of, writing_answer, left_for, events_left, attributes_left, bytes_left}

-- the numbers of what is held
abbrev pub sizes : Held → Sizes
sizes h = record { events = h.events; attributes = h.attributes; bytes = h.bytes }

module _ (words text : List ℕ) (e a b : ℕ) where
  -- an answer, and the three areas that go with it
  pub record Left (o : Answer Sizes) (ev at by : List ℕ) : Type 0 where
    pub answer : o ≡ writing_answer words text e a b
    pub events : ev ≡ events_left words text e a b
    pub attributes : at ≡ attributes_left words text e a b
    pub bytes : by ≡ bytes_left words text e a b

  abbrev t : Table
  t = table_of words text

  -- the areas follow from the answer
  left-from : {o : Answer Sizes} {ev at by : List ℕ} → o ≡ writing_answer words text e a b
      → ev ≡ left_for o e t.events → at ≡ left_for o a t.attributes → by ≡ left_for o b t.bytes → Left o ev at by
  unfolding events_left attributes_left bytes_left
  left-from p x y z =
      record {
        answer = p;
        events = x ∙ ap (λ (o : Answer Sizes). left_for o e t.events) p;
        attributes = y ∙ ap (λ (o : Answer Sizes). left_for o a t.attributes) p;
        bytes = z ∙ ap (λ (o : Answer Sizes). left_for o b t.bytes) p;
      }

  -- not a layout
  pub no-writing : {ev at by : List ℕ} → layout words text ≡ false → ev ≡ zeros e → at ≡ zeros a → by ≡ zeros b → Left (refuses cause.NotLayout) ev at by
  unfolding writing_answer
  no-writing l x y z = left-from (rw l refl) x y z

  module _ (l : layout words text ≡ true) where
    fitting : fits t e a b ≡ true → gives (sizes (holding t e a b)) ≡ writing_answer words text e a b
    unfolding writing_answer
    fitting f = rw (l, f) refl

    short : fits t e a b ≡ false → refuses cause.OutputFull ≡ writing_answer words text e a b
    unfolding writing_answer
    short f = rw (l, f) refl

    module _ {ev at by : List ℕ} (x : ev ≡ zeros e) (y : at ≡ zeros a) (z : by ≡ zeros b) where
      start : held (kept empty ev at by) ≡ some (fresh e a b)
      start = rw (x, y, z) refl

      module _ {s : Areas} (p : Wrote (kept empty ev at by) (items_of (events_of words text)) s) where
        all-put : held s ≡ put_all (some (fresh e a b)) (items_of (events_of words text))
        all-put = p.same ∙ ap (λ (k : Kept). put_all k (items_of (events_of words text))) start

        -- the table was put
        pub whole-writing : (n : ℕ) → s.mark ≡ Some n → Left (gives (record { events = s.events; attributes = s.attributes; bytes = n })) s.event_area s.attribute_area s.byte_area
        unfolding table_of
        whole-writing n q = go (eqb s.form 0) refl
          where
            table : Held
            table = record { events = s.events; attributes = s.attributes; bytes = n; event_area = s.event_area; attribute_area = s.attribute_area; byte_area = s.byte_area }

            text' : Spelling
            text' = record { form = s.form; level = s.level; bytes = n; byte_area = s.byte_area }

            whole : (h : Held) → held s ≡ some h → Left (gives (sizes h)) h.event_area h.attribute_area h.byte_area
            whole h q =
                let r = put_some (events_of words text) e a b h (sym all-put ∙ q) in
                rw r.1 (left-from (fitting r.0) refl refl refl)

            go : (x : Bool) → eqb s.form 0 ≡ x → Left (gives (sizes table)) s.event_area s.attribute_area s.byte_area
            go true y = whole table (ap (λ (m : Option ℕ). held_by_of m s) q ∙ rw y refl)
            go false y = absurd (never-xml (fresh e a b) (items_of (events_of words text)) text' (sym all-put ∙ ap (λ (m : Option ℕ). held_by_of m s) q ∙ rw y refl))

        -- it didn't fit
        pub short-writing : {ev' at' by' : List ℕ} → s.mark ≡ None → ev' ≡ zeros e → at' ≡ zeros a → by' ≡ zeros b → Left (refuses cause.OutputFull) ev' at' by'
        unfolding table_of
        short-writing q u v w =
            let n : held s ≡ none = ap (λ (m : Option ℕ). held_by_of m s) q in
            left-from (short (none-fits (events_of words text) e a b (sym all-put ∙ n))) u v w
