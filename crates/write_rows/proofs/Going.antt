-- A loop along the records that puts what is written of them. Assumes nothing.
use Prim.Native.Nat.{ℕ, ◌+◌, ◌-◌, ◌≤◌}
use mathlib.Core.Path.{◌≡◌, refl, sym, ap, ◌∙◌}
use mathlib.Core.List.{List, [], ◌∷◌, ◌++◌}
use mathlib.Core.Bool.{Bool, true, false, not, ◌&&◌, and-eq-true_iff, true≢false}
use native.Mathlib.Omega.{arith}
use lib.ListN.{length, take, drop}
use Rattle.std.specs.Prelude.{Option, Some, None}
use Rattle.list_sums.specs.of_list_text.inside.Behind.{is_full}
use Rattle.list_sums.specs.inside.Rows.{stands, records_in}
use Rattle.list_sums.proofs.Records.{stands-room, records-here, records-over}
use Rattle.write_marks.specs.of_write_table.Laid.{Item}
use Rattle.write_marks.specs.of_write_table.inside.Putting.{Areas, Wrote}
use Rattle.write_marks.proofs.of_write_table.Writing.{Coming, coming-start, coming_on, coming-wrote, coming-done, coming-shut}

-- the loop goes on, and a record stands there
pub goes_on : (a b : Bool) {x : Bool} → (a && b) ≡ true → b ≡ x → x ≡ true
goes_on a b e f = sym f ∙ ((and-eq-true_iff a b).0 e).1

full-mark : (m : Option ℕ) → not (is_full m) ≡ false → m ≡ None
full-mark (Some n) e = absurd (true≢false e)
full-mark None e = refl

module _ (shown : List (List ℕ) → List Item) where
  -- the records before `at` are put: s₀ is what was kept at the start
  pub record Going (s₀ : Areas) (words : List ℕ) (s : Areas) (at : ℕ) : Type 0 where
    pub fits : at ≤ length words
    pub same_events : length s.event_area ≡ length s₀.event_area
    pub same_attributes : length s.attribute_area ≡ length s₀.attribute_area
    pub same_bytes : length s.byte_area ≡ length s₀.byte_area
    pub coming : Coming s₀ (shown (records_in words)) s (shown (records_in (drop at words)))

  -- before the first record everything is to come
  pub going_start : (s : Areas) (words : List ℕ) → Going s words s 0
  going_start s words = record { fits = omega arith; same_events = refl; same_attributes = refl; same_bytes = refl; coming = coming-start s (shown (records_in words)) }

  module _ {s₀ : Areas} {words : List ℕ} {s : Areas} {at : ℕ} (g : Going s₀ words s at) where
    -- the loop's condition failed: an area is full or no record is left, and either way all was put
    pub going-stop : (a b : Bool) → shown [] ≡ [] → (a && b) ≡ false → a ≡ not (is_full s.mark) → b ≡ stands (take (length words - at) (drop at words)) → Wrote s₀ (shown (records_in words)) s
    going-stop true b none e p q = coming-done (coming_on g.coming (ap shown (records-over words at (sym q ∙ e)) ∙ none))
    going-stop false b none e p q = coming-shut g.coming (full-mark s.mark (sym p))

    module _ (t : stands (take (length words - at) (drop at words)) ≡ true) where
      abbrev here : List ℕ
      here = take (at + 32 - at) (drop at words)

      abbrev rest : List (List ℕ)
      rest = records_in (drop (at + 32) words)

      next : shown (records_in (drop at words)) ≡ shown (here ∷ rest)
      next = ap shown (records-here words at t)

      -- the loop was left at a record from which on nothing is written: all was put
      pub going_end : shown (here ∷ rest) ≡ [] → Wrote s₀ (shown (records_in words)) s
      going_end e = coming-done (coming_on g.coming (next ∙ e))

      -- a record of which nothing is written is passed over
      pub going-pass : shown (here ∷ rest) ≡ shown rest → Going s₀ words s (at + 32)
      going-pass e =
          record { fits = stands-room words at t; same_events = g.same_events; same_attributes = g.same_attributes; same_bytes = g.same_bytes; coming = coming_on g.coming (next ∙ e) }

      -- a record of which f is written, and a call that put f: the loop stands one record further
      pub going-wrote : {s' : Areas} (f : List Item) → shown (here ∷ rest) ≡ f ++ shown rest → Wrote s f s' → length s'.event_area ≡ length s.event_area
          → length s'.attribute_area ≡ length s.attribute_area → length s'.byte_area ≡ length s.byte_area → Going s₀ words s' (at + 32)
      going-wrote f e w x y z =
          record {
            fits = stands-room words at t;
            same_events = x ∙ g.same_events;
            same_attributes = y ∙ g.same_attributes;
            same_bytes = z ∙ g.same_bytes;
            coming = coming-wrote (coming_on g.coming (next ∙ e)) w;
          }
