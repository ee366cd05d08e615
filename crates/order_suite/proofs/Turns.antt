-- A loop that puts cases of one kind. Assumes nothing.
use Prim.Native.Nat.{ℕ, suc, ◌+◌, ◌-◌, ◌≤◌, ◌<◌}
use mathlib.Core.Path.{◌≡◌, refl, ap, ◌∙◌}
use native.Mathlib.Omega.{arith}
use lib.ListN.{length, replicate}
use Rattle.write_document.specs.of_write_table.inside.Putting.{Areas, Wrote}
use Rattle.write_document.proofs.of_write_table.Writing.{Coming, coming-start, coming_on, coming-wrote, coming-done}
use Rattle.order_case.specs.of_order_report.declared.Kind.{Kind}
use Rattle.order_case.specs.of_order_report.inside.Items.{case_items, cases_items}
use Rattle.order_case.proofs.of_order_report.Items.{no_cases, next-case}

-- of the cases numbered from `from` up to `to` those before i are put: s₀ is what was kept at the start
pub record Turning (k : Kind) (from to : ℕ) (s₀ s : Areas) (i : ℕ) : Type 0 where
  pub same_events : length s.event_area ≡ length s₀.event_area
  pub same_attributes : length s.attribute_area ≡ length s₀.attribute_area
  pub same_bytes : length s.byte_area ≡ length s₀.byte_area
  pub coming : Coming s₀ (cases_items from (replicate (to - from) k)) s (cases_items i (replicate (to - i) k))

pub turning-start : (k : Kind) (from to : ℕ) (s : Areas) → Turning k from to s s from
turning-start k from to s = record { same_events = refl; same_attributes = refl; same_bytes = refl; coming = coming-start s (cases_items from (replicate (to - from) k)) }

module _ {k : Kind} {from to : ℕ} {s₀ s : Areas} {i : ℕ} (t : Turning k from to s₀ s i) where
  pub turning-done : to ≤ i → Wrote s₀ (cases_items from (replicate (to - from) k)) s
  turning-done h =
      let z : to - i ≡ 0 = omega arith in
      coming-done (coming_on t.coming (ap (λ (n : ℕ). cases_items i (replicate n k)) z ∙ no_cases i))

  pub turning-next : {s' : Areas} → i < to → Wrote s (case_items i k) s' → length s'.event_area ≡ length s.event_area → length s'.attribute_area ≡ length s.attribute_area
      → length s'.byte_area ≡ length s.byte_area → Turning k from to s₀ s' (i + 1)
  turning-next h w x y z =
      let e : to - i ≡ suc (to - (i + 1)) = omega arith in
      record {
        same_events = x ∙ t.same_events;
        same_attributes = y ∙ t.same_attributes;
        same_bytes = z ∙ t.same_bytes;
        coming = coming-wrote (coming_on t.coming (ap (λ (n : ℕ). cases_items i (replicate n k)) e ∙ next-case i k (replicate (to - (i + 1)) k))) w;
      }
