-- What going along the records finds is what the definition says of the report's moments. Assumes nothing.
use Prim.Native.Nat.{ℕ, ◌+◌, ◌*◌, ◌≤◌, ◌<◌}
use mathlib.Core.Path.{◌≡◌, refl, sym, ap, ◌∙◌}
use mathlib.Core.List.{List, [], ◌∷◌}
use mathlib.Core.Bool.{Bool, true, false, cond, ◌&&◌, and-eq-true_iff}
use borrow.Author.Tests.{eqb-true}
use lib.Dec.{ltb}
use lib.ListN.{get_or}
use Rattle.tree_layout.specs.of_timestamp.declared.Moment.{Moment}
use Rattle.tree_layout.specs.of_timestamp.Timestamp.{in_range}
use Rattle.tree_layout.proofs.of_timestamp.Ranges.{range-facts}
use Rattle.start_ends.specs.of_instant.Instant.{instant_of}
use Rattle.tree_layout.specs.of_tree_record.Bits as bit
use Rattle.tree_layout.specs.of_tree_record.Words as word
use Rattle.tree_layout.specs.of_tree_report.Fields.{kind_of, is_case, has_bit, timestamp, moment_of}
use Rattle.tree_layout.specs.of_tree_report.Layout.{zero_at, good_record, all_good}
use Rattle.tree_layout.specs.of_tree_report.inside.Parts.{slot, text_slot, moment_slot, time_slot, only_bits, case_bits, good_common, good_outputs, good_case}
use Rattle.tree_layout.proofs.of_tree_report.ByTable as table
use Rattle.start_ends.specs.of_tree_stamp.Stamp.{cut_moment}
use Rattle.start_ends.proofs.of_tree_stamp.Layouts.{moment-own}
use Rattle.start_ends.specs.of_span.inside.Span.{sooner}
use Rattle.start_ends.proofs.of_span.Numbers.{as_number, as-seconds, as_nanos}
use Rattle.start_ends.specs.declared.Ends.{Ends}
use Rattle.std.specs.Prelude.{Option, Some}
use Rattle.start_ends.specs.inside.Ends.{start_of, no_ends, with_start, with_record, ends_from}
use Rattle.starts.specs.Starts.{nanos_to, is_earlier, is_later, first_by, earliest, latest, behind, between, starts_in}
use Rattle.starts.specs.FirstLast.{All}
use Rattle.starts.specs.inside.Extents.{extent_of, starts_by}
use Rattle.starts.proofs.Order.{moments_in}
use Rattle.starts.proofs.Winning.{in_order}
use Rattle.starts.proofs.Walking.{ends_next, ends-over}

abbrev Small : Moment → Type 0
Small m = m.nanos < 1000000000

-- ---- a case of a layout
case-good : (texts r : List ℕ) → get_or r 0 0 ≡ 3 → good_record texts r ≡ true → good_case texts r ≡ true
unfolding good_record good_case
case-good texts r k g = rw k at g

common-good : (texts r : List ℕ) → good_case texts r ≡ true → good_common texts r ≡ true
common-good texts r h =
    let g = sym (table.case-good texts r) ∙ h in
    let rest = good_outputs texts r && (text_slot texts r bit.classname word.classname && (slot (has_bit bit.assertions r) true (zero_at r word.assertions 2) && zero_at r 22 10)) in
    let p = ((and-eq-true_iff (only_bits case_bits r) (has_bit bit.name r && (good_common texts r && rest))).0 g).1 in
    let q = ((and-eq-true_iff (has_bit bit.name r) (good_common texts r && rest)).0 p).1 in
    ((and-eq-true_iff (good_common texts r) rest).0 q).0

moment-good : (texts r : List ℕ) → good_common texts r ≡ true → has_bit bit.timestamp r ≡ true → in_range (moment_of r) ≡ true
unfolding good_common
moment-good texts r g h =
    let p = ((and-eq-true_iff (text_slot texts r bit.name word.name) (moment_slot r && time_slot r)).0 g).1 in
    let q = ((and-eq-true_iff (moment_slot r) (time_slot r)).0 p).0 in
    sym (slot-in (has_bit bit.timestamp r) (in_range (moment_of r)) (zero_at r word.timestamp 8) h) ∙ q
  where
    slot-in : (b x y : Bool) → b ≡ true → cond b x y ≡ x
    slot-in b x y e = rw e refl

-- ---- along moments
abbrev starts_fold : Option Ends → List Moment → Option Ends
starts_fold e [] = e
starts_fold e (m ∷ ms) = starts_fold (with_start e (start_of m)) ms

with-moment : (e : Option Ends) (r : List ℕ) → is_case r ≡ true → has_bit bit.timestamp r ≡ true → with_record start_of e r ≡ with_start e (start_of (cut_moment r))
unfolding with_record
with-moment e r c h = rw (c, h) refl

with-missing : (e : Option Ends) (r : List ℕ) → is_case r ≡ true → has_bit bit.timestamp r ≡ false → with_record start_of e r ≡ e
unfolding with_record
with-missing e r c h = rw (c, h) refl

with-other : (e : Option Ends) (r : List ℕ) → is_case r ≡ false → with_record start_of e r ≡ e
unfolding with_record
with-other e r c = rw c refl

module _ (texts : List ℕ) where
  range-of : (r : List ℕ) → good_record texts r ≡ true → is_case r ≡ true → has_bit bit.timestamp r ≡ true → in_range (moment_of r) ≡ true
  range-of r g c h = moment-good texts r (common-good texts r (case-good texts r (eqb-true (kind_of r) 3 c) g)) h

  pub along : (e : Option Ends) (rs : List (List ℕ)) → all_good texts rs ≡ true → ends_from start_of e rs ≡ starts_fold e (moments_in rs)
  along e [] g = ends-over start_of e
  along e (r ∷ rs) g =
      let p = (and-eq-true_iff (good_record texts r) (all_good texts rs)).0 g in
      ends_next start_of e r rs ∙ go (is_case r) refl (has_bit bit.timestamp r) refl p.0 (λ f. along f rs p.1)
    where
      go : (b : Bool) → is_case r ≡ b → (t : Bool) → has_bit bit.timestamp r ≡ t → good_record texts r ≡ true
          → ((f : Option Ends) → ends_from start_of f rs ≡ starts_fold f (moments_in rs))
          → ends_from start_of (with_record start_of e r) rs ≡ starts_fold e (cond b (behind (timestamp r) (moments_in rs)) (moments_in rs))
      go true c true h q k =
          ap (λ (f : Option Ends). ends_from start_of f rs) (with-moment e r c h ∙ ap (λ (m : Moment). with_start e (start_of m)) (moment-own r (range-of r q c h)))
          ∙ k (with_start e (start_of (moment_of r))) ∙ rw h refl
      go true c false h q k = ap (λ (f : Option Ends). ends_from start_of f rs) (with-missing e r c h) ∙ k e ∙ rw h refl
      go false c t h q k = ap (λ (f : Option Ends). ends_from start_of f rs) (with-other e r c) ∙ k e

  pub all_small : (rs : List (List ℕ)) → all_good texts rs ≡ true → All Small (moments_in rs)
  all_small [] g = tt
  all_small (r ∷ rs) g =
      let p = (and-eq-true_iff (good_record texts r) (all_good texts rs)).0 g in
      go (is_case r) refl (has_bit bit.timestamp r) refl p.0 (all_small rs p.1)
    where
      go : (b : Bool) → is_case r ≡ b → (t : Bool) → has_bit bit.timestamp r ≡ t → good_record texts r ≡ true → All Small (moments_in rs)
          → All Small (cond b (behind (timestamp r) (moments_in rs)) (moments_in rs))
      go true c true h q k = rw h ((range-facts (moment_of r) (range-of r q c h)).nanos-below, k)
      go true c false h q k = rw h k
      go false c t h q k = k

-- ---- two moments as numbers
instant_nanos : (m : Moment) → (instant_of m).nanos ≡ m.nanos
unfolding instant_of
instant_nanos m = refl

number_of : (m : Moment) → nanos_to m ≡ (instant_of m).seconds * 1000000000 + (instant_of m).nanos
unfolding nanos_to
number_of m = refl

module _ (x y : Moment) (a : Small x) (b : Small y) where
  p : (instant_of x).nanos < 1000000000
  p = rw (instant_nanos x) a

  q : (instant_of y).nanos < 1000000000
  q = rw (instant_nanos y) b

  sooner-number : sooner (instant_of x) (instant_of y) ≡ ltb (nanos_to x) (nanos_to y)
  unfolding nanos_to
  sooner-number = as_number (instant_of x).seconds (instant_of x).nanos (instant_of y).seconds (instant_of y).nanos p q

  extent-number : nanos_to x ≤ nanos_to y → extent_of (start_of x) (start_of y) ≡ between x y
  unfolding nanos_to
  extent-number h =
      rw (
        as-seconds (instant_of x).seconds (instant_of x).nanos (instant_of y).seconds (instant_of y).nanos p q h,
        as_nanos (instant_of x).seconds (instant_of x).nanos (instant_of y).seconds (instant_of y).nanos p q h,
      ) refl

chosen : (b : Bool) (x y : Moment) → cond b (start_of x) (start_of y) ≡ start_of (cond b x y)
chosen true x y = refl
chosen false x y = refl

small-chosen : (b : Bool) (x y : Moment) → Small x → Small y → Small (cond b x y)
small-chosen true x y p q = p
small-chosen false x y p q = q

abbrev ends_at : Moment → Moment → Option Ends
ends_at a b = Some (record { first = start_of a; last = start_of b })

with-next : (a b x : Moment) → Small a → Small b → Small x → with_start (ends_at a b) (start_of x) ≡ ends_at (cond (ltb (nanos_to x) (nanos_to a)) x a) (cond (ltb (nanos_to b) (nanos_to x)) x b)
unfolding with_start
with-next a b x p q r =
    rw (sooner-number x a r p, sooner-number b x q r, chosen (ltb (nanos_to x) (nanos_to a)) x a, chosen (ltb (nanos_to b) (nanos_to x)) x b) refl

with_first : (m : Moment) → with_start no_ends (start_of m) ≡ ends_at m m
unfolding with_start
with_first m = refl

fold-ends : (a b : Moment) (ms : List Moment) → Small a → Small b → All Small ms → starts_fold (ends_at a b) ms ≡ ends_at (earliest a ms) (latest b ms)
fold-ends a b [] p q r = refl
fold-ends a b (x ∷ xs) p q r =
    ap (λ (e : Option Ends). starts_fold e xs) (with-next a b x p q r.0)
    ∙ fold-ends (cond (ltb (nanos_to x) (nanos_to a)) x a) (cond (ltb (nanos_to b) (nanos_to x)) x b) xs
    (small-chosen (ltb (nanos_to x) (nanos_to a)) x a r.0 p) (small-chosen (ltb (nanos_to b) (nanos_to x)) x b r.0 q) r.1

small-first : (wins : Moment → Moment → Bool) (m : Moment) (ms : List Moment) → Small m → All Small ms → Small (first_by wins m ms)
small-first wins m [] p r = p
small-first wins m (x ∷ xs) p r = small-first wins (cond (wins x m) x m) xs (small-chosen (wins x m) x m r.0 p) r.1

pub fold-starts : (ms : List Moment) → All Small ms → starts_by (starts_fold no_ends ms) ≡ starts_in ms
unfolding starts_in
fold-starts [] r = refl
fold-starts (m ∷ ms) r =
    ap (λ (e : Option Ends). starts_by (starts_fold e ms)) (with_first m)
    ∙ ap starts_by (fold-ends m m ms r.0 r.0 r.1)
    ∙ extent-number (earliest m ms) (latest m ms) (small-first is_earlier m ms r.0 r.1) (small-first is_later m ms r.0 r.1) (in_order m ms)
