-- Each test of a merge decides what the rules name. Assumes nothing.
use Prim.Native.Nat.{ℕ, ◌+◌, ◌/◌, ◌≤◌, ◌<◌}
use mathlib.Core.Path.{◌≡◌, refl, ap}
use mathlib.Core.Bool.{Bool, true, false, cond, ◌&&◌, true≢false, false≢true}
use mathlib.Core.List.{List}
use mathlib.Core.Logic.{◌⊎◌, inl, inr, ⊎_elim, ◌↔◌}
use mathlib.Core.Option.{Option, none, some}
use native.Mathlib.Omega.{arith}
use borrow.Author.Tests.{leb-true, leb-false, ltb-true, ltb-false}
use lib.Dec.{leb}
use Rattle.tree_merge.specs.of_area.Answer.{Answer, gives, refuses}
use Rattle.tree_merge.specs.of_area.Area.{zeros}
use Rattle.tree_merge.specs.of_refusal.Refusal.{number, Refused, Outcome, accepted, refused, late}
use Rattle.tree_merge.specs.of_refusal.declared.Cause.TheVariants as cause
use Rattle.tree_merge.specs.of_schema.Schema.{time, may}
use Rattle.tree_merge.specs.of_schema.Texts.{sound_slot}
use Rattle.tree_merge.specs.of_tree_counts.Counts.{is_count}
use Rattle.tree_merge.specs.of_tree_report.Report.{Duration, Report}
use Rattle.tree_merge.proofs.of_tree_report.EncodeLists.{and_left, and_right}
use Rattle.merge_listing.specs.Told.{or_nothing}
use Rattle.tree_merge.specs.Merged.{either_by, nanos_in, added_time, merged_report}
use Rattle.tree_merge.specs.Answer.{if_any, is_time, counts_fit, time_fits, outcome_of, left_for}
use Rattle.merge_claims.specs.Needs.{Past, CountsPast, nanos_or, TimePast}
use Rattle.merge_claims.specs.Merging.{time_limit}
use Rattle.merge_claims.specs.inside.Fair.{Fair}

-- the test holds exactly where P doesn't
pub record Decides (b : Bool) (P : Type 0) : Type 0 where
  pub no : b ≡ true → P → ⊥
  pub yes : b ≡ false → P

decides_and : {P Q : Type 0} (x y : Bool) → Decides x P → Decides y Q → Decides (x && y) (P ⊎ Q)
decides_and true true d e = record { no = λ h p. ⊎_elim (d.no refl) (e.no refl) p; yes = λ h. absurd (true≢false h) }
decides_and true false d e = record { no = λ h p. absurd (false≢true h); yes = λ h. inr (e.yes refl) }
decides_and false y d e = record { no = λ h p. absurd (false≢true h); yes = λ h. inl (d.yes refl) }

pub decides-leb : (x y z : ℕ) → x ≡ z → Decides (leb x y) (y < z)
decides-leb x y z e = record { no = λ h p. let l = leb-true x y h in omega arith; yes = λ h. let l = leb-false x y h in omega arith }

-- ---- 17
decides-sum : (m n : ℕ) → Decides (is_count (m + n)) (Past m n)
decides-sum m n = decides-leb (m + n) 18446744073709551615 (m + n) refl

decides-either : (x y : Option ℕ) → Decides (if_any is_count (either_by ◌+◌ x y)) (Past (or_nothing x) (or_nothing y))
decides-either none none = record { no = λ h p. omega arith; yes = λ h. absurd (true≢false h) }
decides-either none (some n) = decides-leb n 18446744073709551615 (0 + n) (omega arith)
decides-either (some m) none = decides-leb m 18446744073709551615 (m + 0) (omega arith)
decides-either (some m) (some n) = decides-sum m n

pub decides-counts : (p q : Report) → Decides (counts_fit (merged_report p q)) (CountsPast p q)
unfolding merged_report
decides-counts p q =
    let c = p.counts in
    let d = q.counts in
    let any = if_any is_count (either_by ◌+◌ c.disabled d.disabled) in
    let skipped = is_count (c.skipped + d.skipped) in
    let errors = is_count (c.errors + d.errors) in
    let failures = is_count (c.failures + d.failures) in
    decides_and (is_count (c.tests + d.tests)) (failures && (errors && (skipped && any))) (decides-sum c.tests d.tests)
    (decides_and failures (errors && (skipped && any)) (decides-sum c.failures d.failures)
    (decides_and errors (skipped && any) (decides-sum c.errors d.errors)
    (decides_and skipped any (decides-sum c.skipped d.skipped) (decides-either c.disabled d.disabled))))

-- ---- 22
module _ (d : Duration) (e : sound_slot (may 4) time (some d) ≡ true) where
  seconds-within : d.seconds ≤ 8388607
  seconds-within = leb-true d.seconds 8388607 (and_left (leb d.seconds 8388607) (leb d.nanos 999999999) e)

  nanos-within : d.nanos ≤ 999999999
  nanos-within = leb-true d.nanos 999999999 (and_right (leb d.seconds 8388607) (leb d.nanos 999999999) e)

  alone : (n : ℕ) → n ≡ nanos_in d → Decides (is_time d) (8388608000000000 ≤ n)
  alone n q = record {
    no = λ h p. let a = seconds-within in let b = nanos-within in omega arith;
    yes = λ h. let a = seconds-within in let b = ltb-false d.seconds 8388608 h in absurd (omega arith);
  }

decides-times : (x y : Option Duration) → sound_slot (may 4) time x ≡ true → sound_slot (may 4) time y ≡ true
    → Decides (if_any is_time (either_by added_time x y)) (8388608000000000 ≤ nanos_or x + nanos_or y)
decides-times none none e f = record { no = λ h p. omega arith; yes = λ h. absurd (true≢false h) }
decides-times none (some b) e f = alone b f (0 + nanos_in b) (omega arith)
decides-times (some a) none e f = alone a e (nanos_in a + 0) (omega arith)
decides-times (some a) (some b) e f =
    let n : ℕ = nanos_in a + nanos_in b in
    record {
      no = λ h p. let l = ltb-true (n / 1000000000) 8388608 h in omega arith;
      yes = λ h. let l = ltb-false (n / 1000000000) 8388608 h in omega arith;
    }

pub decides-time : (p q : Report) → Fair p → Fair q → Decides (time_fits (merged_report p q)) (TimePast p q)
unfolding merged_report
decides-time p q a b = decides-times p.time q.time a.time b.time

-- ---- the answer by its tests
abbrev pub limited_by : Bool → Bool → Bool → Bool → Answer (Unit {0})
limited_by c t r b =
    cond c (cond t (cond r (cond b (gives tt) (refuses cause.TextFull)) (refuses cause.RecordsSpent)) (refuses time_limit)) (refuses cause.CountLimit)

abbrev pub chosen : Bool → Bool → Answer (Unit {0}) → Answer (Unit {0})
chosen x y a = cond x (cond y a (refuses cause.NotLayout)) (refuses cause.NotLayout)

-- 0 for what isn't refused
abbrev code : Outcome (Unit {0}) → ℕ
code (accepted n) = 0
code (refused why) = number why.cause

pub exactly-17 : {P : Type 0} (c t r b : Bool) → Decides c P → (outcome_of (limited_by c t r b) ≡ refused (late cause.CountLimit)) ↔ P
exactly-17 false t r b d = (λ e. d.yes refl, λ p. refl)
exactly-17 true false r b d = (λ e. let z = ap code e in absurd (omega arith), λ p. absurd (d.no refl p))
exactly-17 true true false b d = (λ e. let z = ap code e in absurd (omega arith), λ p. absurd (d.no refl p))
exactly-17 true true true false d = (λ e. let z = ap code e in absurd (omega arith), λ p. absurd (d.no refl p))
exactly-17 true true true true d = (λ e. let z = ap code e in absurd (omega arith), λ p. absurd (d.no refl p))

pub exactly-22 : {P Q : Type 0} (c t r b : Bool) → Decides c P → Decides t Q → (outcome_of (limited_by c t r b) ≡ refused (late time_limit)) ↔ ((¬ P) × Q)
exactly-22 false t r b d f = (λ e. let z = ap code e in absurd (omega arith), λ p. absurd (p.0 (d.yes refl)))
exactly-22 true false r b d f = (λ e. (d.no refl, f.yes refl), λ p. refl)
exactly-22 true true false b d f = (λ e. let z = ap code e in absurd (omega arith), λ p. absurd (f.no refl p.1))
exactly-22 true true true false d f = (λ e. let z = ap code e in absurd (omega arith), λ p. absurd (f.no refl p.1))
exactly-22 true true true true d f = (λ e. let z = ap code e in absurd (omega arith), λ p. absurd (f.no refl p.1))

pub exactly-12 : {P Q S : Type 0} (c t r b : Bool) → Decides c P → Decides t Q → Decides r S → (outcome_of (limited_by c t r b) ≡ refused (late cause.RecordsSpent)) ↔ ((¬ P) × (¬ Q) × S)
exactly-12 false t r b d f g = (λ e. let z = ap code e in absurd (omega arith), λ p. absurd (p.0 (d.yes refl)))
exactly-12 true false r b d f g = (λ e. let z = ap code e in absurd (omega arith), λ p. absurd (p.1 (f.yes refl)))
exactly-12 true true false b d f g = (λ e. (d.no refl, f.no refl, g.yes refl), λ p. refl)
exactly-12 true true true false d f g = (λ e. let z = ap code e in absurd (omega arith), λ p. absurd (g.no refl p.2))
exactly-12 true true true true d f g = (λ e. let z = ap code e in absurd (omega arith), λ p. absurd (g.no refl p.2))

pub exactly-13 : {P Q S U : Type 0} (c t r b : Bool) → Decides c P → Decides t Q → Decides r S → Decides b U
    → (outcome_of (limited_by c t r b) ≡ refused (late cause.TextFull)) ↔ ((¬ P) × (¬ Q) × (¬ S) × U)
exactly-13 false t r b d f g h = (λ e. let z = ap code e in absurd (omega arith), λ p. absurd (p.0 (d.yes refl)))
exactly-13 true false r b d f g h = (λ e. let z = ap code e in absurd (omega arith), λ p. absurd (p.1 (f.yes refl)))
exactly-13 true true false b d f g h = (λ e. let z = ap code e in absurd (omega arith), λ p. absurd (p.2 (g.yes refl)))
exactly-13 true true true false d f g h = (λ e. (d.no refl, f.no refl, g.no refl, h.yes refl), λ p. refl)
exactly-13 true true true true d f g h = (λ e. let z = ap code e in absurd (omega arith), λ p. absurd (h.no refl p.3))

pub exactly-merged : {P Q S U : Type 0} (c t r b : Bool) → Decides c P → Decides t Q → Decides r S → Decides b U
    → (outcome_of (limited_by c t r b) ≡ accepted tt) ↔ ((¬ P) × (¬ Q) × (¬ S) × (¬ U))
exactly-merged false t r b d f g h = (λ e. let z : ◌≡◌ {A = ℕ} 0 1 = cc in absurd (omega arith), λ p. absurd (p.0 (d.yes refl)))
exactly-merged true false r b d f g h = (λ e. let z : ◌≡◌ {A = ℕ} 0 1 = cc in absurd (omega arith), λ p. absurd (p.1 (f.yes refl)))
exactly-merged true true false b d f g h = (λ e. let z : ◌≡◌ {A = ℕ} 0 1 = cc in absurd (omega arith), λ p. absurd (p.2 (g.yes refl)))
exactly-merged true true true false d f g h = (λ e. let z : ◌≡◌ {A = ℕ} 0 1 = cc in absurd (omega arith), λ p. absurd (p.3 (h.yes refl)))
exactly-merged true true true true d f g h = (λ e. (d.no refl, f.no refl, g.no refl, h.no refl), λ p. refl)

-- 15 comes exactly where one of the two is no tree: no other test gives it
not-15 : (c t r b : Bool) → outcome_of (limited_by c t r b) ≡ refused (late cause.NotLayout) → ⊥
not-15 false t r b e = let z = ap code e in omega arith
not-15 true false r b e = let z = ap code e in omega arith
not-15 true true false b e = let z = ap code e in omega arith
not-15 true true true false e = let z = ap code e in omega arith
not-15 true true true true e = let z = ap code e in omega arith

pub exactly-15 : (x y c t r b : Bool) → (outcome_of (chosen x y (limited_by c t r b)) ≡ refused (late cause.NotLayout)) ↔ ((x ≡ false) ⊎ (y ≡ false))
exactly-15 false y c t r b = (λ e. inl refl, λ p. refl)
exactly-15 true false c t r b = (λ e. inr refl, λ p. refl)
exactly-15 true true c t r b = (λ e. absurd (not-15 c t r b e), λ p. absurd (both_true p))
  where
    both_true : (true ≡ false) ⊎ (true ≡ false) → ⊥
    both_true (inl e) = true≢false e
    both_true (inr e) = true≢false e

-- all tests hold where the two are merged
pub all_hold : (x y c t r b : Bool) → outcome_of (chosen x y (limited_by c t r b)) ≡ accepted tt
    → ((x ≡ true) × (y ≡ true)) × (c ≡ true) × (t ≡ true) × (r ≡ true) × (b ≡ true)
all_hold false y c t r b e = let z : ◌≡◌ {A = ℕ} 0 1 = cc in absurd (omega arith)
all_hold true false c t r b e = let z : ◌≡◌ {A = ℕ} 0 1 = cc in absurd (omega arith)
all_hold true true false t r b e = let z : ◌≡◌ {A = ℕ} 0 1 = cc in absurd (omega arith)
all_hold true true true false r b e = let z : ◌≡◌ {A = ℕ} 0 1 = cc in absurd (omega arith)
all_hold true true true true false b e = let z : ◌≡◌ {A = ℕ} 0 1 = cc in absurd (omega arith)
all_hold true true true true true false e = let z : ◌≡◌ {A = ℕ} 0 1 = cc in absurd (omega arith)
all_hold true true true true true true e = ((refl, refl), refl, refl, refl, refl)

abbrev pub OneOf : Refused → Type 0
OneOf why = (why ≡ late cause.NotLayout) ⊎ ((why ≡ late cause.CountLimit) ⊎ ((why ≡ late time_limit) ⊎ ((why ≡ late cause.RecordsSpent) ⊎ (why ≡ late cause.TextFull))))

pub one_of : (x y c t r b : Bool) (why : Refused) → outcome_of (chosen x y (limited_by c t r b)) ≡ refused why
    → OneOf why × ((n : ℕ) (f : List ℕ) → left_for (chosen x y (limited_by c t r b)) n f ≡ zeros n)
one_of false y c t r b why e = (inl cc, λ n f. refl)
one_of true false c t r b why e = (inl cc, λ n f. refl)
one_of true true false t r b why e = (inr (inl cc), λ n f. refl)
one_of true true true false r b why e = (inr (inr (inl cc)), λ n f. refl)
one_of true true true true false b why e = (inr (inr (inr (inl cc))), λ n f. refl)
one_of true true true true true false why e = (inr (inr (inr (inr cc))), λ n f. refl)
one_of true true true true true true why e = let z : ◌≡◌ {A = ℕ} 0 1 = cc in absurd (omega arith)
