-- What the code does report by report comes to the sheet of the whole list. Assumes nothing.
use mathlib.Core.Path.{◌≡◌, refl, sym, ◌∙◌, ap}
use mathlib.Core.Bool.{Bool, true, false, cond, ◌||◌, or_assoc}
use mathlib.Core.List.{List, [], ◌∷◌}
use Prim.Native.Nat.{ℕ, zero, suc, ◌+◌, ◌<◌, ◌≤◌}
use native.Mathlib.Nat.{not-suc-le-zero, le_of_suc-le-suc}
use native.Mathlib.Omega.{arith}
use lib.Dec.{leb}
use lib.ListN.{length, get_or, take}
use Rattle.tree_counts.specs.of_refusal.Refusal.{Outcome, accepted, refused, late}
use Rattle.tree_counts.specs.of_refusal.declared.Cause.TheVariants as cause
use Rattle.tree_counts.specs.of_refusal.declared.Verdict.{Verdict}
use Rattle.tree_counts.specs.of_refusal.declared.Verdict.TheVariants.{Accepted, Refused}
use Rattle.tree_counts.specs.Counts.{are_counts, disabled_of, added, with_suite, counted_from}
use Rattle.tree_counts.specs.declared.Counts.{Counts}
use Rattle.tree_counts.specs.declared.Counted.{Counted}
use Rattle.tree_counts.proofs.Adding.{Within, within as is_Within, within-counts, adding, refusing}
use Rattle.tree_counts.proofs.Order.{disabled-added}
use Rattle.sheet_sums.specs.Sheet.{no_counts, sum_of, sheet_of, release_sheet}
use Rattle.sheet_sums.specs.declared.Sheet.{Sheet}
use Rattle.std.specs.Prelude.{Result, Ok, Err}
use Rattle.sheet_sums.specs.inside.Running.{taken_of, begun, step_of, totalled, onward, within, finished}

-- ---- a step of the code
abbrev is_ok : Verdict → ℕ
is_ok Accepted = 1
is_ok Refused = 0

abbrev ok_of : Counted → Result Counts Counts
ok_of d = Ok d.counts

abbrev err_of : Counted → Result Counts Counts
err_of d = Err d.counts

steps_on : (s : Counts) (a : Outcome Counts) (d : Counted) → d ≡ counted_from s a → d.verdict ≡ Accepted → ◌≡◌ {A = Result Counts Counts} (Ok d.counts) (step_of s a)
steps_on s (accepted n) d e v = ap ok_of e
steps_on s (refused r) d e v = absurd (omega (arith, ap is_ok (sym (ap (λ (x : Counted). x.verdict) e) ∙ v)))

steps-out : (s : Counts) (a : Outcome Counts) (d : Counted) → d ≡ counted_from s a → d.verdict ≡ Refused → ◌≡◌ {A = Result Counts Counts} (Err d.counts) (step_of s a)
steps-out s (refused r) d e v = ap err_of e
steps-out s (accepted n) d e v = absurd (omega (arith, ap is_ok (sym (ap (λ (x : Counted). x.verdict) e) ∙ v)))

module _ (t : Result Counts Counts) (s c : Counts) (d : Counted) (f : t ≡ Ok s) (e : d ≡ counted_from s (with_suite s c)) where
  pub added-on : d.verdict ≡ Accepted → ok_of d ≡ totalled t c
  unfolding totalled
  added-on v = rw f (steps_on s (with_suite s c) d e v)

  pub added_out : d.verdict ≡ Refused → err_of d ≡ totalled t c
  unfolding totalled
  added_out v = rw f (steps-out s (with_suite s c) d e v)

pub added_none : (t : Result Counts Counts) (s c : Counts) → t ≡ Err s → ◌≡◌ {A = Result Counts Counts} (Err s) (totalled t c)
unfolding totalled
added_none t s c f = rw f refl

-- ---- one report more
pub one_more : (t : Result Counts Counts) (cs : List Counts) (i : ℕ) → i < length cs → onward t (take (suc i) cs) ≡ totalled (onward t (take i cs)) (get_or cs i no_counts)
one_more t [] i l = absurd (not-suc-le-zero l)
one_more t (c ∷ cs) zero l = refl
one_more t (c ∷ cs) (suc i) l = one_more (totalled t c) cs i (le_of_suc-le-suc l)

taken-by : (b : Bool) (n : ℕ) → cond b n 0 ≤ n
taken-by true n = omega arith
taken-by false n = omega arith

pub taken-within : (n : ℕ) → taken_of n ≤ n
taken-within n = taken-by (leb n 4096) n

-- ---- the sums from s on
abbrev sum_from : Counts → List Counts → Counts
sum_from s [] = s
sum_from s (c ∷ cs) = sum_from (added s c) cs

-- a count that is missing is written 0
abbrev Kept : Counts → Type 0
Kept s = disabled_of s ≡ s.disabled

added-kept : (a b : Counts) → Kept (added a b)
added-kept a b = disabled-added a b

less : (a b : Counts) → Kept a → Within (added a b) → Within a
less a b k w = record {
  tests = omega (arith, w.tests);
  failures = omega (arith, w.failures);
  errors = omega (arith, w.errors);
  skipped = omega (arith, w.skipped);
  disabled = omega (arith, w.disabled, k);
}

less-from : (s : Counts) (cs : List Counts) → Kept s → Within (sum_from s cs) → Within s
less-from s [] k w = w
less-from s (c ∷ cs) k w = less s c k (less-from (added s c) cs (added-kept s c) w)

stuck : (s : Counts) (cs : List Counts) → onward (Err s) cs ≡ Err s
unfolding totalled
stuck s [] = refl
stuck s (c ∷ cs) = stuck s cs

abbrev pub limited : Counts → Outcome Sheet
limited s = cond (are_counts s) (accepted (sheet_of s)) (refused (late cause.CountLimit))

past : (s : Counts) (b : Bool) → are_counts s ≡ b → (Within s → ⊥) → refused (late cause.CountLimit) ≡ limited s
past s true e f = absurd (f (is_Within s e))
past s false e f = ap (λ (b : Bool). cond b (accepted (sheet_of s)) (refused (late cause.CountLimit))) (sym e)

-- one step from sums that fit
first_on : (s c : Counts) → are_counts (added s c) ≡ true → totalled (Ok s) c ≡ Ok (added s c)
unfolding totalled
first_on s c e = ap (step_of s) (adding s c e)

first_out : (s c : Counts) → are_counts (added s c) ≡ false → totalled (Ok s) c ≡ Err s
unfolding totalled
first_out s c e = ap (step_of s) (refusing s c e)

abbrev of_bool : Bool → ℕ
of_bool true = 1
of_bool false = 0

not_within : (s : Counts) → are_counts s ≡ false → Within s → ⊥
not_within s e w = absurd (omega (arith, ap of_bool (sym (within-counts s w) ∙ e)))

summed : (s : Counts) (cs : List Counts) → Kept s → Within s → within (onward (Ok s) cs) ≡ limited (sum_from s cs)
summed s [] k w = rw (within-counts s w) refl
summed s (c ∷ cs) k w = go (are_counts (added s c)) refl (summed (added s c) cs (added-kept s c))
  where
    go : (b : Bool) → are_counts (added s c) ≡ b → (Within (added s c) → within (onward (Ok (added s c)) cs) ≡ limited (sum_from (added s c) cs))
        → within (onward (totalled (Ok s) c) cs) ≡ limited (sum_from (added s c) cs)
    go true e ih = ap (λ (t : Result Counts Counts). within (onward t cs)) (first_on s c e) ∙ ih (is_Within (added s c) e)
    go false e ih =
        ap (λ (t : Result Counts Counts). within (onward t cs)) (first_out s c e) ∙ ap within (stuck s cs)
        ∙ past (sum_from (added s c) cs) (are_counts (sum_from (added s c) cs)) refl (λ v. not_within (added s c) e (less-from (added s c) cs (added-kept s c) v))

-- ---- the sums from nothing on are the sums
added-assoc : (a b c : Counts) → added (added a b) c ≡ added a (added b c)
added-assoc a b c =
    let h₁ : a.tests + b.tests + c.tests ≡ a.tests + (b.tests + c.tests) = omega arith in
    let h₂ : a.failures + b.failures + c.failures ≡ a.failures + (b.failures + c.failures) = omega arith in
    let h₃ : a.errors + b.errors + c.errors ≡ a.errors + (b.errors + c.errors) = omega arith in
    let h₄ : a.skipped + b.skipped + c.skipped ≡ a.skipped + (b.skipped + c.skipped) = omega arith in
    let h₅ : ((a.presence || b.presence) || c.presence) ≡ (a.presence || (b.presence || c.presence)) = or_assoc a.presence b.presence c.presence in
    let h₆ : disabled_of (added a b) + disabled_of c ≡ disabled_of a + disabled_of (added b c) = omega (arith, disabled-added a b, disabled-added b c) in
    cc

or-false : (p : Bool) → (p || false) ≡ p
or-false true = refl
or-false false = refl

abbrev made : ℕ → ℕ → ℕ → ℕ → Bool → ℕ → Counts
made a b c d e f = record { tests = a; failures = b; errors = c; skipped = d; presence = e; disabled = f }

made_of : (a : Counts) → a ≡ made a.tests a.failures a.errors a.skipped a.presence a.disabled
made_of a = refl

added-none_right : (a : Counts) → Kept a → a ≡ added a no_counts
added-none_right a k =
    let h₁ : a.tests ≡ a.tests + 0 = omega arith in
    let h₂ : a.failures ≡ a.failures + 0 = omega arith in
    let h₃ : a.errors ≡ a.errors + 0 = omega arith in
    let h₄ : a.skipped ≡ a.skipped + 0 = omega arith in
    let h₅ : a.presence ≡ (a.presence || false) = sym (or-false a.presence) in
    let h₆ : a.disabled ≡ disabled_of a + 0 = omega (arith, k) in
    let whole : made a.tests a.failures a.errors a.skipped a.presence a.disabled
    ≡ made (a.tests + 0) (a.failures + 0) (a.errors + 0) (a.skipped + 0) (a.presence || false) (disabled_of a + 0) = cc in
    whole

added-none-left : (a : Counts) → Kept a → added no_counts a ≡ a
added-none-left a k =
    let h₁ : 0 + a.tests ≡ a.tests = omega arith in
    let h₂ : 0 + a.failures ≡ a.failures = omega arith in
    let h₃ : 0 + a.errors ≡ a.errors = omega arith in
    let h₄ : 0 + a.skipped ≡ a.skipped = omega arith in
    let h₆ : 0 + disabled_of a ≡ a.disabled = omega (arith, k) in
    let whole : made (0 + a.tests) (0 + a.failures) (0 + a.errors) (0 + a.skipped) a.presence (0 + disabled_of a)
    ≡ made a.tests a.failures a.errors a.skipped a.presence a.disabled = cc in
    whole

sum-from : (s : Counts) (cs : List Counts) → Kept s → sum_from s cs ≡ added s (sum_of cs)
sum-from s [] k = added-none_right s k
sum-from s (c ∷ cs) k = sum-from (added s c) cs (added-kept s c) ∙ added-assoc s c (sum_of cs)

sum_kept : (cs : List Counts) → Kept (sum_of cs)
sum_kept [] = refl
sum_kept (c ∷ cs) = added-kept c (sum_of cs)

whole : (cs : List Counts) → within (onward begun cs) ≡ limited (sum_of cs)
whole cs =
    summed no_counts cs refl (is_Within no_counts refl)
    ∙ ap limited (sum-from no_counts cs refl ∙ added-none-left (sum_of cs) (sum_kept cs))

take_all : (cs : List Counts) → take (length cs) cs ≡ cs
take_all [] = refl
take_all (c ∷ cs) = ap (λ (ds : List Counts). c ∷ ds) (take_all cs)

pub finishes : (cs : List Counts) → finished (length cs) (onward begun (take (taken_of (length cs)) cs)) ≡ release_sheet cs
unfolding release_sheet
finishes cs = go (leb (length cs) 4096)
  where
    go : (b : Bool) → cond b (within (onward begun (take (cond b (length cs) 0) cs))) (refused (late cause.TooManyReports)) ≡ cond b (limited (sum_of cs)) (refused (late cause.TooManyReports))
    go true = ap (λ (ds : List Counts). within (onward begun ds)) (take_all cs) ∙ whole cs
    go false = refl
