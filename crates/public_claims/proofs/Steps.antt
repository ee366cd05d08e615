-- Key by key: an attribute changes what the record shows as it changes what is said. Assumes nothing.
use Prim.Native.Nat.{ℕ, ◌+◌, ◌/◌, ◌%◌}
use mathlib.Core.Path.{◌≡◌, sym, ap, ap₂, ◌∙◌, subst}
use mathlib.Core.List.{List, [], ◌++◌}
use mathlib.Core.Bool.{Bool, true}
use mathlib.Core.Option.{some}
use mathlib.Core.Logic.{inl, inr}
use native.Mathlib.Omega.{arith}
use lib.ListN.{length}
use Rattle.read_report.specs.of_time.Time.{seconds_of, nanos_of}
use Rattle.read_report.specs.of_text.Value.{value_text}
use Rattle.list_text.specs.of_tree_report.Report.{Text, Counts}
use Rattle.list_text.specs.of_tree_report.Fields.{has_bit, given, number_at, first, second, time, counts}
use Rattle.read_report.specs.of_read_keys.declared.Role.{Role}
use Rattle.read_report.specs.of_read_keys.declared.Role.TheVariants as role
use Rattle.read_report.specs.of_read_keys.Roles.{role_in, report_role, suite_role, case_role, status_role}
use Rattle.read_report.specs.of_tree_record.Record.{marked}
use Rattle.read_report.specs.of_tree_put.Put.{put_text, put_count_of, put_time}
use Rattle.read_report.specs.of_read_element.Attributes.{Given}
use Rattle.public_claims.specs.inside.PublicMachine.{Said, Field, the_tests, the_failures, the_errors, the_skipped, the_disabled, field_of, say, integer_value, a_report, a_suite, a_case_of, a_run}
use Rattle.read_report.proofs.Words.{Keeps, keeps-all, pair_keeps, text-keeps, marked-there, marked-first, marked-second, count-there, number-there, text-there}
use Rattle.public_claims.proofs.View.{keeps-number, keeps-time, keeps-disabled, keeps-counts}
use Rattle.public_claims.proofs.Codes.{Code, code1, code2, code3, code4, code5, code6, code7, code8, code9, code10, code11, code12, code13, code14, code15, further, Other, field-other}
use Rattle.public_claims.proofs.Said.{Effect, Shows, become, stay-first, stay-text, stay-second, quiet-report, quiet-suite, quiet-case, quiet-run, uuid-keeps, moment-keeps}

-- ---- what is stored is shown
first-there : (t v u r : List ℕ) → length r ≡ 32 → first ((t ++ v) ++ u) (put_text 2 0 (length t) (length v) r) ≡ some v
first-there t v u r l = ap₂ (λ (b : Bool) (x : Text). given b x) (marked-there 2 (length t) (length v) r l (omega arith) (omega arith) 0) (text-there 0 2 t v u r l (omega arith) (omega arith))

second-there : (t v u r : List ℕ) → length r ≡ 32 → second ((t ++ v) ++ u) (put_text 18 5 (length t) (length v) r) ≡ some v
second-there t v u r l = ap₂ (λ (b : Bool) (x : Text). given b x) (marked-there 18 (length t) (length v) r l (omega arith) (omega arith) 5) (text-there 5 18 t v u r l (omega arith) (omega arith))

time-there : (a b : ℕ) (r : List ℕ) → length r ≡ 32 → time (put_time (a, b) r) ≡ some (record { seconds = a; nanos = b })
time-there a b r l =
    rw (marked-there 16 a b r l (omega arith) (omega arith) 4, marked-first 16 a b r l (omega arith) (omega arith) 4, marked-second 16 a b r l (omega arith) (omega arith) 4)

counts-tests : (n : ℕ) (r : List ℕ) → length r ≡ 32 →
    counts (put_count_of 18 n r) ≡ record { tests = n; failures = number_at r 20; errors = number_at r 22; skipped = number_at r 24; disabled = given (has_bit 8 r) (number_at r 26) }
counts-tests n r l =
    let c : Keeps 1 18 20 r (put_count_of 18 n r) = pair_keeps 1 18 (n % 4294967296) (n / 4294967296) r (omega arith) in
    rw (
      count-there 18 n r l (omega arith) (omega arith),
      keeps-number c 20 (omega arith) (inr (omega arith)),
      keeps-number c 22 (omega arith) (inr (omega arith)),
      keeps-number c 24 (omega arith) (inr (omega arith)),
      keeps-disabled c (λ e. omega arith) (inr (omega arith)),
    )

counts-failures : (n : ℕ) (r : List ℕ) → length r ≡ 32 →
    counts (put_count_of 20 n r) ≡ record { tests = number_at r 18; failures = n; errors = number_at r 22; skipped = number_at r 24; disabled = given (has_bit 8 r) (number_at r 26) }
counts-failures n r l =
    let c : Keeps 1 20 22 r (put_count_of 20 n r) = pair_keeps 1 20 (n % 4294967296) (n / 4294967296) r (omega arith) in
    rw (
      keeps-number c 18 (omega arith) (inl (omega arith)),
      count-there 20 n r l (omega arith) (omega arith),
      keeps-number c 22 (omega arith) (inr (omega arith)),
      keeps-number c 24 (omega arith) (inr (omega arith)),
      keeps-disabled c (λ e. omega arith) (inr (omega arith)),
    )

counts-errors : (n : ℕ) (r : List ℕ) → length r ≡ 32 →
    counts (put_count_of 22 n r) ≡ record { tests = number_at r 18; failures = number_at r 20; errors = n; skipped = number_at r 24; disabled = given (has_bit 8 r) (number_at r 26) }
counts-errors n r l =
    let c : Keeps 1 22 24 r (put_count_of 22 n r) = pair_keeps 1 22 (n % 4294967296) (n / 4294967296) r (omega arith) in
    rw (
      keeps-number c 18 (omega arith) (inl (omega arith)),
      keeps-number c 20 (omega arith) (inl (omega arith)),
      count-there 22 n r l (omega arith) (omega arith),
      keeps-number c 24 (omega arith) (inr (omega arith)),
      keeps-disabled c (λ e. omega arith) (inr (omega arith)),
    )

counts-skipped : (n : ℕ) (r : List ℕ) → length r ≡ 32 →
    counts (put_count_of 24 n r) ≡ record { tests = number_at r 18; failures = number_at r 20; errors = number_at r 22; skipped = n; disabled = given (has_bit 8 r) (number_at r 26) }
counts-skipped n r l =
    let c : Keeps 1 24 26 r (put_count_of 24 n r) = pair_keeps 1 24 (n % 4294967296) (n / 4294967296) r (omega arith) in
    rw (
      keeps-number c 18 (omega arith) (inl (omega arith)),
      keeps-number c 20 (omega arith) (inl (omega arith)),
      keeps-number c 22 (omega arith) (inl (omega arith)),
      count-there 24 n r l (omega arith) (omega arith),
      keeps-disabled c (λ e. omega arith) (inr (omega arith)),
    )

counts-disabled : (n : ℕ) (r : List ℕ) → length r ≡ 32 →
    counts (marked 8 (put_count_of 26 n r)) ≡ record { tests = number_at r 18; failures = number_at r 20; errors = number_at r 22; skipped = number_at r 24; disabled = some n }
counts-disabled n r l =
    let c : Keeps 8 26 28 r (marked 8 (put_count_of 26 n r)) = text-keeps 8 26 (n % 4294967296) (n / 4294967296) r (omega arith) in
    rw (
      keeps-number c 18 (omega arith) (inl (omega arith)),
      keeps-number c 20 (omega arith) (inl (omega arith)),
      keeps-number c 22 (omega arith) (inl (omega arith)),
      keeps-number c 24 (omega arith) (inl (omega arith)),
      marked-there 26 (n % 4294967296) (n / 4294967296) r l (omega arith) (omega arith) 8,
      number-there 8 26 n r l (omega arith) (omega arith),
    )

-- the counts of a report or suite, field by field
said-tests : (v r : List ℕ) (s : Said) → length r ≡ 32 → counts r ≡ s.counts → counts (put_count_of 18 (integer_value v) r) ≡ (say the_tests v s).counts
said-tests v r s l h =
    counts-tests (integer_value v) r l ∙ ap (λ (c : Counts). record { tests = integer_value v; failures = c.failures; errors = c.errors; skipped = c.skipped; disabled = c.disabled }) h

said-failures : (v r : List ℕ) (s : Said) → length r ≡ 32 → counts r ≡ s.counts → counts (put_count_of 20 (integer_value v) r) ≡ (say the_failures v s).counts
said-failures v r s l h =
    counts-failures (integer_value v) r l ∙ ap (λ (c : Counts). record { tests = c.tests; failures = integer_value v; errors = c.errors; skipped = c.skipped; disabled = c.disabled }) h

said-errors : (v r : List ℕ) (s : Said) → length r ≡ 32 → counts r ≡ s.counts → counts (put_count_of 22 (integer_value v) r) ≡ (say the_errors v s).counts
said-errors v r s l h =
    counts-errors (integer_value v) r l ∙ ap (λ (c : Counts). record { tests = c.tests; failures = c.failures; errors = integer_value v; skipped = c.skipped; disabled = c.disabled }) h

said-skipped : (v r : List ℕ) (s : Said) → length r ≡ 32 → counts r ≡ s.counts → counts (put_count_of 24 (integer_value v) r) ≡ (say the_skipped v s).counts
said-skipped v r s l h =
    counts-skipped (integer_value v) r l ∙ ap (λ (c : Counts). record { tests = c.tests; failures = c.failures; errors = c.errors; skipped = integer_value v; disabled = c.disabled }) h

said-disabled : (v r : List ℕ) (s : Said) → length r ≡ 32 → counts r ≡ s.counts → counts (marked 8 (put_count_of 26 (integer_value v) r)) ≡ (say the_disabled v s).counts
said-disabled v r s l h =
    counts-disabled (integer_value v) r l ∙ ap (λ (c : Counts). record { tests = c.tests; failures = c.failures; errors = c.errors; skipped = c.skipped; disabled = some (integer_value v) }) h

report-other : (c : ℕ) → Other c → report_role c ≡ role.Ignored
unfolding report_role role_in
report-other c o = rw (o.is1, o.is3, o.is4, o.is5, o.is6, o.is7, o.is8, o.is9, o.is10)

pub report-step : (kind c : ℕ) → Code c → (v : List ℕ) (g h : Given) (s : Said) → length g.main ≡ 32 → Effect kind (report_role c) v g h →
    Shows a_report g.texts g.main s → Shows a_report h.texts h.main (say (field_of c) v s)
unfolding Effect report_role role_in field_of Shows
report-step kind c code1 v g h s l e m = become a_report (say (field_of 1) v s) e.1 e.0
    (λ u. first-there g.texts (value_text v) u g.main l, keeps-counts (text-keeps 0 2 _ _ g.main (omega arith)) (λ z. omega arith) (inr (omega arith)) ∙ m.1)
report-step kind c code2 v g h s l e m =
    become a_report (say (field_of 2) v s) e.1 e.0 (quiet-report (keeps-all 1 4 4 g.main) g.texts [] s (omega arith) (omega arith) (λ z. omega arith) (λ z. omega arith) m)
report-step kind c code3 v g h s l e m =
    become a_report (say (field_of 3) v s) e.1 e.0.1 (quiet-report (uuid-keeps e.0.0 g.main) g.texts [] s (omega arith) (omega arith) (λ z. omega arith) (λ z. omega arith) m)
report-step kind c code4 v g h s l e m =
    become a_report (say (field_of 4) v s) e.1 e.0.1 (quiet-report (moment-keeps e.0.0 g.main) g.texts [] s (omega arith) (omega arith) (λ z. omega arith) (λ z. omega arith) m)
report-step kind c code5 v g h s l e m =
    become a_report (say (field_of 5) v s) e.1 e.0 (quiet-report (text-keeps 4 16 _ _ g.main (omega arith)) g.texts [] s (omega arith) (omega arith) (λ z. omega arith) (λ z. omega arith) m)
report-step kind c code6 v g h s l e m = become a_report (say (field_of 6) v s) e.1 e.0
    (stay-first (pair_keeps 1 18 _ _ g.main (omega arith)) g.texts [] (λ z. omega arith) (inl (omega arith)) m.0, said-tests v g.main s l m.1)
report-step kind c code7 v g h s l e m = become a_report (say (field_of 7) v s) e.1 e.0
    (stay-first (pair_keeps 1 20 _ _ g.main (omega arith)) g.texts [] (λ z. omega arith) (inl (omega arith)) m.0, said-failures v g.main s l m.1)
report-step kind c code8 v g h s l e m = become a_report (say (field_of 8) v s) e.1 e.0
    (stay-first (pair_keeps 1 22 _ _ g.main (omega arith)) g.texts [] (λ z. omega arith) (inl (omega arith)) m.0, said-errors v g.main s l m.1)
report-step kind c code9 v g h s l e m = become a_report (say (field_of 9) v s) e.1 e.0
    (stay-first (pair_keeps 1 24 _ _ g.main (omega arith)) g.texts [] (λ z. omega arith) (inl (omega arith)) m.0, said-skipped v g.main s l m.1)
report-step kind c code10 v g h s l e m = become a_report (say (field_of 10) v s) e.1 e.0
    (stay-first (text-keeps 8 26 _ _ g.main (omega arith)) g.texts [] (λ z. omega arith) (inl (omega arith)) m.0, said-disabled v g.main s l m.1)
report-step kind c code11 v g h s l e m =
    become a_report (say (field_of 11) v s) e.1 e.0 (quiet-report (keeps-all 1 4 4 g.main) g.texts [] s (omega arith) (omega arith) (λ z. omega arith) (λ z. omega arith) m)
report-step kind c code12 v g h s l e m =
    become a_report (say (field_of 12) v s) e.1 e.0 (quiet-report (keeps-all 1 4 4 g.main) g.texts [] s (omega arith) (omega arith) (λ z. omega arith) (λ z. omega arith) m)
report-step kind c code13 v g h s l e m =
    become a_report (say (field_of 13) v s) e.1 e.0 (quiet-report (keeps-all 1 4 4 g.main) g.texts [] s (omega arith) (omega arith) (λ z. omega arith) (λ z. omega arith) m)
report-step kind c code14 v g h s l e m =
    become a_report (say (field_of 14) v s) e.1 e.0 (quiet-report (keeps-all 1 4 4 g.main) g.texts [] s (omega arith) (omega arith) (λ z. omega arith) (λ z. omega arith) m)
report-step kind c code15 v g h s l e m =
    become a_report (say (field_of 15) v s) e.1 e.0 (quiet-report (keeps-all 1 4 4 g.main) g.texts [] s (omega arith) (omega arith) (λ z. omega arith) (λ z. omega arith) m)
report-step kind c (further o) v g h s l e m =
    let d : Effect kind role.Ignored v g h = subst (λ (ρ : Role). Effect kind ρ v g h) (report-other c o) e in
    subst (λ (φ : Field). Shows a_report h.texts h.main (say φ v s)) (sym (field-other c o))
    (become a_report s d.1 d.0 (quiet-report (keeps-all 1 4 4 g.main) g.texts [] s (omega arith) (omega arith) (λ z. omega arith) (λ z. omega arith) m))

suite-other : (c : ℕ) → Other c → suite_role c ≡ role.Extra
unfolding suite_role role_in
suite-other c o = rw (o.is1, o.is4, o.is5, o.is6, o.is7, o.is8, o.is9, o.is10, o.is15)

pub suite-step : (kind c : ℕ) → Code c → (v : List ℕ) (g h : Given) (s : Said) → length g.main ≡ 32 → Effect kind (suite_role c) v g h →
    Shows a_suite g.texts g.main s → Shows a_suite h.texts h.main (say (field_of c) v s)
unfolding Effect suite_role role_in field_of Shows
suite-step kind c code1 v g h s l e m = become a_suite (say (field_of 1) v s) e.1 e.0
    (λ u. text-there 0 2 g.texts (value_text v) u g.main l (omega arith) (omega arith), keeps-counts (text-keeps 0 2 _ _ g.main (omega arith)) (λ z. omega arith) (inr (omega arith)) ∙ m.1)
suite-step kind c code2 v g h s l e m =
    become a_suite (say (field_of 2) v s) e.1.1 e.0 (quiet-suite (keeps-all 1 4 4 g.main) g.texts e.1.0 s (omega arith) (omega arith) (λ z. omega arith) m)
suite-step kind c code3 v g h s l e m =
    become a_suite (say (field_of 3) v s) e.1.1 e.0 (quiet-suite (keeps-all 1 4 4 g.main) g.texts e.1.0 s (omega arith) (omega arith) (λ z. omega arith) m)
suite-step kind c code4 v g h s l e m =
    become a_suite (say (field_of 4) v s) e.1 e.0.1 (quiet-suite (moment-keeps e.0.0 g.main) g.texts [] s (omega arith) (omega arith) (λ z. omega arith) m)
suite-step kind c code5 v g h s l e m =
    become a_suite (say (field_of 5) v s) e.1 e.0 (quiet-suite (text-keeps 4 16 _ _ g.main (omega arith)) g.texts [] s (omega arith) (omega arith) (λ z. omega arith) m)
suite-step kind c code6 v g h s l e m =
    become a_suite (say (field_of 6) v s) e.1 e.0 (stay-text (pair_keeps 1 18 _ _ g.main (omega arith)) g.texts [] (inl (omega arith)) m.0, said-tests v g.main s l m.1)
suite-step kind c code7 v g h s l e m =
    become a_suite (say (field_of 7) v s) e.1 e.0 (stay-text (pair_keeps 1 20 _ _ g.main (omega arith)) g.texts [] (inl (omega arith)) m.0, said-failures v g.main s l m.1)
suite-step kind c code8 v g h s l e m =
    become a_suite (say (field_of 8) v s) e.1 e.0 (stay-text (pair_keeps 1 22 _ _ g.main (omega arith)) g.texts [] (inl (omega arith)) m.0, said-errors v g.main s l m.1)
suite-step kind c code9 v g h s l e m =
    become a_suite (say (field_of 9) v s) e.1 e.0 (stay-text (pair_keeps 1 24 _ _ g.main (omega arith)) g.texts [] (inl (omega arith)) m.0, said-skipped v g.main s l m.1)
suite-step kind c code10 v g h s l e m =
    become a_suite (say (field_of 10) v s) e.1 e.0 (stay-text (text-keeps 8 26 _ _ g.main (omega arith)) g.texts [] (inl (omega arith)) m.0, said-disabled v g.main s l m.1)
suite-step kind c code11 v g h s l e m =
    become a_suite (say (field_of 11) v s) e.1.1 e.0 (quiet-suite (keeps-all 1 4 4 g.main) g.texts e.1.0 s (omega arith) (omega arith) (λ z. omega arith) m)
suite-step kind c code12 v g h s l e m =
    become a_suite (say (field_of 12) v s) e.1.1 e.0 (quiet-suite (keeps-all 1 4 4 g.main) g.texts e.1.0 s (omega arith) (omega arith) (λ z. omega arith) m)
suite-step kind c code13 v g h s l e m =
    become a_suite (say (field_of 13) v s) e.1.1 e.0 (quiet-suite (keeps-all 1 4 4 g.main) g.texts e.1.0 s (omega arith) (omega arith) (λ z. omega arith) m)
suite-step kind c code14 v g h s l e m =
    become a_suite (say (field_of 14) v s) e.1.1 e.0 (quiet-suite (keeps-all 1 4 4 g.main) g.texts e.1.0 s (omega arith) (omega arith) (λ z. omega arith) m)
suite-step kind c code15 v g h s l e m = become a_suite (say (field_of 15) v s) e.1 e.0 (
  stay-text (text-keeps 10 28 _ _ g.main (omega arith)) g.texts (value_text v) (inl (omega arith)) m.0,
  keeps-counts (text-keeps 10 28 _ _ g.main (omega arith)) (λ z. omega arith) (inl (omega arith)) ∙ m.1,
)
suite-step kind c (further o) v g h s l e m =
    let d : Effect kind role.Extra v g h = subst (λ (ρ : Role). Effect kind ρ v g h) (suite-other c o) e in
    subst (λ (φ : Field). Shows a_suite h.texts h.main (say φ v s)) (sym (field-other c o))
    (become a_suite s d.1.1 d.0 (quiet-suite (keeps-all 1 4 4 g.main) g.texts d.1.0 s (omega arith) (omega arith) (λ z. omega arith) m))

case-other : (c : ℕ) → Other c → case_role c ≡ role.Extra
unfolding case_role role_in
case-other c o = rw (o.is1, o.is2, o.is4, o.is5, o.is11)

pub case_step : (kind c : ℕ) → Code c → (v : List ℕ) (g h : Given) (s : Said) → length g.main ≡ 32 → Effect kind (case_role c) v g h →
    Shows a_case_of g.texts g.main s → Shows a_case_of h.texts h.main (say (field_of c) v s)
unfolding Effect case_role role_in field_of Shows
case_step kind c code1 v g h s l e m =
    become a_case_of (say (field_of 1) v s) e.1 e.0 (
      λ u. text-there 0 2 g.texts (value_text v) u g.main l (omega arith) (omega arith),
      stay-second (text-keeps 0 2 _ _ g.main (omega arith)) g.texts (value_text v) (λ z. omega arith) (inr (omega arith)) m.1,
      keeps-time (text-keeps 0 2 _ _ g.main (omega arith)) (λ z. omega arith) (inr (omega arith)) ∙ m.2,
    )
case_step kind c code2 v g h s l e m = become a_case_of (say (field_of 2) v s) e.1 e.0 (
  stay-text (text-keeps 5 18 _ _ g.main (omega arith)) g.texts (value_text v) (inl (omega arith)) m.0,
  λ u. second-there g.texts (value_text v) u g.main l,
  keeps-time (text-keeps 5 18 _ _ g.main (omega arith)) (λ z. omega arith) (inl (omega arith)) ∙ m.2,
)
case_step kind c code3 v g h s l e m =
    become a_case_of (say (field_of 3) v s) e.1.1 e.0 (quiet-case (keeps-all 1 4 4 g.main) g.texts e.1.0 s (omega arith) (inr (omega arith)) (λ z. omega arith) (λ z. omega arith) m)
case_step kind c code4 v g h s l e m =
    become a_case_of (say (field_of 4) v s) e.1 e.0.1 (quiet-case (moment-keeps e.0.0 g.main) g.texts [] s (omega arith) (inr (omega arith)) (λ z. omega arith) (λ z. omega arith) m)
case_step kind c code5 v g h s l e m = become a_case_of (say (field_of 5) v s) e.1 e.0 (
  stay-text (text-keeps 4 16 _ _ g.main (omega arith)) g.texts [] (inl (omega arith)) m.0,
  stay-second (text-keeps 4 16 _ _ g.main (omega arith)) g.texts [] (λ z. omega arith) (inr (omega arith)) m.1,
  time-there (seconds_of v) (nanos_of v) g.main l,
)
case_step kind c code6 v g h s l e m =
    become a_case_of (say (field_of 6) v s) e.1.1 e.0 (quiet-case (keeps-all 1 4 4 g.main) g.texts e.1.0 s (omega arith) (inr (omega arith)) (λ z. omega arith) (λ z. omega arith) m)
case_step kind c code7 v g h s l e m =
    become a_case_of (say (field_of 7) v s) e.1.1 e.0 (quiet-case (keeps-all 1 4 4 g.main) g.texts e.1.0 s (omega arith) (inr (omega arith)) (λ z. omega arith) (λ z. omega arith) m)
case_step kind c code8 v g h s l e m =
    become a_case_of (say (field_of 8) v s) e.1.1 e.0 (quiet-case (keeps-all 1 4 4 g.main) g.texts e.1.0 s (omega arith) (inr (omega arith)) (λ z. omega arith) (λ z. omega arith) m)
case_step kind c code9 v g h s l e m =
    become a_case_of (say (field_of 9) v s) e.1.1 e.0 (quiet-case (keeps-all 1 4 4 g.main) g.texts e.1.0 s (omega arith) (inr (omega arith)) (λ z. omega arith) (λ z. omega arith) m)
case_step kind c code10 v g h s l e m =
    become a_case_of (say (field_of 10) v s) e.1.1 e.0 (quiet-case (keeps-all 1 4 4 g.main) g.texts e.1.0 s (omega arith) (inr (omega arith)) (λ z. omega arith) (λ z. omega arith) m)
case_step kind c code11 v g h s l e m = become a_case_of (say (field_of 11) v s) e.1 e.0
    (quiet-case (text-keeps 6 20 _ _ g.main (omega arith)) g.texts [] s (omega arith) (inl (omega arith)) (λ z. omega arith) (λ z. omega arith) m)
case_step kind c code12 v g h s l e m =
    become a_case_of (say (field_of 12) v s) e.1.1 e.0 (quiet-case (keeps-all 1 4 4 g.main) g.texts e.1.0 s (omega arith) (inr (omega arith)) (λ z. omega arith) (λ z. omega arith) m)
case_step kind c code13 v g h s l e m =
    become a_case_of (say (field_of 13) v s) e.1.1 e.0 (quiet-case (keeps-all 1 4 4 g.main) g.texts e.1.0 s (omega arith) (inr (omega arith)) (λ z. omega arith) (λ z. omega arith) m)
case_step kind c code14 v g h s l e m =
    become a_case_of (say (field_of 14) v s) e.1.1 e.0 (quiet-case (keeps-all 1 4 4 g.main) g.texts e.1.0 s (omega arith) (inr (omega arith)) (λ z. omega arith) (λ z. omega arith) m)
case_step kind c code15 v g h s l e m =
    become a_case_of (say (field_of 15) v s) e.1.1 e.0 (quiet-case (keeps-all 1 4 4 g.main) g.texts e.1.0 s (omega arith) (inr (omega arith)) (λ z. omega arith) (λ z. omega arith) m)
case_step kind c (further o) v g h s l e m =
    let d : Effect kind role.Extra v g h = subst (λ (ρ : Role). Effect kind ρ v g h) (case-other c o) e in
    subst (λ (φ : Field). Shows a_case_of h.texts h.main (say φ v s)) (sym (field-other c o))
    (become a_case_of s d.1.1 d.0 (quiet-case (keeps-all 1 4 4 g.main) g.texts d.1.0 s (omega arith) (inr (omega arith)) (λ z. omega arith) (λ z. omega arith) m))

run-other : (c : ℕ) → Other c → status_role true c ≡ role.Ignored
unfolding status_role role_in
run-other c o = rw (o.is4, o.is5, o.is12, o.is13)

pub run_step : (kind c : ℕ) → Code c → (v : List ℕ) (g h : Given) (s : Said) → length g.main ≡ 32 → Effect kind (status_role true c) v g h →
    Shows a_run g.texts g.main s → Shows a_run h.texts h.main (say (field_of c) v s)
unfolding Effect status_role role_in field_of Shows
run_step kind c code1 v g h s l e m = become a_run (say (field_of 1) v s) e.1 e.0 (quiet-run (keeps-all 1 4 4 g.main) g.texts [] s (inr (omega arith)) (λ z. omega arith) m)
run_step kind c code2 v g h s l e m = become a_run (say (field_of 2) v s) e.1 e.0 (quiet-run (keeps-all 1 4 4 g.main) g.texts [] s (inr (omega arith)) (λ z. omega arith) m)
run_step kind c code3 v g h s l e m = become a_run (say (field_of 3) v s) e.1 e.0 (quiet-run (keeps-all 1 4 4 g.main) g.texts [] s (inr (omega arith)) (λ z. omega arith) m)
run_step kind c code4 v g h s l e m = become a_run (say (field_of 4) v s) e.1 e.0.1 (quiet-run (moment-keeps e.0.0 g.main) g.texts [] s (inr (omega arith)) (λ z. omega arith) m)
run_step kind c code5 v g h s l e m = become a_run (say (field_of 5) v s) e.1 e.0 (time-there (seconds_of v) (nanos_of v) g.main l)
run_step kind c code6 v g h s l e m = become a_run (say (field_of 6) v s) e.1 e.0 (quiet-run (keeps-all 1 4 4 g.main) g.texts [] s (inr (omega arith)) (λ z. omega arith) m)
run_step kind c code7 v g h s l e m = become a_run (say (field_of 7) v s) e.1 e.0 (quiet-run (keeps-all 1 4 4 g.main) g.texts [] s (inr (omega arith)) (λ z. omega arith) m)
run_step kind c code8 v g h s l e m = become a_run (say (field_of 8) v s) e.1 e.0 (quiet-run (keeps-all 1 4 4 g.main) g.texts [] s (inr (omega arith)) (λ z. omega arith) m)
run_step kind c code9 v g h s l e m = become a_run (say (field_of 9) v s) e.1 e.0 (quiet-run (keeps-all 1 4 4 g.main) g.texts [] s (inr (omega arith)) (λ z. omega arith) m)
run_step kind c code10 v g h s l e m = become a_run (say (field_of 10) v s) e.1 e.0 (quiet-run (keeps-all 1 4 4 g.main) g.texts [] s (inr (omega arith)) (λ z. omega arith) m)
run_step kind c code11 v g h s l e m = become a_run (say (field_of 11) v s) e.1 e.0 (quiet-run (keeps-all 1 4 4 g.main) g.texts [] s (inr (omega arith)) (λ z. omega arith) m)
run_step kind c code12 v g h s l e m =
    become a_run (say (field_of 12) v s) e.1 e.0 (quiet-run (text-keeps 0 2 _ _ g.main (omega arith)) g.texts (value_text v) s (inr (omega arith)) (λ z. omega arith) m)
run_step kind c code13 v g h s l e m =
    become a_run (say (field_of 13) v s) e.1 e.0 (quiet-run (text-keeps 5 18 _ _ g.main (omega arith)) g.texts (value_text v) s (inl (omega arith)) (λ z. omega arith) m)
run_step kind c code14 v g h s l e m = become a_run (say (field_of 14) v s) e.1 e.0 (quiet-run (keeps-all 1 4 4 g.main) g.texts [] s (inr (omega arith)) (λ z. omega arith) m)
run_step kind c code15 v g h s l e m = become a_run (say (field_of 15) v s) e.1 e.0 (quiet-run (keeps-all 1 4 4 g.main) g.texts [] s (inr (omega arith)) (λ z. omega arith) m)
run_step kind c (further o) v g h s l e m =
    let d : Effect kind role.Ignored v g h = subst (λ (ρ : Role). Effect kind ρ v g h) (run-other c o) e in
    subst (λ (φ : Field). Shows a_run h.texts h.main (say φ v s)) (sym (field-other c o))
    (become a_run s d.1 d.0 (quiet-run (keeps-all 1 4 4 g.main) g.texts [] s (inr (omega arith)) (λ z. omega arith) m))
