-- The elements opened and closed, from what the parts of the code came to. Assumes nothing.
use Prim.Native.Nat.{ℕ}
use mathlib.Core.Path.{◌≡◌, refl, sym, ap, ◌∙◌}
use mathlib.Core.Bool.{Bool, true, false, not}
use native.Mathlib.Omega.{arith}
use mathlib.Core.List.{List}
use lib.ListN.{length, set}
use lib.Dec.{eqb, ltb}
use borrow.Author.Tests.{ne_eqb}
use Rattle.std.specs.Prelude.{Result, Ok, Err}
use Rattle.build_kinds.specs.of_area.Area.{zeros}
use Rattle.build_kinds.specs.of_refusal.Refusal.{nowhere, Outcome, accepted}
use Rattle.build_kinds.specs.of_refusal.declared.Cause.{Cause}
use Rattle.build_kinds.specs.of_refusal.declared.Cause.TheVariants as cause
use Rattle.build_kinds.specs.of_tree_record.Kinds as kind
use Rattle.build_kinds.specs.of_tree_counts.declared.Outcome.{Outcome as Status}
use Rattle.build_kinds.specs.of_tree_counts.Counts.{with_case}
use Rattle.build_kinds.specs.of_build_draft.declared.Builder.{Builder}
use Rattle.build_kinds.specs.of_build_draft.Draft.{Draft, no_builder, ◌>>=◌, asks, draft_of, is_of, last_of, room_for}
use Rattle.build_kinds.specs.of_build_draft.Parts.{taking, counts_at, counting, summing}
use Rattle.build_kinds.specs.of_build_draft.Calls.{marks, unnamed_report, open_suite, open_case, main_kind, open_main, finish}
use Rattle.build_kinds.proofs.of_build_draft.Steps.{plain}
use Rattle.build_elements.proofs.Steps.{done, unasked, part-stopped, part-went, remarked, opening}

-- the marks behind each record taken
abbrev pub report_marks : Builder → Builder
report_marks b = marks 0 nowhere nowhere nowhere b

abbrev pub suite_marks : Builder → Builder
suite_marks b = marks b.report (last_of b) nowhere nowhere b

abbrev pub case_marks : Builder → Builder
case_marks b = marks b.report b.suite (last_of b) nowhere b

abbrev pub main_marks : Builder → Builder
main_marks b = marks b.report b.suite b.case (last_of b) b

abbrev pub no_marks : Builder → Builder
no_marks b = marks nowhere nowhere nowhere nowhere b

-- ---- the report: no builder, and both areas cleared
pub report-said : (words text : List ℕ) {b : Builder} {words' text' : List ℕ} → b ≡ no_builder → words' ≡ zeros (length words) → text' ≡ zeros (length text)
    → opening kind.report report_marks (record { builder = b; words = words'; text = text' }) ≡ unnamed_report (length words) (length text)
unfolding unnamed_report
report-said words text p q r = λ i. opening kind.report report_marks (record { builder = p i; words = q i; text = r i })

-- the first record leaves the marks as they were: nowhere
pub first-marks : (b : Builder) (words words' text : List ℕ) → accepted (plain b words' text) ≡ taking kind.report (record { builder = no_builder; words = words; text = text })
    → ◌≡◌ {A = Builder} (record { records = b.records; bytes = b.bytes; report = 0; suite = b.suite; case = b.case; main = b.main }) (report_marks b)
unfolding taking asks
first-marks b words words' text = go (ltb 0 (room_for words))
  where
    go : (t : Bool) → accepted (plain b words' text)
        ≡ asks t cause.RecordsSpent
        (accepted (plain (record { records = 1; bytes = 0; report = nowhere; suite = nowhere; case = nowhere; main = nowhere }) (set words 0 kind.report) text))
        → ◌≡◌ {A = Builder} (record { records = b.records; bytes = b.bytes; report = 0; suite = b.suite; case = b.case; main = b.main }) (report_marks b)
    go true h =
        let q : plain b words' text ≡ plain (record { records = 1; bytes = 0; report = nowhere; suite = nowhere; case = nowhere; main = nowhere }) (set words 0 kind.report) text = cc in
        rw (ap (λ (x : Draft). x.builder) q) refl
    go false h = let z : ◌≡◌ {A = ℕ} 0 1 = cc in absurd (omega arith)

-- ---- a suite: the test of the report, the sums with the suite before, the record
module _ (d : Draft) {there : Bool} (e : there ≡ is_of d.builder d.words d.builder.report kind.report) where
  pub suite-refused : (words : List ℕ) → not there ≡ true → draft_of (Err cause.NotLayout) words d.text ≡ open_suite d
  unfolding open_suite
  suite-refused words h = unasked words d.text cause.NotLayout (summing d >>= opening kind.suite suite_marks) e h

  module _ (h : not there ≡ false) (words : List ℕ) {s : Result Builder Cause} where
    pub suite-stopped : {why : Cause} → s ≡ Err why → draft_of s words d.text ≡ summing d → draft_of s words d.text ≡ open_suite d
    unfolding open_suite
    suite-stopped n p = part-stopped e h cause.NotLayout (opening kind.suite suite_marks) words d.text n p

    pub suite-went : {b : Builder} → s ≡ Ok b → draft_of s words d.text ≡ summing d → opening kind.suite suite_marks (record { builder = b; words = words; text = d.text }) ≡ open_suite d
    unfolding open_suite
    suite-went n p = part-went e h cause.NotLayout (opening kind.suite suite_marks) words d.text n p

-- ---- a case: the test of the suite, its counts, the record
abbrev pub counted : Status → Draft → Outcome Draft
counted o d = counting d.builder.suite (with_case (counts_at d.words d.builder.suite) o) d

module _ (o : Status) (d : Draft) {there : Bool} (e : there ≡ is_of d.builder d.words d.builder.suite kind.suite) where
  pub case-refused : (words : List ℕ) → not there ≡ true → draft_of (Err cause.NotLayout) words d.text ≡ open_case o d
  unfolding open_case
  case-refused words h = unasked words d.text cause.NotLayout (counted o d >>= opening kind.case case_marks) e h

  module _ (h : not there ≡ false) (words : List ℕ) {s : Result Builder Cause} where
    pub case-stopped : {why : Cause} → s ≡ Err why → draft_of s words d.text ≡ counted o d → draft_of s words d.text ≡ open_case o d
    unfolding open_case
    case-stopped n p = part-stopped e h cause.NotLayout (opening kind.case case_marks) words d.text n p

    pub case-went : {b : Builder} → s ≡ Ok b → draft_of s words d.text ≡ counted o d → opening kind.case case_marks (record { builder = b; words = words; text = d.text }) ≡ open_case o d
    unfolding open_case
    case-went n p = part-went e h cause.NotLayout (opening kind.case case_marks) words d.text n p

-- ---- a case's main: k is its kind
module _ (o : Status) {k : ℕ} (e : k ≡ main_kind o) (d : Draft) where
  pub no_main : k ≡ 0 → draft_of (Ok d.builder) d.words d.text ≡ open_main o d
  unfolding open_main draft_of
  no_main z = rw (sym e ∙ z) refl

  pub main-went : (k ≡ 0 → ⊥) → opening k main_marks d ≡ open_main o d
  unfolding open_main
  main-went z = let q : eqb (main_kind o) 0 ≡ false = ne_eqb (main_kind o) 0 (λ y. z (e ∙ y)) in rw q (ap (λ (x : ℕ). opening x main_marks d) e)

-- ---- the end: the test of the report, the sums with the last suite
module _ (d : Draft) {there : Bool} (e : there ≡ is_of d.builder d.words d.builder.report kind.report) where
  pub finish-refused : (words : List ℕ) → not there ≡ true → draft_of (Err cause.NotLayout) words d.text ≡ finish d
  unfolding finish
  finish-refused words h = unasked words d.text cause.NotLayout (summing d >>= remarked no_marks) e h

  module _ (h : not there ≡ false) (words : List ℕ) {s : Result Builder Cause} where
    pub finish-stopped : {why : Cause} → s ≡ Err why → draft_of s words d.text ≡ summing d → draft_of s words d.text ≡ finish d
    unfolding finish
    finish-stopped n p = part-stopped e h cause.NotLayout (remarked no_marks) words d.text n p

    pub finish-went : {b r : Builder} → s ≡ Ok b → draft_of s words d.text ≡ summing d → r ≡ no_marks b → draft_of (Ok r) words d.text ≡ finish d
    unfolding finish
    finish-went n p m = done words d.text m ∙ part-went e h cause.NotLayout (remarked no_marks) words d.text n p
