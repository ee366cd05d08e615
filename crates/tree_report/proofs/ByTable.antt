-- A report's, suite's or case's record by its table, in the parts that laws are about. Assumes nothing.
use Prim.Native.Nat.{ℕ, ◌+◌}
use mathlib.Core.Bool.{Bool, true, false, cond, ◌&&◌}
use mathlib.Core.List.{List}
use mathlib.Core.Path.{◌≡◌, refl, ap, ◌∙◌}
use native.Mathlib.Omega.{arith}
use lib.Dec.{eqb}
use lib.ListN.{get_or}
use Rattle.tree_report.specs.Fields.{has_bit}
use Rattle.tree_report.specs.Layout.{zero_at}
use Rattle.tree_report.specs.inside.Parts.{slot, text_slot, only_bits, good_report, good_suite, good_case, report_bits, suite_bits, case_bits}
use Rattle.tree_report.specs.inside.Parts.{good_common, good_outputs, good_counts, good_host, good_text_at, bits_of}
use Rattle.schema.specs.Schema.{report, suite, case, text, time, timestamp, number, uuid, may}
use Rattle.schema.specs.Records.{good, good_slot, good_from, good_value, value_at, is_set, bits_in}

order : (s₁ s₂ m t y : Bool) → (s₁ && (s₂ && (m && (t && y)))) ≡ (m && t) && ((s₁ && s₂) && y)
order true true true t y = refl
order true true false t y = refl
order true false true true y = refl
order true false true false y = refl
order true false false t y = refl
order false s₂ true true y = refl
order false s₂ true false y = refl
order false s₂ false t y = refl

parts : (e h g z s₁ s₂ m t y : Bool)
    → (e && ((h && g) && (s₁ && (s₂ && (m && (t && y)))))) ≡ (e && (h && ((cond h g z && (m && t)) && ((s₁ && s₂) && y))))
parts false h g z s₁ s₂ m t y = refl
parts true false g z s₁ s₂ m t y = refl
parts true true false z s₁ s₂ m t y = refl
parts true true true z s₁ s₂ m t y = order s₁ s₂ m t y

report-parts : (e n u m t y : Bool) → (e && (n && (u && (m && (t && y))))) ≡ (e && ((n && (m && t)) && (u && y)))
report-parts false n u m t y = refl
report-parts true false u m t y = refl
report-parts true true true true true y = refl
report-parts true true true true false y = refl
report-parts true true true false t y = refl
report-parts true true false true true y = refl
report-parts true true false true false y = refl
report-parts true true false false t y = refl

module _ (texts r : List ℕ) where
  pub report-good : good_report texts r ≡ (only_bits report_bits r && (good_common texts r && (slot (has_bit 1 r) true (zero_at r 4 4) && good_counts r)))
  unfolding good good_report good_common good_counts good_text_at
  report-good =
      let e : bits_in report r ≡ bits_of report_bits r = omega arith in
      ap (λ (n : ℕ). eqb (get_or r 1 0) n && good_from texts r 2 report) e
      ∙ report-parts (eqb (get_or r 1 0) (bits_of report_bits r)) (good_slot texts r (may 0) text 2) (good_slot texts r (may 1) uuid 4)
      (good_slot texts r (may 3) timestamp 8) (good_slot texts r (may 4) time 16) (good_slot texts r (may 8) number 26 && zero_at r 28 4)

  pub suite-good : good_suite texts r ≡ (only_bits suite_bits r && (has_bit 0 r && (good_common texts r && (good_outputs texts r && good_host texts r))))
  unfolding good good_suite good_common good_outputs good_host good_text_at
  suite-good =
      let e : bits_in suite r ≡ bits_of suite_bits r = omega arith in
      ap (λ (n : ℕ). eqb (get_or r 1 0) n && good_from texts r 2 suite) e
      ∙ parts (eqb (get_or r 1 0) (bits_of suite_bits r)) (is_set 0 r) (good_value texts text (value_at text r 2)) (zero_at r 2 2)
      (good_slot texts r (may 1) text 4) (good_slot texts r (may 2) text 6) (good_slot texts r (may 3) timestamp 8) (good_slot texts r (may 4) time 16)
      (good_slot texts r (may 8) number 26 && (good_slot texts r (may 10) text 28 && zero_at r 30 2))

  pub case-good : good_case texts r
      ≡ (only_bits case_bits r && (has_bit 0 r && (good_common texts r && (good_outputs texts r && (text_slot texts r 5 18 && (slot (has_bit 6 r) true (zero_at r 20 2) && zero_at r 22 10))))))
  unfolding good good_case good_common good_outputs good_text_at
  case-good =
      let e : bits_in case r ≡ bits_of case_bits r = omega arith in
      ap (λ (n : ℕ). eqb (get_or r 1 0) n && good_from texts r 2 case) e
      ∙ parts (eqb (get_or r 1 0) (bits_of case_bits r)) (is_set 0 r) (good_value texts text (value_at text r 2)) (zero_at r 2 2)
      (good_slot texts r (may 1) text 4) (good_slot texts r (may 2) text 6) (good_slot texts r (may 3) timestamp 8) (good_slot texts r (may 4) time 16)
      (good_slot texts r (may 5) text 18 && (good_slot texts r (may 6) number 20 && zero_at r 22 10))
