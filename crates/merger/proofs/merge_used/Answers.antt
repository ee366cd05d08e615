use Rattle.merger.proofs.Steps.{report-is, sums-good, sums-bad, sums_are, used-counts, used-time, used-room, left-zero}
use Rattle.merger.specs.inside.Whole.{report_in, left_by, tree_words, tree_texts}
use Rattle.merge_head.specs.inside.Head.{nanos_in}
use Rattle.merge_head.specs.of_build_draft.Parts.{counts_in}
use Rattle.merge_records.specs.of_tree_counts.Counts.{with_suite, counted_from}
use Rattle.clearing.specs.of_area.Answer.{Answer}
use lib.ListN.{length}
use lib.Dec.{leb}
use borrow.Author.Tests.{leb-false}
use mathlib.Core.Path.{sym, ap, ap₂, ◌∙◌}
use mathlib.Core.List.{List}
use Prim.Native.Nat.{ℕ, ◌+◌}
use Rattle.merger.proofs.merge_used.Goals as goal

pub returns-in_default : goal.returns-in_default
returns-in_default c =
    let start = c in
    let report-in = c.report_in-a in
    let s = start.args in
    let x = report-is s.first.now report-in.ensures in
    let y = report-is s.second.now c.report_in-b.ensures in
    let e = c.sums_of-sums.ensures ∙ ap₂ (λ (a b : List ℕ). counted_from (counts_in a) (with_suite (counts_in a) (counts_in b))) x y in
    let ca = counts_in (report_in s.first.now) in
    let cb = counts_in (report_in s.second.now) in
    let both = left-zero s.first.now s.first_text.now s.second.now s.second_text.now s.records.now s.text.now start.requires.1
    (used-counts s.first.now s.second.now (length s.records.now) (length s.text.now) (sums-bad ca cb e c.in_default.is)) in record { result_value = both.0; records_after = both.1.0; text_after = both.1.1 }

pub returns-then-is_long : goal.returns-then-is_long
returns-then-is_long c =
    let start = c in
    let report-in = c.report_in-a in
    let report-in2 = c.report_in-b in
    let sums-of = c.sums_of-sums in
    let s = start.args in
    let x = report-is s.first.now report-in.ensures in
    let y = report-is s.second.now report-in2.ensures in
    let e = sums-of.ensures ∙ ap₂ (λ (a b : List ℕ). counted_from (counts_in a) (with_suite (counts_in a) (counts_in b))) x y in
    let ca = counts_in (report_in s.first.now) in
    let cb = counts_in (report_in s.second.now) in
    let n = c.nanos_of-nanos.ensures ∙ ap₂ (λ (a b : List ℕ). nanos_in a + nanos_in b) x y in
    let both = left-zero s.first.now s.first_text.now s.second.now s.second_text.now s.records.now s.text.now
    start.requires.1 (used-time s.first.now s.second.now (length s.records.now) (length s.text.now)
    (sums-good ca cb e c.in-Accepted.is) (ap (leb 8388608000000000) (sym n) ∙ sym c.is_long.ensures ∙ c.if-is_long.true)) in record { result_value = both.0; records_after = both.1.0; text_after = both.1.1 }

pub place-requires : goal.place-requires
place-requires c =
    let start = c in
    let report-in = c.report_in-a in
    let report-in2 = c.report_in-b in
    let sums-of = c.sums_of-sums in
    let nanos-of = c.nanos_of-nanos in
    let is-long = c.is_long in
    let s = start.args in
    let x = report-is s.first.now report-in.ensures in
    let y = report-is s.second.now report-in2.ensures in
    let e = sums-of.ensures ∙ ap₂ (λ (a b : List ℕ). counted_from (counts_in a) (with_suite (counts_in a) (counts_in b))) x y in
    let ca = counts_in (report_in s.first.now) in
    let cb = counts_in (report_in s.second.now) in
    let n = nanos-of.ensures ∙ ap₂ (λ (a b : List ℕ). nanos_in a + nanos_in b) x y in (
      leb-false 8388608000000000 nanos-of.result (sym is-long.ensures ∙ c.if-is_long.false),
      sums_are ca cb e (sums-good ca cb e c.in-Accepted.is),
      n,
      start.requires.0,
      start.requires.1,
    )

pub returns : goal.returns
returns c =
    let report-in = c.report_in-a in
    let report-in2 = c.report_in-b in
    let sums-of = c.sums_of-sums in
    let nanos-of = c.nanos_of-nanos in
    let is-long = c.is_long in
    let if1 = c.if-is_long in
    let place = c.place in
    let s = c.args in
    let x = report-is s.first.now report-in.ensures in
    let y = report-is s.second.now report-in2.ensures in
    let e = sums-of.ensures ∙ ap₂ (λ (a b : List ℕ). counted_from (counts_in a) (with_suite (counts_in a) (counts_in b))) x y in
    let ca = counts_in (report_in s.first.now) in
    let cb = counts_in (report_in s.second.now) in
    let n = nanos-of.ensures ∙ ap₂ (λ (a b : List ℕ). nanos_in a + nanos_in b) x y in
    let u = used-room s.first.now s.second.now (length s.records.now) (length s.text.now)
    (sums-good ca cb e c.in-Accepted.is) (ap (leb 8388608000000000) (sym n) ∙ sym is-long.ensures ∙ if1.false) in record { result_value = place.ensures.result_value ∙ u; records_after = place.ensures.records_after ∙ ap (λ (o : Answer (Unit {0})). left_by o (length s.records.now) (tree_words s.first.now s.first_text.now s.second.now s.second_text.now)) u; text_after = place.ensures.text_after ∙ ap (λ (o : Answer (Unit {0})). left_by o (length s.text.now) (tree_texts s.first.now s.first_text.now s.second.now s.second_text.now)) u }
