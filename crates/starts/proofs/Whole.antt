-- The answer whole. Assumes nothing.
use Prim.Native.Nat.{ℕ, ◌*◌, min}
use mathlib.Core.Path.{◌≡◌, refl, sym, ap, ◌∙◌}
use mathlib.Core.List.{List}
use mathlib.Core.Bool.{true, false, ◌&&◌, and-eq-true_iff}
use lib.ListN.{length, take, drop}
use Rattle.tree_layout.specs.of_area.Limits.{most_words}
use Rattle.tree_layout.specs.of_refusal.Refusal.{refused, late, no_refusal}
use Rattle.tree_layout.specs.of_refusal.declared.Refusal.{Refusal}
use Rattle.tree_layout.specs.of_refusal.declared.Cause.TheVariants as cause
use Rattle.tree_layout.specs.of_refusal.declared.Verdict.TheVariants.{Accepted}
use Rattle.tree_layout.specs.of_tree_report.Layout.{used_words, used_text, filled, good_text, all_good, good_order, nothing, all_zero, records_of, layout}
use Rattle.tree_layout.specs.of_tree_report.ReportOf.{report_of}
use Rattle.list_values.proofs.Cutting.{take-least}
use Rattle.list_sums.specs.inside.Rows.{records_in}
use Rattle.list_sums.proofs.Used.{records-used}
use Rattle.starts.specs.declared.Extent.{Extent}
use Rattle.starts.specs.declared.Started.{Started}
use Rattle.start_ends.specs.declared.Ends.{Ends}
use Rattle.std.specs.Prelude.{Option}
use Rattle.starts.specs.Starts.{starts_in, report_moments, starts_of}
use Rattle.starts.specs.Answer.{started_from}
use Rattle.start_ends.specs.inside.Ends.{start_of, no_ends, ends_from}
use Rattle.starts.specs.inside.Extents.{starts_by}
use Rattle.starts.proofs.Order.{moments_in, moments-live, report-moments}
use Rattle.starts.proofs.Values.{along, all_small, fold-starts}

module _ (words text : List ℕ) where
  parts : layout words text ≡ true → (all_good (filled (used_text text)) (records_of words) ≡ true) × (good_order nothing (records_of words) ≡ true)
  unfolding layout
  parts e =
      let rs = records_of words in
      let good = all_good (filled (used_text text)) (records_of words) in
      let order = good_order nothing (records_of words) in
      let zero = all_zero (drop (length (records_of words) * 32) (used_words words)) in
      let p = ((and-eq-true_iff (good_text (used_text text)) (good && (order && zero))).0 e).1 in
      let q = (and-eq-true_iff good (order && zero)).0 p in
      (q.0, ((and-eq-true_iff order zero).0 q.1).0)

  moments : good_order nothing (records_of words) ≡ true → moments_in (records_of words) ≡ report_moments (report_of words text)
  unfolding report_of
  moments g = sym (report-moments (used_text text) (records_of words) g ∙ moments-live (records_of words))

  found : layout words text ≡ true → starts_by (ends_from start_of no_ends (records_of words)) ≡ starts_in (report_moments (report_of words text))
  found e =
      let p = parts e in
      ap starts_by (along (filled (used_text text)) no_ends (records_of words) p.0)
      ∙ fold-starts (moments_in (records_of words)) (all_small (filled (used_text text)) (records_of words) p.0)
      ∙ ap starts_in (moments p.1)

  used : (limit : ℕ) → limit ≡ min (length words) most_words → records_in (take limit words) ≡ records_of words
  used limit p = ap records_in (ap (λ (n : ℕ). take n words) p ∙ take-least words most_words) ∙ records-used words

  pub no-layout : {r : Started} → r ≡ started_from (refused (late cause.NotLayout)) → layout words text ≡ false → r ≡ started_from (starts_of words text)
  unfolding starts_of
  no-layout e h = e ∙ rw h refl

  accepted-whole : {s : Extent} {f : Refusal} → layout words text ≡ true → s ≡ starts_in (report_moments (report_of words text)) → f ≡ no_refusal
      → ◌≡◌ {A = Started} (record { verdict = Accepted; starts = s; refusal = f }) (started_from (starts_of words text))
  unfolding starts_of
  accepted-whole h p q = rw (h, p, q) refl

  pub starts-whole : {limit : ℕ} {e : Option Ends} {s : Extent} {f : Refusal} → layout words text ≡ true → limit ≡ min (length words) most_words
      → e ≡ ends_from start_of no_ends (records_in (take limit words)) → s ≡ starts_by e → f ≡ no_refusal
      → ◌≡◌ {A = Started} (record { verdict = Accepted; starts = s; refusal = f }) (started_from (starts_of words text))
  starts-whole {limit} h l e s f =
      accepted-whole h (s ∙ ap starts_by (e ∙ ap (ends_from start_of no_ends) (used limit l)) ∙ found h) f
