-- The first and the last start of a run. Assumes nothing.
use Prim.Native.Nat.{ℕ, ◌+◌, ◌-◌, ◌*◌, ◌/◌, ◌%◌, ◌≤◌, ◌<◌}
use mathlib.Core.Path.{◌≡◌, refl}
use mathlib.Core.Bool.{true, false}
use mathlib.Core.List.{List, [], ◌∷◌}
use native.Mathlib.Omega.{arith}
use Rattle.tree_layout.specs.of_refusal.Refusal.{accepted, refused, late}
use Rattle.tree_layout.specs.of_refusal.declared.Cause.TheVariants as cause
use Rattle.tree_layout.specs.of_timestamp.declared.Moment.{Moment}
use Rattle.tree_layout.specs.of_tree_report.Layout.{layout}
use Rattle.tree_layout.specs.of_tree_report.ReportOf.{report_of}
use Rattle.starts.specs.Starts.{nanos_to, earliest, latest, not_found_of, between, starts_in, report_moments, starts_of}
use Rattle.starts.specs.FirstLast.{Spans, FirstLast}
use Rattle.starts.proofs.Winning.{first-wins, earlier-order, later-order, in_order}

together : (a b : ℕ) → a ≤ b → a + ((b - a) / 1000000000 * 1000000000 + (b - a) % 1000000000) ≡ b
together a b h = omega arith

part : (n : ℕ) → n % 1000000000 < 1000000000
part n = omega arith

spans : (m : Moment) (ms : List Moment) → Spans (m ∷ ms) (between (earliest m ms) (latest m ms))
spans m ms = record {
  found = refl;
  first = first-wins earlier-order m ms;
  last = first-wins later-order m ms;
  apart = together (nanos_to (earliest m ms)) (nanos_to (latest m ms)) (in_order m ms);
  under = part (nanos_to (latest m ms) - nanos_to (earliest m ms));
}

module _ (words text : List ℕ) where
  some-found : (m : Moment) (ms : List Moment) → layout words text ≡ true → report_moments (report_of words text) ≡ m ∷ ms
      → starts_of words text ≡ accepted (between (earliest m ms) (latest m ms))
  unfolding starts_of starts_in
  some-found m ms h e = rw (h, e) refl

  none_found : layout words text ≡ true → report_moments (report_of words text) ≡ [] → starts_of words text ≡ accepted not_found_of
  unfolding starts_of starts_in
  none_found h e = rw (h, e) refl

  no-layout : layout words text ≡ false → starts_of words text ≡ refused (late cause.NotLayout)
  unfolding starts_of
  no-layout h = rw h refl

pub first-last : FirstLast
first-last = record {
  some = λ words text m ms h e. record { extent = between (earliest m ms) (latest m ms); answer = some-found words text m ms h e; spans = spans m ms };
  none = none_found;
  no_layout = no-layout;
}
