-- What counting answers, through codes. Assumes nothing.
use Prim.Native.Nat.{ℕ, ◌<◌}
use mathlib.Core.Path.{◌≡◌, sym, ap, ◌∙◌}
use lib.ListN.{length}
use Rattle.sheet_text.specs.of_tree_counts.declared.Counts.{Counts}
use Rattle.sheet_text.specs.of_tree_counts.declared.Counted.{Counted}
use Rattle.sheet_text.specs.of_tree_counts.declared.Outcome.{Outcome}
use Rattle.sheet_text.specs.of_tree_counts.Counts.{with_case, counted_from}
use Rattle.port_values.specs.Values.{port_counted, counted_port}
use Rattle.port_values.specs.Codes.{outcomes, outcome_at, coded}
use Rattle.port_values.proofs.Coded.{is_code}

pub counted-case : (p : Counts) (code : ℕ) {a : Counted} {o : Outcome} → o ≡ outcome_at code → code < length outcomes
    → a ≡ counted_from p (with_case p o) → port_counted a ≡ counted_port p (coded outcomes code (with_case p (outcome_at code)))
counted-case p code named known e =
    ap port_counted
    (e ∙ ap (λ (s : Outcome). counted_from p (with_case p s)) named ∙ ap (counted_from p) (sym (is_code outcomes code (with_case p (outcome_at code)) known)))
