-- What a listing tells of its report. Definitions only.
use Rattle.std.specs.Prelude.{ℕ, ◌≤◌, ◌≡◌}
use Rattle.std.proofs.Math.Option.{Option, none, some}
use Rattle.list_text.specs.of_tree_report.Report.{Counts}
use Rattle.list_text.specs.Listing.{PublicReport, suite_texts, render_public}

-- a missing count counts 0
abbrev pub or_nothing : Option ℕ → ℕ
or_nothing none = 0
or_nothing (some n) = n

-- counts of 64 bits
pub record InLimit (c : Counts) : Type 0 where
  pub tests : c.tests ≤ 18446744073709551615
  pub failures : c.failures ≤ 18446744073709551615
  pub errors : c.errors ≤ 18446744073709551615
  pub skipped : c.skipped ≤ 18446744073709551615
  pub disabled : or_nothing c.disabled ≤ 18446744073709551615

-- equal listings tell the same name, the same counts, and the same text of the suites (rules L6 and L10)
abbrev pub Told : Type 0
Told = (r s : PublicReport) → InLimit r.counts → InLimit s.counts → render_public r ≡ render_public s
    → (r.name ≡ s.name) × (r.counts ≡ s.counts) × (suite_texts r.suites ≡ suite_texts s.suites)
