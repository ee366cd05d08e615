-- The report that an accepted run leaves shows what the public events say. Assumes nothing.
use Prim.Native.Nat.{ℕ}
use mathlib.Core.Path.{◌≡◌, refl, sym, ap, subst, ◌∙◌}
use mathlib.Core.List.{List, ◌++◌}
use mathlib.Core.Option.{Option, none, some}
use Rattle.read_report.specs.of_refusal.Refusal.{accepted}
use Rattle.read_report.specs.of_table.Event.{Event}
use Rattle.list_text.specs.of_tree_report.Report.{Report}
use Rattle.list_text.specs.of_tree_report.Fields.{live}
use Rattle.list_text.specs.of_tree_report.ReportOf.{only, report_from}
use Rattle.read_report.specs.of_read_element.Outcome.{Rooms}
use Rattle.read_report.specs.of_read_machine.Machine.{Machine, run, begin}
use Rattle.list_text.specs.Listing.{PublicReport, render, rendered_or}
use Rattle.public_claims.specs.Agree.{public}
use Rattle.public_claims.specs.inside.PublicMachine.{report_in, public_report, rendered_public, public_text}
use Rattle.public_claims.proofs.Trees.{public_or, report-same}
use Rattle.public_claims.proofs.Plans.{run-shows}
use Rattle.public_claims.specs.OwnStatus.{own_statuses, cases_listed, Ruled}
use Rattle.public_claims.proofs.OwnCases.{cases-ruled}

-- the report that an accepted run leaves, with whatever stands behind its texts
abbrev pub report_left : Machine → List ℕ → Option Report
report_left s u = report_from (s.content.texts ++ u) (only live s.content.records)

rendered-public : (r : Option Report) → rendered_or r ≡ rendered_public (public_or r)
unfolding render
rendered-public none = refl
rendered-public (some r) = refl

-- what is shown of it is what the public machine reads
pub public-report : (rooms : Rooms) (es : List Event) (s : Machine) → run rooms es begin ≡ accepted s → (u : List ℕ) → public_or (report_left s u) ≡ public_report (public es)
unfolding public_report
public-report rooms es s e u =
    let r = run-shows rooms es s e in
    report-same (s.content.texts ++ u) s.content.records r.2 r.1 ∙ ap report_in (r.0 u)

-- with any room, its listing is the public machine's
pub listing-public : (rooms : Rooms) (es : List Event) (s : Machine) → run rooms es begin ≡ accepted s → (u : List ℕ) → rendered_or (report_left s u) ≡ public_text (public es)
unfolding public_text
listing-public rooms es s e u = rendered-public (report_left s u) ∙ ap rendered_public (public-report rooms es s e u)

-- each case's status, run kind and number of runs are what the status rule gives for its own status elements
pub listed-ruled : (rooms : Rooms) (es : List Event) (s : Machine) → run rooms es begin ≡ accepted s → (u : List ℕ) → Ruled (cases_listed (public_or (report_left s u))) (own_statuses (public es))
listed-ruled rooms es s e u = subst (λ (r : Option PublicReport). Ruled (cases_listed r) (own_statuses (public es))) (sym (public-report rooms es s e u)) (cases-ruled rooms es s e)
