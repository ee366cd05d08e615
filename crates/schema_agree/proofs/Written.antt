-- What is written of an element, by its table: the names of its attributes in their order (rules W2 and W6), and what a failure or error
-- has. Assumes nothing.
use mathlib.Core.Bool.{Bool}
use mathlib.Core.List.{[], ◌∷◌, map}
use mathlib.Core.Path.{◌≡◌, refl}
use Rattle.read_content.specs.of_names.Bytes.{bytes}
use Rattle.read_content.specs.of_tree_report.Report.{Reason}
use Rattle.write_items.specs.of_write_report.Written.{attributes_by, status_attributes}
use Rattle.read_content.specs.of_schema.Schema.{report, suite, case, main, skipped, run, property}
use Rattle.read_content.specs.of_schema.Elements.{main_fields}
use Rattle.read_content.specs.of_schema.Lookups.{names_in}

pub report-names
    : names_in report
    ≡ bytes "name" ∷ bytes "tests" ∷ bytes "skipped" ∷ bytes "failures" ∷ bytes "errors" ∷ bytes "disabled" ∷ bytes "uuid" ∷ bytes "timestamp" ∷ bytes "time" ∷ []
report-names = refl

-- errors before failures, other than on the report
pub suite-names
    : names_in suite
    ≡ bytes "name" ∷ bytes "tests" ∷ bytes "skipped" ∷ bytes "errors" ∷ bytes "failures" ∷ bytes "disabled" ∷ bytes "timestamp" ∷ bytes "time" ∷ bytes "hostname" ∷ []
suite-names = refl

pub case-names : names_in case ≡ bytes "name" ∷ bytes "classname" ∷ bytes "assertions" ∷ bytes "timestamp" ∷ bytes "time" ∷ []
case-names = refl

pub run-names : names_in run ≡ bytes "timestamp" ∷ bytes "time" ∷ bytes "message" ∷ bytes "type" ∷ []
run-names = refl

pub status-names : map names_in (main ∷ skipped ∷ []) ≡ (bytes "message" ∷ bytes "type" ∷ []) ∷ (bytes "message" ∷ bytes "type" ∷ []) ∷ []
status-names = refl

pub property-names : names_in property ≡ bytes "name" ∷ bytes "value" ∷ []
property-names = refl

pub main-written : (b : Bool) (r : Reason) → attributes_by main (main_fields b r) ≡ status_attributes r.message r.type
main-written b r = refl
