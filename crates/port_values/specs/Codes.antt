-- Variants by their codes. Definitions only.
use Rattle.std.specs.Prelude.{ℕ, List, [], ◌∷◌, cond, length, get_or, ltb}
use Rattle.port_refusal.specs.of_refusal.Refusal.{Outcome as Result, refused, late}
use Rattle.port_refusal.specs.of_refusal.declared.Cause.TheVariants as cause
use Rattle.build_draft.specs.of_tree_counts.declared.Outcome.{Outcome}
use Rattle.build_draft.specs.of_tree_counts.declared.Outcome.TheVariants as outcome
use Rattle.build_draft.specs.declared.Element.{Element}
use Rattle.build_draft.specs.declared.Element.TheVariants as element
use Rattle.build_draft.specs.declared.Holder.{Holder}
use Rattle.build_draft.specs.declared.Holder.TheVariants as holder
use Rattle.build_draft.specs.declared.TextField.{TextField}
use Rattle.build_draft.specs.declared.TextField.TheVariants as field
use Rattle.build_draft.specs.declared.NumberField.{NumberField}
use Rattle.build_draft.specs.declared.NumberField.TheVariants as number
use Rattle.build_draft.specs.declared.NonSuccessKind.{NonSuccessKind}
use Rattle.build_draft.specs.declared.NonSuccessKind.TheVariants as kind
use Rattle.build_draft.specs.declared.FlakyOrRerun.{FlakyOrRerun}
use Rattle.build_draft.specs.declared.FlakyOrRerun.TheVariants as family

-- a code that is none is refused with 15
abbrev pub no_code_of : {A : Type 0} → Result A
no_code_of = refused (late cause.NotLayout)

-- a code is a place in the list of the variants; what follows counts only then
abbrev pub coded : {A B : Type 0} → List A → ℕ → Result B → Result B
coded variants code o = cond (ltb code (length variants)) o no_code_of

abbrev pub outcomes : List Outcome
outcomes = outcome.Success ∷ outcome.Failure ∷ outcome.Error ∷ outcome.Skipped ∷ []

abbrev pub outcome_at : ℕ → Outcome
outcome_at code = get_or outcomes code outcome.Skipped

abbrev pub elements : List Element
elements = element.Report ∷ element.Suite ∷ element.Case ∷ element.Status ∷ element.Last ∷ []

abbrev pub element_at : ℕ → Element
element_at code = get_or elements code element.Last

abbrev pub holders : List Holder
holders = holder.Suite ∷ holder.Case ∷ []

abbrev pub holder_at : ℕ → Holder
holder_at code = get_or holders code holder.Case

abbrev pub fields : List TextField
fields = field.Classname ∷ field.Message ∷ field.Ty ∷ field.Description ∷ field.StackTrace ∷ field.SystemOut ∷ field.SystemErr ∷ field.Hostname ∷ []

abbrev pub field_at : ℕ → TextField
field_at code = get_or fields code field.Hostname

abbrev pub numbers : List NumberField
numbers = number.Assertions ∷ number.Disabled ∷ []

abbrev pub number_at : ℕ → NumberField
number_at code = get_or numbers code number.Disabled

abbrev pub kinds : List NonSuccessKind
kinds = kind.Failure ∷ kind.Error ∷ []

abbrev pub kind_at : ℕ → NonSuccessKind
kind_at code = get_or kinds code kind.Error

abbrev pub families : List FlakyOrRerun
families = family.Flaky ∷ family.Rerun ∷ []

abbrev pub family_at : ℕ → FlakyOrRerun
family_at code = get_or families code family.Rerun
