-- The refusal that numbers stand for, also made-up ones. Definitions only.
use Rattle.std.specs.Prelude.{ℕ, min, List, [], ◌∷◌, get_or}
use Rattle.refusal.specs.declared.Cause.{Cause}
use Rattle.refusal.specs.declared.Cause.TheVariants.{XmlFault, EofInSkip, NotUtf8, BadInteger, BadTimestamp, BadTime, BadUuid, MissingAttribute, MissingReport, EofInElement, StatusRule}
use Rattle.refusal.specs.declared.Cause.TheVariants.{UnknownEntity, FaultyAttribute, RepeatedKey, BadReference, BadTable, RecordsSpent}
use Rattle.refusal.specs.declared.Cause.TheVariants.{TextFull, ScratchFull, NotLayout, OutputFull, CountLimit, TooManyCases, NoSuchReport}
use Rattle.refusal.specs.declared.Cause.TheVariants.{TooManyReports, TimeLimit}
use Rattle.refusal.specs.declared.PathElement.{PathElement}
use Rattle.refusal.specs.declared.Path.{Path}
use Rattle.refusal.specs.declared.Refusal.{Refusal}
use Rattle.port_refusal.specs.declared.KRefusal.{KRefusal}

-- by their codes
abbrev pub causes : List Cause
causes =
    BadTable
    ∷ XmlFault
    ∷ EofInSkip
    ∷ NotUtf8
    ∷ BadInteger
    ∷ BadTimestamp
    ∷ BadTime
    ∷ BadUuid
    ∷ MissingAttribute
    ∷ MissingReport
    ∷ EofInElement
    ∷ StatusRule
    ∷ UnknownEntity
    ∷ FaultyAttribute
    ∷ RepeatedKey
    ∷ BadReference
    ∷ BadTable
    ∷ RecordsSpent
    ∷ TextFull
    ∷ ScratchFull
    ∷ NotLayout
    ∷ OutputFull
    ∷ CountLimit
    ∷ TooManyCases
    ∷ NoSuchReport
    ∷ TooManyReports
    ∷ TimeLimit
    ∷ []

-- a code that is none counts as BadTable
abbrev pub cause_at : ℕ → Cause
cause_at n = get_or causes n BadTable

abbrev pub element_from : List ℕ → ℕ → ℕ → ℕ → PathElement
element_from words i j k = record { kind = get_or words i 0; index = get_or words j 0; event = get_or words k 0 }

abbrev pub path_elements : List ℕ → List PathElement
path_elements words =
    element_from words 0 1 2
    ∷ element_from words 3 4 5
    ∷ element_from words 6 7 8
    ∷ element_from words 9 10 11
    ∷ element_from words 12 13 14
    ∷ element_from words 15 16 17
    ∷ []

-- a depth above six counts as six
abbrev pub plain_path : KRefusal → Path
plain_path k = record { elements = path_elements k.path; len = min k.depth 6 }

abbrev pub plain_refusal : KRefusal → Refusal
plain_refusal k = record { cause = cause_at k.cause; path = plain_path k; event = k.event; attribute = k.attribute }
