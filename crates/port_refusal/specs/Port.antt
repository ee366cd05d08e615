-- Refusals as numbers only. Definitions only.
use Rattle.std.specs.Prelude.{ℕ, min, List, [], ◌∷◌, ◌++◌, get_or, replicate}
use Rattle.refusal.specs.Refusal.{nowhere, number, filler, Outcome, verdict_of, refusal_of}
use Rattle.refusal.specs.declared.Cause.{Cause}
use Rattle.refusal.specs.declared.Cause.TheVariants.{XmlFault, EofInSkip, NotUtf8, BadInteger, BadTimestamp, BadTime, BadUuid, MissingAttribute, MissingReport, EofInElement, StatusRule}
use Rattle.refusal.specs.declared.Cause.TheVariants.{UnknownEntity, FaultyAttribute, RepeatedKey, BadReference, BadTable, RecordsSpent}
use Rattle.refusal.specs.declared.Cause.TheVariants.{TextFull, ScratchFull, NotLayout, OutputFull, CountLimit, TooManyCases, NoSuchReport}
use Rattle.refusal.specs.declared.Cause.TheVariants.{TooManyReports, TimeLimit}
use Rattle.refusal.specs.declared.PathElement.{PathElement}
use Rattle.refusal.specs.declared.Refusal.{Refusal}
use Rattle.refusal.specs.declared.Verdict.{Verdict}
use Rattle.refusal.specs.declared.Verdict.TheVariants.{Accepted, Refused}
use Rattle.port_refusal.specs.declared.KRefusal.{KRefusal}

-- causes by their place in crate `refusal`, from 1 on
abbrev pub code : Cause → ℕ
code XmlFault = 1
code EofInSkip = 2
code NotUtf8 = 3
code BadInteger = 4
code BadTimestamp = 5
code BadTime = 6
code BadUuid = 7
code MissingAttribute = 8
code MissingReport = 9
code EofInElement = 10
code StatusRule = 11
code UnknownEntity = 12
code FaultyAttribute = 13
code RepeatedKey = 14
code BadReference = 15
code BadTable = 16
code RecordsSpent = 17
code TextFull = 18
code ScratchFull = 19
code NotLayout = 20
code OutputFull = 21
code CountLimit = 22
code TooManyCases = 23
code NoSuchReport = 24
code TooManyReports = 25
code TimeLimit = 26

abbrev pub element_words : PathElement → List ℕ
element_words e = e.kind ∷ e.index ∷ e.event ∷ []

-- six elements, one behind the other
abbrev pub path_words : List PathElement → List ℕ
path_words es =
    element_words (get_or es 0 filler) ++ (element_words (get_or es 1 filler) ++ (element_words (get_or es 2 filler)
    ++ (element_words (get_or es 3 filler) ++ (element_words (get_or es 4 filler) ++ element_words (get_or es 5 filler)))))

abbrev pub not_refused : KRefusal
not_refused = record { number = 0; cause = 0; depth = 0; path = replicate 18 0; event = nowhere; attribute = nowhere }

abbrev pub refused_port : Refusal → KRefusal
refused_port r =
    record {
      number = number r.cause;
      cause = code r.cause;
      depth = min r.path.len 6;
      path = path_words r.path.elements;
      event = r.event;
      attribute = r.attribute;
    }

abbrev pub port_refusal : Verdict → Refusal → KRefusal
port_refusal Accepted r = not_refused
port_refusal Refused r = refused_port r

-- of any answer
abbrev pub port_outcome : {A : Type 0} → Outcome A → KRefusal
port_outcome o = port_refusal (verdict_of o) (refusal_of o)
