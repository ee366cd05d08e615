-- The places of the sentences in the code's table. Definitions only.
use Rattle.std.specs.Prelude.{ℕ, cond, ◌&&◌, leb, eqb}
use Rattle.explain_text.specs.of_area.Limits.{most_words, most_bytes}
use Rattle.explain_text.specs.of_refusal.declared.Cause.{Cause}
use Rattle.explain_text.specs.of_refusal.declared.Cause.TheVariants.{XmlFault, EofInSkip, NotUtf8, BadInteger, BadTimestamp, BadTime, BadUuid, MissingAttribute, MissingReport, EofInElement, StatusRule}
use Rattle.explain_text.specs.of_refusal.declared.Cause.TheVariants.{UnknownEntity, FaultyAttribute, RepeatedKey, BadReference, BadTable, RecordsSpent}
use Rattle.explain_text.specs.of_refusal.declared.Cause.TheVariants.{TextFull, ScratchFull, NotLayout, OutputFull, CountLimit, TooManyCases, NoSuchReport}
use Rattle.explain_text.specs.of_refusal.declared.Cause.TheVariants.{TooManyReports, TimeLimit}

abbrev pub place_of : Cause → ℕ
place_of XmlFault = 0
place_of EofInSkip = 1
place_of NotUtf8 = 2
place_of BadInteger = 3
place_of BadTimestamp = 4
place_of BadTime = 5
place_of BadUuid = 6
place_of MissingAttribute = 7
place_of MissingReport = 8
place_of EofInElement = 9
place_of StatusRule = 10
place_of UnknownEntity = 11
place_of FaultyAttribute = 12
place_of RepeatedKey = 13
place_of BadReference = 14
place_of BadTable = 15
place_of RecordsSpent = 16
place_of TextFull = 17
place_of ScratchFull = 18
place_of NotLayout = 19
place_of OutputFull = 20
place_of CountLimit = 21
place_of TooManyCases = 26
place_of NoSuchReport = 27
place_of TooManyReports = 28
place_of TimeLimit = 29

-- of a sentence on an area that was lent with so many words or bytes
abbrev pub place_by : ℕ → ℕ → ℕ
place_by place lent =
    cond (eqb place 16 && leb most_words lent) 22
    (cond (eqb place 17 && leb most_bytes lent) 23 (cond (eqb place 18 && leb most_bytes lent) 24 (cond (eqb place 20 && leb most_bytes lent) 25 place)))
