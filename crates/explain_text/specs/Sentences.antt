-- Each cause in plain words: what is wrong, or what stands there where it is right. Definitions only.
use Rattle.std.specs.Prelude.{ℕ, List, cond, leb}
use Rattle.text.specs.of_area.Limits.{most_words, most_bytes}
use Rattle.text.specs.of_names.Bytes.{bytes}
use Rattle.text.specs.of_refusal.declared.Cause.{Cause}
use Rattle.text.specs.of_refusal.declared.Cause.TheVariants.{XmlFault, EofInSkip, NotUtf8, BadInteger, BadTimestamp, BadTime, BadUuid, MissingAttribute, MissingReport, EofInElement, StatusRule}
use Rattle.text.specs.of_refusal.declared.Cause.TheVariants.{UnknownEntity, FaultyAttribute, RepeatedKey, BadReference, BadTable, RecordsSpent}
use Rattle.text.specs.of_refusal.declared.Cause.TheVariants.{TextFull, ScratchFull, NotLayout, OutputFull, CountLimit, TooManyCases, NoSuchReport}
use Rattle.text.specs.of_refusal.declared.Cause.TheVariants.{TooManyReports, TimeLimit}

-- of an area that was lent with so many words or bytes and is too short: other words from the limits' size on, where a longer one wouldn't help (rule E6)
abbrev pub within : (most lent : ℕ) → (short many : List ℕ) → List ℕ
within most lent short many = cond (leb most lent) many short

-- rules E1 and E6
unfoldable pub sentence : Cause → ℕ → List ℕ
sentence XmlFault lent = bytes "the XML is broken here"
sentence EofInSkip lent = bytes "the report ends inside an element that is passed over"
sentence NotUtf8 lent = bytes "the text is not UTF-8"
sentence BadInteger lent = bytes "a count must be digits, with or without a plus sign before them, and at most 18446744073709551615"
sentence BadTimestamp lent =
    bytes "a timestamp must be a date, a time below second 60 and an offset, as in 2024-02-29T23:59:59.5+01:00 or 2024-02-29T22:59:59Z, with at most nine digits behind the point"
sentence BadTime lent = bytes "a time must be digits with at most nine behind the point, under 8388608 seconds"
sentence BadUuid lent = bytes "a UUID must be 32 hexadecimal digits with four hyphens, as in 01234567-89ab-cdef-0123-456789abcdef"
sentence MissingAttribute lent = bytes "this attribute is missing"
sentence MissingReport lent = bytes "the report ends before a testsuites element begins"
sentence EofInElement lent = bytes "the report ends inside this element"
sentence StatusRule lent = bytes "a case may have only one of failure, error and skipped; reruns go only with a failure or error; flaky runs go with neither reruns nor skipped"
sentence UnknownEntity lent = bytes "this reference is unknown: only &amp; &lt; &gt; &apos; &quot; and numbers, as in &#65;, are known"
sentence FaultyAttribute lent = bytes "an attribute is malformed"
sentence RepeatedKey lent = bytes "an attribute is given twice"
sentence BadReference lent = bytes "an ampersand must begin &amp; &lt; &gt; &apos; &quot; or the number of an XML character, as in &#65; or &#x41;"
sentence BadTable lent = bytes "the event table is malformed or above the limits"
sentence RecordsSpent lent = within most_words lent (bytes "the area for records is too short") (bytes "the report has more than 65536 records")
sentence TextFull lent = within most_bytes lent (bytes "the area for texts is too short") (bytes "the report's texts are longer than 16777216 bytes")
sentence ScratchFull lent = within most_bytes lent (bytes "the area for gathering text is too short") (bytes "a gathered text is longer than 16777216 bytes")
sentence NotLayout lent = bytes "the areas hold no report that this call fits"
sentence OutputFull lent =
    within most_bytes lent (bytes "the area for output is too short") (bytes "an area for output is too short, or the table has more than 65536 events, 65536 attributes or 16777216 bytes")
sentence CountLimit lent = bytes "a count would pass 18446744073709551615"
sentence TooManyCases lent = bytes "a report to order has at most 4096 cases"
sentence NoSuchReport lent = bytes "failures, errors, skipped and flaky cases together are more than the cases"
sentence TooManyReports lent = bytes "a release sheet takes the counts of at most 4096 reports"
sentence TimeLimit lent = bytes "the times of the two reports together reach 8388608 seconds"
