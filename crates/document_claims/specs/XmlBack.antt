-- A written report's XML document is read back (rule W21). The claims are types; proofs/XmlBack.antt has a proof of each.
-- Definitions only.
--
-- Whoever wants to be sure of what is claimed reads these definitions, with docs/RULES.md beside them:
--   document, wrote_xml, document_left (crate xml_answer: Answer)     a report's document; what writing it answers and leaves in its area
--   xml_fit (crate document_grammar: XmlFit)                         extra keys are XML names, texts are XML characters
--   plain, sound (crate round_elements: Plain)                      which reports are read back; what the values of each are
--   WellFormed, events_of (crate xml_grammar: Documents)             bytes that are a document; the events of a derivation
--   tokens (crate xml_machine: Tokens)                              what tokenizing answers and leaves: characterised by crate xml_claims
--   deserialize, answer_to, Holds (crate read_report)                what reading events, and a table in areas, gives; when areas hold a report
use Rattle.std.specs.Prelude.{ℕ, ◌*◌, ◌≡◌, List, true, take}
use Rattle.xml_answer.specs.of_area.Limits.{most_entries, most_bytes}
use Rattle.xml_answer.specs.of_refusal.Refusal.{nowhere, accepted}
use Rattle.xml_answer.specs.of_tree_report.Report.{Report}
use Rattle.round_claims.specs.of_read_report.Deserialize.{deserialize}
use Rattle.round_claims.specs.of_read_report.Answer.{Table, answer_to, Holds}
use Rattle.document_grammar.specs.of_round_elements.Plain.{plain, sound}
use Rattle.round_claims.specs.of_round_sound.Words.{are_words}
use Rattle.round_claims.specs.Demand2.{limits}
use Rattle.document_grammar.specs.of_xml_grammar.Documents.{WellFormed, events_of}
use Rattle.document_grammar.specs.of_xml_machine.Tokens.{done-with, refused}
use Rattle.xml_claims.specs.Tokenizing as token
use Rattle.xml_answer.specs.Answer.{document, wrote_xml, document_left}
use Rattle.document_grammar.specs.XmlFit.{xml_fit}

-- the words of a table's events or attributes at the limits' size (rule T8)
abbrev pub words : ℕ
words = most_entries * 5

-- the table of n events and m attributes that tokenizing at the limits' size leaves
abbrev pub tokenized : List ℕ → ℕ → ℕ → Table
tokenized s n m = record { events = token.event_table s words words n; attributes = token.attribute_table s words words m; source = s }

-- bytes that are read back as a report: tokenized and read at the limits' size, unless they have more events or attributes than these hold (16)
pub data ReadBack (s : List ℕ) (r : Report) : Type 0 where
  too_many_of : token.answer_to s words words ≡ refused 16 nowhere → ReadBack s r
  back : (n m : ℕ) → token.answer_to s words words ≡ done-with n m → ((output : ℕ) → answer_to (tokenized s n m) (limits output) ≡ accepted r) → ReadBack s r

-- ---- the claims
pub record XmlBack : Type 0 where
  -- A. The theorem on lists: a plain report's document is well-formed, and its events are read as the report.
  pub on_lists : (r : Report) → sound r ≡ true → plain r ≡ true → xml_fit r ≡ true → (w : WellFormed (document r)) × (deserialize (events_of w) ≡ accepted r)
  -- B. The theorem on areas: so it is through the areas of all three calls.
  pub on_areas : (words text : List ℕ) (r : Report) (n : ℕ) → are_words words ≡ true → Holds r words text → plain r ≡ true → xml_fit r ≡ true →
      wrote_xml words text most_bytes ≡ accepted n → ReadBack (take n (document_left words text most_bytes)) r
