-- Reports that are plain and don't fit XML: what tokenizing their documents answers. Definitions only.
use Rattle.std.specs.Prelude.{ℕ, ◌≡◌, Bool, true, false, not, ◌||◌, List, [], ◌∷◌, eqb}
use Rattle.std.proofs.Math.Option.{Option, none}
use Rattle.xml_grammar.specs.of_names.Bytes.{bytes}
use Rattle.document_events.specs.of_tree_report.Report.{Text, Pair, Report}
use Rattle.round_elements.specs.Plain.{sound, plain}
use Rattle.round_elements.specs.of_write_report.Written.{written}
use Rattle.round_elements.specs.of_write_spelled.Spelled.{spelled}
use Rattle.xml_machine.specs.Tokens.{Answer, tokens}
use Rattle.document_grammar.specs.XmlFit.{xml_fit}

-- a report of one suite, with these extras and this output
abbrev pub small : List Pair → Option Text → Report
small extra out = record {
  name = none;
  uuid = none;
  timestamp = none;
  time = none;
  counts = record { tests = 0; failures = 0; errors = 0; skipped = 0; disabled = none };
  suites =
      record {
        name = bytes "s";
        counts = record { tests = 0; failures = 0; errors = 0; skipped = 0; disabled = none };
        timestamp = none;
        time = none;
        hostname = none;
        cases = [];
        properties = [];
        system_out = out;
        system_err = none;
        extra = extra;
      } ∷ [];
}

abbrev pub keyed : Text → Text → Report
keyed k v = small (record { key = k; value = v } ∷ []) none

-- the document, tokenized where 16 events and 16 attributes have room
abbrev pub tokenized : Report → Answer
tokenized r = (tokens (spelled 0 false (written r)) 80 80).answer

abbrev pub Asked : Report → Bool → Answer → Type 0
Asked r fit a = (sound r ≡ true) × (plain r ≡ true) × (xml_fit r ≡ fit) × (tokenized r ≡ a)

-- neither U+FFFE nor U+FFFF
abbrev pub is_other : ℕ → Bool
is_other c = not (eqb c 0xFFFE || eqb c 0xFFFF)
