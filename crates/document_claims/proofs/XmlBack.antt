-- A plain report's XML document is read back: a proof of each claim. Assumes nothing.
use Prim.Native.Nat.{ℕ, ◌≤◌}
use mathlib.Core.Path.{◌≡◌, sym, ap, ◌∙◌, subst}
use mathlib.Core.List.{List}
use mathlib.Core.Bool.{true, false}
use mathlib.Core.Logic.{◌⊎◌, inl, inr}
use native.Mathlib.Omega.{arith}
use lib.ListN.{length, take}
use Rattle.xml_answer.specs.of_area.Limits.{most_records, most_bytes}
use Rattle.xml_answer.specs.of_refusal.Refusal.{nowhere, accepted}
use Rattle.xml_answer.specs.of_table.Event.{Event}
use Rattle.xml_answer.specs.of_tree_report.Report.{Report}
use Rattle.xml_answer.specs.of_tree_report.Encode.{rows_of}
use Rattle.round_claims.specs.of_read_element.Outcome.{unlimited}
use Rattle.round_claims.specs.of_read_report.Deserialize.{Reader, steps, begin, deserialize}
use Rattle.round_claims.specs.of_read_report.Answer.{Holds}
use Rattle.xml_answer.specs.of_write_report.Written.{written}
use Rattle.document_grammar.specs.of_round_elements.Plain.{plain, sound}
use Rattle.round_claims.specs.of_round_sound.Words.{are_words}
use Rattle.round_claims.specs.of_scratch_claims.Scratch.{longest}
use Rattle.round_claims.proofs.of_round_trip.OwnTable.{own-bytes}
use Rattle.round_claims.specs.Demand2.{limits, Suffice}
use Rattle.round_claims.proofs.Demand2.{demand_2}
use Rattle.document_grammar.specs.of_xml_grammar.Documents.{WellFormed}
use Rattle.document_grammar.specs.of_xml_grammar.Documents as xml
use Rattle.document_grammar.specs.of_xml_machine.Tokens.{refused}
use Rattle.xml_claims.specs.Tokenizing as token
use Rattle.xml_answer.specs.Answer.{document}
use Rattle.document_grammar.specs.of_document_events.inside.Respelt.{Respelt}
use Rattle.document_grammar.specs.XmlFit.{xml_fit}
use Rattle.document_grammar.proofs.Documents.{document-derives}
use Rattle.document_reading.proofs.Back.{Read, respelt-read, respelt-back}
use Rattle.document_claims.specs.XmlBack.{words, tokenized, ReadBack, too_many_of, back, XmlBack}
use Rattle.document_reading.proofs.Sizes.{document-pieces}
use Rattle.document_reading.proofs.Gathered.{longest-pieces}
use Rattle.document_claims.proofs.InUse.{document-within, document-used}
use Rattle.document_claims.proofs.Tokenized.{Told, tokenized-so}

module _ (r : Report) (s : sound r ≡ true) (p : plain r ≡ true) (f : xml_fit r ≡ true) where
  derives : (w : WellFormed (document r)) × Respelt false (written r) (xml.events_of w)
  unfolding document
  derives = document-derives r f

  abbrev derivation : WellFormed (document r)
  derivation = derives.0

  on-lists : (w : WellFormed (document r)) × (deserialize (xml.events_of w) ≡ accepted r)
  on-lists = (derivation, respelt-back r (xml.events_of derivation) s p derives.1)

  -- where reading the document's events ends
  ended : (end : Reader) × (steps unlimited (xml.events_of derivation) begin ≡ accepted end) × Read r end
  ended = respelt-read r (xml.events_of derivation) s p derives.1

  module _ (rows : length (rows_of r) ≤ most_records) (within : length (document r) ≤ most_bytes) where
    suffices : (t : Told (document r) derivation within) (output : ℕ) → Suffice (tokenized (document r) t.events t.attributes) (limits output)
    suffices t output =
        let n = ended.2.records in
        let m = ended.2.text in
        let l = own-bytes r p in
        let e = t.resolves in
        let k = ap longest e in
        record {
          last = ended.0;
          ends = ap (λ (es : List Event). steps unlimited es begin) e ∙ ended.1;
          records = omega arith;
          texts = omega arith;
          scratch = omega (arith, longest-pieces (xml.events_of derivation), document-pieces derivation);
        }

    read_back : ReadBack (document r) r
    unfolding suffices
    read_back = go (tokenized-so (document r) derivation within)
      where
        go : (token.answer_to (document r) words words ≡ refused 16 nowhere) ⊎ Told (document r) derivation within → ReadBack (document r) r
        go (inl e) = too_many_of e
        go (inr t) = back t.events t.attributes t.answers λ output.
            demand_2.suffices (tokenized (document r) t.events t.attributes) (limits output) t.passes (suffices t output) ∙ ap accepted ended.2.report

pub xml-back : XmlBack
xml-back =
    record {
      on_lists = on-lists;
      on_areas = λ words text r n a h p f e.
          let g = demand_2.holds_fitting words text r a h in
          subst (λ (s : List ℕ). ReadBack s r) (sym (document-used words text r h n e))
          (read_back r g.0 p f (let l = g.1 in omega arith) (document-within words text r h n e));
    }
