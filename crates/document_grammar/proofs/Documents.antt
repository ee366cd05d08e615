-- The document of a report that fits XML is well-formed, and its events are the written ones as they come back. Assumes nothing.
use Prim.Native.Nat.{ℕ}
use mathlib.Core.Path.{◌≡◌, refl, sym, ap, ◌∙◌, subst}
use mathlib.Core.List.{List, [], ◌∷◌, ◌++◌, append_assoc}
use mathlib.Core.Bool.{true, false}
use Rattle.xml_grammar.specs.of_names.Bytes.{bytes}
use Rattle.document_events.specs.of_utf8.Characters.{encode}
use Rattle.xml_grammar.specs.of_table.Event.{Event, Eof}
use Rattle.document_events.specs.of_tree_report.Report.{Report}
use Rattle.round_elements.specs.of_write_report.Written.{start_tag, end_tag, indent, each, serialize_test_suite, report_attributes, declaration as declaring, serialize_report, written}
use Rattle.round_elements.specs.of_write_spelled.Spelled.{spelled}
use Rattle.document_events.specs.inside.Respelt.{Respelt, declared as declared-so, ended}
use Rattle.xml_grammar.specs.of_xml_chars.Chars.{lower, double}
use Rattle.xml_grammar.specs.of_xml_chars.Bytes.{utf8}
use Rattle.xml_grammar.proofs.of_xml_chars.Encoding.{utf8_append}
use Rattle.xml_grammar.specs.Grammar.{no_char, a-char, chars, declares, absent, present, version, encoding, Declaration, declaration, declared, last-space, Document, document}
use Rattle.xml_grammar.specs.Events.{document_of, table_events}
use Rattle.xml_grammar.specs.Documents.{WellFormed, unmarked, events_of}
use Rattle.document_grammar.specs.XmlFit.{xml_fit}
use Rattle.document_grammar.proofs.Elements.{Derives}
use Rattle.document_grammar.proofs.Numbers.{spelled-ranked, renumbered}
use Rattle.document_grammar.proofs.Reports.{report-whole}

abbrev words : List ℕ
words = bytes "xml version=\"1.0\" encoding=\"UTF-8\""

declares-both : Declaration words
unfolding lower
declares-both =
    declaration (declares {w = 32 ∷ []} {v = bytes "1.0"} (chars refl no_char) no_char no_char double (version (chars refl no_char)))
    (present (declares {w = 32 ∷ []} {v = bytes "UTF-8"} (chars refl no_char) no_char no_char double (encoding refl))) absent no_char

module _ (r : Report) (e : xml_fit r ≡ true) where
  abbrev suites : List Event
  suites = each serialize_test_suite r.suites

  abbrev root : List Event
  root = start_tag (bytes "testsuites") (report_attributes r) ∷ (suites ++ (end_tag (bytes "testsuites") ∷ []))

  whole : serialize_report r ≡ declaring ∷ (root ++ (Eof ∷ indent ∷ []))
  unfolding serialize_report
  whole =
      ap (λ x. declaring ∷ start_tag (bytes "testsuites") (report_attributes r) ∷ x) (sym (append_assoc suites (end_tag (bytes "testsuites") ∷ []) (Eof ∷ indent ∷ [])))

  top : Derives 0 root
  top = report-whole r e 0

  -- the declaration and its newline
  abbrev front : List ℕ
  front = 0x3C ∷ 0x3F ∷ (words ++ (0x3F ∷ 0x3E ∷ (10 ∷ [])))

  unfoldable derived : Document (front ++ (top.chars ++ (10 ∷ [])))
  derived = document (declared declares-both (last-space (a-char refl no_char))) top.element (last-space (a-char refl no_char))

  front_same : utf8 front ≡ front
  unfolding encode
  front_same = refl

  all-bytes : utf8 (front ++ (top.chars ++ (10 ∷ []))) ≡ front ++ (utf8 top.chars ++ (10 ∷ []))
  unfolding encode
  all-bytes = utf8_append front (top.chars ++ (10 ∷ [])) ∙ ap (λ x. x ++ utf8 (top.chars ++ (10 ∷ []))) front_same ∙ ap (λ x. front ++ x) (utf8_append top.chars (10 ∷ []))

  spelt : spelled 0 false (written r) ≡ utf8 (front ++ (top.chars ++ (10 ∷ [])))
  unfolding spelled written declaring
  spelt =
      spelled-ranked (serialize_report r) 0 false 0
      ∙ ap (spelled 0 false) whole
      ∙ ap (λ x. 0x3C ∷ 0x3F ∷ (words ++ (0x3F ∷ 0x3E ∷ x))) (top.spelt true (Eof ∷ indent ∷ []))
      ∙ sym all-bytes

  abbrev well_formed : WellFormed (spelled 0 false (written r))
  well_formed = record { front = []; chars = front ++ (top.chars ++ (10 ∷ [])); skipped = unmarked; spelt = spelt; derived = derived }

  document-respelt : Respelt false (serialize_report r) (document_of derived)
  unfolding declaring encode derived
  document-respelt = subst (λ x. Respelt false x (document_of derived)) (sym whole) (declared-so (top.respelt false (10 ∷ []) refl (ended (10 ∷ []) refl refl)))

  respelt : Respelt false (written r) (table_events derived)
  unfolding written
  respelt = renumbered document-respelt 0 0

-- the bytes that a report is written as are a document, whose events are the written ones as they come back (rules W17 to W19)
pub document-derives : (r : Report) → xml_fit r ≡ true → (w : WellFormed (spelled 0 false (written r))) × Respelt false (written r) (events_of w)
document-derives r e = (well_formed r e, respelt r e)
