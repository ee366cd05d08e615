-- Why an output must hold its text alone: with a tag between two texts, the white space before it would be read as text. Assumes nothing.
use mathlib.Core.Bool.{true, false}
use mathlib.Core.List.{List, [], ◌∷◌, ◌++◌, map}
use mathlib.Core.Option.{Option, some}
use mathlib.Core.Path.{◌≡◌, refl}
use Rattle.xml_grammar.specs.of_names.Bytes.{bytes}
use Rattle.xml_grammar.specs.of_names.Names.{same_bytes, code_from}
use Rattle.xml_grammar.specs.of_names.Keys.{keys}
use Rattle.xml_grammar.specs.of_names.Tags.{tags}
use Rattle.read_spelling.specs.of_utf8.Utf8 as utf8
use Rattle.read_spelling.specs.of_refusal.Refusal.{Outcome, accepted, refused}
use Rattle.xml_grammar.specs.of_table.Event.{Attribute, Start, End, Text, Indent, Event, Tag, Piece, Eof}
use Rattle.read_spelling.specs.of_tree_report.Report.{Text as Bytes, TestSuite, Report}
use Rattle.read_spelling.specs.of_read_element.Outcome as outcome
use Rattle.read_spelling.specs.of_read_state.Control as reach
use Rattle.read_spelling.specs.of_read_rules.Rules as rules
use Rattle.read_spelling.specs.of_read_place.Marks.{marks_after}
use Rattle.document_events.specs.of_read_content.Content.{piece_of}
use Rattle.read_spelling.specs.of_read_report.Deserialize as read
use Rattle.read_spelling.specs.of_read_report.Deserialize.{deserialize_in, deserialize}
use Rattle.document_events.specs.inside.Respelt.{Respelt, a-tag, a-text, ended, no-piece, a_piece}

abbrev named : List Attribute
named = record { good = true; key = bytes "name"; value = bytes "s" } ∷ []

-- `a<b>c</b>` in an output of a suite, with this before `<b>`
abbrev around : List Event → List Event
around w =
    Tag Start (bytes "testsuites") 0 [] ∷ Tag Start (bytes "testsuite") 0 named ∷ Tag Start (bytes "system-out") 0 [] ∷ Piece Text (bytes "a") ∷ (w
    ++ (Tag Start (bytes "b") 0 [] ∷ Piece Text (bytes "c") ∷ Tag End (bytes "b") 0 [] ∷ Tag End (bytes "system-out") 0 []
    ∷ Tag End (bytes "testsuite") 0 [] ∷ Tag End (bytes "testsuites") 0 [] ∷ Eof ∷ []))

abbrev written : List Event
written = around [] ++ (Piece Indent (10 ∷ []) ∷ [])

abbrev tokenized : List Event
tokenized = around (Piece Text (10 ∷ []) ∷ [])

abbrev outputs : Outcome Report → List (Option Bytes)
outputs (accepted r) = map (λ (s : TestSuite). s.system_out) r.suites
outputs (refused why) = []

respelt : Respelt false written tokenized
unfolding piece_of utf8.need utf8.low utf8.high
respelt =
    a-tag [] 0 refl (a-tag [] 0 refl (a-tag [] 0 refl
    (a-text {v = bytes "a"} refl (a_piece {v = bytes "a"} refl no-piece)
    (a-tag (10 ∷ []) 0 refl
    (a-text {v = bytes "c"} refl (a_piece {v = bytes "c"} refl no-piece)
    (a-tag [] 0 refl (a-tag [] 0 refl (a-tag [] 0 refl (a-tag [] 0 refl (ended [] refl refl) refl) refl) refl) refl) refl) refl) refl) refl) refl) refl

otherwise : (outputs (deserialize written) ≡ some (bytes "ac") ∷ []) × (outputs (deserialize tokenized) ≡ some (bytes "a" ++ (10 ∷ bytes "c")) ∷ [])
unfolding utf8.need utf8.low utf8.high code_from same_bytes keys tags piece_of
    outcome.◌>>=◌ outcome.there outcome.need outcome.fits
    rules.outputs rules.at_top rules.at_suite rules.in_text rules.plan_at rules.plan_eof reach.turn reach.gathers marks_after
    read.attributes read.completed read.element read.perform read.gather read.act read.step read.steps deserialize_in deserialize
otherwise = (refl, refl)
