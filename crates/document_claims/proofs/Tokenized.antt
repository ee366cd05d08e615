-- A document tokenized at the limits' size: 16, or a table of its events. Assumes nothing.
use Prim.Native.Nat.{ℕ, ◌≤◌, ◌<◌}
use mathlib.Core.Path.{◌≡◌, refl, ap, ◌∙◌}
use mathlib.Core.List.{List}
use mathlib.Core.Bool.{Bool, true, false}
use mathlib.Core.Logic.{◌⊎◌, inl, inr}
use native.Mathlib.Omega.{arith}
use borrow.Author.Tests.{leb-true, leb-false}
use lib.Dec.{leb}
use lib.ListN.{length}
use Rattle.xml_answer.specs.of_area.Limits.{most_bytes}
use Rattle.xml_answer.specs.of_refusal.Refusal.{nowhere, accepted}
use Rattle.xml_answer.specs.of_table.Table.{checked_answer}
use Rattle.round_claims.specs.of_read_report.Answer.{events_of}
use Rattle.round_claims.specs.Demand2.{Passes}
use Rattle.document_grammar.specs.of_xml_grammar.Documents.{WellFormed}
use Rattle.document_grammar.specs.of_xml_grammar.Documents as xml
use Rattle.document_grammar.specs.of_xml_machine.Tokens.{done-with, refused, room_of}
use Rattle.xml_claims.specs.of_xml_tokens.Due.{attributes_in}
use Rattle.xml_claims.specs.Tokenizing.{answer_to, in-document}
use Rattle.xml_claims.proofs.Tokenizing.{tokenizing}
use Rattle.document_claims.specs.XmlBack.{words, tokenized}

module _ (s : List ℕ) (w : WellFormed s) (h : length s ≤ most_bytes) where
  -- a table of the document's events, which 11 lets pass
  pub record Told : Type 0 where
    pub events : ℕ
    pub attributes : ℕ
    pub answers : answer_to s words words ≡ done-with events attributes
    pub passes : Passes (tokenized s events attributes)
    pub resolves : events_of (tokenized s events attributes) ≡ xml.events_of w

  abbrev many : ℕ
  many = length (xml.events_of w)

  abbrev many_attributes_of : ℕ
  many_attributes_of = attributes_in (xml.events_of w)

  overflows : (room_of words < many) ⊎ (room_of words < many_attributes_of) → answer_to s words words ≡ refused 16 nowhere
  overflows o = (tokenizing.sixteen s words words nowhere).1 (h, (many, many_attributes_of, in-document w, o), refl)

  told : many ≤ room_of words → many_attributes_of ≤ room_of words → Told
  told f g =
      let e = (tokenizing.accepts s words words many many_attributes_of).1 (h, (many, many_attributes_of, in-document w, f, g), (w, refl, refl)) in
      record {
        events = many;
        attributes = many_attributes_of;
        answers = e;
        passes = ap checked_answer (tokenizing.passes s words words many many_attributes_of e);
        resolves = tokenizing.resolves s words words many many_attributes_of e w;
      }

  pub tokenized-so : (answer_to s words words ≡ refused 16 nowhere) ⊎ Told
  tokenized-so = by (leb many (room_of words)) (leb many_attributes_of (room_of words)) refl refl
    where
      by : (x y : Bool) → leb many (room_of words) ≡ x → leb many_attributes_of (room_of words) ≡ y → (answer_to s words words ≡ refused 16 nowhere) ⊎ Told
      by true true e f = inr (told (leb-true many (room_of words) e) (leb-true many_attributes_of (room_of words) f))
      by true false e f = inl (overflows (inr (leb-false many_attributes_of (room_of words) f)))
      by false y e f = inl (overflows (inl (leb-false many (room_of words) e)))
