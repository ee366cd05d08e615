-- The cases of gathered texts in short areas, over the definition on values. Assumes nothing.
use Prim.Native.Nat.{ℕ}
use mathlib.Core.List.{List, [], ◌∷◌, map}
use mathlib.Core.Path.{◌≡◌, refl}
use Rattle.scratch_claims.specs.of_utf8.Utf8 as utf8
use Rattle.scratch_claims.specs.of_utf8.Characters as chars
use Rattle.scratch_claims.specs.of_names.Names.{code_from, same_bytes}
use Rattle.scratch_claims.specs.of_names.Keys.{keys}
use Rattle.scratch_claims.specs.of_names.Tags.{tags}
use Rattle.scratch_claims.specs.of_reference.Reference as reference
use Rattle.scratch_claims.specs.of_table.Table as table
use Rattle.scratch_claims.specs.of_table.Event as event
use Rattle.scratch_claims.specs.of_table.Event.{resolve}
use Rattle.scratch_claims.specs.of_tree_status.Status.{tallied, ruled}
use Rattle.scratch_claims.specs.of_read_element.Outcome as outcome
use Rattle.scratch_claims.specs.of_read_state.Control as control
use Rattle.scratch_claims.specs.of_read_rules.Rules as rules
use Rattle.scratch_claims.specs.of_read_place.Marks.{marks_after}
use Rattle.scratch_claims.specs.of_read_content.Content as content
use Rattle.scratch_claims.specs.of_read_report.Deserialize as new
use Rattle.scratch_claims.specs.of_read_report.Answer.{Table, answer_to}
use Rattle.scratch_claims.specs.Scratch.{longest_from, longest}
use Rattle.public_cases.specs.Document.{events_of, attributes_of, source_of}
use Rattle.public_cases.specs.ShortAreas.{Short, longest_fits, one_short, text_short, bad_first, texts_apart}

abbrev table_for : Short → Table
table_for c = record { events = events_of c.document; attributes = attributes_of c.document; source = source_of c.document }

abbrev Answers : Short → Type 0
Answers c = answer_to (table_for c) (record { words = 320; text = c.text; scratch = c.scratch; output = 0 }) ≡ c.answer

record ShortCases : Type 0 where
  fits : Answers longest_fits
  short : Answers one_short
  stored : Answers text_short
  bad : Answers bad_first
  apart : Answers texts_apart

short-cases : ShortCases
unfolding utf8.need utf8.low utf8.high code_from same_bytes keys tags
    reference.entities reference.entity_chars reference.is_entity reference.entity_char reference.is_char_ref reference.ref_at
    reference.base reference.digits_in reference.number reference.xml_char chars.encode
    table.good_attribute table.good_shape table.bad_from table.check_event table.check_from table.good_sizes table.check_of
    event.attributes_from event.event_of event.event_at event.resolve_from event.resolve tallied ruled
    outcome.◌>>=◌ outcome.there outcome.need outcome.fits
    rules.outputs rules.emptied rules.at_top rules.at_suite rules.at_case rules.child rules.at_status rules.in_text
    rules.in_list_of rules.in_skip rules.plan_at rules.plan_eof control.or_skip control.gathers control.turn marks_after content.piece_of
    new.attributes new.completed new.element new.perform new.gather new.act new.step new.steps new.deserialize_in answer_to
short-cases = record { fits = refl; short = refl; stored = refl; bad = refl; apart = refl }

-- the longest text: a description that goes on, a child's, one of four, whatever the sum; up to the first refusal
abbrev longest_in : Short → ℕ
longest_in c = longest (resolve (table_for c).events (table_for c).attributes (table_for c).source)

longest-texts : map longest_in (longest_fits ∷ text_short ∷ bad_first ∷ texts_apart ∷ []) ≡ 4 ∷ 2 ∷ 2 ∷ 4 ∷ []
unfolding utf8.need utf8.low utf8.high code_from same_bytes keys tags
    reference.entities reference.entity_chars reference.is_entity reference.entity_char reference.is_char_ref reference.ref_at
    reference.base reference.digits_in reference.number reference.xml_char chars.encode
    table.good_attribute table.good_shape table.bad_from table.check_event table.check_from table.good_sizes table.check_of
    event.attributes_from event.event_of event.event_at event.resolve_from event.resolve tallied ruled
    outcome.◌>>=◌ outcome.there outcome.need outcome.fits
    rules.outputs rules.emptied rules.at_top rules.at_suite rules.at_case rules.child rules.at_status rules.in_text
    rules.in_list_of rules.in_skip rules.plan_at rules.plan_eof control.or_skip control.gathers control.turn marks_after content.piece_of
    new.attributes new.completed new.element new.perform new.gather new.act new.step new.steps longest_from
longest-texts = refl
