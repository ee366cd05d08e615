-- The cases of gathered texts in short areas. Assumes nothing.
use mathlib.Core.Path.{refl}
use Rattle.public_claims.specs.of_utf8.Utf8 as utf8
use Rattle.public_claims.specs.of_utf8.Characters as chars
use Rattle.public_claims.specs.of_names.Names.{code_from, same_bytes}
use Rattle.public_claims.specs.of_names.Keys.{keys}
use Rattle.public_claims.specs.of_names.Tags.{tags}
use Rattle.public_claims.specs.of_reference.Reference as reference
use Rattle.public_claims.specs.of_table.Table as table
use Rattle.public_claims.specs.of_table.Event as event
use Rattle.public_claims.specs.of_tree_status.Status.{tallied, ruled}
use Rattle.public_claims.specs.of_tree_report.Layout as layout
use Rattle.public_claims.specs.of_tree_report.ReportOf.{report_of}
use Rattle.public_claims.specs.of_read_keys.Roles as role
use Rattle.public_claims.specs.of_tree_record.Record.{marked}
use Rattle.public_claims.specs.of_read_element.Outcome as outcome
use Rattle.public_claims.specs.of_read_element.Attributes as attributes
use Rattle.public_claims.specs.of_read_state.Control as control
use Rattle.public_claims.specs.of_read_rules.Rules as rules
use Rattle.public_claims.specs.of_read_place.Marks.{marks_after}
use Rattle.public_claims.specs.of_read_content.Content as content
use Rattle.public_claims.specs.of_read_machine.Machine as machine
use Rattle.public_claims.specs.of_read_machine.Reading as reading
use Rattle.public_cases.specs.ShortAreas.{ShortCases}

pub short-cases : ShortCases
unfolding utf8.need utf8.low utf8.high code_from same_bytes keys tags
    reference.entities reference.entity_chars reference.is_entity reference.entity_char reference.is_char_ref reference.ref_at
    reference.base reference.digits_in reference.number reference.xml_char chars.encode
    table.good_attribute table.good_shape table.bad_from table.check_event table.check_from table.good_sizes table.check_of
    event.attributes_from event.event_of event.event_at event.resolve_from event.resolve tallied ruled
    layout.records_from layout.records_of report_of
    role.role_in role.report_role role.suite_role role.case_role role.property_role role.status_role role.role_of marked
    outcome.◌>>=◌ outcome.there outcome.need outcome.fits
    attributes.read_text attributes.new_extra attributes.read_extra attributes.by_role attributes.read_attributes attributes.complete attributes.read_element
    rules.outputs rules.emptied rules.at_top rules.at_suite rules.at_case rules.child rules.at_status rules.in_text
    rules.in_list_of rules.in_skip rules.plan_at rules.plan_eof control.or_skip control.gathers control.turn marks_after
    content.piece_of content.gather content.adding content.keeping content.describing content.outputting content.perform
    machine.act machine.step machine.run reading.read_as reading.reading
short-cases = record { fits = refl; short = refl; stored = refl; bad = refl; apart = refl }
