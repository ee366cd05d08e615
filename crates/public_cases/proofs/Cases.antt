-- The proved cases. Assumes nothing.
use mathlib.Core.Path.{◌≡◌, refl}
use lib.Ieee.{add, sum, div, of_int, round, units, odd, size, span, climb}
use lib.Count.{count_trailing_zeros}
use Rattle.public_claims.specs.of_utf8.Utf8 as utf8
use Rattle.public_claims.specs.of_utf8.Characters as chars
use Rattle.public_claims.specs.of_names.Bytes.{bytes}
use Rattle.public_claims.specs.of_names.Names.{code_from, same_bytes}
use Rattle.public_claims.specs.of_names.Keys.{keys}
use Rattle.public_claims.specs.of_names.Tags.{tags}
use Rattle.public_claims.specs.of_digits.Digits as digits
use Rattle.public_claims.specs.of_integer.Integer.{unsigned}
use Rattle.public_claims.specs.of_time.Time.{make_time}
use Rattle.public_claims.specs.of_time_text.Written.{time_text, thousandths_of, float_sum}
use Rattle.public_claims.specs.of_calendar.Calendar.{is_leap, month_length}
use Rattle.public_claims.specs.of_timestamp.Timestamp as stamp
use Rattle.public_claims.specs.of_uuids.Uuid.{is_uuid, uuid_of}
use Rattle.public_claims.specs.of_reference.Reference as reference
use Rattle.public_claims.specs.of_escape.Escape.{letter, listed}
use Rattle.public_claims.specs.of_table.Table as table
use Rattle.public_claims.specs.of_table.Event as event
use Rattle.public_claims.specs.of_tree_status.Status.{tallied, ruled}
use Rattle.public_claims.specs.of_tree_report.Layout as layout
use Rattle.public_claims.specs.of_tree_report.ReportOf.{report_of}
use Rattle.public_claims.specs.of_read_keys.Roles as role
use Rattle.public_claims.specs.of_tree_record.Record.{marked}
use Rattle.public_claims.specs.of_read_element.Outcome as outcome
use Rattle.public_claims.specs.of_read_element.Attributes as attributes
use Rattle.public_claims.specs.of_read_state.Control as control
use Rattle.public_claims.specs.of_read_rules.Rules as rules
use Rattle.public_claims.specs.of_read_place.Marks.{marks_after}
use Rattle.public_claims.specs.of_read_content.Content as content
use Rattle.public_claims.specs.of_read_machine.Machine as machine
use Rattle.public_claims.specs.of_read_machine.Reading as reading
use Rattle.public_claims.specs.of_list_text.Listing as listing
use Rattle.public_claims.specs.PublicListing as public
use Rattle.write_answer.specs.of_write_escape.Escape as escape
use Rattle.write_answer.specs.of_write_moment.Written as moment
use Rattle.write_answer.specs.of_write_uuid.Written as uuid
use Rattle.write_answer.specs.of_write_report.Written as write
use Rattle.write_answer.specs.Answer as answer
use Rattle.public_cases.specs.Document.{source_of}
use Rattle.public_cases.specs.Cases.{All, no-case, one-case, worked_document, agreeing, cases}

-- the first case is the example that docs/RULES.md has for the listing, letter by letter
pub worked-source
    : source_of worked_document
    ≡ bytes
    "<testsuites name=\"r\" tests=\"2\"><testsuite name=\"lab\" tests=\"2\"><testcase name=\"a\" time=\"0.5\"/><testcase name=\"b\"><failure message=\"m\"/><rerunFailure/></testcase></testsuite></testsuites>"
worked-source = refl

-- the public cases as one theorem, which the theorem of all cases takes up
pub proved-cases : All cases
unfolding utf8.need utf8.low utf8.high code_from same_bytes keys tags
    digits.digit digits.is_number digits.places digits.decimal unsigned make_time
    time_text thousandths_of float_sum add sum div of_int round units odd size span climb count_trailing_zeros
    is_leap month_length stamp.is_timestamp stamp.timestamp_of is_uuid uuid_of
    reference.entities reference.entity_chars reference.is_entity reference.entity_char reference.is_char_ref reference.ref_at
    reference.base reference.digits_in reference.number reference.xml_char chars.encode letter listed
    table.good_attribute table.good_shape table.bad_from table.check_event table.check_from table.good_sizes table.check_of
    event.attributes_from event.event_of event.event_at event.resolve_from event.resolve tallied ruled
    layout.good_text layout.good_record layout.may_end layout.may_follow layout.following layout.good_order layout.records_from
    layout.records_of layout.layout layout.good report_of
    role.role_in role.report_role role.suite_role role.case_role role.property_role role.status_role role.role_of marked
    outcome.◌>>=◌ outcome.there outcome.need outcome.fits
    attributes.read_text attributes.new_extra attributes.read_extra attributes.by_role attributes.read_attributes attributes.complete attributes.read_element
    rules.outputs rules.emptied rules.at_top rules.at_suite rules.at_case rules.child rules.at_status rules.in_text
    rules.in_list_of rules.in_skip rules.plan_at rules.plan_eof control.or_skip control.gathers control.turn marks_after
    content.piece_of content.gather content.adding content.keeping content.describing content.outputting content.perform
    machine.act machine.step machine.run reading.read_as reading.reading
    listing.run_text listing.case_text listing.suite_text listing.header listing.render_public listing.render listing.listing_of listing.listing_answer
    listing.output_of public.public_listing
    escape.written moment.date_text moment.clock_text moment.offset_text moment.timestamp_text uuid.hex_digit uuid.uuid_text
    write.serialize_output write.serialize_property write.serialize_properties write.serialize_outputs write.serialize_status write.serialize_rerun
    write.serialize_elements write.serialize_test_case write.serialize_test_suite write.declaration write.serialize_report write.numbered write.written
    answer.events_of
proved-cases =
    one-case refl (one-case refl (one-case refl (one-case refl (one-case refl (one-case refl (one-case refl
    (one-case refl (one-case refl (one-case refl (one-case refl (one-case refl (one-case refl (one-case refl
    (one-case refl (one-case refl (one-case refl (one-case refl (one-case refl (one-case refl (one-case refl (one-case {c = agreeing} (refl, refl, refl)
    (one-case refl (one-case refl (one-case refl (one-case refl
    (one-case refl (one-case refl (one-case refl (one-case refl
    (one-case refl (one-case refl (one-case refl (one-case refl (one-case refl (one-case refl (one-case refl (one-case refl
    (one-case refl (one-case refl (one-case refl (one-case refl (one-case refl
    (one-case refl (one-case refl (one-case refl (one-case refl no-case))))))))))))))))))))))))))))))))))))))))))))))
