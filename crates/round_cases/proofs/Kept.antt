-- What a plain report may have is read back, and what it may not have is found at each place. Assumes nothing.
use mathlib.Core.Path.{◌≡◌, refl}
use mathlib.Core.Bool.{true, not, ◌&&◌}
use lib.Ieee.{add, sum, div, of_int, round, units, odd, size, span, climb}
use lib.Count.{count_trailing_zeros}
use Rattle.public_cases.specs.of_utf8.Utf8 as utf8
use Rattle.public_cases.specs.of_utf8.Characters as chars
use Rattle.public_cases.specs.of_names.Names.{code_from, same_bytes}
use Rattle.public_cases.specs.of_names.Keys.{keys}
use Rattle.public_cases.specs.of_names.Tags.{tags}
use Rattle.public_cases.specs.of_digits.Digits as digits
use Rattle.public_cases.specs.of_integer.Integer.{unsigned}
use Rattle.public_cases.specs.of_time.Time.{make_time}
use Rattle.public_cases.specs.of_time_text.Written.{time_text, thousandths_of, float_sum}
use Rattle.public_cases.specs.of_calendar.Calendar.{is_leap, month_length}
use Rattle.public_cases.specs.of_timestamp.Timestamp as stamp
use Rattle.public_cases.specs.of_uuids.Uuid.{is_uuid, uuid_of}
use Rattle.public_cases.specs.of_reference.Reference as reference
use Rattle.public_cases.specs.of_tree_status.Status.{tallied, ruled}
use Rattle.public_cases.specs.of_tree_report.Encode as encode
use Rattle.public_cases.specs.of_read_keys.Roles as role
use Rattle.public_cases.specs.of_tree_record.Record.{marked}
use Rattle.public_cases.specs.of_read_element.Outcome as outcome
use Rattle.public_cases.specs.of_read_element.Attributes as attributes
use Rattle.public_cases.specs.of_read_state.Control as control
use Rattle.public_cases.specs.of_read_rules.Rules as rules
use Rattle.public_cases.specs.of_read_place.Marks.{marks_after}
use Rattle.public_cases.specs.of_read_content.Content as content
use Rattle.round_elements.specs.of_read_machine.Machine as machine
use Rattle.round_elements.specs.of_read_machine.Reading.{deserialize}
use Rattle.public_cases.specs.of_write_escape.Escape as escape
use Rattle.public_cases.specs.of_write_moment.Written as moment
use Rattle.public_cases.specs.of_write_uuid.Written as uuid
use Rattle.round_elements.specs.of_write_report.Written as write
use Rattle.round_elements.specs.of_write_table.Laid as laid
use Rattle.round_elements.specs.Plain as plain
use Rattle.public_cases.specs.Cases as public
use Rattle.public_cases.proofs.Cases.{proved-cases as public-cases}
use Rattle.public_cases.specs.of_tree_report.Report.{Report}
use Rattle.round_cases.specs.Cases.{All, no-case, one_kept, cases}
use Rattle.round_cases.specs.Kept.{kept_cases, plain_keys, unplain}
use Rattle.round_cases.proofs.Cases.{proved-cases}

pub kept-cases : All kept_cases
unfolding utf8.need utf8.low utf8.high chars.encode code_from same_bytes keys tags
    digits.digit digits.is_number digits.places digits.decimal unsigned make_time
    time_text thousandths_of float_sum add sum div of_int round units odd size span climb count_trailing_zeros
    is_leap month_length stamp.places stamp.is_utc stamp.is_timestamp stamp.timestamp_of stamp.in_range is_uuid uuid_of
    reference.entities reference.entity_chars reference.is_entity reference.entity_char reference.is_char_ref reference.ref_at
    tallied ruled encode.fits_row encode.encode
    role.role_in role.report_role role.suite_role role.case_role role.property_role role.status_role role.role_of marked
    outcome.◌>>=◌ outcome.there outcome.need outcome.fits
    attributes.read_text attributes.new_extra attributes.read_extra attributes.by_role attributes.read_attributes attributes.complete attributes.read_element
    rules.outputs rules.at_top rules.at_suite rules.at_case rules.child rules.at_status rules.in_text rules.in_list_of rules.plan_at rules.plan_eof control.gathers control.turn marks_after
    content.piece_of content.gather content.adding content.keeping content.describing content.outputting content.perform
    machine.act machine.step machine.run deserialize
    escape.written moment.date_text moment.clock_text moment.offset_text moment.timestamp_text uuid.hex_digit uuid.uuid_text
    write.serialize_output write.serialize_property write.serialize_properties write.serialize_outputs write.serialize_status write.serialize_rerun
    write.serialize_elements write.serialize_test_case write.serialize_test_suite write.declaration write.serialize_report write.numbered write.written
    laid.items_of laid.event_words laid.attribute_words laid.laid_bytes laid.laid_out
    plain.plain plain.sound
kept-cases =
    one_kept refl refl refl (
    one_kept refl refl refl (
    one_kept refl refl refl (
    one_kept refl refl refl (
    one_kept refl refl refl (
    one_kept refl refl refl (
    one_kept refl refl refl (
    one_kept refl refl refl (
    one_kept refl refl refl (
    one_kept refl refl refl (
    one_kept refl refl refl (
    one_kept refl refl refl (
    one_kept refl refl refl (
    one_kept refl refl refl (
    one_kept refl refl refl (
    one_kept refl refl refl (
    one_kept refl refl refl (
    one_kept refl refl refl (
    one_kept refl refl refl (
    one_kept refl refl refl (
    one_kept refl refl refl (
    one_kept refl refl refl (
    one_kept refl refl refl (
    one_kept refl refl refl (
    one_kept refl refl refl (
    one_kept refl refl refl (
    one_kept refl refl refl (
    no-case)))))))))))))))))))))))))))

pub keys-plain : encode.every (λ (r : Report). plain.sound r && plain.plain r) plain_keys ≡ true
unfolding utf8.need utf8.low utf8.high same_bytes digits.digit digits.places digits.decimal encode.fits_row escape.written
    write.serialize_properties write.serialize_outputs write.serialize_elements write.serialize_test_case write.serialize_test_suite write.declaration write.serialize_report
    write.numbered write.written laid.items_of laid.event_words laid.attribute_words laid.laid_bytes laid.laid_out plain.plain plain.sound
keys-plain = refl

-- sound, but not plain
pub none-plain : encode.every (λ (r : Report). plain.sound r && not (plain.plain r)) unplain ≡ true
unfolding utf8.need utf8.low utf8.high same_bytes is_leap month_length stamp.in_range encode.fits_row plain.plain plain.sound
none-plain = refl

-- the cases that the rules name, and these
pub all-proved-cases : public.All public.cases × All cases × All kept_cases
all-proved-cases = (public-cases, proved-cases, kept-cases)
