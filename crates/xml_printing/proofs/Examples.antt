-- The public listing of a document, computed: its table's, or `(refused)` where there is none. Assumes nothing.
use mathlib.Core.Path.{◌≡◌, refl}
use mathlib.Core.List.{[]}
use lib.ListN.{replicate}
use Rattle.xml_call.specs.of_utf8.Utf8 as utf8
use Rattle.xml_call.specs.of_names.Bytes.{bytes}
use Rattle.xml_call.specs.of_names.Names.{code_from, same_bytes}
use Rattle.xml_call.specs.of_names.Keys.{keys}
use Rattle.xml_call.specs.of_names.Tags.{tags}
use Rattle.xml_call.specs.of_digits.Digits as digits
use Rattle.xml_call.specs.of_escape.Escape.{letter, listed}
use Rattle.xml_call.specs.of_table.Table as table
use Rattle.xml_call.specs.of_table.Event as event
use Rattle.xml_call.specs.of_tree_record.Record.{marked}
use Rattle.xml_call.specs.of_tree_status.Status.{tallied, ruled}
use Rattle.xml_call.specs.of_tree_report.Layout as layout
use Rattle.xml_call.specs.of_tree_report.ReportOf.{report_of}
use Rattle.xml_call.specs.of_read_keys.Roles as role
use Rattle.xml_call.specs.of_read_element.Outcome as outcome
use Rattle.xml_call.specs.of_read_element.Attributes as attributes
use Rattle.xml_call.specs.of_read_state.Control as control
use Rattle.xml_call.specs.of_read_rules.Rules as rules
use Rattle.xml_call.specs.of_read_place.Marks.{marks_after}
use Rattle.xml_call.specs.of_read_content.Content as content
use Rattle.xml_call.specs.of_read_machine.Machine as machine
use Rattle.xml_call.specs.of_read_machine.Reading as reading
use Rattle.xml_call.specs.of_list_text.Listing as listing
use Rattle.xml_call.specs.of_public_claims.PublicListing.{public_listing, refused_text}
use Rattle.xml_call.specs.of_xml_chars.Chars.{crosses, lower}
use Rattle.xml_call.specs.of_xml_chars.Bytes.{fits}
use Rattle.xml_call.specs.of_xml_machine.Machine.{begun, char, follow, in_text, in_section, in_ref, in_target, in_misc, in_heading, in_decl, behind, in_tag, in_lt, step}
use Rattle.xml_call.specs.of_xml_machine.Tokens.{keep, records, laid_out, resulting, room_of, tokens}
use Rattle.xml_call.specs.of_xml_listing.XmlListing.{Lent, xml_listing, xml_areas}

-- two records, two bytes of text, none of scratch, and a listing of 64 bytes
abbrev small : Lent
small = record { records = 64; text = 2; scratch = 0; out = 64 }

-- the name is a value of the document, and the suite follows it; more attributes than events
document-listed :
    (xml_listing (bytes "<testsuites name='r'><testsuite name='s'/></testsuites>") 20 10 small ≡ bytes "(report \"r\" 0 0 0 0 -\n(suite \"s\" 0 0 0 0 -))\n") ×
    (xml_listing (bytes "<testsuites a='' b='' c='' name='r'></testsuites>") 15 20 small ≡ bytes "(report \"r\" 0 0 0 0 -)\n")
unfolding begun char follow in_text in_section in_ref in_target in_misc in_heading in_decl behind in_tag in_lt step crosses lower fits keep records laid_out resulting room_of tokens
    utf8.need utf8.low utf8.high code_from same_bytes keys tags digits.digit digits.places digits.decimal letter listed
    table.good_attribute table.good_shape table.bad_from table.check_event table.check_from table.good_sizes table.check_of
    event.attributes_from event.event_of event.event_at event.resolve_from event.resolve tallied ruled
    layout.good_text layout.good_record layout.may_end layout.may_follow layout.following layout.good_order layout.records_from
    layout.records_of layout.layout layout.good report_of
    role.role_in role.report_role role.suite_role role.role_of marked
    outcome.◌>>=◌ outcome.there outcome.need outcome.fits
    attributes.read_text attributes.by_role attributes.read_attributes attributes.complete attributes.read_element
    rules.at_top rules.plan_at rules.plan_eof control.gathers control.turn marks_after content.adding content.perform
    machine.act machine.step machine.run reading.read_as reading.reading
    listing.suite_text listing.header listing.render_public listing.render listing.listing_of listing.listing_answer
    listing.output_of public_listing xml_listing
document-listed = (refl, refl)

-- no document: its root isn't closed
refused-listing : xml_listing (bytes "<testsuites name='r'>") 20 10 small ≡ refused_text
unfolding begun char follow in_text in_section in_ref in_target in_misc in_heading in_decl behind in_tag in_lt step crosses lower fits keep records laid_out resulting room_of tokens xml_listing
refused-listing = refl

-- both tables and the three areas of reading are zero, whatever the document
areas-zero : xml_areas 5 10 small ≡ record { events = replicate 5 0; attributes = replicate 10 0; words = replicate 64 0; text = replicate 2 0; scratch = [] }
areas-zero = refl
