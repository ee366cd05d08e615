-- Six elements are reached, and refusals of builders computed. Assumes nothing.
use mathlib.Core.Path.{◌≡◌, refl}
use mathlib.Core.List.{List, [], ◌∷◌}
use mathlib.Core.Bool.{true}
use Rattle.explain_text.specs.of_names.Bytes.{bytes}
use Rattle.explain_text.specs.of_names.Names.{code_from, same_bytes}
use Rattle.explain_text.specs.of_names.Keys.{keys}
use Rattle.explain_text.specs.of_names.Tags.{tags}
use Rattle.explain_text.specs.of_utf8.Utf8 as utf8
use Rattle.explain_text.specs.of_refusal.Refusal.{nowhere, Outcome, refused, late}
use Rattle.explain_text.specs.of_refusal.declared.Cause.TheVariants as cause
use Rattle.tree_merge.specs.of_tree_counts.declared.Counts.{Counts}
use Rattle.tree_merge.specs.of_tree_counts.declared.Outcome.TheVariants.{Success, Skipped}
use Rattle.tree_merge.specs.of_tree_counts.Counts.{with_case}
use Rattle.explain_text.specs.of_table.Event.{Attribute, Start, Empty, Event, Tag}
use Rattle.xml_listing.specs.of_read_keys.Roles as role
use Rattle.explain_text.specs.of_tree_record.Record.{marked}
use Rattle.xml_listing.specs.of_read_element.Outcome as outcome
use Rattle.xml_listing.specs.of_read_element.Attributes as attributes
use Rattle.xml_listing.specs.of_read_state.Control as control
use Rattle.xml_listing.specs.of_read_rules.Rules as rules
use Rattle.xml_listing.specs.of_read_place.Marks.{marks_after}
use Rattle.xml_listing.specs.of_read_content.Content as content
use Rattle.xml_listing.specs.of_read_machine.Machine as machine
use Rattle.port_values.specs.of_build_draft.Draft as draft
use Rattle.port_values.specs.of_build_draft.Draft.{◌>>=◌}
use Rattle.port_values.specs.of_build_draft.Parts as part
use Rattle.port_values.specs.of_build_draft.Calls as call
use Rattle.port_values.specs.Codes.{coded}
use Rattle.port_values.specs.Codes as code
use Rattle.call_claims.specs.Demand1.{coded_case}

abbrev named : List Attribute
named = record { good = true; key = bytes "name"; value = [] } ∷ []

-- a property of a case without a name: `testsuites/testsuite[0]/testcase[0]/properties/property[0]/@name`
abbrev nameless : List Event
nameless =
    Tag Start (bytes "testsuites") 0 []
    ∷ Tag Start (bytes "testsuite") 0 named
    ∷ Tag Start (bytes "testcase") 1 named
    ∷ Tag Start (bytes "properties") 2 []
    ∷ Tag Empty (bytes "property") 2 []
    ∷ []

six : machine.run outcome.unlimited nameless machine.begin
    ≡ refused (record {
      cause = cause.MissingAttribute;
      path =
          outcome.element 1 nowhere nowhere
          ∷ outcome.element 2 0 1
          ∷ outcome.element 3 0 2
          ∷ outcome.element 4 nowhere nowhere
          ∷ outcome.element 5 0 nowhere
          ∷ outcome.attribute_element 1
          ∷ [];
      event = 4;
      attribute = nowhere;
    })
unfolding code_from same_bytes keys tags outcome.◌>>=◌ outcome.there outcome.need outcome.fits
    role.role_in role.suite_role role.case_role role.role_of marked attributes.read_text attributes.by_role attributes.read_attributes attributes.complete attributes.read_element
    control.turn rules.at_top rules.at_suite rules.at_case rules.in_list_of rules.plan_at marks_after
    content.adding content.perform machine.act machine.step machine.run
six = refl

-- ---- a new report: no record (12), a name that isn't UTF-8 (2), one that doesn't fit (13)
no_record : call.unnamed_report 31 0 ≡ refused (late cause.RecordsSpent)
unfolding call.unnamed_report part.taking draft.asks draft.◌>>=◌
no_record = refl

no_text : call.new_report (0xFF ∷ []) 32 1 ≡ refused (late cause.NotUtf8)
unfolding call.new_report call.unnamed_report part.taking part.naming part.putting part.keeping draft.is_record draft.asks draft.◌>>=◌ utf8.need
no_text = refl

no_room : call.new_report (bytes "ab") 32 1 ≡ refused (late cause.TextFull)
unfolding call.new_report call.unnamed_report part.taking part.naming part.putting part.keeping draft.is_record draft.asks draft.◌>>=◌ utf8.need
no_room = refl

-- a case where no suite is open (15)
no-suite : (call.unnamed_report 32 0 >>= call.add_test_case (bytes "a") Success) ≡ refused (late cause.NotLayout)
unfolding call.unnamed_report call.add_test_case call.open_case part.taking draft.is_record draft.is_of draft.asks draft.◌>>=◌
no-suite = refl

-- ---- codes from C: the last outcome, and the numbers behind each list (15)
last-outcome : (c : Counts) → coded_case c 3 ≡ with_case c Skipped
last-outcome c = refl

no-outcome : (c : Counts) → coded_case c 4 ≡ refused (late cause.NotLayout)
no-outcome c = refl

no-codes : (o : Outcome draft.Draft)
    → (coded code.elements 5 o ≡ refused (late cause.NotLayout)) × (coded code.holders 2 o ≡ refused (late cause.NotLayout))
    × (coded code.fields 8 o ≡ refused (late cause.NotLayout)) × (coded code.numbers 2 o ≡ refused (late cause.NotLayout))
    × (coded code.kinds 2 o ≡ refused (late cause.NotLayout)) × (coded code.families 2 o ≡ refused (late cause.NotLayout))
no-codes o = (refl, refl, refl, refl, refl, refl)
